-- The rows of the table: the one of a machine, the one of the least number, and what is known when a row is taken away.
use Rattle.std.specs.Prelude.{ℕ, ◌+◌, ◌-◌, ◌≤◌, ◌<◌, ◌≡◌, refl, ◌≢◌, ◌⊎◌, Bool, true, false, List, [], eqb, get_or, set, Option, Some, None, is_some}
use Rattle.std.proofs.Common.{true≢false, sym, ap, ◌∙◌, inl, inr, arith, below_more, eqb-true, length-set, get_or-set_same, get_or-set_other}
use Rattle.std.proofs.lemmas.Bool.{eqb-false}
use Rattle.regrouping.specs.Regrouped.{mine, others}
use Rattle.placing.specs.Placed.{owner}
use Rattle.regrouping.specs.Mine.{mine_others, mine_gone}
use Rattle.placing.specs.Written.{of_machine, part_none}
use Rattle.placing.specs.Waiting.{Waiting}

-- the row of machine k, or `used` where it has none
pub record Found (who : List ℕ) (used k s : ℕ) : Type 0 where
  pub within : s ≤ used
  pub others_before : (t : ℕ) → t < s → get_or who t 0 ≢ k
  pub here : s < used → get_or who s 0 ≡ k

-- what is found of it: its row, or none
abbrev pub FoundRow : List ℕ → ℕ → ℕ → Option ℕ → Type 0
FoundRow who used k (Some s) = (s < used) × Found who used k s
FoundRow who used k None = Found who used k used

-- none is found: no row is the machine's
pub none_found : (who : List ℕ) (used k : ℕ) (o : Option ℕ) → is_some o ≡ false → FoundRow who used k o → (s : ℕ) → s < used → get_or who s 0 ≢ k
none_found who used k None e f = f.others_before
none_found who used k (Some x) e f = absurd (true≢false e)

-- one is found: it is the machine's
pub some_found : (who : List ℕ) (used k : ℕ) (o : Option ℕ) → is_some o ≡ true → FoundRow who used k o → (s : ℕ) × ((s < used) × (get_or who s 0 ≡ k))
some_found who used k None e f = absurd (true≢false (sym e))
some_found who used k (Some x) e f = (x, (f.0, f.1.here f.0))

-- the row of the machine with the least number
pub record Lowest (who : List ℕ) (used s : ℕ) : Type 0 where
  pub within : s < used
  pub lowest : (t : ℕ) → t < used → get_or who s 0 ≤ get_or who t 0

-- of one row it is the first
pub lowest_first : (who : List ℕ) → Lowest who 1 0
lowest_first who = record { within = omega arith; lowest = λ t l. let e : t ≡ 0 = omega arith in rw e (omega arith) }

-- one row more
module _ {who : List ℕ} {n s : ℕ} (l : Lowest who n s) where
  -- whose number is lower
  pub lowest_new : get_or who n 0 < get_or who s 0 → Lowest who (n + 1) n
  lowest_new h = record { within = omega arith; lowest = below_more _ n (λ t m. omega (arith, l.lowest t m)) (omega arith) }

  -- whose number is not
  pub lowest_old : get_or who s 0 ≤ get_or who n 0 → Lowest who (n + 1) s
  lowest_old h = record { within = omega (arith, l.within); lowest = below_more _ n l.lowest h }

-- machines with lower numbers have nothing to place
pub none_lower : {cs : List ℕ} {i : ℕ} {u who since : List ℕ} {used s : ℕ} → Waiting cs i u who since used → Lowest who used s → (j : ℕ) → j < get_or who s 0 → mine owner j u ≡ []
none_lower w l j h = w.absent j (λ t m e. omega (arith, l.lowest t m))

-- a row taken away: the last one is moved into its place
abbrev pub closed : List ℕ → ℕ → ℕ → List ℕ
closed l used s = set l s (get_or l (used - 1) 0)

-- What is known when machine k's row is taken away, where u was not yet placed: r is the place of the machine's first choice not yet placed, or i.
pub record Without (cs : List ℕ) (i : ℕ) (u : List ℕ) (k : ℕ) (who since : List ℕ) (used r : ℕ) : Type 0 where
  pub rest : Waiting cs i (others owner k u) who since used
  pub gone : (s : ℕ) → s < used → get_or who s 0 ≢ k
  pub begun : r ≤ i
  pub own : mine owner k u ≡ of_machine cs k r i

-- the same of the same machine
pub same_machine : {cs : List ℕ} {i : ℕ} {u : List ℕ} {j k : ℕ} {who since : List ℕ} {used r : ℕ} → j ≡ k → Without cs i u j who since used r → Without cs i u k who since used r
same_machine e t = rw e at t

-- A machine that has no row has nothing to place.
pub without_none : {cs : List ℕ} {i : ℕ} {u who since : List ℕ} {used : ℕ} (k : ℕ) → Waiting cs i u who since used → ((s : ℕ) → s < used → get_or who s 0 ≢ k) → Without cs i u k who since used i
without_none {cs = cs} {i = i} {u = u} {who = who} {since = since} {used = used} k w gone = record {
  rest = record {
    size = w.size;
    size' = w.size';
    few = w.few;
    early = w.early;
    single = w.single;
    known = λ s l. mine_others owner (get_or who s 0) k u (gone s l) ∙ w.known s l;
    absent = λ j h. go j h (eqb j k) refl;
  };
  gone = gone;
  begun = omega arith;
  own = w.absent k gone ∙ sym (part_none cs k i);
}
  where
    go : (j : ℕ) → ((s : ℕ) → s < used → get_or who s 0 ≢ j) → (b : Bool) → eqb j k ≡ b → mine owner j (others owner k u) ≡ []
    go j h true e = rw (eqb-true j k e) (mine_gone owner k u)
    go j h false e = mine_others owner j k u (eqb-false j k e) ∙ w.absent j h

-- of a machine that has row s
module _ {cs : List ℕ} {i : ℕ} {u who since : List ℕ} {used : ℕ} (s : ℕ) (w : Waiting cs i u who since used) (l : s < used) (fits : used ≤ 4096) where
  -- row t of the smaller table is row r of the greater one
  record Was (t r : ℕ) : Type 0 where
    low : t < used - 1
    below : r < used
    apart : r ≢ s
    which : ((t ≡ s) × (r ≡ used - 1)) ⊎ (r ≡ t)
    name : get_or (closed who used s) t 0 ≡ get_or who r 0
    place : get_or (closed since used s) t 0 ≡ get_or since r 0

  -- so it is of some row
  was : (t : ℕ) → t < used - 1 → (r : ℕ) × Was t r
  was t m = go (eqb t s) refl
    where
      go : (b : Bool) → eqb t s ≡ b → (r : ℕ) × Was t r
      go true e = let is = eqb-true t s e in (
        used - 1,
        record {
          low = m;
          below = omega arith;
          apart = λ q. omega (arith, q, is);
          which = inl (is, refl);
          name = rw is (get_or-set_same who s (get_or who (used - 1) 0) 0 (omega (arith, w.size)));
          place = rw is (get_or-set_same since s (get_or since (used - 1) 0) 0 (omega (arith, w.size')));
        },
      )
      go false e = let d = eqb-false t s e in (
        t,
        record {
          low = m;
          below = omega arith;
          apart = d;
          which = inr refl;
          name = get_or-set_other who s t (get_or who (used - 1) 0) 0 d;
          place = get_or-set_other since s t (get_or since (used - 1) 0) 0 d;
        },
      )

  -- two rows that were the same are the same
  same_row : (t t' r r' : ℕ) → r ≡ r' → Was t r → Was t' r' → t ≡ t'
  same_row t t' r r' e a b = go a.which b.which
    where
      go : ((t ≡ s) × (r ≡ used - 1)) ⊎ (r ≡ t) → ((t' ≡ s) × (r' ≡ used - 1)) ⊎ (r' ≡ t') → t ≡ t'
      go (inl p) (inl q) = p.0 ∙ sym q.0
      go (inl p) (inr q) = absurd (omega (arith, p.1, q, e, b.low))
      go (inr p) (inl q) = absurd (omega (arith, q.1, p, e, a.low))
      go (inr p) (inr q) = sym p ∙ e ∙ q

  -- a row that is not s still stands in the table
  still : (r : ℕ) → r < used → r ≢ s → (t : ℕ) × ((t < used - 1) × (get_or (closed who used s) t 0 ≡ get_or who r 0))
  still r m d = go (eqb r (used - 1)) refl
    where
      go : (b : Bool) → eqb r (used - 1) ≡ b → (t : ℕ) × ((t < used - 1) × (get_or (closed who used s) t 0 ≡ get_or who r 0))
      go true e = let is = eqb-true r (used - 1) e in (s, (omega (arith, is, d), rw is (get_or-set_same who s (get_or who (used - 1) 0) 0 (omega (arith, w.size)))))
      go false e = (r, (omega (arith, eqb-false r (used - 1) e), get_or-set_other who s r (get_or who (used - 1) 0) 0 d))

  -- Without row s the table holds the other machines.
  pub without_row : Without cs i u (get_or who s 0) (closed who used s) (closed since used s) (used - 1) (get_or since s 0)
  without_row = record {
    rest = record {
      size = length-set who s (get_or who (used - 1) 0) ∙ w.size;
      size' = length-set since s (get_or since (used - 1) 0) ∙ w.size';
      few = omega (arith, w.few);
      early = λ t m. let o = was t m in rw o.1.place (w.early o.0 o.1.below);
      single = λ t t' m m' e. single t t' m m' e (was t m) (was t' m');
      known = λ t m. known t (was t m);
      absent = λ j h. absent j h (eqb j (get_or who s 0)) refl;
    };
    gone = λ t m e. let o = was t m in o.1.apart (w.single o.0 s o.1.below l (sym o.1.name ∙ e));
    begun = w.early s l;
    own = w.known s l;
  }
    where
      single : (t t' : ℕ) → t < used - 1 → t' < used - 1 → get_or (closed who used s) t 0 ≡ get_or (closed who used s) t' 0 → (r : ℕ) × Was t r → (r : ℕ) × Was t' r → t ≡ t'
      single t t' m m' e (r, a) (r', b) = same_row t t' r r' (w.single r r' a.below b.below (sym a.name ∙ e ∙ b.name)) a b

      known : (t : ℕ) → (r : ℕ) × Was t r →
          mine owner (get_or (closed who used s) t 0) (others owner (get_or who s 0) u) ≡ of_machine cs (get_or (closed who used s) t 0) (get_or (closed since used s) t 0) i
      known t (r, a) = rw (a.name, a.place) (mine_others owner (get_or who r 0) (get_or who s 0) u (λ e. a.apart (w.single r s a.below l e)) ∙ w.known r a.below)

      absent : (j : ℕ) → ((t : ℕ) → t < used - 1 → get_or (closed who used s) t 0 ≢ j) → (b : Bool) → eqb j (get_or who s 0) ≡ b → mine owner j (others owner (get_or who s 0) u) ≡ []
      absent j h true e = rw (eqb-true j (get_or who s 0) e) (mine_gone owner (get_or who s 0) u)
      absent j h false e = let d = eqb-false j (get_or who s 0) e in mine_others owner j (get_or who s 0) u d ∙ w.absent j (λ r m q. row r m q (eqb r s) refl)
        where
          row : (r : ℕ) → r < used → get_or who r 0 ≡ j → (b : Bool) → eqb r s ≡ b → ⊥
          row r m q true f = eqb-false j (get_or who s 0) e (sym q ∙ ap (λ n. get_or who n 0) (eqb-true r s f))
          row r m q false f = let o = still r m (eqb-false r s f) in h o.0 o.1.0 (o.1.1 ∙ q)
