-- One more variable: what the code tests is what is asked of the line, there is room for it where its kind is there, and what the arrays hold with it.
use Rattle.std.specs.Prelude.{ℕ, zero, suc, ◌+◌, ◌-◌, ◌*◌, ◌≤◌, ◌<◌, min, ◌≡◌, refl, Bool, true, false, not, ◌&&◌, ◌||◌, List, [], ◌∷◌, ◌++◌, eqb, ltb, length, take, get_or, Option, None, Some}
use Rattle.std.proofs.Common.{ap, sym, ◌∙◌, add-one, arith, eqb-true, eq-eqb, ne_eqb, ltb-true, length-append}
use Rattle.std.proofs.Math.ListN.{get_or-append}
use Rattle.std.proofs.Math.Seq.{take-append_seam, get_or-append_seam}
use Rattle.std.proofs.lemmas.List.{take-append-le}
use Rattle.lists.specs.Lists.{All, There, there, keep, at}
use Rattle.lists.specs.Facts.{All-append, All-at}
use Rattle.lists.specs.Keep.{keep_snoc, keep_length}
use Rattle.lists.specs.Tells.{denied, there_is}
use Rattle.values.specs.declared.Ty.TheVariants.{Bool as bool}
use Rattle.programs.specs.Sizes.{TEXT, KINDS, VARIABLES}
use Rattle.programs.specs.Program.{Program, Variable, is_of}
use Rattle.texts.specs.Reading.{room}
use Rattle.tables.specs.Decode.{no_variable}
use Rattle.tabled.specs.Tabled.{word_of, ty_code}
use Rattle.numerals.specs.Numerals.{CAP, equal_cut}
use Rattle.putting.specs.Asked.{VariableTables}
use Rattle.putting.specs.Words.{word_kept}
use Rattle.standing.specs.Alike.{cut_there}
use Rattle.standing.specs.Absent.{few_variables}
use Rattle.taking.specs.Variables.{FirstAbsent, VariablesHeld}
use Rattle.taking.specs.Entered.{Countable, Counted, EnterAsked, Entered}

-- THE CUT NUMBERS
-- the cut of a number, by what it is
pub cut_of : {k j x : ℕ} → j ≡ k → x ≡ min j CAP → x ≡ min k CAP
cut_of e c = rw (← e) c

-- ONE MORE IN A COUNT
-- a kind that is there and has room has no more than it may with one more
few_snoc : (ms : ℕ) (vs : List Variable) (v : Variable) → ((k : ℕ) → There ms k → length (keep (is_of k) vs) ≤ VARIABLES)
    → (There ms v.of → length (keep (is_of v.of) vs) < VARIABLES) → (k : ℕ) → There ms k → length (keep (is_of k) (vs ++ v ∷ [])) ≤ VARIABLES
few_snoc ms vs v few space k b = go (eqb v.of k) refl
  where
    go : (t : Bool) → eqb v.of k ≡ t → length (keep (is_of k) (vs ++ v ∷ [])) ≤ VARIABLES
    go true e =
        let q = eqb-true v.of k e in
        let l : length (keep (is_of k) vs) < VARIABLES = rw q at (space (rw q b)) in
        omega (arith, (rw e at (keep_snoc (is_of k) vs v)))
    go false e = omega (arith, (rw e at (keep_snoc (is_of k) vs v)), few k b)

-- A PROGRAM of these kinds and variables
abbrev of_these : ℕ → List Variable → Program
of_these ms vs = record { events = []; machines = ms; variables = vs; exprs = []; stmts = []; actions = []; states = []; steps = []; calls = []; acts = []; start = 0 }

module _ {vs : List Variable} {ms : ℕ} {owners holds rooms : List ℕ} {n : ℕ} {absent : Option ℕ} (h : VariablesHeld vs ms owners holds rooms n absent) where
  -- ITS OWN NUMBER i, which the code has as x
  -- another is out of sequence,
  pub number_other : n < TEXT → {i j x : ℕ} → j ≡ i → x ≡ min j CAP → (x ≡ n + 1 → ⊥) → (b : Bool) → eqb i (length vs + 1) && b ≡ false
  number_other l {i} a c other b = rw (ne_eqb i (length vs + 1) (λ q. other (omega (arith, h.count))))

  -- and the next one in sequence.
  pub number_next : n < TEXT → {i j x : ℕ} → j ≡ i → x ≡ min j CAP → x ≡ n + 1 → eqb i (length vs + 1) ≡ true
  number_next l {i} a c e = eq-eqb i (length vs + 1) (omega (arith, h.count))

  -- ITS KIND k, which the code has as x
  module _ (m : ms ≤ KINDS) where
    -- what the code tests is what is asked of the line
    pub room_told : {k j x : ℕ} {r : Bool} → j ≡ k → x ≡ min j CAP → r ≡ not (there ms x) || ltb (get_or rooms x 0) VARIABLES → r ≡ room ms k vs
    room_told {k} a c e = e ∙ rw (c, a) (go (there ms k) refl)
      where
        go : (t : Bool) → there ms k ≡ t → not (there ms (min k CAP)) || ltb (get_or rooms (min k CAP) 0) VARIABLES ≡ room ms k vs
        go true q = let b = (there_is ms k).holds q in let e : min k CAP ≡ k = omega (arith, b.1) in rw (e, h.counts k (omega (arith, b.1)))
        go false q = rw (cut_there ms CAP k (omega arith), q)

    -- where every kind is there and one more of kind k has room, the tables have
    space : absent ≡ None → (k : ℕ) → There ms k → length (keep (is_of k) vs) < VARIABLES → length vs < KINDS * VARIABLES
    space z k b l =
        let v : Variable = record { of = k; type = bool } in
        omega (arith, length-append vs (v ∷ []), few_variables (of_these ms (vs ++ v ∷ [])) m (few_snoc ms vs v h.few (λ t. l)) (All-append (λ w. There ms w.of) vs (v ∷ []) (h.there z) (b, tt)))

    -- room for it
    pub enter_room : (x : ℕ) → not (there ms x) || ltb (get_or rooms x 0) VARIABLES ≡ true → EnterAsked ms x owners holds absent
    enter_room x e z t = record {
      rows = vs;
      held = h.tables z;
      room = (let b = (there_is ms x).holds t in space z x b (ltb-true (length (keep (is_of x) vs)) VARIABLES (ap (λ (k : ℕ). ltb k VARIABLES) (sym (h.counts x (omega (arith, b.1)))) ∙ (rw t at e))));
    }

  -- THE COUNTS can be raised
  pub countable : n < TEXT → Countable rooms
  countable l = record { size = h.size; low = λ j b. omega (arith, h.counts j b, h.count, keep_length (is_of j) vs) }

-- WITH ONE MORE
-- a fact of every element is one of number j
pub every_at : {A : Type 0} (P : A → Type 0) (d : A) (l : List A) (j : ℕ) → 1 ≤ j → j ≤ length l → All P l → P (at d l j)
every_at P d l zero a b h = absurd (omega arith)
every_at P d l (suc i) a b h = All-at P d l i (omega arith) h

-- number j is the same with one more behind it
at_snoc : (vs : List Variable) (v : Variable) (j : ℕ) → j ≤ length vs → at no_variable (vs ++ v ∷ []) j ≡ at no_variable vs j
at_snoc vs v j h = get_or-append (no_variable ∷ vs) (v ∷ []) no_variable j (omega arith)

-- and the last one is the one more
at_last : (vs : List Variable) (v : Variable) → at no_variable (vs ++ v ∷ []) (length vs + 1) ≡ v
at_last vs v = rw add-one (get_or-append_seam (no_variable ∷ vs) v [] no_variable)

module _ {vs : List Variable} {ms : ℕ} {owners holds rooms : List ℕ} {n : ℕ} {absent : Option ℕ} (h : VariablesHeld vs ms owners holds rooms n absent) (m : ms ≤ KINDS) (v : Variable)
    {x t : ℕ} {owners' holds' rooms' : List ℕ} {absent' : Option ℕ} (cut : x ≡ min v.of CAP) (type : ty_code v.type ≡ t) (spare : room ms v.of vs ≡ true)
    (entered : Entered ms x t (n + 1) owners holds absent owners' holds' absent')
    (counted : Counted x rooms rooms') where
  -- its kind has room, if it is there
  roomy : There ms v.of → length (keep (is_of v.of) vs) < VARIABLES
  roomy b = ltb-true (length (keep (is_of v.of) vs)) VARIABLES (rw ((there_is ms v.of).test b) at spare)

  -- what the code finds of its kind
  found : there ms x ≡ there ms v.of
  found = rw cut (cut_there ms CAP v.of (omega arith))

  -- the counts
  counts_more : (j : ℕ) → j ≤ KINDS → get_or rooms' j 0 ≡ length (keep (is_of j) (vs ++ v ∷ []))
  counts_more j l =
      let e : eqb x j ≡ eqb v.of j = rw cut (sym (equal_cut v.of CAP j (omega arith))) in
      counted.each j l ∙ rw (h.counts j l, e) (sym (keep_snoc (is_of j) vs v))

  -- what has come of it
  data Come : Type 0 where
    behind : (j : ℕ) → absent ≡ Some j → absent' ≡ absent → (owners' ≡ owners) × (holds' ≡ holds) → Come
    noted : absent ≡ None → (There ms v.of → ⊥) → absent' ≡ Some (n + 1) → (owners' ≡ owners) × (holds' ≡ holds) → Come
    put : absent ≡ None → There ms v.of → absent' ≡ None → VariableTables (vs ++ v ∷ []) owners' holds' → Come

  come : Come
  come = first absent refl
    where
      go : absent ≡ None → (b : Bool) → there ms v.of ≡ b → Come
      go z true e =
          let b = (there_is ms v.of).holds e in
          let p = entered.put z (found ∙ e) in
          put z b p.0 (p.1 (record { rows = vs; held = h.tables z; room = space h m z v.of b (roomy b) }) v (sym (ap word_of cut ∙ word_kept v.of)) type)
      go z false e = let p = entered.noted z (found ∙ e) in noted z (denied (there_is ms v.of) e) p.0 p.1

      first : (a : Option ℕ) → absent ≡ a → Come
      first None z = go z (there ms v.of) refl
      first (Some j) z = let p = entered.behind j z in behind j z p.0 p.1

  -- the tables
  tables_more : Come → absent' ≡ None → VariableTables (vs ++ v ∷ []) owners' holds'
  tables_more (behind j z e k) q = absurd (cc)
  tables_more (noted z b e k) q = absurd (cc)
  tables_more (put z b e w) q = w

  -- the kinds that are there
  there_more : Come → absent' ≡ None → All (λ w. There ms w.of) (vs ++ v ∷ [])
  there_more (behind j z e k) q = absurd (cc)
  there_more (noted z b e k) q = absurd (cc)
  there_more (put z b e w) q = All-append (λ u. There ms u.of) vs (v ∷ []) (h.there z) (b, tt)

  -- the first whose kind is not
  first_more : Come → (i : ℕ) → absent' ≡ Some i → FirstAbsent (vs ++ v ∷ []) ms i
  first_more (behind j z e k) i q =
      let f = h.first i (sym e ∙ q) in
      record {
        here = (f.here.0, omega (arith, f.here.1, length-append vs (v ∷ [])));
        lower = λ j a b. rw (at_snoc vs v j (omega (arith, f.here.1))) (f.lower j a b);
        absent = rw (at_snoc vs v i f.here.1) f.absent;
      }
  first_more (noted z b e k) i q =
      let y : i ≡ n + 1 = cc in
      let x : i ≡ length vs + 1 = omega (arith, h.count) in
      rw x (record {
        here = (omega arith, omega (arith, length-append vs (v ∷ [])));
        lower = λ j a c. rw (at_snoc vs v j (omega arith)) (every_at (λ w. There ms w.of) no_variable vs j a (omega arith) (h.there z));
        absent = rw (at_last vs v) b;
      })
  first_more (put z b e w) i q = absurd (cc)

  -- the tables in front of it
  front_more : Come → (i : ℕ) → absent' ≡ Some i → VariableTables (take (i - 1) (vs ++ v ∷ [])) owners' holds'
  front_more (behind j z e k) i q =
      let a : absent ≡ Some i = sym e ∙ q in
      rw (k.0, k.1, take-append-le (i - 1) vs (v ∷ []) (omega (arith, (h.first i a).here.1))) (h.front i a)
  front_more (noted z b e k) i q =
      let y : i ≡ n + 1 = cc in
      let x : i - 1 ≡ length vs = omega (arith, h.count) in
      rw (x, k.0, k.1, take-append_seam vs (v ∷ [])) (h.tables z)
  front_more (put z b e w) i q = absurd (cc)

  -- all of it
  pub held_more : VariablesHeld (vs ++ v ∷ []) ms owners' holds' rooms' (n + 1) absent'
  held_more = record {
    count = omega (arith, h.count, length-append vs (v ∷ []));
    size = counted.size;
    counts = counts_more;
    few = few_snoc ms vs v h.few roomy;
    tables = tables_more come;
    there = there_more come;
    first = first_more come;
    front = front_more come;
  }
