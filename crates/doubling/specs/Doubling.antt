-- A table of marks, one for each number, set while numbers are named: a mark is set exactly where its number was named before. And what is known where some
-- numbers are named one after the other: whether one was named again, and the marks with theirs.
use Rattle.std.specs.Prelude.{ℕ, suc, ◌+◌, ◌<◌, ◌≡◌, refl, Bool, true, false, not, ◌&&◌, ◌||◌, List, [], ◌∷◌, ◌++◌, eqb, length, get_or, set, take}
use Rattle.std.proofs.Common.{ap, sym, ◌∙◌, append_assoc, append-nil, arith, eq-eqb, ne_eqb, length-set, take-suc, get_or-set_same, get_or-set_other}
use Rattle.std.proofs.Math.Bool.{or-false, or_assoc, not-not}
use Rattle.std.proofs.Math.Logic.{dite}
use Rattle.std.proofs.Math.Decide.{ℕ_discrete}
use Rattle.lists.specs.Lists.{any}
use Rattle.lists.specs.Facts.{or_right, any_append}
use Rattle.programs.specs.Program.{Program}
use Rattle.soundness.specs.Asked.{again}

-- TESTS OF ONE OR ANOTHER
-- the first two in the other order
or_swap : (a b c : Bool) → a || (b || c) ≡ b || (a || c)
or_swap true true c = refl
or_swap true false c = refl
or_swap false b c = refl

-- THE MARKS
-- the marks are those of the numbers named
pub record Seen (seen named : List ℕ) : Type 0 where
  pub size : length seen ≡ 65536
  pub mark : (x : ℕ) → x < 65536 → eqb (get_or seen x 0) 0 ≡ not (any (eqb x) named)

-- no marks
pub seen_none : (seen : List ℕ) → length seen ≡ 65536 → ((k : ℕ) → get_or seen k 0 ≡ 0) → Seen seen []
seen_none seen n z = record { size = n; mark = λ x h. eq-eqb _ 0 (z x) }

-- one more
module _ (seen named : List ℕ) (x : ℕ) (h : x < 65536) (s : Seen seen named) where
  -- each mark, with it
  more : (y : ℕ) → y < 65536 → eqb (get_or (set seen x 1) y 0) 0 ≡ not (any (eqb y) (named ++ x ∷ []))
  more y k = dite (ℕ_discrete y x)
      (λ e. rw (e, get_or-set_same seen x 1 0 (omega (arith, s.size)), any_append (eqb x) named (x ∷ []), eq-eqb x x refl, or_right (any (eqb x) named) true refl))
      (λ e. rw (get_or-set_other seen x y 1 0 e, any_append (eqb y) named (x ∷ []), ne_eqb y x e, or-false (any (eqb y) named)) (s.mark y k))

  -- the marks with it
  pub seen_more : Seen (set seen x 1) (named ++ x ∷ [])
  seen_more = record { size = length-set seen x 1 ∙ s.size; mark = more }

-- NAMED AGAIN
module _ (p : Program) where
  -- what was named counts, not its order
  again_ext : (l e f : List ℕ) → ((x : ℕ) → any (eqb x) e ≡ any (eqb x) f) → again p e l ≡ again p f l
  again_ext [] e f h = refl
  again_ext (x ∷ l) e f h = rw (h x, again_ext l (x ∷ e) (x ∷ f) (λ y. rw (h y)))

  -- of two lists
  again_append : (e l m : List ℕ) → again p e (l ++ m) ≡ again p e l || again p (e ++ l) m
  again_append e [] m = rw (append-nil e)
  again_append e (x ∷ l) m =
      ap (λ (b : Bool). (not (eqb x 0) && any (eqb x) e) || b) (again_append (x ∷ e) l m)
      ∙ sym (or_assoc (not (eqb x 0) && any (eqb x) e) (again p (x ∷ e) l) (again p (x ∷ e ++ l) m))
      ∙ ap (λ (b : Bool). ((not (eqb x 0) && any (eqb x) e) || again p (x ∷ e) l) || b) (again_ext m (x ∷ e ++ l) (e ++ x ∷ l) (λ y. moved y))
    where
      moved : (y : ℕ) → any (eqb y) (x ∷ e ++ l) ≡ any (eqb y) (e ++ x ∷ l)
      moved y = rw (any_append (eqb y) e l, any_append (eqb y) e (x ∷ l)) (or_swap (eqb y x) (any (eqb y) e) (any (eqb y) l))

-- the marks with those of these numbers set
abbrev pub stamped : List ℕ → List ℕ → List ℕ
stamped [] seen = seen
stamped (x ∷ names) seen = stamped names (set seen x 1)

-- of two lists
stamped_append : (l m seen : List ℕ) → stamped (l ++ m) seen ≡ stamped m (stamped l seen)
stamped_append [] m seen = refl
stamped_append (x ∷ l) m seen = stamped_append l m (set seen x 1)

-- these numbers were named one after the other: r says whether one of them was named before, and their marks are set
pub record Named (seen names : List ℕ) (r : Bool) (after : List ℕ) : Type 0 where
  pub tells : (p : Program) (e : List ℕ) → Seen seen e → r ≡ again p e names
  pub keeps : (e : List ℕ) → Seen seen e → Seen after (e ++ names)
  pub marks : after ≡ stamped names seen

-- none
pub named_none : (seen : List ℕ) → Named seen [] false seen
named_none seen = record { tells = λ p e s. refl; keeps = λ e s. rw (append-nil e) s; marks = refl }

-- one
pub named_one : (seen : List ℕ) (x : ℕ) {r : Bool} → x < 65536 → r ≡ not (eqb x 0) && not (eqb (get_or seen x 0) 0) → Named seen (x ∷ []) r (set seen x 1)
named_one seen x h q = record {
  tells = λ p e s. q ∙ rw (s.mark x h, not-not (any (eqb x) e), or-false (not (eqb x 0) && any (eqb x) e));
  keeps = λ e s. seen_more seen e x h s;
  marks = refl;
}

-- some, then others
pub named_both : {seen l : List ℕ} {a : Bool} {then m : List ℕ} {b : Bool} {after : List ℕ} → Named seen l a then → Named then m b after → Named seen (l ++ m) (a || b) after
named_both {seen} {l} {a} {then} {m} {b} {after} f g = record {
  tells = λ p e s. rw (f.tells p e s, g.tells p (e ++ l) (f.keeps e s)) (sym (again_append p e l m));
  keeps = λ e s. rw (append_assoc e l m) at (g.keeps (e ++ l) (f.keeps e s));
  marks = g.marks ∙ ap (stamped m) f.marks ∙ sym (stamped_append l m seen);
}

-- the first j of a list, and the next
pub named_next : (l : List ℕ) (j x : ℕ) {seen : List ℕ} {a : Bool} {then : List ℕ} {b : Bool} {after : List ℕ} → j < length l → get_or l j 0 ≡ x
    → Named seen (take j l) a then → Named then (x ∷ []) b after → Named seen (take (j + 1) l) (a || b) after
named_next l j x {seen} {a} {then} {b} {after} h q f g =
    let one : j + 1 ≡ suc j = omega arith in
    rw (one, take-suc l j 0 h, q) (named_both f g)
