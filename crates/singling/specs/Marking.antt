-- A table of flags, one for each state and event, that says which of them have a move: the moves are marked one after the other.
use Rattle.std.specs.Prelude.{ℕ, ◌+◌, ◌*◌, ◌≤◌, ◌<◌, ◌≡◌, refl, Bool, true, false, cond, ◌&&◌, List, [], ◌∷◌, ◌++◌, eqb, leb, length, get_or, set}
use Rattle.std.proofs.Common.{sym, ◌∙◌, arith, le-leb, eq-eqb, ne_eqb, length-set, get_or-set_same, get_or-set_other}
use Rattle.std.proofs.Math.Logic.{dite}
use Rattle.std.proofs.Math.Decide.{ℕ_discrete}
use Rattle.std.proofs.lemmas.Bool.{lt-leb}
use Rattle.lists.specs.Lists.{any}
use Rattle.lists.specs.Facts.{and_both, any_last}
use Rattle.rows.specs.Part.{one_row}
use Rattle.programs.specs.Program.{Move}
use Rattle.soundness.specs.Asked.{alike}

-- the move's state and event have a flag
abbrev pub Low : Move → Type 0
Low t = (t.from ≤ 64) × (t.on ≤ 64)

-- its test
abbrev pub low : Move → Bool
low t = leb t.from 64 && leb t.on 64

-- where the flag stands
abbrev pub spot : Move → ℕ
spot t = t.from * 65 + t.on

-- the test of a move that has a flag
pub low_is : (t : Move) → Low t → low t ≡ true
low_is t h = and_both (leb t.from 64) (leb t.on 64) (le-leb t.from 64 h.0) (le-leb t.on 64 h.1)

-- a flag is 1 exactly where one of the moves is for its state and event
pub record Marked (l : List Move) (seen : List ℕ) : Type 0 where
  pub size : length seen ≡ 4225
  pub flags : (t : Move) → Low t → get_or seen (spot t) 0 ≡ cond (any (alike t) l) 1 0

-- none is marked
pub marked_none : (seen : List ℕ) → length seen ≡ 4225 → ((k : ℕ) → get_or seen k 0 ≡ 0) → Marked [] seen
marked_none seen e h = record { size = e; flags = λ t b. h (spot t) }

-- a flag is one state's and one event's
same_spot : (t u : Move) → t.on ≤ 64 → u.on ≤ 64 → spot t ≡ spot u → (t.from ≡ u.from) × (t.on ≡ u.on)
same_spot t u h k e = let p = one_row 65 t.from u.from t.on u.on (omega arith) (omega arith) e in (p, omega arith)

-- two moves whose flags stand apart are not for one state and event
spot_apart : (t u : Move) → (spot t ≡ spot u → ⊥) → alike t u ≡ false
spot_apart t u n = dite (ℕ_discrete t.from u.from)
    (λ p. rw (eq-eqb t.from u.from p) (ne_eqb t.on u.on (λ q. n (rw (p, q)))))
    (λ p. rw (ne_eqb t.from u.from p))

-- 1 where one of the moves l is for t's state and event, else 0; and 0 of a move that has no flag
abbrev pub again : List Move → Move → ℕ
again l t = cond (low t && any (alike t) l) 1 0

-- t marked behind the moves l: whether one of them is for its state and event, and the flags with it
pub record Marking (l : List Move) (t : Move) (r : ℕ) (seen : List ℕ) : Type 0 where
  pub was : r ≡ again l t
  pub marked : Marked (l ++ (t ∷ [])) seen

-- THE MOVE t MARKED
module _ (l : List Move) (seen : List ℕ) (t : Move) (m : Marked l seen) where
  -- the flags with one more
  with_flag : Low t → (u : Move) → Low u → get_or (set seen (spot t) 1) (spot u) 0 ≡ cond (any (alike u) (l ++ (t ∷ []))) 1 0
  with_flag h u b = dite (ℕ_discrete (spot u) (spot t))
      (λ q. let e = same_spot u t b.1 h.1 q in
      rw (any_last (alike u) l t, eq-eqb u.from t.from e.0, eq-eqb u.on t.on e.1, q) (get_or-set_same seen (spot t) 1 0 (omega (arith, m.size, h.0, h.1))))
      (λ q. rw (any_last (alike u) l t, spot_apart u t q, get_or-set_other seen (spot t) (spot u) 1 0 q) (m.flags u b))

  -- of a move that has a flag it is set,
  marked_low : Low t → Marked (l ++ (t ∷ [])) (set seen (spot t) 1)
  marked_low h = record { size = length-set seen (spot t) 1 ∙ m.size; flags = with_flag h }

  -- where it was not,
  pub marking_first : Low t → get_or seen (spot t) 0 ≡ 0 → Marking l t 0 (set seen (spot t) 1)
  marking_first h z = record { was = rw (low_is t h) (sym z ∙ m.flags t h); marked = marked_low h }

  -- and where it was;
  pub marking_again : Low t → (get_or seen (spot t) 0 ≡ 0 → ⊥) → Marking l t 1 (set seen (spot t) 1)
  marking_again h n = record { was = rw (low_is t h) (go (any (alike t) l) (m.flags t h)); marked = marked_low h }
    where
      go : (b : Bool) → get_or seen (spot t) 0 ≡ cond b 1 0 → ◌≡◌ {A = ℕ} 1 (cond b 1 0)
      go true e = refl
      go false e = absurd (n e)

  -- of a move that no move with a flag is like none is.
  passed : ((u : Move) → Low u → alike u t ≡ false) → Marked (l ++ (t ∷ [])) seen
  passed f = record { size = m.size; flags = λ u b. rw (any_last (alike u) l t, f u b) (m.flags u b) }

  -- Its state is too high,
  pub marking_high : 64 < t.from → Marking l t 0 seen
  marking_high h = record { was = rw (lt-leb t.from 64 h); marked = passed (λ u b. rw (ne_eqb u.from t.from (λ q. omega (arith, b.0)))) }

  -- or its event.
  pub marking_past : t.from ≤ 64 → 64 < t.on → Marking l t 0 seen
  marking_past k h = record { was = rw (le-leb t.from 64 k, lt-leb t.on 64 h); marked = passed (λ u b. go u b (eqb u.from t.from)) }
    where
      go : (u : Move) → Low u → (a : Bool) → a && eqb u.on t.on ≡ false
      go u b true = ne_eqb u.on t.on (λ q. omega (arith, b.1))
      go u b false = refl
