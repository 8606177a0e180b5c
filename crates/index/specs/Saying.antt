-- Laws of `says`: moves stored from the last to the first, so that the first of a state and event is what stays.
use Rattle.std.specs.Prelude.{ℕ, suc, ◌+◌, ◌-◌, ◌≤◌, ◌<◌, min, ◌≡◌, cond, leb, length, get_or, set}
use Rattle.std.proofs.Math.Path.{refl}
use Rattle.std.proofs.Common.{ap, ◌∙◌, ⊎_elim, arith, length-set, get_or-set_same, get_or-set_other}
use mathlib.Core.List.{List, [], ◌∷◌}
use Rattle.std.proofs.Math.Logic.{dite}
use Rattle.std.proofs.Math.Decide.{ℕ_discrete}
use borrow.Author.Tests.{le-leb, lt-leb, eq-eqb, ne_eqb}
use Rattle.lists.specs.Lists.{on_opt}
use Rattle.rows.specs.Pad.{below?}
use Rattle.rows.specs.Part.{one_row}
use Rattle.rows.specs.Seek.{table}
use Rattle.programs.specs.Sizes.{EVENTS, STATES}
use Rattle.programs.specs.Program.{Move, moved}
use Rattle.tables.specs.Decode.{move_in, moves_of}
use Rattle.index.specs.Index.{said_at, Said}

-- the move t stored at + j; a move of a state or event that `says` has no place for is passed over
unfoldable pub stored : ℕ → Move → List ℕ → List ℕ
stored j t says = cond (leb t.from STATES) (cond (leb t.on EVENTS) (set says (said_at t.from t.on + j) t.to) says) says

-- the moves stored at + j, the first of them last
unfoldable pub stored_all : ℕ → List Move → List ℕ → List ℕ
stored_all j [] says = says
stored_all j (t ∷ l) says = stored j t (stored_all j l says)

-- a move that has a place
pub stored_in : (j : ℕ) (t : Move) (says : List ℕ) → t.from ≤ 64 → t.on ≤ 64 → stored j t says ≡ set says (said_at t.from t.on + j) t.to
unfolding stored
stored_in j t says h k = rw (le-leb t.from 64 h, le-leb t.on 64 k)

-- a move of a state too high
pub stored_high : (j : ℕ) (t : Move) (says : List ℕ) → 64 < t.from → stored j t says ≡ says
unfolding stored
stored_high j t says h = rw (lt-leb t.from 64 h)

-- a move on an event too high
pub stored_past : (j : ℕ) (t : Move) (says : List ℕ) → t.from ≤ 64 → 64 < t.on → stored j t says ≡ says
unfolding stored
stored_past j t says h k = rw (le-leb t.from 64 h, lt-leb t.on 64 k)

-- what a move leaves, by whether it has a place
by_place : (j : ℕ) (t : Move) (says : List ℕ) (P : List ℕ → Type 0) → (t.from ≤ 64 → t.on ≤ 64 → P (set says (said_at t.from t.on + j) t.to))
    → P says → P (stored j t says)
by_place j t says P f g = ⊎_elim
    (λ (h : t.from < 65). ⊎_elim
    (λ (k : t.on < 65). rw (stored_in j t says (omega arith) (omega arith)) (f (omega arith) (omega arith)))
    (λ (k : 65 ≤ t.on). rw (stored_past j t says (omega arith) k) g)
    (below? t.on 65))
    (λ (h : 65 ≤ t.from). rw (stored_high j t says h) g)
    (below? t.from 65)

-- a store keeps the length
pub stored_length : (j : ℕ) (t : Move) (says : List ℕ) → length (stored j t says) ≡ length says
stored_length j t says = by_place j t says (λ l. length l ≡ length says) (λ h k. length-set says _ _) refl

-- and so do all
pub all_length : (j : ℕ) (l : List Move) (says : List ℕ) → length (stored_all j l says) ≡ length says
unfolding stored_all
all_length j [] says = refl
all_length j (t ∷ l) says = stored_length j t (stored_all j l says) ∙ all_length j l says

-- ANOTHER KIND'S places are as they were
module _ (i j n e : ℕ) (hi : i < 3) (hj : j < 3) (other : i ≡ j → ⊥) where
  -- after one move
  one_other : (t : Move) (says : List ℕ) → get_or (stored j t says) (said_at n e + i) 0 ≡ get_or says (said_at n e + i) 0
  one_other t says = by_place j t says (λ l. get_or l (said_at n e + i) 0 ≡ get_or says (said_at n e + i) 0)
      (λ h k. get_or-set_other says (said_at t.from t.on + j) (said_at n e + i) t.to 0 (λ q. other (omega arith))) refl

  -- after all
  pub all_other : (l : List Move) (says : List ℕ) → get_or (stored_all j l says) (said_at n e + i) 0 ≡ get_or says (said_at n e + i) 0
  unfolding stored_all
  all_other [] says = refl
  all_other (t ∷ l) says = one_other t (stored_all j l says) ∙ all_other l says

-- ITS OWN PLACES have the first move of their state and event, or else what was there
module _ (j n e : ℕ) (hj : j < 3) (hn : n ≤ 64) (he : e ≤ 64) where
  -- after a move of this state and event
  one_this : (t : Move) (says : List ℕ) → length says ≡ 12675 → t.from ≡ n → t.on ≡ e → get_or (stored j t says) (said_at n e + j) 0 ≡ t.to
  one_this t says size p q =
      rw (stored_in j t says (omega arith) (omega arith), p, q) (get_or-set_same says (said_at n e + j) t.to 0 (omega arith))

  -- after a move of another
  one_off : (t : Move) (says : List ℕ) → (t.from ≡ n → t.on ≡ e → ⊥) → get_or (stored j t says) (said_at n e + j) 0 ≡ get_or says (said_at n e + j) 0
  one_off t says apart = by_place j t says (λ l. get_or l (said_at n e + j) 0 ≡ get_or says (said_at n e + j) 0)
      (λ h k. get_or-set_other says (said_at t.from t.on + j) (said_at n e + j) t.to 0 (λ q. let r = one_row 65 t.from n t.on e (omega arith) (omega arith) (omega arith) in apart r (omega arith))) refl

  -- after all
  pub all_own : (l : List Move) (says : List ℕ) → length says ≡ 12675
      → get_or (stored_all j l says) (said_at n e + j) 0 ≡ on_opt (moved l n e) (get_or says (said_at n e + j) 0) (λ t. t)
  unfolding stored_all
  all_own [] says size = refl
  all_own (t ∷ l) says size = dite (ℕ_discrete t.from n)
      (λ p. dite (ℕ_discrete t.on e)
      (λ q. rw (eq-eqb t.from n p, eq-eqb t.on e q) (one_this t (stored_all j l says) (all_length j l says ∙ size) p q))
      (λ q. rw (eq-eqb t.from n p, ne_eqb t.on e q) (one_off t (stored_all j l says) (λ _ b. q b) ∙ all_own l says size)))
      (λ p. rw (ne_eqb t.from n p) (one_off t (stored_all j l says) (λ a _. p a) ∙ all_own l says size))

-- THE TABLE: the steps, the calls and the acts stored in zeros, each at its own place
module _ (steps calls acts : List Move) (zeros : List ℕ) (size : length zeros ≡ 12675) (nothing : (k : ℕ) → get_or zeros k 0 ≡ 0) where
  -- with the steps
  abbrev one : List ℕ
  one = stored_all 0 steps zeros

  -- and the calls
  abbrev two : List ℕ
  two = stored_all 1 calls one

  -- the first keeps the size
  one_size : length one ≡ 12675
  one_size = all_length 0 steps zeros ∙ size

  -- and the second
  two_size : length two ≡ 12675
  two_size = all_length 1 calls one ∙ one_size

  -- with the acts it is the table
  pub said_all : Said steps calls acts (stored_all 2 acts two)
  said_all = record {
    size = all_length 2 acts two ∙ two_size;
    step = λ n e hn he.
        let z : said_at n e + 0 ≡ said_at n e = omega arith in
        rw z at (all_other 0 2 n e (omega arith) (omega arith) (λ q. omega arith) acts two ∙ all_other 0 1 n e (omega arith) (omega arith) (λ q. omega arith) calls one
        ∙ all_own 0 n e (omega arith) hn he steps zeros size ∙ ap (λ (y : ℕ). on_opt (moved steps n e) y (λ t. t)) (nothing (said_at n e + 0)));
    call = λ n e hn he.
        all_other 1 2 n e (omega arith) (omega arith) (λ q. omega arith) acts two ∙ all_own 1 n e (omega arith) hn he calls one one_size
        ∙ ap (λ (y : ℕ). on_opt (moved calls n e) y (λ t. t)) (all_other 1 0 n e (omega arith) (omega arith) (λ q. omega arith) steps zeros ∙ nothing (said_at n e + 1));
    act = λ n e hn he.
        all_own 2 n e (omega arith) hn he acts two two_size
        ∙ ap (λ (y : ℕ). on_opt (moved acts n e) y (λ t. t)) (all_other 2 1 n e (omega arith) (omega arith) (λ q. omega arith) calls one
        ∙ all_other 2 0 n e (omega arith) (omega arith) (λ q. omega arith) steps zeros ∙ nothing (said_at n e + 2));
  }

  -- the same of the three lists that are made one after the other
  pub said_stored : (a b l : List ℕ) → a ≡ stored_all 0 steps zeros → b ≡ stored_all 1 calls a → l ≡ stored_all 2 acts b → Said steps calls acts l
  said_stored a b l p q r = rw (r, q, p) said_all

-- THE LOOP: where the moves from row a + i on are stored, the one before them comes next
pub stored_more : (moves says₀ : List ℕ) (j a m i : ℕ) (says next : List ℕ) → 0 < i → i ≤ m → says ≡ stored_all j (table (move_in moves) (a + i) (m - i)) says₀
    → next ≡ stored j (move_in moves (a + (i - 1))) says → next ≡ stored_all j (table (move_in moves) (a + (i - 1)) (m - (i - 1))) says₀
unfolding stored_all table
stored_more moves says₀ j a m i says next h k e n =
    let p : m - (i - 1) ≡ suc (m - i) = omega arith in
    let q : a + (i - 1) + 1 ≡ a + i = omega arith in
    rw (p, q, ← e) n

-- before it none is stored
pub stored_none : (moves says : List ℕ) (j a m : ℕ) → says ≡ stored_all j (table (move_in moves) (a + m) (m - m)) says
unfolding stored_all table
stored_none moves says j a m = let p : m - m ≡ 0 = omega arith in rw p

-- moves that start past the end are as those that start at it: none
pub moves_cut : (moves : List ℕ) (a n : ℕ) → moves_of moves (min a 4096) n ≡ moves_of moves a n
unfolding moves_of table
moves_cut moves a n = ⊎_elim
    (λ (h : a < 4096). let p : min a 4096 ≡ a = omega arith in rw p)
    (λ (h : 4096 ≤ a).
    let p : min n (4096 - min a 4096) ≡ 0 = omega arith in
    let q : min n (4096 - a) ≡ 0 = omega arith in
    rw (p, q))
    (below? a 4096)
