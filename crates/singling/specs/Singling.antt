-- Answer 6, of moves that are gone through in their order: the first that is for the same state and event as one before it, and the line where it stands.
use Rattle.std.specs.Prelude.{ℕ, suc, ◌+◌, ◌-◌, ◌≤◌, ◌<◌, min, ◌≡◌, refl, Bool, true, false, cond, not, ◌&&◌, List, [], ◌∷◌, ◌++◌, length, get_or, take}
use Rattle.std.proofs.Common.{ap, sym, ◌∙◌, append_assoc, append-nil, add-one, arith, take-suc, take_all}
use Rattle.lists.specs.Lists.{All, any}
use Rattle.lists.specs.Check.{Check, is_false}
use Rattle.rows.specs.Seek.{table_get}
use Rattle.programs.specs.Program.{Program, Move}
use Rattle.soundness.specs.Asked.{refers, alike, single}
use Rattle.soundness.specs.Sound.{numbered, lines, first_fault, meets}
use Rattle.soundness.specs.Lines.{numbered_all, step_meets, call_meets, act_meets}
use Rattle.tables.specs.Decode.{move_in, moves_of}
use Rattle.index.specs.Saying.{moves_cut}
use Rattle.faults.specs.declared.Counts.{Counts}
use Rattle.faults.specs.Faults.{onward, joined, row_fault, rows_more, at_place, moves_fault, joined_none, joined_last, onward_onward, fault_nothing}
use Rattle.faults.specs.Read.{Counted, Moving, no_move, states_fault_is, fault_is, moves_fault_is}
use Rattle.singling.specs.Marking.{Low, low, low_is, Marked, Marking}

-- ONE MOVE MORE
-- what is asked of number n of the moves ms, behind the moves l: that none before it is for its state and event. (Of one that has no flag nothing is asked.)
abbrev pub double : List Move → List Move → ℕ → Move → Check
double l ms n t = is_false (low t && any (alike t) (l ++ take (n - 1) ms))

-- the move in place i of those from row a on
pub moves_get : (moves : List ℕ) (a n i : ℕ) → i < min n (4096 - a) → get_or (moves_of moves a n) i no_move ≡ move_in moves (a + i)
unfolding moves_of
moves_get moves a n i h = table_get (move_in moves) no_move a (min n (4096 - a)) i h

-- after the first i moves: the first of them that doubles one, and which are marked
pub record Doubling (l ms : List Move) (i first : ℕ) (seen : List ℕ) : Type 0 where
  pub fault : first ≡ row_fault (double l ms) (take i ms)
  pub marked : Marked (l ++ take i ms) seen

-- before the first
pub doubling_none : (l ms : List Move) (seen : List ℕ) → Marked l seen → Doubling l ms 0 0 seen
doubling_none l ms seen m = record { fault = refl; marked = rw (append-nil l) m }

-- with one more
pub doubling_more : (l ms : List Move) (i first r next : ℕ) (seen after : List ℕ) → i < length ms → Doubling l ms i first seen
    → Marking (l ++ take i ms) (get_or ms i no_move) r after → next ≡ joined first i r → Doubling l ms (i + 1) next after
doubling_more l ms i first r next seen after h d m j =
    let z : i + 1 - 1 ≡ i = omega arith in
    record {
      fault = j ∙ rw (d.fault, m.was) (sym (rows_more (double l ms) no_move ms i h ∙ rw (at_place no_move ms i, z) (ap (joined (row_fault (double l ms) (take i ms)) i) (turn (low (get_or ms i no_move) && any (alike (get_or ms i no_move)) (l ++ take i ms))))));
      marked = rw (add-one, take-suc ms i no_move h, ← append_assoc l (take i ms) (get_or ms i no_move ∷ [])) m.marked;
    }
  where
    turn : (b : Bool) → cond {A = ℕ} (not b) 0 1 ≡ cond b 1 0
    turn true = refl
    turn false = refl

-- after the last
pub record Doubled (l ms : List Move) (first : ℕ) (seen : List ℕ) : Type 0 where
  pub fault : first ≡ row_fault (double l ms) ms
  pub marked : Marked (l ++ ms) seen

-- so it is
pub doubling_all : (l ms : List Move) (i first : ℕ) (seen : List ℕ) → length ms ≤ i → Doubling l ms i first seen → Doubled l ms first seen
doubling_all l ms i first seen h d = let e = take_all i ms h in record { fault = rw e at d.fault; marked = rw e at d.marked }

-- THE MOVES OF A PROGRAM
-- each has a flag
pub record LowMoves (p : Program) : Type 0 where
  pub steps : All Low p.steps
  pub calls : All Low p.calls
  pub acts : All Low p.acts

-- They have where the states and the events that they name are there.
pub low_moves : (p : Program) → length p.states ≤ 64 → length p.events ≤ 64 → (meets p (refers p)).Holds → LowMoves p
low_moves p s e h = record {
  steps = numbered_all (refers p).step Low p.steps (λ n t r. (omega (arith, r.0.1), omega (arith, r.1.0.1))) (step_meets p (refers p) h);
  calls = numbered_all (refers p).call Low p.calls (λ n t r. (omega (arith, r.0.1), omega (arith, r.1.0.1))) (call_meets p (refers p) h);
  acts = numbered_all (refers p).act Low p.acts (λ n t r. (omega (arith, r.0.1), omega (arith, r.1.0.1))) (act_meets p (refers p) h);
}

-- checks that pass alike of every row
fault_same : {A : Type 0} (P : A → Type 0) (f g : ℕ → A → Check) (k n : ℕ) (l : List A) → ((n : ℕ) (x : A) → P x → (f n x).test ≡ (g n x).test) → All P l
    → first_fault k (numbered f n l) ≡ first_fault k (numbered g n l)
fault_same P f g k n [] h a = refl
fault_same P f g k n (x ∷ l) h a = rw (h n x a.0, fault_same P f g (suc k) (suc n) l h a.1)

-- of moves that have flags it is asked of each
pub double_low : (l ms : List Move) → All Low ms → row_fault (double l ms) ms ≡ row_fault (λ n t. is_false (any (alike t) (l ++ take (n - 1) ms))) ms
double_low l ms a = fault_same Low (double l ms) (λ n t. is_false (any (alike t) (l ++ take (n - 1) ms))) 1 1 ms (λ n t h. rw (low_is t h)) a

-- THE law: the first faulty line of a program's moves, by what the passes over them find.
pub single_moves : (p : Program) (moves : List ℕ) (steps calls acts : ℕ) (s k d r a : ℕ) (seen after done : List ℕ) → Moving p moves steps calls acts → LowMoves p
    → Doubled [] (moves_of moves 0 steps) s seen → Doubled (moves_of moves 0 steps) (moves_of moves steps calls) k after → a ≡ min (steps + calls) 4096
    → Doubled [] (moves_of moves a acts) d done → r ≡ joined s (min steps 4096) (joined k (min calls (4096 - steps)) d) → r ≡ moves_fault p (single p)
single_moves p moves steps calls acts s k d r a seen after done g w hs hk ha hd hr =
    let cut : moves_of moves a acts ≡ moves_of moves (steps + calls) acts = ap (λ (i : ℕ). moves_of moves i acts) ha ∙ moves_cut moves (steps + calls) acts in
    moves_fault_is p (single p) g
    (hs.fault ∙ double_low [] (moves_of moves 0 steps) (rw g.step at w.steps) ∙ rw g.step)
    (hk.fault ∙ double_low (moves_of moves 0 steps) (moves_of moves steps calls) (rw g.call at w.calls) ∙ rw (g.step, g.call))
    (rw cut at hd.fault ∙ double_low [] (moves_of moves (steps + calls) acts) (rw g.act at w.acts) ∙ rw g.act)
    refl
    (hr ∙ rw (joined_last d (min acts (4096 - (steps + calls)))))

-- And of all its lines: nothing is asked of those before the moves.
pub single_is : (p : Program) (c : Counts) (m r : ℕ) → Counted p c → m ≡ moves_fault p (single p)
    → r ≡ onward (c.events + c.kinds + c.variables + c.exprs + c.stmts + c.actions + c.states) m → r ≡ first_fault 1 (lines p (single p))
single_is p c m r n hm hr =
    let e : c.events + c.kinds + c.variables + c.exprs + c.stmts + c.actions + c.states ≡ c.events + c.kinds + (c.variables + (c.exprs + (c.stmts + (c.actions + c.states)))) = omega arith in
    fault_is p (single p) n
    (sym (fault_nothing 1 1 p.variables))
    (sym (fault_nothing 1 1 p.exprs))
    (sym (fault_nothing 1 1 p.stmts))
    (states_fault_is p (single p) n (sym (fault_nothing 1 1 p.actions)) (sym (fault_nothing 1 1 p.states)) hm refl)
    (hr ∙ simp (joined_none, onward_onward) (ap (λ (k : ℕ). onward k m) e))
