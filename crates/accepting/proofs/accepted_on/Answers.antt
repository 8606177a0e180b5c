-- `accepting::accepted_on` meets its contract: the next live number, distinct numbers, and each room. Assumes nothing.
use Rattle.std.specs.Prelude.{ℕ, ◌≡◌, ◌≤◌, ◌<◌, Bool, true, false, List, MatchBool, eqb, length, refl}
use Rattle.std.specs.List.{AllWithin, HoldsAt, range_with_len}
use Rattle.std.proofs.Common.{sym, ◌∙◌, true≢false, eq-eqb, arith, rules}
use Rattle.std.proofs.lemmas.Iterator.{cases_from_all, YieldsList-from_range}
use Rattle.lists.specs.Tells.{Tells, form, isnt, at_most_lem, second, first_only, refuted, denied}
use Rattle.programs.specs.Program.{Program}
use Rattle.acceptance.specs.Accepted.{Distinct}
use Rattle.configs.specs.Flat.{flat_config}
use Rattle.zeros.specs.Each.{Answers, below_told}
use Rattle.accepting.specs.Rooms.{RoomFit}
use Rattle.accepting.specs.Asked.{ToldOf, Before, one_told}
use Rattle.accepting.proofs.accepted_on.Goals as goal
use Rattle.accepting.proofs.accepted_on.Goals.{Joined-flat-ne0, then-flat-ne0, else-flat-ne0, Joined-flat-le-LIVE_NUMBERS, then-flat-le-LIVE_NUMBERS, else-flat-le-LIVE_NUMBERS, After-all}

-- the next live number
two : (c : Joined-flat-ne0) → Tells c.if-flat-ne0.value ((c.args.flat.now.next ≡ 0 → ⊥) × (c.args.flat.now.next ≤ 65536))
two c = elim c.if-flat-ne0.branch [
  | then-flat-ne0 w ↦ rw w.value-is (form (at_most_lem _ 65536) (λ l. (w.if-flat-ne0.true, l)) (λ h. h.1))
  | else-flat-ne0 w ↦ rw w.value-is (form (isnt (eqb c.args.flat.now.next 0)) (λ e. absurd (true≢false (sym (eq-eqb _ 0 w.if-flat-ne0.false) ∙ e))) (λ h. absurd (h.0 w.if-flat-ne0.false)))
]

-- and distinct numbers
three : (c : Joined-flat-le-LIVE_NUMBERS) {P : Type 0} → Tells c.if-flat-ne0.value P → (p : Program) → Tells c.if-flat-le-LIVE_NUMBERS.value (P × Distinct (flat_config p c.args.flat.now).rooms)
three c s p = elim c.if-flat-le-LIVE_NUMBERS.branch [
  | then-flat-le-LIVE_NUMBERS w ↦ second s w.if-flat-le-LIVE_NUMBERS.true w.value-is (w.distinct_ok.ensures p c.args.flat.now refl)
  | else-flat-le-LIVE_NUMBERS w ↦ first_only s w.if-flat-le-LIVE_NUMBERS.false w.value-is
]

-- a test that told no tells that it does not hold
not_so : (P : ℕ → Type 0) (r : Bool) (xs : List ℕ) → MatchBool r (AllWithin P xs 0 (length xs)) ((k : ℕ) × (k < length xs) × HoldsAt (λ k. Tells false (P k)) xs k) → Answers P r xs
not_so P true xs h = h
not_so P false xs h = (h.0, h.1, λ d. denied (h.2 d) refl)

-- the rooms
rooms : (c : After-all) (p : Program) → ToldOf c.args.program.now c.args.heights.now c.args.served.now p → Tells c.all.result (Before p c.args.flat.now 32)
rooms c p t =
    let a = c.args in
    let f = a.flat.now in
    let yes : (k : ℕ) (b : Bool) → ((p : Program) → ToldOf a.program.now a.heights.now a.served.now p → Tells b (RoomFit p f k)) → b ≡ true → RoomFit p f k = λ k b h e. (h p t).holds e in
    let no : (k : ℕ) (b : Bool) → ((p : Program) → ToldOf a.program.now a.heights.now a.served.now p → Tells b (RoomFit p f k)) → b ≡ false → Tells false (RoomFit p f k) = λ k b h e. refuted (denied (h p t) e) in
    below_told (RoomFit p f) 32 (not_so (RoomFit p f) c.all.result (range_with_len 0 32)
    (cases_from_all _ _ _ (RoomFit p f) (λ k. Tells false (RoomFit p f k)) c.all.ensures.ran (YieldsList-from_range 0 32 32 refl (omega arith))
    (λ x s k. search (yes, rules)) (λ x s k. search (no, rules))))

pub returns-then-distinct_ok : goal.returns-then-distinct_ok
returns-then-distinct_ok c = λ p t.
    let g = goal.at.returns-then-distinct_ok c in
    one_told p _ (second (three g.Joined-flat-le-LIVE_NUMBERS (two g.Joined-flat-ne0) p) c.if-distinct_ok.true refl (rooms g.After-all p t))

pub returns-else-distinct_ok : goal.returns-else-distinct_ok
returns-else-distinct_ok c = λ p t.
    let g = goal.at.returns-else-distinct_ok c in
    one_told p _ (first_only (three g.Joined-flat-le-LIVE_NUMBERS (two g.Joined-flat-ne0) p) c.if-distinct_ok.false refl)
