-- `lowering::states_lower` meets its contract: before a turn `first` is the fault of the first i states, and the marks are those of their entries and exits too. Assumes nothing.
use Rattle.std.proofs.Common.{◌≡◌, ℕ, ◌+◌, Bool, List, [], ◌∷◌, map, length, refl, ap, ◌∙◌, append-nil, take_all, arith}
use Rattle.lists.specs.Lists.{at}
use Rattle.programs.specs.Program.{Program as Lines}
use Rattle.soundness.specs.Asked.{bodies, lower}
use Rattle.tables.specs.Decode.{no_state, states_of}
use Rattle.tables.specs.Tables.{states_length}
use Rattle.faults.specs.Faults.{rows_all}
use Rattle.faults.specs.Lines.{line_of}
use Rattle.doubling.specs.Doubling.{Named}
use Rattle.lowering.specs.Turns.{state_turn}
use Rattle.lowering.proofs.states_lower.Goals as goal

-- what state i + 1 names is named
named : (p : Lines) (states entries exits flags : List ℕ) (i : ℕ) {x y : ℕ} {r : Bool} {done then : List ℕ} → p.states ≡ states_of states entries exits flags
    → x ≡ (at no_state (states_of states entries exits flags) (i + 1)).entry → y ≡ (at no_state (states_of states entries exits flags) (i + 1)).exit
    → Named done (x ∷ y ∷ []) r then → Named done (bodies p (at no_state p.states (i + 1))) r then
named p states entries exits flags i e hx hy m = rw (e, ← hx, ← hy) m

pub loop-i-init : goal.loop-i-init
loop-i-init c = (omega arith, λ p flags e s. (refl, rw (append-nil (map (λ a. a.body) p.actions)) s))

pub loop-i-preserved : goal.loop-i-preserved
loop-i-preserved c =
    let l = c.loop-i in
    let q = c.args.program.now in (
      omega (arith, c.joined-first.ensures.next, c.fault.ensures.bound),
      λ p flags e t.
          let inv = l.invariant.1 p flags e t in
          let turn = state_turn p l.i (at no_state p.states (l.i + 1)) refl
          (omega (arith, ap length e, states_length q.state_of q.state_entry q.state_exit flags, c.state_count-i-end.ensures))
          (named p q.state_of q.state_entry q.state_exit flags l.i e (c.entry_of-x.ensures q.state_exit flags) (c.exit_of-y.ensures q.state_entry flags) c.name_two-again.ensures)
          refl refl refl inv.1 in
          (c.joined-first.ensures.line _ _ inv.0 c.fault.ensures.line ∙ ap line_of turn.0, turn.1),
    )

pub returns-clause-row : goal.returns-clause-row
returns-clause-row c =
    let l = c.loop-i in
    let q = c.args.program.now in
    λ p flags e t.
    let inv = l.invariant.1 p flags e t in
    let n : l.i ≡ length p.states = omega (arith, ap length e, states_length q.state_of q.state_entry q.state_exit flags, c.state_count-i-end.ensures) in
    (inv.0 ∙ ap line_of (rows_all (lower p).state p.states l.i n), rw (take_all l.i p.states (omega arith)) at inv.1)
