-- A program is orderly where no variable is void and every init list is ascending: what its states defer always is.
use Rattle.std.specs.Prelude.{ℕ, zero, suc, ◌+◌, ◌≡◌, Bool, true, ◌&&◌}
use Rattle.std.proofs.Math.Path.{refl, ap}
use Rattle.std.proofs.Common.{◌∙◌, arith, ne_eqb}
use mathlib.Core.List.{List}
use Rattle.std.proofs.Math.Dec.{eqb}
use Rattle.std.proofs.Math.ListN.{length}
use Rattle.lists.specs.Lists.{at, There}
use Rattle.lists.specs.Facts.{and_true}
use Rattle.programs.specs.Program.{Program, State}
use Rattle.tables.specs.Decode.{no_state, state_in, states_of}
use Rattle.tables.specs.Numbered.{at_row}
use Rattle.tables.specs.Tables.{states_length}
use Rattle.soundness.specs.Asked.{ascending, orderly}
use Rattle.soundness.specs.Sound.{meets}
use Rattle.faults.specs.Faults.{onward, joined, onward_none, onward_some, joined_none, joined_some, row_fault, rows_clear, fault_nothing, moves_fault, states_fault, tables_fault, lines_fault, meets_fault}
use Rattle.sizing.specs.Ascending.{defer_ascends}

-- no fault with lines before it
onward_zero : (n b : ℕ) → eqb (onward n b) 0 ≡ eqb b 0
onward_zero n zero = rw (onward_none n)
onward_zero n (suc b) = rw (onward_some n (suc b) (omega arith), ne_eqb (suc b) 0 (λ z. omega arith)) (ne_eqb (n + suc b) 0 (λ z. omega arith))

-- no fault of two
joined_zero : (a n b : ℕ) → eqb (joined a n b) 0 ≡ eqb a 0 && eqb b 0
joined_zero zero n b = rw (joined_none n b) (onward_zero n b)
joined_zero (suc a) n b = rw (joined_some (suc a) n b (omega arith), ne_eqb (suc a) 0 (λ z. omega arith))

module _ (p : Program) (states entries exits flags : List ℕ) (e : p.states ≡ states_of states entries exits flags) where
  -- what state n defers is ascending
  state_ascends : (n : ℕ) → There (length p.states) n → ascending (at no_state p.states n).defer ≡ true
  unfolding states_of
  state_ascends n h =
      ap (λ (q : State). ascending q.defer) (ap (λ (l : List State). at no_state l n) e
      ∙ at_row (state_in states entries exits flags) no_state refl h.0 (omega (arith, ap length e, states_length states entries exits flags)))
      ∙ defer_ascends flags n

  -- no state is at fault
  states_orderly : row_fault orderly.state p.states ≡ 0
  states_orderly = rows_clear orderly.state no_state p.states (length p.states) refl state_ascends

  -- the test, by the variables and the statements
  pub orderly_is : (meets p orderly).test ≡ eqb (row_fault orderly.variable p.variables) 0 && eqb (row_fault orderly.stmt p.stmts) 0
  unfolding moves_fault states_fault tables_fault
  orderly_is =
      meets_fault p orderly
      ∙ ap (λ (l : ℕ). eqb l 0) (lines_fault p orderly)
      ∙ onward_zero (length p.events + p.machines) _
      ∙ joined_zero (row_fault orderly.variable p.variables) (length p.variables) _
      ∙ ap (λ (b : Bool). eqb (row_fault orderly.variable p.variables) 0 && b)
      (joined_zero (row_fault orderly.expr p.exprs) (length p.exprs) _
      ∙ rw (fault_nothing 1 1 p.exprs)
      (joined_zero (row_fault orderly.stmt p.stmts) (length p.stmts) _
      ∙ and_true (eqb (row_fault orderly.stmt p.stmts) 0) _
      (joined_zero (row_fault orderly.action p.actions) (length p.actions) _
      ∙ rw (fault_nothing 1 1 p.actions)
      (joined_zero (row_fault orderly.state p.states) (length p.states) _
      ∙ rw states_orderly
      (joined_zero (row_fault orderly.step p.steps) (length p.steps) _
      ∙ rw (fault_nothing 1 1 p.steps)
      (joined_zero (row_fault orderly.call p.calls) (length p.calls) _
      ∙ rw (fault_nothing 1 1 p.calls)
      (joined_zero (row_fault orderly.act p.acts) (length p.acts) 0
      ∙ rw (fault_nothing 1 1 p.acts))))))))
