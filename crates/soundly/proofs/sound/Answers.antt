-- `soundly::sound` meets its contract: a case for each test that fails, and then the verdict of the passes. Assumes nothing.
use mathlib.Core.Path.{refl, sym, ◌∙◌}
use Rattle.tables.specs.Decode.{program_of}
use Rattle.texts.specs.Verdict.{verdict}
use Rattle.judging.specs.Judging.{tabled_program, result_done}
use Rattle.soundly.specs.Soundly.{few_kinds, no_order, no_size, all_told}
use Rattle.soundly.proofs.sound.Goals as goal
use Rattle.soundly.proofs.sound.Goals.{then-orderly, else-orderly}

pub judge-judged-requires : goal.judge-judged-requires
judge-judged-requires c =
    let q = c.args.program.now in
    elim c.if-orderly.branch [
      | then-orderly w ↦ few_kinds (program_of q) (sym (w.sized.ensures (program_of q) q.event_types q.variable_type q.stmts q.inits q.action_of q.action_body q.state_of q.state_entry q.state_exit q.defers (tabled_program q)) ∙ sym w.value-is ∙ c.if-sized.true)
      | else-orderly w ↦ cc
    ]

pub returns-then-sized : goal.returns-then-sized
returns-then-sized c =
    let q = c.args.program.now in
    let p = program_of q in
    elim c.if-orderly.branch [
      | then-orderly w ↦
          let o = sym (c.orderly.ensures p q.state_of q.state_entry q.state_exit q.defers refl refl refl) ∙ w.if-orderly.true in
          let s = sym (w.sized.ensures p q.event_types q.variable_type q.stmts q.inits q.action_of q.action_body q.state_of q.state_entry q.state_exit q.defers (tabled_program q)) ∙ sym w.value-is ∙ c.if-sized.true in
          (rw c.judge-judged.ensures at c.is_ok.ensures.value) ∙ result_done (verdict p) ∙ all_told p o s (verdict p) refl
      | else-orderly w ↦ cc
    ]

pub returns-else-sized : goal.returns-else-sized
returns-else-sized c =
    let q = c.args.program.now in
    let p = program_of q in
    elim c.if-orderly.branch [
      | then-orderly w ↦
          let o = sym (c.orderly.ensures p q.state_of q.state_entry q.state_exit q.defers refl refl refl) ∙ w.if-orderly.true in
          c.if-sized.false ∙ no_size p o (sym (w.sized.ensures p q.event_types q.variable_type q.stmts q.inits q.action_of q.action_body q.state_of q.state_entry q.state_exit q.defers (tabled_program q)) ∙ sym w.value-is ∙ c.if-sized.false)
      | else-orderly w ↦ c.if-sized.false ∙ no_order p (sym (c.orderly.ensures p q.state_of q.state_entry q.state_exit q.defers refl refl refl) ∙ w.if-orderly.false)
    ]
