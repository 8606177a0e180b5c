-- `starting::start_sound` meets its contract: the first machine is laid into arrays of zeros and lifted out of them. Assumes nothing.
use mathlib.Core.Path.{refl, ◌∙◌}
use native.Mathlib.Omega.{arith}
use Rattle.beginnings.specs.Initial.{initial_small}
use Rattle.starting.specs.Laid.{laid_sized, start_lay, start_laid, start_written}
use Rattle.starting.proofs.start_sound.Goals as goal

pub overflow_cast-state : goal.overflow_cast-state
overflow_cast-state c =
    let q = c.args.program.now in
    omega (arith, c.initial_state-state.ensures, initial_small q.state_of q.start.0)

pub lay_new-requires : goal.lay_new-requires
lay_new-requires c =
    rw c.new-flat.ensures (start_lay c.args.program.now c.requires c.entry_of-entry.result)

pub lift-requires : goal.lift-requires
lift-requires c = rw c.new-flat.ensures (laid_sized refl (rw c.new-flat.ensures at c.lay_new.ensures))

pub returns : goal.returns
returns c =
    c.lift.ensures ∙ rw c.new-flat.ensures (start_written c.args.program.now c.requires _
    (start_laid c.args.program.now c.requires c.code.result c.code.ensures c.initial_state-state.result c.initial_state-state.ensures c.entry_of-entry.result c.entry_of-entry.ensures
    (rw c.new-flat.ensures at c.lay_new.ensures)))
