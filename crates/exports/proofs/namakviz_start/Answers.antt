-- `exports::namakviz_start` meets its contract: the start configuration, or the answer with that of no machine. Assumes nothing.
use Rattle.std.proofs.Common.{◌≡◌, Bool, true, false, refl, sym, ◌∙◌}
use Rattle.std.specs.Prelude.{Ok, Err}
use Rattle.answers.specs.declared.Answer.{Answer}
use Rattle.answers.specs.Number.{number}
use Rattle.soundness.specs.Sound.{sound}
use Rattle.tables.specs.declared.Program.{Program}
use Rattle.tables.specs.Decode.{program_of}
use Rattle.configs.specs.declared.Config.{Config}
use Rattle.configs.specs.Encode.{written}
use Rattle.starting.specs.Started.{no_machine, start_of, beginning_of}
use Rattle.exports.specs.declared.StartNumbers.{StartNumbers}
use Rattle.exports.specs.Exported.{start_numbers}
use Rattle.exports.proofs.namakviz_start.Goals as goal

-- a start configuration is that of 0
fine : (q : Program) (c : Config) → Ok c ≡ beginning_of (start_of q) → ◌≡◌ {A = StartNumbers} (record { config = c; answer = 0 }) (start_numbers (start_of q))
unfolding start_of
fine q c h = go (sound (program_of q)) refl h
  where
    go : (b : Bool) → sound (program_of q) ≡ b → Ok c ≡ beginning_of (start_of q) → ◌≡◌ {A = StartNumbers} (record { config = c; answer = 0 }) (start_numbers (start_of q))
    go true e h = rw e (let k = rw e at h in cc)
    go false e h = let k = rw e at h in cc

-- an answer is that of the configuration of no machine
none : (q : Program) (a : Answer) → Err a ≡ beginning_of (start_of q) → ◌≡◌ {A = StartNumbers} (record { config = written no_machine; answer = number a }) (start_numbers (start_of q))
unfolding start_of
none q a h = go (sound (program_of q)) refl h
  where
    go : (b : Bool) → sound (program_of q) ≡ b → Err a ≡ beginning_of (start_of q) → ◌≡◌ {A = StartNumbers} (record { config = written no_machine; answer = number a }) (start_numbers (start_of q))
    go true e h = let k = rw e at h in cc
    go false e h = rw e (let k = rw e at h in cc)

pub returns-in-Ok : goal.returns-in-Ok
returns-in-Ok c = fine c.args.program c.in-Ok.config (sym c.in-Ok.is ∙ c.start.ensures)

pub returns-in-Err : goal.returns-in-Err
returns-in-Err c = rw (c.no_machine.ensures, c.number.ensures) (none c.args.program c.in-Err.a (sym c.in-Err.is ∙ c.start.ensures))
