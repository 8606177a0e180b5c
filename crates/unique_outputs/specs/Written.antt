-- WHAT IS WRITTEN into a lent buffer is one, and so is the place behind it; and so is the number of the machines left.
use Rattle.std.specs.Prelude.{ℕ, ◌≡◌, List, [], length}
use Rattle.std.proofs.Common.{sym, ◌∙◌}
use Rattle.programs.specs.Program.{Program}
use Rattle.machines.specs.Rooms.{live}
use Rattle.configs.specs.declared.Config.{Config as Held}
use Rattle.configs.specs.Decode.{config_of}
use Rattle.writing.specs.Wrote.{Wrote}
use Rattle.handed_runs.specs.HandedRuns.{fronted}

-- bytes written from a place on: writing's five, output_lines' six, telling's two
pub written_one : (bs : List ℕ) (at : ℕ) (old : List ℕ) (r s : ℕ) (x y : List ℕ) → Wrote bs at old r x → Wrote bs at old s y → (r ≡ s) × (x ≡ y)
written_one bs at old r s x y h k = (h.place ∙ sym k.place, h.holds ∙ sym k.holds)

-- bytes written from the front on, and how many: `run_text::run_text`, `regroup_text::regroup_text`, with the bytes that the program writes of the text
pub text_one : (bs old : List ℕ) (r s : ℕ) (x y : List ℕ) → (r ≡ length bs) × (x ≡ fronted bs old) → (s ≡ length bs) × (y ≡ fronted bs old) → (r ≡ s) × (x ≡ y)
text_one bs old r s x y h k = (h.0 ∙ sym k.0, h.1 ∙ sym k.1)

-- a program of no lines
abbrev unlined : Program
unlined = record { events = []; machines = 0; variables = []; exprs = []; stmts = []; actions = []; states = []; steps = []; calls = []; acts = []; start = 0 }

-- `living::live_machines`, which answers for every program, and there is one
pub live_one : (c : Held) (r s : ℕ) → ((p : Program) → r ≡ live (config_of p c)) → ((p : Program) → s ≡ live (config_of p c)) → r ≡ s
live_one c r s h k = h unlined ∙ sym (k unlined)
