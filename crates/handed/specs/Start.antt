-- The start configuration of a sound program, written, is one: nothing of 20 holds of it.
use Rattle.std.specs.Prelude.{◌≡◌}
use Rattle.std.proofs.Common.{ap}
use Rattle.rules.specs.Step.{start_config}
use Rattle.soundness.specs.Sound.{Sound}
use Rattle.kept.specs.Theorem.{start_accepted}
use Rattle.tables.specs.declared.Program.{Program as Tables}
use Rattle.tables.specs.Decode.{program_of}
use Rattle.configs.specs.Decode.{config_of}
use Rattle.configs.specs.Encode.{written}
use Rattle.configs.proofs.RoundTrip.{reads_written}
use Rattle.handed.specs.Handed.{Fit}

pub start_fits : (q : Tables) → Sound (program_of q) → Fit q (written (start_config (program_of q)))
start_fits q s = (s, (rw back (start_accepted (program_of q) s), ap written back))
  where
    -- it is read back
    back : config_of (program_of q) (written (start_config (program_of q))) ≡ start_config (program_of q)
    back = reads_written (program_of q) (start_config (program_of q)) s (start_accepted (program_of q) s)
