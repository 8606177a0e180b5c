-- The two programs write what the public functions give: a text that is loaded is never refused with 20, its choices never with 3.
use Rattle.std.specs.Prelude.{ℕ, ◌≤◌, ◌≡◌, List, length}
use Rattle.programs.specs.Program.{Program}
use Rattle.machines.specs.Config.{Choice}
use Rattle.runs.specs.Run.{run, ruled}
use Rattle.rules.specs.Step.{step, start_config}
use Rattle.kept.specs.Theorem.{start_accepted}
use Rattle.texts.specs.Reading.{loaded}
use Rattle.texts.specs.Answered.{answered}
use Rattle.loaded.specs.Loaded.{loaded_sound, loaded_choices}
use Rattle.public.specs.Public.{ran, public_run, public_rules, public_regroup, listed}
use Rattle.public.specs.Exact.{Fit, run_fit, rules_fit, regroup_fit}
use Rattle.meetings.specs.Meetings.{regroup}

module _ (t : List ℕ) (p : Program) (l : List Choice) (e : answered t ≡ loaded p l) where
  -- what a text loads fits: the program is sound and its start configuration accepted
  pub loaded_fit : Fit p (start_config p)
  loaded_fit = (loaded_sound t p l e, start_accepted p (loaded_sound t p l e))

  -- the run program's run is the public run
  pub run_is_public : public_run p (start_config p) l ≡ ran (run (step p) (start_config p) l)
  run_is_public = run_fit p (start_config p) l loaded_fit (loaded_choices t p l e).0

  -- its rules are those of the public run
  pub rules_are_public : public_rules p (start_config p) l ≡ ruled (step p) (start_config p) l
  rules_are_public = rules_fit p (start_config p) l loaded_fit (loaded_choices t p l e).0

  -- the regroup program's list is the public regrouping's, with a buffer that is long enough
  pub regroup_is_public : (room : ℕ) → length l ≤ room → public_regroup p (start_config p) l room ≡ listed (regroup p (start_config p) l)
  regroup_is_public room h = regroup_fit p (start_config p) l room loaded_fit (loaded_choices t p l e).0 h
