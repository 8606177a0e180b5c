-- The test of the configuration that lies in the engine's arrays, as the test of what is handed in.
use Rattle.std.specs.Prelude.{◌≡◌, Bool, false}
use Rattle.std.proofs.Common.{subst}
use Rattle.lists.specs.Tells.{Tells, form, refuted, denied, agree}
use Rattle.soundness.specs.Sound.{Sound, sound, sound_is}
use Rattle.tables.specs.declared.Program.{Program as Tables}
use Rattle.tables.specs.Decode.{program_of}
use Rattle.configs.specs.declared.Config.{Config as Held}
use Rattle.configs.specs.declared.Flat.{Flat}
use Rattle.configs.specs.Flat.{held}
use Rattle.accepting.specs.Asked.{IsOne}
use Rattle.handed.specs.Handed.{fit, fit_is}

module _ (q : Tables) (c : Held) where
  -- no configuration is one of a program that is not sound
  pub unsound_fit : sound (program_of q) ≡ false → false ≡ fit q c
  unsound_fit e = agree false (fit q c) (refuted (λ h. denied (sound_is (program_of q)) e h.0)) (fit_is q c)

  -- of a sound program it is one where what lies in the arrays is
  pub laid_fit : Sound (program_of q) → (f : Flat) (b : Bool) → held f ≡ c → Tells b (IsOne (program_of q) f) → b ≡ fit q c
  laid_fit s f b e t = subst (λ (d : Held). b ≡ fit q d) e
      (agree b (fit q (held f)) (form t (λ h. (s, (h.accepted, h.zeroed))) (λ h. record { accepted = h.1.0; zeroed = h.1.1 })) (fit_is q (held f)))
