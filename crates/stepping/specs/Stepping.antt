-- What is handed in, laid into the flat arrays, tested and stepped: that what comes out is the step of what is handed in.
use Rattle.std.specs.Prelude.{ℕ, ◌≡◌, refl, Bool, true, false, not}
use Rattle.std.proofs.Math.Path.{ap, subst}
use Rattle.std.proofs.Common.{sym, ◌∙◌}
use Rattle.std.proofs.Math.Bool.{cond, true≢false}
use borrow.Author.Tests.{not-false, not-true}
use Rattle.lists.specs.Tells.{Tells}
use Rattle.answers.specs.declared.Answer.TheVariants.{NotAccepted}
use Rattle.values.specs.declared.Live.{Live}
use Rattle.rules.specs.Step as definition
use Rattle.soundness.specs.Sound.{Sound, sound, sound_is}
use Rattle.tables.specs.declared.Program.{Program as Tables}
use Rattle.tables.specs.Decode.{program_of}
use Rattle.configs.specs.declared.Config.{Config as Held}
use Rattle.configs.specs.Decode.{config_of}
use Rattle.configs.specs.declared.Flat.{Flat}
use Rattle.configs.specs.Flat.{Sized, held, flat_config}
use Rattle.engine.specs.Outcome.{Outcome}
use Rattle.accepting.specs.Asked.{IsOne}
use Rattle.handed.specs.declared.Stepped.{Stepped}
use Rattle.handed.specs.Handed as handed
use Rattle.handed.specs.Handed.{fit_is, refusing, after, step_of}

-- what a step leaves
abbrev pub stepped : Held → Outcome → Stepped
stepped c o = record { config = c; outcome = o }

-- WHAT A STEP LEAVES IN THE ARRAYS: they hold what the step of what they held leaves, and the answer is its answer
pub record Left (q : Tables) (f : Flat) (i : Live) (w : ℕ) (o : Outcome) (g : Flat) : Type 0 where
  pub sized : Sized g
  pub done : stepped (held g) o ≡ step_of q (held f) i w

-- a test that does not hold
not_told : {b : Bool} {P : Type 0} → Tells b P → (P → ⊥) → b ≡ false
not_told {b = true} t n = absurd (n (t.holds refl))
not_told {b = false} t n = refl

module _ (q : Tables) (c : Held) (i : Live) (w : ℕ) where
  -- 20: the program is not sound,
  pub step_unsound : sound (program_of q) ≡ false → refusing c NotAccepted ≡ step_of q c i w
  unfolding step_of
  step_unsound e = ap (λ (b : Bool). cond b (after c (definition.step (program_of q) (config_of (program_of q) c) (record { machine = i.0; bits = w }))) (refusing c NotAccepted))
      (sym (not_told (fit_is q c) (λ h. true≢false (sym ((sound_is (program_of q)).test h.0) ∙ e))))

  -- or the configuration is not one
  pub step_unaccepted : (f : Flat) (b : Bool) → held f ≡ c → Tells b (IsOne (program_of q) f) → not b ≡ true → refusing c NotAccepted ≡ step_of q c i w
  unfolding step_of
  step_unaccepted f b e t z = ap (λ (b : Bool). cond b (after c (definition.step (program_of q) (config_of (program_of q) c) (record { machine = i.0; bits = w }))) (refusing c NotAccepted))
      (sym (not_told (fit_is q c) (λ h. true≢false (sym (t.test (one h.1)) ∙ not-true b z))))
    where
      one : handed.IsOne q c → IsOne (program_of q) f
      one = subst (λ (d : Held). handed.IsOne q d → IsOne (program_of q) f) e (λ h. record { accepted = h.0; zeroed = h.1 })

-- WHAT IS LEFT of an accepted configuration of a sound program
pub step_done : (q : Tables) (f g : Flat) (i : Live) (w : ℕ) (o : Outcome) → Sound (program_of q) → IsOne (program_of q) f → Sized g
    → stepped (held g) o ≡ after (held f) (definition.step (program_of q) (flat_config (program_of q) f) (record { machine = i.0; bits = w })) → Left q f i w o g
unfolding step_of
step_done q f g i w o s h z d = record {
  sized = z;
  done = d
      ∙ ap (λ (b : Bool). cond b (after (held f) (definition.step (program_of q) (config_of (program_of q) (held f)) (record { machine = i.0; bits = w }))) (refusing (held f) NotAccepted))
      (sym ((fit_is q (held f)).test (s, (h.accepted, h.zeroed))));
}

-- the test that passed
pub passed : {P : Type 0} (b : Bool) → Tells b P → not b ≡ false → P
passed b t e = t.holds (not-false b e)
