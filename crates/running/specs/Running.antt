-- What is handed in, laid into the flat arrays, tested and run: that what comes out is the run of what is handed in.
use Rattle.std.specs.Prelude.{ℕ, ◌≤◌, ◌<◌, ◌≡◌, Bool, true, false, not, List, [], map, length}
use Rattle.std.proofs.Math.Path.{refl, ap}
use Rattle.std.proofs.Common.{sym, ◌∙◌, subst}
use Rattle.std.proofs.Math.Bool.{cond}
use Rattle.std.proofs.lemmas.Bool.{not-true}
use Rattle.std.proofs.lemmas.List.{length-map}
use Rattle.std.proofs.Math.Seq.{take-length}
use Rattle.lists.specs.Tells.{Tells, refuted, denied, agree}
use Rattle.answers.specs.declared.Answer.{Answer}
use Rattle.answers.specs.declared.Answer.TheVariants.{OutOfRange, NotAccepted}
use Rattle.programs.specs.Sizes.{CHOICES}
use Rattle.runs.specs.Run.{run, ruled}
use Rattle.rules.specs.Step.{step}
use Rattle.soundness.specs.Sound.{sound, sound_is}
use Rattle.public.specs.Public as public
use Rattle.public.specs.Public.{public_rules, ran}
use Rattle.public.specs.Exact.{run_3, run_fit, rules_fit, rules_3}
use Rattle.tables.specs.declared.Program.{Program as Tables}
use Rattle.tables.specs.Decode.{program_of}
use Rattle.configs.specs.declared.Config.{Config as Held}
use Rattle.configs.specs.Decode.{config_of}
use Rattle.configs.specs.declared.Flat.{Flat}
use Rattle.configs.specs.Flat.{Sized, held, flat_config}
use Rattle.choices.specs.Choices.{choice_of, choices_of}
use Rattle.labels.specs.Labels.{rule_number}
use Rattle.handed.specs.Handed.{Fit, fit_is}
use Rattle.accepting.specs.Asked.{IsOne}
use Rattle.admitting.specs.Admitting.{Laid}
use Rattle.handed_runs.specs.declared.Ending.{Ending}
use Rattle.handed_runs.specs.declared.Ran.{Ran}
use Rattle.handed_runs.specs.HandedRuns.{ran_as, stopped_at, run_of, rules_of, fronted}
use Rattle.stepping.specs.Stepping.{passed}
use Rattle.looping.specs.Looping.{RunLeft}

-- the end of a run that is stopped before its first choice
abbrev pub stopped_with : Answer → Ending
stopped_with a = record { answer = a; place = 0; steps = 0 }

-- a run's last configuration with its end
abbrev pub ran_with : Held → Ending → Ran
ran_with c e = record { config = c; end = e }

-- what lies in the arrays is asked of a sound program, and the row of rules has its places
pub record RunLaid (q : Tables) (f : Flat) (row : List ℕ) : Type 0 where
  pub laid : Laid q f
  pub room : length row ≡ CHOICES

-- THE RUN of what is handed in, and its rules
pub record RanAs (q : Tables) (c : Held) (l row : List ℕ) (r : Ran) (row' : List ℕ) : Type 0 where
  pub ran : r ≡ run_of q c l
  pub rules : row' ≡ fronted (rules_of q c l) row

-- WHAT A RUN LEAVES IN THE ARRAYS: they hold what the run of what they held leaves, its end is its end, and its rules are written
pub record Left (q : Tables) (f : Flat) (l row : List ℕ) (r : Ending) (g : Flat) (row' : List ℕ) : Type 0 where
  pub sized : Sized g
  pub done : RanAs q (held f) l row (ran_with (held g) r) row'

module _ (q : Tables) (c : Held) (l row : List ℕ) where
  -- 20: nothing is run
  run_unfit : (Fit q c → ⊥) → RanAs q c l row (stopped_at c NotAccepted) row
  unfolding run_of rules_of
  run_unfit n =
      let e = agree _ _ (fit_is q c) (refuted n) in
      record { ran = rw e refl; rules = rw e refl }

  -- so where the program is not sound
  pub run_unsound : sound (program_of q) ≡ false → RanAs q c l row (stopped_at c NotAccepted) row
  run_unsound e = run_unfit (λ h. denied (sound_is (program_of q)) e h.0)

  -- NOTHING OF 20 HOLDS
  module _ (h : Fit q c) where
    -- it is the definitions' run of what is handed in,
    run_public : run_of q c l ≡ ran_as (public.public_run (program_of q) (config_of (program_of q) c) (choices_of l))
    unfolding run_of
    run_public = ap (λ (b : Bool). cond b (ran_as (public.public_run (program_of q) (config_of (program_of q) c) (choices_of l))) (stopped_at c NotAccepted)) ((fit_is q c).test h)

    -- with its rules
    rules_public : rules_of q c l ≡ map rule_number (public_rules (program_of q) (config_of (program_of q) c) (choices_of l))
    unfolding rules_of
    rules_public = ap (λ (b : Bool). cond b (map rule_number (public_rules (program_of q) (config_of (program_of q) c) (choices_of l))) []) ((fit_is q c).test h)

    -- as many choices as numbers
    many : length (choices_of l) ≡ length l
    many = length-map l choice_of

    -- 3: nothing is run
    run_long : CHOICES < length l → RanAs q c l row (stopped_at c OutOfRange) row
    run_long k =
        let long : CHOICES < length (choices_of l) = subst (λ (n : ℕ). CHOICES < n) (sym many) k in
        record {
          ran = sym (run_public ∙ ap ran_as (run_3 (program_of q) (config_of (program_of q) c) (choices_of l) (h.0, h.1.0) long) ∙ ap (λ (d : Held). stopped_at d OutOfRange) h.1.1);
          rules = ap (λ (xs : List ℕ). fronted xs row) (sym (rules_public ∙ ap (map rule_number) (rules_3 (program_of q) (config_of (program_of q) c) (choices_of l) (h.0, h.1.0) long)));
        }

    -- THE RUN: what its loop leaves
    run_left : (g : Flat) (r : Ending) (row' : List ℕ) → length l ≤ CHOICES → RunLeft (program_of q) (config_of (program_of q) c) l (length l) row r g row' → RanAs q c l row (ran_with (held g) r) row'
    run_left g r row' k d =
        let few : length (choices_of l) ≤ CHOICES = subst (λ (n : ℕ). n ≤ CHOICES) (sym many) k in
        record {
          ran = (λ i. ran_with (d.holds i) (d.ends i)) ∙ ap (λ (ys : List ℕ). ran_as (ran (run (step (program_of q)) (config_of (program_of q) c) (choices_of ys)))) (take-length l)
              ∙ sym (run_public ∙ ap ran_as (run_fit (program_of q) (config_of (program_of q) c) (choices_of l) (h.0, h.1.0) few));
          rules = d.rules ∙ ap (λ (ys : List ℕ). fronted (map rule_number (ruled (step (program_of q)) (config_of (program_of q) c) (choices_of ys))) row) (take-length l)
              ∙ ap (λ (xs : List ℕ). fronted xs row) (sym (rules_public ∙ ap (map rule_number) (rules_fit (program_of q) (config_of (program_of q) c) (choices_of l) (h.0, h.1.0) few)));
        }

module _ (q : Tables) (f : Flat) (l row : List ℕ) (z : Laid q f) {b : Bool} (t : Tells b (IsOne (program_of q) f)) where
  -- THE ARRAYS HOLD NONE
  pub left_unaccepted : {r : Ending} → not b ≡ true → r ≡ stopped_with NotAccepted → Left q f l row r f row
  left_unaccepted n e = rw e (record { sized = z.sized; done = run_unfit q (held f) l row (λ h. denied t (not-true b n) (record { accepted = h.1.0; zeroed = h.1.1 })) })

  -- THEY HOLD ONE
  module _ (n : not b ≡ false) where
    -- nothing of 20 holds
    abbrev fits : Fit q (held f)
    fits = let one = passed b t n in (z.sound, (one.accepted, one.zeroed))

    -- too many choices
    pub left_long : {r : Ending} → CHOICES < length l → r ≡ stopped_with OutOfRange → Left q f l row r f row
    left_long k e = rw e (record { sized = z.sized; done = run_long q (held f) l row fits k })

    -- the run
    pub left_run : {g : Flat} {r : Ending} {row' : List ℕ} → length l ≤ CHOICES → RunLeft (program_of q) (flat_config (program_of q) f) l (length l) row r g row' → Left q f l row r g row'
    left_run {g} {r} {row'} k d = record { sized = d.sized; done = run_left q (held f) l row fits g r row' k d }

-- WHAT IS LEFT, lifted out of the arrays, of what was laid into them
pub left_lifted : {q : Tables} {f : Flat} {l row : List ℕ} {r : Ending} {g : Flat} {row' : List ℕ} (c d : Held) → Left q f l row r g row' → held f ≡ c → d ≡ held g → RanAs q c l row (ran_with d r) row'
left_lifted {q} {f} {l} {row} {r} {g} {row'} c d h e k = record {
  ran = ap (λ (x : Held). ran_with x r) k ∙ h.done.ran ∙ ap (λ (x : Held). run_of q x l) e;
  rules = h.done.rules ∙ ap (λ (x : Held). fronted (rules_of q x l) row) e;
}
