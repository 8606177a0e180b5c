-- The answers of the public functions, each with its exact occasion; and what regroup writes is the list of demand 3.
use Rattle.std.specs.Prelude.{ℕ, ◌≤◌, ◌<◌, ◌≡◌, ◌↔◌, Bool, List, [], ◌∷◌}
use Rattle.std.proofs.Math.Path.{refl, ap}
use Rattle.std.proofs.Common.{sym, ◌∙◌, subst, true≢false, arith}
use Rattle.std.proofs.Math.Option.{Option, none, some, none-ne-some}
use Rattle.std.proofs.Math.Bool.{true, false, cond}
use borrow.Author.Tests.{leb-true, leb-false, le-leb, lt-leb}
use Rattle.std.proofs.Math.Dec.{leb}
use Rattle.std.proofs.Math.ListN.{length}
use Rattle.lists.specs.Tells.{Tells, both}
use Rattle.lists.specs.Ends.{but_last}
use Rattle.answers.specs.declared.Answer.{Answer}
use Rattle.answers.specs.declared.Answer.TheVariants.{Done, OutOfRange, NotAccepted, BufferTooShort, TookNoStep}
use Rattle.programs.specs.Sizes.{CHOICES}
use Rattle.programs.specs.Program.{Program}
use Rattle.programs.specs.Statements.{is_seq}
use Rattle.machines.specs.Config.{Pending, idle, raising, returning, Config, Choice}
use Rattle.runs.specs.Outcome.{refused}
use Rattle.runs.specs.Run.{Stepped, run, ruled}
use Rattle.rules.specs.Step.{step}
use Rattle.rules.specs.Occasions.{SeqFirst}
use Rattle.rules.proofs.Occasions.{answer_20}
use Rattle.soundness.specs.Sound.{Sound, sound_is}
use Rattle.acceptance.specs.Accepted.{NoSeq, Formed, Accepted}
use Rattle.acceptance.specs.Decide.{accepted_is}
use Rattle.kept.specs.Kept.{find_ok}
use Rattle.regrouping.specs.Demand.{Regrouping}
use Rattle.meetings.specs.Meetings.{meets, own, regroup}
use Rattle.meetings.specs.Good.{no_list, a_list}
use Rattle.meetings.proofs.Good.{regroup_good}
use Rattle.public.specs.Public.{fit, public_step, ran, stopped, public_run, public_rules, wrote_nothing, listed, public_regroup}

module _ (p : Program) (c : Config) where
  -- the program is sound and the configuration accepted
  abbrev pub Fit : Type 0
  Fit = Sound p × Accepted p c

  fit_is : Tells (fit p c) Fit
  unfolding fit
  fit_is = both (sound_is p) (accepted_is p c)

  fit_true : Fit → fit p c ≡ true
  fit_true = fit_is.test

  fit_false : (Fit → ⊥) → fit p c ≡ false
  fit_false h = go (fit p c) refl
    where
      go : (b : Bool) → fit p c ≡ b → b ≡ false
      go true e = absurd (h (fit_is.holds e))
      go false e = refl

  unfit : fit p c ≡ false → Fit → ⊥
  unfit e h = true≢false (sym (fit_true h) ∙ e)

  -- an accepted row begins with no seq
  no_seq_first : (s : ℕ) (r : List ℕ) (q : Pending) → Formed p (s ∷ r) q → NoSeq p s
  no_seq_first s [] idle h = h.0
  no_seq_first s [] (raising e v) h = h
  no_seq_first s [] returning h = h
  no_seq_first s (t ∷ r) q h = h

  -- from an accepted configuration the step itself never answers 20
  pub step_not_20 : (x : Choice) → Accepted p c → step p c x ≡ refused NotAccepted → ⊥
  step_not_20 x h e = go ((answer_20 p c x.machine x.bits).0 e)
    where
      go : SeqFirst p c x.machine x.bits → ⊥
      go (m, f, γ, s, r, a, b, at) =
          let formed = subst (λ t. Formed p t m.loc.pending) at.head (find_ok p c.next x.machine c.rooms m h.each_room at.found).0.loc_ok.row_ok.formed in
          none-ne-some _ (sym (no_seq_first s r m.loc.pending formed) ∙ ap is_seq at.is)

  -- THE STEP: 20 exactly where the program is not sound or the configuration not accepted; otherwise it is the step
  pub step_20 : (x : Choice) → (public_step p c x ≡ refused NotAccepted) ↔ (Fit → ⊥)
  unfolding public_step
  step_20 x = (to, (λ h. rw (fit_false h)))
    where
      to : cond (fit p c) (step p c x) (refused NotAccepted) ≡ refused NotAccepted → Fit → ⊥
      to e h = step_not_20 x h.1 (rw (fit_true h) at e)

  -- and is the step itself otherwise
  pub step_fit : (x : Choice) → Fit → public_step p c x ≡ step p c x
  unfolding public_step
  step_fit x h = rw (fit_true h)

  module _ (l : List Choice) where
    within : length l ≤ CHOICES → leb (length l) CHOICES ≡ true
    within h = le-leb (length l) CHOICES h

    -- THE RUN: 20, then 3, before the first choice; otherwise it is the run
    pub run_20 : (Fit → ⊥) → public_run p c l ≡ stopped c NotAccepted
    unfolding public_run
    run_20 h = rw (fit_false h)

    -- 3
    pub run_3 : Fit → CHOICES < length l → public_run p c l ≡ stopped c OutOfRange
    unfolding public_run
    run_3 h k = rw (fit_true h, lt-leb (length l) CHOICES k)

    -- otherwise
    pub run_fit : Fit → length l ≤ CHOICES → public_run p c l ≡ ran (run (step p) c l)
    unfolding public_run
    run_fit h k = rw (fit_true h, within k)

    -- and the rules are those of its steps
    pub rules_fit : Fit → length l ≤ CHOICES → public_rules p c l ≡ ruled (step p) c l
    unfolding public_rules
    rules_fit h k = rw (fit_true h, within k)

    -- none at 3
    pub rules_3 : Fit → CHOICES < length l → public_rules p c l ≡ []
    unfolding public_rules
    rules_3 h k = rw (fit_true h, lt-leb (length l) CHOICES k)

    -- REGROUP: the occasions of its answers, `room` being the length of the output buffer
    module _ (room : ℕ) where
      -- each answer with its occasion
      pub data Answers : Answer → Type 0 where
        is_20 : (Fit → ⊥) → Answers NotAccepted
        is_3 : Fit → CHOICES < length l → Answers OutOfRange
        is_21 : Fit → length l ≤ CHOICES → room < length l → Answers BufferTooShort
        is_22 : Fit → length l ≤ CHOICES → length l ≤ room → (Stepped (step p) c (but_last l) → ⊥) → Answers TookNoStep
        is_0 : Fit → length l ≤ CHOICES → length l ≤ room → Stepped (step p) c (but_last l) → Answers Done

      by_list : Fit → length l ≤ CHOICES → length l ≤ room → (o : Option (List Choice)) → regroup p c l ≡ o →
          Answers (listed o).answer
      by_list h k r none e = is_22 h k r (no_list p c l e)
      by_list h k r (some m) e = is_0 h k r (a_list p c l m e)

      given : Answers (public_regroup p c l room).answer
      unfolding public_regroup
      given = fitted (fit p c) refl
        where
          roomed : Fit → length l ≤ CHOICES → (b : Bool) → leb (length l) room ≡ b →
              Answers (cond b (listed (regroup p c l)) (wrote_nothing BufferTooShort)).answer
          roomed h k true e = by_list h k (leb-true (length l) room e) (regroup p c l) refl
          roomed h k false e = is_21 h k (let z = leb-false (length l) room e in omega arith)

          sized : Fit → (b : Bool) → leb (length l) CHOICES ≡ b →
              Answers (cond b (cond (leb (length l) room) (listed (regroup p c l)) (wrote_nothing BufferTooShort)) (wrote_nothing OutOfRange)).answer
          sized h true e = roomed h (leb-true (length l) CHOICES e) (leb (length l) room) refl
          sized h false e = is_3 h (let z = leb-false (length l) CHOICES e in omega arith)

          fitted : (b : Bool) → fit p c ≡ b →
              Answers (cond b (cond (leb (length l) CHOICES) (cond (leb (length l) room) (listed (regroup p c l)) (wrote_nothing BufferTooShort)) (wrote_nothing OutOfRange)) (wrote_nothing NotAccepted)).answer
          fitted true e = sized (fit_is.holds e) (leb (length l) CHOICES) refl
          fitted false e = is_20 (unfit e)

      -- 20: nothing is written
      pub regroup_20 : (Fit → ⊥) → public_regroup p c l room ≡ wrote_nothing NotAccepted
      unfolding public_regroup
      regroup_20 h = rw (fit_false h)

      -- 3
      pub regroup_3 : Fit → CHOICES < length l → public_regroup p c l room ≡ wrote_nothing OutOfRange
      unfolding public_regroup
      regroup_3 h k = rw (fit_true h, lt-leb (length l) CHOICES k)

      -- 21
      pub regroup_21 : Fit → length l ≤ CHOICES → room < length l → public_regroup p c l room ≡ wrote_nothing BufferTooShort
      unfolding public_regroup
      regroup_21 h k r = rw (fit_true h, within k, lt-leb (length l) room r)

      none_listed : (Stepped (step p) c (but_last l) → ⊥) → (o : Option (List Choice)) → regroup p c l ≡ o →
          (listed o).answer ≡ TookNoStep
      none_listed n none e = refl
      none_listed n (some m) e = absurd (n (a_list p c l m e))

      answers : {a : Answer} → Answers a → (public_regroup p c l room).answer ≡ a
      unfolding public_regroup
      answers (is_20 h) = ap (λ w. w.answer) (regroup_20 h)
      answers (is_3 h k) = ap (λ w. w.answer) (regroup_3 h k)
      answers (is_21 h k r) = ap (λ w. w.answer) (regroup_21 h k r)
      answers (is_22 h k r n) = rw (fit_true h, within k, le-leb (length l) room r) (none_listed n (regroup p c l) refl)
      answers (is_0 h k r n) = rw (fit_true h, within k, le-leb (length l) room r, (regroup_good p c l h.0 h.1 n).1)

      -- each answer is given exactly on its occasion
      pub regroup_answer : {a : Answer} → ((public_regroup p c l room).answer ≡ a) ↔ Answers a
      regroup_answer {a} = ((λ e. subst Answers e given), answers)

      -- where program, configuration, list and buffer are as they should be, what is written is the regrouped list
      pub regroup_fit : Fit → length l ≤ CHOICES → length l ≤ room → public_regroup p c l room ≡ listed (regroup p c l)
      unfolding public_regroup
      regroup_fit h k r = rw (fit_true h, within k, le-leb (length l) room r)

      -- DEMAND 3: on answer 0 what is written has all five facts
      pub regroup_wrote : Fit → length l ≤ CHOICES → length l ≤ room → Stepped (step p) c (but_last l) →
          (m : List Choice) × (public_regroup p c l room ≡ record { answer = Done; list = m }) × Regrouping (step p) own meets c l m
      unfolding public_regroup
      regroup_wrote h k r n = let t = regroup_good p c l h.0 h.1 n in (t.0, regroup_fit h k r ∙ ap listed t.1, t.2)
