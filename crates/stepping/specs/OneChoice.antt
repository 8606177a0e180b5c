-- THE STEP AS THE RUN OF ONE CHOICE: what the run leaves is what the step leaves; and a number beyond 65,535, which the number of a choice has no room for, is not live.
use Rattle.std.specs.Prelude.{ℕ, ◌≤◌, ◌<◌, ◌≡◌, refl, List, [], ◌∷◌, map, length, get_or, take, Ok, Err}
use Rattle.std.proofs.Common.{ap, subst, ◌∙◌, arith}
use Rattle.std.proofs.Math.Option.{none}
use Rattle.lists.specs.Facts.{All-get_d}
use Rattle.answers.specs.declared.Answer.TheVariants.{UnableToStep}
use Rattle.values.specs.declared.Live.{Live}
use Rattle.programs.specs.Sizes.{SPENT, CHOICES}
use Rattle.programs.specs.Program.{Program}
use Rattle.machines.specs.Config.{Config, Choice}
use Rattle.machines.specs.Rooms.{find}
use Rattle.runs.specs.Outcome.{took, refused}
use Rattle.runs.specs.Run.{Ended, run, ruled}
use Rattle.rules.specs.declared.Rule.{Rule}
use Rattle.rules.specs.Step as definition
use Rattle.acceptance.specs.Accepted.{RoomOk, MachineOk}
use Rattle.tables.specs.declared.Program.{Program as Tables}
use Rattle.tables.specs.Decode.{program_of}
use Rattle.configs.specs.Encode.{written}
use Rattle.configs.specs.declared.Flat.{Flat}
use Rattle.configs.specs.Flat.{held, flat_config}
use Rattle.choices.specs.Choices.{choice_word, choices_of, choice_again}
use Rattle.labels.specs.Labels.{rule_number, rule_of, rule_again}
use Rattle.rooms.specs.Places.{find_none}
use Rattle.accepting.specs.Asked.{IsOne}
use Rattle.admitting.specs.Admitting.{Laid}
use Rattle.handed.specs.Handed.{after}
use Rattle.handed_runs.specs.declared.Ending.{Ending}
use Rattle.handed_runs.specs.HandedRuns.{fronted}
use Rattle.runs.specs.Turns.{run_took, ruled_took, run_refused}
use Rattle.looping.specs.Looping.{RunLeft}
use Rattle.accepted_runs.specs.AcceptedRuns.{AcceptedAsked}
use Rattle.stepping.specs.Stepping.{Left, stepped, step_done}

-- what the run of one choice is asked
pub one_asked : {q : Tables} {f : Flat} {n : ℕ} {row : List ℕ} → Laid q f → IsOne (program_of q) f → length row ≡ CHOICES → AcceptedAsked q f (n ∷ []) 1 row
one_asked l h e = record { laid = l; one = h; inside = omega arith; few = omega arith; room = e }

-- AN ACCEPTED CONFIGURATION of a sound program
module _ {q : Tables} {f : Flat} (i : Live) (w : ℕ) (l : Laid q f) (h : IsOne (program_of q) f) where
  abbrev p : Program
  p = program_of q

  abbrev c : Config
  c = flat_config p f

  -- the choice of the machine i with the bits w
  abbrev x : Choice
  x = record { machine = i.0; bits = w }

  -- no machine has a number beyond 65,535: every live number is below the next one
  nobody_beyond : SPENT ≤ i.0 → find i.0 c.rooms ≡ none
  nobody_beyond b = find_none i.0 c.rooms (λ j m e n.
      let ok : MachineOk p c.next m = subst (RoomOk p c.next) e (All-get_d (RoomOk p c.next) none c.rooms j tt h.accepted.each_room) in
      omega (arith, b, n, ok.high, h.accepted.next_high))

  -- 19: SO THE NUMBER IS NOT LIVE
  pub left_beyond : SPENT ≤ i.0 → Left q f i w (Err UnableToStep) f
  unfolding definition.step
  left_beyond b = step_done q f f i w (Err UnableToStep) l.sound h l.sized (rw (nobody_beyond b))

  -- THE RUN OF THE ONE CHOICE
  module _ {row row' : List ℕ} {r : Ending} {g : Flat} (low : w < 256) (left : RunLeft p c (choice_word x ∷ []) 1 row r g row') where
    -- its number is the choice
    one : choices_of (take 1 (choice_word x ∷ [])) ≡ x ∷ []
    one = ap (λ (y : Choice). y ∷ []) (choice_again x low)

    -- the steps that it took, the answer that ended it, what it left, and the rules that it wrote
    steps_are : (e : Ended Config) → run (definition.step p) c (x ∷ []) ≡ e → r.steps ≡ e.steps
    steps_are e z = ap (λ (y : Ending). y.steps) left.ends ∙ ap (λ (y : List Choice). (run (definition.step p) c y).steps) one ∙ ap (λ (y : Ended Config). y.steps) z

    answer_is : (e : Ended Config) → run (definition.step p) c (x ∷ []) ≡ e → r.answer ≡ e.answer
    answer_is e z = ap (λ (y : Ending). y.answer) left.ends ∙ ap (λ (y : List Choice). (run (definition.step p) c y).answer) one ∙ ap (λ (y : Ended Config). y.answer) z

    held_is : (e : Ended Config) → run (definition.step p) c (x ∷ []) ≡ e → held g ≡ written e.config
    held_is e z = left.holds ∙ ap (λ (y : List Choice). written (run (definition.step p) c y).config) one ∙ ap (λ (y : Ended Config). written y.config) z

    rules_are : (rs : List Rule) → ruled (definition.step p) c (x ∷ []) ≡ rs → row' ≡ fronted (map rule_number rs) row
    rules_are rs z = left.rules ∙ ap (λ (y : List Choice). fronted (map rule_number (ruled (definition.step p) c y)) row) one ∙ ap (λ (y : List Rule). fronted (map rule_number y) row) z

    -- IT TOOK A STEP: by the rule whose number is written
    pub left_took : r.steps ≡ 1 → {R : Rule} → R ≡ rule_of (get_or row' 0 0) → Left q f i w (Ok R) g
    left_took e {R} s = step_done q f g i w (Ok R) l.sound h left.sized (go (definition.step p c x) refl)
      where
        go : (o : definition.Outcome) → definition.step p c x ≡ o → stepped (held g) (Ok R) ≡ after (held f) o
        go (took S d) z =
            let wrote = rules_are (S ∷ []) (ruled_took (definition.step p) c x [] S d z) in
            let same : R ≡ S = s ∙ ap (λ (y : List ℕ). rule_of (get_or y 0 0)) wrote ∙ rule_again S in
            let holds = held_is _ (run_took (definition.step p) c x [] S d z) in
            λ t. stepped (holds t) (Ok (same t))
        go (refused a) z = absurd (omega (arith, e, steps_are _ (run_refused (definition.step p) c x [] a z)))

    -- IT TOOK NONE: the answer is the step's
    pub left_refused : (r.steps ≡ 1 → ⊥) → Left q f i w (Err r.answer) g
    left_refused n = step_done q f g i w (Err r.answer) l.sound h left.sized (go (definition.step p c x) refl)
      where
        go : (o : definition.Outcome) → definition.step p c x ≡ o → stepped (held g) (Err r.answer) ≡ after (held f) o
        go (took S d) z = absurd (n (steps_are _ (run_took (definition.step p) c x [] S d z)))
        go (refused a) z =
            let ends = run_refused (definition.step p) c x [] a z in
            let holds : held g ≡ held f = held_is _ ends ∙ h.zeroed in
            let answer = answer_is _ ends in
            λ t. stepped (holds t) (Err (answer t))
