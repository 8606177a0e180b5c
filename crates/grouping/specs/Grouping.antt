-- What regroup answers and writes of what is handed in, occasion by occasion: 20, 3, 21, 22 in that order; on 0 the regrouped list.
use Rattle.std.proofs.lemmas.Bool.{not-true}
use Rattle.std.specs.Prelude.{ℕ, suc, ◌-◌, ◌≤◌, ◌<◌, ◌≡◌, refl, Bool, true, false, not, cond, eqb, take, Result, Ok, Err}
use Rattle.std.proofs.Common.{ap, sym, ◌∙◌, subst, arith, length-take-le}
use mathlib.Core.List.{List, [], ◌∷◌, map}
use Rattle.std.proofs.Math.ListN.{length}
use Rattle.std.proofs.lemmas.List.{length-map}
use Rattle.lists.specs.Tells.{Tells, refuted, denied, agree}
use Rattle.lists.specs.Ends.{but_last, take_init, map_init}
use Rattle.answers.specs.declared.Answer.{Answer}
use Rattle.answers.specs.declared.Answer.TheVariants.{Done, OutOfRange, NotAccepted, BufferTooShort, TookNoStep}
use Rattle.answers.specs.Number.{number}
use Rattle.programs.specs.Sizes.{CHOICES}
use Rattle.choices.specs.Choices.{choice_of, choices_of}
use Rattle.labels.specs.Labels.{rule_number}
use Rattle.runs.specs.Run.{run, ruled}
use Rattle.soundness.specs.Sound.{sound, sound_is}
use Rattle.rules.specs.Step.{step}
use Rattle.regrouping.specs.Demand.{regroup as regroup_over}
use Rattle.meetings.specs.Meetings.{regroup}
use Rattle.public.specs.Public.{Wrote, wrote_nothing, listed, public_regroup}
use Rattle.public.specs.Exact.{regroup_3, regroup_21, regroup_fit}
use Rattle.tables.specs.declared.Program.{Program as Tables}
use Rattle.tables.specs.Decode.{program_of}
use Rattle.configs.specs.declared.Config.{Config as Held}
use Rattle.configs.specs.Decode.{config_of}
use Rattle.configs.specs.declared.Flat.{Flat}
use Rattle.configs.specs.Flat.{held, flat_config}
use Rattle.accepting.specs.Asked.{IsOne}
use Rattle.admitting.specs.Admitting.{Laid}
use Rattle.stepping.specs.Stepping.{passed}
use Rattle.handed.specs.Handed.{Fit, fit, fit_is}
use Rattle.handed_runs.specs.HandedRuns.{fronted, regroup_of, numbers_of}
use Rattle.handed_runs.specs.declared.Ending.{Ending}
use Rattle.looping.specs.Looping.{RunLeft}
use Rattle.placing.specs.Placed.{placed_list}
use Rattle.placing.specs.ByRun.{regroup_placed, regroup_none}

-- THE CHOICES BEFORE THE LAST, where there are n of them
module _ (l : List ℕ) (n : ℕ) (some_are : suc n ≡ length l) where
  before_are : choices_of (take n l) ≡ but_last (choices_of l)
  before_are = go l some_are
    where
      go : (l : List ℕ) → suc n ≡ length l → choices_of (take n l) ≡ but_last (choices_of l)
      go [] e = absurd (omega (arith, e))
      go (y ∷ l) e = let is : n ≡ length l = omega (arith, e) in rw is (ap (map choice_of) (take_init y l) ∙ map_init choice_of y l)

  before_many : length (but_last (choices_of l)) ≡ n
  before_many = ap length (sym before_are) ∙ length-map (take n l) choice_of ∙ length-take-le n l (omega (arith, some_are))

module _ (q : Tables) (c : Held) (l : List ℕ) (room : ℕ) where
  -- 20
  pub grouped_20 : fit q c ≡ false → regroup_of q c l room ≡ wrote_nothing NotAccepted
  unfolding regroup_of
  grouped_20 e = rw e

  module _ (h : Fit q c) where
    -- it is the public one
    is_public : regroup_of q c l room ≡ public_regroup (program_of q) (config_of (program_of q) c) (choices_of l) room
    unfolding regroup_of
    is_public = rw ((fit_is q c).test h)

    many : length (choices_of l) ≡ length l
    many = length-map l choice_of

    -- 3
    pub grouped_3 : CHOICES < length l → regroup_of q c l room ≡ wrote_nothing OutOfRange
    grouped_3 k = is_public ∙ regroup_3 (program_of q) (config_of (program_of q) c) (choices_of l) room (h.0, h.1.0) (rw many k)

    -- 21
    pub grouped_21 : length l ≤ CHOICES → room < length l → regroup_of q c l room ≡ wrote_nothing BufferTooShort
    grouped_21 k r = is_public ∙ regroup_21 (program_of q) (config_of (program_of q) c) (choices_of l) room (h.0, h.1.0) (rw many k) (rw many r)

    -- otherwise what the definitions' regrouping gives
    pub grouped_else : length l ≤ CHOICES → length l ≤ room → regroup_of q c l room ≡ listed (regroup (program_of q) (config_of (program_of q) c) (choices_of l))
    grouped_else k r = is_public ∙ regroup_fit (program_of q) (config_of (program_of q) c) (choices_of l) room (h.0, h.1.0) (rw many k) (rw many r)

    -- where there is no choice nothing is written
    pub grouped_none : length l ≡ 0 → regroup_of q c l room ≡ record { answer = Done; list = [] }
    unfolding regroup_over
    grouped_none e = go l e grouped_else
      where
        go : (l : List ℕ) → length l ≡ 0 → (length l ≤ CHOICES → length l ≤ room → regroup_of q c l room ≡ listed (regroup (program_of q) (config_of (program_of q) c) (choices_of l)))
            → regroup_of q c l room ≡ record { answer = Done; list = [] }
        go [] e f = f (omega arith) (omega arith)
        go (y ∷ l) e f = absurd (omega (arith, e))

    -- n choices stand before the last
    module _ (n : ℕ) (some_are : suc n ≡ length l) (few : length l ≤ CHOICES) (fits : length l ≤ room) where
      -- 22
      pub grouped_22 : ((run (step (program_of q)) (config_of (program_of q) c) (choices_of (take n l))).steps ≡ n → ⊥) → regroup_of q c l room ≡ wrote_nothing TookNoStep
      grouped_22 short = grouped_else few fits
          ∙ ap listed (regroup_none (step (program_of q)) (config_of (program_of q) c) (choices_of l) (λ e. short (rw (before_are l n some_are) (e ∙ before_many l n some_are))))

      -- 0: what is placed by the numbers of the rules is what is written
      pub grouped_0 : (run (step (program_of q)) (config_of (program_of q) c) (choices_of (take n l))).steps ≡ n → (row : List ℕ)
          → ((regroup_of q c l room).answer ≡ Done)
          × (placed_list l (fronted (map rule_number (ruled (step (program_of q)) (config_of (program_of q) c) (choices_of (take n l)))) row) ≡ numbers_of (regroup_of q c l room))
      grouped_0 all row =
          let placed = regroup_placed (step (program_of q)) (config_of (program_of q) c) l ((rw (before_are l n some_are) at all) ∙ sym (before_many l n some_are)) in
          rw (grouped_else few fits, placed.1, before_are l n some_are) (refl, placed.2 _)

-- 0 is no refusal, and any other answer is one
abbrev pub refusal_of : Answer → Result (Unit {0}) Answer
refusal_of a = cond (eqb (number a) 0) (Ok tt) (Err a)

-- WHAT REGROUP GIVES: its answer, and what the output buffer holds then
pub record GroupedAs (q : Tables) (c : Held) (l out : List ℕ) (r : Result (Unit {0}) Answer) (out' : List ℕ) : Type 0 where
  pub answer : r ≡ refusal_of (regroup_of q c l (length out)).answer
  pub wrote : out' ≡ fronted (numbers_of (regroup_of q c l (length out))) out

-- a refusal: nothing is written, fact by fact,
nothing_said : {w : Wrote} (out : List ℕ) {a : Answer} → w ≡ wrote_nothing a → (a ≡ w.answer) × (out ≡ fronted (numbers_of w) out)
nothing_said out e = (ap (λ w. w.answer) (sym e), ap (λ w. fronted (numbers_of w) out) (sym e))

-- and as what regroup gives
nothing_written : {q : Tables} {c : Held} {l out : List ℕ} {a : Answer} → regroup_of q c l (length out) ≡ record { answer = a; list = [] } → GroupedAs q c l out (refusal_of a) out
nothing_written {out = out} e = let so = nothing_said out e in record { answer = ap refusal_of so.0; wrote = so.1 }

-- 20: the program is not sound,
pub group_unsound : (q : Tables) (c : Held) (l out : List ℕ) → sound (program_of q) ≡ false → GroupedAs q c l out (Err NotAccepted) out
group_unsound q c l out e = let so = nothing_said out (grouped_20 q c l (length out) (agree _ _ (fit_is q c) (refuted (λ h. denied (sound_is (program_of q)) e h.0)))) in record { answer = ap refusal_of so.0; wrote = so.1 }

module _ (q : Tables) (f : Flat) (l out : List ℕ) (z : Laid q f) {b : Bool} (t : Tells b (IsOne (program_of q) f)) where
  -- or the arrays hold no configuration
  pub group_unaccepted : not b ≡ true → GroupedAs q (held f) l out (Err NotAccepted) out
  group_unaccepted n = let so = nothing_said out (grouped_20 q (held f) l (length out) (agree _ _ (fit_is q (held f)) (refuted (λ h. denied t (not-true b n) (record { accepted = h.1.0; zeroed = h.1.1 }))))) in record { answer = ap refusal_of so.0; wrote = so.1 }

  -- THEY HOLD ONE
  module _ (n : not b ≡ false) where
    abbrev fit_held : Fit q (held f)
    fit_held = let one = passed b t n in (z.sound, (one.accepted, one.zeroed))

    -- 3
    pub group_long : CHOICES < length l → GroupedAs q (held f) l out (Err OutOfRange) out
    group_long k = let so = nothing_said out (grouped_3 q (held f) l (length out) fit_held k) in record { answer = ap refusal_of so.0; wrote = so.1 }

    -- 21
    pub group_short : length l ≤ CHOICES → length out < length l → GroupedAs q (held f) l out (Err BufferTooShort) out
    group_short k r = let so = nothing_said out (grouped_21 q (held f) l (length out) fit_held k r) in record { answer = ap refusal_of so.0; wrote = so.1 }

    -- no choice
    pub group_none : length l ≡ 0 → GroupedAs q (held f) l out (Ok tt) out
    group_none e = let so = nothing_said out (grouped_none q (held f) l (length out) fit_held e) in record { answer = ap refusal_of so.0; wrote = so.1 }

    -- the choices before the last were run
    module _ (any : length l ≡ 0 → ⊥) (few : length l ≤ CHOICES) (fits : length l ≤ length out) {row row' : List ℕ} {e : Ending} {g : Flat}
        (left : RunLeft (program_of q) (flat_config (program_of q) f) l (length l - 1) row e g row') where
      before_last : suc (length l - 1) ≡ length l
      before_last = omega (arith, any)

      steps_are : e.steps ≡ (run (step (program_of q)) (config_of (program_of q) (held f)) (choices_of (take (length l - 1) l))).steps
      steps_are = ap (λ (x : Ending). x.steps) left.ends

      -- 22
      pub group_22 : (e.steps ≡ length l - 1 → ⊥) → GroupedAs q (held f) l out (Err TookNoStep) out
      group_22 short = let so = nothing_said out (grouped_22 q (held f) l (length out) fit_held (length l - 1) before_last few fits (λ h. short (steps_are ∙ h))) in record { answer = ap refusal_of so.0; wrote = so.1 }

      -- 0
      pub group_0 : {out' : List ℕ} → e.steps ≡ length l - 1 → out' ≡ fronted (placed_list l row') out → GroupedAs q (held f) l out (Ok tt) out'
      group_0 h w =
          let done = grouped_0 q (held f) l (length out) fit_held (length l - 1) before_last few fits (sym steps_are ∙ h) row in
          record { answer = ap refusal_of (sym done.0); wrote = w ∙ ap (λ (xs : List ℕ). fronted xs out) (ap (placed_list l) left.rules ∙ done.1) }

-- the same of the configuration that was laid into the arrays
pub group_from : {q : Tables} {c d : Held} {l out out' : List ℕ} {r : Result (Unit {0}) Answer} → GroupedAs q c l out r out' → c ≡ d → GroupedAs q d l out r out'
group_from {q} {c} {d} {l} {out} {out'} {r} h e = subst (λ (x : Held). GroupedAs q x l out r out') e h
