-- What the calls of the regroup program leave, each of what the ones before it left: the loaded text, its start, its regrouped list, the choice lines and the answer.
use Rattle.std.specs.Prelude.{ℕ, ◌+◌, ◌≤◌, ◌≡◌, refl, List, ◌++◌, map, length, take, drop, replicate}
use Rattle.std.proofs.Common.{ap, sym, ◌∙◌, subst, arith, length-append, length-drop, take_at}
use Rattle.std.proofs.Math.Option.{Option, none, some}
use Rattle.std.proofs.lemmas.List.{length-replicate, length-map}
use Rattle.lists.specs.Lists.{flat}
use Rattle.lists.specs.Facts.{All-map}
use Rattle.answers.specs.declared.Answer.{Answer}
use Rattle.answers.specs.declared.Answer.TheVariants.{Done}
use Rattle.answers.specs.Number.{number}
use Rattle.programs.specs.Sizes.{CHOICES}
use Rattle.machines.specs.Config.{Choice}
use Rattle.choices.specs.Choices.{choice_word}
use Rattle.public.specs.Public.{Wrote as Regrouped, listed}
use Rattle.outputs.specs.Programs.{refusal, choice_line, regroup_program}
use Rattle.outputs.specs.Lengths.{answer_length}
use Rattle.tabled.specs.Tabled.{Loaded}
use Rattle.tabled.specs.Tabled.{load_of}
use Rattle.handed_runs.specs.HandedRuns.{regroup_of, numbers_of, fronted}
use Rattle.starting.specs.Started.{Started}
use Rattle.starting.specs.Started.{start_of}
use Rattle.handed_out.specs.HandedOut.{Loads, few, count_is}
use Rattle.handed_out.specs.Called.{loads, words, starts}
use Rattle.writing.specs.Wrote.{Room, Wrote, room_first, room_second, wrote_both, wrote_front}
use Rattle.output_lines.specs.OutputLines.{answer_line}
use Rattle.telling.specs.Rows.{OUTPUT, choice_rows, rows_are_choices}
use Rattle.telling.specs.Turns.{ChoicesAsked}
use Rattle.regroup_text.specs.RegroupText.{refused_text, grouped, regroup_is, no_list_text, list_text, as_many, list_ranged, all_fits}

-- the row for the list, before the regrouping
abbrev no_list : List ℕ
no_list = replicate CHOICES 0

-- WHAT THE REGROUP PROGRAM WRITES stands in the buffer from its front on, and r is its length
abbrev pub Answers : List ℕ → List ℕ → ℕ → List ℕ → Type 0
Answers t old r new = (r ≡ length (regroup_program t)) × (new ≡ fronted (regroup_program t) old)

-- what was written from the front on is that
answers : (t : List ℕ) {bs old : List ℕ} {r : ℕ} {new : List ℕ} → bs ≡ regroup_program t → Wrote bs 0 old r new → Answers t old r new
answers t {bs} {old} {r} {new} e w = subst (λ (l : List ℕ). (r ≡ length l) × (new ≡ fronted l old)) e (wrote_front w)

-- an answer alone has room in any buffer that is not very short
pub answer_room : (a : Answer) (out : List ℕ) → 7 ≤ length out → Room (answer_line a) 0 out
answer_room a out h = record { fits = omega (arith, h, answer_length a) }

module _ (t : List ℕ) {x : Loaded} (e : x ≡ load_of t) where
  -- A REFUSAL is what is written
  pub refusal_answers : (number x.answer ≡ 0 → ⊥) → {out : List ℕ} {r : ℕ} {new : List ℕ} → Wrote (refusal x.answer x.line) 0 out r new → Answers t out r new
  refusal_answers h w = answers t (rw e (refused_text t (rw e at h))) w

  module _ (done : number x.answer ≡ 0) where
    -- the loaded text
    abbrev text : Loads t
    text = loads t e done

    module _ {s : Started} (b : s ≡ start_of x.program) {a : Answer} {list : List ℕ}
        (answer_is : a ≡ (regroup_of x.program s.config (take x.count x.choices) (length no_list)).answer)
        (list_is : list ≡ fronted (numbers_of (regroup_of x.program s.config (take x.count x.choices) (length no_list))) no_list) where
      -- THE REGROUPING is the definition's
      regrouped_as : regroup_of x.program s.config (take x.count x.choices) (length no_list) ≡ listed (grouped t text)
      regrouped_as = rw (length-replicate {A = ℕ} CHOICES 0, words t e done, starts t e done b, e) (regroup_is t text)

      -- its answer,
      answer_as : a ≡ (listed (grouped t text)).answer
      answer_as = answer_is ∙ ap (λ (w : Regrouped). w.answer) regrouped_as

      -- and its list
      list_as : list ≡ fronted (numbers_of (listed (grouped t text))) no_list
      list_as = list_is ∙ ap (λ (w : Regrouped). fronted (numbers_of w) no_list) regrouped_as

      -- 22 ALONE is what is written
      pub refused_answers : (number a ≡ 0 → ⊥) → {out : List ℕ} {r : ℕ} {new : List ℕ} → Wrote (answer_line a) 0 out r new → Answers t out r new
      refused_answers h {out} {r} {new} w = go (grouped t text) refl answer_as
        where
          go : (o : Option (List Choice)) → grouped t text ≡ o → a ≡ (listed o).answer → Answers t out r new
          go none q f = answers t (rw f (no_list_text t text q)) w
          go (some m) q f = absurd (h (ap number f))

      module _ (fine : number a ≡ 0) where
        -- THE LIST is there
        there : (m : List Choice) × (grouped t text ≡ some m)
        there = go (grouped t text) refl answer_as
          where
            go : (o : Option (List Choice)) → grouped t text ≡ o → a ≡ (listed o).answer → (m : List Choice) × (grouped t text ≡ some m)
            go none q f = absurd (let n : number a ≡ 22 = ap number f in omega (arith, n, fine))
            go (some m) q f = (m, q)

        -- the answer is 0,
        pub done_as : a ≡ Done
        done_as = answer_as ∙ rw there.1

        -- it stands in the row,
        row_as : list ≡ fronted (map choice_word there.0) no_list
        row_as = list_as ∙ rw there.1

        -- and is as long as the list of choices
        count_as : length (map choice_word there.0) ≡ x.count
        count_as = length-map there.0 choice_word ∙ as_many t text there.0 there.1 ∙ rw e (sym (count_is t text))

        -- the row keeps its length
        pub list_length : length list ≡ CHOICES
        list_length =
            let xs = map choice_word there.0 in
            let n : x.count ≤ CHOICES = rw e (omega (arith, few t text, count_is t text)) in
            rw row_as (omega (arith, length-replicate {A = ℕ} CHOICES 0, count_as, n, length-append xs (drop (length xs) no_list), length-drop (length xs) no_list))

        -- the list is within it
        pub list_within : x.count ≤ length list
        list_within = omega (arith, list_length, rw (sym e) at (count_is t text), few t text)

        -- THE CHOICE LINES are the definition's,
        rows_as : choice_rows (take x.count list) ≡ flat choice_line there.0
        rows_as =
            let xs = map choice_word there.0 in
            ap (λ (w : List ℕ). choice_rows (take x.count w)) row_as
            ∙ ap choice_rows (take_at xs (drop (length xs) no_list) x.count count_as)
            ∙ rows_are_choices there.0 (All-map _ _ there.0 (λ y h. h.1) (list_ranged t text there.0 there.1))

        module _ (out : List ℕ) (size : length out ≡ OUTPUT) where
          -- all that is written has room
          whole_room : Room (flat choice_line there.0 ++ answer_line Done) 0 out
          whole_room = record { fits = omega (arith, size, all_fits t text there.0 there.1) }

          -- and so have they
          pub choices_room : Room (choice_rows (take x.count list)) 0 out
          choices_room = rw rows_as (room_first _ (answer_line Done) whole_room)

          -- as they are of the row for the list
          pub choices_asked : ChoicesAsked list x.count 0 out
          choices_asked = record { chosen = list_within; room = choices_room }

          module _ {place : ℕ} {between : List ℕ} (told : Wrote (choice_rows (take x.count list)) 0 out place between) where
            -- THE ANSWER has room,
            pub last_room : Room (answer_line a) place between
            last_room = rw done_as (room_second _ (answer_line Done) whole_room (rw rows_as at told))

            -- and then all is written
            pub list_answers : {behind : ℕ} {new : List ℕ} → Wrote (answer_line a) place between behind new → Answers t out behind new
            list_answers w = answers t (list_text t text there.0 there.1) (wrote_both _ (answer_line Done) whole_room (rw rows_as at told) (rw done_as at w))
