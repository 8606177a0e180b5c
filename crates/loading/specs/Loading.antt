-- WHAT IS ANSWERED: a text that is too long, one that is refused while it is read, one whose variable has no kind, and one that is judged by its tables.
use Rattle.std.specs.Prelude as std
use Rattle.std.specs.Prelude.{Option, None, Some, Ok, true, false, eqb, ℕ, ◌+◌, ◌≤◌, ◌<◌, ◌-◌, ◌≡◌, List, ◌++◌, reverse, length, get_or}
use Rattle.std.proofs.Common.{ap, sym, ◌∙◌, arith, lt-ltb, le-ltb, length-append}
use Rattle.lists.specs.Lists.{flat}
use Rattle.answers.specs.declared.Answer.{Answer}
use Rattle.answers.specs.declared.Answer.TheVariants.{TextTooLong, NotThere}
use Rattle.answers.specs.Number.{number}
use Rattle.programs.specs.Sizes.{TEXT}
use Rattle.programs.specs.Program.{Program}
use Rattle.soundness.specs.Asked.{init_of}
use Rattle.machines.specs.Config.{Choice}
use Rattle.tables.specs.Decode as decode
use Rattle.texts.specs.Bytes.{LF, split}
use Rattle.texts.specs.Reading.{Tables, tables, nothing, program_of, Result, loaded, refused, reading, starts_of}
use Rattle.texts.specs.Answered.{passes, judged, judge, answered}
use Rattle.texts.specs.Verdict.{verdict, ruled}
use Rattle.loaded.specs.Fitting.{Prepared, prepared}
use Rattle.tabled.specs.declared.Loaded.{Loaded}
use Rattle.answers.specs.declared.Refusal.{Refusal}
use Rattle.tabled.specs.Tabled.{tabled, byte_of, loads}
use Rattle.tables.specs.declared.Kind.{Kind}
use Rattle.gathering.specs.declared.Lines.{Lines}
use Rattle.putting.specs.Counts.{event_count}
use Rattle.standing.specs.Stood.{Fitting}
use Rattle.standing.specs.Reads.{prepared_fits}
use Rattle.standing.specs.Standing.{tabled_judged}
use Rattle.standing.specs.Absent.{absent_judged, few_variables}
use Rattle.gathering.specs.Gathered.{event_lines}
use Rattle.taking_lines.specs.Gathered.{word_of_start}
use Rattle.taking_lines.specs.Asked.{Gathered}
use Rattle.one_line.specs.Order.{Weighs}
use Rattle.reading.specs.Whole.{RefusedRead, WholeRead}
use Rattle.loading.specs.Holding.{whole_is, start_number, finished, lent_tabled}

-- 1
pub too_long : (s : List ℕ) → TEXT < length s → refused TextTooLong 0 ≡ answered s
unfolding answered
too_long s h = rw (lt-ltb TEXT (length s) h)

-- a text that is not too long is judged as it is read
judged_as : (s : List ℕ) → length s ≤ TEXT → (r : Result) → reading 0 nothing 1 (split LF s) ≡ r → judge r ≡ answered s
unfolding answered
judged_as s h r e = rw (le-ltb TEXT (length s) h, e)

-- 2 AND 3
pub read_refused : {x : Lines} (s : List ℕ) → length s ≤ TEXT → (b : Answer) (n : ℕ)
    → RefusedRead s b n x → refused b n ≡ answered s
read_refused s h b n e = judged_as s h (refused b n) e.same

-- what a text is read to has bytes for its moves and its pairs
weighed : (a : Tables) (k n : ℕ) → n ≤ TEXT → Weighs a n
    → (length (program_of a k).0.steps + (length (program_of a k).0.calls + length (program_of a k).0.acts) ≤ decode.MOVES) × (length (flat init_of (program_of a k).0.stmts) ≤ decode.PAIRS)
weighed (tables es ms vs xs ss acs ns ts cs ds ks hs) k n h w =
    (omega (arith, w.moves, length-append (reverse ts) (reverse cs ++ reverse ds), length-append (reverse cs) (reverse ds)), omega (arith, w.pairs))

module _ {x : Lines} (s : List ℕ) (short : length s ≤ TEXT) {first : Kind} (w : WholeRead s first x) where
  -- the start
  pub starts : word_of_start (starts_of w.lines) ≡ None → ⊥
  starts e = let q : ◌≡◌ {A = Option Kind} (Some first) None = sym w.started ∙ (w.gathered.back.started ∙ e) in cc

  -- its kind,
  abbrev pub kind_of : ℕ
  kind_of = (whole_is w.lines w.next starts).0

  -- the program
  abbrev pub program : Program
  program = (program_of w.lines kind_of).0

  -- and the choices
  abbrev pub choices_of : List Choice
  choices_of = (program_of w.lines kind_of).1

  -- the text says so
  pub read_whole : reading 0 nothing 1 (split LF s) ≡ loaded program choices_of
  read_whole = w.same ∙ (whole_is w.lines w.next starts).1

  -- the start's word
  pub start_word : first ≡ record { 0 = byte_of kind_of }
  start_word = let q : ◌≡◌ {A = Option Kind} (Some first) (Some (record { 0 = byte_of kind_of })) = sym w.started ∙ (w.gathered.back.started ∙ (whole_is w.lines w.next starts).2) in cc

  -- as a number
  start_told : start_number x.start ≡ byte_of kind_of + 1
  start_told = ap start_number w.started ∙ ap (λ (k : Kind). k.0 + 1) start_word

  -- it is above 0 and fits
  pub start_fits : (1 ≤ start_number x.start) × (start_number x.start ≤ 256)
  start_fits = (omega (arith, start_told), omega (arith, start_told))

  -- without the one more
  pub first_word : start_number x.start - 1 ≡ byte_of kind_of
  first_word = omega (arith, start_told)

  -- no more kinds than 16
  pub kinds_fit : x.kinds ≤ 16
  kinds_fit = omega (arith, w.gathered.front.machines.held, w.gathered.front.machines.size)

  -- no more events than 64
  pub events_fit : decode.count 64 x.program.event_types ≡ length (event_lines w.lines)
  events_fit = omega (arith, w.gathered.front.events.size, ap (λ (l : List ℕ). get_or l 0 0) w.gathered.front.events.held ∙ event_count (event_lines w.lines))

  -- and the first variable whose kind is not there is one of the text's
  pub absent_fits : (i : ℕ) → x.absent ≡ Some i → i ≤ TEXT
  absent_fits i z = omega (arith, (w.gathered.front.vars.first i z).here.1, w.weighs.vars, short)

  -- so it is judged
  judged_text : (r : Result) → judged program choices_of (passes program) ≡ r → r ≡ answered s
  judged_text r e = sym e ∙ judged_as s short (loaded program choices_of) read_whole

  -- 4: A VARIABLE WHOSE KIND IS NOT THERE
  pub absent_refused : (i : ℕ) → x.absent ≡ Some i → (n : ℕ) → n ≡ decode.count 64 x.program.event_types → refused NotThere (n + x.kinds + i) ≡ answered s
  absent_refused i z n e = judged_text (refused NotThere (n + x.kinds + i)) (rw (e, events_fit) (go w.lines kind_of w.gathered))
    where
      go : (a : Tables) (k : ℕ) → Gathered a x → judged (program_of a k).0 (program_of a k).1 (passes (program_of a k).0) ≡ refused NotThere (length (event_lines a) + x.kinds + i)
      go (tables es ms vs xs ss acs ns ts cs ds ks hs) k g =
          let f = g.front.vars.first i z in
          absent_judged (program_of (tables es ms vs xs ss acs ns ts cs ds ks hs) k).0 i f.here f.lower f.absent (program_of (tables es ms vs xs ss acs ns ts cs ds ks hs) k).1
          ∙ ap (λ (n : ℕ). refused NotThere (length (reverse es) + n + i)) (sym g.front.machines.held)

  module _ (z : x.absent ≡ None) where
    -- the tables hold the program
    fits : Fitting program
    fits = go w.lines kind_of w.gathered (weighed w.lines kind_of (length s) short w.weighs) (prepared (split LF s) program choices_of read_whole)
      where
        go : (a : Tables) (k : ℕ) → Gathered a x
            → (length (program_of a k).0.steps + (length (program_of a k).0.calls + length (program_of a k).0.acts) ≤ decode.MOVES) × (length (flat init_of (program_of a k).0.stmts) ≤ decode.PAIRS)
            → Prepared (program_of a k).0 (program_of a k).1 → Fitting (program_of a k).0
        go (tables es ms vs xs ss acs ns ts cs ds ks hs) k g b h =
            prepared_fits (program_of (tables es ms vs xs ss acs ns ts cs ds ks hs) k).0 (program_of (tables es ms vs xs ss acs ns ts cs ds ks hs) k).1 h
            (few_variables (program_of (tables es ms vs xs ss acs ns ts cs ds ks hs) k).0 g.front.machines.size g.front.vars.few (g.front.vars.there z)) b.0 b.1

    -- their tables are the program's
    pub finished_tabled : finished x first ≡ tabled program
    finished_tabled = lent_tabled w.lines w.gathered z kind_of first start_word

    module _ (v : Answer × ℕ) (told : v ≡ verdict (decode.program_of (finished x first))) where
      -- what is judged of the text is what the verdict says
      ruled_text : judged program choices_of (passes program) ≡ ruled program choices_of v
      ruled_text = tabled_judged program fits choices_of ∙ ap (ruled program choices_of) (sym (told ∙ ap (λ q. verdict (decode.program_of q)) finished_tabled))

      -- 4 TO 9
      pub judged_refused : eqb (number v.0) 0 ≡ false → refused v.0 v.1 ≡ answered s
      judged_refused q = judged_text (refused v.0 v.1) (ruled_text ∙ rw q)

      -- 0
      pub judged_loaded : eqb (number v.0) 0 ≡ true → loaded program choices_of ≡ answered s
      judged_loaded q = judged_text (loaded program choices_of) (ruled_text ∙ rw q)

      -- what is handed out then
      pub handed_out : eqb (number v.0) 0 ≡ true → ◌≡◌ {A = std.Result Loaded Refusal} (Ok (record { program = finished x first; choices = x.choices; count = x.count })) (loads (answered s))
      handed_out q = go w.lines kind_of w.gathered finished_tabled ∙ ap loads (judged_loaded q)
        where
          go : (a : Tables) (k : ℕ) → Gathered a x → finished x first ≡ tabled (program_of a k).0
              → ◌≡◌ {A = std.Result Loaded Refusal} (Ok (record { program = finished x first; choices = x.choices; count = x.count })) (loads (loaded (program_of a k).0 (program_of a k).1))
          go (tables es ms vs xs ss acs ns ts cs ds ks hs) k g e = λ i. Ok (record { program = e i; choices = g.back.chosen.held i; count = g.back.chosen.many i })
