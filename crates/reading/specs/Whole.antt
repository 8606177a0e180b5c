-- ALL LINES READ: the loop from the first to the last, and what comes of it.
use Rattle.std.specs.Prelude as std
use Rattle.std.specs.Prelude.{Ok, Err, None, Some, Option, true, false, ℕ, ◌+◌, ◌≤◌, ◌<◌, ◌≡◌, refl, List, [], ◌∷◌, length}
use Rattle.std.proofs.Common.{ap, sym, ◌∙◌, arith}
use Rattle.answers.specs.declared.Answer.{Answer}
use Rattle.answers.specs.declared.Answer.TheVariants.{NotInForm}
use Rattle.programs.specs.Sizes.{TEXT}
use Rattle.texts.specs.Bytes.{LF, split}
use Rattle.texts.specs.Reading.{Tables, tables, nothing, Result, refused, whole, reading, starts_of}
use Rattle.taking_lines.specs.Gathered.{word_of_start}
use Rattle.taking_lines.specs.Asked.{Gathered}
use Rattle.one_line.specs.declared.Next.{Next}
use Rattle.answers.specs.declared.Refusal.{Refusal}
use Rattle.tables.specs.declared.Kind.{Kind}
use Rattle.gathering.specs.declared.Lines.{Lines}
use Rattle.one_line.specs.Turns.{read_to, read_is, held_lines, read_from, read_first, read_end}
use Rattle.one_line.specs.Order.{Later, later_none, Weighs, weighs_none}
use Rattle.one_line.specs.Loop.{LineTurn, Turned, RefusedAt, TurnedAs}

-- BEFORE THE FIRST LINE: a text that is not too long, and arrays that hold no line
pub record Begun (s : List ℕ) (x : Lines) : Type 0 where
  pub short : length s ≤ TEXT
  pub gathered : Gathered nothing x

-- AFTER THE LAST: the arrays hold all lines, one of which is the start, with kind k
pub record WholeRead (s : List ℕ) (k : Kind) (x : Lines) : Type 0 where
  pub lines : Tables
  pub next : ℕ
  pub same : reading 0 nothing 1 (split LF s) ≡ whole lines next
  pub gathered : Gathered lines x
  pub weighs : Weighs lines (length s)
  pub started : x.start ≡ Some k

-- AFTER A LINE THAT IS REFUSED, line n with answer b: the arrays hold the lines in front of it; of a text without a start, all lines
pub record RefusedRead (s : List ℕ) (b : Answer) (n : ℕ) (x : Lines) : Type 0 where
  pub same : reading 0 nothing 1 (split LF s) ≡ refused b n
  pub gathered : Gathered (held_lines s) x

-- what comes of them
abbrev pub ReadAs : List ℕ → std.Result Kind Refusal → Lines → Type 0
ReadAs s (Ok k) x = WholeRead s k x
ReadAs s (Err r) x = RefusedRead s r.answer r.line x

-- THE LOOP at place i: line n is next, after lines the last of which is of kind `last`
pub record Reading (s : List ℕ) (i n last : ℕ) (x : Lines) : Type 0 where
  pub lines : Tables
  pub same : read_to 0 nothing 1 (split LF s) ≡ read_from s last lines n i
  pub gathered : Gathered lines x
  pub later : Later last lines
  pub weighs : Weighs lines i
  pub inside : i ≤ length s
  pub short : length s ≤ TEXT
  pub counted : n ≤ i + 1

module _ {x : Lines} {s : List ℕ} where
  -- before the first turn
  pub reading_none : Begun s x → Reading s 0 1 0 x
  reading_none h = record {
    lines = nothing;
    same = read_first s;
    gathered = h.gathered;
    later = later_none;
    weighs = weighs_none;
    inside = omega arith;
    short = h.short;
    counted = omega arith;
  }

  module _ {i n last : ℕ} (h : Reading s i n last x) where
    -- what a turn asks
    abbrev pub turn_asked : i < length s → LineTurn s last i x
    turn_asked l = record { lines = h.lines; gathered = h.gathered; later = h.later; weighs = h.weighs; inside = l; short = h.short }

    -- a turn that refuses a line
    pub reading_refused : {x' : Lines} (b : Answer) → RefusedAt s last i h.lines b x' → RefusedRead s b n x'
    reading_refused b k = let e = h.same ∙ k.same n in record {
      same = sym (read_is 0 nothing 1 (split LF s)) ∙ ap (λ (t : Result × Tables). t.0) e;
      gathered = rw (ap (λ (t : Result × Tables). t.1) e) k.gathered;
    }

    -- a turn that reads one
    pub reading_turned : {x' : Lines} (t : std.Result Next Answer) {m : Next} → t ≡ Ok m → TurnedAs s last i h.lines t x' → Turned s last i h.lines m.at m.kind x'
    reading_turned t e k = rw e at k

    pub reading_more : {x' : Lines} {j k : ℕ} → Turned s last i h.lines j k x' → Reading s j (n + 1) k x'
    reading_more t = record {
      lines = t.lines;
      same = h.same ∙ t.same n;
      gathered = t.gathered;
      later = t.later;
      weighs = t.weighs;
      inside = t.inside;
      short = h.short;
      counted = omega (arith, h.counted, t.further);
    }

    -- all lines without a start
    pub reading_startless : length s ≤ i → x.start ≡ None → RefusedRead s NotInForm n x
    reading_startless l z = let e = h.same ∙ read_end s last h.lines n i l in record {
      same = sym (read_is 0 nothing 1 (split LF s)) ∙ ap (λ (t : Result × Tables). t.0) e ∙ go h.lines (sym h.gathered.back.started ∙ z);
      gathered = rw (ap (λ (t : Result × Tables). t.1) e) h.gathered;
    }
      where
        go : (a : Tables) → word_of_start (starts_of a) ≡ None → whole a n ≡ refused NotInForm n
        go (tables es ms vs xs ss acs ns ts cs ds [] hs) e = refl
        go (tables es ms vs xs ss acs ns ts cs ds (k ∷ ks) hs) e = absurd (cc)

    -- all lines
    pub reading_whole : length s ≤ i → {k : Kind} → x.start ≡ Some k → WholeRead s k x
    reading_whole l {k} z = let q : i ≡ length s = omega (arith, h.inside) in record {
      lines = h.lines;
      next = n;
      same = sym (read_is 0 nothing 1 (split LF s)) ∙ ap (λ (t : Result × Tables). t.0) (h.same ∙ read_end s last h.lines n i l);
      gathered = h.gathered;
      weighs = rw q at h.weighs;
      started = z;
    }

    -- what is answered behind them
    pub reading_ended : length s ≤ i → (r : std.Result Kind Refusal) → r ≡ std.ok_or x.start (record { answer = NotInForm; line = n }) → ReadAs s r x
    reading_ended l r e = go x.start refl e
      where
        go : (o : Option Kind) → x.start ≡ o → r ≡ std.ok_or o (record { answer = NotInForm; line = n }) → ReadAs s r x
        go None z q = rw q (reading_startless l z)
        go (Some k) z q = rw q (reading_whole l z)
