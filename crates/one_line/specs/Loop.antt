-- BEFORE A LINE AND AFTER IT: what is asked before it, and what comes of it.
use Rattle.std.specs.Prelude.{Result, Ok, Err, ℕ, ◌+◌, ◌≤◌, ◌<◌, ◌≡◌, true, List, leb, length}
use Rattle.std.proofs.Math.Logic.{dite}
use Rattle.std.proofs.Math.Option.{some}
use Rattle.std.proofs.Math.Decide.{ℕ_discrete}
use Rattle.std.proofs.Common.{arith, eq-eqb, ne_eqb, leb-true, ltb-true}
use Rattle.answers.specs.declared.Answer.{Answer}
use Rattle.programs.specs.Sizes.{TEXT}
use Rattle.texts.specs.Bytes.{LF}
use Rattle.texts.specs.Forms.{Said, said}
use Rattle.texts.specs.Reading.{Tables, put, kind, ordered, refused}
use Rattle.numerals.specs.Splits.{span, Until}
use Rattle.shapes.specs.Lines.{LineAt}
use Rattle.gathering.specs.declared.Lines.{Lines}
use Rattle.taking_lines.specs.Asked.{Gathered}
use Rattle.one_line.specs.declared.Next.{Next}
use Rattle.one_line.specs.Turns.{read_from}
use Rattle.one_line.specs.Order.{Later, Weighs}

-- BEFORE A LINE at place i, after lines the last of which is of kind `last`
pub record LineTurn (s : List ℕ) (last i : ℕ) (x : Lines) : Type 0 where
  pub lines : Tables
  pub gathered : Gathered lines x
  pub later : Later last lines
  pub weighs : Weighs lines i
  pub inside : i < length s
  pub short : length s ≤ TEXT

-- THE LINE at place i, of kind k, which ends before place j: with it the lines a become b
pub record OneMore (s : List ℕ) (i : ℕ) (a : Tables) (j k : ℕ) (b : Tables) : Type 0 where
  pub ends : ℕ
  pub until : Until LF s i (length s) ends
  pub line : Said
  pub says : said (span i ends s) ≡ some line
  pub next : j ≡ ends + 1
  pub sort : k ≡ kind line
  pub taken : b ≡ put line a

-- AFTER A LINE that is read: the next begins at place j, after one of kind k
pub record Turned (s : List ℕ) (last i : ℕ) (a : Tables) (j k : ℕ) (x : Lines) : Type 0 where
  pub lines : Tables
  pub more : OneMore s i a j k lines
  pub same : (n : ℕ) → read_from s last a n i ≡ read_from s k lines (n + 1) j
  pub gathered : Gathered lines x
  pub later : Later k lines
  pub weighs : Weighs lines j
  pub further : i < j
  pub inside : j ≤ length s

-- AFTER A LINE that is refused: the arrays hold the lines in front of it
pub record RefusedAt (s : List ℕ) (last i : ℕ) (a : Tables) (b : Answer) (x : Lines) : Type 0 where
  pub same : (n : ℕ) → read_from s last a n i ≡ (refused b n, a)
  pub gathered : Gathered a x

-- what comes of a line
abbrev pub TurnedAs : List ℕ → ℕ → ℕ → Tables → Result Next Answer → Lines → Type 0
TurnedAs s last i a (Ok n) x = Turned s last i a n.at n.kind x
TurnedAs s last i a (Err b) x = RefusedAt s last i a b x

-- THE ORDER of a line in its place
-- where its kind is at most k, below the start's, so is the last one's,
pub order_low : (last : ℕ) (x : Said) (k : ℕ) → ordered last x ≡ true → kind x ≤ k → k < 11 → last ≤ k
order_low last x k o h l = let e : leb last (kind x) ≡ true = rw (ne_eqb (kind x) 11 (λ q. omega arith)) at o in omega (arith, leb-true last (kind x) e)

-- and up to the start's, it is below it
pub order_start : (last : ℕ) (x : Said) → ordered last x ≡ true → kind x ≤ 11 → last < 11
order_start last x o h = dite (ℕ_discrete (kind x) 11)
    (λ e. ltb-true last 11 (rw (eq-eqb (kind x) 11 e) at o))
    (λ e. let q = order_low last x 10 o (omega (arith, e)) (omega arith) in omega arith)

-- a line up to its LF
pub line_at : (s : List ℕ) (i e : ℕ) → Until LF s i (length s) e → LineAt s i e
line_at s i e u = record { inside = u.low; low = u.high; clear = u.free; ends = u.stop }
