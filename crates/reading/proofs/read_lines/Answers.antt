-- `reading::read_lines` meets its contract: after each turn the arrays hold the lines so far. Assumes nothing.
use mathlib.Core.Path.{ap, sym}
use native.Mathlib.Omega.{arith}
use Rattle.std.specs.Prelude.{ℕ, ◌≡◌, Result, Ok, Err, MatchResult}
use Rattle.std.specs.Result.{IsErrAnd}
use Rattle.std.proofs.Common.{rules}
use Rattle.std.proofs.lemmas.Result.{err_from_is_err_and}
use Rattle.answers.specs.declared.Answer.{Answer}
use Rattle.answers.specs.declared.Refusal.{Refusal}
use Rattle.one_line.specs.declared.Next.{Next}
use Rattle.reading.specs.Whole.{reading_none, turn_asked, reading_refused, reading_turned, reading_more, reading_ended}
use Rattle.reading.proofs.read_lines.Goals as goal

-- what is made of a turn's answer: a refusal has the line's number
abbrev Numbered : ℕ → Result Next Answer → Result Next Refusal → Type 0
Numbered n t m = MatchResult t (λ x. m ≡ Ok x) (λ b. IsErrAnd m (λ r. r ≡ record { answer = b; line = n }))

-- of a line that is read
read : (n : ℕ) (t : Result Next Answer) (m : Result Next Refusal) (x : Next) → Numbered n t m → m ≡ Ok x → t ≡ Ok x
read n (Ok y) m x h q = let e : y ≡ x = cc in ap Ok e
read n (Err b) m x h q = absurd (rw q at h)

-- of one that is refused
unread : (n : ℕ) (t : Result Next Answer) (m : Result Next Refusal) (r : Refusal) → Numbered n t m → m ≡ Err r → (t ≡ Err r.answer) × (r.line ≡ n)
unread n (Ok y) m r h q = absurd (cc)
unread n (Err b) m r h q = let e : r ≡ record { answer = b; line = n } = rw q at h in (ap (λ (x : Refusal). Err x.answer) (sym e), ap (λ (x : Refusal). x.line) e)

pub loop-at-init : goal.loop-at-init
loop-at-init c = reading_none c.requires

pub read_line-requires : goal.read_line-requires
read_line-requires c = turn_asked c.loop-at.invariant c.loop-at-test.true

pub returns-in_err-next : goal.returns-in_err-next
returns-in_err-next c =
    let inv = c.loop-at.invariant in
    let told : Numbered c.loop-at.line c.read_line.result c.map_err.result = search rules in
    let p = err_from_is_err_and c.from_residual.result c.from_residual.ensures.1 in
    let k = unread c.loop-at.line c.read_line.result c.map_err.result _ told c.in_err-next.was in
    rw (p.1, p.2, k.1) (reading_refused inv _ (rw k.0 at (c.read_line.ensures (turn_asked inv c.loop-at-test.true))))

pub overflow_add-line : goal.overflow_add-line
overflow_add-line c =
    let inv = c.loop-at.invariant in
    omega (arith, inv.counted, inv.inside, inv.short)

pub loop-at-smaller : goal.loop-at-smaller
loop-at-smaller c =
    let inv = c.loop-at.invariant in
    let told : Numbered c.loop-at.line c.read_line.result c.map_err.result = search rules in
    let on = reading_turned inv c.read_line.result (read c.loop-at.line _ _ c.in_ok-next.next told c.in_ok-next.was) (c.read_line.ensures (turn_asked inv c.loop-at-test.true)) in
    omega (arith, on.further, c.loop-at-test.true)

pub loop-at-preserved : goal.loop-at-preserved
loop-at-preserved c =
    let inv = c.loop-at.invariant in
    let told : Numbered c.loop-at.line c.read_line.result c.map_err.result = search rules in
    let on = reading_turned inv c.read_line.result (read c.loop-at.line _ _ c.in_ok-next.next told c.in_ok-next.was) (c.read_line.ensures (turn_asked inv c.loop-at-test.true)) in
    reading_more inv on

pub returns : goal.returns
returns c = reading_ended c.loop-at.invariant c.loop-at-test.false _ c.ok_or.ensures.value
