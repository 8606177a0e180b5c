-- ONE LINE: what comes of it is one, and so are the arrays then, which hold it too, or where it is refused the lines in front of it.
use Rattle.std.specs.Prelude as std
use Rattle.std.specs.Prelude.{Ok, Err, ℕ, ◌+◌, ◌≡◌, List, length}
use Rattle.std.proofs.Common.{ap, sym, ◌∙◌, arith}
use Rattle.std.proofs.Math.Option.{some}
use Rattle.texts.specs.Bytes.{LF, split}
use Rattle.texts.specs.Forms.{Said, said}
use Rattle.texts.specs.Reading.{Tables, put, kind, Result, refused}
use Rattle.numerals.specs.Splits.{span}
use Rattle.answers.specs.declared.Answer.{Answer}
use Rattle.gathering.specs.declared.Lines.{Lines}
use Rattle.one_line.specs.declared.Next.{Next}
use Rattle.one_line.specs.Turns.{refused_behind}
use Rattle.one_line.specs.Loop.{OneMore, TurnedAs}
use Rattle.unique_texts.specs.Found.{until_one}
use Rattle.unique_texts.specs.Lent.{alike, gathered_one}

-- what it says, the place behind it and the lines with it
more_one : (s : List ℕ) (i : ℕ) (a : Tables) (j k : ℕ) (b : Tables) (j' k' : ℕ) (b' : Tables) → OneMore s i a j k b → OneMore s i a j' k' b' → (j ≡ j') × ((k ≡ k') × (b ≡ b'))
more_one s i a j k b j' k' b' h t =
    let e = until_one LF s i (length s) h.ends t.ends h.until t.until in
    let q : some h.line ≡ some t.line = sym h.says ∙ ap (λ (n : ℕ). said (span i n s)) e ∙ t.says in
    let l : h.line ≡ t.line = cc in
    (h.next ∙ ap (λ (n : ℕ). n + 1) e ∙ sym t.next, (h.sort ∙ ap kind l ∙ sym t.sort, h.taken ∙ ap (λ (x : Said). put x a) l ∙ sym t.taken))

-- `one_line::read_line`
pub turn_one : (s : List ℕ) (last i : ℕ) (a : Tables) (r t : std.Result Next Answer) (x y : Lines)
    → TurnedAs s last i a r x
    → TurnedAs s last i a t y
    → (r ≡ t) × (x ≡ y)
turn_one s last i a (Ok m) (Ok n) x y h t =
    let e = more_one s i a m.at m.kind h.lines n.at n.kind t.lines h.more t.more in
    (λ i. Ok (record { at = e.0 i; kind = e.1.0 i }), gathered_one h.lines t.lines (rw e.1.1 (alike t.lines)) x y h.gathered t.gathered)
turn_one s last i a (Ok m) (Err b) x y h t = absurd (let l = refused_behind m.kind h.lines 2 (split LF (span m.at (length s) s)) b 1 a (sym (h.same 1) ∙ t.same 1) in omega arith)
turn_one s last i a (Err b) (Ok m) x y h t = absurd (let l = refused_behind m.kind t.lines 2 (split LF (span m.at (length s) s)) b 1 a (sym (t.same 1) ∙ h.same 1) in omega arith)
turn_one s last i a (Err b) (Err c) x y h t =
    let e : ◌≡◌ {A = Result × Tables} (refused b 1, a) (refused c 1, a) = sym (h.same 1) ∙ t.same 1 in
    let f : refused b 1 ≡ refused c 1 = ap (λ (z : Result × Tables). z.0) e in
    (cc, gathered_one a a (alike a) x y h.gathered t.gathered)
