-- ALL LINES, from the first to the last: what comes of a text is one, and so are the arrays then, which hold all its lines or those in front of the first that is
-- refused.
use Rattle.std.specs.Prelude as std
use Rattle.std.specs.Prelude.{Option, None, Some, Ok, Err, ℕ, ◌≡◌, refl, List, [], ◌∷◌}
use Rattle.std.proofs.Common.{ap, sym, ◌∙◌, arith}
use Rattle.answers.specs.declared.Answer.{Answer}
use Rattle.programs.specs.Program.{Program}
use Rattle.texts.specs.Reading.{Tables, tables, refused, program_of, whole, starts_of}
use Rattle.tabled.specs.Tabled.{byte_of}
use Rattle.taking_lines.specs.Gathered.{word_of_start}
use Rattle.one_line.specs.Turns.{held_lines}
use Rattle.tables.specs.declared.Kind.{Kind}
use Rattle.answers.specs.declared.Refusal.{Refusal}
use Rattle.gathering.specs.declared.Lines.{Lines}
use Rattle.reading.specs.Whole.{WholeRead, ReadAs}
use Rattle.unique_texts.specs.Lent.{Alike, alike, gathered_one}

-- WHAT IS LOADED has a start
not_refused : (a : Tables) (n : ℕ) (b : Answer) (m : ℕ) → (word_of_start (starts_of a) ≡ None → ⊥) → whole a n ≡ refused b m → ⊥
not_refused (tables es ms vs xs ss acs ns ts cs ds [] hs) n b m z e = z refl
not_refused (tables es ms vs xs ss acs ns ts cs ds (k ∷ ks) hs) n b m z e = let q : ◌≡◌ {A = ℕ} 0 1 = cc in omega arith

-- and tells the lines
whole_alike : (a b : Tables) (n m : ℕ) → (word_of_start (starts_of a) ≡ None → ⊥) → (word_of_start (starts_of b) ≡ None → ⊥) → whole a n ≡ whole b m → Alike a b
whole_alike (tables es ms vs xs ss acs ns ts cs ds [] hs) b n m y z e = absurd (y refl)
whole_alike (tables es ms vs xs ss acs ns ts cs ds (k ∷ ks) hs) (tables es' ms' vs' xs' ss' acs' ns' ts' cs' ds' [] hs') n m y z e = absurd (z refl)
whole_alike (tables es ms vs xs ss acs ns ts cs ds (k ∷ ks) hs) (tables es' ms' vs' xs' ss' acs' ns' ts' cs' ds' (l ∷ ls) hs') n m y z e =
    let p : (program_of (tables es ms vs xs ss acs ns ts cs ds (k ∷ ks) hs) k).0 ≡ (program_of (tables es' ms' vs' xs' ss' acs' ns' ts' cs' ds' (l ∷ ls) hs') l).0 = cc in
    record {
      events = ap (λ (q : Program). q.events) p;
      machines = ap (λ (q : Program). q.machines) p;
      vars = ap (λ (q : Program). q.variables) p;
      expressions = ap (λ (q : Program). q.exprs) p;
      statements = ap (λ (q : Program). q.stmts) p;
      actions = ap (λ (q : Program). q.actions) p;
      states = ap (λ (q : Program). q.states) p;
      stepped = ap (λ (q : Program). q.steps) p;
      called = ap (λ (q : Program). q.calls) p;
      acted = ap (λ (q : Program). q.acts) p;
      started = ap (λ (q : Program). Some (record { 0 = byte_of q.start })) p;
      chosen = cc;
    }

-- the start of what is read whole
has_start : (s : List ℕ) (k : Kind) (x : Lines) (h : WholeRead s k x) → word_of_start (starts_of h.lines) ≡ Some k
has_start s k x h = sym h.gathered.back.started ∙ h.started

-- is there
started : (o : Option Kind) (k : Kind) → o ≡ Some k → o ≡ None → ⊥
started o k e z = let q : ◌≡◌ {A = Option Kind} (Some k) None = sym e ∙ z in cc

-- and is one
one_start : (k l : Kind) (o : Option Kind) → o ≡ Some k → o ≡ Some l → k ≡ l
one_start k l o e z = let q : ◌≡◌ {A = Option Kind} (Some k) (Some l) = sym e ∙ z in cc

-- `reading::read_lines`
pub read_one : (s : List ℕ) (r t : std.Result Kind Refusal) (x y : Lines) → ReadAs s r x → ReadAs s t y → (r ≡ t) × (x ≡ y)
read_one s (Ok k) (Ok l) x y h t =
    let b = has_start s k x h in
    let d = has_start s l y t in
    let e = whole_alike h.lines t.lines h.next t.next (started _ k b) (started _ l d) (sym h.same ∙ t.same) in
    (ap (λ (m : Kind). Ok m) (one_start k l _ b (e.started ∙ d)), gathered_one h.lines t.lines e x y h.gathered t.gathered)
read_one s (Ok k) (Err f) x y h t = absurd (not_refused h.lines h.next f.answer f.line (started _ k (has_start s k x h)) (sym h.same ∙ t.same))
read_one s (Err f) (Ok k) x y h t = absurd (not_refused t.lines t.next f.answer f.line (started _ k (has_start s k y t)) (sym t.same ∙ h.same))
read_one s (Err f) (Err g) x y h t =
    let e : refused f.answer f.line ≡ refused g.answer g.line = sym h.same ∙ t.same in
    let a : f.answer ≡ g.answer = cc in
    let n : f.line ≡ g.line = cc in
    (λ i. Err (record { answer = a i; line = n i }), gathered_one (held_lines s) (held_lines s) (alike (held_lines s)) x y h.gathered t.gathered)
