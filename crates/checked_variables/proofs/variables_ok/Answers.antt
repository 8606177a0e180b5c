-- `checked_variables::variables_ok` meets its contract: before variable x, of those that were passed j were of the kind, the rest is left to be asked. Assumes nothing.
use Prim.Native.Nat.{ℕ, ◌+◌, ◌-◌, ◌*◌, ◌<◌, ◌≤◌}
use mathlib.Core.Path.{◌≡◌, ap, sym, ◌∙◌}
use mathlib.Core.Bool.{true, false, true≢false}
use mathlib.Core.List.{List}
use borrow.Author.Tests.{eq-eqb, ne_eqb}
use borrow.Author.Rules.{rules}
use lib.Dec.{eqb}
use lib.ListN.{length, get_or}
use Rattle.lists.specs.Lists.{at, keep}
use Rattle.lists.specs.Tells.{granted, refuted}
use Rattle.rows.specs.Part.{part, part_length}
use Rattle.programs.specs.Program.{Program, is_of}
use Rattle.tables.specs.Decode.{no_variable, events_of, variables_of}
use Rattle.tables.specs.Tables.{events_length, variables_length}
use Rattle.checked_variables.specs.Going.{Counted, counted_own, counted_other, counted_below, number_told}
use Rattle.checked_variables.specs.Going.{going_none, going_own, going_other, going_not, going_all}
use native.Mathlib.Omega.{arith}
use Rattle.checked_variables.proofs.variables_ok.Goals as goal
use Rattle.checked_variables.proofs.variables_ok.Goals.{After-event_count-events, Then-eq, then-eq+else-not-typed_ok, else-eq}

-- the row has 19 places
row_long : (i : ℕ) (values : List ℕ) → length values ≡ 608 → i < 32 → length (part (i * 19) 19 values) ≡ 19
row_long i values l h = part_length (i * 19) 19 values (omega arith)

-- as many events as are counted
many : (c : After-event_count-events) (p : Program) → p.events ≡ events_of c.args.program.now.event_types → length p.events ≡ c.event_count-events.result
many c p told = ap length told ∙ events_length c.args.program.now.event_types ∙ sym c.event_count-events.ensures

module _ (kinds types : List ℕ) (kind x j k : ℕ) (low : 1 ≤ x) (h : x ≤ length (variables_of kinds types)) (e : k ≡ (at no_variable (variables_of kinds types) x).of) where
  -- variable x is the one behind the x - 1 that were passed
  next : x - 1 + 1 ≡ x
  next = omega arith

  -- it is of the kind,
  own : k ≡ kind → eqb (at no_variable (variables_of kinds types) (x - 1 + 1)).of kind ≡ true
  own f = rw next (eq-eqb _ _ (sym e ∙ f))

  -- or of another
  other : (k ≡ kind → ⊥) → eqb (at no_variable (variables_of kinds types) (x - 1 + 1)).of kind ≡ false
  other n = rw next (ne_eqb _ _ (λ z. n (e ∙ z)))

  -- the place of one that is of the kind is one of the 16
  below : k ≡ kind → Counted kind (variables_of kinds types) (x - 1) j → length (keep (is_of kind) (variables_of kinds types)) ≤ 16 → j < 16
  below f c few = omega (arith, counted_below kind (variables_of kinds types) (x - 1) (omega arith) j c (own f))

-- the same where it is asked
place : (c : Then-eq) → c.loop-x.j < 16
place c =
    let q = c.args.program.now in
    let kind = get_or c.args.flat.now.kinds c.args.i 0 in
    let l = c.loop-x in
    let f : c.variable_kind.result.0 ≡ kind = search rules in
    below q.variable_of q.variable_type kind l.x l.j c.variable_kind.result.0 l.invariant.0 (omega (arith, variables_length q.variable_of q.variable_type, c.variable_count-n.ensures)) (c.variable_kind.ensures q.variable_type) f l.invariant.2 c.requires.2

pub loop-x-init : goal.loop-x-init
loop-x-init c = (omega arith, omega arith, omega arith, λ p told. going_none p _ _ _ _)

pub offset_bounds-flat-b : goal.offset_bounds-flat-b
offset_bounds-flat-b c = omega (arith, place (goal.at.offset_bounds-flat-b c).Then-eq, c.requires.1)

pub bounds-flat-b : goal.bounds-flat-b
bounds-flat-b c = omega (arith, place (goal.at.bounds-flat-b c).Then-eq, c.requires.1)

pub returns-then-not-typed_ok : goal.returns-then-not-typed_ok
returns-then-not-typed_ok c =
    let f = c.args.flat.now in
    let q = c.args.program.now in
    let i = c.args.i in
    let kind = get_or f.kinds i 0 in
    let vars = variables_of q.variable_of q.variable_type in
    let l = c.loop-x in
    let same : c.variable_kind.result.0 ≡ kind = search rules in
    let there : l.x ≤ length vars = omega (arith, variables_length q.variable_of q.variable_type, c.variable_count-n.ensures) in
    let small : l.j < 16 = place (goal.at.returns-then-not-typed_ok c).Then-eq in
    let back : l.x - 1 + 1 ≡ l.x = omega (arith, l.invariant.0) in
    let type = c.variable_type-t.ensures ∙ ap (λ (n : ℕ). (at no_variable vars n).type) (sym back) in
    λ p told.
    let e = many (goal.at.returns-then-not-typed_ok c).After-event_count-events p told in
    refuted (λ g. true≢false (
    sym ((number_told p f.next _ _ (i * 19) l.j f.values c.typed_ok.result type (omega arith) (c.typed_ok.ensures p e)).test
    (going_not p f.next kind vars (part (i * 19) 19 f.values) (l.x - 1) l.j (l.invariant.3 p told) (omega (arith, there, l.invariant.0))
    (own q.variable_of q.variable_type kind l.x l.j c.variable_kind.result.0 l.invariant.0 there (c.variable_kind.ensures q.variable_type) same)
    (omega (arith, row_long i f.values c.requires.0 c.requires.1)) g))
    ∙ c.if-not-typed_ok.true))

pub loop-x-preserved : goal.loop-x-preserved
loop-x-preserved c =
    let f = c.args.flat.now in
    let q = c.args.program.now in
    let i = c.args.i in
    let kind = get_or f.kinds i 0 in
    let vars = variables_of q.variable_of q.variable_type in
    let l = c.loop-x in
    let k = c.variable_kind in
    let there : l.x ≤ length vars = omega (arith, variables_length q.variable_of q.variable_type, c.variable_count-n.ensures) in
    let inside : l.x - 1 < length vars = omega (arith, there, l.invariant.0) in
    let back : l.x - 1 + 1 ≡ l.x = omega (arith, l.invariant.0) in
    let on : l.x - 1 + 1 ≡ l.x + 1 - 1 = omega (arith, l.invariant.0) in
    elim c.if-eq.branch [
      | then-eq+else-not-typed_ok w ↦
          let same : k.result.0 ≡ kind = search rules in
          let o = own q.variable_of q.variable_type kind l.x l.j k.result.0 l.invariant.0 there (k.ensures q.variable_type) same in
          let small : l.j < 16 = below q.variable_of q.variable_type kind l.x l.j k.result.0 l.invariant.0 there (k.ensures q.variable_type) same l.invariant.2 c.requires.2 in
          let type = w.variable_type-t.ensures ∙ ap (λ (n : ℕ). (at no_variable vars n).type) (sym back) in (
            omega arith,
            rw w.j-is (omega arith),
            rw w.j-is (rw on at (counted_own kind vars (l.x - 1) inside l.j l.invariant.2 o)),
            λ p told.
                let e = many (goal.at.loop-x-preserved c).After-event_count-events p told in
                rw w.j-is (rw on at (going_own p f.next kind vars (part (i * 19) 19 f.values) (l.x - 1) l.j (l.invariant.3 p told) inside o
                (omega (arith, row_long i f.values c.requires.0 c.requires.1))
                ((number_told p f.next _ _ (i * 19) l.j f.values w.typed_ok.result type (omega arith) (w.typed_ok.ensures p e)).holds w.if-not-typed_ok.false))),
          )
      | else-eq w ↦
          let differs : k.result.0 ≡ kind → ⊥ = λ z. search rules in
          let o = other q.variable_of q.variable_type kind l.x l.j k.result.0 l.invariant.0 there (k.ensures q.variable_type) differs in (
            omega arith,
            rw w.j-is (omega arith),
            rw w.j-is (rw on at (counted_other kind vars (l.x - 1) inside l.j l.invariant.2 o)),
            λ p told. rw w.j-is (rw on at (going_other p f.next kind vars (part (i * 19) 19 f.values) (l.x - 1) l.j (l.invariant.3 p told) inside o)),
          )
    ]

pub returns-after-eq : goal.returns-after-eq
returns-after-eq c =
    let f = c.args.flat.now in
    let q = c.args.program.now in
    let i = c.args.i in
    let kind = get_or f.kinds i 0 in
    let vars = variables_of q.variable_of q.variable_type in
    let l = c.loop-x in
    let k = c.variable_kind in
    let there : l.x ≤ length vars = omega (arith, variables_length q.variable_of q.variable_type, c.variable_count-n.ensures) in
    let inside : l.x - 1 < length vars = omega (arith, there, l.invariant.0) in
    let back : l.x - 1 + 1 ≡ l.x = omega (arith, l.invariant.0) in
    let last : length vars ≤ l.x - 1 + 1 = omega (arith, back, variables_length q.variable_of q.variable_type, c.variable_count-n.ensures) in
    elim c.if-eq.branch [
      | then-eq+else-not-typed_ok w ↦
          let same : k.result.0 ≡ kind = search rules in
          let o = own q.variable_of q.variable_type kind l.x l.j k.result.0 l.invariant.0 there (k.ensures q.variable_type) same in
          let small : l.j < 16 = below q.variable_of q.variable_type kind l.x l.j k.result.0 l.invariant.0 there (k.ensures q.variable_type) same l.invariant.2 c.requires.2 in
          let type = w.variable_type-t.ensures ∙ ap (λ (n : ℕ). (at no_variable vars n).type) (sym back) in
          λ p told.
          let e = many (goal.at.returns-after-eq c).After-event_count-events p told in
          granted (going_all p f.next kind vars (part (i * 19) 19 f.values) (l.x - 1 + 1) (l.j + 1)
          (going_own p f.next kind vars (part (i * 19) 19 f.values) (l.x - 1) l.j (l.invariant.3 p told) inside o
          (omega (arith, row_long i f.values c.requires.0 c.requires.1))
          ((number_told p f.next _ _ (i * 19) l.j f.values w.typed_ok.result type (omega arith) (w.typed_ok.ensures p e)).holds w.if-not-typed_ok.false)) last)
      | else-eq w ↦
          let differs : k.result.0 ≡ kind → ⊥ = λ z. search rules in
          let o = other q.variable_of q.variable_type kind l.x l.j k.result.0 l.invariant.0 there (k.ensures q.variable_type) differs in
          λ p told. granted (going_all p f.next kind vars (part (i * 19) 19 f.values) (l.x - 1 + 1) l.j
          (going_other p f.next kind vars (part (i * 19) 19 f.values) (l.x - 1) l.j (l.invariant.3 p told) inside o) last)
    ]

pub returns : goal.returns
returns c =
    let f = c.args.flat.now in
    let q = c.args.program.now in
    let l = c.loop-x in
    λ p told. granted (going_all p f.next (get_or f.kinds c.args.i 0) (variables_of q.variable_of q.variable_type) (part (c.args.i * 19) 19 f.values) (l.x - 1) l.j (l.invariant.3 p told)
    (omega (arith, variables_length q.variable_of q.variable_type, c.variable_count-n.ensures)))
