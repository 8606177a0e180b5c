-- `scans::scan` meets its contract: at each turn what is still to be scanned gives what the whole form gives. Assumes nothing.
use mathlib.Core.Path.{refl, ap, sym, ◌∙◌, ◌≡◌}
use mathlib.Core.List.{List}
use Prim.Native.Nat.{ℕ}
use Rattle.std.proofs.Common.{arith}
use Rattle.std.proofs.Math.Option.{Option, none}
use Rattle.std.proofs.lemmas.Bool.{not-true, not-false}
use lib.ListN.{get_or, drop}
use Rattle.numerals.specs.Splits.{span_rest}
use Rattle.shapes.specs.Scan.{zeros, scan}
use Rattle.scans.specs.Fits.{fit_of}
use Rattle.scans.specs.Turns.{scanning_none, scan_out, scan_ended, scan_not, scan_taken, scan_short, scan_off, scan_on}
use Rattle.scans.proofs.scan.Goals as goal
use Rattle.scans.proofs.scan.Goals.{else-i-e-via-then-i-e+else-s-i, else-i-e-via-else-i-e, then-is_hole+else-not-w, else-is_hole+then-i-e+then-s-i, At-loop-c}

-- what is found of the form's text f is found of d, which is the same
whole : (f d s : List ℕ) (a e : ℕ) (o : Option (List ℕ)) → f ≡ d → scan f s e a 0 zeros ≡ o → fit_of o ≡ fit_of (scan d s e a 0 zeros)
whole f d s a e o q h = ap fit_of (sym h ∙ ap (λ x. scan x s e a 0 zeros) q)

pub returns-in_err-form : goal.returns-in_err-form
returns-in_err-form c =
    let a = c.args in
    c.from_residual.ensures ∙ ap fit_of (sym (scan_out a.t.now a.b a.s.now a.a a.e a.b a.a 0 zeros (scanning_none a.t.now a.b a.s.now a.a a.e c.requires.room)
    (omega (arith, c.in_err-form.ensures.lookup.0))))

pub returns-then-c-eq10 : goal.returns-then-c-eq10
returns-then-c-eq10 c =
    let p = c.loop-c in
    let a = c.args in
    let f = c.in_ok-form.form.now in
    c.then_some.ensures ∙ sym (scan_ended f 0 a.s.now a.a a.e p.c-index p.i p.n p.at p.invariant (get_or f p.c-index 0) c.loop-c-test.true refl c.if-c-eq10.true)
    ∙ whole f (drop a.b a.t.now) a.s.now a.a a.e _ (c.in_ok-form.ensures.lookup.0.2 ∙ span_rest a.b a.t.now) refl

pub returns-then-not-w : goal.returns-then-not-w
returns-then-not-w c =
    let p = c.loop-c in
    let a = c.args in
    let f = c.in_ok-form.form.now in
    whole f (drop a.b a.t.now) a.s.now a.a a.e none (c.in_ok-form.ensures.lookup.0.2 ∙ span_rest a.b a.t.now)
    (scan_not f 0 a.s.now a.a a.e p.c-index p.i p.n p.at p.invariant (get_or f p.c-index 0) c.loop-c-test.true refl c.if-c-eq10.false
    (sym c.is_hole.ensures ∙ c.if-is_hole.true) c.known-w.result c.known-w.ensures (not-true _ c.if-not-w.true))

pub returns-else-i-e : goal.returns-else-i-e
returns-else-i-e c =
    let p = c.loop-c in
    let a = c.args in
    let f = c.in_ok-form.form.now in
    whole f (drop a.b a.t.now) a.s.now a.a a.e none (c.in_ok-form.ensures.lookup.0.2 ∙ span_rest a.b a.t.now)
    (elim c.else-i-e.branch [
      | else-i-e-via-then-i-e+else-s-i w ↦ scan_off f 0 a.s.now a.a a.e p.c-index p.i p.n p.at p.invariant (get_or f p.c-index 0) c.loop-c-test.true refl
          c.if-c-eq10.false (sym c.is_hole.ensures ∙ c.if-is_hole.false) w.if-i-e.true w.if-s-i.false
      | else-i-e-via-else-i-e w ↦ scan_short f 0 a.s.now a.a a.e p.c-index p.i p.n p.at p.invariant (get_or f p.c-index 0) c.loop-c-test.true refl
          c.if-c-eq10.false (sym c.is_hole.ensures ∙ c.if-is_hole.false) w.if-i-e.false
    ])

pub loop-c-preserved : goal.loop-c-preserved
loop-c-preserved c =
    let p = c.loop-c in
    let a = c.args in
    let f = c.in_ok-form.form.now in
    elim c.if-is_hole.branch [
      | then-is_hole+else-not-w w ↦ rw (w.i-is, w.n-is, w.at-is)
          (scan_taken f 0 a.s.now a.a a.e p.c-index p.i p.n p.at p.invariant (get_or f p.c-index 0) c.loop-c-test.true refl c.if-c-eq10.false
          (sym c.is_hole.ensures ∙ w.if-is_hole.true) w.known-w.result w.known-w.ensures (not-false _ w.if-not-w.false))
      | else-is_hole+then-i-e+then-s-i w ↦ rw (w.i-is, w.n-is, w.at-is)
          (scan_on f 0 a.s.now a.a a.e p.c-index p.i p.n p.at p.invariant (get_or f p.c-index 0) c.loop-c-test.true refl c.if-c-eq10.false
          (sym c.is_hole.ensures ∙ w.if-is_hole.false) w.if-i-e.true w.if-s-i.true)
    ]

pub returns : goal.returns
returns c =
    let p = c.loop-c in
    let a = c.args in
    let f = c.in_ok-form.form.now in
    whole f (drop a.b a.t.now) a.s.now a.a a.e none (c.in_ok-form.ensures.lookup.0.2 ∙ span_rest a.b a.t.now)
    (scan_out f 0 a.s.now a.a a.e p.c-index p.i p.n p.at p.invariant c.loop-c-test.false)
