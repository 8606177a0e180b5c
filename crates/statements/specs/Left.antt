-- What the rules of src/lib.rt leave: a law for each way out of a function.
use Rattle.std.specs.Prelude.{ℕ, ◌*◌, ◌%◌, ◌≡◌, refl, Bool, true, false, not, List, [], ◌∷◌, eqb, get_or, set, drop, Ok, Err, Option, Some, None}
use Rattle.std.proofs.Common.{◌∙◌}
use Rattle.answers.specs.declared.Answer.TheVariants.{NotABool, AssertionFalse}
use Rattle.programs.specs.Program.{Stmt, skip, leave, assert, if, while}
use Rattle.machines.specs.Config.{idle}
use Rattle.machines.specs.Eval.{eval}
use Rattle.machines.specs.Locals.{remains, moves_on}
use Rattle.rules.specs.declared.Rule.TheVariants.{ASSERT, SEQ, IF, WHILE, LEAVE}
use Rattle.rules.specs.Act.{Act, alone, refuses, on_bool}
use Rattle.codes.specs.Codes.{value_of}
use Rattle.parts.specs.Parts.{Said, Any, tidied}
use Rattle.evaluation.specs.Evaluated.{REST, evaluated}
use Rattle.engine.specs.Outcome.{Outcome}
use Rattle.engine.specs.Engine.{Acted}
use Rattle.engine.specs.Holding.{RowBecomes}
use Rattle.remaining.specs.Held.{with_row}
use Rattle.statements.specs.Heading.{RowAsked, PartAsked, RowLeft, PendingLeft, act_of, row_same, row_kept, row_then, asked_said}
use Rattle.statements.specs.Conditions.{TestAsked, BranchAsked, branching, truth_of, on_none, on_false, on_true, test_truth}

-- SEQ
pub skip_left : {stmts : List ℕ} {k : ℕ} {counts parts held counts' parts' : List ℕ} (a : PartAsked stmts k skip counts parts held) (w : ℕ) (b : Bool) → b ≡ not (eqb (get_or held k 0) 0)
    → RowBecomes k counts parts (Said stmts) (λ p r. tidied b p (drop 1 r)) counts' parts' → RowLeft a.row w (Ok SEQ) counts' parts'
skip_left a w b e c = (refl, row_kept a.row (λ p r. drop 1 r) b e c (asked_said a))

-- LEAVE
pub leave_left : {k : ℕ} {counts parts held counts' parts' : List ℕ} (a : RowAsked k leave counts parts held) (w : ℕ) → RowBecomes k counts parts Any (λ p r. []) counts' parts'
    → PendingLeft a w (Ok LEAVE) counts' parts' (set held k 0)
leave_left a w c = (refl, row_then a (λ p r. []) false idle refl c tt)

-- BY THE CONDITION, whose truth is x
module _ {exprs places values : List ℕ} {k : ℕ} {t : Stmt} {e w : ℕ} {counts parts held : List ℕ} (a : TestAsked exprs places values k t e w counts parts held)
    (yes' no' : Act) (is : act_of a.row.heading w ≡ on_bool (eval a.row.p a.row.m.this a.row.m.loc w 0 e) yes' no')
    (x : Option Bool) (q : x ≡ truth_of (value_of (evaluated exprs places values (k * 19) e w % REST))) where
  -- 14
  pub test_none : x ≡ None → RowLeft a.row w (Err NotABool) counts parts
  test_none h = rw (is ∙ on_none yes' no' (eval a.row.p a.row.m.this a.row.m.loc w 0 e) (test_truth a q ∙ h)) (refl, row_same a.row)

  module _ (o : Outcome) (counts' parts' : List ℕ) where
    -- false
    pub test_false : x ≡ Some false → Acted a.row.f k a.row.m no' o (with_row a.row.f counts' parts') → RowLeft a.row w o counts' parts'
    test_false h d = rw (is ∙ on_false yes' no' (eval a.row.p a.row.m.this a.row.m.loc w 0 e) (test_truth a q ∙ h)) d

    -- true
    pub test_true : x ≡ Some true → Acted a.row.f k a.row.m yes' o (with_row a.row.f counts' parts') → RowLeft a.row w o counts' parts'
    test_true h d = rw (is ∙ on_true yes' no' (eval a.row.p a.row.m.this a.row.m.loc w 0 e) (test_truth a q ∙ h)) d

-- ASSERT
module _ {exprs places values : List ℕ} {k e w : ℕ} {counts parts held : List ℕ} (a : TestAsked exprs places values k (assert e) e w counts parts held)
    (x : Option Bool) (q : x ≡ truth_of (value_of (evaluated exprs places values (k * 19) e w % REST))) where
  -- passed
  abbrev passed : Act
  passed = alone ASSERT (moves_on a.row.p a.row.heading.r a.row.m.loc)

  pub assert_none : x ≡ None → RowLeft a.row w (Err NotABool) counts parts
  assert_none h = test_none a passed (refuses AssertionFalse) refl x q h

  pub assert_false : x ≡ Some false → RowLeft a.row w (Err AssertionFalse) counts parts
  assert_false h = test_false a passed (refuses AssertionFalse) refl x q (Err AssertionFalse) counts parts h (refl, row_same a.row)

  pub assert_true : {counts' parts' : List ℕ} (b : Bool) → b ≡ not (eqb (get_or held k 0) 0) → x ≡ Some true
      → RowBecomes k counts parts Any (λ p r. tidied b p (0 ∷ drop 1 r)) counts' parts' → RowLeft a.row w (Ok ASSERT) counts' parts'
  assert_true b z h c = test_true a passed (refuses AssertionFalse) refl x q (Ok ASSERT) _ _ h (refl, row_kept a.row (λ p r. 0 ∷ drop 1 r) b z c tt)

-- IF
module _ {stmts exprs places values : List ℕ} {k e y n w : ℕ} {counts parts held : List ℕ} (a : BranchAsked stmts exprs places values k (if e y n) e w counts parts held)
    (x : Option Bool) (q : x ≡ truth_of (value_of (evaluated exprs places values (k * 19) e w % REST))) where
  -- statement s before what is behind the head
  abbrev goes : ℕ → Act
  goes s = let r = a.test.row in alone IF (remains r.p (s ∷ r.heading.r) r.m.loc.pending r.m.loc)

  pub if_none : x ≡ None → RowLeft a.test.row w (Err NotABool) counts parts
  if_none h = test_none a.test (goes y) (goes n) refl x q h

  pub if_false : {counts' parts' : List ℕ} (b : Bool) → b ≡ not (eqb (get_or held k 0) 0) → x ≡ Some false
      → RowBecomes k counts parts (Said stmts) (λ p r. tidied b p (n ∷ drop 1 r)) counts' parts' → RowLeft a.test.row w (Ok IF) counts' parts'
  if_false b z h c = test_false a.test (goes y) (goes n) refl x q (Ok IF) _ _ h (refl, row_kept a.test.row (λ p r. n ∷ drop 1 r) b z c (asked_said (branching a)))

  pub if_true : {counts' parts' : List ℕ} (b : Bool) → b ≡ not (eqb (get_or held k 0) 0) → x ≡ Some true
      → RowBecomes k counts parts (Said stmts) (λ p r. tidied b p (y ∷ drop 1 r)) counts' parts' → RowLeft a.test.row w (Ok IF) counts' parts'
  if_true b z h c = test_true a.test (goes y) (goes n) refl x q (Ok IF) _ _ h (refl, row_kept a.test.row (λ p r. y ∷ drop 1 r) b z c (asked_said (branching a)))

-- WHILE
module _ {stmts exprs places values : List ℕ} {k e y w : ℕ} {counts parts held : List ℕ} (a : BranchAsked stmts exprs places values k (while e y) e w counts parts held)
    (x : Option Bool) (q : x ≡ truth_of (value_of (evaluated exprs places values (k * 19) e w % REST))) where
  -- once more
  abbrev again : Act
  again = let r = a.test.row in alone WHILE (remains r.p (y ∷ r.heading.s ∷ r.heading.r) r.m.loc.pending r.m.loc)

  -- no more
  abbrev ended : Act
  ended = let r = a.test.row in alone WHILE (moves_on r.p r.heading.r r.m.loc)

  pub while_none : x ≡ None → RowLeft a.test.row w (Err NotABool) counts parts
  while_none h = test_none a.test again ended refl x q h

  pub while_false : {counts' parts' : List ℕ} (b : Bool) → b ≡ not (eqb (get_or held k 0) 0) → x ≡ Some false
      → RowBecomes k counts parts Any (λ p r. tidied b p (0 ∷ drop 1 r)) counts' parts' → RowLeft a.test.row w (Ok WHILE) counts' parts'
  while_false b z h c = test_false a.test again ended refl x q (Ok WHILE) _ _ h (refl, row_kept a.test.row (λ p r. 0 ∷ drop 1 r) b z c tt)

  pub while_true : {counts' parts' : List ℕ} (b : Bool) → b ≡ not (eqb (get_or held k 0) 0) → x ≡ Some true
      → RowBecomes k counts parts (Said stmts) (λ p r. tidied b p (y ∷ r)) counts' parts' → RowLeft a.test.row w (Ok WHILE) counts' parts'
  while_true b z h c = test_true a.test again ended refl x q (Ok WHILE) _ _ h (refl, row_kept a.test.row (λ p r. y ∷ r) b z c (asked_said (branching a)))
