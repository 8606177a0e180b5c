-- The conditions of if, while and assert: what the function that works one out is asked and leaves, and which way an act goes by it.
use Rattle.std.specs.Prelude.{ℕ, ◌*◌, ◌/◌, ◌%◌, ◌^◌, ◌<◌, ◌≡◌, refl, Bool, true, false, List, Option, Some, None}
use Rattle.std.proofs.Common.{ap, sym, ◌∙◌, div-one}
use Rattle.lists.specs.Facts.{has}
use Rattle.answers.specs.declared.Answer.TheVariants.{NotABool}
use Rattle.values.specs.declared.Value.{Value}
use Rattle.values.specs.declared.Value.TheVariants.{Undefined as undefined, Bool as vbool, Int as vint, Event as vevent, Id as vid}
use Rattle.programs.specs.Program.{Stmt}
use Rattle.programs.specs.Statements.{exprs_of}
use Rattle.machines.specs.Eval.{eval}
use Rattle.rules.specs.Act.{Act, refuses, on_bool}
use Rattle.codes.specs.Codes.{code_of, value_of}
use Rattle.index.specs.Index.{Places}
use Rattle.evaluation.specs.Evaluated.{REST, evaluated, Readable}
use Rattle.tables.specs.Decode as decode
use Rattle.stored.specs.Stored.{readable, gives_code, gives_value}
use Rattle.statements.specs.Heading.{RowAsked, PartAsked}

-- THE TRUTH OF A CONDITION: none where it is no bool
abbrev pub truth_of : Value → Option Bool
truth_of undefined = None
truth_of (vbool b) = Some b
truth_of (vint z) = None
truth_of (vevent e) = None
truth_of (vid i) = None

-- THE ACT BY A CONDITION'S TRUTH
module _ (yes' no' : Act) where
  -- 14
  pub on_none : (v : Value) → truth_of v ≡ None → on_bool v yes' no' ≡ refuses NotABool
  on_none undefined e = refl
  on_none (vbool b) e = absurd cc
  on_none (vint z) e = refl
  on_none (vevent n) e = refl
  on_none (vid i) e = refl

  -- false
  pub on_false : (v : Value) → truth_of v ≡ Some false → on_bool v yes' no' ≡ no'
  on_false undefined e = absurd cc
  on_false (vbool true) e = absurd cc
  on_false (vbool false) e = refl
  on_false (vint z) e = absurd cc
  on_false (vevent n) e = absurd cc
  on_false (vid i) e = absurd cc

  -- true
  pub on_true : (v : Value) → truth_of v ≡ Some true → on_bool v yes' no' ≡ yes'
  on_true undefined e = absurd cc
  on_true (vbool true) e = refl
  on_true (vbool false) e = absurd cc
  on_true (vint z) e = absurd cc
  on_true (vevent n) e = absurd cc
  on_true (vid i) e = absurd cc

-- WHAT A RULE THAT EVALUATES IS ASKED: the lists hold the program's expressions, its variables' places and the machine's values, and e is one of the head's
pub record TestAsked (exprs places values : List ℕ) (k : ℕ) (t : Stmt) (e w : ℕ) (counts parts held : List ℕ) : Type 0 where
  pub row : RowAsked k t counts parts held
  pub exprs_are : row.p.exprs ≡ decode.exprs_of exprs
  pub here : Places row.p places
  pub values_are : row.f.values ≡ values
  pub of : has e (exprs_of t)
  pub bits : w < 256

-- and one after which the row may begin with another statement
pub record BranchAsked (stmts exprs places values : List ℕ) (k : ℕ) (t : Stmt) (e w : ℕ) (counts parts held : List ℕ) : Type 0 where
  pub test : TestAsked exprs places values k t e w counts parts held
  pub inits : List ℕ
  pub stmts_are : test.row.p.stmts ≡ decode.stmts_of stmts inits

-- its statements
abbrev pub branching : {stmts exprs places values : List ℕ} {k : ℕ} {t : Stmt} {e w : ℕ} {counts parts held : List ℕ} → BranchAsked stmts exprs places values k t e w counts parts held
    → PartAsked stmts k t counts parts held
branching a = record { row = a.test.row; inits = a.inits; stmts_are = a.stmts_are }

module _ {exprs places values : List ℕ} {k : ℕ} {t : Stmt} {e w : ℕ} {counts parts held : List ℕ} (a : TestAsked exprs places values k t e w counts parts held) where
  -- what evaluation is asked
  pub asked_readable : Readable places values (k * 19)
  asked_readable = let r = a.row in rw (← a.values_are) (readable r.p r.f k r.m r.heading.sound r.heading.stands places a.here)

  -- no bit is taken yet
  none_taken : w ≡ w / 2 ^ 0
  none_taken = sym (div-one w)

  -- the number of the definition's value
  pub test_code : evaluated exprs places values (k * 19) e w % REST ≡ code_of (eval a.row.p a.row.m.this a.row.m.loc w 0 e)
  test_code = let r = a.row in rw (← a.values_are) (gives_code r.p r.f k r.m r.heading.sound r.heading.stands exprs places a.exprs_are a.here
      r.heading.s r.heading.r r.heading.head e (rw r.heading.is a.of) w 0 w none_taken)

  -- the value
  pub test_value : value_of (evaluated exprs places values (k * 19) e w % REST) ≡ eval a.row.p a.row.m.this a.row.m.loc w 0 e
  test_value = let r = a.row in rw (← a.values_are) (gives_value r.p r.f k r.m r.heading.sound r.heading.stands exprs places a.exprs_are a.here
      r.heading.s r.heading.r r.heading.head e (rw r.heading.is a.of) w 0 w none_taken)

  -- so a condition's truth is that of the definition's value
  pub test_truth : {x : Option Bool} → x ≡ truth_of (value_of (evaluated exprs places values (k * 19) e w % REST)) → truth_of (eval a.row.p a.row.m.this a.row.m.loc w 0 e) ≡ x
  test_truth q = sym (q ∙ ap truth_of test_value)
