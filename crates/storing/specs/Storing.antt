-- The rules of src/lib.rt: what each is asked, and what it leaves, a law for each way out.
use Rattle.std.specs.Prelude.{ℕ, ◌+◌, ◌*◌, ◌%◌, ◌≤◌, ◌<◌, ◌≡◌, refl, Bool, true, false, not, List, [], ◌∷◌, eqb, length, get_or, set, drop, Ok, Err}
use Rattle.std.proofs.Common.{ap, sym, ◌∙◌, arith}
use Rattle.lists.specs.Lists.{at}
use Rattle.answers.specs.declared.Answer.TheVariants.{WrongType}
use Rattle.values.specs.declared.Ty.{Ty}
use Rattle.values.specs.declared.Value.{Value}
use Rattle.values.specs.Values.{suits}
use Rattle.programs.specs.Program.{Stmt, assign, return, stmt_at, variable_at, place, Exit}
use Rattle.programs.specs.Statements.{serves}
use Rattle.soundness.specs.Founded.{VariableOf, Refers}
use Rattle.soundness.specs.SoundFounded.{sound_founded}
use Rattle.machines.specs.Config.{returning}
use Rattle.machines.specs.Eval.{eval}
use Rattle.rules.specs.declared.Rule.TheVariants.{ASSIGN, RETURN}
use Rattle.codes.specs.Codes.{code_of, value_of}
use Rattle.tables.specs.Decode as decode
use Rattle.tables.specs.Tables.{variables_length}
use Rattle.tables.specs.Decode.{no_variable, no_state}
use Rattle.parts.specs.Parts.{Said, Any, tidied}
use Rattle.evaluation.specs.Evaluated.{REST, evaluated}
use Rattle.engine.specs.Outcome.{Outcome}
use Rattle.engine.specs.Engine.{Acted}
use Rattle.engine.specs.Holding.{RowBecomes, touched}
use Rattle.stored.specs.Stored.{place_16, variable_set, head_serves}
use Rattle.statements.specs.Heading.{RowAsked, PartAsked, PendingLeft, act_of, row_then, asked_said}
use Rattle.statements.specs.Conditions.{TestAsked, test_code, test_value}
use Rattle.storing.specs.Stores.{with_stored, stored_same, stored_kept}

-- WHAT IS LEFT
abbrev pub StoredLeft : {k : ℕ} {t : Stmt} {counts parts held : List ℕ} → RowAsked k t counts parts held → ℕ → Outcome → List ℕ → List ℕ → List ℕ → List ℕ → Type 0
StoredLeft {k = k} a w o values counts parts held = Acted a.f k a.m (act_of a.heading w) o (with_stored a.f values counts parts held)

-- ASSIGN: the variables are the program's
pub record AssignAsked (exprs places kinds types values : List ℕ) (k x e w : ℕ) (counts parts held : List ℕ) : Type 0 where
  pub test : TestAsked exprs places values k (assign x e) e w counts parts held
  pub variables_are : test.row.p.variables ≡ decode.variables_of kinds types

module _ {exprs places kinds types values : List ℕ} {k x e w : ℕ} {counts parts held : List ℕ} (a : AssignAsked exprs places kinds types values k x e w counts parts held) where
  -- the variable is the machine's
  pub assign_own : VariableOf a.test.row.p a.test.row.m.loc.kind x
  assign_own =
      let r = a.test.row in
      let v : serves r.p r.m.loc.kind r.heading.s ≡ true =
      head_serves r.p r.f k r.m r.heading.sound r.heading.stands exprs places a.test.exprs_are a.test.here r.heading.s r.heading.r r.heading.head e (rw r.heading.is a.test.of) in
      go (stmt_at r.p r.heading.s) r.heading.is ((sound_founded r.p r.heading.sound).refers r.m.loc.kind r.heading.s v)
    where
      go : (t : Stmt) → t ≡ assign x e → Refers a.test.row.p a.test.row.m.loc.kind t → VariableOf a.test.row.p a.test.row.m.loc.kind x
      go t q h = rw q at h

  -- its number is one of 256
  pub assign_256 : x ≤ 256
  assign_256 = omega (arith, assign_own.0.1, ap length a.variables_are, variables_length kinds types)

  -- its place is one of the machine's 16
  pub assign_place : get_or places x 0 < 16
  assign_place = let r = a.test.row in place_16 r.p r.heading.sound places a.test.here x

  -- v is the number of the expression's value u, t the variable's type, and `ok` whether the value suits it
  module _ (v : ℕ) (gives : v ≡ evaluated exprs places values (k * 19) e w % REST) (t : Ty) (of_type : t ≡ (at no_variable (decode.variables_of kinds types) x).type)
      (u : Value) (reads : u ≡ value_of v) (ok : Bool) (says : ok ≡ suits t u) where
    -- the value
    abbrev value : Value
    value = eval a.test.row.p a.test.row.m.this a.test.row.m.loc w 0 e

    -- suits as the definition says
    suits_is : suits (variable_at a.test.row.p x).type value ≡ ok
    suits_is = sym (rw (says, of_type, ← a.variables_are, reads, gives, test_value a.test))

    -- 15
    pub assign_refused : ok ≡ false → StoredLeft a.test.row w (Err WrongType) values counts parts held
    assign_refused h = rw (suits_is ∙ h) (refl, stored_same a.test.row a.test.values_are)

    -- stored
    pub assign_left : {counts' parts' : List ℕ} (j : ℕ) → j ≡ get_or places x 0 → (b : Bool) → b ≡ not (eqb (get_or held k 0) 0) → ok ≡ true
        → RowBecomes k counts parts Any (λ p r. tidied b p (0 ∷ drop 1 r)) counts' parts' → StoredLeft a.test.row w (Ok ASSIGN) (set values (k * 19 + j) v) counts' parts' held
    assign_left j at_j b z h c =
        let r = a.test.row in
        let n : v ≡ code_of value = gives ∙ test_code a.test in
        rw (suits_is ∙ h, n, at_j, ← a.test.values_are) (
          refl,
          stored_kept r (λ p l. 0 ∷ drop 1 l) b c tt
              (set r.m.loc.variables (place r.p r.m.loc.kind x) value) r.m.loc.msg r.m.loc.arg
              (touched k 19 (get_or places x 0) (code_of value) r.f.values (omega (arith, assign_place)))
              (variable_set r.p r.f k r.m r.heading.sound r.heading.stands places a.test.here x assign_own value) z,
        )

-- RETURN: the states are the program's, and n is the one on top
pub record ReturnAsked (stmts kinds exits : List ℕ) (k n : ℕ) (counts parts held : List ℕ) : Type 0 where
  pub part : PartAsked stmts k return counts parts held
  pub entries : List ℕ
  pub flags : List ℕ
  pub states_are : part.row.p.states ≡ decode.states_of kinds entries exits flags
  pub state_is : part.row.heading.top.state ≡ n

-- its exit
pub return_left : {stmts kinds exits : List ℕ} {k n : ℕ} {counts parts held counts' parts' : List ℕ} (a : ReturnAsked stmts kinds exits k n counts parts held) (w s : ℕ)
    → s ≡ (at no_state (decode.states_of kinds a.entries exits a.flags) n).exit → RowBecomes k counts parts (Said stmts) (λ p r. tidied true p (s ∷ [])) counts' parts'
    → PendingLeft a.part.row w (Ok RETURN) counts' parts' (set held k 1)
return_left {n = n} a w s e c = let q : s ≡ Exit a.part.row.p a.part.row.heading.top.state = rw (a.state_is, a.states_are) e in
    rw (← q) (refl, row_then a.part.row (λ p r. s ∷ []) true returning refl c (asked_said a.part))
