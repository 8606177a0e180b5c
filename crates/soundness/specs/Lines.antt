-- What follows where every line of a program meets what is asked of it: the fact of each table, at each of its numbers. And `first_fault` gives 0
-- exactly where every line meets it. Nothing here is of the document.
use Rattle.std.specs.Prelude.{ℕ, zero, suc, ◌+◌, ◌≤◌, ◌<◌, ◌≡◌, refl, ◌↔◌, Bool, true, false, cond, List, [], ◌∷◌, ◌++◌, length, get_or, replicate}
use Rattle.std.proofs.Common.{arith, add-one}
use Rattle.lists.specs.Lists.{at, All, There}
use Rattle.lists.specs.Check.{Check, free}
use Rattle.programs.specs.Program.{Program, stmt_at, expr_at, state_at, action_at, variable_at}
use Rattle.soundness.specs.Asked.{Asked}
use Rattle.soundness.specs.Sound.{numbered, lines, first_fault, meet, meets}

-- CHECKS IN A ROW
-- Where a row of two parts meets its checks, both parts do.
pub meet_parts : (l m : List Check) → (meet (l ++ m)).Holds → (meet l).Holds × (meet m).Holds
meet_parts [] m h = (tt, h)
meet_parts (c ∷ l) m h = let both = meet_parts l m h.1 in ((h.0, both.0), both.1)

-- A NUMBERED TABLE
-- Every element of the table meets what is asked of it at its number.
abbrev pub Numbered : {A : Type 0} → (ℕ → A → Check) → List A → Type 0
Numbered f l = (meet (numbered f 1 l)).Holds

module _ {A : Type 0} (f : ℕ → A → Check) where
  -- The element in place i, counted from 0, has number i + n where the first has number n.
  numbered_from : (d : A) (l : List A) (n i : ℕ) → i < length l → (meet (numbered f n l)).Holds → (f (i + n) (get_or l i d)).Holds
  numbered_from d [] n i h e = absurd (omega arith)
  numbered_from d (x ∷ l) n zero h e = let same : n ≡ 0 + n = omega arith in rw (← same) e.0
  numbered_from d (x ∷ l) n (suc i) h e = let same : i + suc n ≡ suc i + n = omega arith in rw same at (numbered_from d l (suc n) i (omega arith) e.1)

  -- Number n of the table meets what is asked of number n.
  pub numbered_at : (d : A) (l : List A) (n : ℕ) → There (length l) n → Numbered f l → (f n (at d l n)).Holds
  numbered_at d l zero h e = absurd (omega (arith, h.0))
  numbered_at d l (suc i) h e = rw add-one at (numbered_from d l 1 i (omega (arith, h.1)) e)

  -- What follows from the check whatever the number is holds of every element, where the first has number n,
  all_from : (P : A → Type 0) (n : ℕ) (l : List A) → ((n : ℕ) (x : A) → (f n x).Holds → P x) → (meet (numbered f n l)).Holds → All P l
  all_from P n [] k e = tt
  all_from P n (x ∷ l) k e = (k n x e.0, all_from P (suc n) l k e.1)

  -- and so of every element of a table.
  pub numbered_all : (P : A → Type 0) (l : List A) → ((n : ℕ) (x : A) → (f n x).Holds → P x) → Numbered f l → All P l
  numbered_all P l k e = all_from P 1 l k e

-- THE TABLES OF A PROGRAM
-- What the lines of a program meet, table by table.
pub record Tables (p : Program) (t : Asked) : Type 0 where
  pub variables : Numbered t.variable p.variables
  pub exprs : Numbered t.expr p.exprs
  pub stmts : Numbered t.stmt p.stmts
  pub actions : Numbered t.action p.actions
  pub states : Numbered t.state p.states
  pub steps : Numbered t.step p.steps
  pub calls : Numbered t.call p.calls
  pub acts : Numbered t.act p.acts
  pub start : (t.start p.start).Holds

module _ (p : Program) (t : Asked) (h : (meets p t).Holds) where
  -- Where every line meets what is asked, every table does.
  pub tables : Tables p t
  tables =
      let a = meet_parts (replicate (length p.events) free) _ h in
      let b = meet_parts (replicate p.machines free) _ a.1 in
      let c = meet_parts (numbered t.variable 1 p.variables) _ b.1 in
      let d = meet_parts (numbered t.expr 1 p.exprs) _ c.1 in
      let e = meet_parts (numbered t.stmt 1 p.stmts) _ d.1 in
      let f = meet_parts (numbered t.action 1 p.actions) _ e.1 in
      let g = meet_parts (numbered t.state 1 p.states) _ f.1 in
      let i = meet_parts (numbered t.step 1 p.steps) _ g.1 in
      let j = meet_parts (numbered t.call 1 p.calls) _ i.1 in
      let k = meet_parts (numbered t.act 1 p.acts) _ j.1 in
      record { variables = c.0; exprs = d.0; stmts = e.0; actions = f.0; states = g.0; steps = i.0; calls = j.0; acts = k.0; start = k.1.0 }

  -- So each variable meets what is asked of it,
  pub variable_meets : (x : ℕ) → There (length p.variables) x → (t.variable x (variable_at p x)).Holds
  variable_meets x k = numbered_at t.variable _ p.variables x k tables.variables

  -- each expression,
  pub expr_meets : (e : ℕ) → There (length p.exprs) e → (t.expr e (expr_at p e)).Holds
  expr_meets e k = numbered_at t.expr _ p.exprs e k tables.exprs

  -- each statement,
  pub stmt_meets : (s : ℕ) → There (length p.stmts) s → (t.stmt s (stmt_at p s)).Holds
  stmt_meets s k = numbered_at t.stmt _ p.stmts s k tables.stmts

  -- each action,
  pub action_meets : (a : ℕ) → There (length p.actions) a → (t.action a (action_at p a)).Holds
  action_meets a k = numbered_at t.action _ p.actions a k tables.actions

  -- and each state, looked up by its number;
  pub state_meets : (n : ℕ) → There (length p.states) n → (t.state n (state_at p n)).Holds
  state_meets n k = numbered_at t.state _ p.states n k tables.states

  -- so does every step line (`numbered_all` makes an `All` of it, and so of the two that follow),
  pub step_meets : Numbered t.step p.steps
  step_meets = tables.steps

  -- every call line,
  pub call_meets : Numbered t.call p.calls
  call_meets = tables.calls

  -- every act line,
  pub act_meets : Numbered t.act p.acts
  act_meets = tables.acts

  -- and the line `start`.
  pub start_meets : (t.start p.start).Holds
  start_meets = tables.start

-- THE FIRST FAULT
-- Counted from 1 or more, where no line is the first that does not meet its check, every one meets it.
no_fault : (k : ℕ) (l : List Check) → 1 ≤ k → first_fault k l ≡ 0 → (meet l).Holds
no_fault k [] h e = tt
no_fault k (c ∷ l) h e = go c.test refl e (no_fault (suc k) l (omega arith))
  where
    go : (b : Bool) → c.test ≡ b → cond b (first_fault (suc k) l) k ≡ 0 → (first_fault (suc k) l ≡ 0 → (meet l).Holds) → c.Holds × (meet l).Holds
    go true b z later = (c.tells.holds b, later z)
    go false b z later = absurd (omega arith)

-- And where every line meets its check, none is found.
none_found : (k : ℕ) (l : List Check) → (meet l).Holds → first_fault k l ≡ 0
none_found k [] h = refl
none_found k (c ∷ l) h = rw (c.tells.test h.0) (none_found (suc k) l h.1)

-- Of any row of checks, counted from 1 or more: the first fault is 0 exactly where every check is met.
pub fault_is : (k : ℕ) (l : List Check) → 1 ≤ k → (first_fault k l ≡ 0) ↔ (meet l).Holds
fault_is k l h = (no_fault k l h, none_found k l)

-- THE law: no line of a program is at fault exactly where every one meets what is asked of it.
pub fault_free : (p : Program) (t : Asked) → (first_fault 1 (lines p t) ≡ 0) ↔ (meets p t).Holds
fault_free p t = fault_is 1 (lines p t) (omega arith)
