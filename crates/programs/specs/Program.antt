-- Document 01, "The line format": a program as the records of its lines, and document 002's partial functions over it.
use Rattle.std.specs.Prelude.{ℕ, suc, ◌-◌, Bool, cond, ◌&&◌, ◌||◌, List, [], ◌∷◌, eqb, length, take}
use Rattle.std.proofs.Math.Option.{Option, none, some}
use Rattle.lists.specs.Lists.{at, keep, any, is_some}
use Rattle.values.specs.declared.Ty.{Ty}
use Rattle.values.specs.declared.Ty.TheVariants.{Void as void}
use Rattle.programs.specs.declared.Leaf.TheVariants.{Bot as bot}
use Rattle.programs.specs.declared.Expr.{Expr}
use Rattle.programs.specs.declared.Expr.TheVariants.{Leaf as leaf}

-- THE LINES. Every table is a list; number n of a table stands in place n, counted from 1.

-- `var=1 of=1 type=int`
pub record Variable : Type 0 where
  pub of : ℕ
  pub type : Ty

-- `expr=1 kind=add a=2 b=3`, "also sub, and, or; not, neg (`a`); int, bool (`val`); var (`var`); this, msg, arg, bot, star": the enums Expr and
-- Leaf of src/lib.rt, here as leaf, unary, binary

-- `stmt=1 kind=assign var=1 expr=1`
pub data Stmt : Type 0 where
  skip : Stmt
  assign : ℕ → ℕ → Stmt  -- var, expr
  new : ℕ → ℕ → List (ℕ × ℕ) → Stmt  -- var, machine, init: pairs of variable and expression
  delete : Stmt
  send : ℕ → ℕ → ℕ → Stmt  -- to, event, arg
  raise : ℕ → ℕ → Stmt  -- event, arg
  leave : Stmt
  return : Stmt
  assert : ℕ → Stmt  -- expr
  seq : ℕ → ℕ → Stmt  -- first, second
  if : ℕ → ℕ → ℕ → Stmt  -- cond, then, else
  while : ℕ → ℕ → Stmt  -- cond, body

-- `action=1 of=1 do=1`
pub record Action : Type 0 where
  pub of : ℕ
  pub body : ℕ

-- `state=1 of=1 defer=none entry=1 exit=0`
pub record State : Type 0 where
  pub of : ℕ
  pub defer : List ℕ
  pub entry : ℕ
  pub exit : ℕ

-- `step=1 on=1 to=2`, `call=1 on=1 to=2`, `act=1 on=1 do=1`
pub record Move : Type 0 where
  pub from : ℕ  -- the state
  pub on : ℕ  -- the event
  pub to : ℕ  -- the state, or the action

-- A program: the lines of a text, table by table.
pub record Program : Type 0 where
  pub events : List Ty
  pub machines : ℕ  -- how many kinds
  pub variables : List Variable
  pub exprs : List Expr
  pub stmts : List Stmt
  pub actions : List Action
  pub states : List State
  pub steps : List Move
  pub calls : List Move
  pub acts : List Move
  pub start : ℕ

-- LOOKING UP. "0 means skip ... and the undefined value in `arg`": number 0 of the statements is skip, of the expressions bot.
abbrev pub expr_at : Program → ℕ → Expr
expr_at p e = at (leaf bot) p.exprs e

-- `stmt=1 ..`: statement s
abbrev pub stmt_at : Program → ℕ → Stmt
stmt_at p s = at skip p.stmts s

-- `state=1 ..`: state n
abbrev pub state_at : Program → ℕ → State
state_at p n = at (record { of = 0; defer = []; entry = 0; exit = 0 }) p.states n

-- `action=1 ..`: action a
abbrev pub action_at : Program → ℕ → Action
action_at p a = at (record { of = 0; body = 0 }) p.actions a

-- `var=1 ..`: variable x
abbrev pub variable_at : Program → ℕ → Variable
variable_at p x = at (record { of = 0; type = void }) p.variables x

-- `event=1 type=int`: the type of event e's payload
abbrev pub event_type : Program → ℕ → Ty
event_type p e = at void p.events e

-- The variables of kind k, in order, and the place of variable x among them (from 0): a machine holds a value for each.
abbrev pub is_of : ℕ → Variable → Bool
is_of k v = eqb v.of k

-- "variables 16 a kind": those of kind k
abbrev pub variables_of : Program → ℕ → List Variable
variables_of p k = keep (is_of k) p.variables

-- the place of variable x among its kind's, from 0
abbrev pub place : Program → ℕ → ℕ → ℕ
place p k x = length (keep (is_of k) (take (x - 1) p.variables))

-- Document 002's Init(m): "A kind's first state is its initial one."
abbrev pub first_of : ℕ → ℕ → List State → ℕ
first_of k n [] = 0
first_of k n (s ∷ l) = cond (eqb s.of k) n (first_of k (suc n) l)

-- 002: "The initial state of the machine m is the first state in the state list and is denoted by Init(m)"
abbrev pub Init : Program → ℕ → ℕ
Init p k = first_of k 1 p.states

-- Entry(m, n), Exit(m, n), Stmt(m, a), e ∈ Deferred(m, n). The states and actions of all kinds are numbered in one row, so m is not asked for.
abbrev pub Entry : Program → ℕ → ℕ
Entry p n = (state_at p n).entry

-- 002: "let Exit(m, n) denote the associated exit statement"
abbrev pub Exit : Program → ℕ → ℕ
Exit p n = (state_at p n).exit

-- 002: Stmt(m, a), the statement of action a
abbrev pub Body : Program → ℕ → ℕ
Body p a = (action_at p a).body

-- 002: "let Deferred(m, n) denote the associated set of deferred events": e is in it
abbrev pub Deferred : Program → ℕ → ℕ → Bool
Deferred p n e = any (eqb e) (state_at p n).defer

-- Step(m, n, e), Call(m, n, e), Action(m, n, e), each none for ⊥; Trans(m, n, e) ≠ ⊥
abbrev pub moved : List Move → ℕ → ℕ → Option ℕ
moved [] n e = none
moved (t ∷ l) n e = cond (eqb t.from n && eqb t.on e) (some t.to) (moved l n e)

-- 002: Step(m, n, e)
abbrev pub Step : Program → ℕ → ℕ → Option ℕ
Step p n e = moved p.steps n e

-- 002: Call(m, n, e)
abbrev pub Call : Program → ℕ → ℕ → Option ℕ
Call p n e = moved p.calls n e

-- 002: "let Action(m, n, e) be an that action a is associated with event e in state n, if such a binding exists or ⊥ otherwise"
abbrev pub ActionOf : Program → ℕ → ℕ → Option ℕ
ActionOf p n e = moved p.acts n e

-- 002: Trans(m, n, e) ≠ ⊥: a step or a call
abbrev pub Trans : Program → ℕ → ℕ → Bool
Trans p n e = is_some (Step p n e) || is_some (Call p n e)
