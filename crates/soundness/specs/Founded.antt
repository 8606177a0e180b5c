-- What the steps rest on of a sound program: that a configuration stays accepted needs no more than this.
use Rattle.std.specs.Prelude.{ℕ, ◌≤◌, ◌<◌, ◌≡◌, true, eqb, length}
use Rattle.lists.specs.Lists.{All, any, There}
use Rattle.values.specs.declared.Ty.TheVariants.{Id as id}
use Rattle.programs.specs.Sizes.{HEIGHT}
use Rattle.programs.specs.Program.{Program, Stmt, skip, assign, new, delete, send, raise, leave, return, assert, seq, if, while, stmt_at, state_at, action_at, variable_at}
use Rattle.programs.specs.Statements.{parts, height, serves}

module _ (p : Program) (k : ℕ) where
  -- variable x is there, and of kind k
  abbrev pub VariableOf : ℕ → Type 0
  VariableOf x = There (length p.variables) x × ((variable_at p x).of ≡ k)

-- a statement that serves kind k: its variables, events and kinds are there and of the kind (4)
abbrev pub Refers : Program → ℕ → Stmt → Type 0
Refers p k skip = Unit {0}
Refers p k (assign x e) = VariableOf p k x
Refers p k (new x m is) = VariableOf p k x × ((variable_at p x).type ≡ id) × There p.machines m × All (λ xe. VariableOf p m xe.0) is
Refers p k delete = Unit {0}
Refers p k (send t e a) = There (length p.events) e
Refers p k (raise e a) = There (length p.events) e
Refers p k leave = Unit {0}
Refers p k return = Unit {0}
Refers p k (assert e) = Unit {0}
Refers p k (seq a b) = Unit {0}
Refers p k (if e a b) = Unit {0}
Refers p k (while e a) = Unit {0}

-- a state of a kind that is there, whose statements are there
pub record StateSound (p : Program) (n : ℕ) : Type 0 where
  pub kind_there : There p.machines (state_at p n).of
  pub entry_there : (state_at p n).entry ≤ length p.stmts
  pub exit_there : (state_at p n).exit ≤ length p.stmts

-- every field with the answer that it comes from
pub record Founded (p : Program) : Type 0 where
  pub lower : (s : ℕ) → All (λ t. t < s) (parts (stmt_at p s))  -- 5
  pub parts_there : (s : ℕ) → All (λ t. t ≤ length p.stmts) (parts (stmt_at p s))  -- 4
  pub refers : (k s : ℕ) → serves p k s ≡ true → Refers p k (stmt_at p s)  -- 4
  pub low_enough : (s : ℕ) → height p s ≤ HEIGHT  -- 8
  pub actions_there : (a : ℕ) → There (length p.actions) a → (action_at p a).body ≤ length p.stmts  -- 4
  pub states_there : (n : ℕ) → There (length p.states) n → StateSound p n  -- 4
  pub steps_ok : All (λ t. There (length p.states) t.to × ((state_at p t.to).of ≡ (state_at p t.from).of)) p.steps  -- 4
  pub calls_ok : All (λ t. There (length p.states) t.to × ((state_at p t.to).of ≡ (state_at p t.from).of)) p.calls  -- 4
  pub acts_ok : All (λ t. There (length p.actions) t.to × ((action_at p t.to).of ≡ (state_at p t.from).of)) p.acts  -- 4
  pub some_state : (k : ℕ) → There p.machines k → any (λ s. eqb s.of k) p.states ≡ true  -- 9
  pub start_there : There p.machines p.start  -- 4
