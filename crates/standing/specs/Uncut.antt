-- Where the lines of a program meet pass 4, nothing of them is cut: what they name is there, and no table has so many rows.
use Rattle.std.specs.Prelude.{ℕ, ◌≤◌, ◌≡◌, refl, Bool, true, cond, List, [], ◌∷◌, map, length}
use Rattle.std.proofs.Common.{ap, arith}
use Rattle.lists.specs.Lists.{All, There}
use Rattle.lists.specs.Facts.{All-map}
use Rattle.lists.specs.Tells.{there_is, every}
use Rattle.lists.specs.Check.{◌also◌, each, each_all}
use Rattle.programs.specs.Sizes.{EVENTS}
use Rattle.programs.specs.declared.Leaf.{Leaf}
use Rattle.programs.specs.declared.Leaf.TheVariants.{Bot as bot, Int as int_val, Bool as bool_val, Var as var, This as this, Msg as msg, Arg as arg, Star as star}
use Rattle.programs.specs.declared.Expr.{Expr}
use Rattle.programs.specs.declared.Expr.TheVariants.{Leaf as leaf, Unary as unary, Binary as binary}
use Rattle.programs.specs.Program.{Program, Variable, Stmt, State, Move, skip, assign, new, delete, send, raise, leave, return, assert, seq, if, while}
use Rattle.soundness.specs.Asked.{variable_there, expr_there, leaf_refers, expr_refers, stmt_refers, move_refers, act_refers, refers, event_there}
use Rattle.soundness.specs.Sound.{lines, first_fault}
use Rattle.soundness.specs.Lines.{Numbered, numbered_all, tables, fault_free}
use Rattle.tabled.specs.Tabled.{byte_of, word_of, deferrable}
use Rattle.standing.specs.Stood.{variable_stood, leaf_stood, expr_stood, pair_stood, stmt_stood, action_stood, state_stood, move_stood, stood, Fitting}

-- an image that is each element is the list
map_same : {A : Type 0} (f : A → A) (l : List A) → All (λ x. f x ≡ x) l → map f l ≡ l
map_same f [] h = refl
map_same f (x ∷ l) h = rw (h.0, map_same f l h.1)

module _ (p : Program) (h : Fitting p) where
  -- a kind
  kind_same : (k : ℕ) → There p.machines k → byte_of k ≡ k
  kind_same k t = omega (arith, t.1, h.machines)

  -- an event
  event_same : (e : ℕ) → There (length p.events) e → byte_of e ≡ e
  event_same e t = omega (arith, t.1, h.events)

  -- a state
  state_same : (n : ℕ) → There (length p.states) n → byte_of n ≡ n
  state_same n t = omega (arith, t.1, h.states)

  -- a variable
  variable_same : (x : ℕ) → There (length p.variables) x → word_of x ≡ x
  variable_same x t = omega (arith, t.1, h.variables)

  -- an expression, or none
  expr_same : (e : ℕ) → e ≤ length p.exprs → word_of e ≡ e
  expr_same e t = omega (arith, h.exprs)

  -- a statement, or none
  stmt_same : (s : ℕ) → s ≤ length p.stmts → word_of s ≡ s
  stmt_same s t = omega (arith, h.stmts)

  -- a line of a variable
  variable_uncut : (n : ℕ) (v : Variable) → There p.machines v.of → variable_stood v ≡ v
  variable_uncut n v t = λ i. record { of = kind_same v.of t i; type = v.type }

  -- of an expression
  expr_uncut : (e : Expr) → (expr_refers p e).Holds → expr_stood e ≡ e
  expr_uncut (leaf l) t = ap leaf (go l t)
    where
      go : (l : Leaf) → (leaf_refers p l).Holds → leaf_stood l ≡ l
      go bot t = refl
      go (int_val z) t = refl
      go (bool_val b) t = refl
      go (var x) t = ap var (variable_same x t)
      go this t = refl
      go msg t = refl
      go arg t = refl
      go star t = refl
  expr_uncut (unary o a) t = ap (unary o) (expr_same a t.1)
  expr_uncut (binary o a b) t = λ i. binary o (expr_same a t.0.1 i) (expr_same b t.1.1 i)

  -- the pairs of an init list
  pairs_uncut : (l : List (ℕ × ℕ)) → (each (λ xe. variable_there p xe.0 also expr_there p xe.1) l).Holds → map pair_stood l ≡ l
  pairs_uncut l t = map_same pair_stood l (All-map _ _ l (λ xe b. λ i. (variable_same xe.0 b.0 i, expr_same xe.1 b.1.1 i)) (each_all _ l t))

  -- a line of a statement
  stmt_uncut : (s : Stmt) → (stmt_refers p s).Holds → stmt_stood s ≡ s
  stmt_uncut skip t = refl
  stmt_uncut (assign x e) t = λ i. assign (variable_same x t.0 i) (expr_same e t.1.1 i)
  stmt_uncut (new x k l) t = λ i. new (variable_same x t.0 i) (kind_same k t.1.1.0 i) (pairs_uncut l t.1.1.1 i)
  stmt_uncut delete t = refl
  stmt_uncut (send y e a) t = λ i. send (expr_same y t.0.1 i) (event_same e t.1.0 i) (expr_same a t.1.1 i)
  stmt_uncut (raise e a) t = λ i. raise (event_same e t.0 i) (expr_same a t.1 i)
  stmt_uncut leave t = refl
  stmt_uncut return t = refl
  stmt_uncut (assert e) t = ap assert (expr_same e t.1)
  stmt_uncut (seq a b) t = λ i. seq (stmt_same a t.0 i) (stmt_same b t.1 i)
  stmt_uncut (if e a b) t = λ i. if (expr_same e t.0.1 i) (stmt_same a t.1.0 i) (stmt_same b t.1.1 i)
  stmt_uncut (while e a) t = λ i. while (expr_same e t.0.1 i) (stmt_same a t.1 i)

  -- a line of a state
  state_uncut : (m : ℕ) (n : State) → ((refers p).state m n).Holds → state_stood n ≡ n
  state_uncut m n t = go (deferrable n) ((every n.defer (there_is EVENTS)).test
      (All-map (There (length p.events)) (There EVENTS) n.defer (λ x b. (b.0, omega (arith, b.1, h.events))) (each_all (event_there p) n.defer t.1.0)))
    where
      go : (b : Bool) → b ≡ true → record { of = cond b (byte_of n.of) 255; defer = cond b n.defer []; entry = word_of n.entry; exit = word_of n.exit } ≡ n
      go b e = rw e (λ i. record { of = kind_same n.of t.0 i; defer = n.defer; entry = stmt_same n.entry t.1.1.0 i; exit = stmt_same n.exit t.1.1.1 i })

  -- of two tables that meet the pass: the actions
  pub actions_uncut : Numbered (refers p).action p.actions → map action_stood p.actions ≡ p.actions
  actions_uncut t = map_same action_stood p.actions (numbered_all (refers p).action _ p.actions
      (λ n a b. λ i. record { of = kind_same a.of b.0 i; body = stmt_same a.body b.1 i }) t)

  -- and the states
  pub states_uncut : Numbered (refers p).state p.states → map state_stood p.states ≡ p.states
  states_uncut t = map_same state_stood p.states (numbered_all (refers p).state _ p.states state_uncut t)

  -- a line of a transition
  move_uncut : (n : ℕ) (m : Move) → (move_refers p m).Holds → move_stood m ≡ m
  move_uncut n m t = λ i. record { from = state_same m.from t.0 i; on = event_same m.on t.1.0 i; to = state_same m.to t.1.1.0 i }

  -- a line of an act
  act_uncut : (n : ℕ) (m : Move) → (act_refers p m).Holds → move_stood m ≡ m
  act_uncut n m t =
      let a : byte_of m.to ≡ m.to = omega (arith, t.1.1.0.1, h.actions) in
      λ i. record { from = state_same m.from t.0 i; on = event_same m.on t.1.0 i; to = a i }

  -- THE law: where no line is at fault, the program stood is the program.
  pub stood_same : first_fault 1 (lines p (refers p)) ≡ 0 → stood p ≡ p
  stood_same e =
      let t = tables p (refers p) ((fault_free p (refers p)).0 e) in
      λ i. record {
        events = p.events;
        machines = p.machines;
        variables = map_same variable_stood p.variables (numbered_all (refers p).variable _ p.variables variable_uncut t.variables) i;
        exprs = map_same expr_stood p.exprs (numbered_all (refers p).expr _ p.exprs (λ n. expr_uncut) t.exprs) i;
        stmts = map_same stmt_stood p.stmts (numbered_all (refers p).stmt _ p.stmts (λ n. stmt_uncut) t.stmts) i;
        actions = actions_uncut t.actions i;
        states = states_uncut t.states i;
        steps = map_same move_stood p.steps (numbered_all (refers p).step _ p.steps move_uncut t.steps) i;
        calls = map_same move_stood p.calls (numbered_all (refers p).call _ p.calls move_uncut t.calls) i;
        acts = map_same move_stood p.acts (numbered_all (refers p).act _ p.acts act_uncut t.acts) i;
        start = kind_same p.start t.start i;
      }
