-- A turn over row i + 1 of each table: where the fault of the first i rows and the marks of what they name are known, so are those of the first i + 1.
use Rattle.std.specs.Prelude.{ℕ, ◌+◌, ◌-◌, ◌<◌, ◌≡◌, Bool, not, cond, ◌&&◌, ◌||◌, List, [], ◌∷◌, ◌++◌, map, length, take}
use Rattle.std.proofs.Common.{ap, sym, ◌∙◌, append_assoc, arith}
use Rattle.lists.specs.Lists.{at, flat}
use Rattle.lists.specs.Check.{under, each}
use Rattle.programs.specs.declared.Leaf.TheVariants.{Bot as bot}
use Rattle.programs.specs.declared.Expr.{Expr}
use Rattle.programs.specs.declared.Expr.TheVariants.{Leaf as leaf}
use Rattle.programs.specs.Program.{Program, Stmt, State, skip}
use Rattle.programs.specs.Trees.{operands}
use Rattle.programs.specs.Statements.{parts, exprs_of}
use Rattle.soundness.specs.Asked.{bodies, lower}
use Rattle.tables.specs.Decode.{no_action, no_state}
use Rattle.faults.specs.Faults.{joined, line_fault, row_fault, rows_more}
use Rattle.doubling.specs.Doubling.{Seen, Named}
use Rattle.lowering.specs.Lowering.{flat_more, map_more, not_either}

module _ (p : Program) (i : ℕ) where
  -- the row before
  same : i + 1 - 1 ≡ i
  same = omega arith

  -- an expression
  pub expr_turn : (x : Expr) {low ag : Bool} {bad first next : ℕ} {seen after : List ℕ} → at (leaf bot) p.exprs (i + 1) ≡ x → i < length p.exprs
      → low ≡ (each (λ a. under a (i + 1)) (operands x)).test → Named seen (operands x) ag after → bad ≡ cond (low && not ag) 0 1 → next ≡ joined first i bad
      → first ≡ row_fault (lower p).expr (take i p.exprs) → Seen seen (flat operands (take i p.exprs))
      → (next ≡ row_fault (lower p).expr (take (i + 1) p.exprs)) × Seen after (flat operands (take (i + 1) p.exprs))
  expr_turn x q h hl nm hb hn hf s = (
    hn ∙ rw (hf, hb, hl, nm.tells p (flat operands (take i p.exprs)) s) (sym (rows_more (lower p).expr (leaf bot) p.exprs i h ∙ rw (q, same))),
    rw (flat_more (leaf bot) p.exprs i h operands, q) (nm.keeps (flat operands (take i p.exprs)) s),
  )

  -- a statement
  pub stmt_turn : (x : Stmt) {low a b : Bool} {bad first next : ℕ} {seen after done then : List ℕ} → at skip p.stmts (i + 1) ≡ x → i < length p.stmts
      → low ≡ (each (λ a. under a (i + 1)) (parts x)).test → Named seen (exprs_of x) a after → Named done (parts x) b then → bad ≡ cond (low && not (a || b)) 0 1 → next ≡ joined first i bad
      → first ≡ row_fault (lower p).stmt (take i p.stmts) → Seen seen (flat operands p.exprs ++ flat exprs_of (take i p.stmts)) → Seen done (flat parts (take i p.stmts))
      → (next ≡ row_fault (lower p).stmt (take (i + 1) p.stmts)) × Seen after (flat operands p.exprs ++ flat exprs_of (take (i + 1) p.stmts))
      × Seen then (flat parts (take (i + 1) p.stmts))
  stmt_turn x {low} {a} {b} q h hl ne np hb hn hf s t = (
    hn ∙ rw (hf, hb, hl, not_either a b, ne.tells p (flat operands p.exprs ++ flat exprs_of (take i p.stmts)) s, np.tells p (flat parts (take i p.stmts)) t)
        (sym (rows_more (lower p).stmt skip p.stmts i h ∙ rw (q, same))),
    rw (flat_more skip p.stmts i h exprs_of, q) (rw (append_assoc (flat operands p.exprs) (flat exprs_of (take i p.stmts)) (exprs_of x)) at (ne.keeps (flat operands p.exprs ++ flat exprs_of (take i p.stmts)) s)),
    rw (flat_more skip p.stmts i h parts, q) (np.keeps (flat parts (take i p.stmts)) t),
  )

  -- an action
  pub action_turn : (x : ℕ) {ag : Bool} {bad first next : ℕ} {done then : List ℕ} → (at no_action p.actions (i + 1)).body ≡ x → i < length p.actions
      → Named done (x ∷ []) ag then → bad ≡ cond (not ag) 0 1 → next ≡ joined first i bad
      → first ≡ row_fault (lower p).action (take i p.actions) → Seen done (flat parts p.stmts ++ map (λ a. a.body) (take i p.actions))
      → (next ≡ row_fault (lower p).action (take (i + 1) p.actions)) × Seen then (flat parts p.stmts ++ map (λ a. a.body) (take (i + 1) p.actions))
  action_turn x q h nm hb hn hf s = (
    hn ∙ rw (hf, hb, nm.tells p (flat parts p.stmts ++ map (λ a. a.body) (take i p.actions)) s) (sym (rows_more (lower p).action no_action p.actions i h ∙ rw (q, same))),
    rw (map_more no_action p.actions i h (λ a. a.body), q)
        (rw (append_assoc (flat parts p.stmts) (map (λ a. a.body) (take i p.actions)) (x ∷ [])) at (nm.keeps (flat parts p.stmts ++ map (λ a. a.body) (take i p.actions)) s)),
  )

  -- a state
  pub state_turn : (x : State) {ag : Bool} {bad first next : ℕ} {done then : List ℕ} → at no_state p.states (i + 1) ≡ x → i < length p.states
      → Named done (bodies p x) ag then → bad ≡ cond (not ag) 0 1 → next ≡ joined first i bad
      → first ≡ row_fault (lower p).state (take i p.states) → Seen done (flat parts p.stmts ++ (map (λ a. a.body) p.actions ++ flat (bodies p) (take i p.states)))
      → (next ≡ row_fault (lower p).state (take (i + 1) p.states)) × Seen then (flat parts p.stmts ++ (map (λ a. a.body) p.actions ++ flat (bodies p) (take (i + 1) p.states)))
  state_turn x q h nm hb hn hf s = (
    hn ∙ rw (hf, hb, nm.tells p (flat parts p.stmts ++ (map (λ a. a.body) p.actions ++ flat (bodies p) (take i p.states))) s)
        (sym (rows_more (lower p).state no_state p.states i h ∙ ap (λ (y : State). joined (row_fault (lower p).state (take i p.states)) i (line_fault ((lower p).state (i + 1) y))) q ∙ rw same)),
    rw (flat_more no_state p.states i h (bodies p), q)
        (rw (append_assoc (flat parts p.stmts) (map (λ a. a.body) p.actions ++ flat (bodies p) (take i p.states)) (bodies p x), append_assoc (map (λ a. a.body) p.actions) (flat (bodies p) (take i p.states)) (bodies p x))
        at (nm.keeps (flat parts p.stmts ++ (map (λ a. a.body) p.actions ++ flat (bodies p) (take i p.states))) s)),
  )
