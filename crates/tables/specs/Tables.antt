-- Laws of the tables as they are read: what the accessors' contracts say is what the definitions say of the program; how long the tables are; a
-- statement's head; what a state defers.
use Prim.Native.Nat.{ℕ, zero, suc, ◌+◌, ◌-◌, ◌*◌, ◌≤◌, ◌<◌, min}
use Rattle.std.specs.Prelude.{◌≡◌, ◌⊎◌, Bool, List, ◌∷◌, map, length, get_or}
use Rattle.std.proofs.Math.Path.{refl}
use Rattle.std.proofs.Common.{ap, sym, ◌∙◌, true≢false, arith}
use Rattle.std.proofs.Math.Logic.{inl, inr, ⊎_elim}
use Rattle.std.proofs.Math.Bool.{true, false}
use borrow.Author.Tests.{eqb-true, eqb-false, ne_eqb}
use Rattle.std.proofs.Math.Dec.{eqb}
use Rattle.std.proofs.lemmas.List.{length-map}
use Rattle.std.proofs.Math.ListN.{get_or-map}
use Rattle.lists.specs.Lists.{at, push, keep, any, there}
use Rattle.lists.specs.Facts.{eqb_same}
use Rattle.lists.specs.Tells.{there_is}
use Rattle.rows.specs.Pad.{below?}
use Rattle.rows.specs.Seek.{table, table_length, table_get}
use Rattle.programs.specs.Sizes.{KINDS, EVENTS, VARIABLES, EXPRS, STMTS, ACTIONS, STATES}
use Rattle.programs.specs.Program.{skip, event_type, variable_at, expr_at, stmt_at, Body, Entry, Exit, Deferred}
use Rattle.values.specs.declared.Ty.TheVariants.{Void as void}
use Rattle.programs.specs.declared.Leaf.TheVariants.{Bot as bot}
use Rattle.programs.specs.declared.Expr.TheVariants.{Leaf as leaf}
use Rattle.tables.specs.declared.Head.TheVariants.{Skip}
use Rattle.tables.specs.declared.Program.{Program as Tables}
use Rattle.tables.specs.Decode.{count, events_of, no_variable, variables_of, exprs_of, heads_of, head_at, stmt_of, stmts_of, PAIRS}
use Rattle.tables.specs.Decode.{pair_in, pairs_of, no_action, actions_of, flag, defer_of, no_state, states_of, program_of}

-- STATEMENTS
-- statement s is its head with the init list
pub stmt_head : (l inits : List ℕ) (s : ℕ) → at skip (stmts_of l inits) s ≡ stmt_of inits (head_at l s)
unfolding stmts_of
stmt_head l inits s = get_or-map (stmt_of inits) (Skip ∷ heads_of l) s Skip

-- THE PROGRAM
module _ (q : Tables) where
  -- An event's type,
  pub event_type_is : (e : ℕ) → event_type (program_of q) e ≡ at void (events_of q.event_types) e
  event_type_is e = refl

  -- a variable,
  pub variable_is : (x : ℕ) → variable_at (program_of q) x ≡ at no_variable (variables_of q.variable_of q.variable_type) x
  variable_is x = refl

  -- an expression,
  pub expr_is : (e : ℕ) → expr_at (program_of q) e ≡ at (leaf bot) (exprs_of q.exprs) e
  expr_is e = refl

  -- a statement's head and its init list,
  pub stmt_is : (s : ℕ) → stmt_at (program_of q) s ≡ stmt_of q.inits (head_at q.stmts s)
  stmt_is s = stmt_head q.stmts q.inits s

  -- an action's statement,
  pub body_is : (a : ℕ) → Body (program_of q) a ≡ (at no_action (actions_of q.action_of q.action_body) a).body
  body_is a = refl

  -- a state's entry,
  pub entry_is : (n : ℕ) → Entry (program_of q) n ≡ (at no_state (states_of q.state_of q.state_entry q.state_exit q.defers) n).entry
  entry_is n = refl

  -- a state's exit,
  pub exit_is : (n : ℕ) → Exit (program_of q) n ≡ (at no_state (states_of q.state_of q.state_entry q.state_exit q.defers) n).exit
  exit_is n = refl

  -- and what it defers: each is what its accessor answers.
  pub deferred_is : (n e : ℕ) → Deferred (program_of q) n e ≡ any (eqb e) (at no_state (states_of q.state_of q.state_entry q.state_exit q.defers) n).defer
  deferred_is n e = refl

-- LENGTHS
-- as many events as their table's place 0 says
pub events_length : (l : List ℕ) → length (events_of l) ≡ count EVENTS l
unfolding events_of
events_length l = table_length _ 1 _

-- variables
pub variables_length : (kinds types : List ℕ) → length (variables_of kinds types) ≡ count (KINDS * VARIABLES) kinds
unfolding variables_of
variables_length kinds types = table_length _ 1 _

-- expressions
pub exprs_length : (l : List ℕ) → length (exprs_of l) ≡ count EXPRS l
unfolding exprs_of
exprs_length l = table_length _ 1 _

-- statements
pub stmts_length : (l inits : List ℕ) → length (stmts_of l inits) ≡ count STMTS l
unfolding heads_of stmts_of
stmts_length l inits = length-map (heads_of l) (stmt_of inits) ∙ table_length _ 1 _

-- actions
pub actions_length : (kinds bodies : List ℕ) → length (actions_of kinds bodies) ≡ count ACTIONS kinds
unfolding actions_of
actions_length kinds bodies = table_length _ 1 _

-- states
pub states_length : (kinds entries exits flags : List ℕ) → length (states_of kinds entries exits flags) ≡ count STATES kinds
unfolding states_of
states_length kinds entries exits flags = table_length _ 1 _

-- INIT LISTS
-- for a pair that is absent
abbrev pub no_pair : ℕ × ℕ
no_pair = (0, 0)

module _ (inits : List ℕ) (i n : ℕ) where
  -- as many pairs as the pool has from place i on
  pub pairs_length : length (pairs_of inits i n) ≡ min n (PAIRS - i)
  unfolding pairs_of
  pairs_length = table_length (pair_in inits) i (min n (PAIRS - i))

  -- the one in place j
  pub pairs_get : (j : ℕ) → j < min n (PAIRS - i) → get_or (pairs_of inits i n) j no_pair ≡ pair_in inits (i + j)
  unfolding pairs_of
  pairs_get j h = table_get (pair_in inits) no_pair i (min n (PAIRS - i)) j h

  -- What a function reads off the pairs: as many,
  pub column_length : (f : ℕ × ℕ → ℕ) → length (map f (pairs_of inits i n)) ≡ min n (PAIRS - i)
  column_length f = length-map (pairs_of inits i n) f ∙ pairs_length

  -- and the one of the pair in place j.
  pub column_get : (f : ℕ × ℕ → ℕ) (j : ℕ) → j < min n (PAIRS - i) → get_or (map f (pairs_of inits i n)) j (f no_pair) ≡ f (pair_in inits (i + j))
  column_get f j h = get_or-map f (pairs_of inits i n) j no_pair ∙ ap f (pairs_get j h)

-- WHAT A STATE DEFERS
module _ (p : ℕ → Bool) (e : ℕ) where
  -- Of the n numbers from k on, those that pass: a number that is none of the n is not among them,
  kept_none : (k n : ℕ) → (e < k) ⊎ (k + n ≤ e) → any (eqb e) (keep p (table (λ i. i) k n)) ≡ false
  unfolding table
  kept_none k zero h = refl
  kept_none k (suc n) h = go (p k) (kept_none (k + 1) n (⊎_elim (λ (q : e < k). inl (omega arith)) (λ (q : k + suc n ≤ e). inr (omega arith)) h))
    where
      off : eqb e k ≡ false
      off = ne_eqb e k (λ q. ⊎_elim (λ (a : e < k). omega arith) (λ (a : k + suc n ≤ e). omega arith) h)

      go : (b : Bool) → any (eqb e) (keep p (table (λ i. i) (k + 1) n)) ≡ false → any (eqb e) (push b k (keep p (table (λ i. i) (k + 1) n))) ≡ false
      go true r = rw off r
      go false r = r

  -- and one of the n is where it passes.
  kept_is : (k n : ℕ) → k ≤ e → e < k + n → any (eqb e) (keep p (table (λ i. i) k n)) ≡ p e
  unfolding table
  kept_is k zero h j = absurd (omega arith)
  kept_is k (suc n) h j = go (eqb e k) refl (kept_is (k + 1) n)
    where
      here : (b : Bool) → e ≡ k → any (eqb e) (push b k (keep p (table (λ i. i) (k + 1) n))) ≡ b
      here true q = rw (q, eqb_same k)
      here false q = kept_none (k + 1) n (inl (omega arith))

      later : (b : Bool) → eqb e k ≡ false → any (eqb e) (push b k (keep p (table (λ i. i) (k + 1) n))) ≡ any (eqb e) (keep p (table (λ i. i) (k + 1) n))
      later true q = rw q
      later false q = refl

      go : (b : Bool) → eqb e k ≡ b → (k + 1 ≤ e → e < k + 1 + n → any (eqb e) (keep p (table (λ i. i) (k + 1) n)) ≡ p e)
          → any (eqb e) (push (p k) k (keep p (table (λ i. i) (k + 1) n))) ≡ p e
      go true q f = here (p k) (eqb-true e k q) ∙ rw (eqb-true e k q)
      go false q f = later (p k) q ∙ f (let z = eqb-false e k q in omega arith) (omega arith)

module _ (flags : List ℕ) (n e : ℕ) where
  -- An event is deferred where its flag is set;
  pub deferred_flag : 0 < e → e ≤ EVENTS → any (eqb e) (defer_of flags n) ≡ flag flags n e
  unfolding defer_of
  deferred_flag h k = kept_is (flag flags n) e 1 EVENTS h (omega arith)

  -- 0 is not,
  pub deferred_zero : e ≤ 0 → any (eqb e) (defer_of flags n) ≡ false
  unfolding defer_of
  deferred_zero h = kept_none (flag flags n) e 1 EVENTS (inl (omega arith))

  -- and nothing past the last event is.
  pub deferred_past : EVENTS < e → any (eqb e) (defer_of flags n) ≡ false
  unfolding defer_of
  deferred_past h = kept_none (flag flags n) e 1 EVENTS (inr (omega arith))

  -- The same by the test of the event's number.
  pub deferred_there : there EVENTS e ≡ true → any (eqb e) (defer_of flags n) ≡ flag flags n e
  deferred_there t = let h = (there_is EVENTS e).holds t in deferred_flag (omega arith) h.1

  -- an event that is not there
  pub deferred_absent : there EVENTS e ≡ false → any (eqb e) (defer_of flags n) ≡ false
  deferred_absent t = ⊎_elim
      (λ (h : 0 < e). ⊎_elim
      (λ (k : EVENTS < e). deferred_past k)
      (λ (k : e ≤ EVENTS). absurd (true≢false (sym ((there_is EVENTS e).test (h, k)) ∙ t)))
      (below? EVENTS e))
      (λ (h : e ≤ 0). deferred_zero h)
      (below? 0 e)
