-- The forms of contract that many functions have: a definition of the arguments, a test that decides, and either of the two for every program that the
-- lent tables are.
use Rattle.std.specs.Prelude.{ℕ, ◌≡◌, Bool, List}
use Rattle.std.proofs.Common.{sym, ◌∙◌}
use Rattle.lists.specs.Tells.{Tells, agree}
use Rattle.values.specs.declared.Live.{Live}
use Rattle.values.specs.declared.Ty.{Ty}
use Rattle.programs.specs.declared.Expr.{Expr}
use Rattle.programs.specs.Program.{Program, Variable, Stmt, Action, State, Move}
use Rattle.tables.specs.declared.Kind.{Kind}

-- CONTRACTS `r ≡ definition of the arguments`: values (checked, apply1, apply2, suits, int_of), choices (bits_of), labels (rule_number, rule_of,
-- is_meeting), numbers (number), codes (code, value_of, canonical, pair_number, event_of), zeros (all_are), configs (Flat::new, Room::free), tables (all but the
-- three look-ups of a kind, and move_at by its three numbers), terms (short, expr_at, stmt_at), evaluation (eval, number), index (look_up), queues (holds,
-- room_for), lifting (lift), beginnings (initial_state), stacks (top_state, top_map), marks (item_or), soundly (sound), judging (judge), fitting (fit), starting
-- (no_machine, start), stepping (step_from, step), placing (place), exports (namakviz_load, namakviz_start, namakviz_fit, namakviz_live, namakviz_machine,
-- namakviz_value, namakviz_pair), handed_out (start_text); of texts: readers (LineReader::end), numerals (decimal, signed), listings (is_none, number_in,
-- numbers_ok, pairs_ok), listed (deferrable), operands (operand), scans (scan, take), spoken (number_at, is_next), putting (byte_of), gathering (no_tables,
-- Lines::new), loading (load); and of what was lent: copies (copy), marks (mark_low, mark_inner), putting (put_event, put_variable, put_expr, put_stmt,
-- put_action, put_state, put_move, put_choice), listed (set_flags). Where a bound or another fact stands beside the equation (faults: fault, onward, joined,
-- front) the equation alone decides
pub one_result : {A : Type 0} (definition r s : A) → r ≡ definition → s ≡ definition → r ≡ s
one_result definition r s p q = p ∙ sym q

-- CONTRACTS of a result and of what is lent, each by a definition: exports (namakviz_step, namakviz_regroup);
pub lent_one : {A B : Type 0} (definition : A) (left : B) (r s : A) (x y : B) → (r ≡ definition) × (x ≡ left) → (s ≡ definition) × (y ≡ left) → (r ≡ s) × (x ≡ y)
lent_one definition left r s x y p q = (p.0 ∙ sym q.0, p.1 ∙ sym q.1)

-- and where two things are lent: exports (namakviz_run)
pub both_lent_one : {A B C : Type 0} (definition : A) (left : B) (row : C) (r s : A) (x y : B) (v w : C)
    → (r ≡ definition) × ((x ≡ left) × (v ≡ row)) → (s ≡ definition) × ((y ≡ left) × (w ≡ row)) → (r ≡ s) × ((x ≡ y) × (v ≡ w))
both_lent_one definition left row r s x y v w p q = (p.0 ∙ sym q.0, lent_one left row x y v w p.1 q.1)

-- CONTRACTS `f r ≡ definition`, where the result is a part of a text and f says what it holds: readers (field, LineReader::value), listings (Pieces::of)
pub holding_one : {A B : Type 0} (f : A → B) (definition : B) (r s : A) → f r ≡ definition → f s ≡ definition → f r ≡ f s
holding_one f definition r s p q = p ∙ sym q

-- the number in a kind: tables (variable_kind, action_kind, state_kind)
pub kind_one : (n : ℕ) (r s : Kind) → r.0 ≡ n → s.0 ≡ n → r ≡ s
kind_one n r s p q = λ i. record { 0 = (p ∙ sym q) i }

-- the number in a live number: choices (machine_of)
pub live_one : (n : ℕ) (r s : Live) → r.0 ≡ n → s.0 ≡ n → r ≡ s
live_one n r s p q = λ i. record { 0 = (p ∙ sym q) i }

-- CONTRACTS `Tells r P`: admitting (admitted)
pub decided_one : (P : Type 0) (r s : Bool) → Tells r P → Tells s P → r ≡ s
decided_one P r s = agree r s

-- CONTRACTS THAT HOLD FOR EVERY x of which P holds, where there is one: the functions that are lent tables, of every program that the tables are. What is lent
-- is such a program's in each call: maps (pops, held_back, exit_or_skip, call_map of the maps that it leaves), turns (turn_of), naming (stmts_refer), lowering
-- (lower), singling (single), lowness (low), ownness (own); sizing (variables_of), of any types
pub each_one : {A B : Type 0} (P : A → Type 0) (definition : A → B) (x : A) → P x → (r s : B) → ((y : A) → P y → r ≡ definition y) → ((y : A) → P y → s ≡ definition y) → r ≡ s
each_one P definition x at r s h k = h x at ∙ sym (k x at)

-- and those that decide: checked_rows (row_ok), accepting (accepted_on)
pub each_decided_one : {A : Type 0} (P Q : A → Type 0) (x : A) → P x → (r s : Bool) → ((y : A) → P y → Tells r (Q y)) → ((y : A) → P y → Tells s (Q y)) → r ≡ s
each_decided_one P Q x at r s h k = agree r s (h x at) (k x at)

-- a program of these lines
abbrev pub lined : List Ty → ℕ → List Variable → List Expr → List Stmt → List Action → List State → List Move → List Move → List Move → ℕ → Program
lined events machines variables exprs stmts actions states steps calls acts start = record {
  events = events;
  machines = machines;
  variables = variables;
  exprs = exprs;
  stmts = stmts;
  actions = actions;
  states = states;
  steps = steps;
  calls = calls;
  acts = acts;
  start = start;
}
