-- ONE LINE MORE BEFORE THE STATEMENTS: what it leaves in its arrays, and all else as it was, is what the arrays hold of the lines with it. A later line leaves them.
use Rattle.std.specs.Prelude.{ℕ, ◌+◌, ◌≤◌, ◌<◌, ◌≡◌, Bool, length, Option}
use Rattle.std.proofs.Common.{ap, sym, ◌∙◌, arith}
use mathlib.Core.List.{List, [], ◌∷◌, ◌++◌, reverse, reverse-cons}
use Rattle.std.proofs.lemmas.List.{length-reverse}
use Rattle.values.specs.declared.Ty.{Ty}
use Rattle.programs.specs.Sizes.{EVENTS, EXPRS}
use Rattle.programs.specs.declared.Expr.{Expr}
use Rattle.texts.specs.Forms.{Said, event_line, machine_line, var_line, expr_line, stmt_line, action_line, state_line, step_line, call_line, act_line, start_line, choice_line}
use Rattle.texts.specs.Reading.{Tables, tables, put, kind}
use Rattle.tabled.specs.Tabled.{event_table, expr_table}
use Rattle.gathering.specs.Gathered.{event_lines, expr_lines}
use Rattle.taking_lines.specs.Gathered.{Front}

-- one more at the end of a list that is kept the last first
pub more_length : {A : Type 0} (x : A) (l : List A) → length (reverse (x ∷ l)) ≡ length (reverse l) + 1
more_length x l = omega (arith, length-reverse (x ∷ l), length-reverse l)

module _ {types owners holds rooms exprs : List ℕ} {kinds variables : ℕ} {absent : Option ℕ} where
  -- an event
  pub front_event : (a : Tables) (i : ℕ) (t : Ty) {types' : List ℕ} → Front a types owners holds rooms exprs kinds variables absent
      → types' ≡ event_table (event_lines a ++ t ∷ [])
      → length (event_lines a) < EVENTS
      → Front (put (event_line i t) a) types' owners holds rooms exprs kinds variables absent
  front_event (tables es ms vs xs ss acs ns ts cs ds ks hs) i t h p0 p1 = record {
    events = record { held = p0 ∙ ap event_table (sym (reverse-cons t es)); size = omega (arith, more_length t es) };
    machines = h.machines;
    vars = h.vars;
    expressions = h.expressions;
  }

  -- an expression
  pub front_expr : (a : Tables) (i : ℕ) (b : Bool) (e : Expr) {exprs' : List ℕ} → Front a types owners holds rooms exprs kinds variables absent
      → exprs' ≡ expr_table (expr_lines a ++ e ∷ [])
      → length (expr_lines a) < EXPRS
      → Front (put (expr_line i b e) a) types owners holds rooms exprs' kinds variables absent
  front_expr (tables es ms vs xs ss acs ns ts cs ds ks hs) i b e h p0 p1 = record {
    events = h.events;
    machines = h.machines;
    vars = h.vars;
    expressions = record { held = p0 ∙ ap expr_table (sym (reverse-cons e xs)); size = omega (arith, more_length e xs) };
  }

  -- a line from the statements on
  pub front_kept : (a : Tables) (x : Said) → 5 ≤ kind x → Front a types owners holds rooms exprs kinds variables absent → Front (put x a) types owners holds rooms exprs kinds variables absent
  front_kept a (event_line i t) l h = absurd (omega arith)
  front_kept a (machine_line i) l h = absurd (omega arith)
  front_kept a (var_line i v) l h = absurd (omega arith)
  front_kept a (expr_line i b e) l h = absurd (omega arith)
  front_kept (tables es ms vs xs ss acs ns ts cs ds ks hs) (stmt_line i s) l h = record { events = h.events; machines = h.machines; vars = h.vars; expressions = h.expressions }
  front_kept (tables es ms vs xs ss acs ns ts cs ds ks hs) (action_line i c) l h = record { events = h.events; machines = h.machines; vars = h.vars; expressions = h.expressions }
  front_kept (tables es ms vs xs ss acs ns ts cs ds ks hs) (state_line i n) l h = record { events = h.events; machines = h.machines; vars = h.vars; expressions = h.expressions }
  front_kept (tables es ms vs xs ss acs ns ts cs ds ks hs) (step_line m) l h = record { events = h.events; machines = h.machines; vars = h.vars; expressions = h.expressions }
  front_kept (tables es ms vs xs ss acs ns ts cs ds ks hs) (call_line m) l h = record { events = h.events; machines = h.machines; vars = h.vars; expressions = h.expressions }
  front_kept (tables es ms vs xs ss acs ns ts cs ds ks hs) (act_line m) l h = record { events = h.events; machines = h.machines; vars = h.vars; expressions = h.expressions }
  front_kept (tables es ms vs xs ss acs ns ts cs ds ks hs) (start_line k) l h = record { events = h.events; machines = h.machines; vars = h.vars; expressions = h.expressions }
  front_kept (tables es ms vs xs ss acs ns ts cs ds ks hs) (choice_line c) l h = record { events = h.events; machines = h.machines; vars = h.vars; expressions = h.expressions }
