-- A LINE BEFORE THE STATEMENTS TAKEN: what its function tells and leaves is what is asked of the line, and what the arrays hold with it.
use Rattle.std.specs.Prelude.{ℕ, suc, ◌+◌, ◌<◌, ◌≡◌, Bool, not, ◌&&◌, ◌||◌, eqb, ltb, length, Option}
use Rattle.std.proofs.Common.{ap, sym, ◌∙◌, subst, arith}
use mathlib.Core.List.{List, [], ◌∷◌, ◌++◌, reverse, reverse-cons}
use Rattle.std.proofs.lemmas.List.{length-reverse}
use Rattle.lists.specs.Lists.{there}
use Rattle.lists.specs.Keep.{kept_reverse}
use Rattle.lists.specs.Facts.{and_parts}
use Rattle.values.specs.declared.Ty.{Ty}
use Rattle.programs.specs.Sizes.{EVENTS, KINDS, VARIABLES, EXPRS}
use Rattle.programs.specs.declared.Expr.{Expr}
use Rattle.programs.specs.Program.{Variable, is_of}
use Rattle.texts.specs.Forms.{Said, event_line, machine_line, var_line, expr_line}
use Rattle.texts.specs.Reading.{Tables, tables, put, next, room, ranged}
use Rattle.tabled.specs.Tabled.{event_table, expr_table}
use Rattle.spoken.specs.Took.{Took}
use Rattle.spoken.specs.Counted.{next_room}
use Rattle.taking.specs.Variables.{VariablesHeld, Variables, Kept}
use Rattle.gathering.specs.Gathered.{event_lines, machine_lines, variable_lines, expr_lines}
use Rattle.taking_lines.specs.Gathered.{Front}
use Rattle.taking_lines.specs.Fronts.{front_event, front_expr}

-- what is asked of each line, by the lines so far
ranged_event : (a : Tables) (i : ℕ) (t : Ty) → next EVENTS (length (event_lines a)) i ≡ ranged a (event_line i t)
ranged_event (tables es ms vs xs ss acs ns ts cs ds ks hs) i t = ap (λ (n : ℕ). next EVENTS n i) (length-reverse es)

ranged_expr : (a : Tables) (i : ℕ) (b : Bool) (e : Expr) → next EXPRS (length (expr_lines a)) i && b ≡ ranged a (expr_line i b e)
ranged_expr (tables es ms vs xs ss acs ns ts cs ds ks hs) i b e = ap (λ (n : ℕ). next EXPRS n i && b) (length-reverse xs)

-- as many of a kind, the other way round
room_reverse : (ms k : ℕ) (vs : List Variable) → room ms k (reverse vs) ≡ room ms k vs
room_reverse ms k vs = ap (λ (n : ℕ). not (there ms k) || ltb n VARIABLES) (kept_reverse (is_of k) vs)

-- a kind more, where there is no variable yet
vars_raised : {ms : ℕ} {owners holds rooms : List ℕ} {variables : ℕ} {absent : Option ℕ} → VariablesHeld [] ms owners holds rooms variables absent → VariablesHeld [] (suc ms) owners holds rooms variables absent
vars_raised h = record {
  count = h.count;
  size = h.size;
  counts = h.counts;
  few = λ k l. omega arith;
  tables = h.tables;
  there = λ z. tt;
  first = λ i z. let f = h.first i z in absurd (omega (arith, f.here.0, f.here.1));
  front = h.front;
}

module _ {types owners holds rooms exprs : List ℕ} {kinds variables : ℕ} {absent : Option ℕ} (a : Tables) (f : Front a types owners holds rooms exprs kinds variables absent) where
  -- an event
  pub took_event : (x : Said) (r : Bool) {types' : List ℕ} (i : ℕ) (t : Ty) → x ≡ event_line i t
      → Took r (next EVENTS (length (event_lines a)) i) (types' ≡ event_table (event_lines a ++ t ∷ [])) (types' ≡ types)
      → Took r (ranged a x) (Front (put x a) types' owners holds rooms exprs kinds variables absent) (Front a types' owners holds rooms exprs kinds variables absent)
  took_event x r i t e h = rw e (record {
    told = h.told ∙ ranged_event a i t;
    done = λ q. front_event a i t f (h.done q) (next_room EVENTS (length (event_lines a)) i (sym h.told ∙ q));
    left = λ q. rw (h.left q) f;
  })

  -- a kind of machines
  pub took_machine : (x : Said) (r : Bool) {kinds' : ℕ} (i : ℕ) → x ≡ machine_line i → variable_lines a ≡ []
      → Took r (next KINDS kinds i) (kinds' ≡ kinds + 1) (kinds' ≡ kinds)
      → Took r (ranged a x) (Front (put x a) types owners holds rooms exprs kinds' variables absent) (Front a types owners holds rooms exprs kinds' variables absent)
  took_machine x r i e v h = rw e (record {
    told = h.told ∙ go a f.machines.held;
    done = λ q. done a f v (h.done q) (next_room KINDS kinds i (sym h.told ∙ q));
    left = λ q. rw (h.left q) f;
  })
    where
      go : (a : Tables) → kinds ≡ machine_lines a → next KINDS kinds i ≡ ranged a (machine_line i)
      go (tables es ms vs xs ss acs ns ts cs ds ks hs) z = ap (λ (n : ℕ). next KINDS n i) z

      done : (a : Tables) → Front a types owners holds rooms exprs kinds variables absent → variable_lines a ≡ [] → {kinds' : ℕ} → kinds' ≡ kinds + 1 → kinds < KINDS
          → Front (put (machine_line i) a) types owners holds rooms exprs kinds' variables absent
      done (tables es ms vs xs ss acs ns ts cs ds ks hs) f v k l = record {
        events = f.events;
        machines = record { held = omega (arith, k, f.machines.held); size = omega (arith, l, f.machines.held) };
        vars = subst (λ (w : List Variable). VariablesHeld w (suc ms) owners holds rooms variables absent) (sym v)
            (vars_raised (subst (λ (w : List Variable). VariablesHeld w ms owners holds rooms variables absent) v f.vars));
        expressions = f.expressions;
      }

  -- what taking a variable asks
  abbrev pub variables_there : Variables kinds owners holds rooms variables absent
  variables_there = record {
    rows = variable_lines a;
    held = subst (λ (n : ℕ). VariablesHeld (variable_lines a) n owners holds rooms variables absent) (sym f.machines.held) f.vars;
  }

  -- a variable
  pub took_variable : (x : Said) (r : Bool) {owners' holds' rooms' : List ℕ} {variables' : ℕ} {absent' : Option ℕ} (i : ℕ) (v : Variable) → x ≡ var_line i v
      → Took r (eqb i (length (variable_lines a) + 1) && room kinds v.of (variable_lines a))
      (VariablesHeld (variable_lines a ++ v ∷ []) kinds owners' holds' rooms' variables' absent')
      (Kept owners holds rooms variables absent owners' holds' rooms' variables' absent')
      → Took r (ranged a x) (Front (put x a) types owners' holds' rooms' exprs kinds variables' absent') (Front a types owners' holds' rooms' exprs kinds variables' absent')
  took_variable x r {owners'} {holds'} {rooms'} {variables'} {absent'} i v e h = rw e (record {
    told = h.told ∙ go a f.machines.held;
    done = λ q. done a f (h.done q);
    left = λ q. let k = h.left q in rw (k.owners, k.holds, k.rooms, k.variables, k.absent) f;
  })
    where
      go : (a : Tables) → kinds ≡ machine_lines a → eqb i (length (variable_lines a) + 1) && room kinds v.of (variable_lines a) ≡ ranged a (var_line i v)
      go (tables es ms vs xs ss acs ns ts cs ds ks hs) z = rw (z, length-reverse vs) (ap (λ b. eqb i (length vs + 1) && b) (room_reverse ms v.of vs))

      done : (a : Tables) → Front a types owners holds rooms exprs kinds variables absent → VariablesHeld (variable_lines a ++ v ∷ []) kinds owners' holds' rooms' variables' absent'
          → Front (put (var_line i v) a) types owners' holds' rooms' exprs kinds variables' absent'
      done (tables es ms vs xs ss acs ns ts cs ds ks hs) f k = record {
        events = f.events;
        machines = f.machines;
        vars = subst (λ (n : ℕ). VariablesHeld (reverse (v ∷ vs)) n owners' holds' rooms' variables' absent') f.machines.held
            (subst (λ (w : List Variable). VariablesHeld w kinds owners' holds' rooms' variables' absent') (sym (reverse-cons v vs)) k);
        expressions = f.expressions;
      }

  -- an expression
  pub took_expr : (x : Said) (r : Bool) {exprs' : List ℕ} (i : ℕ) (b : Bool) (e : Expr) → x ≡ expr_line i b e
      → Took r (next EXPRS (length (expr_lines a)) i && b) (exprs' ≡ expr_table (expr_lines a ++ e ∷ [])) (exprs' ≡ exprs)
      → Took r (ranged a x) (Front (put x a) types owners holds rooms exprs' kinds variables absent) (Front a types owners holds rooms exprs' kinds variables absent)
  took_expr x r i b e q h = rw q (record {
    told = h.told ∙ ranged_expr a i b e;
    done = λ z. front_expr a i b e f (h.done z) (next_room EXPRS (length (expr_lines a)) i (and_parts (next EXPRS (length (expr_lines a)) i) b (sym h.told ∙ z)).0);
    left = λ z. rw (h.left z) f;
  })
