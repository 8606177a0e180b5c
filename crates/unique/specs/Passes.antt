-- The tests of what is handed in, where they ask for nothing: what they say holds for every program that the lent tables are, and there is one, whatever the
-- tables hold. `definition` is what the contract says of the program: the number of the first faulty line, or a test; P is what it decides.
use Rattle.std.specs.Prelude.{ℕ, ◌+◌, ◌≤◌, ◌<◌, ◌≡◌, refl, Bool, true, false, List, [], length, get_or, replicate, Option, Some, None}
use Rattle.std.proofs.Common.{ap, sym, ◌∙◌, ⊎_elim, arith}
use Rattle.std.proofs.lemmas.List.{length-replicate}
use Rattle.lists.specs.Tells.{Tells, agree}
use Rattle.values.specs.declared.Ty.TheVariants.{Void as void}
use Rattle.programs.specs.Program.{Program}
use Rattle.tables.specs.Decode.{no_variable, events_of, variables_of, exprs_of, stmts_of, actions_of, states_of, moves_of}
use Rattle.rows.specs.Pad.{below?}
use Rattle.faults.specs.Lines.{Finds}
use Rattle.faults.specs.Read.{Tabled, Moving}
use Rattle.configs.specs.declared.Flat.{Flat}
use Rattle.configs.specs.Flat.{flat}
use Rattle.checked_stacks.specs.CheckedStacks.{Told}
use Rattle.quietness.specs.Quiet.{ToldStates}
use Rattle.unique.specs.Forms.{lined}

-- THE PASSES, of what type their answer is
module _ {A : Type 0} (r s : A) where
  -- `referring::refers`
  pub refers_one : (definition : Program → A) (types : List ℕ) (kinds : ℕ) (owners holds exprs stmts inits actors bodies states entries exits flags moves : List ℕ) (steps calls acts start : ℕ)
      → ((p : Program) → Tabled p types kinds owners holds exprs stmts inits actors bodies states entries exits flags → Moving p moves steps calls acts → p.start ≡ start → r ≡ definition p)
      → ((p : Program) → Tabled p types kinds owners holds exprs stmts inits actors bodies states entries exits flags → Moving p moves steps calls acts → p.start ≡ start → s ≡ definition p)
      → r ≡ s
  refers_one definition types kinds owners holds exprs stmts inits actors bodies states entries exits flags moves steps calls acts start h k =
      h p tabled moving refl ∙ sym (k p tabled moving refl)
    where
      p : Program
      p = lined (events_of types) kinds (variables_of owners holds) (exprs_of exprs) (stmts_of stmts inits) (actions_of actors bodies) (states_of states entries exits flags)
          (moves_of moves 0 steps) (moves_of moves steps calls) (moves_of moves (steps + calls) acts) start

      tabled : Tabled p types kinds owners holds exprs stmts inits actors bodies states entries exits flags
      tabled = record { event = refl; machine = refl; variable = refl; expr = refl; stmt = refl; action = refl; state = refl }

      moving : Moving p moves steps calls acts
      moving = record { step = refl; call = refl; act = refl }

  -- `quietness::quiet`
  pub quiet_one : (definition : Program → A) (types : List ℕ) (kinds : ℕ) (owners exprs stmts actors states exits : List ℕ)
      → ((p : Program) → ToldStates types kinds owners exprs stmts actors states exits p → r ≡ definition p)
      → ((p : Program) → ToldStates types kinds owners exprs stmts actors states exits p → s ≡ definition p) → r ≡ s
  quiet_one definition types kinds owners exprs stmts actors states exits h k = h p told ∙ sym (k p told)
    where
      p : Program
      p = lined (events_of types) kinds (variables_of owners []) (exprs_of exprs) (stmts_of stmts []) (actions_of actors []) (states_of states [] exits []) [] [] [] 0

      told : ToldStates types kinds owners exprs stmts actors states exits p
      told = record {
        fronted = record { variable_types = []; same_events = refl; same_kinds = refl; same_variables = refl };
        same_exprs = refl;
        stated = record { inits = []; same = refl };
        bodies = [];
        same_actions = refl;
        entries = [];
        flags = [];
        same_states = refl;
      }

  -- `sizing::sized`
  pub sized_one : (definition : Program → A) (kinds : ℕ) (owners exprs : List ℕ)
      → ((p : Program) (types holds stmts inits actors bodies states entries exits flags : List ℕ) → Tabled p types kinds owners holds exprs stmts inits actors bodies states entries exits flags → r ≡ definition p)
      → ((p : Program) (types holds stmts inits actors bodies states entries exits flags : List ℕ) → Tabled p types kinds owners holds exprs stmts inits actors bodies states entries exits flags → s ≡ definition p)
      → r ≡ s
  sized_one definition kinds owners exprs h k = h p [] [] [] [] [] [] [] [] [] [] tabled ∙ sym (k p [] [] [] [] [] [] [] [] [] [] tabled)
    where
      p : Program
      p = lined (events_of []) kinds (variables_of owners []) (exprs_of exprs) (stmts_of [] []) (actions_of [] []) (states_of [] [] [] []) [] [] [] 0

      tabled : Tabled p [] kinds owners [] exprs [] [] [] [] [] [] [] []
      tabled = record { event = refl; machine = refl; variable = refl; expr = refl; stmt = refl; action = refl; state = refl }

  -- `sizing::orderly`
  pub orderly_one : (definition : Program → A) (owners holds stmts inits : List ℕ)
      → ((p : Program) (states entries exits flags : List ℕ) → p.variables ≡ variables_of owners holds → p.stmts ≡ stmts_of stmts inits → p.states ≡ states_of states entries exits flags → r ≡ definition p)
      → ((p : Program) (states entries exits flags : List ℕ) → p.variables ≡ variables_of owners holds → p.stmts ≡ stmts_of stmts inits → p.states ≡ states_of states entries exits flags → s ≡ definition p)
      → r ≡ s
  orderly_one definition owners holds stmts inits h k = h p [] [] [] [] refl refl refl ∙ sym (k p [] [] [] [] refl refl refl)
    where
      p : Program
      p = lined [] 0 (variables_of owners holds) [] (stmts_of stmts inits) [] (states_of [] [] [] []) [] [] [] 0

  -- `sizing::stateful`
  pub stateful_one : (definition : Program → A) (kinds : ℕ) (states : List ℕ)
      → ((p : Program) (entries exits flags : List ℕ) → p.machines ≡ kinds → p.states ≡ states_of states entries exits flags → r ≡ definition p)
      → ((p : Program) (entries exits flags : List ℕ) → p.machines ≡ kinds → p.states ≡ states_of states entries exits flags → s ≡ definition p) → r ≡ s
  stateful_one definition kinds states h k = h p [] [] [] refl refl ∙ sym (k p [] [] [] refl refl)
    where
      p : Program
      p = lined [] kinds [] [] [] [] (states_of states [] [] []) [] [] [] 0

  -- `naming::variables_refer`
  pub variables_one : (definition : Program → A) (kinds : ℕ) (owners : List ℕ)
      → ((p : Program) (types : List ℕ) → p.machines ≡ kinds → p.variables ≡ variables_of owners types → r ≡ definition p)
      → ((p : Program) (types : List ℕ) → p.machines ≡ kinds → p.variables ≡ variables_of owners types → s ≡ definition p) → r ≡ s
  variables_one definition kinds owners h k = h p [] refl refl ∙ sym (k p [] refl refl)
    where
      p : Program
      p = lined [] kinds (variables_of owners []) [] [] [] [] [] [] [] 0

  -- `naming::exprs_refer`
  pub exprs_one : (definition : Program → A) (exprs : List ℕ) (variables : ℕ) → ((p : Program) → length p.variables ≡ variables → p.exprs ≡ exprs_of exprs → r ≡ definition p)
      → ((p : Program) → length p.variables ≡ variables → p.exprs ≡ exprs_of exprs → s ≡ definition p) → r ≡ s
  exprs_one definition exprs variables h k = h p (length-replicate variables no_variable) refl ∙ sym (k p (length-replicate variables no_variable) refl)
    where
      p : Program
      p = lined [] 0 (replicate variables no_variable) (exprs_of exprs) [] [] [] [] [] [] 0

-- `faults::first_bad`, of a closure that does not say both yes and no of one number
pub first_bad_one : (said : ℕ → Bool → Type 0) (n : ℕ) (r s : Option ℕ) → ((i : ℕ) → said i true → said i false → ⊥) → Finds said n r → Finds said n s → r ≡ s
first_bad_one said n None None one h k = refl
first_bad_one said n None (Some j) one h k = absurd (one j (h.before j k.found.0 k.found.1 tt) k.found.2)
first_bad_one said n (Some i) None one h k = absurd (one i (k.before i h.found.0 h.found.1 tt) h.found.2)
first_bad_one said n (Some i) (Some j) one h k =
    let high : j ≤ i = at_least i j (λ l. one i (k.before i h.found.0 h.found.1 l) h.found.2) in
    let low : i ≤ j = at_least j i (λ l. one j (h.before j k.found.0 k.found.1 l) k.found.2) in
    let same : i ≡ j = omega arith in
    ap Some same
  where
    at_least : (x y : ℕ) → (x < y → ⊥) → y ≤ x
    at_least x y never = ⊎_elim (λ (l : x < y). absurd (never l)) (λ (l : y ≤ x). l) (below? x y)

-- THE PARTS OF ACCEPTANCE
module _ (r s : Bool) where
  -- `checked_values`: value_ok, typed_ok
  pub value_one : (P : Program → Type 0) (events : ℕ) → ((p : Program) → length p.events ≡ events → Tells r (P p)) → ((p : Program) → length p.events ≡ events → Tells s (P p)) → r ≡ s
  value_one P events h k = agree r s (h p (length-replicate events void)) (k p (length-replicate events void))
    where
      p : Program
      p = lined (replicate events void) 0 [] [] [] [] [] [] [] [] 0

  -- `checked_values`: pair_ok, pending_ok; `checked_queues::queue_ok`
  pub pair_one : (P : Program → Type 0) (types : List ℕ) → ((p : Program) → p.events ≡ events_of types → Tells r (P p)) → ((p : Program) → p.events ≡ events_of types → Tells s (P p)) → r ≡ s
  pair_one P types h k = agree r s (h p refl) (k p refl)
    where
      p : Program
      p = lined (events_of types) 0 [] [] [] [] [] [] [] [] 0

  -- `checked_variables::values_ok`
  pub values_one : (P : Program → Type 0) (kinds types events : List ℕ) → ((p : Program) → p.variables ≡ variables_of kinds types → p.events ≡ events_of events → Tells r (P p))
      → ((p : Program) → p.variables ≡ variables_of kinds types → p.events ≡ events_of events → Tells s (P p)) → r ≡ s
  values_one P kinds types events h k = agree r s (h p refl refl) (k p refl refl)
    where
      p : Program
      p = lined (events_of events) 0 (variables_of kinds types) [] [] [] [] [] [] [] 0

  -- `checked_stacks::frames_ok`
  pub frames_one : (P : Program → Type 0) (states actions : List ℕ) (events : ℕ) → ((p : Program) → Told states actions events p → Tells r (P p)) → ((p : Program) → Told states actions events p → Tells s (P p))
      → r ≡ s
  frames_one P states actions events h k = agree r s (h p told) (k p told)
    where
      p : Program
      p = lined (replicate events void) 0 [] [] [] (actions_of actions []) (states_of states [] [] []) [] [] [] 0

      told : Told states actions events p
      told = record { entries = []; exits = []; flags = []; bodies = []; states = refl; actions = refl; many = length-replicate events void }

  -- `distinct::distinct_ok`
  pub distinct_one : (P : Program → Flat → Type 0) (ids : List ℕ) → ((p : Program) (f : Flat) → f.ids ≡ ids → Tells r (P p f)) → ((p : Program) (f : Flat) → f.ids ≡ ids → Tells s (P p f)) → r ≡ s
  distinct_one P ids h k = agree r s (h p f refl) (k p f refl)
    where
      p : Program
      p = lined [] 0 [] [] [] [] [] [] [] [] 0

      f : Flat
      f = flat ids [] [] [] [] [] [] [] [] [] [] 0

  -- `free_rooms::free_ok`
  pub free_one : (P : List ℕ → ℕ → Type 0) (i : ℕ) → ((ids : List ℕ) (next : ℕ) → get_or ids i 0 ≡ 0 → Tells r (P ids next)) → ((ids : List ℕ) (next : ℕ) → get_or ids i 0 ≡ 0 → Tells s (P ids next)) → r ≡ s
  free_one P i h k = agree r s (h [] 0 refl) (k [] 0 refl)
