-- THE PROGRAM THAT THE ARRAYS HOLD after the last line.
use Rattle.std.specs.Prelude.{Option, None, Some, ℕ, ◌+◌, ◌≡◌, refl, [], ◌∷◌}
use Rattle.texts.specs.Reading.{Tables, tables, program_of, loaded, whole, starts_of}
use Rattle.tabled.specs.Tabled.{byte_of, tabled}
use Rattle.tables.specs.declared.Kind.{Kind}
use Rattle.tables.specs.declared.Program.{Program}
use Rattle.gathering.specs.declared.Lines.{Lines}
use Rattle.taking_lines.specs.Gathered.{word_of_start}
use Rattle.taking_lines.specs.Asked.{Gathered}

-- with a start the lines are whole
pub whole_is : (a : Tables) (n : ℕ) → (word_of_start (starts_of a) ≡ None → ⊥)
    → (k : ℕ) × (whole a n ≡ loaded (program_of a k).0 (program_of a k).1) × (word_of_start (starts_of a) ≡ Some (record { 0 = byte_of k }))
whole_is (tables es ms vs xs ss acs ns ts cs ds [] hs) n z = absurd (z refl)
whole_is (tables es ms vs xs ss acs ns ts cs ds (k ∷ ks) hs) n z = (k, refl, refl)

-- the start as a number: 0 where there is none, else one more than its kind
abbrev pub start_number : Option Kind → ℕ
start_number None = 0
start_number (Some k) = k.0 + 1

-- THE TABLES THAT ARE HANDED OUT: with how many kinds there are, and the start
abbrev pub finished : Lines → Kind → Program
finished x k = record x.program { kinds = x.kinds; start = k }

-- THE ARRAYS ARE THE PROGRAM'S TABLES where every variable's kind is there
pub lent_tabled : {x : Lines} (a : Tables) → Gathered a x → x.absent ≡ None → (k : ℕ) (s : Kind) → s ≡ record { 0 = byte_of k } → finished x s ≡ tabled (program_of a k).0
lent_tabled (tables es ms vs xs ss acs ns ts cs ds ks hs) g z k s e = λ i. record {
  event_types = g.front.events.held i;
  kinds = g.front.machines.held i;
  variable_of = (g.front.vars.tables z).of i;
  variable_type = (g.front.vars.tables z).type i;
  exprs = g.front.expressions.held i;
  stmts = g.back.statements.held.table i;
  inits = g.back.statements.held.pool i;
  action_of = g.back.actions.held.of i;
  action_body = g.back.actions.held.body i;
  state_of = g.back.states.held.states.of i;
  state_entry = g.back.states.held.states.entry i;
  state_exit = g.back.states.held.states.exit i;
  defers = g.back.states.held.defers i;
  moves = g.back.moved.held i;
  steps = g.back.moved.step i;
  calls = g.back.moved.call i;
  acts = g.back.moved.act i;
  start = e i;
}
