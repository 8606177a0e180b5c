-- Document 01, "Misreadings to shut out": "Merging over a dequeue as section 5 of document 000 suggests: with ⊙ as here, a dequeue and an equal send do not
-- commute." Machine 2 waits with a pair; machine 1 is about to send it an equal one.
use Rattle.std.specs.Prelude.{ℕ, ◌≡◌, refl, List, [], ◌∷◌, replicate}
use Rattle.std.proofs.Math.Option
use Rattle.std.proofs.Math.Option.{Option, none, some}
use Rattle.lists.specs.Down.{below, downward}
use Rattle.values.specs.declared.Ty.TheVariants.{Void as void}
use Rattle.values.specs.declared.Value.TheVariants.{Undefined as undefined}
use Rattle.values.specs.Values.{id_of}
use Rattle.programs.specs.declared.Leaf.TheVariants.{Var as var}
use Rattle.programs.specs.declared.Expr.TheVariants.{Leaf as leaf}
use Rattle.values.specs.declared.Ty.TheVariants.{Id as id}
use Rattle.programs.specs.Program.{Program, send}
use Rattle.programs.specs.Trees.{tree, stars}
use Rattle.machines.specs.Config.{nothing, idle, Pair, Machine, Config, Choice}
use Rattle.machines.specs.Eval.{value}
use Rattle.machines.specs.Row.{onto}
use Rattle.machines.specs.Rooms.{find}
use Rattle.runs.specs.Run.{run}
use Rattle.rules.specs.Act.{act}
use Rattle.rules.specs.Step.{step}

-- one kind with one state, which takes event 1 by a step to itself; its entry sends event 1 to the machine in variable 1
abbrev program : Program
program = record {
  events = void ∷ [];
  machines = 1;
  variables = record { of = 1; type = id } ∷ [];
  exprs = leaf (var 1) ∷ [];
  stmts = send 1 1 0 ∷ [];
  actions = [];
  states = record { of = 1; defer = []; entry = 1; exit = 0 } ∷ [];
  steps = record { from = 1; on = 1; to = 1 } ∷ [];
  calls = [];
  acts = [];
  start = 1;
}

abbrev machine : ℕ → List ℕ → List Pair → Machine
machine i row queue = record {
  this = i;
  loc = record {
    kind = 1;
    stack = record { state = 1; map = nothing ∷ [] } ∷ [];
    variables = id_of 2 ∷ [];
    msg = undefined;
    arg = undefined;
    row = row;
    pending = idle;
  };
  queue = queue;
}

abbrev pair : Pair
pair = record { event = 1; value = undefined }

abbrev waiting : Config
waiting = record { rooms = some (machine 1 (1 ∷ []) []) ∷ some (machine 2 [] (pair ∷ [])) ∷ replicate 30 none; next = 3 }

abbrev choice : ℕ → Choice
choice i = record { machine = i; bits = 0 }

-- the queue of machine 2 after these choices
abbrev left : List Choice → Option (List Pair)
left l = Option.map (λ m. m.queue) (find 2 (run (step program) waiting l).config.rooms)

-- a dequeue and then the send leave the pair waiting; the send and then the dequeue leave nothing
pub dequeue_then_send : left (choice 2 ∷ choice 1 ∷ []) ≡ some (pair ∷ [])
unfolding below downward tree stars value onto act step
dequeue_then_send = refl

pub send_then_dequeue : left (choice 1 ∷ choice 2 ∷ []) ≡ some []
unfolding below downward tree stars value onto act step
send_then_dequeue = refl
