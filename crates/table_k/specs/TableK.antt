-- Document 01, "Table K", as one statement over its rows.
use Rattle.std.specs.Prelude.{ℕ, ◌≡◌, refl, Bool, true, false, List, [], ◌∷◌, ◌++◌, map, pos, negsuc, replicate}
use Rattle.std.proofs.Math.Option.{none, some}
use Rattle.lists.specs.Lists.{on_opt}
use Rattle.lists.specs.Down.{below, downward}
use Rattle.answers.specs.declared.Answer.{Answer}
use Rattle.answers.specs.declared.Answer.TheVariants.{Done, UnableToStep, QueueFull}
use Rattle.values.specs.declared.Value.{Value}
use Rattle.values.specs.declared.Value.TheVariants.{Undefined as undefined, Bool as vbool, Int as vint, Event as vevent}
use Rattle.values.specs.declared.Unary.TheVariants.{Not as not', Neg as neg}
use Rattle.values.specs.declared.Binary.TheVariants.{Add as add, And as and}
use Rattle.values.specs.Values.{apply1, apply2}
use Rattle.values.specs.declared.Ty.TheVariants.{Int as int}
use Rattle.programs.specs.Program.{Program, Move, Stmt, send}
use Rattle.programs.specs.declared.Expr.TheVariants.{Leaf as leaf}
use Rattle.programs.specs.declared.Leaf.TheVariants.{Int as int_val, This as this}
use Rattle.programs.specs.Trees.{tree, stars}
use Rattle.runs.specs.Outcome.{on_out}
use Rattle.machines.specs.Config.{Reply, deferred, nothing, Pending, idle, raising, Pair, Config}
use Rattle.machines.specs.Eval.{value}
use Rattle.machines.specs.Row.{onto}
use Rattle.machines.specs.Rooms.{find}
use Rattle.rules.specs.declared.Rule.{Rule}
use Rattle.rules.specs.declared.Rule.TheVariants.{SEND, DEQUEUE, POP1}
use Rattle.rules.specs.Act.{act}
use Rattle.rules.specs.Step.{step}
use Rattle.regrouping.specs.Regrouped.{regrouped, weave, tails}

-- an entry of a list that is regrouped: its machine, its place in the list given, and whether it is a meeting
abbrev Entry : Type 0
Entry = ℕ × ℕ × Bool

-- What a row shows: a value; or a step of machine 1 by a rule, with its msg and its queue after it; or an answer; or an order of entries.
pub data Shown : Type 0 where
  gives : Value → Shown
  done : Rule → Value → List Pair → Shown
  answer : Answer → Shown
  order : List Entry → Shown

-- a row: what the definitions give, and what the table says
pub record Row : Type 0 where
  pub given : Shown
  pub wanted : Shown

-- One machine in one state, with the map α, the row r, q pending and the queue qs; the state defers the events ds and has the steps ts.
abbrev program : List ℕ → List Move → List Stmt → Program
program ds ts ss = record {
  events = int ∷ int ∷ [];
  machines = 1;
  variables = [];
  exprs = leaf this ∷ leaf (int_val (pos 3)) ∷ leaf (int_val (pos 99)) ∷ [];
  stmts = ss;
  actions = [];
  states = record { of = 1; defer = ds; entry = 0; exit = 0 } ∷ [];
  steps = ts;
  calls = [];
  acts = [];
  start = 1;
}

-- the configuration of a row
abbrev config : List Reply → List ℕ → Pending → List Pair → Config
config α r q qs = record {
  rooms = some (record {
    this = 1;
    loc = record {
      kind = 1;
      stack = record { state = 1; map = α } ∷ [];
      variables = [];
      msg = undefined;
      arg = undefined;
      row = r;
      pending = q;
    };
    queue = qs;
  }) ∷ replicate 31 none;
  next = 2;
}

-- what the step of machine 1 shows
abbrev shown : Program → Config → Shown
shown p c = on_out (step p c (record { machine = 1; bits = 0 })) (λ R d. on_opt (find 1 d.rooms) (answer Done) (λ m. done R m.loc.msg m.queue)) answer

-- given, wanted
abbrev row : Shown → Shown → Row
row g w = record { given = g; wanted = w }

-- a pair
abbrev pair : ℕ → Value → Pair
pair e v = record { event = e; value = v }

-- λ e. ⊥
abbrev nowhere : List Reply
nowhere = nothing ∷ nothing ∷ []

-- a map that defers 2
abbrev deferring2 : List Reply
deferring2 = nothing ∷ deferred ∷ []

-- the pairs of event 1 with 0 to 15
abbrev sixteen : List Pair
sixteen = map (λ n. pair 1 (vint (pos n))) (0 ∷ 1 ∷ 2 ∷ 3 ∷ 4 ∷ 5 ∷ 6 ∷ 7 ∷ 8 ∷ 9 ∷ 10 ∷ 11 ∷ 12 ∷ 13 ∷ 14 ∷ 15 ∷ [])

-- a private step and a meeting of machine k, in place n
abbrev p : ℕ → ℕ → Entry
p k n = (k, n, false)

-- a meeting of machine k, in place n
abbrev M : ℕ → ℕ → Entry
M k n = (k, n, true)

-- the queue 2,1
abbrev waiting : List Pair
waiting = pair 2 undefined ∷ pair 1 undefined ∷ []

-- TABLE K
abbrev pub table_k : List Row
table_k =
    -- K1 2147483647+1 undefined
    row (gives (apply2 add (vint (pos 2147483647)) (vint (pos 1)))) (gives undefined)
    -- K2 2147483647+0 itself
    ∷ row (gives (apply2 add (vint (pos 2147483647)) (vint (pos 0)))) (gives (vint (pos 2147483647)))
    -- K3 neg -2147483648 undefined
    ∷ row (gives (apply1 neg (vint (negsuc 2147483647)))) (gives undefined)
    -- K4 false and undefined: undefined
    ∷ row (gives (apply2 and (vbool false) undefined)) (gives undefined)
    -- K5 not undefined: undefined
    ∷ row (gives (apply1 not' undefined)) (gives undefined)
    -- K6 state defers 2, queue 2,1: 1 is taken
    ∷ row (shown (program (2 ∷ []) [] []) (config nowhere [] idle waiting)) (done DEQUEUE (vevent 1) (pair 2 undefined ∷ []))
    -- K7 the same with a step on 2: 2 is taken
    ∷ row (shown (program (2 ∷ []) (record { from = 1; on = 2; to = 1 } ∷ []) []) (config nowhere [] idle waiting)) (done DEQUEUE (vevent 2) (pair 1 undefined ∷ []))
    -- K8 map defers 2, state says nothing, queue 2: answer 19
    ∷ row (shown (program [] [] []) (config deferring2 [] idle (pair 2 undefined ∷ []))) (answer UnableToStep)
    -- K9 a pending raise of 2 there: POP1
    ∷ row (shown (program [] [] []) (config deferring2 [] (raising 2 undefined) (pair 2 undefined ∷ []))) (done POP1 undefined (pair 2 undefined ∷ []))
    -- K10 send of a pair already waiting in a queue of 16: done, queue as before
    ∷ row (shown (program [] [] (send 1 1 2 ∷ [])) (config nowhere (1 ∷ []) idle sixteen)) (done SEND undefined sixteen)
    -- K11 a new pair there: 16
    ∷ row (shown (program [] [] (send 1 1 3 ∷ [])) (config nowhere (1 ∷ []) idle sixteen)) (answer QueueFull)
    -- K12 first regrouping above: `1p 2p 1p 2M 1M 2p 1p` gives `2p 2M 1p 1p 1M 2p 1p`
    ∷ row (order (regrouped (λ (e : Entry). e.0) (λ e. e.2) 1 (p 1 1 ∷ p 2 2 ∷ p 1 3 ∷ M 2 4 ∷ M 1 5 ∷ p 2 6 ∷ []) ++ p 1 7 ∷ []))
    (order (p 2 2 ∷ M 2 4 ∷ p 1 1 ∷ p 1 3 ∷ M 1 5 ∷ p 2 6 ∷ p 1 7 ∷ []))
    ∷ []

-- every row gives what it wants
abbrev pub Right : List Row → Type 0
Right [] = Unit {0}
Right (r ∷ rs) = (r.given ≡ r.wanted) × Right rs

-- the definitions give every row of the table
pub table_k_lem : Right table_k
unfolding below downward tree stars value onto act step weave tails
table_k_lem = (refl, (refl, (refl, (refl, (refl, (refl, (refl, (refl, (refl, (refl, (refl, (refl, tt))))))))))))
