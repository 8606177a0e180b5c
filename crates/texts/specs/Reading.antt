-- Document 01, "The line format", "Sizes" and "Answers" 2 and 3: the lines of a text from the first to the last.
use Rattle.std.specs.Prelude.{ℕ, suc, ◌+◌, Bool, true, not, cond, ◌&&◌, ◌||◌, List, [], ◌∷◌, reverse, eqb, leb, ltb, length}
use Rattle.lists.specs.Lists.{keep, on_opt, there}
use Rattle.answers.specs.declared.Answer.{Answer}
use Rattle.answers.specs.declared.Answer.TheVariants.{NotInForm, OutOfRange}
use Rattle.values.specs.declared.Ty.{Ty}
use Rattle.programs.specs.Sizes.{CHOICES, SPENT, KINDS, EVENTS, VARIABLES, EXPRS, STMTS, ACTIONS, STATES, BITS}
use Rattle.programs.specs.Program.{Program, Variable, Stmt, Action, State, Move, is_of}
use Rattle.programs.specs.declared.Expr.{Expr}
use Rattle.machines.specs.Config.{Choice}
use Rattle.texts.specs.Forms.{Said, event_line, machine_line, var_line, expr_line, stmt_line, action_line, state_line, step_line, call_line, act_line, start_line, choice_line, said}

-- what the lines so far have said, the last first: events, machines, variables, exprs, stmts, actions, states, steps, calls, acts, start, choices
pub data Tables : Type 0 where
  tables : List Ty → ℕ → List Variable → List Expr → List Stmt → List Action → List State → List Move → List Move → List Move → List ℕ → List Choice → Tables

-- before the first line
abbrev pub nothing : Tables
nothing = tables [] 0 [] [] [] [] [] [] [] [] [] []

-- one more line
abbrev pub put : Said → Tables → Tables
put (event_line i t) (tables es ms vs xs ss acs ns ts cs ds ks hs) = tables (t ∷ es) ms vs xs ss acs ns ts cs ds ks hs
put (machine_line i) (tables es ms vs xs ss acs ns ts cs ds ks hs) = tables es (suc ms) vs xs ss acs ns ts cs ds ks hs
put (var_line i v) (tables es ms vs xs ss acs ns ts cs ds ks hs) = tables es ms (v ∷ vs) xs ss acs ns ts cs ds ks hs
put (expr_line i r e) (tables es ms vs xs ss acs ns ts cs ds ks hs) = tables es ms vs (e ∷ xs) ss acs ns ts cs ds ks hs
put (stmt_line i s) (tables es ms vs xs ss acs ns ts cs ds ks hs) = tables es ms vs xs (s ∷ ss) acs ns ts cs ds ks hs
put (action_line i a) (tables es ms vs xs ss acs ns ts cs ds ks hs) = tables es ms vs xs ss (a ∷ acs) ns ts cs ds ks hs
put (state_line i n) (tables es ms vs xs ss acs ns ts cs ds ks hs) = tables es ms vs xs ss acs (n ∷ ns) ts cs ds ks hs
put (step_line t) (tables es ms vs xs ss acs ns ts cs ds ks hs) = tables es ms vs xs ss acs ns (t ∷ ts) cs ds ks hs
put (call_line t) (tables es ms vs xs ss acs ns ts cs ds ks hs) = tables es ms vs xs ss acs ns ts (t ∷ cs) ds ks hs
put (act_line t) (tables es ms vs xs ss acs ns ts cs ds ks hs) = tables es ms vs xs ss acs ns ts cs (t ∷ ds) ks hs
put (start_line k) (tables es ms vs xs ss acs ns ts cs ds ks hs) = tables es ms vs xs ss acs ns ts cs ds (k ∷ ks) hs
put (choice_line c) (tables es ms vs xs ss acs ns ts cs ds ks hs) = tables es ms vs xs ss acs ns ts cs ds ks (c ∷ hs)

-- "Kinds of line come in this order"
abbrev pub kind : Said → ℕ
kind (event_line i t) = 1
kind (machine_line i) = 2
kind (var_line i v) = 3
kind (expr_line i r e) = 4
kind (stmt_line i s) = 5
kind (action_line i a) = 6
kind (state_line i n) = 7
kind (step_line t) = 8
kind (call_line t) = 9
kind (act_line t) = 10
kind (start_line k) = 11
kind (choice_line c) = 12

-- the kind of a `start` line
abbrev START : ℕ
START = 11

-- 2: "a line out of order". `last` is the kind of the line before, 0 at the first line. "`start=1`: exactly one".
abbrev pub ordered : ℕ → Said → Bool
ordered last x = cond (eqb (kind x) START) (ltb last START) (leb last (kind x))

-- 3: "a line's own number out of sequence, a size above passed". i: the line's own number, n: how many there are before it
abbrev pub next : ℕ → ℕ → ℕ → Bool
next size n i = eqb i (n + 1) && leb i size

-- "variables 16 a kind", of a kind that there is
abbrev pub room : ℕ → ℕ → List Variable → Bool
room machines k vs = not (there machines k) || ltb (length (keep (is_of k) vs)) VARIABLES

-- "or `val`, `bits` or a live number out of range"
abbrev pub ranged : Tables → Said → Bool
ranged (tables es ms vs xs ss acs ns ts cs ds ks hs) (event_line i t) = next EVENTS (length es) i
ranged (tables es ms vs xs ss acs ns ts cs ds ks hs) (machine_line i) = next KINDS ms i
ranged (tables es ms vs xs ss acs ns ts cs ds ks hs) (var_line i v) = eqb i (length vs + 1) && room ms v.of vs
ranged (tables es ms vs xs ss acs ns ts cs ds ks hs) (expr_line i r e) = next EXPRS (length xs) i && r
ranged (tables es ms vs xs ss acs ns ts cs ds ks hs) (stmt_line i s) = next STMTS (length ss) i
ranged (tables es ms vs xs ss acs ns ts cs ds ks hs) (action_line i a) = next ACTIONS (length acs) i
ranged (tables es ms vs xs ss acs ns ts cs ds ks hs) (state_line i n) = next STATES (length ns) i
ranged (tables es ms vs xs ss acs ns ts cs ds ks hs) (step_line t) = true
ranged (tables es ms vs xs ss acs ns ts cs ds ks hs) (call_line t) = true
ranged (tables es ms vs xs ss acs ns ts cs ds ks hs) (act_line t) = true
ranged (tables es ms vs xs ss acs ns ts cs ds ks hs) (start_line k) = true
ranged (tables es ms vs xs ss acs ns ts cs ds ks hs) (choice_line c) = ltb (length hs) CHOICES && ltb 0 c.machine && ltb c.machine SPENT && leb c.bits BITS

-- the program and the choices that the lines say, where `start` names kind k
abbrev pub program_of : Tables → ℕ → Program × List Choice
program_of (tables es ms vs xs ss acs ns ts cs ds ks hs) k =
    (record { events = reverse es; machines = ms; variables = reverse vs; exprs = reverse xs; stmts = reverse ss; actions = reverse acs; states = reverse ns; steps = reverse ts; calls = reverse cs; acts = reverse ds; start = k }, reverse hs)

-- the `start` lines
abbrev pub starts_of : Tables → List ℕ
starts_of (tables es ms vs xs ss acs ns ts cs ds ks hs) = ks

-- a text is loaded, or refused with an answer and a line
pub data Result : Type 0 where
  loaded : Program → List Choice → Result
  refused : Answer → ℕ → Result  -- with its line

-- by the `start` lines: none is 2
abbrev whole_with : Tables → ℕ → List ℕ → Result
whole_with a k [] = refused NotInForm k
whole_with a k (s ∷ l) = let p = program_of a s in loaded p.0 p.1

-- all lines are read, and k would be the next: "for a missing `start`, the last line's number plus one"
abbrev pub whole : Tables → ℕ → Result
whole a k = whole_with a k (starts_of a)

-- "2 and 3 at the first faulty line (2 before 3)". The parts between the LF, from line k on: "Lines end with LF, the last too", so the last part is empty.
abbrev pub reading : ℕ → Tables → ℕ → List (List ℕ) → Result
reading last a k [] = whole a k
reading last a k ([] ∷ []) = whole a k
reading last a k ((b ∷ l) ∷ []) = refused NotInForm k
reading last a k (l ∷ m ∷ ls) =
    on_opt (said l) (refused NotInForm k) (λ x.
    let after = reading (kind x) (put x a) (k + 1) (m ∷ ls) in
    let three = cond (ranged a x) after (refused OutOfRange k) in
    cond (ordered last x) three (refused NotInForm k))
