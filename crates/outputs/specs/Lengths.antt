-- How many bytes the lines take at most. Nothing here is of the document.
use Rattle.std.specs.Prelude.{ℕ, suc, ◌+◌, ◌*◌, ◌^◌, ◌≤◌, ◌<◌, List, [], ◌∷◌, ◌++◌, length}
use Rattle.std.proofs.Math.Option.{Option, none, some}
use Rattle.std.proofs.Common.{arith, length-append}
use Rattle.lists.specs.Lists.{All, flat}
use Rattle.answers.specs.declared.Answer.{Answer}
use Rattle.answers.specs.declared.Answer.TheVariants.{Done, TextTooLong, NotInForm, OutOfRange, NotThere, NotLower, Doubled, ExitLeaves, TooHigh, NoState, AssertionFalse, SendToUndefined, SendToNotLive, StackEmpty, NotABool, WrongType, QueueFull, StackFull, NoRoom, UnableToStep, NotAccepted, BufferTooShort, TookNoStep}
use Rattle.answers.specs.Number.{number}
use Rattle.programs.specs.Sizes.{SPENT, BITS}
use Rattle.machines.specs.Config.{Machine, Config, Choice}
use Rattle.machines.specs.Rooms.{live}
use Rattle.runs.specs.Run.{Ended}
use Rattle.rules.specs.declared.Rule.{Rule}
use Rattle.rules.specs.declared.Rule.TheVariants.{ASSIGN, NEW, DELETE, ASSERT, SEQ, IF, WHILE, SEND, RAISE, LEAVE, RETURN, DEQUEUE, STEP, ACTION, CALL, POP1, POP2}
use Rattle.texts.specs.Bytes.{bytes, LF}
use Rattle.outputs.specs.Lines.{numeral, field, rule_name}
use Rattle.outputs.specs.Numerals.{numeral_length}
use Rattle.outputs.specs.Programs.{refusal, step_lines, end_line, choice_line}

-- a rule's name has at most 7 bytes
name_length : (R : Rule) → length (bytes (rule_name R)) ≤ 7
name_length ASSIGN = omega arith
name_length NEW = omega arith
name_length DELETE = omega arith
name_length ASSERT = omega arith
name_length SEQ = omega arith
name_length IF = omega arith
name_length WHILE = omega arith
name_length SEND = omega arith
name_length RAISE = omega arith
name_length LEAVE = omega arith
name_length RETURN = omega arith
name_length DEQUEUE = omega arith
name_length STEP = omega arith
name_length ACTION = omega arith
name_length CALL = omega arith
name_length POP1 = omega arith
name_length POP2 = omega arith

-- an answer's number is at most 22
number_most : (a : Answer) → number a ≤ 22
number_most Done = omega arith
number_most TextTooLong = omega arith
number_most NotInForm = omega arith
number_most OutOfRange = omega arith
number_most NotThere = omega arith
number_most NotLower = omega arith
number_most Doubled = omega arith
number_most ExitLeaves = omega arith
number_most TooHigh = omega arith
number_most NoState = omega arith
number_most AssertionFalse = omega arith
number_most SendToUndefined = omega arith
number_most SendToNotLive = omega arith
number_most StackEmpty = omega arith
number_most NotABool = omega arith
number_most WrongType = omega arith
number_most QueueFull = omega arith
number_most StackFull = omega arith
number_most NoRoom = omega arith
number_most UnableToStep = omega arith
number_most NotAccepted = omega arith
number_most BufferTooShort = omega arith
number_most TookNoStep = omega arith

-- a machine's number has at most 5 digits,
machine_length : (n : ℕ) → n < SPENT → length (numeral n) ≤ 5
machine_length n h = numeral_length 4 n (omega arith)

-- an answer's at most 2
answer_digits : (a : Answer) → length (numeral (number a)) ≤ 2
answer_digits a = numeral_length 1 (number a) (omega (arith, number_most a))

-- THE STEP LINES: 34 bytes each
pub step_lines_length : (n : ℕ) (l : List Choice) (rs : List Rule) → All (λ x. x.machine < SPENT) l → n + length rs ≤ 10000 → length (step_lines n l rs) ≤ 34 * length rs
step_lines_length n [] rs h k = omega arith
step_lines_length n (x ∷ l) [] h k = omega arith
step_lines_length n (x ∷ l) (R ∷ rs) h k =
    let later = step_lines_length (suc n) l rs h.1 (omega (arith, k)) in
    let d = numeral_length 3 n (omega (arith, k)) in
    let m = machine_length x.machine h.0 in
    let rest = LF ∷ step_lines (suc n) l rs in
    let name = bytes (rule_name R) ++ rest in
    let machine = field " machine=" x.machine ++ (bytes " rule=" ++ name) in
    omega (arith, later, d, m, name_length R, length-append (bytes (rule_name R)) rest, length-append (numeral x.machine) (bytes " rule=" ++ name), length-append (numeral n) machine)

-- THE CHOICE LINES: 22 bytes each
pub choice_lines_length : (l : List Choice) → All (λ x. (x.machine < SPENT) × (x.bits ≤ BITS)) l → length (flat choice_line l) ≤ 22 * length l
choice_lines_length [] h = omega arith
choice_lines_length (x ∷ l) h =
    let later = choice_lines_length l h.1 in
    let m = machine_length x.machine h.0.0 in
    let b = numeral_length 2 x.bits (omega (arith, h.0.1)) in
    let bits = field " bits=" x.bits ++ LF ∷ [] in
    omega (arith, later, m, b, length-append (choice_line x) (flat choice_line l), length-append (numeral x.machine) bits, length-append (numeral x.bits) (LF ∷ []))

-- THE END LINE: 26 bytes
pub end_line_length : (e : Ended Config) → e.steps < 10000 → live e.config < 100 → length (end_line e) ≤ 26
end_line_length e s v =
    let left = field " live=" (live e.config) ++ LF ∷ [] in
    omega (arith, answer_digits e.answer, numeral_length 3 e.steps s, numeral_length 1 (live e.config) v, length-append (numeral (number e.answer)) (field " steps=" e.steps ++ left), length-append (numeral e.steps) left, length-append (numeral (live e.config)) (LF ∷ []))

-- A REFUSAL, of a line whose number a word of 64 bits can hold: 33 bytes
pub refusal_length : (a : Answer) (k : ℕ) → k < 2 ^ 64 → length (refusal a k) ≤ 33
refusal_length a k h =
    omega (arith, answer_digits a, numeral_length 19 k (omega (arith, h)), length-append (numeral (number a)) (field " line=" k ++ LF ∷ []), length-append (numeral k) (LF ∷ []))

-- AN ANSWER ALONE: 7 bytes
pub answer_length : (a : Answer) → length (field "end=" (number a) ++ LF ∷ []) ≤ 7
answer_length a = omega (arith, answer_digits a, length-append (numeral (number a)) (LF ∷ []))

-- no more machines are left than there are rooms
pub live_most : (l : List (Option Machine)) (n : ℕ) → live (record { rooms = l; next = n }) ≤ length l
live_most [] n = omega arith
live_most (none ∷ l) n = omega (arith, live_most l n)
live_most (some m ∷ l) n = omega (arith, live_most l n)
