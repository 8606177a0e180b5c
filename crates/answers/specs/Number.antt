-- Document 01, "Answers": the number of each, with the words that say when it is given.
use Rattle.std.specs.Prelude.{ℕ}
use Rattle.answers.specs.declared.Answer.{Answer}
use Rattle.answers.specs.declared.Answer.TheVariants.{Done, TextTooLong, NotInForm, OutOfRange, NotThere, NotLower, Doubled, ExitLeaves, TooHigh, NoState, AssertionFalse, SendToUndefined, SendToNotLive, StackEmpty, NotABool, WrongType, QueueFull, StackFull, NoRoom, UnableToStep, NotAccepted, BufferTooShort, TookNoStep}

-- "no." of the table
abbrev pub number : Answer → ℕ
number Done = 0  -- "done"
number TextTooLong = 1  -- "text over 60,000 bytes"
number NotInForm = 2  -- "a line not in the form, a void variable, a list not ascending, a line out of order, or `start` missing"
number OutOfRange = 3  -- "a line's own number out of sequence, a size above passed, or `val`, `bits` or a live number out of range"
number NotThere = 4  -- "a reference to something absent or of another kind's; `new` into a variable not of type id"
number NotLower = 5  -- "a part not lower than its whole, or named twice"
number Doubled = 6  -- "two transitions, or two actions, for one state and event"
number ExitLeaves = 7  -- "an exit with raise, return or leave anywhere inside"
number TooHigh = 8  -- "height over 32, or more than 8 `*`"
number NoState = 9  -- "a machine kind with no state"
number AssertionFalse = 10  -- "assertion false"
number SendToUndefined = 11  -- "send to the undefined value"
number SendToNotLive = 12  -- "send to a number not live"
number StackEmpty = 13  -- "call stack empty"
number NotABool = 14  -- "condition of if, while or assert not a bool"
number WrongType = 15  -- "a value neither undefined nor of the wanted type (assignment, `init`, payload, send target); void wants undefined"
number QueueFull = 16  -- "queue full"
number StackFull = 17  -- "call stack full"
number NoRoom = 18  -- "no free room, or live numbers spent"
number UnableToStep = 19  -- "the chosen machine is not live, or has a stack, an empty row, nothing pending and nothing to dequeue"
number NotAccepted = 20  -- "the configuration handed in is not one, or the program breaks 3 to 9, has a void variable or a list not ascending"
number BufferTooShort = 21  -- "output buffer shorter than the list"
number TookNoStep = 22  -- "regroup: a choice before the last took no step"
