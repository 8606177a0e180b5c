-- Answers 13, 19 and 20 of a step, spelled out as document 01 words them: each comes exactly then.
use Rattle.std.specs.Prelude.{ℕ, ◌≡◌, ◌⊎◌, ◌↔◌}
use Rattle.std.proofs.Common.{inl, inr}
use Rattle.std.proofs.Math.Option.{none}
use Rattle.answers.specs.declared.Answer.{Answer}
use Rattle.answers.specs.declared.Answer.TheVariants.{Done, TextTooLong, NotInForm, OutOfRange, NotThere, NotLower, Doubled, ExitLeaves, TooHigh, NoState, AssertionFalse, SendToUndefined, SendToNotLive, StackEmpty, NotABool, WrongType, QueueFull, StackFull, NoRoom, UnableToStep, NotAccepted, BufferTooShort, TookNoStep}
use Rattle.programs.specs.Program.{Program}
use Rattle.machines.specs.Config.{Config}
use Rattle.machines.specs.Rooms.{find}
use Rattle.runs.specs.Outcome.{refused}
use Rattle.rules.specs.Step.{step}
use Rattle.rules.specs.Rules.{Fails}
use Rattle.rules.proofs.Match.{refusal_is}
use Rattle.rules.specs.Occasions.{EmptyStack, Waits, SeqFirst}

module _ (p : Program) (c : Config) (i w : ℕ) where
  -- what a refusal with one of these three says
  abbrev Says : Answer → Type 0
  Says Done = Unit {0}
  Says TextTooLong = Unit {0}
  Says NotInForm = Unit {0}
  Says OutOfRange = Unit {0}
  Says NotThere = Unit {0}
  Says NotLower = Unit {0}
  Says Doubled = Unit {0}
  Says ExitLeaves = Unit {0}
  Says TooHigh = Unit {0}
  Says NoState = Unit {0}
  Says AssertionFalse = Unit {0}
  Says SendToUndefined = Unit {0}
  Says SendToNotLive = Unit {0}
  Says StackEmpty = EmptyStack p c i w
  Says NotABool = Unit {0}
  Says WrongType = Unit {0}
  Says QueueFull = Unit {0}
  Says StackFull = Unit {0}
  Says NoRoom = Unit {0}
  Says UnableToStep = (find i c.rooms ≡ none) ⊎ Waits p c i w
  Says NotAccepted = SeqFirst p c i w
  Says BufferTooShort = Unit {0}
  Says TookNoStep = Unit {0}

  says : {a : Answer} → Fails p c i w a → Says a
  says (Fails.ASSERT-FAIL a e) = tt
  says (Fails.SEND-FAIL1 a e) = tt
  says (Fails.SEND-FAIL2 a e g) = tt
  says (Fails.POP-FAIL {m = m} g e) = (m, g, e)
  says (Fails.IF-14 a n) = tt
  says (Fails.WHILE-14 a n) = tt
  says (Fails.ASSERT-14 a n) = tt
  says (Fails.ASSIGN-15 a g) = tt
  says (Fails.INIT-15 a g) = tt
  says (Fails.TARGET-15 a u n) = tt
  says (Fails.SEND-15 a e g n) = tt
  says (Fails.RAISE-15 a g) = tt
  says (Fails.SEND-16 a t g e k o) = tt
  says (Fails.CALL-17 b g k r) = tt
  says (Fails.ROOM-18 a e b o) = tt
  says (Fails.SPENT-18 a e b) = tt
  says (Fails.LIVE-19 g) = inl g
  says (Fails.WAIT-19 {m = m} {f = f} {γ = γ} b k) = inr (m, f, γ, b, k)
  says (Fails.SEQ-20 {m = m} {f = f} {γ = γ} {s = s} {a = a} {b = b} {r = r} h) = (m, f, γ, s, r, a, b, h)

  waits_19 : (find i c.rooms ≡ none) ⊎ Waits p c i w → Fails p c i w UnableToStep
  waits_19 (inl g) = Fails.LIVE-19 g
  waits_19 (inr (m, f, γ, b, k)) = Fails.WAIT-19 b k

  -- 13 exactly when the machine lives and its stack is empty
  pub answer_13 : (step p c (record { machine = i; bits = w }) ≡ refused StackEmpty) ↔ EmptyStack p c i w
  answer_13 = ((λ e. says ((refusal_is p c i w).0 e)), (λ (m, g, e). (refusal_is p c i w).1 (Fails.POP-FAIL g e)))

  -- 19 exactly when it does not live, or has a stack, an empty row, nothing pending and only pairs that are held back
  pub answer_19 : (step p c (record { machine = i; bits = w }) ≡ refused UnableToStep) ↔ ((find i c.rooms ≡ none) ⊎ Waits p c i w)
  answer_19 = ((λ e. says ((refusal_is p c i w).0 e)), (λ h. (refusal_is p c i w).1 (waits_19 h)))

  -- 20 exactly when a row begins with a seq: never from an accepted configuration
  pub answer_20 : (step p c (record { machine = i; bits = w }) ≡ refused NotAccepted) ↔ SeqFirst p c i w
  answer_20 = ((λ e. says ((refusal_is p c i w).0 e)), (λ (m, f, γ, s, r, a, b, h). (refusal_is p c i w).1 (Fails.SEQ-20 h)))
