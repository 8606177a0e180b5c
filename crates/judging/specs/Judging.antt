-- The passes 4 to 9 as the code takes them: the tables as they are lent, the passes that are left from one on, and a pass told by the line that it answers.
use Rattle.std.specs.Prelude.{ℕ, zero, suc, ◌≡◌, refl, Bool, true, false, cond, List, [], ◌∷◌, eqb, Option, Some, None, Result, Ok, Err, is_ok}
use Rattle.std.proofs.Common.{ap, sym, ◌∙◌, ne_eqb, arith}
use Rattle.answers.specs.declared.Answer.{Answer}
use Rattle.answers.specs.Number.{number}
use Rattle.answers.specs.declared.Answer.TheVariants.{Done, NotThere, NotLower, Doubled, ExitLeaves, TooHigh, NoState}
use Rattle.programs.specs.Program.{Program}
use Rattle.soundness.specs.Asked.{Asked, refers, lower, own, single, quiet, low}
use Rattle.soundness.specs.Sound.{lines, first_fault, meets, stateful}
use Rattle.soundness.specs.Lines.{fault_free}
use Rattle.tables.specs.declared.Program.{Program as Tables}
use Rattle.tables.specs.Decode.{program_of}
use Rattle.faults.specs.Read.{Holds, Moves}
use Rattle.faults.specs.Lines.{line_of}
use Rattle.answers.specs.declared.Refusal.{Refusal}
use Rattle.texts.specs.Verdict.{verdict_of, verdict}

-- THE TABLES, lent one by one
abbrev pub lent : (types : List ℕ) (kinds : ℕ) (owners holds exprs stmts inits actors bodies states entries exits flags moves : List ℕ) (steps calls acts start : ℕ) → Tables
lent types kinds owners holds exprs stmts inits actors bodies states entries exits flags moves steps calls acts start = record {
  event_types = types;
  kinds = kinds;
  variable_of = owners;
  variable_type = holds;
  exprs = exprs;
  stmts = stmts;
  inits = inits;
  action_of = actors;
  action_body = bodies;
  state_of = states;
  state_entry = entries;
  state_exit = exits;
  defers = flags;
  moves = moves;
  steps = steps;
  calls = calls;
  acts = acts;
  start = record { 0 = start };
}

-- every table of a program is what its arrays say
pub tabled_program : (q : Tables) → Holds (program_of q) q
tabled_program q = record { event = refl; machine = refl; variable = refl; expr = refl; stmt = refl; action = refl; state = refl }

-- and so its moves
pub moving_program : (q : Tables) → Moves (program_of q) q
moving_program q = record { step = refl; call = refl; act = refl }

-- THE PASSES from 8 on
abbrev pub from_eight : Program → List (Answer × Asked)
from_eight p = (TooHigh, low p) ∷ []

-- from 7 on
abbrev pub from_seven : Program → List (Answer × Asked)
from_seven p = (ExitLeaves, quiet p) ∷ from_eight p

-- from 6 on
abbrev pub from_six : Program → List (Answer × Asked)
from_six p = (Doubled, single p) ∷ from_seven p

-- behind 5: foreign variables first
abbrev pub after_five : Program → List (Answer × Asked)
after_five p = (NotThere, own p) ∷ from_six p

-- from 5 on
abbrev pub from_five : Program → List (Answer × Asked)
from_five p = (NotLower, lower p) ∷ after_five p

-- THE VERDICT AS A RESULT: `Ok` where it passes, else the answer and its line
abbrev handed : Bool → Answer × ℕ → Result (Unit {0}) Refusal
handed b v = cond b (Ok tt) (Err (record { answer = v.0; line = v.1 }))

-- it passes at answer 0
abbrev pub result_of : Answer × ℕ → Result (Unit {0}) Refusal
result_of v = handed (eqb (number v.0) 0) v

-- of an `Ok`
handed_ok : (b : Bool) (v : Answer × ℕ) (u : Unit {0}) → handed b v ≡ Ok u → b ≡ true
handed_ok true v u e = refl
handed_ok false v u e = cc

-- of an `Err`
handed_err : (b : Bool) (v : Answer × ℕ) (f : Refusal) → handed b v ≡ Err f → (b ≡ false) × ((f.answer, f.line) ≡ v)
handed_err true v f e = cc
handed_err false v f e =
    let g : Refusal = record { answer = v.0; line = v.1 } in
    let same : g ≡ f = cc in
    (refl, sym (ap (λ (h : Refusal). (h.answer, h.line)) same))

-- LAWS FOR CALLERS: where it is `Ok` the answer is 0,
pub result_ok : (v : Answer × ℕ) (r : Result (Unit {0}) Refusal) (u : Unit {0}) → r ≡ result_of v → r ≡ Ok u → eqb (number v.0) 0 ≡ true
result_ok v r u e k = handed_ok (eqb (number v.0) 0) v u (sym e ∙ k)

-- and where it is `Err` it is not 0, and the verdict is this one.
pub result_err : (v : Answer × ℕ) (r : Result (Unit {0}) Refusal) (f : Refusal) → r ≡ result_of v → r ≡ Err f → (eqb (number v.0) 0 ≡ false) × ((f.answer, f.line) ≡ v)
result_err v r f e k = handed_err (eqb (number v.0) 0) v f (sym e ∙ k)

-- the test of a result
handed_test : (b : Bool) (v : Answer × ℕ) → is_ok (handed b v) ≡ b
handed_test true v = refl
handed_test false v = refl

-- It is `Ok` exactly where the answer is 0.
pub result_done : (v : Answer × ℕ) → is_ok (result_of v) ≡ eqb (number v.0) 0
result_done v = handed_test (eqb (number v.0) 0) v

-- what a pass refuses: with its answer where it found a faulty line
abbrev pub refused : Answer → Option ℕ → Result (Unit {0}) Refusal
refused a None = Ok tt
refused a (Some line) = Err (record { answer = a; line = line })

module _ (p : Program) where
  -- A PASS, told by the line r that it answers: it finds a fault,
  pub at_fault : (a : Answer) (t : Asked) (ts : List (Answer × Asked)) (r : ℕ) → r ≡ first_fault 1 (lines p t) → (r ≡ 0 → ⊥) → (a, r) ≡ verdict_of p ((a, t) ∷ ts)
  at_fault a t ts r e n = rw (← e, ne_eqb r 0 n)

  -- or none, and those behind it decide.
  pub no_fault : (a : Answer) (t : Asked) (ts : List (Answer × Asked)) (r : ℕ) (v : Answer × ℕ) → r ≡ first_fault 1 (lines p t) → r ≡ 0 → v ≡ verdict_of p ts → v ≡ verdict_of p ((a, t) ∷ ts)
  no_fault a t ts r v e z h = rw (← e, z) h

  -- what is asked of every line is met
  pub all_met : (t : Asked) (r : ℕ) → r ≡ first_fault 1 (lines p t) → r ≡ 0 → (meets p t).Holds
  all_met t r e z = (fault_free p t).0 (sym e ∙ z)

  -- Every kind has a state,
  pub with_states : (b : Bool) → b ≡ (stateful p).test → b ≡ true → (Done, 0) ≡ verdict_of p []
  with_states b e t = rw (← e, t)

  -- or one has none.
  pub without_state : (b : Bool) → b ≡ (stateful p).test → b ≡ false → (NoState, 0) ≡ verdict_of p []
  without_state b e t = rw (← e, t)

-- A PASS, told by what it refuses
-- nothing: there is no faulty line
refused_none : (a : Answer) (n : ℕ) (u : Unit {0}) → refused a (line_of n) ≡ Ok u → n ≡ 0
refused_none a zero u h = refl
refused_none a (suc n) u h = cc

-- something: it is the answer and the faulty line
refused_line : (a : Answer) (n : ℕ) (f : Refusal) (v : Answer × ℕ) → eqb (number a) 0 ≡ false → refused a (line_of n) ≡ Err f → refused a (line_of n) ≡ result_of (cond (eqb n 0) v (a, n))
refused_line a zero f v e h = cc
refused_line a (suc n) f v e h = rw (ne_eqb (suc n) 0 (λ z. omega arith), e)

module _ (p : Program) (a : Answer) (t : Asked) (r : Option ℕ) (e : Result (Unit {0}) Refusal) (told : r ≡ line_of (first_fault 1 (lines p t))) (given : e ≡ refused a r) where
  -- what every line is asked is met where it refuses nothing,
  pub pass_met : (u : Unit {0}) → e ≡ Ok u → (meets p t).Holds
  pass_met u k = all_met p t (first_fault 1 (lines p t)) refl (refused_none a (first_fault 1 (lines p t)) u (rw (← told) (sym given ∙ k)))

  -- and those behind it decide;
  pub pass_on : (ts : List (Answer × Asked)) (u : Unit {0}) (x : Result (Unit {0}) Refusal) → e ≡ Ok u → x ≡ result_of (verdict_of p ts) → x ≡ result_of (verdict_of p ((a, t) ∷ ts))
  pass_on ts u x k h =
      h ∙ ap result_of (no_fault p a t ts (first_fault 1 (lines p t)) (verdict_of p ts) refl (refused_none a (first_fault 1 (lines p t)) u (rw (← told) (sym given ∙ k))) refl)

  -- and where it refuses this is the verdict.
  pub pass_end : (ts : List (Answer × Asked)) (f : Refusal) → eqb (number a) 0 ≡ false → e ≡ Err f → e ≡ result_of (verdict_of p ((a, t) ∷ ts))
  pass_end ts f n k = given ∙ rw told (refused_line a (first_fault 1 (lines p t)) f (verdict_of p ts) n (rw (← told) (sym given ∙ k)))

-- all passes: 4, and those from 5 on
pub verdict_is : (p : Program) (v : Answer × ℕ) → v ≡ verdict_of p ((NotThere, refers p) ∷ from_five p) → v ≡ verdict p
unfolding verdict
verdict_is p v e = e

-- so as a result
pub result_is : (p : Program) (x : Result (Unit {0}) Refusal) → x ≡ result_of (verdict_of p ((NotThere, refers p) ∷ from_five p)) → x ≡ result_of (verdict p)
unfolding verdict
result_is p x e = e
