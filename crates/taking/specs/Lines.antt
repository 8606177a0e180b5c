-- What the lines of each kind say, by the parts of the text at their places.
use Prim.Native.Nat.{ℕ, suc, zero, ◌-◌, ◌≤◌}
use Rattle.std.specs.Prelude.{◌≡◌, List, [], ◌∷◌}
use Rattle.std.proofs.Math.Path.{refl, ap}
use Rattle.std.proofs.Common.{sym, ◌∙◌, arith}
use Rattle.std.proofs.Math.Logic.{dite}
use Rattle.std.proofs.Math.Decide.{ℕ_discrete}
use Rattle.values.specs.declared.Ty.{Ty}
use Rattle.values.specs.declared.Ty.TheVariants.{Void as void, Bool as bool, Int as int, Event as event, Id as id}
use Rattle.programs.specs.Program.{Variable, Action, Move}
use Rattle.machines.specs.Config.{Choice}
use Rattle.texts.specs.Forms.{event_line, machine_line, var_line, action_line, step_line, call_line, act_line, start_line, choice_line}
use Rattle.tabled.specs.Tabled.{ty_code}
use Rattle.spoken.specs.Spoken.{number_at, line_at}

module _ (s places : List ℕ) where
  -- an event: its number, and its type, in the order of the forms
  pub event_says : (row i : ℕ) (t : Ty) → row ≤ 4 → line_at s places row ≡ event_line i t → (number_at s places 0 ≡ i) × (ty_code t ≡ row)
  unfolding line_at
  event_says zero i t h e = let q : void ≡ t = cc in (cc, rw (← q))
  event_says (suc zero) i t h e = let q : bool ≡ t = cc in (cc, rw (← q))
  event_says (suc (suc zero)) i t h e = let q : int ≡ t = cc in (cc, rw (← q))
  event_says (suc (suc (suc zero))) i t h e = let q : event ≡ t = cc in (cc, rw (← q))
  event_says (suc (suc (suc (suc zero)))) i t h e = let q : id ≡ t = cc in (cc, rw (← q))
  event_says (suc (suc (suc (suc (suc n))))) i t h e = absurd (omega arith)

  -- a kind: its number
  pub machine_says : (i : ℕ) → line_at s places 5 ≡ machine_line i → number_at s places 0 ≡ i
  unfolding line_at
  machine_says i e = cc

  -- the action that a line says
  abbrev action_at : Action
  action_at = record { of = number_at s places 1; body = number_at s places 2 }

  -- an action: its number, its kind, its statement
  pub action_says : (i : ℕ) (a : Action) → line_at s places 36 ≡ action_line i a
      → (number_at s places 0 ≡ i) × ((number_at s places 1 ≡ a.of) × (number_at s places 2 ≡ a.body))
  unfolding line_at
  action_says i a e = let q : action_at ≡ a = cc in (cc, (ap (λ (x : Action). x.of) q, ap (λ (x : Action). x.body) q))

  -- the move that a line says
  abbrev pub move_at : Move
  move_at = record { from = number_at s places 0; on = number_at s places 1; to = number_at s places 2 }

  -- a step,
  pub step_says : line_at s places 38 ≡ step_line move_at
  unfolding line_at
  step_says = refl

  -- a call,
  pub call_says : line_at s places 39 ≡ call_line move_at
  unfolding line_at
  call_says = refl

  -- an act
  pub act_says : line_at s places 40 ≡ act_line move_at
  unfolding line_at
  act_says = refl

  -- the start: its kind
  pub start_says : (k : ℕ) → line_at s places 41 ≡ start_line k → number_at s places 0 ≡ k
  unfolding line_at
  start_says k e = cc

  -- the choice that a line says, with its bits
  abbrev choice_at : ℕ → Choice
  choice_at b = record { machine = number_at s places 0; bits = b }

  -- a choice: its machine, in either form
  pub choice_says : (row : ℕ) (c : Choice) → (42 ≤ row) × (row ≤ 43) → line_at s places row ≡ choice_line c → number_at s places 0 ≡ c.machine
  unfolding line_at
  choice_says row c h e = dite (ℕ_discrete row 42) (λ q. bits (rw q at e)) (λ q. bare (rw (let r : row ≡ 43 = omega (arith, h.0, h.1) in r) at e))
    where
      bits : line_at s places 42 ≡ choice_line c → number_at s places 0 ≡ c.machine
      bits d = let q : choice_at (number_at s places 1) ≡ c = cc in ap (λ (x : Choice). x.machine) q

      bare : line_at s places 43 ≡ choice_line c → number_at s places 0 ≡ c.machine
      bare d = let q : choice_at 0 ≡ c = cc in ap (λ (x : Choice). x.machine) q

  -- its bits
  pub with_bits : (row : ℕ) (c : Choice) → row ≡ 42 → line_at s places row ≡ choice_line c → number_at s places 1 ≡ c.bits
  unfolding line_at
  with_bits row c h e = let d = rw h at e in let q : choice_at (number_at s places 1) ≡ c = cc in ap (λ (x : Choice). x.bits) q

  -- those of a line without them
  pub without_bits : (row : ℕ) (c : Choice) → (42 ≤ row) × (row ≤ 43) → (row ≡ 42 → ⊥) → line_at s places row ≡ choice_line c → 0 ≡ c.bits
  unfolding line_at
  without_bits row c h n e =
      let r : row ≡ 43 = omega (arith, h.0, h.1) in
      let d = rw r at e in
      let q : choice_at 0 ≡ c = cc in
      ap (λ (x : Choice). x.bits) q

-- a row of three
pub three : {a b c x y z : ℕ} → a ≡ x → b ≡ y → c ≡ z → a ∷ b ∷ c ∷ [] ≡ x ∷ y ∷ z ∷ []
three p q r = cc

-- A VARIABLE: its number, its kind, its type
pub record Says (s places : List ℕ) (row i : ℕ) (v : Variable) : Type 0 where
  pub number : number_at s places 0 ≡ i
  pub of : number_at s places 1 ≡ v.of
  pub type : ty_code v.type ≡ row - 5

-- the types are in the order of the forms
pub variable_says : (s places : List ℕ) (row i : ℕ) (v : Variable) → (6 ≤ row) × (row ≤ 9) → line_at s places row ≡ var_line i v → Says s places row i v
unfolding line_at
variable_says s places row i v h e =
    dite (ℕ_discrete row 6) (λ (q : row ≡ 6). says bool (rw q) (rw q))
    (λ a. dite (ℕ_discrete row 7) (λ (q : row ≡ 7). says int (rw q) (rw q))
    (λ b. dite (ℕ_discrete row 8) (λ (q : row ≡ 8). says event (rw q) (rw q))
    (λ c. let q : row ≡ 9 = omega (arith, h.0, h.1) in says id (rw q) (rw q))))
  where
    says : (t : Ty) → line_at s places row ≡ var_line (number_at s places 0) (record { of = number_at s places 1; type = t }) → ty_code t ≡ row - 5 → Says s places row i v
    says t d c =
        let q : var_line (number_at s places 0) (record { of = number_at s places 1; type = t }) ≡ var_line i v = sym d ∙ e in
        let x : record { of = number_at s places 1; type = t } ≡ v = cc in
        record { number = cc; of = ap (λ (w : Variable). w.of) x; type = ap (λ (w : Variable). ty_code w.type) (sym x) ∙ c }
