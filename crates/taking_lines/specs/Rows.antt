-- Which kind of line a form's number is: the rows of each kind lie one behind the other.
use Rattle.std.specs.Prelude.{ℕ, ◌+◌, ◌-◌, ◌≤◌, ◌<◌, ◌≡◌, refl, Bool, true, List, length, take, drop, leb}
use Rattle.std.proofs.Math.Path.{subst, ap}
use Rattle.std.proofs.Common.{◌∙◌, get_or-take}
use native.Mathlib.Omega.{arith}
use Rattle.std.proofs.Math.ListN.{get_or}
use Rattle.std.proofs.Math.Seq.{get_or-drop}
use Rattle.lists.specs.Lists.{All, all}
use Rattle.lists.specs.Tells.{every, at_most_lem}
use Rattle.texts.specs.Reading.{kind}
use Rattle.lists.specs.Facts.{All-at}
use Rattle.values.specs.declared.Ty.{Ty}
use Rattle.programs.specs.declared.Expr.{Expr}
use Rattle.programs.specs.Program.{Variable, Stmt, Action, State, Move}
use Rattle.machines.specs.Config.{Choice}
use Rattle.texts.specs.Forms.{Said, event_line, machine_line, var_line, expr_line, stmt_line, action_line, state_line, step_line, call_line, act_line, start_line, choice_line}
use Rattle.spoken.specs.Spoken.{sayings, line_at}

-- EACH KIND OF LINE
abbrev pub IsEvent : Said → Type 0
IsEvent x = (i : ℕ) × (t : Ty) × (x ≡ event_line i t)

abbrev pub IsMachine : Said → Type 0
IsMachine x = (i : ℕ) × (x ≡ machine_line i)

abbrev pub IsVariable : Said → Type 0
IsVariable x = (i : ℕ) × (v : Variable) × (x ≡ var_line i v)

abbrev pub IsExpr : Said → Type 0
IsExpr x = (i : ℕ) × (b : Bool) × (e : Expr) × (x ≡ expr_line i b e)

abbrev pub IsStmt : Said → Type 0
IsStmt x = (i : ℕ) × (s : Stmt) × (x ≡ stmt_line i s)

abbrev pub IsAction : Said → Type 0
IsAction x = (i : ℕ) × (c : Action) × (x ≡ action_line i c)

abbrev pub IsState : Said → Type 0
IsState x = (i : ℕ) × (n : State) × (x ≡ state_line i n)

abbrev pub IsStep : Said → Type 0
IsStep x = (m : Move) × (x ≡ step_line m)

abbrev pub IsCall : Said → Type 0
IsCall x = (m : Move) × (x ≡ call_line m)

abbrev pub IsAct : Said → Type 0
IsAct x = (m : Move) × (x ≡ act_line m)

abbrev pub IsStart : Said → Type 0
IsStart x = (k : ℕ) × (x ≡ start_line k)

abbrev pub IsChoice : Said → Type 0
IsChoice x = (c : Choice) × (x ≡ choice_line c)

module _ (s places : List ℕ) (row : ℕ) where
  -- of the n rows from b on
  among : (P : Said → Type 0) (b n : ℕ) → b ≤ row → row < b + n → length (take n (drop b (sayings s places))) ≡ n → All P (take n (drop b (sayings s places))) → P (line_at s places row)
  unfolding line_at
  among P b n low high size h =
      let e : b + (row - b) ≡ row = omega arith in
      let q : row - b < n = omega arith in
      subst P (get_or-take n (drop b (sayings s places)) (row - b) (start_line 0) q ∙ get_or-drop b (sayings s places) (row - b) (start_line 0) ∙ ap (λ (j : ℕ). get_or (sayings s places) j (start_line 0)) e)
      (All-at P (start_line 0) (take n (drop b (sayings s places))) (row - b) (omega arith) h)

  -- THE ROWS
  pub event_row : row < 5 → IsEvent (line_at s places row)
  event_row h = among IsEvent 0 5 (omega arith) h refl ((_, _, refl), ((_, _, refl), ((_, _, refl), ((_, _, refl), ((_, _, refl), tt)))))

  pub machine_row : 5 ≤ row → row < 6 → IsMachine (line_at s places row)
  machine_row l h = among IsMachine 5 1 l h refl ((_, refl), tt)

  pub variable_row : 6 ≤ row → row < 10 → IsVariable (line_at s places row)
  variable_row l h = among IsVariable 6 4 l h refl ((_, _, refl), ((_, _, refl), ((_, _, refl), ((_, _, refl), tt))))

  pub expr_row : 10 ≤ row → row < 24 → IsExpr (line_at s places row)
  expr_row l h = among IsExpr 10 14 l h refl
      ((_, _, _, refl), ((_, _, _, refl), ((_, _, _, refl), ((_, _, _, refl), ((_, _, _, refl), ((_, _, _, refl), ((_, _, _, refl), ((_, _, _, refl), ((_, _, _, refl), ((_, _, _, refl), ((_, _, _, refl), ((_, _, _, refl), ((_, _, _, refl), ((_, _, _, refl), tt))))))))))))))

  pub stmt_row : 24 ≤ row → row < 36 → IsStmt (line_at s places row)
  stmt_row l h = among IsStmt 24 12 l h refl
      ((_, _, refl), ((_, _, refl), ((_, _, refl), ((_, _, refl), ((_, _, refl), ((_, _, refl), ((_, _, refl), ((_, _, refl), ((_, _, refl), ((_, _, refl), ((_, _, refl), ((_, _, refl), tt))))))))))))

  pub action_row : 36 ≤ row → row < 37 → IsAction (line_at s places row)
  action_row l h = among IsAction 36 1 l h refl ((_, _, refl), tt)

  pub state_row : 37 ≤ row → row < 38 → IsState (line_at s places row)
  state_row l h = among IsState 37 1 l h refl ((_, _, refl), tt)

  pub step_row : 38 ≤ row → row < 39 → IsStep (line_at s places row)
  step_row l h = among IsStep 38 1 l h refl ((_, refl), tt)

  pub call_row : 39 ≤ row → row < 40 → IsCall (line_at s places row)
  call_row l h = among IsCall 39 1 l h refl ((_, refl), tt)

  pub act_row : 40 ≤ row → row < 41 → IsAct (line_at s places row)
  act_row l h = among IsAct 40 1 l h refl ((_, refl), tt)

  pub start_row : 41 ≤ row → row < 42 → IsStart (line_at s places row)
  start_row l h = among IsStart 41 1 l h refl ((_, refl), tt)

  pub choice_row : 42 ≤ row → row < 44 → IsChoice (line_at s places row)
  choice_row l h = among IsChoice 42 2 l h refl ((_, refl), ((_, refl), tt))

  -- THE KINDS OF THE ROWS
  -- of the first n
  kind_upto : (n k : ℕ) → length (take n (sayings s places)) ≡ n → all (λ x. leb (kind x) k) (take n (sayings s places)) ≡ true → row < n → kind (line_at s places row) ≤ k
  kind_upto n k size e h = among (λ x. kind x ≤ k) 0 n (omega arith) (omega arith) size ((every (take n (sayings s places)) (λ x. at_most_lem (kind x) k)).holds e)

  -- and of those from the statements on
  pub kind_back : 24 ≤ row → row < 44 → 5 ≤ kind (line_at s places row)
  kind_back l h = among (λ x. 5 ≤ kind x) 24 20 l h refl ((every (take 20 (drop 24 (sayings s places))) (λ x. at_most_lem 5 (kind x))).holds refl)

  pub kind_front : row < 24 → kind (line_at s places row) ≤ 4
  kind_front h = kind_upto 24 4 refl refl h

  pub kind_machine : row ≤ 5 → kind (line_at s places row) ≤ 2
  kind_machine h = kind_upto 6 2 refl refl (omega arith)

  pub kind_step : row ≤ 38 → kind (line_at s places row) ≤ 8
  kind_step h = kind_upto 39 8 refl refl (omega arith)

  pub kind_call : row ≤ 39 → kind (line_at s places row) ≤ 9
  kind_call h = kind_upto 40 9 refl refl (omega arith)

  pub kind_start : row ≤ 41 → kind (line_at s places row) ≤ 11
  kind_start h = kind_upto 42 11 refl refl (omega arith)
