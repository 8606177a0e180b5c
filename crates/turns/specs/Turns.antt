-- The turn of a pending raise of event e in the frame (n, α): as the definitions have it, by the numbers of the tables, and the act that it is.
use Rattle.std.specs.Prelude.{ℕ, ◌+◌, ◌-◌, ◌≤◌, ◌≡◌, refl, Bool, true, false, cond, List, eqb, length, get_or}
use Rattle.std.proofs.Math.Option.{Option, none, some}
use Rattle.std.proofs.Common.{◌∙◌, arith, eq-eqb, ne_eqb}
use Rattle.lists.specs.Lists.{on_opt}
use Rattle.values.specs.declared.Value.{Value}
use Rattle.programs.specs.Program.{Program, Step, Call, ActionOf}
use Rattle.machines.specs.Config.{Reply, action, deferred, nothing, Frame, raising, Local}
use Rattle.machines.specs.Maps.{is_action, entry_at}
use Rattle.rules.specs.Act.{Act, stepping, calling, acting, popping, pends}
use Rattle.index.specs.declared.Line.{Line}
use Rattle.index.specs.Index.{said_at, or_zero, line_at, line_here}
use Rattle.configs.specs.Decode.{reply_of}
use Rattle.maps.specs.Maps.{Moves, Asked, map_at, entry_at_lem}
use Rattle.turns.specs.declared.Turn.{Turn}
use Rattle.turns.specs.declared.Turn.TheVariants.{Step as step_to, Call as call_to, Act as do_act, Pop as pop_it}

-- THE TURN
abbrev pub turn_of : Program → ℕ → List Reply → ℕ → Turn
turn_of p n α e = on_opt (Step p n e) (on_opt (Call p n e) (on_opt (ActionOf p n e) (on_opt (is_action (entry_at α e)) pop_it do_act) do_act) call_to) step_to

-- what machine i with the local part l, whose stack is (n, α) · γ, does at its turn
abbrev pub turn_act : Program → ℕ → Local → ℕ → ℕ → List Reply → List Frame → ℕ → Value → Turn → Act
turn_act p i l w n α γ e v (step_to t) = stepping p i l w α γ t
turn_act p i l w n α γ e v (call_to t) = calling p i l w n α γ t
turn_act p i l w n α γ e v (do_act a) = acting p i l w a
turn_act p i l w n α γ e v pop_it = popping p i l w γ e v

-- IT IS THE ACT OF THE RAISE
pub pends_turn : (p : Program) (i : ℕ) (l : Local) (w n : ℕ) (α : List Reply) (γ : List Frame) (e : ℕ) (v : Value)
    → pends p i l w n α γ (raising e v) ≡ turn_act p i l w n α γ e v (turn_of p n α e)
pends_turn p i l w n α γ e v = go (Step p n e) (Call p n e) (ActionOf p n e) (is_action (entry_at α e))
  where
    go : (s c a m : Option ℕ)
        → on_opt s (on_opt c (on_opt a (on_opt m (popping p i l w γ e v) (acting p i l w)) (acting p i l w)) (calling p i l w n α γ)) (stepping p i l w α γ)
        ≡ turn_act p i l w n α γ e v (on_opt s (on_opt c (on_opt a (on_opt m pop_it do_act) do_act) call_to) step_to)
    go (some t) c a m = refl
    go none (some t) a m = refl
    go none none (some x) m = refl
    go none none none (some x) = refl
    go none none none none = refl

-- BY THE NUMBERS
-- what may be there, where 0 stands for nothing
by_number : (o : Option ℕ) (x : ℕ) (d : Turn) (g : ℕ → Turn) → x ≡ or_zero o → ((t : ℕ) → o ≡ some t → 1 ≤ t) → on_opt o d g ≡ cond (eqb x 0) d (g x)
by_number none x d g q f = rw (eq-eqb x 0 q)
by_number (some t) x d g q f = rw (ne_eqb x 0 (λ z. omega (arith, f t refl)), q)

-- an entry of a map
by_entry : (x : ℕ) → on_opt (is_action (reply_of x)) pop_it do_act ≡ cond (eqb x 0) pop_it (cond (eqb x 255) pop_it (do_act x))
by_entry x = go (eqb x 0) (eqb x 255)
  where
    go : (a b : Bool) → on_opt (is_action (cond a nothing (cond b deferred (action x)))) pop_it do_act ≡ cond a pop_it (cond b pop_it (do_act x))
    go true b = refl
    go false true = refl
    go false false = refl

-- THE TURN, by the numbers
pub turn_is : (p : Program) (says maps : List ℕ) (l : Moves p says) (b n e : ℕ) (q : Asked b n e) → e ≤ length p.events
    → turn_of p n (map_at p b maps) e
    ≡ cond (eqb (get_or says (said_at n e) 0) 0)
    (cond (eqb (get_or says (said_at n e + 1) 0) 0)
    (cond (eqb (get_or says (said_at n e + 2) 0) 0)
    (cond (eqb (get_or maps (b + (e - 1)) 0) 0) pop_it (cond (eqb (get_or maps (b + (e - 1)) 0) 255) pop_it (do_act (get_or maps (b + (e - 1)) 0))))
    (do_act (get_or says (said_at n e + 2) 0)))
    (call_to (get_or says (said_at n e + 1) 0)))
    (step_to (get_or says (said_at n e) 0))
turn_is p says maps l b n e q h =
    rw (
      entry_at_lem p b maps e (q.from_1, h) q.event,
      by_entry (get_or maps (b + (e - 1)) 0),
      by_number (ActionOf p n e) (get_or says (said_at n e + 2) 0) _ do_act (l.told.act n e q.state q.event) (λ a z. (l.act_there n e a z).0),
      by_number (Call p n e) (get_or says (said_at n e + 1) 0) _ call_to (l.told.call n e q.state q.event) (l.call_from_1 n e),
      by_number (Step p n e) (get_or says (said_at n e) 0) _ step_to (l.told.step n e q.state q.event) (l.step_from_1 n e),
    )

-- the same by the line that is looked up
pub turn_line : (p : Program) (says maps : List ℕ) (l : Moves p says) (b n e : ℕ) (q : Asked b n e) → e ≤ length p.events → (line : Line) → line ≡ line_at says n e
    → turn_of p n (map_at p b maps) e
    ≡ cond (eqb line.step 0)
    (cond (eqb line.call 0)
    (cond (eqb line.act 0)
    (cond (eqb (get_or maps (b + (e - 1)) 0) 0) pop_it (cond (eqb (get_or maps (b + (e - 1)) 0) 255) pop_it (do_act (get_or maps (b + (e - 1)) 0))))
    (do_act line.act))
    (call_to line.call))
    (step_to line.step)
turn_line p says maps l b n e q h line is = rw (is ∙ line_here says n e q.state q.event) (turn_is p says maps l b n e q h)
