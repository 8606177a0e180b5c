-- The first line that does not meet pass 4 is the same of a program and of the program stood. A move is judged by the kinds of its states, which may have
-- been cut to one: but then a state's line, which comes before, is at fault.
use Rattle.std.specs.Prelude.{ℕ, zero, suc, ◌+◌, ◌≡◌, refl, ◌&&◌, List, [], ◌∷◌, map, eqb, length}
use Rattle.std.proofs.Math.Path.{ap}
use Rattle.std.proofs.Common.{sym, ◌∙◌, arith}
use Rattle.std.proofs.Math.Bool.{cond}
use Rattle.std.proofs.lemmas.List.{length-map}
use Rattle.lists.specs.Lists.{there}
use Rattle.lists.specs.Check.{Check}
use Rattle.programs.specs.Program.{Program, Action, State, Move, state_at, action_at}
use Rattle.soundness.specs.Asked.{move_refers, act_refers, refers}
use Rattle.soundness.specs.Sound.{numbered, lines, first_fault}
use Rattle.soundness.specs.Lines.{fault_is}
use Rattle.tables.specs.Decode.{no_action, no_state}
use Rattle.faults.specs.Faults.{onward, joined, joined_some, row_fault, moves_fault, states_fault, tables_fault, lines_fault}
use Rattle.tabled.specs.Tabled.{byte_of}
use Rattle.standing.specs.Stood.{variable_stood, expr_stood, stmt_stood, action_stood, state_stood, move_stood, stood, Fitting}
use Rattle.standing.specs.Alike.{cut_there, cut_at, kind_alike, event_alike, exprs_alike, stmts_alike, actions_alike, states_alike}
use Rattle.standing.specs.Uncut.{actions_uncut, states_uncut}

-- ROWS
-- Two tables whose rows are judged alike have their first fault in one row.
rows_alike : {A B : Type 0} (f : ℕ → A → Check) (g : ℕ → B → Check) (s : A → B) (l : List A) → ((n : ℕ) (x : A) → (g n (s x)).test ≡ (f n x).test)
    → row_fault f l ≡ row_fault g (map s l)
rows_alike {A} f g s l h = go 1 1 l
  where
    go : (k n : ℕ) (l : List A) → first_fault k (numbered f n l) ≡ first_fault k (numbered g n (map s l))
    go k n [] = refl
    go k n (x ∷ l) = rw (h n x, go (suc k) (suc n) l)

-- Of two faults the one behind counts only where there is none in front.
joined_alike : (a b m n c d : ℕ) → a ≡ b → m ≡ n → (a ≡ 0 → c ≡ d) → joined a m c ≡ joined b n d
joined_alike zero b m n c d e f k = rw (← e, ← f, k refl)
joined_alike (suc a) b m n c d e f k = rw (← e, joined_some (suc a) m c (omega arith), joined_some (suc a) n d (omega arith))

module _ (p : Program) (h : Fitting p) where
  -- MOVES, where no action and no state is cut
  module _ (acs : map action_stood p.actions ≡ p.actions) (ns : map state_stood p.states ≡ p.states) where
    -- a state
    state_alike : (n : ℕ) → there (length (stood p).states) (byte_of n) ≡ there (length p.states) n
    state_alike n = rw ns (cut_there (length p.states) 255 n (omega (arith, h.states)))

    -- its kind
    kind_of : (n : ℕ) → (state_at (stood p) (byte_of n)).of ≡ (state_at p n).of
    kind_of n = rw ns (ap (λ (q : State). q.of) (cut_at no_state p.states 255 n (omega (arith, h.states))))

    -- a transition
    moves_alike : (m : Move) → (move_refers (stood p) (move_stood m)).test ≡ (move_refers p m).test
    moves_alike m = λ i. state_alike m.from i && (event_alike p h m.on i && (state_alike m.to i && eqb (kind_of m.to i) (kind_of m.from i)))

    -- an act
    acts_alike : (m : Move) → (act_refers (stood p) (move_stood m)).test ≡ (act_refers p m).test
    acts_alike m =
        let here : there (length (stood p).actions) (byte_of m.to) ≡ there (length p.actions) m.to =
        rw acs (cut_there (length p.actions) 255 m.to (omega (arith, h.actions))) in
        let kind : (action_at (stood p) (byte_of m.to)).of ≡ (action_at p m.to).of =
        rw acs (ap (λ (a : Action). a.of) (cut_at no_action p.actions 255 m.to (omega (arith, h.actions)))) in
        λ i. state_alike m.from i && (event_alike p h m.on i && (here i && eqb (kind i) (kind_of m.from i)))

    -- the moves and `start`
    moves_fault_lem : moves_fault p (refers p) ≡ moves_fault (stood p) (refers (stood p))
    unfolding moves_fault
    moves_fault_lem =
        joined_alike _ _ _ _ _ _ (rows_alike _ _ move_stood p.steps (λ n. moves_alike)) (sym (length-map p.steps move_stood)) (λ a.
        joined_alike _ _ _ _ _ _ (rows_alike _ _ move_stood p.calls (λ n. moves_alike)) (sym (length-map p.calls move_stood)) (λ b.
        joined_alike _ _ _ _ _ _ (rows_alike _ _ move_stood p.acts (λ n. acts_alike)) (sym (length-map p.acts move_stood)) (λ c.
        ap (λ b. cond b 0 1) (sym (kind_alike p h p.start)))))

  -- the actions, the states and what is behind them
  states_fault_lem : states_fault p (refers p) ≡ states_fault (stood p) (refers (stood p))
  unfolding states_fault
  states_fault_lem =
      joined_alike _ _ _ _ _ _ (rows_alike _ _ action_stood p.actions (actions_alike p h)) (sym (length-map p.actions action_stood)) (λ a.
      joined_alike _ _ _ _ _ _ (rows_alike _ _ state_stood p.states (states_alike p h)) (sym (length-map p.states state_stood)) (λ b.
      moves_fault_lem (actions_uncut p h ((fault_is 1 (numbered (refers p).action 1 p.actions) (omega arith)).0 a))
      (states_uncut p h ((fault_is 1 (numbered (refers p).state 1 p.states) (omega arith)).0 b))))

  -- all tables
  tables_fault_lem : tables_fault p (refers p) ≡ tables_fault (stood p) (refers (stood p))
  unfolding tables_fault
  tables_fault_lem =
      joined_alike _ _ _ _ _ _ (rows_alike _ _ variable_stood p.variables (λ n v. kind_alike p h v.of)) (sym (length-map p.variables variable_stood)) (λ a.
      joined_alike _ _ _ _ _ _ (rows_alike _ _ expr_stood p.exprs (λ n. exprs_alike p h)) (sym (length-map p.exprs expr_stood)) (λ b.
      joined_alike _ _ _ _ _ _ (rows_alike _ _ stmt_stood p.stmts (λ n. stmts_alike p h)) (sym (length-map p.stmts stmt_stood)) (λ c. states_fault_lem)))

  -- THE law: both have one first fault.
  pub refers_alike : first_fault 1 (lines p (refers p)) ≡ first_fault 1 (lines (stood p) (refers (stood p)))
  refers_alike = lines_fault p (refers p) ∙ ap (onward (length p.events + p.machines)) tables_fault_lem ∙ sym (lines_fault (stood p) (refers (stood p)))
