-- What the order of the lines and the length of the text make sure of while reading: nothing of a later kind is there yet, and the moves and the pairs so far
-- have taken their bytes.
use Rattle.std.specs.Prelude.{ℕ, ◌+◌, ◌*◌, ◌≤◌, ◌<◌, ◌≡◌, refl, true, length}
use Rattle.std.proofs.Common.{ap, ◌∙◌, arith, leb-true, length-append}
use mathlib.Core.List.{List, [], ◌∷◌, ◌++◌, reverse, reverse-cons}
use Rattle.std.proofs.lemmas.List.{length-reverse}
use Rattle.lists.specs.Lists.{flat}
use Rattle.lists.specs.Keep.{flat_snoc}
use Rattle.programs.specs.Program.{Stmt, Move}
use Rattle.soundness.specs.Asked.{init_of}
use Rattle.texts.specs.Forms.{Said, event_line, machine_line, var_line, expr_line, stmt_line, action_line, state_line, step_line, call_line, act_line, start_line, choice_line}
use Rattle.texts.specs.Reading.{Tables, tables, nothing, put, kind, ordered, starts_of}
use Rattle.lengths.specs.Counted.{moves_in, pairs_in}
use Rattle.gathering.specs.Gathered.{variable_lines, stmt_lines, call_lines, act_lines, move_lines}

-- NOTHING OF A LATER KIND than the last line's is there yet
pub record Later (last : ℕ) (a : Tables) : Type 0 where
  pub vars : last < 3 → variable_lines a ≡ []
  pub calls : last < 9 → call_lines a ≡ []
  pub acts : last < 10 → act_lines a ≡ []
  pub starts : last < 11 → starts_of a ≡ []

-- before the first line
pub later_none : Later 0 nothing
later_none = record { vars = λ h. refl; calls = λ h. refl; acts = λ h. refl; starts = λ h. refl }

-- one line more, in order
pub later_more : (last : ℕ) (a : Tables) (x : Said) → ordered last x ≡ true → Later last a → Later (kind x) (put x a)
later_more last (tables es ms vs xs ss acs ns ts cs ds ks hs) (event_line i t) o l = record { vars = λ h. l.vars (omega (arith, leb-true last 1 o)); calls = λ h. l.calls (omega (arith, leb-true last 1 o)); acts = λ h. l.acts (omega (arith, leb-true last 1 o)); starts = λ h. l.starts (omega (arith, leb-true last 1 o)) }
later_more last (tables es ms vs xs ss acs ns ts cs ds ks hs) (machine_line i) o l = record { vars = λ h. l.vars (omega (arith, leb-true last 2 o)); calls = λ h. l.calls (omega (arith, leb-true last 2 o)); acts = λ h. l.acts (omega (arith, leb-true last 2 o)); starts = λ h. l.starts (omega (arith, leb-true last 2 o)) }
later_more last (tables es ms vs xs ss acs ns ts cs ds ks hs) (var_line i v) o l = record { vars = λ h. absurd (omega arith); calls = λ h. l.calls (omega (arith, leb-true last 3 o)); acts = λ h. l.acts (omega (arith, leb-true last 3 o)); starts = λ h. l.starts (omega (arith, leb-true last 3 o)) }
later_more last (tables es ms vs xs ss acs ns ts cs ds ks hs) (expr_line i b e) o l = record { vars = λ h. absurd (omega arith); calls = λ h. l.calls (omega (arith, leb-true last 4 o)); acts = λ h. l.acts (omega (arith, leb-true last 4 o)); starts = λ h. l.starts (omega (arith, leb-true last 4 o)) }
later_more last (tables es ms vs xs ss acs ns ts cs ds ks hs) (stmt_line i s) o l = record { vars = λ h. absurd (omega arith); calls = λ h. l.calls (omega (arith, leb-true last 5 o)); acts = λ h. l.acts (omega (arith, leb-true last 5 o)); starts = λ h. l.starts (omega (arith, leb-true last 5 o)) }
later_more last (tables es ms vs xs ss acs ns ts cs ds ks hs) (action_line i c) o l = record { vars = λ h. absurd (omega arith); calls = λ h. l.calls (omega (arith, leb-true last 6 o)); acts = λ h. l.acts (omega (arith, leb-true last 6 o)); starts = λ h. l.starts (omega (arith, leb-true last 6 o)) }
later_more last (tables es ms vs xs ss acs ns ts cs ds ks hs) (state_line i n) o l = record { vars = λ h. absurd (omega arith); calls = λ h. l.calls (omega (arith, leb-true last 7 o)); acts = λ h. l.acts (omega (arith, leb-true last 7 o)); starts = λ h. l.starts (omega (arith, leb-true last 7 o)) }
later_more last (tables es ms vs xs ss acs ns ts cs ds ks hs) (step_line m) o l = record { vars = λ h. absurd (omega arith); calls = λ h. l.calls (omega (arith, leb-true last 8 o)); acts = λ h. l.acts (omega (arith, leb-true last 8 o)); starts = λ h. l.starts (omega (arith, leb-true last 8 o)) }
later_more last (tables es ms vs xs ss acs ns ts cs ds ks hs) (call_line m) o l = record { vars = λ h. absurd (omega arith); calls = λ h. absurd (omega arith); acts = λ h. l.acts (omega (arith, leb-true last 9 o)); starts = λ h. l.starts (omega (arith, leb-true last 9 o)) }
later_more last (tables es ms vs xs ss acs ns ts cs ds ks hs) (act_line m) o l = record { vars = λ h. absurd (omega arith); calls = λ h. absurd (omega arith); acts = λ h. absurd (omega arith); starts = λ h. l.starts (omega (arith, leb-true last 10 o)) }
later_more last (tables es ms vs xs ss acs ns ts cs ds ks hs) (start_line k) o l = record { vars = λ h. absurd (omega arith); calls = λ h. absurd (omega arith); acts = λ h. absurd (omega arith); starts = λ h. absurd (omega arith) }
later_more last (tables es ms vs xs ss acs ns ts cs ds ks hs) (choice_line c) o l = record { vars = λ h. absurd (omega arith); calls = λ h. absurd (omega arith); acts = λ h. absurd (omega arith); starts = λ h. absurd (omega arith) }

-- THE BYTES OF THE LINES
-- THE TEXT'S FIRST n BYTES are enough for the moves, pairs and variables so far: a move takes 16 of them, a pair 4, any line 1
pub record Weighs (a : Tables) (n : ℕ) : Type 0 where
  pub moves : 16 * length (move_lines a) ≤ n
  pub pairs : 4 * length (flat init_of (stmt_lines a)) ≤ n
  pub vars : length (variable_lines a) ≤ n

-- before the first line
pub weighs_none : Weighs nothing 0
weighs_none = record { moves = omega arith; pairs = omega arith; vars = omega arith }

-- how many moves there are
moves_length : (ts cs ds : List Move) → length (ts ++ (cs ++ ds)) ≡ length ts + (length cs + length ds)
moves_length ts cs ds = length-append ts (cs ++ ds) ∙ ap (λ (n : ℕ). length ts + n) (length-append cs ds)

-- one line more, of m bytes
pub weighs_more : (a : Tables) (x : Said) (n m : ℕ) → Weighs a n → 1 ≤ m → 16 * moves_in x ≤ m → 4 * pairs_in x ≤ m → Weighs (put x a) (n + m)
weighs_more (tables es ms vs xs ss acs ns ts cs ds ks hs) (event_line i t) n m w l h p = record { moves = omega (arith, w.moves); pairs = omega (arith, w.pairs); vars = omega (arith, w.vars) }
weighs_more (tables es ms vs xs ss acs ns ts cs ds ks hs) (machine_line i) n m w l h p = record { moves = omega (arith, w.moves); pairs = omega (arith, w.pairs); vars = omega (arith, w.vars) }
weighs_more (tables es ms vs xs ss acs ns ts cs ds ks hs) (var_line i v) n m w l h p = record { moves = omega (arith, w.moves); pairs = omega (arith, w.pairs); vars = omega (arith, w.vars, length-reverse (v ∷ vs), length-reverse vs) }
weighs_more (tables es ms vs xs ss acs ns ts cs ds ks hs) (expr_line i b e) n m w l h p = record { moves = omega (arith, w.moves); pairs = omega (arith, w.pairs); vars = omega (arith, w.vars) }
weighs_more (tables es ms vs xs ss acs ns ts cs ds ks hs) (stmt_line i s) n m w l h p = record {
  moves = omega (arith, w.moves);
  pairs = omega (arith, w.pairs, ap (λ (l : List Stmt). length (flat init_of l)) (reverse-cons s ss), ap length (flat_snoc init_of (reverse ss) s), length-append (flat init_of (reverse ss)) (init_of s));
  vars = omega (arith, w.vars);
}
weighs_more (tables es ms vs xs ss acs ns ts cs ds ks hs) (action_line i c) n m w l h p = record { moves = omega (arith, w.moves); pairs = omega (arith, w.pairs); vars = omega (arith, w.vars) }
weighs_more (tables es ms vs xs ss acs ns ts cs ds ks hs) (state_line i n') n m w l h p = record { moves = omega (arith, w.moves); pairs = omega (arith, w.pairs); vars = omega (arith, w.vars) }
weighs_more (tables es ms vs xs ss acs ns ts cs ds ks hs) (step_line m') n m w l h p = record {
  moves = omega (arith, w.moves, moves_length (reverse ts) (reverse cs) (reverse ds), moves_length (reverse (m' ∷ ts)) (reverse cs) (reverse ds), length-reverse (m' ∷ ts), length-reverse ts);
  pairs = omega (arith, w.pairs);
  vars = omega (arith, w.vars);
}
weighs_more (tables es ms vs xs ss acs ns ts cs ds ks hs) (call_line m') n m w l h p = record {
  moves = omega (arith, w.moves, moves_length (reverse ts) (reverse cs) (reverse ds), moves_length (reverse ts) (reverse (m' ∷ cs)) (reverse ds), length-reverse (m' ∷ cs), length-reverse cs);
  pairs = omega (arith, w.pairs);
  vars = omega (arith, w.vars);
}
weighs_more (tables es ms vs xs ss acs ns ts cs ds ks hs) (act_line m') n m w l h p = record {
  moves = omega (arith, w.moves, moves_length (reverse ts) (reverse cs) (reverse ds), moves_length (reverse ts) (reverse cs) (reverse (m' ∷ ds)), length-reverse (m' ∷ ds), length-reverse ds);
  pairs = omega (arith, w.pairs);
  vars = omega (arith, w.vars);
}
weighs_more (tables es ms vs xs ss acs ns ts cs ds ks hs) (start_line k) n m w l h p = record { moves = omega (arith, w.moves); pairs = omega (arith, w.pairs); vars = omega (arith, w.vars) }
weighs_more (tables es ms vs xs ss acs ns ts cs ds ks hs) (choice_line c) n m w l h p = record { moves = omega (arith, w.moves); pairs = omega (arith, w.pairs); vars = omega (arith, w.vars) }
