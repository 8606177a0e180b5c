-- A variable of a kind that is not there is not counted among any kind's, so a text may have more lines of variables than their table has rows. The first
-- such line is where pass 4 finds its fault; and where there is none, the variables have room.
use Rattle.std.specs.Prelude.{ℕ, zero, suc, ◌+◌, ◌-◌, ◌*◌, ◌≤◌, ◌<◌, ◌≡◌, refl, Bool, true, false, List, [], ◌∷◌, eqb, length}
use Rattle.std.proofs.Common.{ap, sym, ◌∙◌, true≢false, arith, ne_eqb}
use Rattle.std.proofs.Math.Logic.{dite}
use Rattle.std.proofs.Math.Decide.{ℕ_discrete}
use Rattle.lists.specs.Lists.{All, There, there, keep, push}
use Rattle.lists.specs.Tells.{denied, equal, there_is}
use Rattle.lists.specs.Check.{within}
use Rattle.answers.specs.declared.Answer.TheVariants.{NotThere}
use Rattle.programs.specs.Sizes.{KINDS, VARIABLES}
use Rattle.programs.specs.Program.{Program, Variable, is_of, variable_at, variables_of}
use Rattle.machines.specs.Config.{Choice}
use Rattle.soundness.specs.Asked.{refers}
use Rattle.soundness.specs.Sound.{lines, first_fault}
use Rattle.texts.specs.Reading.{refused}
use Rattle.texts.specs.Answered.{passes, judged}
use Rattle.tables.specs.Decode.{no_variable}
use Rattle.faults.specs.Each.{fails}
use Rattle.faults.specs.Faults.{onward, onward_some, joined_some, row_first, row_fault, tables_fault, lines_fault}

-- THE FIRST VARIABLE OF NO KIND: pass 4 finds it.
module _ (p : Program) (i : ℕ) (here : There (length p.variables) i) (lower : (j : ℕ) → 1 ≤ j → j < i → There p.machines (variable_at p j).of)
    (absent : There p.machines (variable_at p i).of → ⊥) where
  -- in its table
  first_row : row_fault (refers p).variable p.variables ≡ i
  first_row =
      let e : i - 1 + 1 ≡ i = omega (arith, here.0) in
      row_first (refers p).variable no_variable p.variables (i - 1) (omega (arith, here.0, here.1))
      (λ j b. (there_is p.machines (variable_at p j).of).test (lower j b.0 (omega (arith, b.0, b.1, here.0))))
      (rw e (fails (within p.machines (variable_at p i).of) absent)) ∙ e

  -- in all tables
  first_table : tables_fault p (refers p) ≡ i
  unfolding tables_fault
  first_table = rw first_row (joined_some i _ _ here.0)

  -- in the text
  pub absent_first : first_fault 1 (lines p (refers p)) ≡ length p.events + p.machines + i
  absent_first = lines_fault p (refers p) ∙ ap (onward (length p.events + p.machines)) first_table ∙ onward_some (length p.events + p.machines) i here.0

  -- so the program is refused with it
  pub absent_judged : (c : List Choice) → judged p c (passes p) ≡ refused NotThere (length p.events + p.machines + i)
  absent_judged c = rw (absent_first, ne_eqb (length p.events + p.machines + i) 0 (λ z. omega (arith, here.0)))

-- NO MORE THAN 256
-- what is pushed takes nothing away
grows : (b : Bool) (v : Variable) (l : List Variable) → length l ≤ length (push b v l)
grows true v l = omega arith
grows false v l = omega arith

-- the variables of the kinds 1 to n
abbrev of_first : ℕ → List Variable → List Variable
of_first n l = keep (λ v. there n v.of) l

-- of no kinds there are none,
of_none : (l : List Variable) → length (of_first 0 l) ≡ 0
of_none [] = refl
of_none (v ∷ l) = rw (fails (within 0 v.of) (λ k. omega (arith, k.0, k.1))) (of_none l)

-- with one kind more there are this kind's more,
of_more : (n : ℕ) (l : List Variable) → length (of_first (suc n) l) ≤ length (of_first n l) + length (keep (is_of (suc n)) l)
of_more n [] = omega arith
of_more n (v ∷ l) = go (there (suc n) v.of) (there n v.of) (eqb v.of (suc n)) one (of_more n l)
  where
    -- a variable of one of n + 1 kinds is of one of n, or of the last
    one : there (suc n) v.of ≡ true → there n v.of ≡ false → eqb v.of (suc n) ≡ true
    one s t =
        let a = (there_is (suc n) v.of).holds s in
        (equal v.of (suc n)).test (dite (ℕ_discrete v.of (suc n)) (λ q. q) (λ q. absurd (denied (there_is n v.of) t (a.0, omega (arith, a.1)))))

    go : (a b c : Bool) → (a ≡ true → b ≡ false → c ≡ true) → length (of_first (suc n) l) ≤ length (of_first n l) + length (keep (is_of (suc n)) l)
        → length (push a v (of_first (suc n) l)) ≤ length (push b v (of_first n l)) + length (push c v (keep (is_of (suc n)) l))
    go true true c h i = omega (arith, grows c v (keep (is_of (suc n)) l))
    go true false true h i = omega arith
    go true false false h i = absurd (true≢false (sym (h refl refl)))
    go false b c h i = omega (arith, grows b v (of_first n l), grows c v (keep (is_of (suc n)) l))

-- so there are no more than so many times the kinds.
of_few : (l : List Variable) (n : ℕ) → ((k : ℕ) → There n k → length (keep (is_of k) l) ≤ VARIABLES) → length (of_first n l) ≤ n * VARIABLES
of_few l zero h = omega (arith, of_none l)
of_few l (suc n) h = omega (arith, of_more n l, h (suc n) (omega arith, omega arith), of_few l n (λ k b. h k (b.0, omega (arith, b.1))))

-- Where every kind is there, they are all.
of_all : (n : ℕ) (l : List Variable) → All (λ v. There n v.of) l → of_first n l ≡ l
of_all n [] h = refl
of_all n (v ∷ l) h = rw ((there_is n v.of).test h.0, of_all n l h.1)

-- THE law: where every variable's kind is there and no kind has too many, the variables have room.
pub few_variables : (p : Program) → p.machines ≤ KINDS → ((k : ℕ) → There p.machines k → length (variables_of p k) ≤ VARIABLES)
    → All (λ v. There p.machines v.of) p.variables → length p.variables ≤ KINDS * VARIABLES
few_variables p m few h = omega (arith, of_few p.variables p.machines few, ap length (of_all p.machines p.variables h))
