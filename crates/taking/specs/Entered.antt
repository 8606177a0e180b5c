-- One more variable, counted among those of its kind, and put into the tables or noted as the first whose kind is not there.
use Rattle.std.specs.Prelude.{ℕ, ◌+◌, ◌≤◌, ◌<◌, ◌≡◌, true, false, cond, eqb, length, get_or, set, List, [], ◌∷◌, ◌++◌, Option, None, Some}
use Rattle.std.proofs.Common.{sym, ◌∙◌, add-zero, arith, eq-eqb, ne_eqb, length-set, get_or-set_same, get_or-set_other}
use Rattle.std.proofs.Math.Logic.{dite}
use Rattle.std.proofs.Math.Decide.{ℕ_discrete}
use Rattle.lists.specs.Lists.{there}
use Rattle.programs.specs.Sizes.{TEXT, KINDS}
use Rattle.programs.specs.Program.{Variable}
use Rattle.tabled.specs.Tabled.{word_of, ty_code}
use Rattle.putting.specs.Asked.{VariableTables, VariableRoom}

-- what is asked of the counts: a place for each kind that can be there, and 0, and no count is so large that it could not be raised
pub record Countable (rooms : List ℕ) : Type 0 where
  pub size : length rooms ≡ KINDS + 1
  pub low : (j : ℕ) → j ≤ KINDS → get_or rooms j 0 < TEXT

-- the counts with one more of kind k
pub record Counted (k : ℕ) (rooms rooms' : List ℕ) : Type 0 where
  pub size : length rooms' ≡ KINDS + 1
  pub each : (j : ℕ) → j ≤ KINDS → get_or rooms' j 0 ≡ get_or rooms j 0 + cond (eqb k j) 1 0

module _ {rooms : List ℕ} (h : Countable rooms) (k : ℕ) where
  -- of a kind that can be there, whose count is raised
  pub count_raised : k ≤ KINDS → Counted k rooms (set rooms k (get_or rooms k 0 + 1))
  count_raised l = record {
    size = length-set rooms k (get_or rooms k 0 + 1) ∙ h.size;
    each = λ j b. dite (ℕ_discrete k j) (λ (q : k ≡ j). same j q) (λ q. get_or-set_other rooms k j (get_or rooms k 0 + 1) 0 (λ e. q (sym e)) ∙ rw (ne_eqb k j q) (sym (add-zero (get_or rooms j 0))));
  }
    where
      same : (j : ℕ) → k ≡ j → get_or (set rooms k (get_or rooms k 0 + 1)) j 0 ≡ get_or rooms j 0 + cond (eqb k j) 1 0
      same j q = rw (eq-eqb k j q, ← q) (get_or-set_same rooms k (get_or rooms k 0 + 1) 0 (omega (arith, h.size)))

  -- of another kind, for which there is no count
  pub count_left : KINDS < k → Counted k rooms rooms
  count_left l = record { size = h.size; each = λ j b. rw (ne_eqb k j (λ q. omega arith)) (sym (add-zero (get_or rooms j 0))) }

-- what is asked of the tables: where it is put, there is room for it
abbrev pub EnterAsked : ℕ → ℕ → List ℕ → List ℕ → Option ℕ → Type 0
EnterAsked ms k owners holds absent = absent ≡ None → there ms k ≡ true → VariableRoom owners holds

-- what comes of variable i, of kind k and the type at t
pub record Entered (ms k t i : ℕ) (owners holds : List ℕ) (absent : Option ℕ) (owners' holds' : List ℕ) (absent' : Option ℕ) : Type 0 where
  -- behind the first whose kind is not there
  pub behind : (j : ℕ) → absent ≡ Some j → (absent' ≡ absent) × ((owners' ≡ owners) × (holds' ≡ holds))
  -- as the first
  pub noted : absent ≡ None → there ms k ≡ false → (absent' ≡ Some i) × ((owners' ≡ owners) × (holds' ≡ holds))
  -- as one whose kind is there
  pub put : absent ≡ None → there ms k ≡ true
      → (absent' ≡ None) × ((h : VariableRoom owners holds) (v : Variable) → word_of v.of ≡ word_of k → ty_code v.type ≡ t → VariableTables (h.rows ++ v ∷ []) owners' holds')
