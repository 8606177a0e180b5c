-- The two loops that write a line a turn: what is left, and one turn of each.
use Rattle.std.specs.Prelude.{ℕ, ◌+◌, ◌≤◌, ◌<◌, ◌≡◌, refl, List, [], ◌∷◌, ◌++◌, length, get_or, take, drop}
use Rattle.std.proofs.Common.{ap, ◌∙◌, zero-add, add-one, arith, ◌⊎◌, ⊎_elim, inl, inr, drop_of_length-le, drop-cons}
use Rattle.std.specs.List.{enumerate_from, zip}
use Rattle.std.proofs.lemmas.List.{get_or_default}
use Rattle.std.proofs.lemmas.List.FromFn.{length-enumerate_from, get_or-enumerate_from}
use Rattle.std.proofs.lemmas.Slice.Zip.{length-zip, get_or-zip}
use Rattle.rows.specs.Pad.{below?}
use Rattle.choices.specs.Choices.{choice_of}
use Rattle.outputs.specs.Programs.{choice_line}
use Rattle.writing.specs.Wrote.{Room, Wrote, room_first}
use Rattle.output_lines.specs.OutputLines.{step_line}
use Rattle.telling.specs.Rows.{step_rows, choice_rows}
use Rattle.telling.specs.Telling.{Told, told_none, told_room, told_more, told_all, told_length}

-- THE STEP LINES of the first `steps` of the choices and of the rules: they are there, and there is room for their lines
pub record StepsAsked (choices rules : List ℕ) (steps at : ℕ) (old : List ℕ) : Type 0 where
  pub chosen : steps ≤ length choices
  pub ruled : steps ≤ length rules
  pub room : Room (step_rows 1 choices (take steps rules)) at old

-- THE CHOICE LINES of the first n of the choices: they are there, and there is room for their lines
pub record ChoicesAsked (list : List ℕ) (n at : ℕ) (old : List ℕ) : Type 0 where
  pub chosen : n ≤ length list
  pub room : Room (choice_rows (take n list)) at old

-- what is left from place k on: its line, and what is left from the next place on;
steps_left : (n : ℕ) (cs rs : List ℕ) (k : ℕ) → k < length cs → k < length rs → step_rows n (drop k cs) (drop k rs) ≡ step_line n (get_or cs k 0) (get_or rs k 0) ++ step_rows (n + 1) (drop (k + 1) cs) (drop (k + 1) rs)
steps_left n cs rs k h i = rw (drop-cons cs k 0 h, drop-cons rs k 0 i, add-one k, add-one n)

-- nothing where no rule is,
no_rules : (n : ℕ) (cs : List ℕ) → step_rows n cs [] ≡ []
no_rules n [] = refl
no_rules n (c ∷ cs) = refl

-- or no choice
steps_end : (n : ℕ) (cs rs : List ℕ) (k : ℕ) → (length cs ≤ k) ⊎ (length rs ≤ k) → step_rows n (drop k cs) (drop k rs) ≡ []
steps_end n cs rs k h = ⊎_elim
    (λ (i : length cs ≤ k). rw (drop_of_length-le cs {i = k} i))
    (λ (i : length rs ≤ k). rw (drop_of_length-le rs {i = k} i) (no_rules n (drop k cs)))
    h

-- THE PAIRS of choices and rules, counted: as many as the shorter list has,
pub pairs_end : (cs rs : List ℕ) (k : ℕ) → k ≡ length (enumerate_from 0 (zip cs rs)) → (length cs ≤ k) ⊎ (length rs ≤ k)
pairs_end cs rs k e = ⊎_elim
    (λ (l : length cs < length rs). inl (omega (arith, e, length-enumerate_from 0 (zip cs rs), length-zip cs rs)))
    (λ (l : length rs ≤ length cs). inr (omega (arith, e, length-enumerate_from 0 (zip cs rs), length-zip cs rs)))
    (below? (length cs) (length rs))

-- and each is a choice and a rule of one place
pub pair_at : (cs rs : List ℕ) (k i c r : ℕ) → i < length (enumerate_from 0 (zip cs rs)) → (k, (c, r)) ≡ get_or (enumerate_from 0 (zip cs rs)) i (k, (c, r))
    → (i < length cs) × (i < length rs) × (k ≡ i) × (c ≡ get_or cs i 0) × (r ≡ get_or rs i 0)
pair_at cs rs k i c r h e =
    let n : i < length (zip cs rs) = omega (arith, length-enumerate_from 0 (zip cs rs)) in
    let l : i < length cs = omega (arith, length-zip cs rs) in
    let m : i < length rs = omega (arith, length-zip cs rs) in
    let q : (k, (c, r)) ≡ (i, (get_or cs i c, get_or rs i r)) =
    e ∙ get_or-enumerate_from 0 (zip cs rs) i (k, (c, r)) n ∙ rw (get_or-zip cs rs i (c, r) l m, zero-add i) in
    (l, m, ap (λ (p : ℕ × (ℕ × ℕ)). p.0) q, ap (λ (p : ℕ × (ℕ × ℕ)). p.1.0) q ∙ get_or_default cs i c 0 l, ap (λ (p : ℕ × (ℕ × ℕ)). p.1.1) q ∙ get_or_default rs i r 0 m)

-- THE STEP LINES after k turns: there was room for all, and those of the first k choices are written
pub record StepsTold (choices rules : List ℕ) (first : ℕ) (old : List ℕ) (k at : ℕ) (new : List ℕ) : Type 0 where
  pub room : Room (step_rows 1 choices rules) first old
  pub told : Told (step_rows 1 choices rules) (step_rows (k + 1) (drop k choices) (drop k rules)) first old at new

-- before the first turn
pub steps_none : {choices rules : List ℕ} {at : ℕ} {old : List ℕ} → Room (step_rows 1 choices rules) at old → StepsTold choices rules at old 0 at old
steps_none {choices} {rules} {at} {old} a = record { room = a; told = told_none _ at old }

module _ {choices rules : List ℕ} {first : ℕ} {old : List ℕ} {k at : ℕ} {new : List ℕ} (t : StepsTold choices rules first old k at new) where
  -- the buffer keeps its length
  pub steps_length : length new ≡ length old
  steps_length = told_length t.room t.told

  -- ONE TURN: the next line is the first of those left,
  module _ (h : k < length choices) (i : k < length rules) where
    next_line : Told (step_rows 1 choices rules) (step_line (k + 1) (get_or choices k 0) (get_or rules k 0) ++ step_rows (k + 1 + 1) (drop (k + 1) choices) (drop (k + 1) rules)) first old at new
    next_line = rw (steps_left (k + 1) choices rules k h i) at t.told

    -- there is room for it,
    pub step_room : Room (step_line (k + 1) (get_or choices k 0) (get_or rules k 0)) at new
    step_room = room_first _ _ (told_room t.room next_line)

    -- and it is written
    pub steps_more : {behind : ℕ} {newer : List ℕ} → Wrote (step_line (k + 1) (get_or choices k 0) (get_or rules k 0)) at new behind newer → StepsTold choices rules first old (k + 1) behind newer
    steps_more w = record { room = t.room; told = told_more _ _ t.room next_line w }

  -- after the last turn all are written
  pub steps_all : (length choices ≤ k) ⊎ (length rules ≤ k) → Wrote (step_rows 1 choices rules) first old at new
  steps_all h = told_all (rw (steps_end (k + 1) choices rules k h) at t.told)

-- what is left of the choices from place k on: its line, and what is left from the next place on
choices_left : (cs : List ℕ) (k : ℕ) → k < length cs → choice_rows (drop k cs) ≡ choice_line (choice_of (get_or cs k 0)) ++ choice_rows (drop (k + 1) cs)
choices_left cs k h = rw (drop-cons cs k 0 h, add-one k)

-- THE CHOICE LINES after k turns
pub record ChoicesTold (list : List ℕ) (first : ℕ) (old : List ℕ) (k at : ℕ) (new : List ℕ) : Type 0 where
  pub room : Room (choice_rows list) first old
  pub told : Told (choice_rows list) (choice_rows (drop k list)) first old at new

-- before the first turn
pub choices_none : {list : List ℕ} {at : ℕ} {old : List ℕ} → Room (choice_rows list) at old → ChoicesTold list at old 0 at old
choices_none {list} {at} {old} a = record { room = a; told = told_none _ at old }

module _ {list : List ℕ} {first : ℕ} {old : List ℕ} {k at : ℕ} {new : List ℕ} (t : ChoicesTold list first old k at new) where
  -- the buffer keeps its length
  pub choices_length : length new ≡ length old
  choices_length = told_length t.room t.told

  -- ONE TURN: the next line is the first of those left,
  module _ (h : k < length list) where
    next_choice : Told (choice_rows list) (choice_line (choice_of (get_or list k 0)) ++ choice_rows (drop (k + 1) list)) first old at new
    next_choice = rw (choices_left list k h) at t.told

    -- there is room for it,
    pub choice_room : Room (choice_line (choice_of (get_or list k 0))) at new
    choice_room = room_first _ _ (told_room t.room next_choice)

    -- and it is written
    pub choices_more : {behind : ℕ} {newer : List ℕ} → Wrote (choice_line (choice_of (get_or list k 0))) at new behind newer → ChoicesTold list first old (k + 1) behind newer
    choices_more w = record { room = t.room; told = told_more _ _ t.room next_choice w }

  -- after the last turn all are written
  pub choices_all : length list ≤ k → Wrote (choice_rows list) first old at new
  choices_all h = told_all (rw (drop_of_length-le list {i = k} h) at t.told)
