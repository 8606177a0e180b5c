-- The first faulty line, worked out table by table: the first faulty row of each table, and how many lines come before the table. A pass over one
-- table answers with `row_fault`, and `lines_fault` makes a program's line of what the passes answer. Nothing here is of the document.
use Rattle.std.specs.Prelude.{ℕ, zero, suc, ◌+◌, ◌≤◌, ◌<◌, ◌≡◌, refl, Bool, true, false, cond, List, [], ◌∷◌, ◌++◌, eqb, length, get_or, take, replicate}
use Rattle.std.proofs.Math.Path.{ap}
use Rattle.std.proofs.Common.{sym, ◌∙◌, true≢false, arith, eq-eqb, ne_eqb, take-suc, take_all, length-take-le}
use Rattle.std.proofs.Math.Logic.{dite}
use Rattle.std.proofs.Math.Decide.{ℕ_discrete}
use Rattle.std.proofs.lemmas.List.{length-replicate}
use Rattle.lists.specs.Lists.{at, There}
use Rattle.lists.specs.Check.{Check, free}
use Rattle.programs.specs.Program.{Program}
use Rattle.soundness.specs.Asked.{Asked, nothing}
use Rattle.soundness.specs.Sound.{numbered, lines, first_fault, meets}
use Rattle.soundness.specs.Lines.{fault_free}

-- THE FIRST FAULT of two rows of checks
-- a fault of what has n lines before it: its line's number, and 0 where there is none
unfoldable pub onward : ℕ → ℕ → ℕ
onward n b = cond (eqb b 0) 0 (n + b)

-- the first of two faults: a, or else b, which has n lines before it
unfoldable pub joined : ℕ → ℕ → ℕ → ℕ
joined a n b = cond (eqb a 0) (onward n b) a

-- the fault of one line
abbrev pub line_fault : Check → ℕ
line_fault c = cond c.test 0 1

-- no fault is none wherever it stands,
pub onward_none : (n : ℕ) → onward n 0 ≡ 0
unfolding onward
onward_none n = refl

-- and a fault has the lines before it.
pub onward_some : (n b : ℕ) → 1 ≤ b → onward n b ≡ n + b
unfolding onward
onward_some n b h = rw (ne_eqb b 0 (λ z. omega arith))

-- Lines before the lines before.
pub onward_onward : (m n b : ℕ) → onward m (onward n b) ≡ onward (m + n) b
onward_onward m n zero = rw (onward_none n, onward_none m, onward_none (m + n))
onward_onward m n (suc b) =
    let e : m + (n + suc b) ≡ m + n + suc b = omega arith in
    rw (onward_some n (suc b) (omega arith), onward_some m (n + suc b) (omega arith), onward_some (m + n) (suc b) (omega arith)) e

-- With no fault in front, the one behind is the first;
pub joined_none : (n b : ℕ) → joined 0 n b ≡ onward n b
unfolding joined
joined_none n b = refl

-- with one, it is the first itself.
pub joined_some : (a n b : ℕ) → 1 ≤ a → joined a n b ≡ a
unfolding joined
joined_some a n b h = rw (ne_eqb a 0 (λ z. omega arith))

-- Behind the last line there is none.
pub joined_last : (a n : ℕ) → joined a n 0 ≡ a
joined_last zero n = joined_none n 0 ∙ onward_none n
joined_last (suc a) n = joined_some (suc a) n 0 (omega arith)

-- A fault is no line past the last.
pub onward_le : (n b m : ℕ) → b ≤ m → onward n b ≤ n + m
onward_le n zero m h = rw onward_none (omega arith)
onward_le n (suc b) m h = rw (onward_some n (suc b) (omega arith)) (omega arith)

-- and so of two
pub joined_le : (a n b m : ℕ) → a ≤ n → b ≤ m → joined a n b ≤ n + m
joined_le zero n b m h k = rw joined_none (onward_le n b m k)
joined_le (suc a) n b m h k = rw (joined_some (suc a) n b (omega arith)) (omega arith)

-- How large the lines' numbers grow, a table at a time.
pub more_le : {a n b r : ℕ} (k t : ℕ) → b ≤ k → a ≤ t → n ≤ t → r ≤ a + (n + b) → r ≤ k + (t + t)
more_le k t hb ha hn hr = omega arith

-- Lines counted from n + k on, where k is 1 or more.
shift_from : (n k : ℕ) (l : List Check) → 1 ≤ k → first_fault (n + k) l ≡ onward n (first_fault k l)
shift_from n k [] h = sym (onward_none n)
shift_from n k (c ∷ l) h =
    let e : n + suc k ≡ suc (n + k) = omega arith in
    go c.test (rw e at (shift_from n (suc k) l (omega arith)))
  where
    go : (b : Bool) → first_fault (suc (n + k)) l ≡ onward n (first_fault (suc k) l) → cond b (first_fault (suc (n + k)) l) (n + k) ≡ onward n (cond b (first_fault (suc k) l) k)
    go true i = i
    go false i = sym (onward_some n k h)

-- Lines that have n before them.
pub fault_shift : (n : ℕ) (l : List Check) → first_fault (suc n) l ≡ onward n (first_fault 1 l)
fault_shift n l = let e : n + 1 ≡ suc n = omega arith in rw e at (shift_from n 1 l (omega arith))

-- The first fault of two rows, counted from k on, where k is 1 or more;
pub fault_append_from : (k : ℕ) (l m : List Check) → 1 ≤ k → first_fault k (l ++ m) ≡ cond (eqb (first_fault k l) 0) (first_fault (k + length l) m) (first_fault k l)
fault_append_from k [] m h = let e : k ≡ k + 0 = omega arith in ap (λ (i : ℕ). first_fault i m) e
fault_append_from k (c ∷ l) m h =
    let e : suc k + length l ≡ k + suc (length l) = omega arith in
    go c.test (rw e at (fault_append_from (suc k) l m (omega arith)))
  where
    go : (b : Bool) → first_fault (suc k) (l ++ m) ≡ cond (eqb (first_fault (suc k) l) 0) (first_fault (k + suc (length l)) m) (first_fault (suc k) l)
        → cond b (first_fault (suc k) (l ++ m)) k ≡ cond (eqb (cond b (first_fault (suc k) l) k) 0) (first_fault (k + suc (length l)) m) (cond b (first_fault (suc k) l) k)
    go true i = i
    go false i = rw (ne_eqb k 0 (λ z. omega arith))

-- and counted from 1.
pub fault_append : (l m : List Check) → first_fault 1 (l ++ m) ≡ joined (first_fault 1 l) (length l) (first_fault 1 m)
unfolding joined
fault_append l m =
    let e : 1 + length l ≡ suc (length l) = omega arith in
    fault_append_from 1 l m (omega arith) ∙ ap (λ (x : ℕ). cond (eqb (first_fault 1 l) 0) x (first_fault 1 l)) (ap (λ (i : ℕ). first_fault i m) e ∙ fault_shift (length l) m)

-- Lines of which nothing is asked have no fault.
pub fault_replicate : (k n : ℕ) → first_fault k (replicate n free) ≡ 0
fault_replicate k zero = refl
fault_replicate k (suc n) = fault_replicate (suc k) n

-- The fault of one line that is the last.
pub fault_line : (c : Check) → first_fault 1 (c ∷ []) ≡ line_fault c
fault_line c = refl

-- THE FIRST FAULT OF A TABLE
-- the first row, from 1, that does not meet what is asked of it; 0 where every one does
abbrev pub row_fault : {A : Type 0} → (ℕ → A → Check) → List A → ℕ
row_fault f l = first_fault 1 (numbered f 1 l)

module _ {A : Type 0} where
  -- a line for each row
  pub numbered_length : (f : ℕ → A → Check) (n : ℕ) (l : List A) → length (numbered f n l) ≡ length l
  numbered_length f n [] = refl
  numbered_length f n (x ∷ l) = ap suc (numbered_length f (suc n) l)

  -- number i + 1 stands in place i, from 0
  pub at_place : (d : A) (l : List A) (i : ℕ) → at d l (i + 1) ≡ get_or l i d
  at_place d l i = let e : i + 1 ≡ suc i = omega arith in ap (λ (n : ℕ). at d l n) e

  -- the first i + 1 rows are the first i, and row i + 1 behind them
  pub taken_more : (d : A) (l : List A) (i : ℕ) → i < length l → take (i + 1) l ≡ take i l ++ (at d l (i + 1) ∷ [])
  taken_more d l i h =
      let one : i + 1 ≡ suc i = omega arith in
      ap (λ (j : ℕ). take j l) one ∙ take-suc l i d h ∙ ap (λ (x : A). take i l ++ (x ∷ [])) (sym (at_place d l i))

  -- a table of which nothing is asked
  pub fault_nothing : (k n : ℕ) (l : List A) → first_fault k (numbered nothing n l) ≡ 0
  fault_nothing k n [] = refl
  fault_nothing k n (x ∷ l) = fault_nothing (suc k) (suc n) l

module _ {A : Type 0} (f : ℕ → A → Check) (d : A) where
  -- rows numbered from n on, none of which is at fault
  none_from : (k n : ℕ) (l : List A) → ((i : ℕ) → i < length l → (f (n + i) (get_or l i d)).test ≡ true) → first_fault k (numbered f n l) ≡ 0
  none_from k n [] h = refl
  none_from k n (x ∷ l) h =
      let z : n + 0 ≡ n = omega arith in
      rw (rw z at (h 0 (omega arith))) (none_from (suc k) (suc n) l (λ i b. let e : n + suc i ≡ suc n + i = omega arith in rw e at (h (suc i) (omega arith))))

  -- and of which the one in place i, from 0, is the first
  some_from : (k n : ℕ) (l : List A) (i : ℕ) → i < length l → ((j : ℕ) → j < i → (f (n + j) (get_or l j d)).test ≡ true) → (f (n + i) (get_or l i d)).test ≡ false
      → first_fault k (numbered f n l) ≡ k + i
  some_from k n [] i b h t = absurd (omega arith)
  some_from k n (x ∷ l) zero b h t =
      let z : n + 0 ≡ n = omega arith in
      let y : k ≡ k + 0 = omega arith in
      rw (rw z at t) y
  some_from k n (x ∷ l) (suc i) b h t =
      let z : n + 0 ≡ n = omega arith in
      let y : suc k + i ≡ k + suc i = omega arith in
      let s : n + suc i ≡ suc n + i = omega arith in
      rw (rw z at (h 0 (omega arith)))
      (some_from (suc k) (suc n) l i (omega arith) (λ j q. let e : n + suc j ≡ suc n + j = omega arith in rw e at (h (suc j) (omega arith))) (rw s at t) ∙ y)

  -- and so where 1 stands in front
  pub in_place : (l : List A) (i : ℕ) → at d l (1 + i) ≡ get_or l i d
  in_place l i = let e : 1 + i ≡ suc i = omega arith in ap (λ (n : ℕ). at d l n) e

  -- the first i rows pass: what a loop over a table keeps
  abbrev pub Clear : List A → ℕ → Type 0
  Clear l i = (j : ℕ) → There i j → (f j (at d l j)).test ≡ true

  -- before the first row
  pub clear_none : (l : List A) → Clear l 0
  clear_none l j h = absurd (omega arith)

  -- with one row more
  pub clear_more : (l : List A) (i : ℕ) → Clear l i → (f (i + 1) (at d l (i + 1))).test ≡ true → Clear l (i + 1)
  clear_more l i h t j b = dite (ℕ_discrete j (i + 1)) (λ q. rw q t) (λ q. h j (omega arith, omega arith))

  -- Every row passes: what a loop that comes to the end of a table knows.
  pub rows_clear : (l : List A) (i : ℕ) → i ≡ length l → Clear l i → row_fault f l ≡ 0
  rows_clear l i e h = none_from 1 1 l (λ j b. rw in_place at (h (1 + j) (omega arith, omega arith)))

  -- Row i + 1 does not pass and those before it do: what a loop knows that stops there.
  pub row_first : (l : List A) (i : ℕ) → i < length l → Clear l i → (f (i + 1) (at d l (i + 1))).test ≡ false → row_fault f l ≡ i + 1
  row_first l i h p t =
      let e : i + 1 ≡ 1 + i = omega arith in
      some_from 1 1 l i h (λ j b. rw in_place at (p (1 + j) (omega arith, omega arith))) (rw in_place at (rw e at t)) ∙ sym e

-- A TABLE GONE THROUGH TO ITS END: the fault of its first i rows is what a loop keeps
module _ {A : Type 0} (f : ℕ → A → Check) where
  -- two tables numbered on
  numbered_append : (n : ℕ) (l m : List A) → numbered f n (l ++ m) ≡ numbered f n l ++ numbered f (n + length l) m
  numbered_append n [] m = let e : n ≡ n + 0 = omega arith in ap (λ (k : ℕ). numbered f k m) e
  numbered_append n (x ∷ l) m =
      let e : suc n + length l ≡ n + suc (length l) = omega arith in
      ap (λ (r : List Check). f n x ∷ r) (numbered_append (suc n) l m ∙ ap (λ (k : ℕ). numbered f (suc n) l ++ numbered f k m) e)

  -- with one row more
  pub rows_more : (d : A) (l : List A) (i : ℕ) → i < length l → row_fault f (take (i + 1) l) ≡ joined (row_fault f (take i l)) i (line_fault (f (i + 1) (at d l (i + 1))))
  rows_more d l i h =
      let n : length (take i l) ≡ i = length-take-le i l (omega arith) in
      let k : 1 + length (take i l) ≡ i + 1 = omega arith in
      ap (λ (r : List A). row_fault f r) (taken_more d l i h)
      ∙ ap (first_fault 1) (numbered_append 1 (take i l) (at d l (i + 1) ∷ []))
      ∙ fault_append (numbered f 1 (take i l)) (f (1 + length (take i l)) (at d l (i + 1)) ∷ [])
      ∙ rw (numbered_length f 1 (take i l), k, n)

  -- all rows
  pub rows_all : (l : List A) (i : ℕ) → i ≡ length l → row_fault f (take i l) ≡ row_fault f l
  rows_all l i e = ap (λ (r : List A). row_fault f r) (take_all i l (omega arith))

-- The first fault, counted from k on, is one of the lines;
fault_le_from : (k : ℕ) (l : List Check) → 1 ≤ k → suc (first_fault k l) ≤ k + length l
fault_le_from k [] h = omega arith
fault_le_from k (c ∷ l) h = go c.test (fault_le_from (suc k) l (omega arith))
  where
    go : (b : Bool) → suc (first_fault (suc k) l) ≤ suc k + length l → suc (cond b (first_fault (suc k) l) k) ≤ k + suc (length l)
    go true i = omega arith
    go false i = omega arith

-- of a table, one of its rows.
pub row_le : {A : Type 0} (f : ℕ → A → Check) (l : List A) → row_fault f l ≤ length l
row_le f l = omega (arith, fault_le_from 1 (numbered f 1 l) (omega arith), numbered_length f 1 l)

-- THE FIRST FAULT OF A PROGRAM
-- a table with lines behind it
pub rows_then : {A : Type 0} (f : ℕ → A → Check) (l : List A) (m : List Check) → first_fault 1 (numbered f 1 l ++ m) ≡ joined (row_fault f l) (length l) (first_fault 1 m)
rows_then f l m = fault_append (numbered f 1 l) m ∙ ap (λ (n : ℕ). joined (row_fault f l) n (first_fault 1 m)) (numbered_length f 1 l)

-- lines of which nothing is asked, with lines behind them
pub free_then : (n : ℕ) (m : List Check) → first_fault 1 (replicate n free ++ m) ≡ onward n (first_fault 1 m)
free_then n m =
    fault_append (replicate n free) m ∙ rw (fault_replicate 1 n, length-replicate {A = Check} n free) (joined_none n (first_fault 1 m))

-- THE law: a program's first faulty line, by the first faulty row of each table.
module _ (p : Program) (t : Asked) where
  -- of the moves and `start`
  unfoldable pub moves_fault : ℕ
  moves_fault = joined (row_fault t.step p.steps) (length p.steps) (joined (row_fault t.call p.calls) (length p.calls)
      (joined (row_fault t.act p.acts) (length p.acts) (line_fault (t.start p.start))))

  -- of the actions, the states and what is behind them
  unfoldable pub states_fault : ℕ
  states_fault = joined (row_fault t.action p.actions) (length p.actions) (joined (row_fault t.state p.states) (length p.states) moves_fault)

  -- of the variables and all behind them
  unfoldable pub tables_fault : ℕ
  tables_fault = joined (row_fault t.variable p.variables) (length p.variables) (joined (row_fault t.expr p.exprs) (length p.exprs)
      (joined (row_fault t.stmt p.stmts) (length p.stmts) states_fault))

  -- moves and a `start` of which nothing is at fault
  pub moves_free : row_fault t.step p.steps ≡ 0 → row_fault t.call p.calls ≡ 0 → row_fault t.act p.acts ≡ 0 → line_fault (t.start p.start) ≡ 0 → moves_fault ≡ 0
  unfolding moves_fault
  moves_free hs hc ha hb = rw (hs, hc, ha, hb) (simp (joined_none, onward_none))

  -- of the program: what has the events and the machines before it
  pub lines_fault : first_fault 1 (lines p t) ≡ onward (length p.events + p.machines) tables_fault
  unfolding moves_fault states_fault tables_fault
  lines_fault =
      free_then (length p.events) _ ∙ ap (onward (length p.events)) (free_then p.machines _ ∙ ap (onward p.machines)
      (rows_then t.variable p.variables _ ∙ ap (joined _ _)
      (rows_then t.expr p.exprs _ ∙ ap (joined _ _)
      (rows_then t.stmt p.stmts _ ∙ ap (joined _ _)
      (rows_then t.action p.actions _ ∙ ap (joined _ _)
      (rows_then t.state p.states _ ∙ ap (joined _ _)
      (rows_then t.step p.steps _ ∙ ap (joined _ _)
      (rows_then t.call p.calls _ ∙ ap (joined _ _)
      (rows_then t.act p.acts _)))))))))
      ∙ onward_onward (length p.events) p.machines _

  -- every line meets what is asked of it exactly where there is no first fault
  pub meets_fault : (meets p t).test ≡ eqb (first_fault 1 (lines p t)) 0
  meets_fault = go (meets p t).test refl
    where
      go : (b : Bool) → (meets p t).test ≡ b → b ≡ eqb (first_fault 1 (lines p t)) 0
      go true e = sym (eq-eqb _ 0 ((fault_free p t).1 ((meets p t).tells.holds e)))
      go false e = sym (ne_eqb _ 0 (λ z. true≢false (sym ((meets p t).tells.test ((fault_free p t).0 z)) ∙ e)))
