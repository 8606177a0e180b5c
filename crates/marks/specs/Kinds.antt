-- A row of marks for each kind: the statements of its actions and states are marked first, and then the marks are passed on to what they hold.
use Prim.Native.Nat.{ℕ, zero, suc, ◌+◌, ◌-◌, ◌*◌, ◌≤◌, ◌<◌}
use Rattle.std.specs.Prelude.{◌≡◌, Bool, true, false, cond, ◌&&◌, ◌||◌, leb, get_or, set}
use Rattle.std.proofs.Math.Path.{refl, sym, fun_ext}
use Rattle.std.proofs.Common.{ap, ◌∙◌, inl, inr, ⊎_elim, add-one, arith, le-leb, eq-eqb, ne_eqb, length-set, get_or-set_other}
use Rattle.std.proofs.Math.Bool.{and-false, or-false}
use mathlib.Core.List.{List, [], ◌∷◌}
use Rattle.std.proofs.Math.Logic.{dite}
use Rattle.std.proofs.Math.Decide.{ℕ_discrete}
use Rattle.std.proofs.lemmas.Bool.{lt-leb}
use Rattle.std.proofs.Math.Dec.{eqb}
use Rattle.std.proofs.Math.ListN.{length}
use Rattle.lists.specs.Lists.{any, there}
use Rattle.rows.specs.Pad.{below?}
use Rattle.rows.specs.Part.{one_row}
use Rattle.rows.specs.Seek.{table}
use Rattle.programs.specs.Sizes.{KINDS, STMTS, ACTIONS, STATES}
use Rattle.programs.specs.Program.{Program, Action, State}
use Rattle.programs.specs.Statements.{inside, serves}
use Rattle.tables.specs.Decode.{count, action_in, actions_of, state_in, states_of}
use Rattle.tables.specs.Tables.{stmts_length}
use Rattle.marks.specs.Sheet.{Sheet, sheet_none, sheet_more, marking}
use Rattle.marks.specs.Marks.{Served, Peopled}
use Rattle.marks.specs.Inner.{parts_in, parts_are, parts_past}
use Rattle.marks.specs.Flow.{on, reach, reach_leaf, left, left_mark, left_ext, left_none, flowed, flowed_keeps, flowed_on, flowed_off}

-- number r marked in kind k's row; a number past n, and what is no kind, is passed over
unfoldable pub marked : ℕ → ℕ → ℕ → List ℕ → List ℕ
marked n k r l = cond (there KINDS k) (cond (leb r n) (set l (k * 1025 + r) 1) l) l

-- the bodies of these actions marked, each in its kind's row
unfoldable pub marked_bodies : ℕ → List Action → List ℕ → List ℕ
marked_bodies n [] l = l
marked_bodies n (a ∷ acts) l = marked n a.of a.body (marked_bodies n acts l)

-- the entries and exits of these states
unfoldable pub marked_ends : ℕ → List State → List ℕ → List ℕ
marked_ends n [] l = l
marked_ends n (q ∷ qs) l = marked n q.of q.exit (marked n q.of q.entry (marked_ends n qs l))

-- the turns of all numbers in the rows of the kinds from 1 to k
unfoldable pub flowed_rows : (ℕ → List ℕ) → ℕ → ℕ → List ℕ → List ℕ
flowed_rows kids n zero l = l
flowed_rows kids n (suc k) l = flowed kids (suc k * 1025) n (flowed_rows kids n k l)

-- THE CASES of a mark
pub marked_in : (n k r : ℕ) (l : List ℕ) → 1 ≤ k → k ≤ 16 → r ≤ n → set l (k * 1025 + r) 1 ≡ marked n k r l
unfolding marked
marked_in n k r l o h e = rw (le-leb 1 k o, le-leb k 16 h, le-leb r n e)

-- a number past n
pub marked_past : (n k r : ℕ) (l : List ℕ) → 1 ≤ k → k ≤ 16 → n < r → l ≡ marked n k r l
unfolding marked
marked_past n k r l o h e = rw (le-leb 1 k o, le-leb k 16 h, lt-leb r n e)

-- 0 is no kind
pub marked_zero : (n k r : ℕ) (l : List ℕ) → k ≡ 0 → l ≡ marked n k r l
unfolding marked
marked_zero n k r l h = rw h

-- nor is a number past the last
pub marked_high : (n k r : ℕ) (l : List ℕ) → 16 < k → l ≡ marked n k r l
unfolding marked
marked_high n k r l h = rw (lt-leb k 16 h, and-false (leb 1 k))

-- the same as the code tests it: a kind that is there, and a number up to n
pub marked_there : (n k r : ℕ) {i j : ℕ} (l : List ℕ) → i ≡ k → j ≡ r → there KINDS i ≡ true → j ≤ n → set l (i * 1025 + j) 1 ≡ marked n k r l
unfolding marked
marked_there n k r {j = j} l e f t h = rw (← e, ← f, t, le-leb j n h)

-- a number past n
pub marked_behind : (n k r : ℕ) {j : ℕ} (l : List ℕ) → j ≡ r → n < j → l ≡ marked n k r l
unfolding marked
marked_behind n k r l f h = rw (lt-leb r n (omega arith)) (go (there KINDS k))
  where
    go : (b : Bool) → l ≡ cond b l l
    go true = refl
    go false = refl

-- no kind
pub marked_absent : (n k r : ℕ) {i : ℕ} (l : List ℕ) → i ≡ k → there KINDS i ≡ false → l ≡ marked n k r l
unfolding marked
marked_absent n k r l e t = rw (← e, t)

-- what a mark leaves, by its cases
by_case : (n k r : ℕ) (l : List ℕ) (P : List ℕ → Type 0) → (1 ≤ k → k ≤ 16 → r ≤ n → P (set l (k * 1025 + r) 1)) → (n < r → P l) → ((1 ≤ k → 16 < k) → P l) → P (marked n k r l)
by_case n k r l P f g h = ⊎_elim
    (λ (o : k < 1). rw (← marked_zero n k r l (omega arith)) (h (λ z. omega arith)))
    (λ (o : 1 ≤ k). ⊎_elim
    (λ (a : k < 17). ⊎_elim
    (λ (b : r < suc n). rw (← marked_in n k r l o (omega arith) (omega arith)) (f o (omega arith) (omega arith)))
    (λ (b : suc n ≤ r). rw (← marked_past n k r l o (omega arith) b) (g b))
    (below? r (suc n)))
    (λ (a : 17 ≤ k). rw (← marked_high n k r l a) (h (λ z. a)))
    (below? k 17))
    (below? k 1)

-- WHAT THE TABLE KEEPS, where a mark of a number up to n in a kind's row does
module _ (P : List ℕ → Type 0) (n : ℕ) (one : (l : List ℕ) (k t : ℕ) → 1 ≤ k → k ≤ 16 → t ≤ n → P l → P (set l (k * 1025 + t) 1)) where
  -- one mark
  marked_keeps : (k r : ℕ) (l : List ℕ) → P l → P (marked n k r l)
  marked_keeps k r l h = by_case n k r l P (λ a b c. one l k r a b c h) (λ _. h) (λ _. h)

  -- the bodies
  bodies_keeps : (acts : List Action) (l : List ℕ) → P l → P (marked_bodies n acts l)
  unfolding marked_bodies
  bodies_keeps [] l h = h
  bodies_keeps (a ∷ acts) l h = marked_keeps a.of a.body (marked_bodies n acts l) (bodies_keeps acts l h)

  -- the entries and exits
  ends_keeps : (qs : List State) (l : List ℕ) → P l → P (marked_ends n qs l)
  unfolding marked_ends
  ends_keeps [] l h = h
  ends_keeps (q ∷ qs) l h = marked_keeps q.of q.exit (marked n q.of q.entry (marked_ends n qs l)) (marked_keeps q.of q.entry (marked_ends n qs l) (ends_keeps qs l h))

  -- all turns
  rows_keeps : (kids : ℕ → List ℕ) (k : ℕ) → k ≤ 16 → (l : List ℕ) → P l → P (flowed_rows kids n k l)
  unfolding flowed_rows
  rows_keeps kids zero b l h = h
  rows_keeps kids (suc k) b l h = flowed_keeps P (suc k * 1025) kids n (λ m t q. one m (suc k) t (omega arith) b (omega arith)) (flowed_rows kids n k l) (rows_keeps kids k (omega arith) l h)

-- the length
sized : (n : ℕ) (l : List ℕ) (k t : ℕ) → 1 ≤ k → k ≤ 16 → t ≤ n → length l ≡ 17425 → length (set l (k * 1025 + t) 1) ≡ 17425
sized n l k t a b c h = length-set l (k * 1025 + t) 1 ∙ h

-- BOOLS
-- another one in front of a row of tests
pub or_front : (a r b : Bool) → (a || r) || b ≡ a || (b || r)
or_front true r b = refl
or_front false true true = refl
or_front false true false = refl
or_front false false true = refl
or_front false false false = refl

-- two in front, under one condition
or_both : (a r c x y : Bool) → ((a || r) || (c && x)) || (c && y) ≡ a || ((c && (x || y)) || r)
or_both true r c x y = refl
or_both false true true true y = refl
or_both false true true false true = refl
or_both false true true false false = refl
or_both false true false x y = refl
or_both false false true true y = refl
or_both false false true false true = refl
or_both false false true false false = refl
or_both false false false x y = refl

-- WHAT THE FIRST MARKS LEAD TO
module _ (kids : ℕ → List ℕ) (n s k : ℕ) (past : (m : ℕ) → n < m → kids m ≡ []) (fits : n ≤ 1024) (there : s ≤ n) (from_1 : 1 ≤ k) (kind : k ≤ 16) where
  -- one mark
  pub left_marked : (j r : ℕ) (l : List ℕ) → length l ≡ 17425 → left kids s (marked n j r l) (k * 1025) n ≡ left kids s l (k * 1025) n || (eqb j k && reach kids s r)
  left_marked j r l size = by_case n j r l (λ m. left kids s m (k * 1025) n ≡ left kids s l (k * 1025) n || (eqb j k && reach kids s r))
      (λ o h e. dite (ℕ_discrete j k)
      (λ q. rw (eq-eqb j k q, q) (left_mark kids s l (k * 1025) n r e (omega arith)))
      (λ q. rw (ne_eqb j k q) (left_ext kids s (set l (j * 1025 + r) 1) l (k * 1025) n there
      (λ i b. get_or-set_other l (j * 1025 + r) (k * 1025 + i) 1 0 (λ z. q (one_row 1025 j k r i (omega arith) (omega arith) (sym z)))) ∙ sym (or-false (left kids s l (k * 1025) n)))))
      (λ e. rw (reach_leaf kids s r (past r e) (λ z. omega arith), and-false (eqb j k)) (sym (or-false (left kids s l (k * 1025) n))))
      (λ h. rw (ne_eqb j k (λ z. omega (arith, h (omega (arith, z))))) (sym (or-false (left kids s l (k * 1025) n))))

  -- the bodies
  pub left_bodies : (acts : List Action) (l : List ℕ) → length l ≡ 17425
      → left kids s (marked_bodies n acts l) (k * 1025) n ≡ left kids s l (k * 1025) n || any (λ a. eqb a.of k && reach kids s a.body) acts
  unfolding marked_bodies
  left_bodies [] l size = sym (or-false (left kids s l (k * 1025) n))
  left_bodies (a ∷ acts) l size =
      left_marked a.of a.body (marked_bodies n acts l) (bodies_keeps (λ m. length m ≡ 17425) n (sized n) acts l size)
      ∙ rw (left_bodies acts l size) (or_front (left kids s l (k * 1025) n) (any (λ a. eqb a.of k && reach kids s a.body) acts) (eqb a.of k && reach kids s a.body))

  -- the entries and exits
  pub left_ends : (qs : List State) (l : List ℕ) → length l ≡ 17425
      → left kids s (marked_ends n qs l) (k * 1025) n ≡ left kids s l (k * 1025) n || any (λ q. eqb q.of k && (reach kids s q.entry || reach kids s q.exit)) qs
  unfolding marked_ends
  left_ends [] l size = sym (or-false (left kids s l (k * 1025) n))
  left_ends (q ∷ qs) l size =
      left_marked q.of q.exit (marked n q.of q.entry (marked_ends n qs l)) (marked_keeps (λ m. length m ≡ 17425) n (sized n) q.of q.entry (marked_ends n qs l) (ends_keeps (λ m. length m ≡ 17425) n (sized n) qs l size))
      ∙ rw (left_marked q.of q.entry (marked_ends n qs l) (ends_keeps (λ m. length m ≡ 17425) n (sized n) qs l size), left_ends qs l size)
      (or_both (left kids s l (k * 1025) n) (any (λ q. eqb q.of k && (reach kids s q.entry || reach kids s q.exit)) qs) (eqb q.of k) (reach kids s q.entry) (reach kids s q.exit))

-- ALL TURNS of the rows up to kind j
-- leave the rows behind them
rows_off : (kids : ℕ → List ℕ) (n j : ℕ) (l : List ℕ) (i : ℕ) → n ≤ 1024 → (j + 1) * 1025 ≤ i → get_or (flowed_rows kids n j l) i 0 ≡ get_or l i 0
unfolding flowed_rows
rows_off kids n zero l i h e = refl
rows_off kids n (suc j) l i h e =
    flowed_off kids (suc j * 1025) n (flowed_rows kids n j l) i (inr (omega arith)) ∙ rows_off kids n j l i h (omega arith)

module _ (kids : ℕ → List ℕ) (n s k : ℕ) (none : kids 0 ≡ []) (fits : n ≤ 1024) (there : s ≤ n) (first : 1 ≤ k) where
  -- and in kind k's row say where the first marks lead to
  pub rows_on : (j : ℕ) (l : List ℕ) → k ≤ j → j ≤ 16 → length l ≡ 17425 → on (flowed_rows kids n j l) (k * 1025) s ≡ left kids s l (k * 1025) n
  unfolding flowed_rows
  rows_on zero l h e size = absurd (omega arith)
  rows_on (suc j) l h e size = dite (ℕ_discrete k (suc j))
      (λ q. rw q (flowed_on kids s (suc j * 1025) n (flowed_rows kids n j l) (omega (arith, rows_keeps (λ m. length m ≡ 17425) n (sized n) kids j (omega arith) l size)) none
      ∙ left_ext kids s (flowed_rows kids n j l) l (suc j * 1025) n there (λ i b. rows_off kids n j l (suc j * 1025 + i) fits (omega arith))))
      (λ q. rw (flowed_off kids (suc j * 1025) n (flowed_rows kids n j l) (k * 1025 + s) (inl (omega arith))) (rows_on j l (omega arith) (omega arith) size))

-- THE TABLE: zeros in which the bodies, the entries and the exits are marked, and all turns taken
module _ (stmts kinds bodies state_kinds entries exits zeros : List ℕ) (size : length zeros ≡ 17425) (nothing : (i : ℕ) → get_or zeros i 0 ≡ 0)
    (p : Program) (h : Peopled stmts kinds bodies state_kinds entries exits p) where
  -- as many numbers as there are statements
  abbrev n : ℕ
  n = count STMTS stmts

  -- with the bodies
  abbrev one : List ℕ
  one = marked_bodies n (actions_of kinds bodies) zeros

  -- and the entries and exits
  abbrev two : List ℕ
  two = marked_ends n (states_of state_kinds entries exits h.flags) one

  -- marks of the statements that are there, at first
  one_sheet : Sheet n one
  one_sheet = bodies_keeps (Sheet n) n (sheet_more n (omega arith)) (actions_of kinds bodies) zeros (sheet_none n zeros size nothing)

  -- both times
  two_sheet : Sheet n two
  two_sheet = ends_keeps (Sheet n) n (sheet_more n (omega arith)) (states_of state_kinds entries exits h.flags) one one_sheet

  -- where the marks of kind k's row lead to, whatever holds what
  abbrev led : ℕ → ℕ → (ℕ → List ℕ) → Bool
  led k s kids = any (λ a. eqb a.of k && reach kids s a.body) (actions_of kinds bodies)
      || any (λ q. eqb q.of k && (reach kids s q.entry || reach kids s q.exit)) (states_of state_kinds entries exits h.flags)

  -- the mark of a statement that is there in kind k's row
  serving : (k s : ℕ) → 1 ≤ k → k ≤ 16 → s ≤ n → on (flowed_rows (parts_in stmts) n 16 two) (k * 1025) s ≡ serves p k s
  unfolding serves inside reach
  serving k s a b there =
      rows_on (parts_in stmts) n s k refl (omega arith) there a 16 two b (omega arith) two_sheet.size
      ∙ left_ends (parts_in stmts) n s k (parts_past stmts) (omega arith) there a b (states_of state_kinds entries exits h.flags) one one_sheet.size
      ∙ rw (left_bodies (parts_in stmts) n s k (parts_past stmts) (omega arith) there a b (actions_of kinds bodies) zeros size, left_none (parts_in stmts) s zeros (k * 1025) n nothing, h.same_actions, h.same_states)
      (ap (led k s) (fun_ext (parts_are stmts p h.stated)))

  -- it says which statement serves which kind
  pub served_all : Served p (flowed_rows (parts_in stmts) n 16 two)
  served_all = rw (ap length h.stated.same ∙ stmts_length stmts h.stated.inits)
      (marking (serves p) (rows_keeps (Sheet n) n (sheet_more n (omega arith)) (parts_in stmts) 16 (omega arith) two two_sheet) serving)

-- FOR THE CODE, which goes from the last action to the first
pub bodies_none : (kinds bodies l : List ℕ) (n m : ℕ) → l ≡ marked_bodies n (table (action_in kinds bodies) (1 + m) (m - m)) l
unfolding marked_bodies table
bodies_none kinds bodies l n m = let p : m - m ≡ 0 = omega arith in rw p

-- one action more
pub bodies_more : (kinds bodies l₀ : List ℕ) (n m i : ℕ) (l next : List ℕ) → 0 < i → i ≤ m → l ≡ marked_bodies n (table (action_in kinds bodies) (1 + i) (m - i)) l₀
    → next ≡ marked n (get_or kinds i 0) (get_or bodies i 0) l → next ≡ marked_bodies n (table (action_in kinds bodies) (1 + (i - 1)) (m - (i - 1))) l₀
unfolding marked_bodies table
bodies_more kinds bodies l₀ n m i l next h k e f =
    let p : m - (i - 1) ≡ suc (m - i) = omega arith in
    let q : 1 + (i - 1) ≡ i = omega arith in
    let r : i + 1 ≡ 1 + i = omega arith in
    rw (p, q, r, ← e) f

-- and all
pub bodies_done : (kinds bodies l₀ : List ℕ) (n m i : ℕ) (l : List ℕ) → m ≡ count ACTIONS kinds → i ≤ 0 → l ≡ marked_bodies n (table (action_in kinds bodies) (1 + i) (m - i)) l₀ → l ≡ marked_bodies n (actions_of kinds bodies) l₀
unfolding actions_of
bodies_done kinds bodies l₀ n m i l e h f =
    let p : 1 + i ≡ 1 = omega arith in
    let q : m - i ≡ count ACTIONS kinds = omega arith in
    rw (p, q) at f

-- the states so too
pub ends_none : (kinds entries exits flags l : List ℕ) (n m : ℕ) → l ≡ marked_ends n (table (state_in kinds entries exits flags) (1 + m) (m - m)) l
unfolding marked_ends table
ends_none kinds entries exits flags l n m = let p : m - m ≡ 0 = omega arith in rw p

-- one state more
pub ends_more : (kinds entries exits flags l₀ : List ℕ) (n m i : ℕ) (l mid next : List ℕ) → 0 < i → i ≤ m → l ≡ marked_ends n (table (state_in kinds entries exits flags) (1 + i) (m - i)) l₀
    → mid ≡ marked n (get_or kinds i 0) (get_or entries i 0) l → next ≡ marked n (get_or kinds i 0) (get_or exits i 0) mid
    → next ≡ marked_ends n (table (state_in kinds entries exits flags) (1 + (i - 1)) (m - (i - 1))) l₀
unfolding marked_ends table
ends_more kinds entries exits flags l₀ n m i l mid next h k e f g =
    let p : m - (i - 1) ≡ suc (m - i) = omega arith in
    let q : 1 + (i - 1) ≡ i = omega arith in
    let r : i + 1 ≡ 1 + i = omega arith in
    rw (p, q, r, ← e, ← f) g

-- and all
pub ends_done : (kinds entries exits flags l₀ : List ℕ) (n m i : ℕ) (l : List ℕ) → m ≡ count STATES kinds → i ≤ 0 → l ≡ marked_ends n (table (state_in kinds entries exits flags) (1 + i) (m - i)) l₀
    → l ≡ marked_ends n (states_of kinds entries exits flags) l₀
unfolding states_of
ends_done kinds entries exits flags l₀ n m i l e h f =
    let p : 1 + i ≡ 1 = omega arith in
    let q : m - i ≡ count STATES kinds = omega arith in
    rw (p, q) at f

-- the rows of no kind
pub rows_none : (kids : ℕ → List ℕ) (n : ℕ) (l : List ℕ) → l ≡ flowed_rows kids n 0 l
unfolding flowed_rows
rows_none kids n l = refl

-- one kind more
pub rows_more : (kids : ℕ → List ℕ) (n k : ℕ) (l₀ l next : List ℕ) → l ≡ flowed_rows kids n k l₀ → next ≡ flowed kids ((k + 1) * 1025) n l → next ≡ flowed_rows kids n (k + 1) l₀
unfolding flowed_rows
rows_more kids n k l₀ l next e f = rw (add-one, ← e) (rw add-one at f)

-- the table in the steps that make it
pub served_stored : (stmts kinds bodies state_kinds entries exits zeros : List ℕ) → length zeros ≡ 17425 → ((i : ℕ) → get_or zeros i 0 ≡ 0)
    → (n k : ℕ) → n ≡ count STMTS stmts → k ≡ 16 → (a b l : List ℕ) → a ≡ marked_bodies n (actions_of kinds bodies) zeros → ((flags : List ℕ) → b ≡ marked_ends n (states_of state_kinds entries exits flags) a)
    → l ≡ flowed_rows (parts_in stmts) n k b → (p : Program) → Peopled stmts kinds bodies state_kinds entries exits p → Served p l
served_stored stmts kinds bodies state_kinds entries exits zeros size nothing n k e j a b l f g i p h =
    rw (i, g h.flags, f, j, e) (served_all stmts kinds bodies state_kinds entries exits zeros size nothing p h)
