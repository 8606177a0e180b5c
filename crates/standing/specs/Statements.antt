-- The statements of a program and the pairs of their init lists, read back from their table and the pool.
use Rattle.std.specs.Prelude.{ℕ, suc, ◌+◌, ◌-◌, ◌*◌, ◌≤◌, ◌<◌, min, ◌≡◌, refl, List, [], ◌∷◌, ◌++◌, map, length, get_or}
use Rattle.std.proofs.Common.{ap, sym, ◌∙◌, append_assoc, arith, length-append}
use Rattle.lists.specs.Lists.{All, flat}
use Rattle.rows.specs.Pad.{pad}
use Rattle.programs.specs.Sizes.{STMTS}
use Rattle.programs.specs.Program.{Stmt, skip, assign, new, delete, send, raise, leave, return, assert, seq, if, while}
use Rattle.soundness.specs.Asked.{init_of}
use Rattle.tables.specs.declared.Head.{Head}
use Rattle.tables.specs.Decode.{byte, head_of, head_in, heads_of, pair_in, PAIRS, pairs_of, stmt_of, stmts_of}
use Rattle.tabled.specs.Tabled.{word_of, stmt_row, stmt_rows, stmt_table, pair_row, init_pool}
use Rattle.tabled.specs.Widths.{stmt_five}
use Rattle.standing.specs.Stood.{byte_again, pair_stood, stmt_stood}
use Rattle.standing.specs.Columns.{table_map, table_reads, head_get, row_within, row_after}

-- EACH STATEMENT WITH THE PLACE OF ITS FIRST PAIR
abbrev placed : ℕ → List Stmt → List (ℕ × Stmt)
placed i [] = []
placed i (s ∷ ss) = (i, s) ∷ placed (i + length (init_of s)) ss

-- as many as the statements
placed_length : (i : ℕ) (ss : List Stmt) → length (placed i ss) ≡ length ss
placed_length i [] = refl
placed_length i (s ∷ ss) = ap suc (placed_length (i + length (init_of s)) ss)

-- the row of one
abbrev row_of : ℕ × Stmt → List ℕ
row_of x = stmt_row x.0 x.1

-- the rows of all
placed_rows : (i : ℕ) (ss : List Stmt) → stmt_rows i ss ≡ flat row_of (placed i ss)
placed_rows i [] = refl
placed_rows i (s ∷ ss) = ap (λ (r : List ℕ). stmt_row i s ++ r) (placed_rows (i + length (init_of s)) ss)

-- THE HEADS
-- a row read
abbrev row_head : ℕ → ℕ → ℕ → ℕ → ℕ → Head
row_head k x y z n = head_of k x y z n (byte x) (byte y)

-- a statement's
abbrev head_read : ℕ × Stmt → Head
head_read x = row_head (get_or (row_of x) 0 0) (get_or (row_of x) 1 0) (get_or (row_of x) 2 0) (get_or (row_of x) 3 0) (get_or (row_of x) 4 0)

-- the heads are those of the rows
heads_read : (ss : List Stmt) → length ss ≤ STMTS → heads_of (stmt_table ss) ≡ map head_read (placed 0 ss)
unfolding heads_of stmt_table
heads_read ss h = rw (placed_rows 0 ss) (table_reads (head_in (pad 0 5125 (length ss ∷ 0 ∷ 0 ∷ 0 ∷ 0 ∷ flat row_of (placed 0 ss)))) head_read (0, skip) _ STMTS (placed 0 ss)
    (head_get 5125 (length ss) _ ∙ sym (placed_length 0 ss)) (omega (arith, placed_length 0 ss)) (λ i b.
    λ j. row_head (cell i b 0 ((1 + i) * 5) (omega arith) (omega arith) j) (cell i b 1 ((1 + i) * 5 + 1) (omega arith) (omega arith) j)
    (cell i b 2 ((1 + i) * 5 + 2) (omega arith) (omega arith) j) (cell i b 3 ((1 + i) * 5 + 3) (omega arith) (omega arith) j)
    (cell i b 4 ((1 + i) * 5 + 4) (omega arith) (omega arith) j)))
  where
    -- word j of statement i
    cell : (i : ℕ) → i < length (placed 0 ss) → (j k : ℕ) → j < 5 → k ≡ 5 + (i * 5 + j)
        → get_or (pad 0 5125 (length ss ∷ 0 ∷ 0 ∷ 0 ∷ 0 ∷ flat row_of (placed 0 ss))) k 0 ≡ get_or (row_of (get_or (placed 0 ss) i (0, skip))) j 0
    cell i b j k h e = row_after row_of 5 (0, skip) (λ x. stmt_five x.0 x.1) 5125 (length ss ∷ 0 ∷ 0 ∷ 0 ∷ 0 ∷ []) (placed 0 ss) i j k refl b h e

-- THE PAIRS
-- the pool has this statement's pairs from its place on
abbrev Pooled : List ℕ → ℕ × Stmt → Type 0
Pooled pool x = pairs_of pool x.0 (length (init_of x.1)) ≡ map pair_stood (init_of x.1)

-- a run of the pairs, with others before and behind it
pairs_read : (before l behind : List (ℕ × ℕ)) → length before + length l ≤ PAIRS
    → pairs_of (pad 0 30000 (flat pair_row (before ++ (l ++ behind)))) (length before) (length l) ≡ map pair_stood l
unfolding pairs_of
pairs_read before l behind h =
    let n : min (length l) (PAIRS - length before) ≡ length l = omega arith in
    rw n (table_map (pair_in (pad 0 30000 (flat pair_row (before ++ (l ++ behind))))) pair_stood (0, 0) (length before) l (λ i b. λ j.
    (cell i b 0 ((length before + i) * 2) (omega arith) (omega arith) j, cell i b 1 ((length before + i) * 2 + 1) (omega arith) (omega arith) j)))
  where
    -- word j of pair i
    cell : (i : ℕ) → i < length l → (j k : ℕ) → j < 2 → k ≡ (length before + i) * 2 + j
        → get_or (pad 0 30000 (flat pair_row (before ++ (l ++ behind)))) k 0 ≡ get_or (pair_row (get_or l i (0, 0))) j 0
    cell i b j k h e = row_within pair_row 2 (0, 0) (λ x. refl) 30000 before l behind i j k b h e

-- so it is of every statement, with these pairs before them
all_pooled : (before : List (ℕ × ℕ)) (ss : List Stmt) → length before + length (flat init_of ss) ≤ PAIRS
    → All (Pooled (pad 0 30000 (flat pair_row (before ++ flat init_of ss)))) (placed (length before) ss)
all_pooled before [] h = tt
all_pooled before (s ∷ ss) h =
    let n : length (flat init_of (s ∷ ss)) ≡ length (init_of s) + length (flat init_of ss) = length-append (init_of s) (flat init_of ss) in
    let m : length (before ++ init_of s) ≡ length before + length (init_of s) = length-append before (init_of s) in
    let later = all_pooled (before ++ init_of s) ss (omega arith) in
    (pairs_read before (init_of s) (flat init_of ss) (omega arith), rw (append_assoc before (init_of s) (flat init_of ss), m) at later)

-- THE STATEMENTS
-- one, read with its pairs
stmt_back : (pool : List ℕ) (i : ℕ) (s : Stmt) → Pooled pool (i, s) → stmt_of pool (head_read (i, s)) ≡ stmt_stood s
unfolding head_of
stmt_back pool i skip h = refl
stmt_back pool i (assign x e) h = refl
stmt_back pool i (new x k l) h = λ j. new (word_of x) (byte_again k j) (h j)
stmt_back pool i delete h = refl
stmt_back pool i (send t e a) h = λ j. send (word_of t) (byte_again e j) (word_of a)
stmt_back pool i (raise e a) h = λ j. raise (byte_again e j) (word_of a)
stmt_back pool i leave h = refl
stmt_back pool i return h = refl
stmt_back pool i (assert e) h = refl
stmt_back pool i (seq a b) h = refl
stmt_back pool i (if e a b) h = refl
stmt_back pool i (while e a) h = refl

-- all of them
stmts_back : (pool : List ℕ) (i : ℕ) (ss : List Stmt) → All (Pooled pool) (placed i ss) → map (stmt_of pool) (map head_read (placed i ss)) ≡ map stmt_stood ss
stmts_back pool i [] h = refl
stmts_back pool i (s ∷ ss) h =
    let first = stmt_back pool i s h.0 in
    let later = stmts_back pool (i + length (init_of s)) ss h.1 in
    λ j. first j ∷ later j

-- the statements
pub stmts_read : (ss : List Stmt) → length ss ≤ STMTS → length (flat init_of ss) ≤ PAIRS → stmts_of (stmt_table ss) (init_pool ss) ≡ map stmt_stood ss
unfolding stmts_of init_pool
stmts_read ss h k = ap (map (stmt_of (pad 0 30000 (flat pair_row (flat init_of ss))))) (heads_read ss h) ∙ stmts_back _ 0 ss (all_pooled [] ss (omega arith))
