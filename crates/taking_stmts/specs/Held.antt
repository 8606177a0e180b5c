-- What the loader's arrays of statements and pairs hold while it reads: the tables of the lines so far. Where the next line is in range there is room for it.
use Rattle.std.specs.Prelude.{ℕ, ◌+◌, ◌-◌, ◌*◌, ◌≤◌, ◌<◌, min, ◌≡◌, refl, true, List, [], ◌∷◌, ◌++◌, length, get_or}
use Rattle.std.proofs.Common.{ap, sym, ◌∙◌, append-nil, arith, length-append}
use Rattle.lists.specs.Lists.{is_some, flat}
use Rattle.lists.specs.Keep.{flat_snoc}
use Rattle.rows.specs.Part.{put}
use Rattle.programs.specs.Sizes.{STMTS}
use Rattle.programs.specs.Program.{Stmt}
use Rattle.soundness.specs.Asked.{init_of}
use Rattle.tables.specs.Decode.{PAIRS}
use Rattle.texts.specs.Numbers.{pairs}
use Rattle.texts.specs.Forms.{stmt_line}
use Rattle.texts.specs.Reading.{next}
use Rattle.tabled.specs.Tabled.{word_of, stmt_row, stmt_table, pair_row, init_pool}
use Rattle.numerals.specs.Numerals.{CAP}
use Rattle.spoken.specs.Spoken.{value_at, number_at, pairs_at, line_at}
use Rattle.spoken.specs.Counted.{next_told, next_room}
use Rattle.putting.specs.Asked.{StmtRoom}
use Rattle.putting.specs.Counts.{stmt_count, pool_length}
use Rattle.putting.specs.Pool.{pairs_put, pairs_none}
use Rattle.listings.specs.Listings.{pair_list}
use Rattle.listed.specs.Pool.{Poolable, Pooled}
use Rattle.taking_stmts.specs.Lines.{Plain, new_at, own_says}

-- the arrays are the tables of the statements ss, and there are n pairs
pub record StmtTables (ss : List Stmt) (stmts inits : List ℕ) (n : ℕ) : Type 0 where
  pub table : stmts ≡ stmt_table ss
  pub pool : inits ≡ init_pool ss
  pub count : n ≡ length (flat init_of ss)

-- STATEMENTS so far
pub record StmtHeld (stmts inits : List ℕ) (n : ℕ) : Type 0 where
  pub rows : List Stmt
  pub held : StmtTables rows stmts inits n
  pub few : length rows ≤ STMTS

-- room in the pool for the pairs of a line, behind n
pub record PoolRoom (s places : List ℕ) (n : ℕ) : Type 0 where
  pub listed : is_some (pairs (value_at s places 3)) ≡ true
  pub room : n + length (pairs_at s places 3) ≤ PAIRS

-- room for a `new`
pub record NewRoom (s places stmts inits : List ℕ) (n : ℕ) : Type 0 where
  pub rows : List Stmt
  pub held : StmtTables rows stmts inits n
  pub room : length rows < STMTS
  pub pool : PoolRoom s places n

module _ {stmts inits : List ℕ} {n : ℕ} (h : StmtHeld stmts inits n) where
  -- how many
  pub stmts_count : get_or stmts 0 0 ≡ length h.rows
  stmts_count = rw h.held.table (stmt_count h.rows)

  -- how many, at most
  pub stmts_few : get_or stmts 0 0 ≤ STMTS
  stmts_few = omega (arith, stmts_count, h.few)

  -- room for the next
  abbrev pub stmt_room : (i : ℕ) → next STMTS (get_or stmts 0 0) i ≡ true → StmtRoom stmts
  stmt_room i e = record { rows = h.rows; held = h.held.table; room = omega (arith, stmts_count, next_room STMTS (get_or stmts 0 0) i e) }

  -- room for the next, if it is a `new`
  abbrev pub new_room : (s places : List ℕ) (i : ℕ) → next STMTS (get_or stmts 0 0) i ≡ true → PoolRoom s places n → NewRoom s places stmts inits n
  new_room s places i e p = record { rows = h.rows; held = h.held; room = omega (arith, stmts_count, next_room STMTS (get_or stmts 0 0) i e); pool = p }

  -- THE LINE at the places, in form number row; x is its own number as the code has it
  module _ (s places : List ℕ) (row : ℕ) (low : 24 ≤ row) (high : row ≤ 35) {i : ℕ} {t : Stmt} (q : line_at s places row ≡ stmt_line i t) where
    -- as the forms are counted from 24 on
    pub form : line_at s places (24 + (row - 24)) ≡ stmt_line i t
    form = let r : 24 + (row - 24) ≡ row = omega arith in rw r q

    -- the test of the code
    pub stmt_next : {x : ℕ} → x ≡ min (number_at s places 0) CAP → next STMTS (get_or stmts 0 0) x ≡ next STMTS (length h.rows) i
    stmt_next c = next_told STMTS (omega arith) stmts_count (own_says s places (row - 24) (omega arith) form) c refl

  -- one more that is no `new`
  pub plain_put : {s places exit : List ℕ} {k i : ℕ} {t : Stmt} → Plain s places k i t → exit ≡ stmt_table (h.rows ++ t ∷ []) → StmtTables (h.rows ++ t ∷ []) exit inits n
  plain_put {s} {places} {exit} {k} {i} {t} p e = record {
    table = e;
    pool = h.held.pool ∙ pairs_none h.rows t p.inits;
    count = rw (flat_snoc init_of h.rows t, p.inits) (h.held.count ∙ ap length (sym (append-nil (flat init_of h.rows))));
  }

-- A `new`
module _ {s places stmts inits : List ℕ} {n : ℕ} (h : NewRoom s places stmts inits n) where
  -- room for its row
  abbrev pub row_room : StmtRoom stmts
  row_room = record { rows = h.rows; held = h.held.table; room = h.room }

  module _ {d : List ℕ} (e : d ≡ value_at s places 3) where
    -- room for its pairs, that the bytes d say
    pub pairs_room : Poolable d inits n
    pairs_room = rw e (record {
      listed = h.pool.listed;
      long = rw h.held.pool (pool_length h.rows (omega (arith, h.held.count, h.pool.room)));
      room = h.pool.room;
    })

    module _ {m : ℕ} {ys : List ℕ} (p : Pooled d inits n m ys) where
      -- how many there are
      pub pairs_count : m ≡ length (pairs_at s places 3)
      pairs_count = p.count ∙ ap (λ l. length (pair_list l)) e

      -- with them, at most
      pub pairs_few : n + m ≤ PAIRS
      pairs_few = omega (arith, pairs_count, h.pool.room)

      -- its row
      pub new_row : {x y : ℕ} → x ≡ word_of (number_at s places 1) → y ≡ word_of (number_at s places 2)
          → stmt_row (length (flat init_of h.rows)) (new_at s places) ≡ 2 ∷ x ∷ y ∷ n ∷ m ∷ []
      new_row a b = rw (a, b, pairs_count, h.held.count)

      -- one more
      pub new_put : {exit : List ℕ} → exit ≡ stmt_table (h.rows ++ new_at s places ∷ []) → StmtTables (h.rows ++ new_at s places ∷ []) exit ys (n + m)
      new_put t = record {
        table = t;
        pool = p.stored ∙ ap (λ l. put (n * 2) (flat pair_row (pair_list l)) inits) e ∙ ap (put (n * 2) (flat pair_row (pairs_at s places 3))) h.held.pool
            ∙ pairs_put h.rows (new_at s places) n h.held.count h.pool.room;
        count = rw (flat_snoc init_of h.rows (new_at s places), length-append (flat init_of h.rows) (pairs_at s places 3), ← h.held.count, pairs_count);
      }
