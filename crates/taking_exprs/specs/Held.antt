-- What the loader's array of expressions holds while it reads: the table of the lines so far. Where the next line is in range there is room for it.
use Rattle.std.specs.Prelude.{ℕ, ◌+◌, ◌-◌, ◌≤◌, min, ◌≡◌, refl, Bool, true, false, ◌&&◌, List, [], ◌∷◌, ◌++◌, length, get_or}
use Rattle.std.proofs.Common.{arith}
use Rattle.programs.specs.Sizes.{EXPRS}
use Rattle.programs.specs.declared.Expr.{Expr}
use Rattle.texts.specs.Forms.{expr_line}
use Rattle.texts.specs.Reading.{next}
use Rattle.tabled.specs.Tabled.{expr_table}
use Rattle.putting.specs.Asked.{ExprRoom}
use Rattle.putting.specs.Counts.{expr_count}
use Rattle.numerals.specs.Numerals.{CAP}
use Rattle.spoken.specs.Spoken.{number_at, line_at}
use Rattle.spoken.specs.Counted.{next_told, next_room}
use Rattle.spoken.specs.Took.{Took, took, refused}
use Rattle.taking_exprs.specs.Lines.{Valued, Plain, own_says}

-- EXPRESSIONS so far
pub record ExprHeld (exprs : List ℕ) : Type 0 where
  pub rows : List Expr
  pub held : exprs ≡ expr_table rows
  pub few : length rows ≤ EXPRS

module _ {exprs : List ℕ} (h : ExprHeld exprs) where
  -- how many
  pub exprs_count : get_or exprs 0 0 ≡ length h.rows
  exprs_count = rw h.held (expr_count h.rows)

  -- room for the next
  abbrev pub expr_room : (i : ℕ) → next EXPRS (get_or exprs 0 0) i ≡ true → ExprRoom exprs
  expr_room i e = record { rows = h.rows; held = h.held; room = omega (arith, exprs_count, next_room EXPRS (get_or exprs 0 0) i e) }

  -- how many, at most
  pub exprs_few : get_or exprs 0 0 ≤ EXPRS
  exprs_few = omega (arith, exprs_count, h.few)

  -- THE LINE at the places, in form number row; x is its own number as the code has it
  module _ (s places : List ℕ) (row : ℕ) (low : 10 ≤ row) (high : row ≤ 23) {i : ℕ} {b : Bool} {e : Expr} (q : line_at s places row ≡ expr_line i b e) where
    -- as the forms are counted from 10 on
    pub form : line_at s places (10 + (row - 10)) ≡ expr_line i b e
    form = let r : 10 + (row - 10) ≡ row = omega arith in rw r q

    module _ {x : ℕ} (c : x ≡ min (number_at s places 0) CAP) where
      -- the test of the code
      told : next EXPRS (get_or exprs 0 0) x ≡ next EXPRS (length h.rows) i
      told = next_told EXPRS (omega arith) exprs_count (own_says s places (row - 10) (omega arith) form) c refl

      -- out of sequence
      pub expr_late : {taken kept : Type 0} → next EXPRS (get_or exprs 0 0) x ≡ false → kept → Took false (next EXPRS (length h.rows) i && b) taken kept
      expr_late f k = refused (rw (← told, f)) k

      module _ (t : next EXPRS (get_or exprs 0 0) x ≡ true) {exit : List ℕ} {kept : Type 0} where
        -- with a `val`
        pub expr_valued : {r v : Bool} {d : Expr} → Valued s places v d i b e → Took r v (exit ≡ expr_table (h.rows ++ d ∷ [])) kept
            → Took r (next EXPRS (length h.rows) i && b) (exit ≡ expr_table (h.rows ++ e ∷ [])) kept
        expr_valued p k = rw (← told, t, ← p.range, ← p.expr) k

        -- without one
        pub expr_plain : {k : ℕ} → Plain s places k i b e → exit ≡ expr_table (h.rows ++ e ∷ [])
            → Took true (next EXPRS (length h.rows) i && b) (exit ≡ expr_table (h.rows ++ e ∷ [])) kept
        expr_plain p d = took (rw (← told, t, p.fine)) d
