-- The flags of one more state: its row put at its place; nothing where the row is zeros.
use Rattle.std.specs.Prelude.{ℕ, zero, suc, ◌+◌, ◌*◌, ◌≤◌, ◌≡◌, refl, false, length, replicate}
use Rattle.std.proofs.Math.Path.{ap}
use Rattle.std.proofs.Common.{sym, ◌∙◌, arith, length-append}
use mathlib.Core.List.{List, [], ◌∷◌, ◌++◌, append_assoc}
use Rattle.std.proofs.lemmas.List.{length-replicate}
use Rattle.lists.specs.Lists.{flat}
use Rattle.lists.specs.Keep.{flat_snoc}
use Rattle.rows.specs.Pad.{pad}
use Rattle.rows.specs.Part.{put}
use Rattle.rows.specs.Runs.{pad_run, pad_zeros}
use Rattle.rows.specs.Seek.{table}
use Rattle.programs.specs.Sizes.{STATES}
use Rattle.programs.specs.Program.{State}
use Rattle.tabled.specs.Tabled.{deferrable, flag_row, defer_table}
use Rattle.tabled.specs.Widths.{flag_length}
use Rattle.putting.specs.Counts.{flag_rows}

module _ (ns : List State) (s : State) (n : ℕ) (e : n ≡ length ns + 1) (h : n ≤ STATES) where
  -- the rows so far, with the one of no state
  rows_so_far : length (replicate 65 0 ++ flat flag_row ns) ≡ n * 65
  rows_so_far = simp (length-append, length-replicate) (omega (arith, flag_rows ns))

  -- the flags of state n
  pub flags_put : put (n * 65) (flag_row s) (defer_table ns) ≡ defer_table (ns ++ s ∷ [])
  unfolding defer_table
  flags_put =
      rw (flat_snoc flag_row ns s, ← rows_so_far)
      (pad_run 0 4225 (replicate 65 0 ++ flat flag_row ns) (flag_row s) (omega (arith, rows_so_far, flag_length s))
      ∙ ap (pad 0 4225) (append_assoc (replicate 65 0) (flat flag_row ns) (flag_row s)))

  -- where they are zeros, nothing is put
  pub flags_none : flag_row s ≡ replicate 65 0 → defer_table ns ≡ defer_table (ns ++ s ∷ [])
  unfolding defer_table
  flags_none z =
      rw (flat_snoc flag_row ns s, z, ← append_assoc (replicate 65 0) (flat flag_row ns) (replicate 65 0))
      (sym (pad_zeros 0 4225 65 (replicate 65 0 ++ flat flag_row ns) (omega (arith, rows_so_far))))

-- a table of one number
table_same : {A : Type 0} (a : A) (k n : ℕ) → table (λ _. a) k n ≡ replicate n a
unfolding table
table_same a k zero = refl
table_same a k (suc n) = rw (table_same a (k + 1) n)

-- so they are of a state that defers nothing,
pub zeros_none : (s : State) → s.defer ≡ [] → flag_row s ≡ replicate 65 0
zeros_none s h = simp h (table_same 0 0 65)

-- and of one that defers what can be no event
pub zeros_absent : (s : State) → deferrable s ≡ false → flag_row s ≡ replicate 65 0
zeros_absent s h = simp h (table_same 0 0 65)
