-- What an accessor makes of its column's number is what the definition has of the table's row there, or of what stands for none.
use Rattle.std.proofs.Common.{◌≡◌, ℕ, Bool, true, false, cond, refl, sym, ap, ◌∙◌, List, get_or}
use Rattle.lists.specs.Lists.{at, there}
use Rattle.rows.specs.Seek.{table}
use Rattle.tables.specs.Numbered.{at_there, at_absent}

module _ {A B : Type 0} (of : A → B) (read : ℕ → B) (row : ℕ → A) (none : A) (column : List ℕ) where
  pub of_row : {m n : ℕ} (e : ℕ) → m ≡ n → read (get_or column e 0) ≡ of (row e) → read 0 ≡ of none
      → {x : ℕ} → x ≡ cond (there m e) (get_or column e 0) 0 → read x ≡ of (at none (table row 1 n) e)
  of_row {m} {n} e count here absent {x} is = ap read is ∙ go (there m e) refl
    where
      go : (t : Bool) → there m e ≡ t → read (cond t (get_or column e 0) 0) ≡ of (at none (table row 1 n) e)
      go true q = here ∙ ap of (sym (at_there row none e count q))
      go false q = absent ∙ ap of (sym (at_absent row none e count q))
