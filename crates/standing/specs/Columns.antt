-- Laws of a table that is written from a list, as a column of words or as rows of one width, and read back place by place.
use Prim.Native.Nat.{ℕ, zero, suc, ◌+◌, ◌*◌, ◌≤◌, ◌<◌, min}
use Rattle.std.specs.Prelude.{◌≡◌, length, get_or}
use Rattle.std.proofs.Math.Path.{refl, ap}
use Rattle.std.proofs.Common.{sym, ◌∙◌, length-append, get_or-append-add}
use mathlib.Core.List.{List, [], ◌∷◌, ◌++◌, map, append-nil}
use native.Mathlib.Omega.{arith}
use Rattle.std.proofs.Math.ListN.{get_or-append}
use Rattle.lists.specs.Lists.{flat}
use Rattle.lists.specs.Facts.{All-each}
use Rattle.rows.specs.Pad.{pad, pad_get}
use Rattle.rows.specs.Part.{part, part_get}
use Rattle.rows.specs.Seek.{table}
use Rattle.tables.specs.Widths.{flat_part}

module _ {A B : Type 0} (f : ℕ → B) (g : A → B) (d : A) where
  -- A table whose rows, from k on, are the images of a list's places is the list's image.
  pub table_map : (k : ℕ) (l : List A) → ((i : ℕ) → i < length l → f (k + i) ≡ g (get_or l i d)) → table f k (length l) ≡ map g l
  unfolding table
  table_map k [] h = refl
  table_map k (x ∷ l) h =
      let first : f k ≡ g x = let z : k ≡ k + 0 = omega arith in ap f z ∙ h 0 (omega arith) in
      let later : table f (k + 1) (length l) ≡ map g l = table_map (k + 1) l (λ i b. let e : k + 1 + i ≡ k + suc i = omega arith in ap f e ∙ h (suc i) (omega arith)) in
      λ i. first i ∷ later i

  -- So is one of as many rows as are said, where no more are said than it can have.
  pub table_reads : (c size : ℕ) (l : List A) → c ≡ length l → length l ≤ size → ((i : ℕ) → i < length l → f (1 + i) ≡ g (get_or l i d))
      → table f 1 (min c size) ≡ map g l
  table_reads c size l e h k = let n : min c size ≡ length l = omega arith in rw n (table_map 1 l k)

-- COLUMNS
-- a place of a list's image
map_get : {A B : Type 0} (h : A → B) (d : A) (z : B) (l : List A) (i : ℕ) → i < length l → get_or (map h l) i z ≡ h (get_or l i d)
map_get h d z [] i b = absurd (omega arith)
map_get h d z (x ∷ l) zero b = refl
map_get h d z (x ∷ l) (suc i) b = map_get h d z l i (omega arith)

-- what stands in place 0
pub head_get : (size n : ℕ) (r : List ℕ) → get_or (pad 0 size (n ∷ r)) 0 0 ≡ n
head_get size n r = pad_get 0 size (n ∷ r) 0

-- what stands in the place of a number
pub column_get : {A : Type 0} (h : A → ℕ) (d : A) (size n : ℕ) (l : List A) (i : ℕ) → i < length l → get_or (pad 0 size (n ∷ map h l)) (1 + i) 0 ≡ h (get_or l i d)
column_get h d size n l i b =
    let e : 1 + i ≡ suc i = omega arith in
    pad_get 0 size (n ∷ map h l) (1 + i) ∙ ap (λ (k : ℕ). get_or (n ∷ map h l) k 0) e ∙ map_get h d 0 l i b

-- ROWS OF ONE WIDTH
module _ {A : Type 0} (row : A → List ℕ) (w : ℕ) (d : A) (width : (x : A) → length (row x) ≡ w) where
  -- place j of row i, counted from 0
  flat_get : (l : List A) (i j : ℕ) → i < length l → j < w → get_or (flat row l) (i * w + j) 0 ≡ get_or (row (get_or l i d)) j 0
  flat_get l i j b h =
      sym (part_get (i * w) w (flat row l) j 0 h) ∙ ap (λ (r : List ℕ). get_or (part (i * w) w r) j 0) (sym (append-nil (flat row l)))
      ∙ ap (λ (r : List ℕ). get_or r j 0) (flat_part row w d l [] i b (All-each (λ x. length (row x) ≡ w) width l))

  -- of a run of rows, with others before and behind it
  pub row_within : (size : ℕ) (before l behind : List A) (i j k : ℕ) → i < length l → j < w → k ≡ (length before + i) * w + j
      → get_or (pad 0 size (flat row (before ++ (l ++ behind)))) k 0 ≡ get_or (row (get_or l i d)) j 0
  row_within size before l behind i j k b h e =
      let n : length before + i < length (before ++ (l ++ behind)) = simp length-append (omega arith) in
      let same : get_or (before ++ (l ++ behind)) (length before + i) d ≡ get_or l i d = get_or-append-add before (l ++ behind) i d ∙ get_or-append l behind d i b in
      pad_get 0 size (flat row (before ++ (l ++ behind))) k ∙ ap (λ (m : ℕ). get_or (flat row (before ++ (l ++ behind))) m 0) e
      ∙ flat_get (before ++ (l ++ behind)) (length before + i) j n h ∙ ap (λ (x : A). get_or (row x) j 0) same

  -- with a row in front
  pub row_after : (size : ℕ) (front : List ℕ) (l : List A) (i j k : ℕ) → length front ≡ w → i < length l → j < w → k ≡ w + (i * w + j)
      → get_or (pad 0 size (front ++ flat row l)) k 0 ≡ get_or (row (get_or l i d)) j 0
  row_after size front l i j k f b h e =
      let n : k ≡ length front + (i * w + j) = omega arith in
      pad_get 0 size (front ++ flat row l) k ∙ ap (λ (m : ℕ). get_or (front ++ flat row l) m 0) n ∙ get_or-append-add front (flat row l) (i * w + j) 0 ∙ flat_get l i j b h
