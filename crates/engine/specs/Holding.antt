-- How the rows of the flat lists hold the parts of a machine: its row of parts, its stack, its values, its queue.
use Rattle.std.specs.Prelude.{ℕ, ◌+◌, ◌*◌, ◌≤◌, ◌<◌, ◌≡◌, refl, List, [], ◌∷◌, ◌++◌, map, reverse, length, get_or, set}
use Rattle.std.proofs.Common.{◌∙◌, ⊎_elim, inl, inr, arith, get_or-set_other, length-set}
use Rattle.lists.specs.Lists.{flat}
use Rattle.rows.specs.Pad.{pad, below?}
use Rattle.rows.specs.Part.{Off, part, put, put_length, put_out, off_set, part_ext, apart, within}
use Rattle.values.specs.Values.{id_of}
use Rattle.programs.specs.Program.{Program}
use Rattle.machines.specs.Config.{Frame, Pair, Local}
use Rattle.codes.specs.Codes.{code_of}
use Rattle.configs.specs.Encode.{map_codes, pair_number}
use Rattle.parts.specs.Parts.{Row, row_at}

-- off room k, whose places are the w from k * w on, the list ys is xs
pub record Elsewhere (k w : ℕ) (xs ys : List ℕ) : Type 0 where
  pub size : length ys ≡ length xs
  pub same : (j : ℕ) → Off (k * w) w j → get_or ys j 0 ≡ get_or xs j 0

-- OTHER ROOMS
-- their w places are as they were
pub other_row : {k w : ℕ} {xs ys : List ℕ} → Elsewhere k w xs ys → (j : ℕ) → j < 32 → (j ≡ k → ⊥) → length xs ≡ 32 * w → part (j * w) w ys ≡ part (j * w) w xs
other_row {k = k} {w = w} {xs = xs} {ys = ys} off j h n size = part_ext 0 (j * w) w xs ys (rw size (within w 32 j h)) off.size
    (λ i b. off.same (j * w + i) (⊎_elim (λ (a : j * w + w ≤ k * w). inl (omega arith)) (λ (a : k * w + w ≤ j * w). inr (omega arith)) (apart w k j n)))

-- and so is the one place
pub other_place : {k : ℕ} {xs ys : List ℕ} → Elsewhere k 1 xs ys → (j : ℕ) → (j ≡ k → ⊥) → get_or ys j 0 ≡ get_or xs j 0
other_place {k = k} off j n = off.same j (⊎_elim (λ (a : j < k). inl (omega arith)) (λ (a : k ≤ j). inr (omega arith)) (below? j k))

-- a list that is not touched
pub untouched : {k w : ℕ} {xs : List ℕ} → Elsewhere k w xs xs
untouched = record { size = refl; same = λ j o. refl }

-- a store to one of the room's places
pub touched : (k w j v : ℕ) (xs : List ℕ) → j < w → Elsewhere k w xs (set xs (k * w + j) v)
touched k w j v xs h = record { size = length-set xs (k * w + j) v; same = off_set 0 (k * w) w j v xs h }

-- to its one place
pub touched_place : (k v : ℕ) (xs : List ℕ) → Elsewhere k 1 xs (set xs k v)
touched_place k v xs = record {
  size = length-set xs k v;
  same = λ i o. get_or-set_other xs k i v 0 (λ e. ⊎_elim (λ (a : i < k * 1). omega arith) (λ (a : k * 1 + 1 ≤ i). omega arith) o);
}

-- a run of stores in its places
pub touched_run : (k w c : ℕ) (r xs : List ℕ) → c + length r ≤ w → k * w + w ≤ length xs → Elsewhere k w xs (put (k * w + c) r xs)
touched_run k w c r xs h i = record {
  size = put_length (k * w + c) r xs (omega arith);
  same = λ j o. put_out (k * w + c) r xs j 0 (omega arith) (⊎_elim (λ (u : j < k * w). inl (omega arith)) (λ (u : k * w + w ≤ j). inr (omega arith)) o);
}

-- one after another
pub touched_then : {k w : ℕ} {xs ys zs : List ℕ} → Elsewhere k w xs ys → Elsewhere k w ys zs → Elsewhere k w xs zs
touched_then a b = record { size = b.size ∙ a.size; same = λ j o. b.same j o ∙ a.same j o }

-- THE ROW r of parts stands in room k
pub record RowHeld (k : ℕ) (counts parts r : List ℕ) : Type 0 where
  pub rooms : length counts ≡ 32
  pub room : k < 32
  pub row : Row (k * 33) (get_or counts k 0) parts
  pub reads : row_at (k * 33) (get_or counts k 0) parts ≡ r

-- a row after a change of room k: off the room nothing changes, and for each program of which Of holds the row is what f says of the row before
pub record RowBecomes (k : ℕ) (counts parts : List ℕ) (Of : Program → Type 0) (f : Program → List ℕ → List ℕ) (counts' parts' : List ℕ) : Type 0 where
  pub counts_off : Elsewhere k 1 counts counts'
  pub parts_off : Elsewhere k 33 parts parts'
  pub becomes : (p : Program) → Of p → (r : List ℕ) → RowHeld k counts parts r → RowHeld k counts' parts' (f p r)

-- THE STACK γ, its top first, stands in room k
pub record StackHeld (k : ℕ) (depths states maps : List ℕ) (γ : List Frame) : Type 0 where
  pub rooms : length depths ≡ 32
  pub states_256 : length states ≡ 256
  pub maps_16384 : length maps ≡ 16384
  pub room : k < 32
  pub depth : get_or depths k 0 ≡ length γ
  pub state_row : part (k * 8) 8 states ≡ pad 0 8 (reverse (map (λ f. f.state) γ))
  pub map_row : part (k * 512) 512 maps ≡ pad 0 512 (flat map_codes (reverse γ))

-- THE VALUES of machine i with the local part l stand in room k
pub record ValuesHeld (k : ℕ) (values : List ℕ) (i : ℕ) (l : Local) : Type 0 where
  pub values_608 : length values ≡ 608
  pub room : k < 32
  pub row : part (k * 19) 19 values ≡ pad 0 16 (map code_of l.variables) ++ code_of (id_of i) ∷ code_of l.msg ∷ code_of l.arg ∷ []

-- THE QUEUE q stands in room k
pub record QueueHeld (k : ℕ) (waiting pairs : List ℕ) (q : List Pair) : Type 0 where
  pub rooms : length waiting ≡ 32
  pub pairs_512 : length pairs ≡ 512
  pub room : k < 32
  pub count : get_or waiting k 0 ≡ length q
  pub row : part (k * 16) 16 pairs ≡ pad 0 16 (map pair_number q)
