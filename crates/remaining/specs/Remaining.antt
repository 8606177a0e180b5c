-- What the functions of src/lib.rt are asked of the row of parts in room k, and what each store makes of it.
use Rattle.std.specs.Prelude.{ℕ, zero, suc, ◌+◌, ◌-◌, ◌*◌, ◌≤◌, ◌<◌, ◌≡◌, refl, Bool, List, [], ◌∷◌, length, get_or, set, drop, replicate}
use Rattle.std.proofs.Common.{sym, ap, ◌∙◌, subst, inl, inr, ⊎_elim, add-one, arith, length-set, get_or-set_same, get_or-set_other}
use Rattle.std.proofs.Math.Logic.{dite}
use Rattle.std.proofs.Math.Decide.{ℕ_discrete}
use Rattle.std.proofs.lemmas.List.{length-replicate, get_or-replicate}
use Rattle.rows.specs.Pad.{below?}
use Rattle.rows.specs.Part.{Off, put, put_length, put_in, put_out}
use Rattle.programs.specs.Sizes.{ROW}
use Rattle.programs.specs.Program.{Program}
use Rattle.programs.specs.Statements.{height}
use Rattle.kept.specs.KeptRow.{height_low}
use Rattle.parts.specs.Parts.{Row, row_at, row_ext, row_head, Said, Any, Ready, Becomes, becomes_then, finished, tidied}
use Rattle.engine.specs.Holding.{RowHeld, RowBecomes}

-- a row stands in room k,
pub record Standing (k : ℕ) (counts parts : List ℕ) : Type 0 where
  pub rooms : length counts ≡ 32
  pub room : k < 32
  pub row : Row (k * 33) (get_or counts k 0) parts

-- which has a head
pub record Headed (k : ℕ) (counts parts : List ℕ) : Type 0 where
  pub standing : Standing k counts parts
  pub some : 1 ≤ get_or counts k 0

-- a row stands in room k, and there is room for the parts of statement a with j parts behind it
pub record Placing (stmts : List ℕ) (k : ℕ) (counts parts : List ℕ) (a j : ℕ) : Type 0 where
  pub standing : Standing k counts parts
  pub program : Program
  pub said : Said stmts program
  pub low : height program a + j ≤ 33

-- a row that has a head stands in room k, and there is room for the parts of the one behind the head
pub record Dropping (stmts : List ℕ) (k : ℕ) (counts parts : List ℕ) : Type 0 where
  pub headed : Headed k counts parts
  pub program : Program
  pub said : Said stmts program
  pub low : (l : ℕ) → l + 2 ≡ get_or counts k 0 → height program (get_or parts (k * 33 + l) 0) + l ≤ 33

-- the row that stands there
pub stands : (k : ℕ) (counts parts : List ℕ) → Standing k counts parts → RowHeld k counts parts (row_at (k * 33) (get_or counts k 0) parts)
stands k counts parts s = record { rooms = s.rooms; room = s.room; row = s.row; reads = refl }

-- a row that is held stands there
pub standing : {k : ℕ} {counts parts r : List ℕ} → RowHeld k counts parts r → Standing k counts parts
standing h = record { rooms = h.rooms; room = h.room; row = h.row }

-- STORES
-- a change for any program is one for some
pub for_some : {b n m : ℕ} {xs ys : List ℕ} {f : Program → List ℕ → List ℕ} {Of : Program → Type 0} → Becomes b n xs Any f m ys → Becomes b n xs Of f m ys
for_some h = record { row = h.row; off = h.off; reads = λ p o. h.reads p tt }

-- a store of one of the room's places leaves what is off them
off_store : (b l v : ℕ) (xs : List ℕ) → l < ROW → (j : ℕ) → Off b ROW j → get_or (set xs (b + l) v) j 0 ≡ get_or xs j 0
off_store b l v xs h j o = get_or-set_other xs (b + l) j v 0 (λ e. ⊎_elim (λ (i : j < b). omega arith) (λ (i : b + ROW ≤ j). omega arith) o)

module _ (b l v : ℕ) (xs : List ℕ) where
  -- another head
  pub head_replaced : (n : ℕ) → l + 1 ≡ n → Row b n xs → Becomes b n xs Any (λ p r. v ∷ drop 1 r) n (set xs (b + l) v)
  head_replaced n e row = record {
    row = record {
      long = length-set xs (b + l) v ∙ row.long;
      inside = row.inside;
      fits = row.fits;
      zeros = λ j i h. get_or-set_other xs (b + l) (b + j) v 0 (λ z. omega arith) ∙ row.zeros j i h;
    };
    off = off_store b l v xs (omega (arith, row.fits));
    reads = λ p o. let q : n ≡ suc l = omega arith in rw q (row_head b l v xs (omega (arith, row.long, row.inside, row.fits)));
  }

  -- one more
  pub head_pushed : Row b l xs → l < ROW → Becomes b l xs Any (λ p r. v ∷ r) (l + 1) (set xs (b + l) v)
  head_pushed row h = record {
    row = record {
      long = length-set xs (b + l) v ∙ row.long;
      inside = row.inside;
      fits = omega arith;
      zeros = λ j i q. get_or-set_other xs (b + l) (b + j) v 0 (λ e. omega arith) ∙ row.zeros j (omega arith) q;
    };
    off = off_store b l v xs h;
    reads = λ p o. rw (add-one l) (row_head b l v xs (omega (arith, row.long, row.inside)));
  }

-- one less
pub head_dropped : (b l n : ℕ) (xs : List ℕ) → l + 1 ≡ n → Row b n xs → Becomes b n xs Any (λ p r. drop 1 r) l (set xs (b + l) 0)
head_dropped b l n xs e row = record {
  row = record {
    long = length-set xs (b + l) 0 ∙ row.long;
    inside = row.inside;
    fits = omega (arith, row.fits);
    zeros = zeros;
  };
  off = off_store b l 0 xs (omega (arith, row.fits));
  reads = λ p o. let q : n ≡ suc l = omega arith in rw q (row_ext b l xs (set xs (b + l) 0) (λ j h. get_or-set_other xs (b + l) (b + j) 0 0 (λ z. omega arith)));
}
  where
    zeros : (j : ℕ) → l ≤ j → j < ROW → get_or (set xs (b + l) 0) (b + j) 0 ≡ 0
    zeros j i h = dite (ℕ_discrete j l)
        (λ (z : j ≡ l). rw z (get_or-set_same xs (b + l) 0 0 (omega (arith, row.long, row.inside, row.fits))))
        (λ (z : j ≡ l → ⊥). get_or-set_other xs (b + l) (b + j) 0 0 (λ t. z (omega arith)) ∙ row.zeros j (omega arith) h)

-- the head finished, in a row that has one
pub head_finished : {b n m : ℕ} {xs ys : List ℕ} (w : Bool) → 1 ≤ n → Becomes b n xs Any (finished w) m ys → Becomes b n xs Any (λ p r. tidied w p (0 ∷ drop 1 r)) m ys
head_finished {b = b} {n = n} {xs = xs} w h c = record { row = c.row; off = c.off; reads = λ p o. c.reads p o ∙ go n h p }
  where
    go : (n : ℕ) → 1 ≤ n → (p : Program) → finished w p (row_at b n xs) ≡ tidied w p (0 ∷ drop 1 (row_at b n xs))
    go zero h p = absurd (omega arith)
    go (suc n) h p = refl

-- THE COUNT STORED, TOO
pub counted : {k m : ℕ} {counts parts parts' : List ℕ} {Of : Program → Type 0} {f : Program → List ℕ → List ℕ}
    → Standing k counts parts → Becomes (k * 33) (get_or counts k 0) parts Of f m parts' → RowBecomes k counts parts Of f (set counts k m) parts'
counted {k = k} {m = m} {counts = counts} {f = f} s c = record {
  counts_off = record { size = length-set counts k m; same = λ j o. get_or-set_other counts k j m 0 (λ e. ⊎_elim (λ (i : j < k * 1). omega arith) (λ (i : k * 1 + 1 ≤ j). omega arith) o) };
  parts_off = record { size = c.row.long ∙ sym s.row.long; same = c.off };
  becomes = λ p o r h. record {
    rooms = length-set counts k m ∙ s.rooms;
    room = s.room;
    row = rw e c.row;
    reads = rw e (c.reads p o ∙ ap (f p) h.reads);
  };
}
  where
    e : get_or (set counts k m) k 0 ≡ m
    e = get_or-set_same counts k m 0 (omega (arith, s.rooms, s.room))

-- one change after another
pub and_then : {k : ℕ} {c c' c'' r r' r'' : List ℕ} {Of : Program → Type 0} {f g : Program → List ℕ → List ℕ}
    → RowBecomes k c r Any f c' r' → RowBecomes k c' r' Of g c'' r'' → RowBecomes k c r Of (λ p x. g p (f p x)) c'' r''
and_then {f = f} a b = record {
  counts_off = record { size = b.counts_off.size ∙ a.counts_off.size; same = λ j o. b.counts_off.same j o ∙ a.counts_off.same j o };
  parts_off = record { size = b.parts_off.size ∙ a.parts_off.size; same = λ j o. b.parts_off.same j o ∙ a.parts_off.same j o };
  becomes = λ p o x h. b.becomes p o (f p x) (a.becomes p tt x h);
}

-- WHAT EACH FUNCTION LEAVES, and what is asked of tidy on the way
-- the head finished
pub finish_left : {k : ℕ} {counts parts : List ℕ} (w : Bool) {m : ℕ} {parts' : List ℕ} → Headed k counts parts → Becomes (k * 33) (get_or counts k 0) parts Any (finished w) m parts'
    → RowBecomes k counts parts Any (λ p r. tidied w p (0 ∷ drop 1 r)) (set counts k m) parts'
finish_left w h c = counted h.standing (head_finished w h.some c)

module _ {stmts : List ℕ} {k : ℕ} {counts parts : List ℕ} {a : ℕ} where
  -- another head
  module _ (h : Headed k counts parts) (at : Placing stmts k counts parts a (get_or counts k 0 - 1)) where
    -- its place is the last one
    last : get_or counts k 0 - 1 + 1 ≡ get_or counts k 0
    last = omega (arith, h.some)

    pub replace_ready : Ready stmts (k * 33) (get_or counts k 0) (set parts (k * 33 + (get_or counts k 0 - 1)) a)
    replace_ready = record {
      row = (head_replaced (k * 33) (get_or counts k 0 - 1) a parts (get_or counts k 0) last h.standing.row).row;
      some = h.some;
      program = at.program;
      said = at.said;
      low = λ j q. let z : j ≡ get_or counts k 0 - 1 = omega arith in
          rw (z, get_or-set_same parts (k * 33 + (get_or counts k 0 - 1)) a 0 (omega (arith, h.some, h.standing.row.long, h.standing.row.inside, h.standing.row.fits))) at.low;
    }

    pub replace_left : (w : Bool) (m : ℕ) (parts' : List ℕ) → Becomes (k * 33) (get_or counts k 0) (set parts (k * 33 + (get_or counts k 0 - 1)) a) (Said stmts) (tidied w) m parts'
        → RowBecomes k counts parts (Said stmts) (λ p r. tidied w p (a ∷ drop 1 r)) (set counts k m) parts'
    replace_left w m parts' c = counted h.standing (becomes_then (for_some (head_replaced (k * 33) (get_or counts k 0 - 1) a parts (get_or counts k 0) last h.standing.row)) c)

  -- one more
  module _ (at : Placing stmts k counts parts a (get_or counts k 0)) where
    -- there is a place for it
    pub push_fits : get_or counts k 0 < 33
    push_fits = omega (arith, at.low, height_low at.program at.said.founded a)

    pub push_ready : Ready stmts (k * 33) (get_or counts k 0 + 1) (set parts (k * 33 + get_or counts k 0) a)
    push_ready = record {
      row = (head_pushed (k * 33) (get_or counts k 0) a parts at.standing.row push_fits).row;
      some = omega arith;
      program = at.program;
      said = at.said;
      low = λ j q. let z : j ≡ get_or counts k 0 = omega arith in
          rw (z, get_or-set_same parts (k * 33 + get_or counts k 0) a 0 (omega (arith, push_fits, at.standing.row.long, at.standing.row.inside))) at.low;
    }

    pub push_left : (w : Bool) (m : ℕ) (parts' : List ℕ) → Becomes (k * 33) (get_or counts k 0 + 1) (set parts (k * 33 + get_or counts k 0) a) (Said stmts) (tidied w) m parts'
        → RowBecomes k counts parts (Said stmts) (λ p r. tidied w p (a ∷ r)) (set counts k m) parts'
    push_left w m parts' c = counted at.standing (becomes_then (for_some (head_pushed (k * 33) (get_or counts k 0) a parts at.standing.row push_fits)) c)

-- one less
module _ {stmts : List ℕ} {k : ℕ} {counts parts : List ℕ} (at : Dropping stmts k counts parts) where
  -- the head's place is the last one
  top : get_or counts k 0 - 1 + 1 ≡ get_or counts k 0
  top = omega (arith, at.headed.some)

  -- the row without its head
  dropped : Becomes (k * 33) (get_or counts k 0) parts Any (λ p r. drop 1 r) (get_or counts k 0 - 1) (set parts (k * 33 + (get_or counts k 0 - 1)) 0)
  dropped = head_dropped (k * 33) (get_or counts k 0 - 1) (get_or counts k 0) parts top at.headed.standing.row

  pub drop_ready : (get_or counts k 0 - 1 ≡ 0 → ⊥) → Ready stmts (k * 33) (get_or counts k 0 - 1) (set parts (k * 33 + (get_or counts k 0 - 1)) 0)
  drop_ready n = record {
    row = dropped.row;
    some = omega arith;
    program = at.program;
    said = at.said;
    low = λ j q. rw (get_or-set_other parts (k * 33 + (get_or counts k 0 - 1)) (k * 33 + j) 0 0 (λ e. omega (arith, at.headed.some))) (at.low j (omega (arith, at.headed.some)));
  }

  pub drop_left : (w : Bool) (m : ℕ) (parts' : List ℕ) → Becomes (k * 33) (get_or counts k 0 - 1) (set parts (k * 33 + (get_or counts k 0 - 1)) 0) (Said stmts) (tidied w) m parts'
      → RowBecomes k counts parts (Said stmts) (λ p r. tidied w p (drop 1 r)) (set counts k m) parts'
  drop_left w m parts' c = counted at.headed.standing (becomes_then (for_some dropped) c)

  -- it was the only one
  pub drop_last : (w : Bool) → get_or counts k 0 - 1 ≡ 0 → RowBecomes k counts parts (Said stmts) (λ p r. tidied w p (drop 1 r)) (set counts k 0) (set parts (k * 33 + (get_or counts k 0 - 1)) 0)
  drop_last w e = counted at.headed.standing (record {
    row = subst (λ (n : ℕ). Row (k * 33) n (set parts (k * 33 + (get_or counts k 0 - 1)) 0)) e dropped.row;
    off = dropped.off;
    reads = λ p s. let q : get_or counts k 0 ≡ 1 = omega (arith, at.headed.some) in rw q;
  })

-- NO PART IS LEFT: the n places that the parts took are zero
pub row_cleared : (b n : ℕ) (xs : List ℕ) → Row b n xs → Becomes b n xs Any (λ p r. []) 0 (put b (replicate n 0) xs)
row_cleared b n xs row = record {
  row = record { long = put_length b (replicate n 0) xs inside ∙ row.long; inside = row.inside; fits = omega arith; zeros = zeros };
  off = λ j o. put_out b (replicate n 0) xs j 0 inside (⊎_elim (λ (i : j < b). inl i) (λ (i : b + ROW ≤ j). inr (omega (arith, size, row.fits))) o);
  reads = λ p o. refl;
}
  where
    size : length (replicate {A = ℕ} n 0) ≡ n
    size = length-replicate n 0

    inside : b + length (replicate {A = ℕ} n 0) ≤ length xs
    inside = omega (arith, row.long, row.inside, row.fits, size)

    zeros : (j : ℕ) → 0 ≤ j → j < ROW → get_or (put b (replicate n 0) xs) (b + j) 0 ≡ 0
    zeros j u v = ⊎_elim
        (λ (z : j < n). put_in b (replicate n 0) xs j 0 inside (omega (arith, size)) ∙ get_or-replicate n j 0 0 z)
        (λ (z : n ≤ j). put_out b (replicate n 0) xs (b + j) 0 inside (inr (omega (arith, size))) ∙ row.zeros j z v)
        (below? j n)

-- what the loop leaves that stores the zeros
pub clear_left : {k : ℕ} {counts parts₀ parts : List ℕ} → Standing k counts parts₀ → parts ≡ put (k * 33) (replicate (get_or counts k 0) 0) parts₀
    → RowBecomes k counts parts₀ Any (λ p r. []) (set counts k 0) parts
clear_left {k} {counts} {parts₀} s e = rw e (counted s (row_cleared (k * 33) (get_or counts k 0) parts₀ s.row))

-- what is asked of the push after it
pub cleared : {stmts : List ℕ} {k : ℕ} {counts parts counts' parts' : List ℕ} {a : ℕ} → Placing stmts k counts parts a 0 → RowBecomes k counts parts Any (λ p r. []) counts' parts'
    → Placing stmts k counts' parts' a (get_or counts' k 0)
cleared {k = k} {counts = counts} {parts = parts} {counts' = counts'} {parts' = parts'} at c = record { standing = standing held; program = at.program; said = at.said; low = rw none at.low }
  where
    held : RowHeld k counts' parts' []
    held = c.becomes at.program tt _ (stands k counts parts at.standing)

    none : get_or counts' k 0 ≡ 0
    none = go (get_or counts' k 0) held.reads
      where
        go : (n : ℕ) → row_at (k * 33) n parts' ≡ [] → n ≡ 0
        go zero e = refl
        go (suc n) e = absurd (omega (arith, ap length e))
