-- A room's row of parts in the flat list of all rooms' parts: how it reads, and what the functions of src/lib.rt leave of it. The row stands in the 33 places
-- from b on, its head last; behind its n parts the places are zero.
use Rattle.std.specs.Prelude.{ℕ, zero, suc, ◌+◌, ◌*◌, ◌≤◌, ◌<◌, ◌≡◌, refl, ◌⊎◌, Bool, true, false, cond, not, List, [], ◌∷◌, eqb, length, get_or, set}
use Rattle.std.proofs.Common.{sym, ap, ◌∙◌, inl, inr, ⊎_elim, add-one, arith, length-set, get_or-set_same, get_or-set_other}
use Rattle.std.proofs.Math.Logic.{dite}
use Rattle.std.proofs.Math.Option.{none, some}
use Rattle.std.proofs.Math.Decide.{ℕ_discrete}
use Rattle.configs.specs.Reversed.{down_to_length}
use Rattle.lists.specs.Lists.{at, is_some}
use Rattle.lists.specs.Tells.{is_none}
use Rattle.lists.specs.Facts.{All-has}
use Rattle.lists.specs.Down.{downward}
use Rattle.rows.specs.Part.{Off, part, part_get, off_set, part_ext}
use Rattle.programs.specs.Sizes.{LIVE, ROW}
use Rattle.programs.specs.Program.{Program, skip, stmt_at}
use Rattle.programs.specs.Statements.{is_skip, is_seq, parts, height}
use Rattle.soundness.specs.Founded.{Founded}
use Rattle.machines.specs.Config.{Pending, idle, raising, returning}
use Rattle.machines.specs.Row.{onto, headed, lone, tidy}
use Rattle.acceptance.specs.Accepted.{Heights}
use Rattle.kept.specs.KeptRow.{seq_parts, height_part, height_low, onto_none, onto_some}
use Rattle.tables.specs.declared.Head.{Head}
use Rattle.tables.specs.declared.Head.TheVariants.{Skip, Assign, New, Delete, Send, Raise, Leave, Return, Assert, Seq, If, While}
use Rattle.tables.specs.Decode.{head_at, stmt_of, stmts_of}
use Rattle.tables.specs.Tables.{stmt_head}
use Rattle.codes.specs.Pairs.{pair_event, pair_value}
use Rattle.configs.specs.Decode.{down_to, pending_of}

-- THE ROW
-- n parts from place b on, the last one first
abbrev pub row_at : ℕ → ℕ → List ℕ → List ℕ
row_at b n xs = down_to (λ k. get_or xs (b + k) 0) n

-- n parts from place b on, with zeros behind them
pub record Row (b n : ℕ) (xs : List ℕ) : Type 0 where
  pub long : length xs ≡ LIVE * ROW
  pub inside : b + ROW ≤ LIVE * ROW
  pub fits : n ≤ ROW
  pub zeros : (k : ℕ) → n ≤ k → k < ROW → get_or xs (b + k) 0 ≡ 0

-- p is a program with these statements, and its parts are lower
pub record Said (stmts : List ℕ) (p : Program) : Type 0 where
  pub inits : List ℕ
  pub same : p.stmts ≡ stmts_of stmts inits
  pub founded : Founded p

-- any program
abbrev pub Any : Program → Type 0
Any p = Unit {0}

-- a row that has a head, and room to split it: the head's height and the parts behind it are at most 33
pub record Ready (stmts : List ℕ) (b n : ℕ) (xs : List ℕ) : Type 0 where
  pub row : Row b n xs
  pub some : 1 ≤ n
  pub program : Program
  pub said : Said stmts program
  pub low : (l : ℕ) → l + 1 ≡ n → height program (get_or xs (b + l) 0) + l ≤ ROW

-- THE ROW AFTERWARDS: off the room's places nothing changes, and for each program of which Of holds the row reads as f says of the row before
pub record Becomes (b n : ℕ) (xs : List ℕ) (Of : Program → Type 0) (f : Program → List ℕ → List ℕ) (m : ℕ) (ys : List ℕ) : Type 0 where
  pub row : Row b m ys
  pub off : (k : ℕ) → Off b ROW k → get_or ys k 0 ≡ get_or xs k 0
  pub reads : (p : Program) → Of p → row_at b m ys ≡ f p (row_at b n xs)

-- WHAT THE FUNCTIONS DO
-- something pending, or nothing
abbrev pub waiting : Bool → Pending
waiting true = returning
waiting false = idle

-- no lone skip
abbrev pub alone : Bool → Program → List ℕ → List ℕ
alone w p r = lone p r (waiting w)

-- the head split
abbrev pub settled : Program → List ℕ → List ℕ
settled p r = headed p r

-- both rules of form
abbrev pub tidied : Bool → Program → List ℕ → List ℕ
tidied w p r = tidy p r (waiting w)

-- the head finished
abbrev pub finished : Bool → Program → List ℕ → List ℕ
finished w p [] = []
finished w p (s ∷ r) = tidy p (0 ∷ r) (waiting w)

-- LAWS OF READING
-- two lists that agree on the row's places have one row
pub row_ext : (b n : ℕ) (xs ys : List ℕ) → ((k : ℕ) → k < n → get_or ys (b + k) 0 ≡ get_or xs (b + k) 0) → row_at b n ys ≡ row_at b n xs
row_ext b zero xs ys f = refl
row_ext b (suc n) xs ys f = rw (f n (omega arith), row_ext b n xs ys (λ k h. f k (omega arith)))

-- a store past the row's end leaves it,
row_past : (b n l v : ℕ) (xs : List ℕ) → n ≤ l → row_at b n (set xs (b + l) v) ≡ row_at b n xs
row_past b n l v xs h = row_ext b n xs (set xs (b + l) v) (λ k q. get_or-set_other xs (b + l) (b + k) v 0 (λ e. omega arith))

-- and a store to the head's place changes the head
pub row_head : (b l v : ℕ) (xs : List ℕ) → b + l < length xs → row_at b (suc l) (set xs (b + l) v) ≡ v ∷ row_at b l xs
row_head b l v xs h = rw (get_or-set_same xs (b + l) v 0 h, row_past b l l v xs (omega arith))

-- the row of a room that is lifted out of the flat list
pub row_part : (b n : ℕ) (xs : List ℕ) → n ≤ ROW → down_to (λ k. get_or (part b ROW xs) k 0) n ≡ row_at b n xs
row_part b zero xs h = refl
row_part b (suc n) xs h = rw (part_get b ROW xs n 0 h, row_part b n xs (omega arith))

-- WHAT IS PENDING matters only as something or nothing
-- of a pending one
abbrev pub awaits : Pending → Bool
awaits idle = false
awaits (raising e v) = true
awaits returning = true

-- no lone skip
pub lone_awaits : (p : Program) (r : List ℕ) (q : Pending) → lone p r q ≡ alone (awaits q) p r
lone_awaits p [] q = refl
lone_awaits p (s ∷ t ∷ r) q = refl
lone_awaits p (s ∷ []) idle = refl
lone_awaits p (s ∷ []) (raising e v) = refl
lone_awaits p (s ∷ []) returning = refl

-- what is pending as a number: 0 is nothing
pub awaits_held : (x : ℕ) → awaits (pending_of x) ≡ not (eqb x 0)
awaits_held x = go (eqb x 0) (eqb x 1)
  where
    go : (a c : Bool) → awaits (cond a idle (cond c returning (raising (pair_event x) (pair_value x)))) ≡ not a
    go true c = refl
    go false true = refl
    go false false = refl

-- two changes, one after the other
pub becomes_then : {b n m o : ℕ} {xs ys zs : List ℕ} {Of : Program → Type 0} {f g : Program → List ℕ → List ℕ} → Becomes b n xs Of f m ys → Becomes b m ys Of g o zs → Becomes b n xs Of (λ p r. g p (f p r)) o zs
becomes_then {g = g} h k = record { row = k.row; off = λ i o. k.off i o ∙ h.off i o; reads = λ p s. k.reads p s ∙ ap (g p) (h.reads p s) }

-- LAWS FOR CALLERS
module _ {b n m : ℕ} {xs ys : List ℕ} {Of : Program → Type 0} {f : Program → List ℕ → List ℕ} (row : Row b n xs) (change : Becomes b n xs Of f m ys) where
  -- the row of the room as it is lifted out of the flat list
  pub becomes_room : (p : Program) → Of p → down_to (λ k. get_or (part b ROW ys) k 0) m ≡ f p (down_to (λ k. get_or (part b ROW xs) k 0) n)
  becomes_room p h = row_part b m ys change.row.fits ∙ change.reads p h ∙ ap (f p) (sym (row_part b n xs row.fits))

  -- the 33 places from c on, where they are another room's
  pub becomes_other : (c : ℕ) → c + ROW ≤ LIVE * ROW → (c + ROW ≤ b) ⊎ (b + ROW ≤ c) → part c ROW ys ≡ part c ROW xs
  becomes_other c i o =
      part_ext 0 c ROW xs ys (rw row.long i) (change.row.long ∙ sym row.long)
      (λ k h. change.off (c + k) (⊎_elim (λ (q : c + ROW ≤ b). inl (omega arith)) (λ (q : b + ROW ≤ c). inr (omega arith)) o))

-- the rule of 33 says that the head may be split
pub head_low : (p : Program) (b n : ℕ) (xs : List ℕ) (q : ℕ) → Heights p q (row_at b n xs) → (l : ℕ) → l + 1 ≡ n → height p (get_or xs (b + l) 0) + l ≤ ROW
head_low p b zero xs q h l e = absurd (omega arith)
head_low p b (suc n) xs q h l e = let i : l ≡ n = omega arith in rw i (omega (arith, h.0, down_to_length (λ k. get_or xs (b + k) 0) n))

-- STATEMENTS
-- of a head: a skip
abbrev pub is_skip_head : Head → Bool
is_skip_head Skip = true
is_skip_head (Assign x e) = false
is_skip_head (New x k i n) = false
is_skip_head Delete = false
is_skip_head (Send t e a) = false
is_skip_head (Raise e a) = false
is_skip_head Leave = false
is_skip_head Return = false
is_skip_head (Assert e) = false
is_skip_head (Seq a b) = false
is_skip_head (If e a b) = false
is_skip_head (While e a) = false

-- a statement is a skip where its head is
skip_head : (inits : List ℕ) (h : Head) → is_skip (stmt_of inits h) ≡ is_skip_head h
skip_head inits Skip = refl
skip_head inits (Assign x e) = refl
skip_head inits (New x k i n) = refl
skip_head inits Delete = refl
skip_head inits (Send t e a) = refl
skip_head inits (Raise e a) = refl
skip_head inits Leave = refl
skip_head inits Return = refl
skip_head inits (Assert e) = refl
skip_head inits (Seq a b) = refl
skip_head inits (If e a b) = refl
skip_head inits (While e a) = refl

-- of a head: a seq
abbrev pub is_seq_head : Head → Bool
is_seq_head Skip = false
is_seq_head (Assign x e) = false
is_seq_head (New x k i n) = false
is_seq_head Delete = false
is_seq_head (Send t e a) = false
is_seq_head (Raise e a) = false
is_seq_head Leave = false
is_seq_head Return = false
is_seq_head (Assert e) = false
is_seq_head (Seq a b) = true
is_seq_head (If e a b) = false
is_seq_head (While e a) = false

-- a statement is a seq where its head is
seq_head : (inits : List ℕ) (h : Head) → is_some (is_seq (stmt_of inits h)) ≡ is_seq_head h
seq_head inits Skip = refl
seq_head inits (Assign x e) = refl
seq_head inits (New x k i n) = refl
seq_head inits Delete = refl
seq_head inits (Send t e a) = refl
seq_head inits (Raise e a) = refl
seq_head inits Leave = refl
seq_head inits Return = refl
seq_head inits (Assert e) = refl
seq_head inits (Seq a b) = refl
seq_head inits (If e a b) = refl
seq_head inits (While e a) = refl

module _ (stmts : List ℕ) (p : Program) (said : Said stmts p) (s : ℕ) where
  -- statement s is its head with its init list
  head_is : stmt_at p s ≡ stmt_of said.inits (head_at stmts s)
  head_is = ap (λ l. at skip l s) said.same ∙ stmt_head stmts said.inits s

  -- so it is a skip where the head is
  pub head_skip : is_skip (stmt_at p s) ≡ is_skip_head (head_at stmts s)
  head_skip = ap is_skip head_is ∙ skip_head said.inits (head_at stmts s)

  -- a seq where the head is one,
  pub head_seqs : is_some (is_seq (stmt_at p s)) ≡ is_seq_head (head_at stmts s)
  head_seqs = ap (λ t. is_some (is_seq t)) head_is ∙ seq_head said.inits (head_at stmts s)

  -- with the head's parts,
  head_seq : (x y : ℕ) → head_at stmts s ≡ Seq x y → is_seq (stmt_at p s) ≡ some (x, y)
  head_seq x y h = ap is_seq head_is ∙ ap (λ t. is_seq (stmt_of said.inits t)) h

  -- and no seq where the head is none
  pub head_none : is_seq_head (head_at stmts s) ≡ false → is_seq (stmt_at p s) ≡ none
  head_none h = (is_none (is_seq (stmt_at p s))).holds (ap not (head_seqs ∙ h))

-- NO LONE SKIP
module _ (stmts : List ℕ) (b n : ℕ) (xs : List ℕ) (row : Row b n xs) where
  -- the row as it is
  same_row : (Of : Program → Type 0) (f : Program → List ℕ → List ℕ) → ((p : Program) → Of p → row_at b n xs ≡ f p (row_at b n xs)) → Becomes b n xs Of f n xs
  same_row Of f h = record { row = row; off = λ k o. refl; reads = h }

  -- more than one part, or none
  pub lone_many : (w : Bool) → (n ≡ 1 → ⊥) → Becomes b n xs (Said stmts) (alone w) n xs
  lone_many w h = same_row (Said stmts) (alone w) (λ p s. go n h p)
    where
      go : (n : ℕ) → (n ≡ 1 → ⊥) → (p : Program) → row_at b n xs ≡ alone w p (row_at b n xs)
      go zero h p = refl
      go (suc zero) h p = absurd (h refl)
      go (suc (suc n)) h p = refl

  -- something is pending
  pub lone_pending : (w : Bool) → w ≡ true → Becomes b n xs (Said stmts) (alone w) n xs
  lone_pending w h = rw h (same_row (Said stmts) (alone true) (λ p s. go (row_at b n xs) p))
    where
      go : (r : List ℕ) (p : Program) → r ≡ alone true p r
      go [] p = refl
      go (s ∷ []) p = refl
      go (s ∷ t ∷ r) p = refl

  -- the one part is no skip
  pub lone_other : (w : Bool) → n ≡ 1 → is_skip_head (head_at stmts (get_or xs b 0)) ≡ false → Becomes b n xs (Said stmts) (alone w) n xs
  lone_other true e h = lone_pending true refl
  lone_other false e h = same_row (Said stmts) (alone false) (λ p s. go p s n e)
    where
      go : (p : Program) → Said stmts p → (n : ℕ) → n ≡ 1 → row_at b n xs ≡ alone false p (row_at b n xs)
      go p s n e = let z : b + 0 ≡ b = omega arith in rw (e, z, head_skip stmts p s (get_or xs b 0), h)

  -- a lone skip with nothing pending goes
  pub lone_gone : (w : Bool) → n ≡ 1 → w ≡ false → is_skip_head (head_at stmts (get_or xs b 0)) ≡ true → Becomes b n xs (Said stmts) (alone w) 0 (set xs b 0)
  lone_gone w e q h = record {
    row = record {
      long = length-set xs b 0 ∙ row.long;
      inside = row.inside;
      fits = omega arith;
      zeros = λ k i j. dite (ℕ_discrete k 0)
          (λ (z : k ≡ 0). let o : b + k ≡ b = omega arith in rw o (get_or-set_same xs b 0 0 (omega (arith, row.long, row.inside))))
          (λ (z : k ≡ 0 → ⊥). get_or-set_other xs b (b + k) 0 0 (λ t. z (omega arith)) ∙ row.zeros k (omega arith) j);
    };
    off = λ k o. get_or-set_other xs b k 0 0 (λ i. ⊎_elim (λ (u : k < b). omega arith) (λ (u : b + ROW ≤ k). omega arith) o);
    reads = λ p s. let z : b + 0 ≡ b = omega arith in rw (e, q, z, head_skip stmts p s (get_or xs b 0), h);
  }

-- THE HEAD FINISHED
-- skip before a row is no seq
onto_zero : (p : Program) (r : List ℕ) → onto p 0 r ≡ 0 ∷ r
unfolding onto downward
onto_zero p r = refl

module _ (b n l : ℕ) (xs : List ℕ) (row : Row b n xs) (e : l + 1 ≡ n) where
  -- its place is within the list
  within_row : b + l < length xs
  within_row = omega (arith, row.long, row.inside, row.fits)

  -- zeros behind the parts stay
  finish_zeros : (k : ℕ) → l ≤ k → k < ROW → get_or (set xs (b + l) 0) (b + k) 0 ≡ 0
  finish_zeros k i j = dite (ℕ_discrete k l)
      (λ (z : k ≡ l). rw z (get_or-set_same xs (b + l) 0 0 within_row))
      (λ (z : k ≡ l → ⊥). get_or-set_other xs (b + l) (b + k) 0 0 (λ t. z (omega arith)) ∙ row.zeros k (omega arith) j)

  -- the row with its head finished
  finish_row : (m : ℕ) → l ≤ m → m ≤ n → Row b m (set xs (b + l) 0)
  finish_row m i j = record { long = length-set xs (b + l) 0 ∙ row.long; inside = row.inside; fits = omega (arith, row.fits); zeros = λ k u v. finish_zeros k (omega arith) v }

  -- what is off it
  finish_off : (k : ℕ) → Off b ROW k → get_or (set xs (b + l) 0) k 0 ≡ get_or xs k 0
  finish_off = off_set 0 b ROW l 0 xs (omega (arith, row.fits))

  -- how it reads, before a lone skip is dropped
  finish_reads : (w : Bool) (p : Program) → finished w p (row_at b n xs) ≡ alone w p (row_at b n (set xs (b + l) 0))
  finish_reads w p = let q : n ≡ suc l = omega arith in
      rw q (ap (λ r. alone w p r) (onto_zero p (row_at b l xs) ∙ sym (row_head b l 0 xs within_row)))

  -- it was one of several
  pub finish_many : (w : Bool) → (n ≡ 1 → ⊥) → Becomes b n xs Any (finished w) n (set xs (b + l) 0)
  finish_many w h = record { row = finish_row n (omega arith) (omega arith); off = finish_off; reads = λ p s. go n h p ∙ sym (finish_reads w p) }
    where
      go : (n : ℕ) → (n ≡ 1 → ⊥) → (p : Program) → row_at b n (set xs (b + l) 0) ≡ alone w p (row_at b n (set xs (b + l) 0))
      go zero h p = refl
      go (suc zero) h p = absurd (h refl)
      go (suc (suc n)) h p = refl

  -- something is pending
  pub finish_pending : (w : Bool) → w ≡ true → Becomes b n xs Any (finished w) n (set xs (b + l) 0)
  finish_pending w h = record { row = finish_row n (omega arith) (omega arith); off = finish_off; reads = λ p s. go (row_at b n (set xs (b + l) 0)) p ∙ sym (finish_reads w p) }
    where
      go : (r : List ℕ) (p : Program) → r ≡ alone w p r
      go [] p = refl
      go (s ∷ []) p = rw h
      go (s ∷ t ∷ r) p = refl

  -- it was the only one
  pub finish_gone : (w : Bool) → n ≡ 1 → w ≡ false → Becomes b n xs Any (finished w) 0 (set xs (b + l) 0)
  finish_gone w q h = record { row = finish_row 0 (omega arith) (omega arith); off = finish_off; reads = λ p s. go p ∙ sym (finish_reads w p) }
    where
      z : l ≡ 0
      z = omega arith

      go : (p : Program) → [] ≡ alone w p (row_at b n (set xs (b + l) 0))
      go p = rw (q, h, z, get_or-set_same xs (b + 0) 0 0 (omega (arith, within_row)))

-- THE HEAD SPLIT
-- the loop that splits: its head s is at b + l, and what its row is with the head split has not changed
pub record Settling (stmts : List ℕ) (b n : ℕ) (xs₀ : List ℕ) (l s : ℕ) (xs : List ℕ) : Type 0 where
  pub ready : Ready stmts b (l + 1) xs
  pub head : s ≡ get_or xs (b + l) 0
  pub off : (k : ℕ) → Off b ROW k → get_or xs k 0 ≡ get_or xs₀ k 0
  pub reads : (p : Program) → Said stmts p → settled p (row_at b (suc l) xs) ≡ settled p (row_at b n xs₀)

-- before the first turn
pub settle_first : (stmts : List ℕ) (b n : ℕ) (xs : List ℕ) (l s : ℕ) → Ready stmts b n xs → l + 1 ≡ n → s ≡ get_or xs (b + l) 0 → Settling stmts b n xs l s xs
settle_first stmts b n xs l s r e h = record {
  ready = rw e r;
  head = h;
  off = λ k o. refl;
  reads = λ p t. ap (λ m. settled p (row_at b m xs)) (sym (add-one l) ∙ e);
}

module _ (stmts : List ℕ) (b n : ℕ) (xs₀ : List ℕ) (l s : ℕ) (xs : List ℕ) (at_head : Settling stmts b n xs₀ l s xs) where
  -- after the last turn: no seq
  pub settle_done : is_seq_head (head_at stmts s) ≡ false → Becomes b n xs₀ (Said stmts) settled (l + 1) xs
  settle_done h = record { row = at_head.ready.row; off = at_head.off; reads = go }
    where
      go : (p : Program) → Said stmts p → row_at b (l + 1) xs ≡ settled p (row_at b n xs₀)
      go p t = let k : is_seq_head (head_at stmts (get_or xs (b + l) 0)) ≡ false = rw at_head.head at h in
          rw (add-one l) (sym (onto_none p t.founded (get_or xs (b + l) 0) (row_at b l xs) (head_none stmts p t (get_or xs (b + l) 0) k)) ∙ at_head.reads p t)

  -- a seq: its first part is lower than it
  module _ (x y : ℕ) (h : head_at stmts s ≡ Seq x y) where
    lower : (p : Program) → Said stmts p → x < s
    lower p t = All-has x (λ i. i < s) (parts (stmt_at p s)) (seq_parts (stmt_at p s) x y (head_seq stmts p t s x y h)).0 (t.founded.lower s)

    -- so the measure falls
    pub settle_less : x < s
    settle_less = lower at_head.ready.program at_head.ready.said

    -- and so is its height
    flatter : height at_head.ready.program x < height at_head.ready.program s
    flatter = let p = at_head.ready.program in let t = at_head.ready.said in
        height_part p t.founded s x (seq_parts (stmt_at p s) x y (head_seq stmts p t s x y h)).0

    low : height at_head.ready.program s + l ≤ ROW
    low = rw at_head.head (at_head.ready.low l refl)

    -- there is room for one part more
    pub settle_fits : l + 2 ≤ ROW
    settle_fits = omega (arith, low, flatter, height_low at_head.ready.program at_head.ready.said.founded x)

    inner : b + l < length xs
    inner = omega (arith, settle_fits, at_head.ready.row.long, at_head.ready.row.inside)

    outer : b + (l + 1) < length (set xs (b + l) y)
    outer = rw (length-set xs (b + l) y) (omega (arith, settle_fits, at_head.ready.row.long, at_head.ready.row.inside))

    -- the list after a turn
    abbrev next : List ℕ
    next = set (set xs (b + l) y) (b + (l + 1)) x

    new_head : get_or next (b + (l + 1)) 0 ≡ x
    new_head = get_or-set_same (set xs (b + l) y) (b + (l + 1)) x 0 outer

    new_row : row_at b (suc (l + 1)) next ≡ x ∷ y ∷ row_at b l xs
    new_row = row_head b (l + 1) x (set xs (b + l) y) outer ∙ ap (λ r. x ∷ r) (rw (add-one l) (row_head b l y xs inner))

    new_ready : Ready stmts b (l + 1 + 1) next
    new_ready = record {
      row = record {
        long = length-set (set xs (b + l) y) (b + (l + 1)) x ∙ length-set xs (b + l) y ∙ at_head.ready.row.long;
        inside = at_head.ready.row.inside;
        fits = omega (arith, settle_fits);
        zeros = λ k i j. get_or-set_other (set xs (b + l) y) (b + (l + 1)) (b + k) x 0 (λ e. omega arith) ∙ get_or-set_other xs (b + l) (b + k) y 0 (λ e. omega arith)
            ∙ at_head.ready.row.zeros k (omega arith) j;
      };
      some = omega arith;
      program = at_head.ready.program;
      said = at_head.ready.said;
      low = λ j e. let q : j ≡ l + 1 = omega arith in rw (q, new_head) (omega (arith, low, flatter));
    }

    new_reads : (p : Program) → Said stmts p → settled p (row_at b (suc (l + 1)) next) ≡ settled p (row_at b n xs₀)
    new_reads p t = ap (settled p) new_row ∙ sym (onto_some p t.founded s x y (row_at b l xs) (head_seq stmts p t s x y h) (lower p t))
        ∙ ap (λ i. onto p i (row_at b l xs)) at_head.head ∙ at_head.reads p t

    -- one turn
    pub settle_more : Settling stmts b n xs₀ (l + 1) x (set (set xs (b + l) y) (b + l + 1) x)
    settle_more = let e : b + l + 1 ≡ b + (l + 1) = omega arith in rw e (record {
      ready = new_ready;
      head = sym new_head;
      off = λ k o. off_set 0 b ROW (l + 1) x (set xs (b + l) y) (omega (arith, settle_fits)) k o ∙ off_set 0 b ROW l y xs (omega (arith, settle_fits)) k o ∙ at_head.off k o;
      reads = new_reads;
    })
