-- A row of parts that is handed in, in the flat list of all rooms' parts: what is asked of it of a program, what the functions of src/lib.rt look at, which
-- is numbers only, and that the one is the other. The row's head is its last part, so the part at place j has j parts behind it.
use Rattle.std.specs.Prelude.{ℕ, zero, suc, ◌+◌, ◌-◌, ◌*◌, ◌≤◌, ◌<◌, ◌≡◌, refl, ◌⊎◌, Bool, true, false, not, cond, List, reverse, eqb, leb, length, get_or}
use Rattle.std.proofs.Common.{ap, sym, ◌∙◌, inl, inr, ⊎_elim, true≢false, arith, ne_eqb}
use Rattle.std.proofs.Math.Logic.{dite}
use Rattle.std.proofs.Math.Decide.{ℕ_discrete}
use Rattle.std.proofs.lemmas.Bool.{not-true}
use Rattle.lists.specs.Lists.{is_some, All, There}
use Rattle.lists.specs.Tells.{Tells, form, isnt, at_most_lem}
use Rattle.rows.specs.Pad.{pad}
use Rattle.rows.specs.Part.{part, part_length}
use Rattle.programs.specs.Sizes.{LIVE, ROW, STMTS, KINDS}
use Rattle.programs.specs.Program.{Program}
use Rattle.programs.specs.Statements.{height, serves}
use Rattle.machines.specs.Config.{Pending, idle, raising, returning}
use Rattle.acceptance.specs.Accepted.{PartOk, NoSeq, Formed, counted, Heights as Low, RowOk}
use Rattle.tables.specs.Decode.{count, head_at}
use Rattle.tables.specs.Tables.{stmts_length}
use Rattle.configs.specs.Decode.{down_to}
use Rattle.parts.specs.Parts.{row_at, Said, awaits, row_part, is_skip_head, is_seq_head, head_skip, head_seqs, head_none}
use Rattle.zeros.specs.Zeros.{Zeros}
use Rattle.configs.specs.Reversed.{down_to_length}
use Rattle.zeros.specs.Packed.{reverse_down, packed, unpacked}
use Rattle.marks.specs.Sheet.{says_at}
use Rattle.marks.specs.Marks.{Heights, Served}

-- WHAT IS ASKED
-- the parts of a room's 33 places, its head first
abbrev pub parts_of : List ℕ → ℕ → List ℕ
parts_of row n = down_to (λ j. get_or row j 0) n

-- THE ROW: n parts of a machine of kind k with what is pending, as an accepted machine's, and zeros behind them
pub record RowHeld (p : Program) (k : ℕ) (q : Pending) (n : ℕ) (row : List ℕ) : Type 0 where
  pub row_ok : RowOk p k (parts_of row n) q
  pub fits : n ≤ ROW
  pub zeroed : pad 0 ROW (reverse (parts_of row n)) ≡ row

-- what the lists say of the program, and the flag of what is pending
pub record Told (stmts heights served : List ℕ) (pending : Bool) (p : Program) (q : Pending) : Type 0 where
  pub said : Said stmts p
  pub tall : Heights p heights
  pub serving : Served p served
  pub flag : awaits q ≡ pending

-- a room and a kind
pub record Asked (parts : List ℕ) (i k : ℕ) : Type 0 where
  pub long : length parts ≡ LIVE * ROW
  pub room : i < LIVE
  pub from_1 : 1 ≤ k
  pub kinds : k ≤ KINDS

-- WHAT IS LOOKED AT
-- a part suits a kind, of n statements: it is 0, or one of them that serves the kind
abbrev pub Suits : List ℕ → ℕ → ℕ → ℕ → Type 0
Suits served n k s = (s ≡ 0) ⊎ (There n s × (eqb (get_or served (k * 1025 + s) 0) 0 ≡ false))

-- and is low enough for what is behind it
pub record PartFits (heights served : List ℕ) (n k behind s : ℕ) : Type 0 where
  pub suits : Suits served n k s
  pub low : get_or heights s 0 + behind ≤ ROW

-- the n parts from place b on, with w pending
abbrev pub PartsFit : List ℕ → List ℕ → List ℕ → ℕ → ℕ → ℕ → ℕ → ℕ → Type 0
PartsFit heights served parts size b n k w = (j : ℕ) → j < n → PartFits heights served size k (j + w) (get_or parts (b + j) 0)

-- a head: no seq, and where it is alone no skip
pub record HeadFits (stmts : List ℕ) (alone : Bool) (s : ℕ) : Type 0 where
  pub no_seq : is_seq_head (head_at stmts s) ≡ false
  pub no_skip : alone ≡ true → is_skip_head (head_at stmts s) ≡ false

-- one part with nothing pending is alone
abbrev pub alone : ℕ → Bool → Bool
alone n pending = cond pending false (eqb n 1)

-- something pending counts 1
abbrev pub one : Bool → ℕ
one pending = cond pending 1 0

-- and no more
pub one_small : (pending : Bool) → one pending ≤ 1
one_small true = omega arith
one_small false = omega arith

-- the row that begins at b
pub record RowFits (stmts heights served parts : List ℕ) (b n k : ℕ) (pending : Bool) : Type 0 where
  pub few : n ≤ ROW
  pub behind : Zeros (b + n) (b + ROW) parts
  pub each : PartsFit heights served parts (count STMTS stmts) b n k (one pending)
  pub head : (l : ℕ) → l + 1 ≡ n → HeadFits stmts (alone n pending) (get_or parts (b + l) 0)

-- a statement that is no seq has a head that is none
none_seq : (stmts : List ℕ) (p : Program) → Said stmts p → (s : ℕ) → NoSeq p s → is_seq_head (head_at stmts s) ≡ false
none_seq stmts p said s h = sym (head_seqs stmts p said s) ∙ ap is_some h

-- A ROW OF A PROGRAM
module _ (stmts heights served : List ℕ) (pending : Bool) (p : Program) (q : Pending) (told : Told stmts heights served pending p q) (parts : List ℕ) (b k : ℕ) (from_1 : 1 ≤ k) (kinds : k ≤ KINDS) where
  -- as many statements as their list says
  many : length p.stmts ≡ count STMTS stmts
  many = ap length told.said.same ∙ stmts_length stmts told.said.inits

  -- what is pending counts as its flag does
  counts : counted q ≡ one pending
  counts = go q told.flag
    where
      go : (q : Pending) → awaits q ≡ pending → counted q ≡ one pending
      go idle e = ap one e
      go (raising x v) e = ap one e
      go returning e = ap one e

  -- a part suits the kind, by its numbers,
  part_holds : (behind s : ℕ) → PartFits heights served (count STMTS stmts) k behind s → PartOk p k s × (height p s + behind ≤ ROW)
  part_holds behind s h = (⊎_elim (λ e. inl e) (λ t. inr (there t, serving t)) h.suits, rw (told.tall.height_of s (small h.suits)) at h.low)
    where
      there : There (count STMTS stmts) s × (eqb (get_or served (k * 1025 + s) 0) 0 ≡ false) → There (length p.stmts) s
      there t = (t.0.0, rw many t.0.1)

      serving : There (count STMTS stmts) s × (eqb (get_or served (k * 1025 + s) 0) 0 ≡ false) → serves p k s ≡ true
      serving t = sym (says_at told.serving k s from_1 kinds (omega (arith, t.0.1)) (there t).1) ∙ ap not t.1

      small : Suits served (count STMTS stmts) k s → s ≤ 1024
      small (inl e) = omega arith
      small (inr t) = omega (arith, t.0.1)

  -- and the other way round.
  part_fits : (behind s : ℕ) → PartOk p k s → height p s + behind ≤ ROW → PartFits heights served (count STMTS stmts) k behind s
  part_fits behind s h low = record {
    suits = ⊎_elim (λ e. inl e) (λ t. inr (there t, marked t)) h;
    low = rw (told.tall.height_of s (small h)) low;
  }
    where
      there : There (length p.stmts) s × (serves p k s ≡ true) → There (count STMTS stmts) s
      there t = (t.0.0, rw many at t.0.1)

      marked : There (length p.stmts) s × (serves p k s ≡ true) → eqb (get_or served (k * 1025 + s) 0) 0 ≡ false
      marked t = not-true _ (says_at told.serving k s from_1 kinds (omega (arith, (there t).1)) t.0.1 ∙ t.1)

      small : PartOk p k s → s ≤ 1024
      small (inl e) = omega arith
      small (inr t) = omega (arith, (there t).1)

  -- so do all parts of a row,
  parts_hold : (n : ℕ) → PartsFit heights served parts (count STMTS stmts) b n k (one pending) → All (PartOk p k) (row_at b n parts) × Low p (one pending) (row_at b n parts)
  parts_hold zero h = (tt, tt)
  parts_hold (suc n) h =
      let rest = parts_hold n (λ j l. h j (omega arith)) in
      let first = part_holds (n + one pending) (get_or parts (b + n) 0) (h n (omega arith)) in
      ((first.0, rest.0), (rw (down_to_length (λ j. get_or parts (b + j) 0) n) first.1, rest.1))

  -- and the other way round.
  parts_fit : (n : ℕ) → All (PartOk p k) (row_at b n parts) → Low p (one pending) (row_at b n parts) → PartsFit heights served parts (count STMTS stmts) b n k (one pending)
  parts_fit zero a l j h = absurd (omega arith)
  parts_fit (suc n) a l j h = dite (ℕ_discrete j n)
      (λ e. rw e (part_fits (n + one pending) (get_or parts (b + n) 0) a.0 (rw (down_to_length (λ j. get_or parts (b + j) 0) n) at l.0)))
      (λ e. parts_fit n a.1 l.1 j (omega arith))

  -- a row is in form by its head,
  form_holds : (n : ℕ) → ((l : ℕ) → l + 1 ≡ n → HeadFits stmts (alone n pending) (get_or parts (b + l) 0)) → Formed p (row_at b n parts) q
  form_holds zero h = tt
  form_holds (suc (suc n)) h = head_none stmts p told.said (get_or parts (b + suc n) 0) (h (suc n) (omega arith)).no_seq
  form_holds (suc zero) h = go q told.flag
    where
      no : NoSeq p (get_or parts (b + 0) 0)
      no = head_none stmts p told.said (get_or parts (b + 0) 0) (h 0 (omega arith)).no_seq

      go : (q : Pending) → awaits q ≡ pending → Formed p (row_at b 1 parts) q
      go idle e = (no, head_skip stmts p told.said (get_or parts (b + 0) 0) ∙ (h 0 (omega arith)).no_skip (ap (alone 1) (sym e)))
      go (raising x v) e = no
      go returning e = no

  -- and the other way round.
  form_fits : (n : ℕ) → Formed p (row_at b n parts) q → (l : ℕ) → l + 1 ≡ n → HeadFits stmts (alone n pending) (get_or parts (b + l) 0)
  form_fits zero h l e = absurd (omega arith)
  form_fits (suc (suc n)) h l e = let i : l ≡ suc n = omega arith in rw i (record {
    no_seq = none_seq stmts p told.said (get_or parts (b + suc n) 0) h;
    no_skip = λ t. absurd (true≢false (sym t ∙ many_parts pending));
  })
    where
      many_parts : (w : Bool) → alone (suc (suc n)) w ≡ false
      many_parts true = refl
      many_parts false = ne_eqb (suc (suc n)) 1 (λ z. omega arith)
  form_fits (suc zero) h l e = let i : l ≡ 0 = omega arith in rw i (go q told.flag h)
    where
      go : (q : Pending) → awaits q ≡ pending → Formed p (row_at b 1 parts) q → HeadFits stmts (alone 1 pending) (get_or parts (b + 0) 0)
      go idle e h = record { no_seq = none_seq stmts p told.said (get_or parts (b + 0) 0) h.0; no_skip = λ t. sym (head_skip stmts p told.said (get_or parts (b + 0) 0)) ∙ h.1 }
      go (raising x v) e h = record { no_seq = none_seq stmts p told.said (get_or parts (b + 0) 0) h; no_skip = λ t. absurd (true≢false (sym t ∙ ap (alone 1) (sym e))) }
      go returning e h = record { no_seq = none_seq stmts p told.said (get_or parts (b + 0) 0) h; no_skip = λ t. absurd (true≢false (sym t ∙ ap (alone 1) (sym e))) }

  -- THE ROW, by its numbers
  module _ (inside : b + ROW ≤ length parts) (n : ℕ) where
    -- the 33 places are 33
    places : length (part b ROW parts) ≡ ROW
    places = part_length b ROW parts inside

    -- it is held so where they fit,
    row_holds : RowFits stmts heights served parts b n k pending → RowHeld p k q n (part b ROW parts)
    row_holds h =
        let each = parts_hold n h.each in
        record {
          row_ok = rw (row_part b n parts h.few) (record { suited = each.0; formed = form_holds n h.head; heights = rw counts each.1 });
          fits = h.few;
          zeroed = ap (pad 0 ROW) (reverse_down n (part b ROW parts) (omega (arith, places, h.few))) ∙ packed b ROW n parts inside h.few h.behind;
        }

    -- and nowhere else
    row_fits : RowHeld p k q n (part b ROW parts) → RowFits stmts heights served parts b n k pending
    row_fits h =
        let ok : RowOk p k (row_at b n parts) q = rw (row_part b n parts h.fits) at h.row_ok in
        record {
          few = h.fits;
          behind = unpacked b ROW n parts inside h.fits (ap (pad 0 ROW) (sym (reverse_down n (part b ROW parts) (omega (arith, places, h.fits)))) ∙ h.zeroed);
          each = parts_fit n ok.suited (rw counts at ok.heights);
          head = form_fits n ok.formed;
        }

-- a test of the numbers is a test of the row
pub row_told : (stmts heights served parts : List ℕ) (i n k : ℕ) (pending : Bool) {r : Bool} → Asked parts i k → Tells r (RowFits stmts heights served parts (i * ROW) n k pending)
    → (p : Program) (q : Pending) → Told stmts heights served pending p q → Tells r (RowHeld p k q n (part (i * ROW) ROW parts))
row_told stmts heights served parts i n k pending asked t p q told =
    let inside : i * ROW + ROW ≤ length parts = omega (arith, asked.long, asked.room) in
    form t (row_holds stmts heights served pending p q told parts (i * ROW) k asked.from_1 asked.kinds inside n)
    (row_fits stmts heights served pending p q told parts (i * ROW) k asked.from_1 asked.kinds inside n)

-- THE TURNS
-- the numbers of one part
module _ (served : List ℕ) (n k s : ℕ) where
  -- a statement that is not there does not suit,
  pub suits_past : (s ≡ 0 → ⊥) → n < s → Suits served n k s → ⊥
  suits_past z l h = ⊎_elim z (λ t. omega (arith, t.0.1)) h

  -- one that is there does where its mark is set,
  pub suits_marked : (s ≡ 0 → ⊥) → s ≤ n → Tells (not (eqb (get_or served (k * 1025 + s) 0) 0)) (Suits served n k s)
  suits_marked z l = form (isnt (eqb (get_or served (k * 1025 + s) 0) 0)) (λ e. inr ((omega arith, l), e)) (⊎_elim (λ e. absurd (z e)) (λ t. t.1))

  -- and whatever suits has a number of the table, or 0.
  pub suits_small : Suits served n k s → s ≤ n
  suits_small (inl e) = omega arith
  suits_small (inr t) = t.0.1

-- low enough, where it suits
pub fits_low : (heights served : List ℕ) (n k behind s : ℕ) → behind ≤ ROW → Suits served n k s → Tells (leb (get_or heights s 0) (ROW - behind)) (PartFits heights served n k behind s)
fits_low heights served n k behind s b h = form (at_most_lem (get_or heights s 0) (ROW - behind)) (λ l. record { suits = h; low = omega arith }) (λ f. omega (arith, f.low))

-- the row, where its parts fit and zeros are behind them: by its head
pub head_told : (stmts heights served parts : List ℕ) (b n k l : ℕ) (pending : Bool) {r : Bool} → n ≤ ROW → Zeros (b + n) (b + ROW) parts
    → PartsFit heights served parts (count STMTS stmts) b n k (one pending) → l + 1 ≡ n → Tells r (HeadFits stmts (alone n pending) (get_or parts (b + l) 0))
    → Tells r (RowFits stmts heights served parts b n k pending)
head_told stmts heights served parts b n k l pending few behind each e t =
    form t (λ h. record { few = few; behind = behind; each = each; head = λ j d. let i : j ≡ l = omega arith in rw i h }) (λ h. h.head l e)
