-- The flags of a list of events: one for each event from 0 on. They are set one by one, in any order.
use Rattle.std.specs.Prelude.{ℕ, ◌+◌, ◌≤◌, ◌<◌, min, ◌≡◌, refl, Bool, true, false, cond, ◌||◌, eqb, leb, length, get_or, set}
use Rattle.std.specs.List.{list_all}
use Rattle.std.proofs.Math.Path.{ap, sym}
use Rattle.std.proofs.Common.{◌∙◌, arith, leb-true, le-leb, ne_eqb, ext_get_or}
use mathlib.Core.List.{List, [], ◌∷◌, map}
use Rattle.std.proofs.lemmas.Bool.{lt-leb}
use Rattle.std.proofs.Common.{⊎_elim}
use Rattle.std.proofs.Math.Bool.{and-false}
use Rattle.rows.specs.Pad.{below?}
use Rattle.texts.specs.Bytes.{split}
use Rattle.std.proofs.Math.ListN.{length-set}
use Rattle.lists.specs.Lists.{is_some, any, all, there}
use Rattle.lists.specs.Facts.{and_parts, eqb_same}
use Rattle.rows.specs.Part.{put, part, part_length, part_get, put_part, put_set}
use Rattle.rows.specs.Seek.{table, table_length, table_at, table_set}
use Rattle.programs.specs.Sizes.{EVENTS}
use Rattle.texts.specs.Numbers.{numbers}
use Rattle.numerals.specs.Numerals.{CAP}
use Rattle.numerals.specs.Splits.{span, Until}
use Rattle.listings.specs.Listings.{is_none, list_of, number_of}
use Rattle.listings.specs.Left.{left_none}
use Rattle.listed.specs.Says.{numbers_left, numbers_all, numbers_next, numbers_said}

-- WHETHER EVERY EVENT OF A LIST CAN BE ONE OF A PROGRAM'S: the loop, at the number x that the next part says
module _ (x : ℕ) (l : List ℕ) where
  -- it is 0
  pub defer_low : (n : ℕ) → n ≡ min x CAP → n < 1 → false ≡ all (there EVENTS) (x ∷ l)
  defer_low n e h = rw (lt-leb 1 x (omega arith))

  -- it is above 64
  pub defer_high : (n : ℕ) → n ≡ min x CAP → 64 < n → false ≡ all (there EVENTS) (x ∷ l)
  defer_high n e h = rw (le-leb 1 x (omega arith), lt-leb x 64 (omega arith))

  -- it can be one
  pub defer_more : (n : ℕ) → n ≡ min x CAP → 1 ≤ n → n ≤ 64 → all (there EVENTS) (x ∷ l) ≡ all (there EVENTS) l
  defer_more n e h k = rw (le-leb 1 x (omega arith), le-leb x 64 (omega arith))

  -- what is known of one of a list that all can be
  pub defer_first : all (there EVENTS) (x ∷ l) ≡ true → (1 ≤ x) × (x ≤ 64) × (all (there EVENTS) l ≡ true)
  defer_first h =
      let a = and_parts (there EVENTS x) (all (there EVENTS) l) h in
      let b = and_parts (leb 1 x) (leb x 64) a.0 in
      (leb-true 1 x b.0, leb-true x 64 b.1, a.1)

-- the number that the code has can be one exactly when the text's can
there_cut : (x n : ℕ) → n ≡ min x CAP → there EVENTS x ≡ there EVENTS n
there_cut x n e = ⊎_elim
    (λ (l : CAP < x). let z : min x CAP ≡ CAP = omega arith in rw (e, z, lt-leb x 64 (omega arith)) (and-false (leb 1 x)))
    (λ (l : x ≤ CAP). let z : min x CAP ≡ x = omega arith in rw (e, z))
    (below? CAP x)

-- the part p, of which the code has n, and the parts behind it: p's number cannot be one
pub defer_not : (p : List ℕ) (ps : List (List ℕ)) (n : ℕ) → n ≡ min (number_of p) CAP → there EVENTS n ≡ false → false ≡ all (there EVENTS) (map number_of (p ∷ ps))
defer_not p ps n e h = rw (there_cut (number_of p) n e, h)

-- it can
pub defer_on : (p : List ℕ) (ps : List (List ℕ)) (n : ℕ) → n ≡ min (number_of p) CAP → there EVENTS n ≡ true → all (there EVENTS) (map number_of ps) ≡ all (there EVENTS) (map number_of (p ∷ ps))
defer_on p ps n e h = rw (there_cut (number_of p) n e, h)

-- all of the parts, as the code has their numbers
pub parts_can : (ps : List (List ℕ)) → list_all (λ p. there EVENTS (min (number_of p) CAP)) ps ≡ all (there EVENTS) (map number_of ps)
parts_can [] = refl
parts_can (p ∷ ps) = rw (there_cut (number_of p) (min (number_of p) CAP) refl, parts_can ps)

-- THE FLAGS
-- those of the list l, behind place b
unfoldable pub flagged : ℕ → List ℕ → List ℕ → List ℕ
flagged b [] xs = xs
flagged b (e ∷ l) xs = flagged b l (set xs (b + e) 1)

-- the flag of event e
abbrev pub flag_of : List ℕ → ℕ → ℕ
flag_of l e = cond (any (eqb e) l) 1 0

-- the same where others are set
abbrev flag_in : List ℕ → (ℕ → ℕ) → ℕ → ℕ
flag_in l f e = cond (any (eqb e) l) 1 (f e)

-- no flag is set
abbrev no_flag : ℕ → ℕ
no_flag e = 0

-- two functions that agree have one table
table_same : (f g : ℕ → ℕ) (n : ℕ) → ((i : ℕ) → i < n → f i ≡ g i) → table f 0 n ≡ table g 0 n
table_same f g n h = ext_get_or 0 (table f 0 n) (table g 0 n) (table_length f 0 n ∙ sym (table_length g 0 n))
    (λ i b. let k : i < n = omega (arith, table_length f 0 n) in table_at f 0 n i k ∙ h i k ∙ sym (table_at g 0 n i k))

-- one after another
flagged_table : (b : ℕ) (l xs : List ℕ) (f : ℕ → ℕ) → b + 65 ≤ length xs → all (there EVENTS) l ≡ true → flagged b l (put b (table f 0 65) xs) ≡ put b (table (flag_in l f) 0 65) xs
unfolding flagged
flagged_table b [] xs f h k = refl
flagged_table b (e ∷ l) xs f h k =
    let d = defer_first e l k in
    let n : length (table f 0 65) ≡ 65 = table_length f 0 65 in
    let one : flag_in (e ∷ []) f e ≡ 1 = rw (eqb_same e) in
    let s : table (flag_in (e ∷ []) f) 0 65 ≡ set (table f 0 65) e 1 =
    table_set 0 f (flag_in (e ∷ []) f) 65 e (omega arith) (λ j q o. rw (ne_eqb j e o)) ∙ ap (λ v. set (table f 0 65) e v) one in
    ap (flagged b l) (put_set 0 b (table f 0 65) xs e 1 (omega arith) (omega arith) ∙ ap (λ r. put b r xs) (sym s))
    ∙ flagged_table b l xs (flag_in (e ∷ []) f) h d.2
    ∙ ap (λ r. put b r xs) (table_same (flag_in l (flag_in (e ∷ []) f)) (flag_in (e ∷ l) f) 65 (λ i q. go (eqb i e) (any (eqb i) l) (f i)))
  where
    go : (s t : Bool) (v : ℕ) → cond t 1 (cond (s || false) 1 v) ≡ cond (s || t) 1 v
    go true true v = refl
    go true false v = refl
    go false true v = refl
    go false false v = refl

-- what is asked: a list of events that all can be, and 65 flags that are 0 from place b on
pub record Flaggable (d xs : List ℕ) (b : ℕ) : Type 0 where
  pub listed : is_some (numbers d) ≡ true
  pub small : all (there EVENTS) (list_of d) ≡ true
  pub long : length xs ≡ 4225
  pub inside : b + 65 ≤ 4225
  pub zero : (j : ℕ) → j < 65 → get_or xs (b + j) 0 ≡ 0

-- THE LOOP that sets them
pub record Flagging (d xs : List ℕ) (b a : ℕ) (ys : List ℕ) : Type 0 where
  pub rest : flagged b (numbers_left a d) ys ≡ flagged b (list_of d) xs
  pub small : all (there EVENTS) (numbers_left a d) ≡ true
  pub long : length ys ≡ 4225

module _ (d xs : List ℕ) (b : ℕ) (q : Flaggable d xs b) where
  -- the flags of the list
  flagged_all : flagged b (list_of d) xs ≡ put b (table (flag_of (list_of d)) 0 65) xs
  flagged_all =
      let n : length (table no_flag 0 65) ≡ 65 = table_length no_flag 0 65 in
      let p : length (part b 65 xs) ≡ 65 = part_length b 65 xs (omega (arith, q.inside, q.long)) in
      let z : part b 65 xs ≡ table no_flag 0 65 = ext_get_or 0 (part b 65 xs) (table no_flag 0 65) (p ∙ sym n)
      (λ i h. let k : i < 65 = omega arith in part_get b 65 xs i 0 k ∙ q.zero i k ∙ sym (table_at no_flag 0 65 i k)) in
      ap (flagged b (list_of d)) (put_part 0 b 65 xs (omega (arith, q.inside, q.long)) ∙ ap (λ r. put b r xs) z)
      ∙ flagged_table b (list_of d) xs no_flag (omega (arith, q.inside, q.long)) q.small

  -- `none` has no flags
  pub flagging_none : is_none d ≡ true → xs ≡ put b (table (flag_of (list_of d)) 0 65) xs
  unfolding flagged
  flagging_none h = sym (ap (λ l. flagged b l xs) none_list) ∙ flagged_all
    where
      none_list : list_of d ≡ []
      none_list = rw h

  -- before the first part
  pub flagging_first : is_none d ≡ false → Flagging d xs b 0 xs
  flagging_first h =
      let e = numbers_all d h q.listed in
      record { rest = rw e; small = rw e q.small; long = q.long }

  module _ (a : ℕ) (ys : List ℕ) (g : Flagging d xs b a ys) where
    -- the event that the next part says
    pub flagging_event : (e n : ℕ) → a ≤ length d → Until 44 d a (length d) e → n ≡ min (number_of (span a e d)) CAP → (n ≡ number_of (span a e d)) × (n ≤ 64)
    flagging_event e n h u t =
        let f = defer_first (number_of (span a e d)) (numbers_left (e + 1) d) (rw (numbers_next d a e h u) at g.small) in
        (omega arith, omega arith)

    -- its flag is set
    pub flagging_more : (e n : ℕ) → a ≤ length d → Until 44 d a (length d) e → n ≡ min (number_of (span a e d)) CAP → Flagging d xs b (e + 1) (set ys (b + n) 1)
    unfolding flagged
    flagging_more e n h u t =
        let i = flagging_event e n h u t in
        let f = defer_first (number_of (span a e d)) (numbers_left (e + 1) d) (rw (numbers_next d a e h u) at g.small) in
        record {
          rest = ap (λ k. flagged b (numbers_left (e + 1) d) (set ys (b + k) 1)) i.0 ∙ ap (λ l. flagged b l ys) (sym (numbers_next d a e h u)) ∙ g.rest;
          small = f.2;
          long = length-set ys (b + n) 1 ∙ g.long;
        }

    -- behind the last part
    pub flagging_all : length d < a → ys ≡ put b (table (flag_of (list_of d)) 0 65) xs
    unfolding flagged
    flagging_all h = sym (ap (λ l. flagged b (map number_of l) ys) (left_none a d h)) ∙ g.rest ∙ flagged_all

-- THE LOOP over the parts one by one: the parts ps are left
pub record FlagsLeft (d xs : List ℕ) (b : ℕ) (ps : List (List ℕ)) (ys : List ℕ) : Type 0 where
  pub rest : flagged b (map number_of ps) ys ≡ flagged b (list_of d) xs
  pub small : all (there EVENTS) (map number_of ps) ≡ true
  pub long : length ys ≡ 4225

module _ (d xs : List ℕ) (b : ℕ) (q : Flaggable d xs b) where
  -- before the first part
  pub flags_first : is_none d ≡ false → FlagsLeft d xs b (split 44 d) xs
  flags_first h = let e = numbers_said d h q.listed in record { rest = rw e; small = rw e q.small; long = q.long }

  module _ (p : List ℕ) (ps : List (List ℕ)) (ys : List ℕ) (g : FlagsLeft d xs b (p ∷ ps) ys) (n : ℕ) (t : n ≡ min (number_of p) CAP) where
    -- the event that the part p says
    pub flags_event : (n ≡ number_of p) × (n ≤ 64)
    flags_event = let f = defer_first (number_of p) (map number_of ps) g.small in (omega arith, omega arith)

    -- its flag is set
    pub flags_more : FlagsLeft d xs b ps (set ys (b + n) 1)
    unfolding flagged
    flags_more = record {
      rest = ap (λ k. flagged b (map number_of ps) (set ys (b + k) 1)) flags_event.0 ∙ g.rest;
      small = (defer_first (number_of p) (map number_of ps) g.small).2;
      long = length-set ys (b + n) 1 ∙ g.long;
    }

  -- behind the last part
  pub flags_all : (ys : List ℕ) → FlagsLeft d xs b [] ys → ys ≡ put b (table (flag_of (list_of d)) 0 65) xs
  unfolding flagged
  flags_all ys g = g.rest ∙ flagged_all d xs b q
