-- The definition's reading of a text (crates/texts), from a place of the text on: line by line, as a loop over the places does it; and the lines that are held
-- when it ends.
use Rattle.std.specs.Prelude.{ℕ, ◌+◌, ◌≤◌, ◌<◌, ◌≡◌, refl, Bool, true, false, cond, List, [], ◌∷◌, eqb, length}
use Rattle.std.proofs.Common.{ap, sym, ◌∙◌, arith, drop_of_length-le}
use Rattle.std.proofs.Math.Option.{Option, none, some}
use Rattle.lists.specs.Lists.{on_opt}
use Rattle.answers.specs.declared.Answer.{Answer}
use Rattle.answers.specs.declared.Answer.TheVariants.{NotInForm, OutOfRange}
use Rattle.texts.specs.Bytes.{LF, split, before}
use Rattle.texts.specs.Forms.{Said, said}
use Rattle.texts.specs.Reading.{Tables, tables, nothing, put, kind, ordered, ranged, Result, refused, whole, reading}
use Rattle.numerals.specs.Splits.{span, Until, span_length, span_rest, span_whole, split_next, split_end}

-- a line x in the form, with more behind it
abbrev pub read_line : ℕ → Tables → ℕ → Said → Result × Tables → Result × Tables
read_line last a k x after = cond (ordered last x) (cond (ranged a x) after (refused OutOfRange k, a)) (refused NotInForm k, a)

-- WHAT THE LINES COME TO, with the lines that are held then: all of them, or those in front of the first that is refused
abbrev pub read_to : ℕ → Tables → ℕ → List (List ℕ) → Result × Tables
read_to last a k [] = (whole a k, a)
read_to last a k ([] ∷ []) = (whole a k, a)
read_to last a k ((b ∷ l) ∷ []) = (refused NotInForm k, a)
read_to last a k (l ∷ m ∷ ls) = on_opt (said l) (refused NotInForm k, a) (λ x. read_line last a k x (read_to (kind x) (put x a) (k + 1) (m ∷ ls)))

-- a line says what it does in the definition, if the lines behind it do
line : (last : ℕ) (a : Tables) (k : ℕ) (m : List ℕ) (ls : List (List ℕ)) (o : Option Said)
    → ((x : Said) → (read_to (kind x) (put x a) (k + 1) (m ∷ ls)).0 ≡ reading (kind x) (put x a) (k + 1) (m ∷ ls))
    → (on_opt o (refused NotInForm k, a) (λ x. read_line last a k x (read_to (kind x) (put x a) (k + 1) (m ∷ ls)))).0
    ≡ on_opt o (refused NotInForm k) (λ x. cond (ordered last x) (cond (ranged a x) (reading (kind x) (put x a) (k + 1) (m ∷ ls)) (refused OutOfRange k)) (refused NotInForm k))
line last a k m ls none h = refl
line last a k m ls (some x) h = go (ordered last x) (ranged a x) (read_to (kind x) (put x a) (k + 1) (m ∷ ls)) (h x)
  where
    go : (o r : Bool) (t : Result × Tables) {z : Result} → t.0 ≡ z
        → (cond o (cond r t (refused OutOfRange k, a)) (refused NotInForm k, a)).0 ≡ cond o (cond r z (refused OutOfRange k)) (refused NotInForm k)
    go true true t e = e
    go true false t e = refl
    go false r t e = refl

-- they come to what the definition says
pub read_is : (last : ℕ) (a : Tables) (k : ℕ) (ls : List (List ℕ)) → (read_to last a k ls).0 ≡ reading last a k ls
read_is last a k [] = refl
read_is last a k ([] ∷ []) = refl
read_is last a k ((b ∷ l) ∷ []) = refl
read_is last a k ([] ∷ m ∷ ls) = line last a k m ls (said []) (λ x. read_is (kind x) (put x a) (k + 1) (m ∷ ls))
read_is last a k ((b ∷ l) ∷ m ∷ ls) = line last a k m ls (said (b ∷ l)) (λ x. read_is (kind x) (put x a) (k + 1) (m ∷ ls))

-- REFUSED at line m: no line in front of the first that is read
refused_here : (k : ℕ) (x : Answer) (a c : Tables) (b : Answer) (m : ℕ) → ◌≡◌ {A = Result × Tables} (refused x k, a) (refused b m, c) → k ≤ m
refused_here k x a c b m e = let f : refused x k ≡ refused b m = ap (λ (z : Result × Tables). z.0) e in let g : k ≡ m = cc in omega (arith, g)

-- a text without a start is refused behind its last line
refused_last : (a : Tables) (k : ℕ) (b : Answer) (m : ℕ) (c : Tables) → ◌≡◌ {A = Result × Tables} (whole a k, a) (refused b m, c) → k ≤ m
refused_last (tables es ms vs xs ss acs ns ts cs ds [] hs) k b m c e = refused_here k NotInForm (tables es ms vs xs ss acs ns ts cs ds [] hs) c b m e
refused_last (tables es ms vs xs ss acs ns ts cs ds (s ∷ ss') hs) k b m c e =
    let f : whole (tables es ms vs xs ss acs ns ts cs ds (s ∷ ss') hs) k ≡ refused b m = ap (λ (z : Result × Tables). z.0) e in let q : ◌≡◌ {A = ℕ} 0 1 = cc in absurd (omega arith)

-- a line and those behind it
refused_line : (last : ℕ) (a : Tables) (k : ℕ) (o : Option Said) (f : Said → Result × Tables) → ((x : Said) (b : Answer) (m : ℕ) (c : Tables) → f x ≡ (refused b m, c) → k + 1 ≤ m)
    → (b : Answer) (m : ℕ) (c : Tables) → on_opt o (refused NotInForm k, a) (λ x. read_line last a k x (f x)) ≡ (refused b m, c) → k ≤ m
refused_line last a k none f h b m c e = refused_here k NotInForm a c b m e
refused_line last a k (some x) f h b m c e = go (ordered last x) (ranged a x) e
  where
    go : (o r : Bool) → cond o (cond r (f x) (refused OutOfRange k, a)) (refused NotInForm k, a) ≡ (refused b m, c) → k ≤ m
    go true true e = omega (arith, h x b m c e)
    go true false e = refused_here k OutOfRange a c b m e
    go false r e = refused_here k NotInForm a c b m e

pub refused_behind : (last : ℕ) (a : Tables) (k : ℕ) (ls : List (List ℕ)) (b : Answer) (m : ℕ) (c : Tables) → read_to last a k ls ≡ (refused b m, c) → k ≤ m
refused_behind last a k [] b m c e = refused_last a k b m c e
refused_behind last a k ([] ∷ []) b m c e = refused_last a k b m c e
refused_behind last a k ((d ∷ l) ∷ []) b m c e = refused_here k NotInForm a c b m e
refused_behind last a k ([] ∷ n ∷ ls) b m c e =
    refused_line last a k (said []) (λ x. read_to (kind x) (put x a) (k + 1) (n ∷ ls)) (λ x. refused_behind (kind x) (put x a) (k + 1) (n ∷ ls)) b m c e
refused_behind last a k ((d ∷ l) ∷ n ∷ ls) b m c e =
    refused_line last a k (said (d ∷ l)) (λ x. read_to (kind x) (put x a) (k + 1) (n ∷ ls)) (λ x. refused_behind (kind x) (put x a) (k + 1) (n ∷ ls)) b m c e

-- THE LINES THAT ARE HELD when a text is read: all, or those in front of the first that is refused
abbrev pub held_lines : List ℕ → Tables
held_lines s = (read_to 0 nothing 1 (split LF s)).1

-- THE REST of the reading: the lines from place i on, of which the first is line k, after the lines a, the last of which is of kind `last`
abbrev pub read_from : List ℕ → ℕ → Tables → ℕ → ℕ → Result × Tables
read_from s last a k i = read_to last a k (split LF (span i (length s) s))

-- at first
pub read_first : (s : List ℕ) → read_to 0 nothing 1 (split LF s) ≡ read_from s 0 nothing 1 0
read_first s = ap (λ (l : List ℕ). read_to 0 nothing 1 (split LF l)) (sym (span_whole s))

-- there is always a part
split_some : (s : List ℕ) → (m : List ℕ) × (ls : List (List ℕ)) × (split LF s ≡ m ∷ ls)
split_some [] = ([], [], refl)
split_some (b ∷ s) = go (eqb b LF) (split_some s)
  where
    go : (t : Bool) → (m : List ℕ) × (ls : List (List ℕ)) × (split LF s ≡ m ∷ ls) → (m : List ℕ) × (ls : List (List ℕ)) × (cond t ([] ∷ split LF s) (before b (split LF s)) ≡ m ∷ ls)
    go true r = ([], split LF s, refl)
    go false r = (b ∷ r.0, r.1, ap (before b) r.2)

module _ (s : List ℕ) (last : ℕ) (a : Tables) (k i : ℕ) where
  -- AT THE END: all lines are read
  pub read_end : length s ≤ i → read_from s last a k i ≡ (whole a k, a)
  read_end h = ap (λ (l : List ℕ). read_to last a k (split LF l)) (span_rest i s ∙ drop_of_length-le s h)

  module _ (e : ℕ) (u : Until LF s i (length s) e) where
    -- A LAST LINE WITHOUT ITS LF
    pub read_cut : i < length s → length s ≤ e → read_from s last a k i ≡ (refused NotInForm k, a)
    read_cut h l =
        ap (read_to last a k) (split_end LF s i (length s) e (omega arith) u l)
        ∙ go (span i e s) (omega (arith, span_length i e s (omega (arith, u.high)), u.high))
      where
        go : (l : List ℕ) → 0 < length l → read_to last a k (l ∷ []) ≡ (refused NotInForm k, a)
        go [] h = absurd (omega arith)
        go (b ∷ l) h = refl

    -- A LINE with its LF
    next : e < length s → (m : List ℕ) (ls : List (List ℕ)) → split LF (span (e + 1) (length s) s) ≡ m ∷ ls → (l : List ℕ)
        → read_to last a k (l ∷ split LF (span (e + 1) (length s) s))
        ≡ on_opt (said l) (refused NotInForm k, a) (λ x. read_line last a k x (read_from s (kind x) (put x a) (k + 1) (e + 1)))
    next h m ls q l = rw q (go l)
      where
        go : (l : List ℕ) → read_to last a k (l ∷ m ∷ ls) ≡ on_opt (said l) (refused NotInForm k, a) (λ x. read_line last a k x (read_to (kind x) (put x a) (k + 1) (m ∷ ls)))
        go [] = refl
        go (b ∷ l) = refl

    pub read_next : e < length s
        → read_from s last a k i ≡ on_opt (said (span i e s)) (refused NotInForm k, a) (λ x. read_line last a k x (read_from s (kind x) (put x a) (k + 1) (e + 1)))
    read_next h =
        let r = split_some (span (e + 1) (length s) s) in
        ap (read_to last a k) (split_next LF s i (length s) e (omega arith) u h) ∙ next h r.0 r.1 r.2 (span i e s)

    -- in no form
    pub read_formless : e < length s → said (span i e s) ≡ none → read_from s last a k i ≡ (refused NotInForm k, a)
    read_formless h n = read_next h ∙ ap (λ (o : Option Said). on_opt o (refused NotInForm k, a) (λ x. read_line last a k x (read_from s (kind x) (put x a) (k + 1) (e + 1)))) n

    module _ (h : e < length s) (x : Said) (q : said (span i e s) ≡ some x) where
      in_form : read_from s last a k i ≡ read_line last a k x (read_from s (kind x) (put x a) (k + 1) (e + 1))
      in_form = read_next h ∙ ap (λ (o : Option Said). on_opt o (refused NotInForm k, a) (λ y. read_line last a k y (read_from s (kind y) (put y a) (k + 1) (e + 1)))) q

      -- out of order
      pub read_disordered : ordered last x ≡ false → read_from s last a k i ≡ (refused NotInForm k, a)
      read_disordered o = in_form ∙ rw o

      -- out of range
      pub read_unranged : ordered last x ≡ true → ranged a x ≡ false → read_from s last a k i ≡ (refused OutOfRange k, a)
      read_unranged o r = in_form ∙ rw (o, r)

      -- read: one line more
      pub read_on : ordered last x ≡ true → ranged a x ≡ true → read_from s last a k i ≡ read_from s (kind x) (put x a) (k + 1) (e + 1)
      read_on o r = in_form ∙ rw (o, r)
