-- What a scan of a form finds in a line is what is read there byte by byte.
use Rattle.std.specs.Prelude.{ℕ, ◌+◌, ◌≤◌, ◌<◌, ◌≡◌, Bool, cond, eqb, ltb, drop, set}
use Rattle.std.proofs.Math.Path.{refl}
use Rattle.std.proofs.Common.{◌∙◌, get_or-set_same, get_or-set_other}
use Rattle.std.proofs.Math.Option.{Option, none, some}
use Rattle.std.proofs.Math.Logic.{dite}
use Rattle.std.proofs.Math.Bool.{true, false}
use mathlib.Core.List.{List, [], ◌∷◌, ◌++◌}
use Rattle.std.proofs.Math.Decide.{ℕ_discrete}
use native.Mathlib.Omega.{arith}
use borrow.Author.Tests.{eqb-true, eqb-false, ltb-true, ltb-false}
use Rattle.std.proofs.Math.ListN.{length, get_or, length-set}
use Rattle.lists.specs.Facts.{or_none}
use Rattle.lists.specs.Lists.{is_some, keep}
use Rattle.texts.specs.Forms.{Val, value_of}
use Rattle.readers.specs.Words.{word}
use Rattle.numerals.specs.Splits.{among}
use Rattle.shapes.specs.Reads.{hole, joined, reads}
use Rattle.shapes.specs.Fields.{joined_none}
use Rattle.shapes.specs.Lines.{line_of, LineAt, WordAt, line_none, line_next, line_on, word_at}
use Rattle.shapes.specs.Scan.{takes, word_end, scan, held}

-- the places p that a scan gives, from place i with n holes before it, whose places are in v
pub record FoundAt (t s : List ℕ) (e i n : ℕ) (v p : List ℕ) : Type 0 where
  pub says : reads t (line_of s i e) ≡ held (keep hole t) s p n
  pub each : is_some (held (keep hole t) s p n) ≡ true
  pub kept : (k : ℕ) → k < n → get_or p k 0 ≡ get_or v k 0
  pub inside : (k : ℕ) → get_or p k 0 ≤ e

-- what a scan found
abbrev pub Found : List ℕ → List ℕ → ℕ → ℕ → ℕ → List ℕ → Option (List ℕ) → Type 0
Found t s e i n v none = reads t (line_of s i e) ≡ none
Found t s e i n v (some p) = FoundAt t s e i n v p

-- both sides of a test
by_test : (P : Option (List ℕ) → Type 0) (z : Bool) (x y : Option (List ℕ)) → (z ≡ true → P x) → (z ≡ false → P y) → P (cond z x y)
by_test P true x y f g = f refl
by_test P false x y f g = g refl

module _ (s : List ℕ) (e : ℕ) where
  -- at the form's end
  found_end : (i n : ℕ) (v : List ℕ) → LineAt s i e → ((k : ℕ) → get_or v k 0 ≤ e) → Found [] s e i n v (cond (eqb i e) (some v) none)
  unfolding reads
  found_end i n v l low = by_test (Found [] s e i n v) (eqb i e) (some v) none
      (λ q. record { says = rw (line_none s i e (omega (arith, eqb-true i e q))); each = refl; kept = λ k h. refl; inside = low })
      (λ q. let z = eqb-false i e q in let h : i < e = omega arith in rw (line_next s i e h l.low))

  -- at a byte that is no hole
  module _ (c : ℕ) (t : List ℕ) (i n : ℕ) (v : List ℕ) (l : LineAt s i e) (no : hole c ≡ false) where
    -- the line ends too early
    found_out : e ≤ i → Found (c ∷ t) s e i n v none
    unfolding reads
    found_out h = rw (no, line_none s i e h)

    -- the line has another
    found_off : i < e → eqb c (get_or s i 0) ≡ false → Found (c ∷ t) s e i n v none
    unfolding reads
    found_off h q = rw (no, line_next s i e h l.low, q)

    -- the line has it
    found_on : i < e → eqb c (get_or s i 0) ≡ true → (r : Option (List ℕ)) → Found t s e (i + 1) n v r → Found (c ∷ t) s e i n v r
    unfolding reads
    found_on h q none f = rw (no, line_next s i e h l.low, q) f
    found_on h q (some p) f = record { says = rw (no, line_next s i e h l.low, q) f.says; each = rw no f.each; kept = f.kept; inside = f.inside }

  -- at a hole
  module _ (c : ℕ) (t : List ℕ) (i n : ℕ) (v : List ℕ) (l : LineAt s i e) (yes : hole c ≡ true) (room : n < length v) where
    -- its word
    w : WordAt s i e
    w = word_at s i e l

    -- what is read there
    reads_hole : reads (c ∷ t) (line_of s i e) ≡ joined (value_of (c ∷ []) (word (drop i s))) (reads t (line_of s (word_end s i) e))
    unfolding reads
    reads_hole = rw (yes, w.rest, w.bytes)

    -- the word is no value for it
    found_not : takes c s i ≡ false → Found (c ∷ t) s e i n v none
    found_not q = rw reads_hole (none_first (value_of (c ∷ []) (word (drop i s))) q)
      where
        none_first : (o : Option (List Val)) → is_some o ≡ false → joined o (reads t (line_of s (word_end s i) e)) ≡ none
        none_first none q = refl
        none_first (some x) q = absurd (let z : ◌≡◌ {A = ℕ} 0 1 = cc in omega arith)

    -- the word is one
    found_taken : takes c s i ≡ true → (r : Option (List ℕ)) → Found t s e (word_end s i) (n + 1) (set v n i) r → Found (c ∷ t) s e i n v r
    found_taken q none f = rw (reads_hole, f) (joined_none (value_of (c ∷ []) (word (drop i s))))
    found_taken q (some p) f =
        let here : get_or p n 0 ≡ i = f.kept n (omega arith) ∙ get_or-set_same v n i 0 room in
        record {
          says = rw (reads_hole, f.says, yes, here);
          each = rw (yes, here) (both_some (value_of (c ∷ []) (word (drop i s))) (held (keep hole t) s p (n + 1)) q f.each);
          kept = λ k h. f.kept k (omega arith) ∙ get_or-set_other v n k i 0 (λ z. omega arith);
          inside = f.inside;
        }
      where
        both_some : (x y : Option (List Val)) → is_some x ≡ true → is_some y ≡ true → is_some (joined x y) ≡ true
        both_some none y a b = absurd (let z : ◌≡◌ {A = ℕ} 0 1 = cc in omega arith)
        both_some (some x) none a b = absurd (let z : ◌≡◌ {A = ℕ} 0 1 = cc in omega arith)
        both_some (some x) (some y) a b = refl

  -- one more place
  low_set : (v : List ℕ) (n i : ℕ) → n < length v → i ≤ e → ((k : ℕ) → get_or v k 0 ≤ e) → (k : ℕ) → get_or (set v n i) k 0 ≤ e
  low_set v n i h q low k = dite (ℕ_discrete k n)
      (λ z. rw (z, get_or-set_same v n i 0 h) q)
      (λ z. rw (get_or-set_other v n k i 0 z) (low k))

  -- A SCAN of a form t that has no LF and whose holes find room
  pub scan_found : (t rest : List ℕ) → among 10 t ≡ false → (i n : ℕ) (v : List ℕ) → LineAt s i e → n + length (keep hole t) ≤ length v → ((k : ℕ) → get_or v k 0 ≤ e)
      → Found t s e i n v (scan (t ++ 10 ∷ rest) s e i n v)
  unfolding scan
  scan_found [] rest lf i n v l room low = found_end i n v l low
  scan_found (c ∷ t) rest lf i n v l room low =
      rw (or_none (eqb c 10) (among 10 t) lf).0
      (go (hole c) refl (scan_found t rest (or_none (eqb c 10) (among 10 t) lf).1))
    where
      go : (x : Bool) → hole c ≡ x
          → ((i n : ℕ) (v : List ℕ) → LineAt s i e → n + length (keep hole t) ≤ length v → ((k : ℕ) → get_or v k 0 ≤ e) → Found t s e i n v (scan (t ++ 10 ∷ rest) s e i n v))
          → Found (c ∷ t) s e i n v
          (cond x (cond (takes c s i) (scan (t ++ 10 ∷ rest) s e (word_end s i) (n + 1) (set v n i)) none)
          (cond (ltb i e) (cond (eqb c (get_or s i 0)) (scan (t ++ 10 ∷ rest) s e (i + 1) n v) none) none))
      go true h k =
          let r : n + 1 + length (keep hole t) ≤ length v = omega (arith, rw h at room) in
          let q : n < length v = omega arith in
          by_test (Found (c ∷ t) s e i n v) (takes c s i) (scan (t ++ 10 ∷ rest) s e (word_end s i) (n + 1) (set v n i)) none
          (λ z. found_taken c t i n v l h q z (scan (t ++ 10 ∷ rest) s e (word_end s i) (n + 1) (set v n i))
          (k (word_end s i) (n + 1) (set v n i) (word_at s i e l).behind (rw length-set r) (low_set v n i q l.inside low)))
          (λ z. found_not c t i n v l h q z)
      go false h k =
          let r : n + length (keep hole t) ≤ length v = rw h at room in
          by_test (Found (c ∷ t) s e i n v) (ltb i e) (cond (eqb c (get_or s i 0)) (scan (t ++ 10 ∷ rest) s e (i + 1) n v) none) none
          (λ z. let b : i < e = ltb-true i e z in
          by_test (Found (c ∷ t) s e i n v) (eqb c (get_or s i 0)) (scan (t ++ 10 ∷ rest) s e (i + 1) n v) none
          (λ y. found_on c t i n v l h b y (scan (t ++ 10 ∷ rest) s e (i + 1) n v) (k (i + 1) n v (line_on s i e l b) r low))
          (λ y. found_off c t i n v l h b y))
          (λ z. found_out c t i n v l h (ltb-false i e z))
