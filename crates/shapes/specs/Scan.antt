-- A form scanned over a line of a text, as a loop does it: the places of the values of its holes.
use Rattle.std.specs.Prelude.{ℕ, ◌+◌, Bool, cond, List, [], ◌∷◌, eqb, ltb, length, drop, get_or, set}
use Rattle.std.proofs.Math.Option.{Option, none, some}
use Rattle.lists.specs.Lists.{is_some}
use Rattle.texts.specs.Forms.{Val, value_of}
use Rattle.readers.specs.Words.{word}
use Rattle.shapes.specs.Reads.{hole, joined}

-- the word at place i is a value for the hole c
abbrev pub takes : ℕ → List ℕ → ℕ → Bool
takes c s i = is_some (value_of (c ∷ []) (word (drop i s)))

-- where the word at place i ends
abbrev pub word_end : List ℕ → ℕ → ℕ
word_end s i = i + length (word (drop i s))

-- no places yet
abbrev pub zeros : List ℕ
zeros = 0 ∷ 0 ∷ 0 ∷ 0 ∷ 0 ∷ []

-- the form up to its LF (10), the text, the line's end, the place, how many holes there were, and their places
unfoldable pub scan : List ℕ → List ℕ → ℕ → ℕ → ℕ → List ℕ → Option (List ℕ)
scan [] s e i n v = none
scan (c ∷ t) s e i n v =
    let ended = cond (eqb i e) (some v) none in
    let taken = cond (takes c s i) (scan t s e (word_end s i) (n + 1) (set v n i)) none in
    let on = cond (ltb i e) (cond (eqb c (get_or s i 0)) (scan t s e (i + 1) n v) none) none in
    cond (eqb c 10) ended (cond (hole c) taken on)

-- the values at the places: the holes, the text, the places, the number of the first hole
abbrev pub held : List ℕ → List ℕ → List ℕ → ℕ → Option (List Val)
held [] s p n = some []
held (h ∷ hs) s p n = joined (value_of (h ∷ []) (word (drop (get_or p n 0) s))) (held hs s p (n + 1))
