-- A line read byte by byte against a form: a hole takes the bytes till the next space, any other byte of the form stands for itself.
use Rattle.std.specs.Prelude.{ℕ, Bool, true, false, not, cond, ◌&&◌, ◌||◌, List, [], ◌∷◌, ◌++◌, eqb}
use Rattle.std.proofs.Math.Option.{Option, none, some}
use Rattle.lists.specs.Lists.{on_opt}
use Rattle.texts.specs.Forms.{Val, value_of}
use Rattle.shapes.specs.Parts.{till}

-- the holes of forms: '#' is 35, '~' 126, '@' 64, '%' 37
abbrev pub hole : ℕ → Bool
hole c = eqb c 35 || eqb c 126 || eqb c 64 || eqb c 37

-- from the first space (32) on
abbrev pub after : List ℕ → List ℕ
after [] = []
after (b ∷ s) = let rest = after s in cond (eqb b 32) (b ∷ s) rest

-- the values of both, if they are there
abbrev pub joined : Option (List Val) → Option (List Val) → Option (List Val)
joined x y = on_opt x none (λ v. on_opt y none (λ w. some (v ++ w)))

-- f of what follows, where c is the first byte
abbrev pub begun : ℕ → List ℕ → (List ℕ → Option (List Val)) → Option (List Val)
begun c [] f = none
begun c (b ∷ l) f = cond (eqb c b) (f l) none

-- the values of a line in a form: the form, the line
unfoldable pub reads : List ℕ → List ℕ → Option (List Val)
reads [] [] = some []
reads [] (b ∷ l) = none
reads (c ∷ t) l =
    let value = joined (value_of (c ∷ []) (till 32 l)) (reads t (after l)) in
    cond (hole c) value (begun c l (λ m. reads t m))

-- where a reader of a form stands: in a key; at a value; in a word that stands for itself; behind a hole
pub data Place : Type 0 where
  key : Place
  value : Place
  word : Place
  end : Place

-- a byte of a key or of a word: no hole, no '=' (61), no space
abbrev pub plain : ℕ → Bool
plain c = not (hole c) && not (eqb c 61) && not (eqb c 32)

-- FORMS are fields `key=value` with single spaces between; a value is a hole or a word
unfoldable pub formed : Place → List ℕ → Bool
formed key [] = false
formed key (c ∷ t) = let on = plain c && formed key t in cond (eqb c 61) (formed value t) on
formed value [] = false
formed value (c ∷ t) = let on = plain c && formed word t in cond (hole c) (formed end t) on
formed word [] = true
formed word (c ∷ t) = let on = plain c && formed word t in cond (eqb c 32) (formed key t) on
formed end [] = true
formed end (c ∷ t) = eqb c 32 && formed key t
