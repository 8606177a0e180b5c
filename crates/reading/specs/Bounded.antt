-- A TEXT HAS NO MORE MOVES AND PAIRS than its tables have places: what the definition reads a text to has taken its bytes.
use Rattle.std.specs.Prelude.{ℕ, ◌+◌, ◌*◌, ◌≤◌, ◌≡◌, refl, Bool, true, false, cond, List, [], ◌∷◌, ◌++◌, reverse, length}
use Rattle.std.proofs.Math.Option.{Option, none, some}
use Rattle.std.proofs.Common.{arith, length-append}
use Rattle.lists.specs.Lists.{on_opt, flat}
use Rattle.answers.specs.declared.Answer.TheVariants.{NotInForm, OutOfRange}
use Rattle.programs.specs.Sizes.{TEXT}
use Rattle.programs.specs.Program.{Program}
use Rattle.soundness.specs.Asked.{init_of}
use Rattle.machines.specs.Config.{Choice}
use Rattle.tables.specs.Decode.{MOVES, PAIRS}
use Rattle.texts.specs.Bytes.{LF, split}
use Rattle.texts.specs.Forms.{Said, said}
use Rattle.texts.specs.Reading.{Tables, tables, nothing, put, kind, ordered, ranged, Result, loaded, refused, whole, reading}
use Rattle.numerals.specs.Splits.{bytes_of, split_total}
use Rattle.lengths.specs.Lengths.{said_bytes}
use Rattle.one_line.specs.Order.{Weighs, weighs_none, weighs_more}

-- n bytes are enough for what is loaded
abbrev Enough : ℕ → Result → Type 0
Enough n (refused b k) = Unit {0}
Enough n (loaded p c) = (16 * (length p.steps + (length p.calls + length p.acts)) ≤ n) × (4 * length (flat init_of p.stmts) ≤ n)

-- both sides of a test
either : (n : ℕ) (b : Bool) (x y : Result) → Enough n x → Enough n y → Enough n (cond b x y)
either n true x y h k = h
either n false x y h k = k

-- all lines
whole_enough : (n m k : ℕ) (a : Tables) → n ≤ m → Weighs a n → Enough m (whole a k)
whole_enough n m k (tables es ms vs xs ss acs ns ts cs ds [] hs) h w = tt
whole_enough n m k (tables es ms vs xs ss acs ns ts cs ds (s ∷ l) hs) h w =
    (omega (arith, w.moves, length-append (reverse ts) (reverse cs ++ reverse ds), length-append (reverse cs) (reverse ds)), omega (arith, w.pairs))

-- the lines from one on, behind n bytes
reading_enough : (n last : ℕ) (a : Tables) (k m : ℕ) (ls : List (List ℕ)) → Weighs a n → n + bytes_of ls ≤ m → Enough m (reading last a k ls)
reading_enough n last a k m [] w h = whole_enough n m k a (omega arith) w
reading_enough n last a k m ([] ∷ []) w h = whole_enough n m k a (omega arith) w
reading_enough n last a k m ((b ∷ l) ∷ []) w h = tt
reading_enough n last a k m (l ∷ x ∷ ls) w h = go (said l) refl (λ j t q r. reading_enough (n + (length l + 1)) j t (k + 1) m (x ∷ ls) q r)
  where
    go : (o : Option Said) → said l ≡ o
        → ((j : ℕ) (t : Tables) → Weighs t (n + (length l + 1)) → n + (length l + 1) + bytes_of (x ∷ ls) ≤ m → Enough m (reading j t (k + 1) (x ∷ ls)))
        → Enough m (on_opt o (refused NotInForm k) (λ y.
        cond (ordered last y) (cond (ranged a y) (reading (kind y) (put y a) (k + 1) (x ∷ ls)) (refused OutOfRange k)) (refused NotInForm k)))
    go none e later = tt
    go (some y) e later =
        let b = said_bytes l y e in
        either m (ordered last y) _ (refused NotInForm k)
        (either m (ranged a y) _ (refused OutOfRange k) (later (kind y) (put y a) (weighs_more a y n (length l + 1) w (omega arith) b.0 b.1) (omega arith)) tt) tt

-- THE law: the moves and the pairs of a text that is not too long have their places.
pub text_bounded : (t : List ℕ) (p : Program) (c : List Choice) → length t ≤ TEXT → reading 0 nothing 1 (split LF t) ≡ loaded p c
    → (length p.steps + (length p.calls + length p.acts) ≤ MOVES) × (length (flat init_of p.stmts) ≤ PAIRS)
text_bounded t p c h e =
    let q : Enough (length t + 1) (loaded p c) = rw e at (reading_enough 0 0 nothing 1 (length t + 1) (split LF t) weighs_none (omega (arith, split_total LF t))) in
    (omega (arith, q.0), omega (arith, q.1))
