-- The forms laid one behind the other in one text, each ended by LF, and the places where they begin.
use Rattle.std.specs.Prelude.{ℕ, zero, suc, ◌+◌, ◌<◌, ◌≡◌, Bool, not, ◌&&◌, List, [], ◌∷◌, ◌++◌, leb, length, drop, get_or}
use Prim.Native.String.{String}
use Rattle.std.proofs.Common.{append_assoc, arith, length-append, drop_at}
use Rattle.lists.specs.Lists.{keep}
use Rattle.texts.specs.Bytes.{bytes, LF, text}
use Rattle.numerals.specs.Splits.{among}
use Rattle.shapes.specs.Reads.{hole, key, formed}

-- the places where the lines of a text begin, the first at k
abbrev pub begins : ℕ → List String → List ℕ
begins k [] = []
begins k (n ∷ ns) = k ∷ begins (k + length (bytes n) + 1) ns

-- from such a place on there are the lines from that one on
pub begins_at : (ns : List String) (pre : List ℕ) (k r : ℕ) → length pre ≡ k → r < length ns → drop (get_or (begins k ns) r 0) (pre ++ text ns) ≡ text (drop r ns)
begins_at [] pre k r e h = absurd (omega arith)
begins_at (n ∷ ns) pre k zero e h = drop_at pre (text (n ∷ ns)) k e
begins_at (n ∷ ns) pre k (suc r) e h =
    let more = begins_at ns (pre ++ bytes n ++ LF ∷ []) (k + length (bytes n) + 1) r (simp length-append (omega arith)) (omega arith) in
    simp append_assoc at more

-- A FORM that can be scanned: fields, no LF, and at most five holes
abbrev pub sound : List ℕ → Bool
sound t = formed key t && not (among 10 t) && leb (length (keep hole t)) 5
