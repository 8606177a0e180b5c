-- What the stores of a row make of an array, whatever it holds: the row stands behind those that the first place counts, and is counted. What that makes of the
-- table of some lines stands in specs/More.antt.
use Rattle.std.specs.Prelude.{ℕ, ◌+◌, ◌*◌, List, get_or, set}

-- how many rows there are with one more
abbrev pub more : List ℕ → ℕ
more xs = get_or xs 0 0 + 1

-- a row of one number
abbrev pub one_stored : List ℕ → ℕ → List ℕ
one_stored xs k = set (set xs (more xs) k) 0 (more xs)

-- of three
abbrev pub three_stored : List ℕ → ℕ → ℕ → ℕ → List ℕ
three_stored xs k x y = set (set (set (set xs (3 * more xs) k) (3 * more xs + 1) x) (3 * more xs + 2) y) 0 (more xs)

-- and of five
abbrev pub five_stored : List ℕ → ℕ → ℕ → ℕ → ℕ → ℕ → List ℕ
five_stored xs k x y z n = set (set (set (set (set (set xs (5 * more xs) k) (5 * more xs + 1) x) (5 * more xs + 2) y) (5 * more xs + 3) z) (5 * more xs + 4) n) 0 (more xs)
