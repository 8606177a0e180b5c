-- How many bytes were read, in a buffer that holds them.
use Rattle.std.specs.Prelude.{ℕ, List, ◌≤◌, ◌≡◌, length, take}

-- n of the elements stand at the front of xs
abbrev pub IsPrefixLen : ℕ → List ℕ → Type 0
IsPrefixLen n xs = (n ≤ length xs) × (n ≡ length (take n xs))
