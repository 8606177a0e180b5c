-- A number that is kept as the least of it and the largest of 32 bits is written as the number itself is.
use Rattle.std.specs.Prelude.{ℕ, min, ◌≡◌}
use Rattle.std.proofs.Common.{arith}
use Rattle.tabled.specs.Tabled.{byte_of, word_of}

-- in 8 bits
pub byte_kept : (n : ℕ) → byte_of (min n 4294967295) ≡ byte_of n
byte_kept n = omega arith

-- in 16 bits
pub word_kept : (n : ℕ) → word_of (min n 4294967295) ≡ word_of n
word_kept n = omega arith
