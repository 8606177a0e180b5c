-- A choice as one number: its machine and its bits. Any number is a choice, so that no list that is lent can upset a run: "In a lent list any number not live, 0 too, is 19."
use Rattle.std.specs.Prelude.{ℕ, ◌+◌, ◌*◌, ◌/◌, ◌%◌, ◌<◌, ◌≡◌, List, map}
use Rattle.std.proofs.Common.{arith}
use Rattle.machines.specs.Config.{Choice}

-- the number of a choice
abbrev pub choice_word : Choice → ℕ
choice_word x = x.machine * 256 + x.bits

-- the choice that a number is
abbrev pub choice_of : ℕ → Choice
choice_of n = record { machine = n / 256; bits = n % 256 }

-- the choices of a list of numbers
abbrev pub choices_of : List ℕ → List Choice
choices_of l = map choice_of l

-- the number of the choice that a number is, is that number again
pub word_again : (n : ℕ) → choice_word (choice_of n) ≡ n
word_again n = omega arith

-- its bits are a choice's: 0 to 255
pub bits_small : (n : ℕ) → (choice_of n).bits < 256
bits_small n = omega arith

-- and a choice is the one that its number is
pub choice_again : (x : Choice) → x.bits < 256 → choice_of (choice_word x) ≡ x
choice_again x h =
    let m : (choice_of (choice_word x)).machine ≡ x.machine = omega (arith, h) in
    let b : (choice_of (choice_word x)).bits ≡ x.bits = omega (arith, h) in
    λ i. record { machine = m i; bits = b i }
