-- A rule's name by the rule's number; and the names in a row, one behind the other, with the place where each ends.
use Rattle.std.specs.Prelude.{ℕ, ◌+◌, ◌-◌, ◌≤◌, ◌<◌, ◌≡◌, refl, List, [], ◌∷◌, eqb, length, get_or}
use Rattle.std.proofs.Common.{ap, sym, ◌∙◌, arith}
use Rattle.std.proofs.Math.ListN.{get_or-eq_default}
use Rattle.lists.specs.Lists.{There, any}
use Rattle.lists.specs.Facts.{has, All-has}
use Rattle.lists.specs.Tells.{itself, at_most_lem, up_to_is}
use Rattle.rows.specs.Part.{part, put, part_length}
use Rattle.copies.specs.Copies.{Within}
use Rattle.rules.specs.declared.Rule.{Rule}
use Rattle.rules.specs.declared.Rule.TheVariants.{POP2}
use Rattle.labels.specs.Labels.{rule_number, by_number, rule_of, rule_again}
use Rattle.texts.specs.Bytes.{bytes}
use Rattle.outputs.specs.Lines.{rule_name}
use Rattle.writing.specs.Wrote.{Room, Wrote}

-- THE NAME of the rule with the number n
unfoldable pub name_of : ℕ → List ℕ
name_of n = bytes (rule_name (rule_of n))

-- of a rule's number it is the rule's
pub name_is : (R : Rule) → name_of (rule_number R) ≡ bytes (rule_name R)
unfolding name_of
name_is R = ap (λ (S : Rule). bytes (rule_name S)) (rule_again R)

-- all the names in a row
abbrev pub names : List ℕ
names = bytes "ASSIGNNEWDELETEASSERTSEQIFWHILESENDRAISELEAVERETURNDEQUEUESTEPACTIONCALLPOP1POP2"

-- where each ends
abbrev pub ends : List ℕ
ends = 0 ∷ 6 ∷ 9 ∷ 15 ∷ 21 ∷ 24 ∷ 26 ∷ 31 ∷ 35 ∷ 40 ∷ 45 ∷ 51 ∷ 58 ∷ 62 ∷ 68 ∷ 72 ∷ 76 ∷ 80 ∷ []

-- where name n begins,
abbrev pub from : ℕ → ℕ
from n = get_or ends (n - 1) 0

-- and ends
abbrev pub to : ℕ → ℕ
to n = get_or ends n 0

-- the numbers of the rules
abbrev numbers : List ℕ
numbers = 1 ∷ 2 ∷ 3 ∷ 4 ∷ 5 ∷ 6 ∷ 7 ∷ 8 ∷ 9 ∷ 10 ∷ 11 ∷ 12 ∷ 13 ∷ 14 ∷ 15 ∷ 16 ∷ 17 ∷ []

-- every number from 1 to 17 is one
one_of_them : (n : ℕ) → There 17 n → has n numbers
one_of_them = (up_to_is (λ k. itself (any (eqb k) numbers)) 17).holds refl

-- name n lies between its two ends
abbrev Lies : ℕ → Type 0
Lies n = part (from n) (to n - from n) names ≡ name_of n

-- of every rule's
name_lies : (n : ℕ) → There 17 n → Lies n
unfolding part name_of
name_lies n h = All-has n Lies numbers (one_of_them n h) (refl, (refl, (refl, (refl, (refl, (refl, (refl, (refl, (refl, (refl, (refl, (refl, (refl, (refl, (refl, (refl, (refl, tt)))))))))))))))))

-- it ends no earlier than it begins,
lies_ordered : (n : ℕ) → There 17 n → from n ≤ to n
lies_ordered = (up_to_is (λ k. at_most_lem (from k) (to k)) 17).holds refl

-- and within the row
lies_within : (n : ℕ) → There 17 n → to n ≤ length names
lies_within = (up_to_is (λ k. at_most_lem (to k) (length names)) 17).holds refl

-- a number that is no rule's stands for the last rule: 0,
name_of_0 : name_of 0 ≡ name_of 17
unfolding name_of
name_of_0 = refl

-- or one above 17
name_above : (n : ℕ) → 17 < n → name_of n ≡ name_of 17
unfolding name_of
name_above n h = ap (λ (S : Rule). bytes (rule_name S)) (get_or-eq_default by_number POP2 {n = n} (omega arith))

-- A NAME IS WRITTEN: n is a rule's number, and there is room
pub record NameAsked (n at : ℕ) (old : List ℕ) : Type 0 where
  pub there : There 17 n
  pub room : Room (name_of n) at old

module _ {n at : ℕ} {old : List ℕ} (a : NameAsked n at old) where
  -- its two ends are in order,
  pub name_ordered : from n ≤ to n
  name_ordered = lies_ordered n a.there

  -- the name has its length,
  size_is : to n - from n ≡ length (name_of n)
  size_is =
      let e : length (part (from n) (to n - from n) names) ≡ to n - from n = part_length (from n) (to n - from n) names (omega (arith, name_ordered, lies_within n a.there)) in
      sym e ∙ ap length (name_lies n a.there)

  -- it is copied within the row and the buffer,
  pub name_within : Within old at names (from n) (to n - from n)
  name_within = record { target = omega (arith, a.room, size_is); source = omega (arith, name_ordered, lies_within n a.there) }

  -- and then it is written
  pub wrote_name : {new : List ℕ} → new ≡ put at (part (from n) (to n - from n) names) old → Wrote (name_of n) at old (at + (to n - from n)) new
  wrote_name e = record { place = omega (arith, size_is); holds = e ∙ ap (λ (l : List ℕ). put at l old) (name_lies n a.there) }

-- OF ANY NUMBER: that of a rule as it is,
pub asked_rule : {n at : ℕ} {old : List ℕ} → (n ≡ 0 → ⊥) → n ≤ 17 → Room (name_of n) at old → NameAsked n at old
asked_rule low high room = record { there = (omega (arith, low), high); room = room }

-- 0 as the last rule's,
pub asked_0 : {n at : ℕ} {old : List ℕ} → n ≡ 0 → Room (name_of n) at old → NameAsked 17 at old
asked_0 e room = record { there = (omega arith, omega arith); room = rw (e, name_of_0) at room }

-- which is then written,
pub wrote_0 : {n at : ℕ} {old : List ℕ} {r : ℕ} {new : List ℕ} → n ≡ 0 → Wrote (name_of 17) at old r new → Wrote (name_of n) at old r new
wrote_0 e w = rw (e, name_of_0) w

-- and a number above 17 too
pub asked_above : {n at : ℕ} {old : List ℕ} → 17 < n → Room (name_of n) at old → NameAsked 17 at old
asked_above {n} h room = record { there = (omega arith, omega arith); room = rw (name_above n h) at room }

-- which is then written
pub wrote_above : {n at : ℕ} {old : List ℕ} {r : ℕ} {new : List ℕ} → 17 < n → Wrote (name_of 17) at old r new → Wrote (name_of n) at old r new
wrote_above {n} h w = rw (name_above n h) w
