-- `lowness::leaf_stars` meets its contract: a star is one, any other leaf is none.
use mir.Val.{bool_byte}
use Rattle.std.proofs.Common.{◌≡◌, refl, sym, ap, ◌∙◌, Bool, true, false, rules}
use Rattle.programs.specs.declared.Leaf.{Leaf}
use Rattle.programs.specs.declared.Leaf.TheVariants.{Star}
use Rattle.programs.specs.Trees.{stars, tip}
use Rattle.lowness.specs.Trees.{leaf_none}
use Rattle.lowness.proofs.leaf_stars.Goals as goal

-- the byte of a test that says whether it is a star
star_byte : (l : Leaf) (b : Bool) → (b ≡ true → l ≡ Star) → (b ≡ false → l ≡ Star → ⊥) → bool_byte b ≡ stars (tip l)
unfolding stars
star_byte l true h k = sym (ap (λ l. stars (tip l)) (h refl))
star_byte l false h k = leaf_none l (k refl)

pub returns : goal.returns
returns c = c.from.ensures ∙ star_byte c.args.l c.eq.result (λ h. search rules) (λ h k. search rules)
