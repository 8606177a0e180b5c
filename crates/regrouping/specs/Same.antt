-- The same choices: what holds of each of them holds of each of the regrouped ones, and there are as many.
use Rattle.std.specs.Prelude.{suc, ◌≡◌, refl, length}
use Rattle.std.proofs.Common.{ap, subst, ◌∙◌}
use mathlib.Core.List.{List, Permᴰ}
use Rattle.lists.specs.Lists.{All}

module _ {A : Type 0} where
  pub same_all : (P : A → Type 0) {l m : List A} → Permᴰ l m → All P l → All P m
  same_all P Permᴰ.nil h = tt
  same_all P (Permᴰ.cons e d) h = (subst P e h.0, same_all P d h.1)
  same_all P (Permᴰ.swap e₁ e₂) h = (subst P e₂ h.1.0, (subst P e₁ h.0, h.1.1))
  same_all P (Permᴰ.trans d₁ d₂) h = same_all P d₂ (same_all P d₁ h)

  pub same_many : {l m : List A} → Permᴰ l m → length m ≡ length l
  same_many Permᴰ.nil = refl
  same_many (Permᴰ.cons e d) = ap suc (same_many d)
  same_many (Permᴰ.swap e₁ e₂) = refl
  same_many (Permᴰ.trans d₁ d₂) = same_many d₂ ∙ same_many d₁
