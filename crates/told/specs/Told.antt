-- What a line says (crates/texts) is the line in form number `row` with its values at their places (crates/spoken), where crates/forms gives both.
use Rattle.std.specs.Prelude.{ℕ, ◌<◌, ◌≡◌, refl, List, map, get_or}
use Rattle.std.proofs.Common.{ap, ◌∙◌}
use Rattle.std.proofs.Math.Option.{some}
use Rattle.texts.specs.Forms.{Said, start_line, forms, said}
use Rattle.shapes.specs.Lines.{line_of}
use Rattle.spoken.specs.Spoken.{sayings, line_at}
use Rattle.forms.specs.declared.Form.{Form}
use Rattle.forms.specs.Recognised.{Recognised}
use Rattle.forms.specs.Values.{saying, line_says}

-- form by form
sayings_are : (s places : List ℕ) → map (saying s places) forms ≡ sayings s places
sayings_are s places = refl

-- THE LINE that is recognised
pub line_told : (s : List ℕ) (a e : ℕ) (r : Form) → Recognised s a e r → r.row < 44 → said (line_of s a e) ≡ some (line_at s r.at r.row)
unfolding line_at
line_told s a e r w h = line_says s a e r w h ∙ ap (λ (l : List Said). some (get_or l r.row (start_line 0))) (sayings_are s r.at)
