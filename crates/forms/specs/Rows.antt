-- The first form that a line is in, by scans of the forms in their order.
use Rattle.std.specs.Prelude.{ℕ, suc, List, [], ◌∷◌, map}
use Prim.Native.String.{String}
use Rattle.lists.specs.Lists.{on_opt}
use Rattle.texts.specs.Bytes.{text}
use Rattle.texts.specs.Forms.{Form as Shape}
use Rattle.shapes.specs.Scan.{zeros, scan}
use Rattle.forms.specs.declared.Form.{Form}

-- the forms as they are written
abbrev pub names : List Shape → List String
names fs = map (λ f. f.0) fs

-- the number and the places of a line that is in none of the 44
abbrev pub formless : Form
formless = record { row = 44; at = zeros }

-- a form that is one further
abbrev pub later : Form → Form
later r = record { row = suc r.row; at = r.at }

-- the first of the forms that the line from a to e is in, counted from 0; their number where it is in none
unfoldable pub row_of : List Shape → List ℕ → ℕ → ℕ → Form
row_of [] s a e = record { row = 0; at = zeros }
row_of (f ∷ fs) s a e =
    let others = later (row_of fs s a e) in
    on_opt (scan (text (names (f ∷ fs))) s e a 0 zeros) others (λ v. record { row = 0; at = v })
