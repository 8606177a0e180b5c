-- Some lines and their forms: row and places.
use Rattle.std.specs.Prelude.{◌≡◌, refl, [], ◌∷◌}
use Rattle.texts.specs.Bytes.{bytes}
use Rattle.texts.specs.Forms.{forms}
use Rattle.readers.specs.Words.{word}
use Rattle.shapes.specs.Scan.{scan}
use Rattle.forms.specs.declared.Form.{Form}
use Rattle.forms.specs.Rows.{row_of}

-- the last form
a_choice : ◌≡◌ {A = Form} (row_of forms (bytes "choice=12\n") 0 9) (record { row = 43; at = 7 ∷ 0 ∷ 0 ∷ 0 ∷ 0 ∷ [] })
unfolding row_of scan word
a_choice = refl

-- the second line of a text, with a list
a_state : ◌≡◌ {A = Form} (row_of forms (bytes "start=1\nstate=1 of=1 defer=2,5 entry=1 exit=0\n") 8 45) (record { row = 37; at = 14 ∷ 19 ∷ 27 ∷ 37 ∷ 44 ∷ [] })
unfolding row_of scan word
a_state = refl

-- no form: a number with a zero in front
no_choice : ◌≡◌ {A = Form} (row_of forms (bytes "choice=01\n") 0 9) (record { row = 44; at = 0 ∷ 0 ∷ 0 ∷ 0 ∷ 0 ∷ [] })
unfolding row_of scan word
no_choice = refl
