-- ANY LINE TAKEN: one before the statements leaves the arrays of the others, and the other way round.
use Rattle.std.specs.Prelude.{◌≤◌, Bool}
use Rattle.texts.specs.Forms.{Said}
use Rattle.texts.specs.Reading.{Tables, put, kind, ranged}
use Rattle.spoken.specs.Took.{Took}
use Rattle.gathering.specs.declared.Lines.{Lines}
use Rattle.taking_lines.specs.Gathered.{FrontIn, BackIn, Unwritten}
use Rattle.taking_lines.specs.Fronts.{front_kept}
use Rattle.taking_lines.specs.Backs.{back_kept}
use Rattle.taking_lines.specs.Asked.{Gathered}

module _ (a : Tables) (x : Said) (r : Bool) (l : Lines) where
  -- a line before the statements
  pub took_front : kind x ≤ 4 → BackIn a l → Unwritten l → Took r (ranged a x) (FrontIn (put x a) l) (FrontIn a l) → Took r (ranged a x) (Gathered (put x a) l) (Gathered a l)
  took_front k b u h = record {
    told = h.told;
    done = λ q. record { front = h.done q; back = back_kept a x k b; unwritten = u };
    left = λ q. record { front = h.left q; back = b; unwritten = u };
  }

  -- one from the statements on
  pub took_back : 5 ≤ kind x → FrontIn a l → Unwritten l → Took r (ranged a x) (BackIn (put x a) l) (BackIn a l) → Took r (ranged a x) (Gathered (put x a) l) (Gathered a l)
  took_back k f u h = record {
    told = h.told;
    done = λ q. record { front = front_kept a x k f; back = h.done q; unwritten = u };
    left = λ q. record { front = f; back = h.left q; unwritten = u };
  }
