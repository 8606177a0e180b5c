-- `tables::event_type` meets its contract: the type is that of row e, and `void` where there is no such row.
use Rattle.std.proofs.Common.{refl, ◌∙◌, get_or}
use Rattle.values.specs.declared.Ty.{Ty}
use Rattle.values.specs.declared.Ty.TheVariants.{Void as void}
use Rattle.tables.specs.Decode.{ty_of, events_of}
use Rattle.tables.proofs.Column.{of_row}
use Rattle.tables.proofs.event_type.Goals as goal

pub returns : goal.returns
unfolding events_of ty_of
returns c =
    let a = c.args in
    c.ty_of.ensures ∙ of_row (λ (t : Ty). t) ty_of (λ e. ty_of (get_or a.types.now e 0)) void a.types.now a.e c.event_count.ensures refl refl c.row_or.ensures
