-- `tables::entry_of` meets its contract, whatever the exits and the flags are: the statement stands in row n of the entries.
use Rattle.std.proofs.Common.{ℕ, refl}
use Rattle.programs.specs.Program.{State}
use Rattle.tables.specs.Decode.{no_state, state_in, states_of}
use Rattle.tables.proofs.Column.{of_row}
use Rattle.tables.proofs.entry_of.Goals as goal

pub returns : goal.returns
unfolding states_of
returns c exits flags =
    let a = c.args in
    of_row (λ (q : State). q.entry) (λ (n : ℕ). n) (state_in a.kinds.now a.entries.now exits flags) no_state a.entries.now a.n c.state_count.ensures refl refl c.row_or.ensures
