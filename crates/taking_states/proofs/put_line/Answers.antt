-- `taking_states::put_line` meets its contract: the flags are put, then the rest. Assumes nothing.
use Prim.Native.Nat.{ℕ, ◌+◌}
use mathlib.Core.Path.{refl, ap, sym, ◌∙◌}
use native.Mathlib.Omega.{arith}
use Rattle.lists.specs.Lists.{all, there}
use Rattle.programs.specs.Sizes.{EVENTS}
use Rattle.listings.specs.Listings.{list_of}
use Rattle.putting.specs.More.{state_put}
use Rattle.taking_states.specs.Held.{before_few, row_room, flag_room_at, kind_told}
use Rattle.taking_states.proofs.put_line.Goals as goal

pub overflow_add-n : goal.overflow_add-n
overflow_add-n c = omega (arith, c.from-n.ensures, before_few c.requires)

pub put_flags-requires : goal.put_flags-requires
put_flags-requires c =
    flag_room_at c.requires (ap (λ (k : ℕ). k + 1) c.from-n.ensures) (c.deferrable-can.ensures ∙ ap (λ l. all (there EVENTS) (list_of l)) c.field.ensures)

pub put_state-requires : goal.put_state-requires
put_state-requires c = row_room c.requires

pub returns : goal.returns
returns c h =
    let can = c.deferrable-can.ensures ∙ ap (λ l. all (there EVENTS) (list_of l)) c.field.ensures in
    record {
      states = state_put (row_room h) _ (kind_told h can c.home.ensures) (sym c.operand.ensures) (sym c.operand-2.ensures) (let w = c.put_state.ensures in (w.kinds_after, (w.entries_after, w.exits_after)));
      defers = c.put_flags.ensures (flag_room_at h (ap (λ (k : ℕ). k + 1) c.from-n.ensures) can) _ refl;
    }
