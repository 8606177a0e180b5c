-- The flat lists with a room that became free; and that this is DELETE.
use Rattle.std.specs.Prelude.{ℕ, ◌*◌, ◌<◌, ◌≡◌, refl, List, set, replicate, Ok}
use Rattle.std.proofs.Common.{ap, sym, ◌∙◌, subst}
use Rattle.std.proofs.Math.Option.{Option, none}
use Rattle.std.proofs.lemmas.List.{length-replicate}
use Rattle.rows.specs.Part.{put}
use Rattle.programs.specs.Program.{Program}
use Rattle.machines.specs.Config.{Machine, Config}
use Rattle.rules.specs.declared.Rule.TheVariants.{DELETE}
use Rattle.rules.specs.Act.{deletes}
use Rattle.rules.specs.Step as definition
use Rattle.configs.specs.Encode.{free, written}
use Rattle.configs.specs.declared.Flat.{Flat}
use Rattle.configs.specs.Flat.{Sized, flat}
use Rattle.laying.specs.Laying.{Wide, Placed, laid_placed}
use Rattle.engine.specs.Engine.{Performed}
use Rattle.rooms.specs.Places.{gone_set}
use Rattle.rooms.specs.Standing.{Lives, next_is, change_written}

-- A ROOM THAT BECAME FREE
-- a free room's rows have their widths
free_wide : Wide free
free_wide = record {
  states_8 = length-replicate {A = ℕ} 8 0;
  maps_512 = length-replicate {A = ℕ} 512 0;
  values_19 = length-replicate {A = ℕ} 19 0;
  parts_33 = length-replicate {A = ℕ} 33 0;
  pairs_16 = length-replicate {A = ℕ} 16 0;
}

-- where its numbers and rows were cleared, it is free
pub cleared_placed : (f : Flat) (k : ℕ) (states maps values parts pairs : List ℕ) → Sized f → k < 32 → states ≡ put (k * 8) (replicate 8 0) f.states
    → maps ≡ put (k * 512) (replicate 512 0) f.maps → values ≡ put (k * 19) (replicate 19 0) f.values → parts ≡ put (k * 33) (replicate 33 0) f.parts
    → pairs ≡ put (k * 16) (replicate 16 0) f.pairs
    → Placed f k free (flat (set f.ids k 0) (set f.kinds k 0) (set f.depths k 0) states maps values (set f.counts k 0) parts (set f.held k 0) (set f.waiting k 0) pairs f.next)
cleared_placed f k states maps values parts pairs s h a b c d e = subst (Placed f k free)
    (sym (λ t. flat (set f.ids k 0) (set f.kinds k 0) (set f.depths k 0) (a t) (b t) (c t) (set f.counts k 0) (d t) (set f.held k 0) (set f.waiting k 0) (e t) f.next))
    (laid_placed f k free s free_wide h)

-- DELETE of the machine in room k
pub performed_delete : (p : Program) (f : Flat) (c : Config) (k : ℕ) (m : Machine) (g : Flat) → Lives p f c k m → Placed f k free g → g.next ≡ f.next
    → Performed f (definition.perform p c m.this m deletes) (Ok DELETE) g
performed_delete p f c k m g a d n = (
  refl,
  (
    d.sized,
    change_written f c a.holds g k c.next none a.room d.own d.others (n ∙ next_is f c a.holds)
        ∙ ap (λ (rs : List (Option Machine)). written (record { rooms = rs; next = c.next })) (sym (gone_set c.rooms k m a.accepted.distinct a.place)),
  ),
)
