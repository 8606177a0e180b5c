-- The machine that stands in a room of a configuration that is handed in: the room's own numbers are what is shown of it.
use Rattle.std.specs.Prelude.{ℕ, zero, suc, ◌-◌, ◌≤◌, ◌<◌, ◌≡◌, refl, Bool, cond, length, get_or, take, replicate}
use Rattle.std.proofs.Math.Path.{sym, ap}
use Rattle.std.proofs.Common.{◌∙◌, subst, arith, ne_eqb, length-append, length-take}
use Rattle.std.proofs.Math.Option.{none, some}
use mathlib.Core.List.{List, map}
use Rattle.std.proofs.lemmas.List.{length-map, length-replicate}
use Rattle.std.proofs.Math.Seq.{take_at}
use Rattle.lists.specs.Facts.{All-at}
use Rattle.lists.specs.Keep.{back_map, image-All}
use Rattle.rows.specs.Pad.{pad, pad_length}
use Rattle.rows.specs.Part.{part, put, put_over}
use Rattle.answers.specs.declared.Answer.TheVariants.{Done}
use Rattle.programs.specs.Sizes.{VARIABLES, STACK}
use Rattle.programs.specs.Program.{Program, variables_of}
use Rattle.machines.specs.Config.{Machine}
use Rattle.acceptance.specs.Accepted.{MachineOk, RoomOk}
use Rattle.codes.specs.Codes.{code_of, value_of}
use Rattle.tables.specs.declared.Program.{Program as Tables}
use Rattle.tables.specs.Decode.{program_of}
use Rattle.configs.specs.declared.Room.{Room}
use Rattle.configs.specs.declared.Config.{Config as Held}
use Rattle.configs.specs.Decode.{down_to, frame_at, machine_of, room_of}
use Rattle.configs.specs.Encode.{taken, room_code}
use Rattle.configs.specs.Reversed.{down_to_length}
use Rattle.handed.specs.Handed.{Fit}
use Rattle.showing.specs.Shown.{Shown, top_state, shown}

-- THE STATE ON TOP of a stack that is not empty stands in the last of its places
pub top_at : (p : Program) (states maps : List ℕ) (depth : ℕ) → (depth ≡ 0 → ⊥) → get_or states (depth - 1) 0 ≡ top_state (down_to (frame_at p states maps) depth)
top_at p states maps zero n = absurd (n refl)
top_at p states maps (suc d) n = let e : suc d - 1 ≡ d = omega arith in ap (λ (k : ℕ). get_or states k 0) e

-- A MACHINE STANDS IN ROOM r: writing it gives the room, and it has no more frames and variables than there are places
pub record Stands (p : Program) (r : Room) : Type 0 where
  pub written : taken (machine_of p r) ≡ r
  pub depth : r.depth ≤ STACK
  pub few : length (variables_of p r.kind.0) ≤ VARIABLES

-- so the room's own numbers are what is shown of it
module _ (p : Program) (r : Room) (s : Stands p r) where
  abbrev m : Machine
  m = machine_of p r

  -- how many variables its kind has
  abbrev many : ℕ
  many = length (variables_of p r.kind.0)

  -- the numbers of its values
  abbrev numbers : List ℕ
  numbers = map code_of m.loc.variables

  -- with zeros behind them they take 16 places
  long : length (pad 0 VARIABLES numbers) ≡ VARIABLES
  long = pad_length 0 VARIABLES numbers (omega (arith, length-map m.loc.variables code_of, length-map (take many r.values) value_of, length-take many r.values, s.few))

  -- three more stand behind these
  pub row_long : length r.values ≡ 19
  row_long = ap (λ (x : Room). length x.values) (sym s.written) ∙ length-append (pad 0 VARIABLES numbers) _ ∙ omega (arith, long)

  -- so there is a value for each variable,
  variables_are : many ≡ length m.loc.variables
  variables_are = omega (arith, length-map (take many r.values) value_of, length-take many r.values, s.few, row_long)

  -- and the first 16 places, stored over zeros, are the variables'
  values_are : put 0 (part 0 16 r.values) (replicate 16 0) ≡ pad 0 VARIABLES numbers
  unfolding part
  values_are =
      let first : part 0 16 r.values ≡ pad 0 VARIABLES numbers = ap (λ (x : Room). part 0 16 x.values) (sym s.written) ∙ take_at (pad 0 VARIABLES numbers) _ 16 long in
      ap (λ (l : List ℕ). put 0 l (replicate 16 0)) first ∙ put_over (pad 0 VARIABLES numbers) (replicate 16 0) (long ∙ sym (length-replicate {A = ℕ} 16 0))

  -- WHAT IS SHOWN OF IT
  pub stands_shown : (state n : ℕ) (values : List ℕ) → state ≡ top_state m.loc.stack → n ≡ many → values ≡ put 0 (part 0 16 r.values) (replicate 16 0)
      → ◌≡◌ {A = Shown} (record { answer = Done; kind = r.kind; depth = r.depth; state = state; variables = n; values = values; waiting = r.waiting; pairs = r.pairs }) (shown m)
  stands_shown state n values state_is n-is values-is =
      let depth_is : r.depth ≡ length m.loc.stack = sym (down_to_length (frame_at p r.states r.maps) r.depth) in
      let count_is : n ≡ length m.loc.variables = n-is ∙ variables_are in
      let row_is : values ≡ pad 0 VARIABLES numbers = values-is ∙ values_are in
      let own : r ≡ taken m = sym s.written in
      λ t. record {
        answer = Done;
        kind = r.kind;
        depth = depth_is t;
        state = state_is t;
        variables = count_is t;
        values = row_is t;
        waiting = (own t).waiting;
        pairs = (own t).pairs;
      }

-- A ROOM OF WHAT IS HANDED IN that is not free
module _ (q : Tables) (c : Held) (h : Fit q c) where
  abbrev p : Program
  p = program_of q

  pub room_stands : (d : Room) (k : ℕ) → k < length c.rooms → ((get_or c.rooms k d).this.0 ≡ 0 → ⊥) → Stands p (get_or c.rooms k d)
  room_stands d k b n =
      let r = get_or c.rooms k d in
      let reads : room_of p r ≡ some (machine_of p r) = ap (λ (t : Bool). cond t none (some (machine_of p r))) (ne_eqb r.this.0 0 n) in
      let back : room_code (room_of p r) ≡ r = All-at (λ x. room_code (room_of p x) ≡ x) d c.rooms k b (back_map room_code (room_of p) c.rooms (ap (λ (x : Held). x.rooms) h.1.1)) in
      let ok : MachineOk p c.next (machine_of p r) = subst (RoomOk p c.next) reads (All-at (λ x. RoomOk p c.next (room_of p x)) d c.rooms k b (image-All (RoomOk p c.next) (room_of p) c.rooms h.1.0.each_room)) in
      record {
        written = sym (ap room_code reads) ∙ back;
        depth = subst (λ (x : ℕ). x ≤ STACK) (down_to_length _ r.depth) ok.loc_ok.depth;
        few = h.0.is_sized.1.1.0 r.kind.0 ok.loc_ok.kind_there;
      }
