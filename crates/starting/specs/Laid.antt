-- The start configuration as it comes about: a new machine laid into the first room of lists that are all zero.
use Rattle.std.specs.Prelude.{ℕ, ◌*◌, ◌≤◌, ◌<◌, ◌≡◌, refl, List, [], length, set}
use Rattle.std.proofs.Common.{sym, ap, ◌∙◌, arith, length-set, ext_get_or}
use Rattle.std.proofs.Math.Option.{none}
use Rattle.std.proofs.Math.ListN.{replicate}
use Rattle.std.proofs.lemmas.List.{length-replicate, get_or-replicate, length-map}
use Rattle.lists.specs.Lists.{at}
use Rattle.rows.specs.Pad.{zeros_get}
use Rattle.rows.specs.Part.{part, part_length, part_replicate, put_length, within}
use Rattle.rows.specs.Seek.{table, table_length, table_at}
use Rattle.values.specs.declared.Value.TheVariants.{Undefined as undefined}
use Rattle.values.specs.Values.{id_of}
use Rattle.programs.specs.Program.{Init, variables_of}
use Rattle.soundness.specs.Sound.{Sound}
use Rattle.soundness.specs.SoundFounded.{sound_founded}
use Rattle.machines.specs.Config.{Machine}
use Rattle.machines.specs.Locals.{created, blank}
use Rattle.rules.specs.Step.{start_config}
use Rattle.codes.specs.Codes.{code_of}
use Rattle.tables.specs.declared.Program.{Program as Tables}
use Rattle.tables.specs.Decode.{no_state, states_of, program_of}
use Rattle.configs.specs.declared.Room.{Room}
use Rattle.configs.specs.Encode.{free, written}
use Rattle.configs.specs.declared.Flat.{Flat}
use Rattle.configs.specs.Flat.{Sized, flat, with_next, sized_next, zeros, zeros_sized, room_at, held, room_path}
use Rattle.parts.specs.Parts.{Said}
use Rattle.engine.specs.Engine.{Changed}
use Rattle.rooms.specs.Standing.{changed_written}
use Rattle.beginnings.specs.Initial.{initial_in, initial_is}
use Rattle.beginnings.specs.Inits.{written_blank}
use Rattle.creating.specs.Newborn.{LayAsked, NewLaid, free_placing, own_row, new_changed}

-- THE LISTS OF NO MACHINE, before live number n
abbrev pub unlaid : ℕ → Flat
unlaid n = with_next zeros n

-- have their sizes,
unlaid_sized : (n : ℕ) → Sized (unlaid n)
unlaid_sized n = sized_next zeros n zeros_sized

-- every room of them is free,
unlaid_free : (n j : ℕ) → j < 32 → room_at (unlaid n) j ≡ free
unlaid_free n j h = room_path
    (zeros_get 0 32 j)
    (zeros_get 0 32 j)
    (zeros_get 0 32 j)
    (part_replicate 0 (j * 8) 8 256 (within 8 32 j h))
    (part_replicate 0 (j * 512) 512 16384 (within 512 32 j h))
    (part_replicate 0 (j * 19) 19 608 (within 19 32 j h))
    (zeros_get 0 32 j)
    (part_replicate 0 (j * 33) 33 1056 (within 33 32 j h))
    (zeros_get 0 32 j)
    (zeros_get 0 32 j)
    (part_replicate 0 (j * 16) 16 512 (within 16 32 j h))

-- and so they hold the configuration of no machine
unlaid_holds : (n : ℕ) → held (unlaid n) ≡ written (record { rooms = replicate 32 none; next = n })
unlaid_holds n = λ t. record { next = n; rooms = rooms t }
  where
    rooms : table (room_at (unlaid n)) 0 32 ≡ replicate 32 free
    rooms = ext_get_or free (table (room_at (unlaid n)) 0 32) (replicate 32 free) (table_length (room_at (unlaid n)) 0 32 ∙ sym (length-replicate {A = Room} 32 free))
        (λ j b. let h : j < 32 = omega (arith, table_length (room_at (unlaid n)) 0 32) in
        table_at (room_at (unlaid n)) free 32 j h ∙ unlaid_free n j h ∙ sym (get_or-replicate 32 j free free h))

-- whatever machine is laid into them, they keep their sizes
pub laid_sized : {i m n entry next : ℕ} {own stmts ids kinds depths tops values counts parts : List ℕ} → length own ≡ 19
    → NewLaid 0 i m n own entry stmts (replicate 32 0) (replicate 32 0) (replicate 32 0) (replicate 256 0) (replicate 608 0) (replicate 32 0) (replicate 1056 0) ids kinds depths tops values counts parts
    → Sized (flat ids kinds depths tops (replicate 16384 0) values counts parts (replicate 32 0) (replicate 32 0) (replicate 512 0) next)
laid_sized {i} {m} {n} {next = next} {own} e laid =
    let s = unlaid_sized next in
    record {
      ids_32 = ap length laid.ids_are ∙ length-set {A = ℕ} (replicate 32 0) 0 i ∙ s.ids_32;
      kinds_32 = ap length laid.kinds_are ∙ length-set {A = ℕ} (replicate 32 0) 0 m ∙ s.kinds_32;
      depths_32 = ap length laid.depths_are ∙ length-set {A = ℕ} (replicate 32 0) 0 1 ∙ s.depths_32;
      states_256 = ap length laid.tops_are ∙ length-set {A = ℕ} (replicate 256 0) (0 * 8) n ∙ s.states_256;
      maps_16384 = s.maps_16384;
      values_608 = ap length laid.values_are ∙ put_length (0 * 19) (part 0 19 own) (replicate 608 0) (omega (arith, part_length 0 19 own (omega arith), s.values_608)) ∙ s.values_608;
      counts_32 = laid.row.counts_off.size ∙ s.counts_32;
      parts_1056 = laid.row.parts_off.size ∙ s.parts_1056;
      held_32 = s.held_32;
      waiting_32 = s.waiting_32;
      pairs_512 = s.pairs_512;
    }

module _ (q : Tables) (s : Sound (program_of q)) where
  -- the statements are the program's
  said : Said q.stmts (program_of q)
  said = record { inits = q.inits; same = refl; founded = sound_founded (program_of q) s }

  -- THE FIRST ROOM CAN BE LAID INTO
  pub start_lay : (entry : ℕ) → LayAsked 0 entry q.stmts (replicate 608 0) (replicate 32 0) (replicate 1056 0)
  start_lay entry = record {
    room = omega arith;
    values_608 = length-replicate {A = ℕ} 608 0;
    placing = free_placing (unlaid 2) 0 (unlaid_sized 2) (omega arith) (unlaid_free 2 0 (omega arith)) q.stmts (program_of q) entry said;
  }

  -- the first machine
  abbrev first : Machine
  first = record { this = 1; loc = created (program_of q) q.start.0 (blank (program_of q) q.start.0); queue = [] }

  -- WHAT IS LAID THERE is the first machine
  pub start_laid : (id : ℕ) → id ≡ code_of (id_of 1) → (n : ℕ) → n ≡ initial_in q.state_of q.start.0 → (entry : ℕ)
      → ((exits flags : List ℕ) → entry ≡ (at no_state (states_of q.state_of q.state_entry exits flags) n).entry) → {ids kinds depths tops values counts parts : List ℕ}
      → NewLaid 0 1 q.start.0 n (set (replicate 19 0) 16 id) entry q.stmts (replicate 32 0) (replicate 32 0) (replicate 32 0) (replicate 256 0) (replicate 608 0) (replicate 32 0) (replicate 1056 0) ids kinds depths tops values counts parts
      → Changed (unlaid 2) 0 first (flat ids kinds depths tops (replicate 16384 0) values counts parts (replicate 32 0) (replicate 32 0) (replicate 512 0) 2)
  start_laid id id_is n n-is entry entry_is {ids} {kinds} {depths} {tops} {values} {counts} {parts} laid =
      new_changed (unlaid 2) 0 (unlaid_sized 2) (omega arith) (unlaid_free 2 0 (omega arith)) (program_of q) 1 q.start.0 n entry (set (replicate 19 0) 16 id) q.stmts ids kinds depths tops values counts parts laid said
      (blank (program_of q) q.start.0) few s.is_sized.1.0
      (own_row (blank (program_of q) q.start.0) (replicate 19 0) id (written_blank (variables_of (program_of q) q.start.0) (replicate 19 0) refl (zeros_get 0 19)) few ∙ rw id_is)
      initial (entry_is q.state_exit q.defers ∙ ap (λ (j : ℕ). (at no_state (program_of q).states j).entry) initial)
    where
      -- the kind has at most 16 variables
      few : length (blank (program_of q) q.start.0) ≤ 16
      few = omega (arith, length-map (variables_of (program_of q) q.start.0) (λ v. undefined), s.is_sized.1.1.0 q.start.0 (sound_founded (program_of q) s).start_there)

      -- the state is its initial one
      initial : n ≡ Init (program_of q) q.start.0
      initial = n-is ∙ sym (initial_is q.state_of q.start.0 (program_of q) q.state_entry q.state_exit q.defers refl)

  -- SO THE LISTS HOLD THE START CONFIGURATION
  pub start_written : (g : Flat) → Changed (unlaid 2) 0 first g → held g ≡ written (start_config (program_of q))
  unfolding start_config
  start_written g d = changed_written (unlaid 2) (record { rooms = replicate 32 none; next = 2 }) (unlaid_holds 2) g 0 first (omega arith) d
