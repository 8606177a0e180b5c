-- A live room, test by test: what the tests of its stack, its values, what is pending, its row and its queue tell is what is asked of the room.
use Rattle.std.specs.Prelude.{ℕ, ◌*◌, ◌≤◌, ◌<◌, ◌≡◌, get_or}
use Rattle.std.proofs.Common.{sym, subst, arith}
use Rattle.lists.specs.Lists.{There}
use Rattle.rows.specs.Part.{part}
use Rattle.programs.specs.Sizes.{STACK}
use Rattle.programs.specs.Program.{Program}
use Rattle.soundness.specs.Sound.{Sound}
use Rattle.soundness.specs.SoundFounded.{sound_founded}
use Rattle.kept.specs.KeptRow.{row_fits}
use Rattle.configs.specs.Decode.{down_to, pending_of}
use Rattle.configs.specs.declared.Flat.{Flat}
use Rattle.configs.specs.Flat.{room_at}
use Rattle.checked_values.specs.Numbers.{HeldNumber}
use Rattle.checked_queues.specs.Queues.{QueueHeld}
use Rattle.checked_variables.specs.Variables.{ValuesHeld}
use Rattle.checked_stacks.specs.CheckedStacks.{StackHeld}
use Rattle.checked_rows.specs.CheckedRows.{RowHeld}
use Rattle.configs.specs.Reversed.{down_to_length}
use Rattle.accepting.specs.Rooms.{RoomFit, LiveFit, live_fit, fit_live}

-- WHAT THE TESTS TELL of the machine in room i
pub record Tested (p : Program) (f : Flat) (i : ℕ) : Type 0 where
  pub high : get_or f.ids i 0 < f.next
  pub kind_there : There p.machines (get_or f.kinds i 0)
  pub stack : StackHeld p (get_or f.kinds i 0) (get_or f.depths i 0) (part (i * 8) 8 f.states) (part (i * 512) 512 f.maps)
  pub values : ValuesHeld p f.next (get_or f.kinds i 0) (get_or f.ids i 0) (part (i * 19) 19 f.values)
  pub pending : HeldNumber p f.next (get_or f.held i 0)
  pub row : RowHeld p (get_or f.kinds i 0) (pending_of (get_or f.held i 0)) (get_or f.counts i 0) (part (i * 33) 33 f.parts)
  pub queue : QueueHeld p f.next (get_or f.waiting i 0) (part (i * 16) 16 f.pairs)

module _ (p : Program) (sound : Sound p) (f : Flat) (i : ℕ) (n : get_or f.ids i 0 ≡ 0 → ⊥) where
  -- so the room is accepted, and written as it should be,
  pub tested_fit : Tested p f i → RoomFit p f i
  tested_fit t = live_fit p f i n (record {
    ok = record {
      low = omega (arith, n);
      high = t.high;
      loc_ok = record {
        kind_there = t.kind_there;
        depth = subst (λ (d : ℕ). d ≤ STACK) (sym (down_to_length _ (get_or f.depths i 0))) t.stack.fits;
        frames = t.stack.frames;
        vars = t.values.variables;
        msg_ok = t.values.msg;
        arg_ok = t.values.arg;
        row_ok = t.row.row_ok;
        pending_ok = t.pending.pending;
      };
      queue_ok = t.queue.accepted;
    };
    states = t.stack.states_zeroed;
    maps = t.stack.maps_zeroed;
    values = t.values.written;
    parts = t.row.zeroed;
    held = t.pending.written;
    waiting = t.queue.counted;
    pairs = t.queue.written;
  })

  -- and the tests tell no more than that
  pub fit_tested : RoomFit p f i → Tested p f i
  fit_tested h = let l = fit_live p f i n h in record {
    high = l.ok.high;
    kind_there = l.ok.loc_ok.kind_there;
    stack = record {
      fits = subst (λ (d : ℕ). d ≤ STACK) (down_to_length _ (get_or f.depths i 0)) l.ok.loc_ok.depth;
      frames = l.ok.loc_ok.frames;
      states_zeroed = l.states;
      maps_zeroed = l.maps;
    };
    values = record { variables = l.ok.loc_ok.vars; msg = l.ok.loc_ok.msg_ok; arg = l.ok.loc_ok.arg_ok; written = l.values };
    pending = record { written = l.held; pending = l.ok.loc_ok.pending_ok };
    row = record { row_ok = l.ok.loc_ok.row_ok; fits = few l; zeroed = l.parts };
    queue = record { accepted = l.ok.queue_ok; counted = l.waiting; written = l.pairs };
  }
    where
      few : LiveFit p f.next (room_at f i) → get_or f.counts i 0 ≤ 33
      few l = omega (
        arith,
        down_to_length (λ j. get_or (part (i * 33) 33 f.parts) j 0) (get_or f.counts i 0),
        row_fits p (sound_founded p sound) (get_or f.kinds i 0) (down_to (λ j. get_or (part (i * 33) 33 f.parts) j 0) (get_or f.counts i 0)) (pending_of (get_or f.held i 0)) l.ok.loc_ok.row_ok,
      )
