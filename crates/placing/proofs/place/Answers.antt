-- `placing::place` meets its contract: the meetings, the other machines' tails, and the last choice's machine with the last choice. Assumes nothing.
use Rattle.std.proofs.Common.{ℕ, ◌≡◌, ◌+◌, ◌-◌, sym, subst, length}
use Rattle.std.proofs.lemmas.List.Edits.{sets}
use Rattle.placing.specs.Written.{of_machine}
use Rattle.placing.specs.Closing.{same_machine}
use Rattle.placing.specs.Ending.{lists_handed, tails_asked, last_room, placed}
use native.Mathlib.Omega.{arith}
use Rattle.placing.proofs.place.Goals as goal

pub place_meetings-written-requires : goal.place_meetings-written-requires
place_meetings-written-requires c = record {
  last_bound = (omega (arith, c.requires.few), lists_handed c.requires);
  who_len = (c.new-table.ensures.who_long, c.new-table.ensures.since_long);
  none = c.new-table.ensures.none;
}

pub place_tails-at-requires : goal.place_tails-at-requires
place_tails-at-requires c =
    let w = c.place_meetings-written.ensures in
    let ask = lists_handed c.requires in
    record { tails = tails_asked ask w (same_machine c.machine_of-k.ensures (c.take-first.ensures _ _ w.table)) }

pub write_part-requires : goal.write_part-requires
write_part-requires c =
    let all : length c.args.choices.now - 1 + 1 ≡ length c.args.choices.now = omega (arith, (lists_handed c.requires).inside) in
    let w = c.place_meetings-written.ensures in
    let ask = lists_handed c.requires in
    let is = c.machine_of-k.ensures in
    let g = same_machine is (c.take-first.ensures _ _ w.table) in
    rw is (rw all at (last_room ask w g (c.place_tails-at.ensures (tails_asked ask w g))))

pub returns : goal.returns
returns c =
    let w = c.place_meetings-written.ensures in
    let ask = lists_handed c.requires in
    let is = c.machine_of-k.ensures in
    let g = same_machine is (c.take-first.ensures _ _ w.table) in
    let all : length c.args.choices.now - 1 + 1 ≡ length c.args.choices.now = omega (arith, ask.inside) in
    let after = subst (λ (e : ℕ). c.write_part.new.out ≡ sets c.place_tails-at.new.out c.place_tails-at.result (of_machine c.args.choices.now c.machine_of-k.result.0 c.take-first.result e)) (sym all) c.write_part.ensures.out_after in
    placed ask w g (c.place_tails-at.ensures (tails_asked ask w g)) c.write_part.new.out (omega (arith, ask.inside)) (rw is at after)
