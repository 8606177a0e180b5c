-- `placing::place_meetings` meets its contract: before each place, what is written and what is not yet placed make the regrouped list. Assumes nothing.
use Prim.Native.Nat.{ℕ, ◌<◌}
use mathlib.Core.Path.{◌≡◌, ap, sym, ◌∙◌}
use Rattle.std.proofs.Common.{length, take, get_or, length-take-le, get_or-take}
use Rattle.placing.specs.Placed.{owner, owner_at}
use Rattle.placing.specs.Closing.{same_machine}
use Rattle.placing.specs.Weaving.{begin_weaving, private_turn, meeting_room, meeting_turn}
use native.Mathlib.Omega.{arith}
use Rattle.placing.proofs.place_meetings.Goals.{In-loop-i, then-is_meeting, else-is_meeting}
use Rattle.placing.proofs.place_meetings.Goals as goal

-- a turn's choice is one of the first `last`,
inside : (c : In-loop-i) → c.loop-i.i < c.args.last
inside c = omega (arith, c.loop-i-test.true, length-take-le c.args.last c.args.choices.now (omega (arith, c.requires.last_bound.1.inside)))

-- and its machine is that of its place
whose : (c : In-loop-i) {k : ℕ} → k ≡ owner (get_or (take c.args.last c.args.choices.now) c.loop-i.i 0) → k ≡ owner_at c.args.choices.now c.loop-i.i
whose c e = e ∙ ap owner (get_or-take c.args.last c.args.choices.now c.loop-i.i 0 (inside c))

pub loop-i-init : goal.loop-i-init
loop-i-init c = let p = c.requires in rw p.none (begin_weaving _ _ _ _ _ _ p.who_len.0 p.who_len.1)

pub note-requires : goal.note-requires
note-requires c = (c.loop-i.invariant.table.few, omega (arith, inside (goal.at.note-requires c).In-loop-i, c.requires.last_bound.0))

pub write_part-o-requires : goal.write_part-o-requires
write_part-o-requires c =
    let l = (goal.at.write_part-o-requires c).In-loop-i in
    let is = whose l c.machine_of-k.ensures in
    rw is (meeting_room c.requires.last_bound.1 c.loop-i.invariant (inside l) (sym c.is_meeting.ensures ∙ c.if-is_meeting.true)
    (same_machine is (c.take-first.ensures _ _ c.loop-i.invariant.table)))

pub loop-i-preserved : goal.loop-i-preserved
loop-i-preserved c =
    let l = (goal.at.loop-i-preserved c).In-loop-i in
    let is = whose l c.machine_of-k.ensures in
    let ask = c.requires.last_bound.1 in
    elim c.if-is_meeting.branch [
      | then-is_meeting w ↦ rw (w.table-is, w.out-is, w.o-is)
          (meeting_turn ask c.loop-i.invariant (inside l) (sym c.is_meeting.ensures ∙ w.if-is_meeting.true)
          (same_machine is (w.take-first.ensures _ _ c.loop-i.invariant.table)) w.write_part-o.new.out w.write_part-o.result (rw is at w.write_part-o.ensures.value) (rw is at w.write_part-o.ensures.out_after))
      | else-is_meeting w ↦ rw (w.table-is, w.out-is, w.o-is)
          (private_turn ask c.loop-i.invariant (inside l) w.note.new.self.who w.note.new.self.since w.note.new.self.used (sym c.is_meeting.ensures ∙ w.if-is_meeting.false)
          (w.note.ensures _ _ c.loop-i.invariant.table (omega (arith, ask.inside, inside l)) (sym is)))
    ]

pub shape_of-out : goal.shape_of-out
shape_of-out c = c.loop-i.invariant.long

pub returns : goal.returns
returns c =
    let all : length (take c.args.last c.args.choices.now) ≡ c.args.last = length-take-le c.args.last c.args.choices.now (omega (arith, c.requires.last_bound.1.inside)) in
    let past : c.loop-i.i ≡ c.args.last = omega (arith, all, c.loop-i-test.false, c.loop-i.invariant.bound) in
    rw past at c.loop-i.invariant
