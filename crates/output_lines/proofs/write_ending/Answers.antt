-- `output_lines::write_ending` meets its contract: the answer's field, that of the steps, and that of the machines left. Assumes nothing.
use Rattle.std.proofs.Common.{ℕ, List, [], ◌∷◌, ◌++◌}
use Rattle.texts.specs.Bytes.{LF}
use Rattle.outputs.specs.Lines.{field}
use Rattle.writing.specs.Wrote.{Room, Wrote, room_first, room_second, wrote_both}
use Rattle.output_lines.proofs.write_ending.Goals as goal
use Rattle.output_lines.proofs.write_ending.Goals.{After-from-number}

-- what is written behind the steps,
abbrev behind_steps : ℕ → List ℕ
behind_steps live = field " live=" live ++ LF ∷ []

-- and behind the answer
abbrev behind_answer : ℕ → ℕ → List ℕ
behind_answer steps live = field " steps=" steps ++ behind_steps live

-- the room, with the number that was worked out,
room : (c : After-from-number) → Room (field "end=" c.from-number.result ++ behind_answer c.args.steps c.args.live) c.args.at c.args.out.now
room c = rw (c.from-number.ensures, c.number.ensures) c.requires

-- and behind the answer
room_behind : (number steps live : ℕ) {at : ℕ} {old : List ℕ} → Room (field "end=" number ++ behind_answer steps live) at old → {second : ℕ} {new : List ℕ} → Wrote (field "end=" number) at old second new → Room (behind_answer steps live) second new
room_behind number steps live whole wrote = room_second (field "end=" number) (behind_answer steps live) whole wrote

pub write_field-second-requires : goal.write_field-second-requires
write_field-second-requires c =
    room_first (field "end=" c.from-number.result) (behind_answer c.args.steps c.args.live) (room (goal.at.write_field-second-requires c).After-from-number)

pub write_field-third-requires : goal.write_field-third-requires
write_field-third-requires c =
    room_first (field " steps=" c.args.steps) (behind_steps c.args.live) (room_behind c.from-number.result c.args.steps c.args.live (room (goal.at.write_field-third-requires c).After-from-number) c.write_field-second.ensures)

pub write_last-requires : goal.write_last-requires
write_last-requires c =
    room_second (field " steps=" c.args.steps) (behind_steps c.args.live) (room_behind c.from-number.result c.args.steps c.args.live (room (goal.at.write_last-requires c).After-from-number) c.write_field-second.ensures) c.write_field-third.ensures

pub returns : goal.returns
returns c =
    let steps = c.args.steps in
    let live = c.args.live in
    let whole = room (goal.at.returns c).After-from-number in
    let rest = wrote_both (field " steps=" steps) (behind_steps live) (room_behind c.from-number.result steps live whole c.write_field-second.ensures) c.write_field-third.ensures c.write_last.ensures in
    rw (c.from-number.ensures, c.number.ensures) at (wrote_both (field "end=" c.from-number.result) (behind_answer steps live) whole c.write_field-second.ensures rest)
