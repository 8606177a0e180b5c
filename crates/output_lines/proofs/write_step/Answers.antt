-- `output_lines::write_step` meets its contract: the choice's number, the machine's, the name of the rule and the end of the line, one behind the other. Assumes
-- nothing.
use Rattle.std.proofs.Common.{ℕ, List, [], ◌∷◌, ◌++◌}
use Rattle.texts.specs.Bytes.{bytes, LF}
use Rattle.outputs.specs.Lines.{field}
use Rattle.writing.specs.Wrote.{Room, Wrote, room_first, room_second, wrote_both}
use Rattle.output_lines.specs.Names.{name_of}
use Rattle.output_lines.proofs.write_step.Goals as goal
use Rattle.output_lines.proofs.write_step.Goals.{After-machine_of-machine}

-- THE PARTS of the line: the number,
abbrev counted : ℕ → List ℕ
counted n = field "n=" n

-- the machine,
abbrev chosen : ℕ → List ℕ
chosen machine = field " machine=" machine

-- and the name with the end of the line
abbrev named : ℕ → List ℕ
named rule = name_of rule ++ LF ∷ []

-- THE ROOM for them all,
room : (c : After-machine_of-machine) → Room (counted c.args.n ++ (chosen c.machine_of-machine.result.0 ++ (bytes " rule=" ++ named c.args.rule))) c.args.at c.args.out.now
room c = rw c.machine_of-machine.ensures c.requires

module _ (n machine rule : ℕ) {at : ℕ} {old : List ℕ} (whole : Room (counted n ++ (chosen machine ++ (bytes " rule=" ++ named rule))) at old) {second : ℕ} {out2 : List ℕ} (wrote2 : Wrote (counted n) at old second out2) where
  -- behind the number,
  room_chosen : Room (chosen machine ++ (bytes " rule=" ++ named rule)) second out2
  room_chosen = room_second (counted n) (chosen machine ++ (bytes " rule=" ++ named rule)) whole wrote2

  module _ {third : ℕ} {out3 : List ℕ} (wrote3 : Wrote (chosen machine) second out2 third out3) where
    -- behind the machine,
    room_word : Room (bytes " rule=" ++ named rule) third out3
    room_word = room_second (chosen machine) (bytes " rule=" ++ named rule) room_chosen wrote3

    -- and behind the word
    room_name : {name : ℕ} {out4 : List ℕ} → Wrote (bytes " rule=") third out3 name out4 → Room (named rule) name out4
    room_name wrote4 = room_second (bytes " rule=") (named rule) room_word wrote4

pub write_field-second-requires : goal.write_field-second-requires
write_field-second-requires c =
    room_first (counted c.args.n) (chosen c.machine_of-machine.result.0 ++ (bytes " rule=" ++ named c.args.rule)) (room (goal.at.write_field-second-requires c).After-machine_of-machine)

pub write_field-third-requires : goal.write_field-third-requires
write_field-third-requires c =
    let whole = room (goal.at.write_field-third-requires c).After-machine_of-machine in
    room_first (chosen c.machine_of-machine.result.0) (bytes " rule=" ++ named c.args.rule) (room_chosen c.args.n c.machine_of-machine.result.0 c.args.rule whole c.write_field-second.ensures)

pub write_word-name-requires : goal.write_word-name-requires
write_word-name-requires c =
    let whole = room (goal.at.write_word-name-requires c).After-machine_of-machine in
    room_first (bytes " rule=") (named c.args.rule) (room_word c.args.n c.machine_of-machine.result.0 c.args.rule whole c.write_field-second.ensures c.write_field-third.ensures)

pub write_rule-last-requires : goal.write_rule-last-requires
write_rule-last-requires c =
    let whole = room (goal.at.write_rule-last-requires c).After-machine_of-machine in
    room_first (name_of c.args.rule) (LF ∷ []) (room_name c.args.n c.machine_of-machine.result.0 c.args.rule whole c.write_field-second.ensures c.write_field-third.ensures c.write_word-name.ensures)

pub write_byte-requires : goal.write_byte-requires
write_byte-requires c =
    let whole = room (goal.at.write_byte-requires c).After-machine_of-machine in
    room_second (name_of c.args.rule) (LF ∷ []) (room_name c.args.n c.machine_of-machine.result.0 c.args.rule whole c.write_field-second.ensures c.write_field-third.ensures c.write_word-name.ensures) c.write_rule-last.ensures

pub returns : goal.returns
returns c =
    let n = c.args.n in
    let machine = c.machine_of-machine.result.0 in
    let rule = c.args.rule in
    let whole = room (goal.at.returns c).After-machine_of-machine in
    let second = c.write_field-second.ensures in
    let third = c.write_field-third.ensures in
    let word = c.write_word-name.ensures in
    let from_name = wrote_both (name_of rule) (LF ∷ []) (room_name n machine rule whole second third word) c.write_rule-last.ensures c.write_byte.ensures in
    let from_word = wrote_both (bytes " rule=") (named rule) (room_word n machine rule whole second third) word from_name in
    let from_machine = wrote_both (chosen machine) (bytes " rule=" ++ named rule) (room_chosen n machine rule whole second) third from_word in
    rw c.machine_of-machine.ensures at (wrote_both (counted n) (chosen machine ++ (bytes " rule=" ++ named rule)) whole second from_machine)
