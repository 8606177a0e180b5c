-- `sessions::files::name_file` meets its contract: the name, then the ending behind it, where both have room. Assumes nothing.
use Rattle.std.proofs.Common.{arith}
use Rattle.sessions.specs.FileName.{named_none, named_both}
use Rattle.sessions.proofs.files.name_file.Goals as goal
use Rattle.sessions.proofs.files.name_file.Goals.{then-path-name-via-then-path-name, then-path-name-via-else-path-name+then-path-name-2}

pub returns-then-path-name : goal.returns-then-path-name
returns-then-path-name c =
    elim c.then-path-name.branch [
      | then-path-name-via-then-path-name w ↦
          let n = named_none c.args.name.now c.args.ending.now c.args.path.now (omega (arith, w.if-path-name.true)) in
          record { value = n.0; path_after = n.1 }
      | then-path-name-via-else-path-name+then-path-name-2 w ↦
          let n = named_none c.args.name.now c.args.ending.now c.args.path.now (omega (arith, w.if-path-name-2.true)) in
          record { value = n.0; path_after = n.1 }
    ]

pub returns : goal.returns
returns c =
    let n = named_both c.args.name.now c.args.ending.now c.args.path.now (omega arith) c.write_word-place.ensures c.write_word.ensures in
    record { value = n.0; path_after = n.1 }
