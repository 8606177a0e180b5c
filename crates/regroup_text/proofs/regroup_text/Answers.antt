-- `regroup_text::regroup_text` meets its contract: a refusal is written as it is; what is written of a loaded text is `regroup_started`'s.
-- Assumes nothing.
use Rattle.std.specs.Prelude.{◌<◌}
use Rattle.std.proofs.Common.{sym, ◌∙◌, arith, rules, ◌^◌}
use Rattle.handed_out.specs.Called.{refusal_room}
use Rattle.handed_out.specs.Starts.{refused_handed, refused_above}
use Rattle.regroup_text.specs.Calls.{refusal_answers}
use Rattle.regroup_text.proofs.regroup_text.Goals as goal

pub start_in-requires : goal.start_in-requires
start_in-requires c = c.new-lines.ensures

pub write_refusal-requires : goal.write_refusal-requires
write_refusal-requires c =
    let e = refused_handed c.args.text.now c.in-Err.refusal c.in-Err.ensures.refused in
    let f : c.in-Err.refusal.line < 2 ^ 64 = search rules in
    refusal_room c.args.text.now e c.args.out.now (omega (arith, c.told-out)) f

pub returns-in-Err : goal.returns-in-Err
returns-in-Err c =
    let is = c.in-Err.ensures.refused in
    refusal_answers c.args.text.now (refused_handed c.args.text.now c.in-Err.refusal is) (refused_above c.args.text.now c.in-Err.refusal is) c.write_refusal.ensures

pub regroup_started-requires : goal.regroup_started-requires
regroup_started-requires c = (c.args.text.now, c.in-Ok.ensures.handed)

pub returns-in-Ok : goal.returns-in-Ok
returns-in-Ok c = c.regroup_started.ensures c.args.text.now c.in-Ok.ensures.handed
