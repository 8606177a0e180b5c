-- `judging::judge` meets its contract: the passes in their order, each told by what it refuses. Assumes nothing.
use mathlib.Core.Path.{◌≡◌, refl}
use mathlib.Core.List.{[]}
use Rattle.std.proofs.Common.{ap, ◌∙◌, rules}
use Rattle.answers.specs.declared.Answer.TheVariants.{NotThere, NotLower, Doubled, ExitLeaves, TooHigh}
use Rattle.soundness.specs.Asked.{refers, lower, own, single, quiet, low}
use Rattle.tables.specs.Decode.{program_of}
use Rattle.faults.specs.Asking.{told_program}
use Rattle.lowering.specs.Lowering.{counted_parts, tells_parts_program, has_parts_program}
use Rattle.marks.specs.Marks.{stated_program, peopled_program}
use Rattle.quietness.specs.Quiet.{told_states_program}
use Rattle.judging.specs.Judging.{result_of, tabled_program, moving_program, from_five, after_five, from_six, from_seven, from_eight, pass_met, pass_on, pass_end, with_states, without_state, result_is}
use Rattle.judging.proofs.judge.Goals as goal

pub returns-in_err-refuse : goal.returns-in_err-refuse
returns-in_err-refuse c =
    let q = c.args.program.now in
    let p = program_of q in
    let same : c.from_residual.result ≡ c.refuse.result = search rules in
    result_is p _ (same ∙ pass_end p NotThere (refers p) _ _ (c.refers.ensures p (tabled_program q) (moving_program q) refl) c.refuse.ensures (from_five p) _ refl c.in_err-refuse.was)

pub returns-in_err-refuse-2 : goal.returns-in_err-refuse-2
returns-in_err-refuse-2 c =
    let q = c.args.program.now in
    let p = program_of q in
    let same : c.from_residual-in_err-refuse-2.result ≡ c.refuse-2.result = search rules in
    result_is p _ (pass_on p NotThere (refers p) _ _ (c.refers.ensures p (tabled_program q) (moving_program q) refl) c.refuse.ensures (from_five p) _ _ c.in_ok-refuse.was
    (same ∙ pass_end p NotLower (lower p) _ _ (c.lower.ensures p (counted_parts (tells_parts_program q) c.count_rows-rows.ensures.rows) (has_parts_program q)) c.refuse-2.ensures (after_five p) _ refl c.in_err-refuse-2.was))

pub returns-in_err-refuse-3 : goal.returns-in_err-refuse-3
returns-in_err-refuse-3 c =
    let q = c.args.program.now in
    let p = program_of q in
    let same : c.from_residual-in_err-refuse-3.result ≡ c.refuse-3.result = search rules in
    result_is p _ (pass_on p NotThere (refers p) _ _ (c.refers.ensures p (tabled_program q) (moving_program q) refl) c.refuse.ensures (from_five p) _ _ c.in_ok-refuse.was
    (pass_on p NotLower (lower p) _ _ (c.lower.ensures p (counted_parts (tells_parts_program q) c.count_rows-rows.ensures.rows) (has_parts_program q)) c.refuse-2.ensures (after_five p) _ _ c.in_ok-refuse-2.was
    (same ∙ pass_end p NotThere (own p) _ _ (c.own.ensures p (told_program q) (c.served-served.ensures p (peopled_program q))) c.refuse-3.ensures (from_six p) _ refl c.in_err-refuse-3.was)))

pub returns-in_err-refuse-4 : goal.returns-in_err-refuse-4
returns-in_err-refuse-4 c =
    let q = c.args.program.now in
    let p = program_of q in
    let same : c.from_residual-in_err-refuse-4.result ≡ c.refuse-4.result = search rules in
    result_is p _ (pass_on p NotThere (refers p) _ _ (c.refers.ensures p (tabled_program q) (moving_program q) refl) c.refuse.ensures (from_five p) _ _ c.in_ok-refuse.was
    (pass_on p NotLower (lower p) _ _ (c.lower.ensures p (counted_parts (tells_parts_program q) c.count_rows-rows.ensures.rows) (has_parts_program q)) c.refuse-2.ensures (after_five p) _ _ c.in_ok-refuse-2.was
    (pass_on p NotThere (own p) _ _ (c.own.ensures p (told_program q) (c.served-served.ensures p (peopled_program q))) c.refuse-3.ensures (from_six p) _ _ c.in_ok-refuse-3.was
    (same ∙ pass_end p Doubled (single p) _ _ (c.single.ensures p q.variable_type q.inits q.action_body q.state_entry q.state_exit q.defers (tabled_program q) (moving_program q) (pass_met p NotThere (refers p) _ _ (c.refers.ensures p (tabled_program q) (moving_program q) refl) c.refuse.ensures _ c.in_ok-refuse.was)) c.refuse-4.ensures (from_seven p) _ refl c.in_err-refuse-4.was))))

pub returns-in_err-refuse-5 : goal.returns-in_err-refuse-5
returns-in_err-refuse-5 c =
    let q = c.args.program.now in
    let p = program_of q in
    let same : c.from_residual-in_err-refuse-5.result ≡ c.refuse-5.result = search rules in
    result_is p _ (pass_on p NotThere (refers p) _ _ (c.refers.ensures p (tabled_program q) (moving_program q) refl) c.refuse.ensures (from_five p) _ _ c.in_ok-refuse.was
    (pass_on p NotLower (lower p) _ _ (c.lower.ensures p (counted_parts (tells_parts_program q) c.count_rows-rows.ensures.rows) (has_parts_program q)) c.refuse-2.ensures (after_five p) _ _ c.in_ok-refuse-2.was
    (pass_on p NotThere (own p) _ _ (c.own.ensures p (told_program q) (c.served-served.ensures p (peopled_program q))) c.refuse-3.ensures (from_six p) _ _ c.in_ok-refuse-3.was
    (pass_on p Doubled (single p) _ _ (c.single.ensures p q.variable_type q.inits q.action_body q.state_entry q.state_exit q.defers (tabled_program q) (moving_program q) (pass_met p NotThere (refers p) _ _ (c.refers.ensures p (tabled_program q) (moving_program q) refl) c.refuse.ensures _ c.in_ok-refuse.was)) c.refuse-4.ensures (from_seven p) _ _ c.in_ok-refuse-4.was
    (same ∙ pass_end p ExitLeaves (quiet p) _ _ (c.quiet.ensures p (told_states_program q)) c.refuse-5.ensures (from_eight p) _ refl c.in_err-refuse-5.was)))))

pub returns-in_err-refuse-6 : goal.returns-in_err-refuse-6
returns-in_err-refuse-6 c =
    let q = c.args.program.now in
    let p = program_of q in
    let same : c.from_residual-in_err-refuse-6.result ≡ c.refuse-6.result = search rules in
    result_is p _ (pass_on p NotThere (refers p) _ _ (c.refers.ensures p (tabled_program q) (moving_program q) refl) c.refuse.ensures (from_five p) _ _ c.in_ok-refuse.was
    (pass_on p NotLower (lower p) _ _ (c.lower.ensures p (counted_parts (tells_parts_program q) c.count_rows-rows.ensures.rows) (has_parts_program q)) c.refuse-2.ensures (after_five p) _ _ c.in_ok-refuse-2.was
    (pass_on p NotThere (own p) _ _ (c.own.ensures p (told_program q) (c.served-served.ensures p (peopled_program q))) c.refuse-3.ensures (from_six p) _ _ c.in_ok-refuse-3.was
    (pass_on p Doubled (single p) _ _ (c.single.ensures p q.variable_type q.inits q.action_body q.state_entry q.state_exit q.defers (tabled_program q) (moving_program q) (pass_met p NotThere (refers p) _ _ (c.refers.ensures p (tabled_program q) (moving_program q) refl) c.refuse.ensures _ c.in_ok-refuse.was)) c.refuse-4.ensures (from_seven p) _ _ c.in_ok-refuse-4.was
    (pass_on p ExitLeaves (quiet p) _ _ (c.quiet.ensures p (told_states_program q)) c.refuse-5.ensures (from_eight p) _ _ c.in_ok-refuse-5.was
    (same ∙ pass_end p TooHigh (low p) _ _ (c.low.ensures p (told_program q) (c.heights-heights.ensures p (stated_program q))) c.refuse-6.ensures ([]) _ refl c.in_err-refuse-6.was))))))

pub returns-then-stateful : goal.returns-then-stateful
returns-then-stateful c =
    let q = c.args.program.now in
    let p = program_of q in
    result_is p _ (pass_on p NotThere (refers p) _ _ (c.refers.ensures p (tabled_program q) (moving_program q) refl) c.refuse.ensures (from_five p) _ _ c.in_ok-refuse.was
    (pass_on p NotLower (lower p) _ _ (c.lower.ensures p (counted_parts (tells_parts_program q) c.count_rows-rows.ensures.rows) (has_parts_program q)) c.refuse-2.ensures (after_five p) _ _ c.in_ok-refuse-2.was
    (pass_on p NotThere (own p) _ _ (c.own.ensures p (told_program q) (c.served-served.ensures p (peopled_program q))) c.refuse-3.ensures (from_six p) _ _ c.in_ok-refuse-3.was
    (pass_on p Doubled (single p) _ _ (c.single.ensures p q.variable_type q.inits q.action_body q.state_entry q.state_exit q.defers (tabled_program q) (moving_program q) (pass_met p NotThere (refers p) _ _ (c.refers.ensures p (tabled_program q) (moving_program q) refl) c.refuse.ensures _ c.in_ok-refuse.was)) c.refuse-4.ensures (from_seven p) _ _ c.in_ok-refuse-4.was
    (pass_on p ExitLeaves (quiet p) _ _ (c.quiet.ensures p (told_states_program q)) c.refuse-5.ensures (from_eight p) _ _ c.in_ok-refuse-5.was
    (pass_on p TooHigh (low p) _ _ (c.low.ensures p (told_program q) (c.heights-heights.ensures p (stated_program q))) c.refuse-6.ensures ([]) _ _ c.in_ok-refuse-6.was
    (ap result_of (with_states p _ (c.stateful.ensures p q.state_entry q.state_exit q.defers refl refl) c.if-stateful.true))))))))

pub returns-else-stateful : goal.returns-else-stateful
returns-else-stateful c =
    let q = c.args.program.now in
    let p = program_of q in
    result_is p _ (pass_on p NotThere (refers p) _ _ (c.refers.ensures p (tabled_program q) (moving_program q) refl) c.refuse.ensures (from_five p) _ _ c.in_ok-refuse.was
    (pass_on p NotLower (lower p) _ _ (c.lower.ensures p (counted_parts (tells_parts_program q) c.count_rows-rows.ensures.rows) (has_parts_program q)) c.refuse-2.ensures (after_five p) _ _ c.in_ok-refuse-2.was
    (pass_on p NotThere (own p) _ _ (c.own.ensures p (told_program q) (c.served-served.ensures p (peopled_program q))) c.refuse-3.ensures (from_six p) _ _ c.in_ok-refuse-3.was
    (pass_on p Doubled (single p) _ _ (c.single.ensures p q.variable_type q.inits q.action_body q.state_entry q.state_exit q.defers (tabled_program q) (moving_program q) (pass_met p NotThere (refers p) _ _ (c.refers.ensures p (tabled_program q) (moving_program q) refl) c.refuse.ensures _ c.in_ok-refuse.was)) c.refuse-4.ensures (from_seven p) _ _ c.in_ok-refuse-4.was
    (pass_on p ExitLeaves (quiet p) _ _ (c.quiet.ensures p (told_states_program q)) c.refuse-5.ensures (from_eight p) _ _ c.in_ok-refuse-5.was
    (pass_on p TooHigh (low p) _ _ (c.low.ensures p (told_program q) (c.heights-heights.ensures p (stated_program q))) c.refuse-6.ensures ([]) _ _ c.in_ok-refuse-6.was
    (ap result_of (without_state p _ (c.stateful.ensures p q.state_entry q.state_exit q.defers refl refl) c.if-stateful.false))))))))
