-- `evaluation::leaf_code` meets its contract: in each arm by what the leaf is. Assumes nothing.
use mathlib.Core.Path.{refl, sym, ap, ◌∙◌}
use native.Mathlib.Omega.{arith}
use Rattle.values.specs.declared.Value.TheVariants.{Int as vint}
use Rattle.values.proofs.Ints.{in_range_lem, mid, held}
use Rattle.codes.specs.Codes.{code_of}
use Rattle.codes.specs.Laws.{code_small}
use Rattle.programs.specs.declared.Leaf.TheVariants.{Bot as bot, Int as int_val, Bool as bool_val, Var as var, This as this, Msg as msg, Arg as arg}
use Rattle.programs.specs.Trees.{stars}
use Rattle.evaluation.specs.Laws.{packed_leaf, packed_star, stored_small}
use Rattle.evaluation.proofs.leaf_code.Goals as goal

pub pack-requires-in-Int : goal.pack-requires-in-Int
pack-requires-in-Int c =
    let z = c.in-Int.z in
    let s = c.in-Int.known_told-1-own.given.0.1 in
    omega (arith, c.code.ensures ∙ ap (λ y. code_of (vint y)) (held z s), code_small (vint z) (in_range_lem z s))

pub pack-requires-in-Var : goal.pack-requires-in-Var
pack-requires-in-Var c =
    (stored_small c.args.places.now c.args.values.now c.args.at c.requires.0 c.place.result (omega arith), c.requires.1)

pub pack-requires-in-This : goal.pack-requires-in-This
pack-requires-in-This c =
    (stored_small c.args.places.now c.args.values.now c.args.at c.requires.0 16 (omega arith), c.requires.1)

pub pack-requires-in-Msg : goal.pack-requires-in-Msg
pack-requires-in-Msg c =
    (stored_small c.args.places.now c.args.values.now c.args.at c.requires.0 17 (omega arith), c.requires.1)

pub pack-requires-in-Arg : goal.pack-requires-in-Arg
pack-requires-in-Arg c =
    (stored_small c.args.places.now c.args.values.now c.args.at c.requires.0 18 (omega arith), c.requires.1)

pub returns-in-Bot : goal.returns-in-Bot
unfolding stars
returns-in-Bot c =
    rw c.in-Bot.is (packed_leaf c.args.places.now c.args.values.now c.args.at c.args.w bot refl refl c.pack.ensures)

pub returns-in-Int : goal.returns-in-Int
unfolding stars
returns-in-Int c =
    let h = c.in-Int.known_told-1-own.given.0.1 in
    rw c.in-Int.is (packed_leaf c.args.places.now c.args.values.now c.args.at c.args.w (int_val c.in-Int.z) refl (c.code.ensures ∙ ap code_of (ap vint (held c.in-Int.z h) ∙ mid c.in-Int.z h)) c.pack-in-Int.ensures)

pub returns-in-Bool : goal.returns-in-Bool
unfolding stars
returns-in-Bool c =
    rw c.in-Bool.is (packed_leaf c.args.places.now c.args.values.now c.args.at c.args.w (bool_val c.in-Bool.b) refl c.bool_code.ensures.0 c.pack-in-Bool.ensures)

pub returns-in-Var : goal.returns-in-Var
unfolding stars
returns-in-Var c =
    rw c.in-Var.is (packed_leaf c.args.places.now c.args.values.now c.args.at c.args.w (var c.in-Var.x) refl (rw c.place.ensures.0 (sym (c.requires.0.canonical _ (omega arith)))) c.pack-in-Var.ensures)

pub returns-in-This : goal.returns-in-This
unfolding stars
returns-in-This c =
    rw c.in-This.is
    (packed_leaf c.args.places.now c.args.values.now c.args.at c.args.w this refl (sym (c.requires.0.canonical 16 (omega arith))) c.pack-in-This.ensures)

pub returns-in-Msg : goal.returns-in-Msg
unfolding stars
returns-in-Msg c =
    rw c.in-Msg.is
    (packed_leaf c.args.places.now c.args.values.now c.args.at c.args.w msg refl (sym (c.requires.0.canonical 17 (omega arith))) c.pack-in-Msg.ensures)

pub returns-in-Arg : goal.returns-in-Arg
unfolding stars
returns-in-Arg c =
    rw c.in-Arg.is
    (packed_leaf c.args.places.now c.args.values.now c.args.at c.args.w arg refl (sym (c.requires.0.canonical 18 (omega arith))) c.pack-in-Arg.ensures)

pub returns-in-Star : goal.returns-in-Star
returns-in-Star c =
    rw c.in-Star.is
    (packed_star c.args.places.now c.args.values.now c.args.at c.args.w c.bool_code-in-Star.ensures.0 c.pack-in-Star.ensures)
