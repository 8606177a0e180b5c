-- `heads::head_on` meets its contract, a case for each of the three rules that touch more than the machine itself, and one for the others.
use mathlib.Core.Path.{ap, sym, subst, ◌∙◌}
use native.Mathlib.Omega.{arith}
use Rattle.tables.specs.Decode.{stmt_of}
use Rattle.configs.specs.declared.Flat.{Flat}
use Rattle.engine.specs.Engine.{Performed}
use Rattle.heads.specs.Heads.{head_outcome, head_is, head_there, own_asked, own_performed, delete_performed, send_asked, send_performed, new_asked, new_performed}
use Rattle.heads.proofs.Arms.{other_own}
use Rattle.heads.proofs.head_on.Goals as goal

pub offset_bounds-flat-k : goal.offset_bounds-flat-k
offset_bounds-flat-k c = omega (arith, c.requires.room.lives.room)

pub bounds-flat-k : goal.bounds-flat-k
bounds-flat-k c = omega (arith, c.requires.room.lives.room)

pub overflow_sub-n : goal.overflow_sub-n
overflow_sub-n c = omega (arith, (head_there c.requires).0)

pub overflow_mul-k : goal.overflow_mul-k
overflow_mul-k c = omega (arith, c.requires.room.lives.room)

pub overflow_add-k : goal.overflow_add-k
overflow_add-k c = omega (arith, c.requires.room.lives.room, (head_there c.requires).1)

pub offset_bounds-flat-k-2 : goal.offset_bounds-flat-k-2
offset_bounds-flat-k-2 c = omega (arith, c.requires.room.lives.room, (head_there c.requires).0, (head_there c.requires).1)

pub bounds-flat-k-2 : goal.bounds-flat-k-2
bounds-flat-k-2 c = omega (arith, c.requires.room.lives.room, (head_there c.requires).0, (head_there c.requires).1)

pub new_on-requires : goal.new_on-requires
new_on-requires c =
    let pre = c.requires in
    new_asked pre _ _ _ _ (head_is pre c.from-s.result c.stmt_at-h.result c.from-s.ensures c.stmt_at-h.ensures ∙ ap (stmt_of _) c.in-New.is)

pub delete_on-requires : goal.delete_on-requires
delete_on-requires c =
    let pre = c.requires in
    (pre.room.lives.room, pre.room.lives.sized)

pub send_on-requires : goal.send_on-requires
send_on-requires c =
    let pre = c.requires in
    send_asked pre _ _ _ (head_is pre c.from-s.result c.stmt_at-h.result c.from-s.ensures c.stmt_at-h.ensures ∙ ap (stmt_of _) c.in-Send.is)

pub own_on-requires : goal.own_on-requires
own_on-requires c =
    let pre = c.requires in
    own_asked pre c.stmt_at-h.result (head_is pre c.from-s.result c.stmt_at-h.result c.from-s.ensures c.stmt_at-h.ensures)

pub returns-in-New : goal.returns-in-New
returns-in-New c =
    λ a.
    let is = head_is a c.from-s.result c.stmt_at-h.result c.from-s.ensures c.stmt_at-h.ensures ∙ ap (stmt_of _) c.in-New.is in
    new_performed a _ _ _ _ is _ _ (c.new_on.ensures (new_asked a _ _ _ _ is) a.room.top.state a.room.top.map)

pub returns-in-Delete : goal.returns-in-Delete
returns-in-Delete c =
    λ a.
    delete_performed a _ (head_is a c.from-s.result c.stmt_at-h.result c.from-s.ensures c.stmt_at-h.ensures ∙ ap (stmt_of _) c.in-Delete.is)
    c.delete_on.ensures.room c.delete_on.ensures.number

pub returns-in-Send : goal.returns-in-Send
returns-in-Send c =
    λ a.
    let is = head_is a c.from-s.result c.stmt_at-h.result c.from-s.ensures c.stmt_at-h.ensures ∙ ap (stmt_of _) c.in-Send.is in
    send_performed a _ _ _ is _ _ (c.send_on.ensures (send_asked a _ _ _ is) a.room.top.state a.room.top.map)

pub returns-in_default : goal.returns-in_default
returns-in_default c =
    λ a.
    let is = head_is a c.from-s.result c.stmt_at-h.result c.from-s.ensures c.stmt_at-h.ensures in
    subst (λ (g : Flat). Performed c.args.flat.now (head_outcome a) c.own_on.result g) (sym c.own_on.ensures.others)
    (own_performed a c.stmt_at-h.result is _ _ (other_own c.stmt_at-h.result c.in_default.not-New c.in_default.not-Delete c.in_default.not-Send) (c.own_on.ensures.owned (own_asked a c.stmt_at-h.result is)))
