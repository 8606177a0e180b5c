-- `showing::look_for` meets its contract: the first room with the number is the machine's, as the definitions find it. Assumes nothing.
use Rattle.std.proofs.Common.{ℕ, ◌≡◌, ◌<◌, ap, sym, ◌∙◌, subst, length, Option, Some, None, true≢false, MatchOption, arith, rules, tests}
use Rattle.std.specs.Prelude.{is_some}
use Rattle.std.specs.List.{AllWithin, HoldsAt}
use Rattle.std.proofs.Math.Option.{some}
use mathlib.Core.Option.{Option as Maybe}
use Rattle.std.proofs.lemmas.Iterator.{first_from_find, YieldsList-from_slice}
use Rattle.std.proofs.option.Match.{if_some}
use Rattle.lists.specs.Lists.{on_opt}
use Rattle.rows.specs.Front.{length_mapped}
use Rattle.answers.specs.declared.Answer.TheVariants.{UnableToStep}
use Rattle.machines.specs.Config.{Machine}
use Rattle.configs.specs.declared.Room.{Room}
use Rattle.configs.specs.Decode.{machine_of}
use Rattle.configs.specs.Encode.{free}
use Rattle.tables.specs.Decode.{program_of}
use Rattle.showing.specs.Shown.{Shown, shown, answering, refused_19}
use Rattle.showing.specs.Looking.{Stands, room_stands}
use Rattle.showing.specs.Seeking.{find_zero, seeking_to, seeking_found, seeking_all}
use Rattle.showing.proofs.look_for.Goals as goal
use Rattle.showing.proofs.look_for.Goals.{Start, After-find}

-- what is shown of a machine that was sought
abbrev sought : Maybe Machine → Shown
sought o = on_opt o (answering UnableToStep) shown

-- a configuration has 32 rooms
full : (s : Start) → length s.args.c.now.rooms ≡ 32
full s = search (length_mapped, rules)

pub returns-then-i-eq0 : goal.returns-then-i-eq0
returns-then-i-eq0 c =
    record { told = rw (c.if-i-eq0.true, find_zero (program_of c.args.program.now) c.args.c.now.rooms); refused = refused_19 }

-- what is said where there is none
none_so : {A N : Type 0} (P : A → Type 0) (r : Option A) → r ≡ None → MatchOption r N P → N
none_so P None e h = h
none_so P (Some x) e h = absurd (true≢false (ap is_some e))

-- the first room with the number, or none of them
first : (c : After-find) → MatchOption c.find.result (AllWithin (λ (r : Room). r.this.0 ≡ c.args.i → ⊥) c.args.c.now.rooms 0 (length c.args.c.now.rooms))
    (λ x. (x.now.this.0 ≡ c.args.i) × (k : ℕ) × (k < length c.args.c.now.rooms) × HoldsAt (λ (r : Room). r ≡ x.now) c.args.c.now.rooms k × AllWithin (λ (r : Room). r.this.0 ≡ c.args.i → ⊥) c.args.c.now.rooms 0 k)
first c = first_from_find _ _ _ (λ (r : Room). r.this.0 ≡ c.args.i) (λ (r : Room). r.this.0 ≡ c.args.i → ⊥) c.find.ensures.ran (YieldsList-from_slice c.args.c.now.rooms cc)
    (λ x s k. search (rules, tests)) (λ x s k. search (rules, tests))

pub look_in-requires : goal.look_in-requires
look_in-requires c =
    let room = c.in-Some.room.now in
    let f = if_some _ _ _ c.in-Some.is (first (goal.at.look_in-requires c).After-find) in
    subst (Stands (program_of c.args.program.now)) (f.3 room)
    (room_stands c.args.program.now c.args.c.now c.requires room f.1 f.2 (λ z. c.if-i-eq0.false (sym f.0 ∙ ap (λ (r : Room). r.this.0) (sym (f.3 room)) ∙ z)))

pub returns-in-Some : goal.returns-in-Some
returns-in-Some c =
    let g = goal.at.returns-in-Some c in
    let p = program_of c.args.program.now in
    let rooms = c.args.c.now.rooms in
    let room = c.in-Some.room.now in
    let f = if_some _ _ _ c.in-Some.is (first g.After-find) in
    let k = f.1 in
    let long = full g.Start in
    let found = seeking_found (seeking_to p rooms c.args.i k room long (omega (arith, f.2, long)) (λ j b. f.4 j room (omega arith) b)) room (omega (arith, f.2, long)) c.if-i-eq0.false (ap (λ (r : Room). r.this.0) (f.3 room) ∙ f.0)
    ∙ ap (λ (r : Room). some (machine_of p r)) (f.3 room) in
    record { told = c.look_in.ensures ∙ ap sought (sym found); refused = λ a e z. cc }

pub returns-in-None : goal.returns-in-None
returns-in-None c =
    let g = goal.at.returns-in-None c in
    let rooms = c.args.c.now.rooms in
    let long = full g.Start in
    let none = none_so _ _ c.in-None.is (first g.After-find) in
    let over = seeking_all (seeking_to (program_of c.args.program.now) rooms c.args.i 32 free long (omega arith) (λ j b. none j free (omega arith) (omega (arith, long, b)))) (omega arith) in
    record { told = ap sought (sym over); refused = refused_19 }
