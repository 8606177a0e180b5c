-- The test that decides whether two configurations of the code are the same, and so whether unused places are zero.
use Rattle.std.specs.Prelude.{◌≡◌, Bool, true, ◌&&◌, eqb}
use Rattle.std.proofs.Common.{sym, subst, eqb-true}
use Rattle.lists.specs.Lists.{alike, same}
use Rattle.lists.specs.Facts.{eqb_same, and_parts, and_both, alike_equal, alike_self, same_equal, same_self}
use Rattle.lists.specs.Tells.{Tells}
use Rattle.programs.specs.Program.{Program}
use Rattle.configs.specs.declared.Room.{Room}
use Rattle.configs.specs.declared.Config.{Config as Held}
use Rattle.configs.specs.Decode.{config_of}
use Rattle.configs.specs.Encode.{written, Zeroed}
use Rattle.configs.specs.Flat.{room_path}

-- two rooms: every number and every row
abbrev pub same_room : Room → Room → Bool
same_room a b = eqb a.this.0 b.this.0 && (eqb a.kind.0 b.kind.0 && (eqb a.depth b.depth && (same a.states b.states && (same a.maps b.maps
    && (same a.values b.values && (eqb a.count b.count && (same a.parts b.parts && (eqb a.held b.held && (eqb a.waiting b.waiting && same a.pairs b.pairs)))))))))

room_equal : (a b : Room) → same_room a b ≡ true → a ≡ b
room_equal a b e =
    let n1 = and_parts _ _ e in
    let n2 = and_parts _ _ n1.1 in
    let n3 = and_parts _ _ n2.1 in
    let n4 = and_parts _ _ n3.1 in
    let n5 = and_parts _ _ n4.1 in
    let n6 = and_parts _ _ n5.1 in
    let n7 = and_parts _ _ n6.1 in
    let n8 = and_parts _ _ n7.1 in
    let n9 = and_parts _ _ n8.1 in
    let n10 = and_parts _ _ n9.1 in
    room_path (eqb-true _ _ n1.0) (eqb-true _ _ n2.0) (eqb-true _ _ n3.0) (same_equal _ _ n4.0) (same_equal _ _ n5.0) (same_equal _ _ n6.0) (eqb-true _ _ n7.0)
    (same_equal _ _ n8.0) (eqb-true _ _ n9.0) (eqb-true _ _ n10.0) (same_equal _ _ n10.1)

room_same : (a : Room) → same_room a a ≡ true
room_same a = and_both _ _ (eqb_same a.this.0) (and_both _ _ (eqb_same a.kind.0) (and_both _ _ (eqb_same a.depth) (and_both _ _ (same_self a.states) (and_both _ _ (same_self a.maps)
    (and_both _ _ (same_self a.values) (and_both _ _ (eqb_same a.count) (and_both _ _ (same_self a.parts) (and_both _ _ (eqb_same a.held) (and_both _ _ (eqb_same a.waiting) (same_self a.pairs))))))))))

-- two configurations
abbrev pub same_config : Held → Held → Bool
same_config c d = eqb c.next d.next && alike same_room c.rooms d.rooms

-- "unused places are zero": writing what the configuration reads as gives it again
unfoldable pub zeroed : Program → Held → Bool
zeroed p c = same_config (written (config_of p c)) c

-- THE TEST TELLS
pub zeroed_is : (p : Program) (c : Held) → Tells (zeroed p c) (Zeroed p c)
unfolding zeroed
zeroed_is p c = record {
  holds = λ e. equal (written (config_of p c)) c e;
  test = λ h. subst (λ (d : Held). same_config d c ≡ true) (sym h) (itself c);
}
  where
    equal : (a b : Held) → same_config a b ≡ true → a ≡ b
    equal a b e = let d = and_parts _ _ e in
        let n : a.next ≡ b.next = eqb-true _ _ d.0 in
        let r : a.rooms ≡ b.rooms = alike_equal same_room room_equal a.rooms b.rooms d.1 in
        λ i. record { next = n i; rooms = r i }

    itself : (a : Held) → same_config a a ≡ true
    itself a = and_both _ _ (eqb_same a.next) (alike_self same_room room_same a.rooms)
