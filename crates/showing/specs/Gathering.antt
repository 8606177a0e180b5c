-- The live numbers, gathered room by room: a room is free where its number is 0.
use Rattle.std.specs.Prelude.{ℕ, ◌+◌, ◌≤◌, ◌<◌, ◌≡◌, refl, Bool, true, false, cond, List, [], ◌∷◌, ◌++◌, map, eqb, length, get_or, take, set, replicate}
use Rattle.std.proofs.Common.{sym, ap, ◌∙◌, append-nil, add-one, arith, eq-eqb, ne_eqb, length-append, take-suc, take_all}
use Rattle.rows.specs.Pad.{pad, pad_snoc}
use Rattle.programs.specs.Program.{Program}
use Rattle.answers.specs.declared.Answer.TheVariants.{Done}
use Rattle.configs.specs.declared.Room.{Room}
use Rattle.configs.specs.Decode.{room_of}
use Rattle.showing.specs.Shown.{Living, live_numbers, living}

-- the numbers of the rooms that are not free
abbrev pub numbers_in : List Room → List ℕ
numbers_in [] = []
numbers_in (r ∷ rs) = cond (eqb r.this.0 0) (numbers_in rs) (r.this.0 ∷ numbers_in rs)

-- they are the live numbers of the configuration that the rooms read as
numbers_read : (p : Program) (rs : List Room) → numbers_in rs ≡ live_numbers (map (room_of p) rs)
numbers_read p [] = refl
numbers_read p (r ∷ rs) = go (eqb r.this.0 0) refl (numbers_read p rs)
  where
    go : (b : Bool) → eqb r.this.0 0 ≡ b → numbers_in rs ≡ live_numbers (map (room_of p) rs) → numbers_in (r ∷ rs) ≡ live_numbers (map (room_of p) (r ∷ rs))
    go true e h = rw (e, h)
    go false e h = rw (e, h)

-- those of two lists of rooms
numbers_append : (rs ts : List Room) → numbers_in (rs ++ ts) ≡ numbers_in rs ++ numbers_in ts
numbers_append [] ts = refl
numbers_append (r ∷ rs) ts = go (eqb r.this.0 0) refl (numbers_append rs ts)
  where
    go : (b : Bool) → eqb r.this.0 0 ≡ b → numbers_in (rs ++ ts) ≡ numbers_in rs ++ numbers_in ts → numbers_in (r ∷ (rs ++ ts)) ≡ numbers_in (r ∷ rs) ++ numbers_in ts
    go true e h = rw (e, h)
    go false e h = rw (e, h)

-- THE LOOP THAT GATHERS: after k turns the n numbers of the first k rooms stand in front of the row
pub record Gathered (rooms : List Room) (machines : List ℕ) (n k : ℕ) : Type 0 where
  pub full : length rooms ≡ 32
  pub turns : k ≤ 32
  pub few : n ≤ k
  pub count : n ≡ length (numbers_in (take k rooms))
  pub row : machines ≡ pad 0 32 (numbers_in (take k rooms))

-- before the first turn
pub gathered_none : (rooms : List Room) → length rooms ≡ 32 → Gathered rooms (replicate 32 0) 0 0
unfolding pad
gathered_none rooms e = record { full = e; turns = omega arith; few = omega arith; count = refl; row = refl }

module _ {rooms : List Room} {machines : List ℕ} {n k : ℕ} (g : Gathered rooms machines n k) where
  -- one room more
  one_more : (d : Room) → k < 32 → numbers_in (take (k + 1) rooms) ≡ numbers_in (take k rooms) ++ numbers_in (get_or rooms k d ∷ [])
  one_more d h =
      let i : k < length rooms = omega (arith, g.full) in
      rw (add-one k, take-suc rooms k d i) (numbers_append (take k rooms) (get_or rooms k d ∷ []))

  module _ (d : Room) (h : k < 32) where
    -- a free room has no number,
    pub gathered_free : (get_or rooms k d).this.0 ≡ 0 → Gathered rooms machines n (k + 1)
    gathered_free e =
        let same : numbers_in (take (k + 1) rooms) ≡ numbers_in (take k rooms) = one_more d h ∙ rw (eq-eqb _ 0 e) (append-nil (numbers_in (take k rooms))) in
        record {
          full = g.full;
          turns = omega arith;
          few = omega (arith, g.few);
          count = g.count ∙ ap length (sym same);
          row = g.row ∙ ap (pad 0 32) (sym same);
        }

    -- any other its own
    pub gathered_taken : ((get_or rooms k d).this.0 ≡ 0 → ⊥) → Gathered rooms (set machines n (get_or rooms k d).this.0) (n + 1) (k + 1)
    gathered_taken e =
        let more : numbers_in (take (k + 1) rooms) ≡ numbers_in (take k rooms) ++ ((get_or rooms k d).this.0 ∷ []) = one_more d h ∙ rw (ne_eqb _ 0 e) in
        record {
          full = g.full;
          turns = omega arith;
          few = omega (arith, g.few);
          count = omega (arith, g.count, ap length more, length-append (numbers_in (take k rooms)) ((get_or rooms k d).this.0 ∷ []));
          row = ap (λ (l : List ℕ). set l n (get_or rooms k d).this.0) g.row
              ∙ ap (λ (m : ℕ). set (pad 0 32 (numbers_in (take k rooms))) m (get_or rooms k d).this.0) g.count
              ∙ pad_snoc 0 32 (numbers_in (take k rooms)) (get_or rooms k d).this.0 (omega (arith, g.count, g.few)) ∙ ap (pad 0 32) (sym more);
        }

  -- after the last turn all are gathered
  pub gathered_all : 32 ≤ k → (p : Program) → ◌≡◌ {A = Living} (record { answer = Done; count = n; machines = machines }) (living Done (live_numbers (map (room_of p) rooms)))
  gathered_all h p =
      let all : numbers_in (take k rooms) ≡ live_numbers (map (room_of p) rooms) = ap numbers_in (take_all k rooms (omega (arith, g.full))) ∙ numbers_read p rooms in
      let count_is : n ≡ length (live_numbers (map (room_of p) rooms)) = g.count ∙ ap length all in
      let row_is : machines ≡ pad 0 32 (live_numbers (map (room_of p) rooms)) = g.row ∙ ap (pad 0 32) all in
      λ t. record { answer = Done; count = count_is t; machines = row_is t }
