-- What `new_on` of src/lib.rt is asked, and that what it leaves is what the definitions have for a creation.
use Rattle.std.specs.Prelude.{ℕ, zero, suc, ◌+◌, ◌*◌, ◌≤◌, ◌<◌, ◌≡◌, refl, Bool, true, false, not, eqb, drop, set, replicate, Ok, Err}
use Rattle.std.proofs.Math.Path.{sym, ap, subst}
use Rattle.std.proofs.Common.{◌∙◌, arith, length-set}
use mathlib.Core.List.{List, [], ◌∷◌}
use Rattle.std.proofs.Math.ListN.{length, get_or}
use Rattle.lists.specs.Lists.{at}
use Rattle.answers.specs.declared.Answer.TheVariants.{NoRoom, WrongType}
use Rattle.values.specs.Values.{id_of}
use Rattle.programs.specs.Program.{Program, State, new, stmt_at, Init, Entry}
use Rattle.soundness.specs.Founded.{Refers}
use Rattle.soundness.specs.Sound.{Sound}
use Rattle.soundness.specs.SoundFounded.{sound_founded}
use Rattle.machines.specs.Config.{Reply, Local, Machine, Config}
use Rattle.machines.specs.Locals.{moves_on, sets, created}
use Rattle.machines.specs.Rooms.{set_local}
use Rattle.rules.specs.declared.Rule.TheVariants.{NEW}
use Rattle.rules.specs.Act.{does}
use Rattle.rules.specs.Step as definition
use Rattle.codes.specs.Codes.{code_of}
use Rattle.tables.specs.Decode as decode
use Rattle.tables.specs.Tables.{variables_length}
use Rattle.tables.specs.Decode.{pairs_of, stmts_of, states_of, no_state}
use Rattle.index.specs.Index.{Places}
use Rattle.configs.specs.Encode.{free}
use Rattle.configs.specs.declared.Flat.{Flat}
use Rattle.configs.specs.Flat.{flat, room_at}
use Rattle.parts.specs.Parts.{Said, Any, tidied}
use Rattle.engine.specs.Outcome.{Outcome}
use Rattle.stored.specs.Stored.{place_16}
use Rattle.engine.specs.Engine.{Stands, Changed, Performed}
use Rattle.engine.specs.Holding.{RowBecomes}
use Rattle.remaining.specs.Remaining.{Headed}
use Rattle.remaining.specs.Held.{headed_there}
use Rattle.rooms.specs.Places.{First}
use Rattle.rooms.specs.Standing.{Lives, lives_stands, next_is}
use Rattle.sending.specs.Heads.{head_refers}
use Rattle.beginnings.specs.Inits.{InitsAsked, Begun}
use Rattle.beginnings.specs.Initial.{initial_in, initial_is}
use Rattle.creating.specs.Newborn.{LayAsked, NewLaid, own_row, free_placing, new_changed}
use Rattle.creating.specs.Creating.{with_own, claimed, created_spent, created_none, created_done, room_there, still_free}

-- zeros are zero, and what is behind them, too
pub zeros : (n j : ℕ) → get_or {A = ℕ} (replicate n 0) j 0 ≡ 0
zeros zero j = refl
zeros (suc n) zero = refl
zeros (suc n) (suc j) = zeros n j

-- THE HEAD OF THE MACHINE IN ROOM k IS `new x m ..`, with the n pairs from place z on: there are a sound program and a configuration, of which the lists that are
-- lent are part
pub record NewAsked (k x m z n w : ℕ) (exprs places variables types stmts inits owners entries ids kinds depths tops values counts parts held : List ℕ) (next : ℕ) : Type 0 where
  pub p : Program
  pub sound : Sound p
  pub exprs_are : p.exprs ≡ decode.exprs_of exprs
  pub places_are : Places p places
  pub variables_are : p.variables ≡ decode.variables_of variables types
  pub stmts_are : p.stmts ≡ stmts_of stmts inits
  pub exits : List ℕ
  pub flags : List ℕ
  pub states_are : p.states ≡ states_of owners entries exits flags
  pub maps : List ℕ
  pub waiting : List ℕ
  pub pairs : List ℕ
  pub c : Config
  pub own : Machine
  pub lives : Lives p (flat ids kinds depths tops maps values counts parts held waiting pairs next) c k own
  pub s : ℕ
  pub r : List ℕ
  pub row : own.loc.row ≡ s ∷ r
  pub head : stmt_at p s ≡ new x m (pairs_of inits z n)
  pub bits : w < 256

module _ {k x m z n w : ℕ} {exprs places variables types stmts inits owners entries ids kinds depths tops values counts parts held : List ℕ} {next : ℕ}
    (q : NewAsked k x m z n w exprs places variables types stmts inits owners entries ids kinds depths tops values counts parts held next) where
  -- the flat lists
  abbrev lists : Flat
  lists = flat ids kinds depths tops q.maps values counts parts held q.waiting q.pairs next

  -- WHAT A CREATION LEAVES, where the top of the stack is (t, α)
  abbrev pub Created : ℕ → List Reply → Outcome → List ℕ → List ℕ → List ℕ → List ℕ → List ℕ → List ℕ → List ℕ → ℕ → Type 0
  Created t α r ids' kinds' depths' tops' values' counts' parts' next' =
      Performed lists (definition.perform q.p q.c q.own.this q.own (does q.p q.own.this q.own.loc w t α q.s q.r (new x m (pairs_of inits z n)))) r
      (flat ids' kinds' depths' tops' q.maps values' counts' parts' held q.waiting q.pairs next')

  -- the creator's local part, by the new number
  abbrev after : ℕ → Local
  after i = moves_on q.p q.r (sets q.p x (id_of i) q.own.loc)

  -- the creator stands
  stands : Stands q.p lists k q.own
  stands = lives_stands q.p lists q.c k q.own q.lives

  -- what its head names
  named : Refers q.p q.own.loc.kind (new x m (pairs_of inits z n))
  named = head_refers q.p next q.own.loc q.s q.r (new x m (pairs_of inits z n)) q.sound stands.ok.loc_ok q.row q.head

  -- the next live number
  next_own : next ≡ q.c.next
  next_own = next_is lists q.c q.lives.holds

  -- the variable has its place in `places`,
  pub variable_small : x < 257
  variable_small = omega (arith, named.0.0.1, ap length q.variables_are, variables_length variables types)

  -- one of 16
  pub variable_place : get_or places x 0 < 16
  variable_place = place_16 q.p q.sound places q.places_are x

  -- the room is one of 32
  pub room_32 : k < 32
  room_32 = q.lives.room

  -- the row has a head
  pub new_headed : Headed k counts parts
  new_headed = headed_there q.p lists k q.own q.sound stands q.s q.r q.row

  -- THE VALUES OF `init`
  module _ (out : List ℕ) (size : length out ≡ 19) (blank : (j : ℕ) → get_or out j 0 ≡ 0) where
    -- what is asked
    pub to_inits : InitsAsked k z n w exprs places variables types inits values out
    to_inits = record {
      p = q.p;
      sound = q.sound;
      exprs_are = q.exprs_are;
      places_are = q.places_are;
      variables_are = q.variables_are;
      f = lists;
      values_are = refl;
      m = q.own;
      stands = stands;
      s = q.s;
      r = q.r;
      x = x;
      kind = m;
      row = q.row;
      head = q.head;
      bits = q.bits;
      out_size = size;
      out_zero = blank;
    }

    module _ (out' : List ℕ) (t : ℕ) (α : List Reply) where
      -- 15: one does not suit
      pub new_wrong : Begun to_inits false out' → Created t α (Err WrongType) ids kinds depths tops values counts parts next
      unfolding to_inits
      new_wrong h = rw h.0 (refl, refl)

      module _ (begun : Begun to_inits true out') where
        -- 18: the live numbers are spent,
        pub new_spent : 65536 ≤ next → Created t α (Err NoRoom) ids kinds depths tops values counts parts next
        unfolding to_inits
        new_spent h = rw begun.1.0 (created_spent q.p lists q.c k q.own q.lives after (created q.p m begun.0) h)

        -- or no room is free
        pub new_none : (to : ℕ) → First ids 0 to → next < 65536 → to ≡ 32 → Created t α (Err NoRoom) ids kinds depths tops values counts parts next
        unfolding to_inits
        new_none to first l e = rw begun.1.0 (created_none q.p lists q.c k q.own q.lives after (created q.p m begun.0) to first l e)

  -- THE CREATOR MOVES ON
  module _ (counts1 parts1 : List ℕ) (pending : Bool) (pends : pending ≡ not (eqb (get_or held k 0) 0)) (change : RowBecomes k counts parts Any (λ p r. tidied pending p (0 ∷ drop 1 r)) counts1 parts1) where
    -- the lists after it
    abbrev lists1 : Flat
    lists1 = with_own lists (set values (k * 19 + get_or places x 0) (code_of (id_of q.c.next))) counts1 parts1

    -- it is all that changed
    moves : Changed lists k (set_local (after q.c.next) q.own) lists1
    moves = claimed q.p q.sound lists k q.own stands places q.places_are x named.0 q.c.next q.s q.r counts1 parts1 pending q.row pends change

    -- the statements are the program's
    said : Said stmts q.p
    said = record { inits = inits; same = q.stmts_are; founded = sound_founded q.p q.sound }

    module _ (to : ℕ) (first : First ids 0 to) (unspent : next < 65536) (there : to ≡ 32 → ⊥) where
      -- the room is free
      still : room_at lists1 to ≡ free
      still = still_free q.p lists q.c k q.own q.lives after (created q.p m []) to first unspent there lists1 moves

      -- one of 32
      is_room : to < 32
      is_room = room_there q.p lists q.c k q.own q.lives after (created q.p m []) to first unspent there

      -- and can be laid into
      pub new_lay : (entry id : ℕ) → LayAsked to entry stmts (set values (k * 19 + get_or places x 0) id) counts1 parts1
      new_lay entry id = record {
        room = is_room;
        values_608 = length-set values (k * 19 + get_or places x 0) id ∙ q.lives.sized.values_608;
        placing = free_placing lists1 to moves.sized is_room still stmts q.p entry said;
      }

      -- CREATED
      pub new_done : (out : List ℕ) (size : length out ≡ 19) (blank : (j : ℕ) → get_or out j 0 ≡ 0) (out' : List ℕ) (t : ℕ) (α : List Reply) → Begun (to_inits out size blank) true out'
          → (id : ℕ) → id ≡ code_of (id_of next) → (i : ℕ) → i ≡ initial_in owners m → (entry : ℕ) → ((exits flags : List ℕ) → entry ≡ (at no_state (states_of owners entries exits flags) i).entry)
          → (ids' kinds' depths' tops' values' counts' parts' : List ℕ)
          → NewLaid to next m i (set out' 16 id) entry stmts ids kinds depths tops (set values (k * 19 + get_or places x 0) id) counts1 parts1 ids' kinds' depths' tops' values' counts' parts'
          → Created t α (Ok NEW) ids' kinds' depths' tops' values' counts' parts' (next + 1)
      unfolding to_inits
      new_done out size blank out' t α begun id id_is i i-is entry entry_is ids' kinds' depths' tops' values' counts' parts' laid =
          let few : length begun.0 ≤ 16 = omega (arith, begun.1.1.0, q.sound.is_sized.1.1.0 m named.2) in
          let initial : i ≡ Init q.p m = i-is ∙ sym (initial_is owners m q.p entries q.exits q.flags q.states_are) in
          let begins : entry ≡ Entry q.p (Init q.p m) =
          entry_is q.exits q.flags ∙ ap (λ (j : ℕ). (at no_state (states_of owners entries q.exits q.flags) j).entry) initial
          ∙ ap (λ (l : List State). (at no_state l (Init q.p m)).entry) (sym q.states_are) in
          let own_laid = subst (λ (j : ℕ). NewLaid to j m i (set out' 16 (code_of (id_of j))) entry stmts ids kinds depths tops (set values (k * 19 + get_or places x 0) (code_of (id_of j))) counts1 parts1
          ids' kinds' depths' tops' values' counts' parts') next_own
          (subst (λ (v : ℕ). NewLaid to next m i (set out' 16 v) entry stmts ids kinds depths tops (set values (k * 19 + get_or places x 0) v) counts1 parts1
          ids' kinds' depths' tops' values' counts' parts') id_is laid) in
          rw begun.1.0 (created_done q.p lists q.c k q.own q.lives after (created q.p m begun.0) to first unspent there lists1 moves
          (flat ids' kinds' depths' tops' q.maps values' counts' parts' held q.waiting q.pairs next)
          (new_changed lists1 to moves.sized is_room still q.p q.c.next m i entry (set out' 16 (code_of (id_of q.c.next))) stmts ids' kinds' depths' tops' values' counts' parts'
          own_laid said begun.0 few q.sound.is_sized.1.0 (own_row begun.0 out' (code_of (id_of q.c.next)) begun.1.1.1 few) initial begins))
