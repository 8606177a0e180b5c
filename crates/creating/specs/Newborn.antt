-- The room of a new machine, laid into a room that was free.
use Rattle.std.specs.Prelude.{ℕ, zero, suc, ◌+◌, ◌-◌, ◌*◌, ◌≤◌, ◌<◌, ◌≡◌, refl}
use Rattle.std.proofs.Math.Path.{sym, ap}
use Rattle.std.proofs.Common.{◌∙◌, ⊎_elim, add-zero, arith, length-append, length-set, ext_get_or, get_or-set_other, get_or-append-add}
use Rattle.std.proofs.Math.Bool.{false}
use Rattle.std.proofs.Math.Logic.{dite}
use mathlib.Core.List.{List, [], ◌∷◌, ◌++◌, map, reverse}
use Rattle.std.proofs.Math.Decide.{ℕ_discrete}
use Rattle.std.proofs.Math.ListN.{length, get_or, set, replicate, get_or-map, get_or-append}
use Rattle.std.proofs.lemmas.List.{length-map, get_or-replicate, replicate-append-replicate}
use Rattle.std.proofs.Math.Seq.{take_all, get_or-set_same}
use Rattle.rows.specs.Pad.{pad, pad_length, pad_get, below?}
use Rattle.rows.specs.Runs.{zeros_pad}
use Rattle.rows.specs.Part.{part, put, part_get, put_length, put_out, part_put, row_set}
use Rattle.values.specs.declared.Ty.{Ty}
use Rattle.values.specs.declared.Value.{Value}
use Rattle.values.specs.declared.Value.TheVariants.{Undefined as undefined}
use Rattle.values.specs.Values.{id_of}
use Rattle.programs.specs.Program.{Program, Entry, Init}
use Rattle.machines.specs.Config.{nothing}
use Rattle.machines.specs.Locals.{created}
use Rattle.codes.specs.Codes.{code_of}
use Rattle.configs.specs.Encode.{reply_code, free}
use Rattle.configs.specs.declared.Flat.{Flat}
use Rattle.configs.specs.Flat.{Sized, flat, room_at, room_path}
use Rattle.parts.specs.Parts.{Said, tidied}
use Rattle.engine.specs.Engine.{Changed}
use Rattle.engine.specs.Holding.{RowHeld, RowBecomes, untouched, touched, touched_place}
use Rattle.remaining.specs.Remaining.{Placing, standing}
use Rattle.remaining.specs.Held.{OnlyRoom, changed, row_taken}
use Rattle.beginnings.specs.Inits.{Written}

-- what is asked: the room is one, and its row has room for the parts of the entry statement
pub record LayAsked (to entry : ℕ) (stmts values counts parts : List ℕ) : Type 0 where
  pub room : to < 32
  pub values_608 : length values ≡ 608
  pub placing : Placing stmts to counts parts entry (get_or counts to 0)

-- WHAT IS LAID: machine i, of kind m, in state n, with its own values, at its entry statement
pub record NewLaid (to i m n : ℕ) (own : List ℕ) (entry : ℕ) (stmts ids kinds depths tops values counts parts ids' kinds' depths' tops' values' counts' parts' : List ℕ) : Type 0 where
  pub ids_are : ids' ≡ set ids to i
  pub kinds_are : kinds' ≡ set kinds to m
  pub depths_are : depths' ≡ set depths to 1
  pub tops_are : tops' ≡ set tops (to * 8) n
  pub values_are : values' ≡ put (to * 19) (part 0 19 own) values
  pub row : RowBecomes to counts parts (Said stmts) (λ p r. tidied false p (entry ∷ r)) counts' parts'

-- ZEROS
-- a map of nothing
zero_replies : (l : List Ty) → map reply_code (map (λ t. nothing) l) ≡ replicate (length l) 0
zero_replies [] = refl
zero_replies (t ∷ l) = ap (λ (r : List ℕ). 0 ∷ r) (zero_replies l)

-- as the maps of a stack of one frame
zero_maps : (l : List Ty) → length l ≤ 64 → pad 0 512 (pad 0 64 (map reply_code (map (λ t. nothing) l)) ++ []) ≡ replicate 512 0
zero_maps l h = ap (λ (r : List ℕ). pad 0 512 (pad 0 64 r ++ [])) (zero_replies l) ∙ ap (λ (r : List ℕ). pad 0 512 (r ++ [])) (zeros_pad 0 64 (length l) h)
    ∙ ap (pad 0 512) (replicate-append-replicate 64 0 0) ∙ zeros_pad 0 512 64 (omega arith)

-- THE VALUES with `this`
-- behind `this` they are zero
past : (v d : ℕ) → 1 ≤ d → get_or (v ∷ 0 ∷ 0 ∷ []) d 0 ≡ 0
past v zero h = absurd (omega arith)
past v (suc zero) h = refl
past v (suc (suc zero)) h = refl
past v (suc (suc (suc d))) h = refl

-- the 19 places
pub own_row : (vs : List Value) (out : List ℕ) (v : ℕ) → Written vs out → length vs ≤ 16 → set out 16 v ≡ pad 0 16 (map code_of vs) ++ v ∷ 0 ∷ 0 ∷ []
own_row vs out v w few = ext_get_or 0 (set out 16 v) (pad 0 16 (map code_of vs) ++ v ∷ 0 ∷ 0 ∷ []) (length-set out 16 v ∙ w.size ∙ sym long)
    (λ j h. ⊎_elim
    (λ (b : j < 16). get_or-set_other out 16 j v 0 (λ q. omega arith) ∙ w.values j b
    ∙ sym (get_or-append (pad 0 16 (map code_of vs)) (v ∷ 0 ∷ 0 ∷ []) 0 j (omega (arith, wide)) ∙ pad_get 0 16 (map code_of vs) j ∙ get_or-map code_of vs j undefined))
    (λ (b : 16 ≤ j).
    let d : length (pad 0 16 (map code_of vs)) + (j - 16) ≡ j = omega (arith, wide) in
    behind j b ∙ sym (ap (λ (i : ℕ). get_or (pad 0 16 (map code_of vs) ++ v ∷ 0 ∷ 0 ∷ []) i 0) (sym d) ∙ get_or-append-add (pad 0 16 (map code_of vs)) (v ∷ 0 ∷ 0 ∷ []) (j - 16) 0))
    (below? j 16))
  where
    -- the variables take 16 of them
    wide : length (pad 0 16 (map code_of vs)) ≡ 16
    wide = pad_length 0 16 (map code_of vs) (omega (arith, length-map vs code_of))

    -- three stand behind
    long : length (pad 0 16 (map code_of vs) ++ v ∷ 0 ∷ 0 ∷ []) ≡ 19
    long = length-append (pad 0 16 (map code_of vs)) (v ∷ 0 ∷ 0 ∷ []) ∙ omega (arith, wide)

    -- which are those
    behind : (j : ℕ) → 16 ≤ j → get_or (set out 16 v) j 0 ≡ get_or (v ∷ 0 ∷ 0 ∷ []) (j - 16) 0
    behind j b = dite (ℕ_discrete j 16)
        (λ (e : j ≡ 16). rw e (get_or-set_same out 16 v 0 (omega (arith, w.size))))
        (λ (e : j ≡ 16 → ⊥). get_or-set_other out 16 j v 0 e ∙ w.rest j b ∙ sym (past v (j - 16) (omega arith)))

-- A FREE ROOM
module _ (f : Flat) (to : ℕ) (s : Sized f) (h : to < 32) (e : room_at f to ≡ free) where
  -- has no part,
  none_there : get_or f.counts to 0 ≡ 0
  none_there = ap (λ r. r.count) e

  -- so a row of none stands there
  free_row : RowHeld to f.counts f.parts []
  free_row = record {
    rooms = s.counts_32;
    room = h;
    row = record {
      long = s.parts_1056;
      inside = omega arith;
      fits = omega (arith, none_there);
      zeros = λ j a b. sym (part_get (to * 33) 33 f.parts j 0 b) ∙ ap (λ r. get_or r.parts j 0) e ∙ get_or-replicate 33 j 0 0 b;
    };
    reads = rw none_there;
  }

  -- with room for the parts of any statement
  pub free_placing : (stmts : List ℕ) (p : Program) (a : ℕ) → Said stmts p → Placing stmts to f.counts f.parts a (get_or f.counts to 0)
  free_placing stmts p a said = record { standing = standing free_row; program = p; said = said; low = omega (arith, none_there, said.founded.low_enough a) }

  -- A NEW MACHINE THERE
  module _ (p : Program) (i m n entry : ℕ) (own stmts ids kinds depths tops values counts parts : List ℕ)
      (laid : NewLaid to i m n own entry stmts f.ids f.kinds f.depths f.states f.values f.counts f.parts ids kinds depths tops values counts parts)
      (said : Said stmts p) (vs : List Value) (few : length vs ≤ 16) (events : length p.events ≤ 64)
      (values_own : own ≡ pad 0 16 (map code_of vs) ++ code_of (id_of i) ∷ 0 ∷ 0 ∷ []) (initial : n ≡ Init p m) (begins : entry ≡ Entry p (Init p m)) where
    -- its values take 19 places
    own_19 : length own ≡ 19
    own_19 = ap length values_own ∙ length-append (pad 0 16 (map code_of vs)) _ ∙ omega (arith, pad_length 0 16 (map code_of vs) (omega (arith, length-map vs code_of)))

    -- all of which are stored
    whole : part 0 19 own ≡ own
    unfolding part
    whole = take_all 19 own (omega (arith, own_19))

    -- as the room's
    values_stored : values ≡ put (to * 19) own f.values
    values_stored = laid.values_are ∙ ap (λ (l : List ℕ). put (to * 19) l f.values) whole

    -- its row
    row_new : RowHeld to counts parts (tidied false p (entry ∷ []))
    row_new = laid.row.becomes p said [] free_row

    -- the flat lists
    abbrev lists : Flat
    lists = flat ids kinds depths tops f.maps values counts parts f.held f.waiting f.pairs f.next

    -- off the room nothing changes
    only : OnlyRoom f to lists
    only = record {
      ids = rw laid.ids_are (touched_place to i f.ids);
      kinds = rw laid.kinds_are (touched_place to m f.kinds);
      depths = rw laid.depths_are (touched_place to 1 f.depths);
      states = rw (laid.tops_are, ← add-zero (to * 8)) (touched to 8 0 n f.states (omega arith));
      maps = untouched;
      values = record {
        size = ap length values_stored ∙ put_length (to * 19) own f.values (omega (arith, s.values_608, own_19));
        same = λ j o. ap (λ (l : List ℕ). get_or l j 0) values_stored ∙ put_out (to * 19) own f.values j 0 (omega (arith, s.values_608, own_19)) (rw own_19 o);
      };
      counts = laid.row.counts_off;
      parts = laid.row.parts_off;
      held = untouched;
      waiting = untouched;
      pairs = untouched;
      next = refl;
    }

    -- its state
    state_row : part (to * 8) 8 tops ≡ pad 0 8 (Init p m ∷ [])
    unfolding pad
    state_row = ap (λ (l : List ℕ). part (to * 8) 8 l) (laid.tops_are ∙ ap (λ (j : ℕ). set f.states j n) (sym (add-zero (to * 8))))
        ∙ row_set 0 8 to f.states (omega (arith, s.states_256)) 0 n (omega arith) ∙ ap (λ r. set r.states 0 n) e ∙ ap (λ (j : ℕ). j ∷ replicate 7 0) initial

    -- THE ROOM
    pub new_changed : Changed f to (record { this = i; loc = created p m vs; queue = [] }) lists
    unfolding pad
    new_changed = changed f to _ lists s only (room_path
        (ap (λ (l : List ℕ). get_or l to 0) laid.ids_are ∙ get_or-set_same f.ids to i 0 (omega (arith, s.ids_32)))
        (ap (λ (l : List ℕ). get_or l to 0) laid.kinds_are ∙ get_or-set_same f.kinds to m 0 (omega (arith, s.kinds_32)))
        (ap (λ (l : List ℕ). get_or l to 0) laid.depths_are ∙ get_or-set_same f.depths to 1 0 (omega (arith, s.depths_32)))
        state_row
        (ap (λ r. r.maps) e ∙ sym (zero_maps p.events events))
        (ap (λ (l : List ℕ). part (to * 19) 19 l) values_stored ∙ part_put 0 (to * 19) 19 own f.values own_19 (omega (arith, s.values_608)) ∙ values_own)
        ((row_taken row_new).0 ∙ ap (λ (a : ℕ). length (tidied false p (a ∷ []))) begins)
        ((row_taken row_new).1 ∙ ap (λ (a : ℕ). pad 0 33 (reverse (tidied false p (a ∷ [])))) begins)
        (ap (λ r. r.held) e)
        (ap (λ r. r.waiting) e)
        (ap (λ r. r.pairs) e))
