-- A room after a change of its row and its values: what a rule leaves that stores values, too.
use Rattle.std.specs.Prelude.{ℕ, ◌*◌, ◌≡◌, refl, Bool, not, List, ◌∷◌, eqb, get_or, set}
use Rattle.std.proofs.Common.{ap, sym}
use Rattle.rows.specs.Part.{part}
use Rattle.values.specs.declared.Value.{Value}
use Rattle.programs.specs.Program.{Program, Stmt}
use Rattle.machines.specs.Config.{Pending, Local}
use Rattle.machines.specs.Locals.{remains}
use Rattle.machines.specs.Rooms.{set_local}
use Rattle.configs.specs.Encode.{held_code, taken}
use Rattle.configs.specs.declared.Flat.{Flat}
use Rattle.configs.specs.Flat.{room_path}
use Rattle.parts.specs.Parts.{tidied, awaits}
use Rattle.engine.specs.Engine.{Changed}
use Rattle.engine.specs.Holding.{Elsewhere, RowBecomes, untouched, touched_place}
use Rattle.remaining.specs.Held.{with_pending, changed}
use Rattle.statements.specs.Heading.{RowAsked, row_kept, row_then}

-- the local part with other values
abbrev pub valued : List Value → Value → Value → Local → Local
valued vs x y l = record { kind = l.kind; stack = l.stack; variables = vs; msg = x; arg = y; row = l.row; pending = l.pending }

-- the lists with another row, other values and something else that is pending
abbrev pub with_stored : Flat → List ℕ → List ℕ → List ℕ → List ℕ → Flat
with_stored f values counts parts held = record {
  ids = f.ids;
  kinds = f.kinds;
  depths = f.depths;
  states = f.states;
  maps = f.maps;
  values = values;
  counts = counts;
  parts = parts;
  held = held;
  waiting = f.waiting;
  pairs = f.pairs;
  next = f.next;
}

-- what is stored is what was there
pub same_stored : (f : Flat) {values counts parts held : List ℕ} → f.values ≡ values → f.counts ≡ counts → f.parts ≡ parts → f.held ≡ held → with_stored f values counts parts held ≡ f
same_stored f v c p h = λ i. with_stored f (sym v i) (sym c i) (sym p i) (sym h i)

module _ {k : ℕ} {t : Stmt} {counts parts held : List ℕ} (a : RowAsked k t counts parts held) where
  -- the lists as they are
  pub stored_same : {values : List ℕ} → a.f.values ≡ values → with_stored a.f values counts parts held ≡ a.f
  stored_same e = same_stored a.f e a.counts_are a.parts_are a.held_are

  module _ {Of : Program → Type 0} (g : Program → List ℕ → List ℕ) {counts' parts' values' : List ℕ} (b : Bool)
      (row : RowBecomes k counts parts Of (λ p r. tidied b p (g p r)) counts' parts') (of : Of a.p)
      (vs : List Value) (x y : Value) (off : Elsewhere k 19 a.f.values values') (store : part (k * 19) 19 values' ≡ (taken (set_local (valued vs x y a.m.loc) a.m)).values) where
    -- the change of the row, by the machine's own lists
    own : RowBecomes k a.f.counts a.f.parts Of (λ p r. tidied b p (g p r)) counts' parts'
    own = rw (a.counts_are, a.parts_are) row

    -- a change of the row with the stores beside it
    stored_over : (q : Pending) (r : List ℕ) {held' : List ℕ} → Elsewhere k 1 a.f.held held'
        → Changed a.f k (set_local (remains a.p r q a.m.loc) a.m) (with_pending a.f counts' parts' held')
        → Changed a.f k (set_local (remains a.p r q (valued vs x y a.m.loc)) a.m) (with_stored a.f values' counts' parts' held')
    stored_over q r {held'} o c = let h = c.holds in changed a.f k _ (with_stored a.f values' counts' parts' held') a.heading.stands.sized (record {
      ids = untouched;
      kinds = untouched;
      depths = untouched;
      states = untouched;
      maps = untouched;
      values = off;
      counts = own.counts_off;
      parts = own.parts_off;
      held = o;
      waiting = untouched;
      pairs = untouched;
      next = refl;
    }) (room_path (ap (λ r. r.this.0) h) (ap (λ r. r.kind.0) h) (ap (λ r. r.depth) h) (ap (λ r. r.states) h) (ap (λ r. r.maps) h) store
        (ap (λ r. r.count) h) (ap (λ r. r.parts) h) (ap (λ r. r.held) h) (ap (λ r. r.waiting) h) (ap (λ r. r.pairs) h))

    -- WHAT IS PENDING STAYS
    pub stored_kept : b ≡ not (eqb (get_or held k 0) 0)
        → Changed a.f k (set_local (remains a.p (g a.p (a.heading.s ∷ a.heading.r)) a.m.loc.pending (valued vs x y a.m.loc)) a.m) (with_stored a.f values' counts' parts' held)
    stored_kept e = rw (← a.held_are) (stored_over a.m.loc.pending (g a.p (a.heading.s ∷ a.heading.r)) untouched (row_kept a g b e row of))

    -- q IS PENDING
    pub stored_then : (q : Pending) → b ≡ awaits q
        → Changed a.f k (set_local (remains a.p (g a.p (a.heading.s ∷ a.heading.r)) q (valued vs x y a.m.loc)) a.m) (with_stored a.f values' counts' parts' (set held k (held_code q)))
    stored_then q e = stored_over q (g a.p (a.heading.s ∷ a.heading.r)) (rw a.held_are (touched_place k (held_code q) held)) (row_then a g b q e row of)
