-- RAISE: what it is asked of the lists that it is lent, and what it leaves, a law for each way out.
use Rattle.std.specs.Prelude.{ℕ, ◌+◌, ◌*◌, ◌%◌, ◌≤◌, ◌≡◌, refl, Bool, true, false, List, [], ◌∷◌, length, set, Ok, Err}
use Rattle.std.proofs.Common.{sym, ◌∙◌, arith}
use Rattle.lists.specs.Lists.{All, There, at}
use Rattle.answers.specs.declared.Answer.TheVariants.{WrongType}
use Rattle.values.specs.declared.Ty.{Ty}
use Rattle.values.specs.declared.Ty.TheVariants.{Void as void}
use Rattle.values.specs.declared.Value.{Value}
use Rattle.values.specs.declared.Value.TheVariants.{Event as vevent}
use Rattle.values.specs.Values.{suits}
use Rattle.programs.specs.Program.{Stmt, raise, stmt_at, event_type}
use Rattle.programs.specs.Statements.{serves}
use Rattle.soundness.specs.Founded.{Refers}
use Rattle.soundness.specs.SoundFounded.{sound_founded}
use Rattle.machines.specs.Config.{Frame, raising}
use Rattle.machines.specs.Eval.{eval}
use Rattle.machines.specs.Maps.{exit_or_skip}
use Rattle.acceptance.specs.Accepted.{FrameOk}
use Rattle.rules.specs.declared.Rule.TheVariants.{RAISE}
use Rattle.codes.specs.Codes.{code_of, value_of}
use Rattle.tables.specs.Decode as decode
use Rattle.index.specs.Index.{Says}
use Rattle.maps.specs.Maps.{Asked, map_at, Tables}
use Rattle.parts.specs.Parts.{Said, tidied}
use Rattle.evaluation.specs.Evaluated.{REST, evaluated}
use Rattle.engine.specs.Holding.{RowBecomes, touched, touched_then}
use Rattle.stored.specs.Stated.{tables_said}
use Rattle.stored.specs.Stored.{told_set, head_serves}
use Rattle.statements.specs.Heading.{PartAsked, asked_said}
use Rattle.statements.specs.Conditions.{TestAsked, test_code, test_value}
use Rattle.storing.specs.Stores.{stored_same, stored_then}
use Rattle.storing.specs.Storing.{StoredLeft}

-- WHAT IS ASKED: the tables are the program's, n is the state on top, and its map stands in the 64 places from b on
pub record RaiseAsked (stmts exprs places says types kinds exits maps values : List ℕ) (k b n e x w : ℕ) (counts parts held : List ℕ) : Type 0 where
  pub test : TestAsked exprs places values k (raise e x) x w counts parts held
  pub inits : List ℕ
  pub stmts_are : test.row.p.stmts ≡ decode.stmts_of stmts inits
  pub events_are : test.row.p.events ≡ decode.events_of types
  pub told : Says test.row.p says
  pub entries : List ℕ
  pub flags : List ℕ
  pub states_are : test.row.p.states ≡ decode.states_of kinds entries exits flags
  pub state_is : test.row.heading.top.state ≡ n
  pub map_is : map_at test.row.p b maps ≡ test.row.heading.top.map
  pub inside : b + 64 ≤ 16384

module _ {stmts exprs places says types kinds exits maps values : List ℕ} {k b n e x w : ℕ} {counts parts held : List ℕ}
    (a : RaiseAsked stmts exprs places says types kinds exits maps values k b n e x w counts parts held) where
  -- its statements
  abbrev pub placing : PartAsked stmts k (raise e x) counts parts held
  placing = record { row = a.test.row; inits = a.inits; stmts_are = a.stmts_are }

  -- its tables
  pub raise_tables : Tables a.test.row.p says kinds a.entries exits a.flags
  raise_tables = tables_said a.test.row.p says a.test.row.heading.sound a.told kinds a.entries exits a.flags a.states_are

  -- the event is there
  pub raise_event : There (length a.test.row.p.events) e
  raise_event =
      let r = a.test.row in
      let v : serves r.p r.m.loc.kind r.heading.s ≡ true =
      head_serves r.p r.f k r.m r.heading.sound r.heading.stands exprs places a.test.exprs_are a.test.here r.heading.s r.heading.r r.heading.head x (rw r.heading.is a.test.of) in
      go (stmt_at r.p r.heading.s) r.heading.is ((sound_founded r.p r.heading.sound).refers r.m.loc.kind r.heading.s v)
    where
      go : (t : Stmt) → t ≡ raise e x → Refers a.test.row.p a.test.row.m.loc.kind t → There (length a.test.row.p.events) e
      go t q h = rw q at h

  -- the state on top is one of 64
  raise_state : n ≤ 64
  raise_state = go a.test.row.m.loc.stack a.test.row.heading.stack a.test.row.heading.stands.ok.loc_ok.frames
    where
      few : length a.test.row.p.states ≤ 64
      few = a.test.row.heading.sound.is_sized.1.1.1.1.1.1.0

      go : (γ : List Frame) → γ ≡ a.test.row.heading.top ∷ a.test.row.heading.below → All (FrameOk a.test.row.p a.test.row.m.loc.kind) γ → n ≤ 64
      go γ q h = let f = (rw q at h).0 in rw (← a.state_is) (omega (arith, f.there.1, few))

  -- what crates/maps is asked
  pub raise_asked : Asked b n e
  raise_asked = record {
    inside = a.inside;
    state = raise_state;
    from_1 = raise_event.0;
    event = omega (arith, raise_event.1, a.test.row.heading.sound.is_sized.1.0);
  }

  -- v is the number of the payload's value u, t the event's type, and `ok` whether the value suits it
  module _ (v : ℕ) (gives : v ≡ evaluated exprs places values (k * 19) x w % REST) (t : Ty) (of_type : t ≡ at void (decode.events_of types) e)
      (u : Value) (reads : u ≡ value_of v) (ok : Bool) (suited : ok ≡ suits t u) where
    -- the value
    abbrev value : Value
    value = eval a.test.row.p a.test.row.m.this a.test.row.m.loc w 0 x

    -- suits as the definition says
    suits_is : suits (event_type a.test.row.p e) value ≡ ok
    suits_is = sym (rw (suited, of_type, ← a.events_are, reads, gives, test_value a.test))

    -- 15
    pub raise_refused : ok ≡ false → StoredLeft a.test.row w (Err WrongType) values counts parts held
    raise_refused h = rw (suits_is ∙ h) (refl, stored_same a.test.row a.test.values_are)

    -- raised: s remains, msg has the number i, the pair the number j
    pub raise_left : {counts' parts' : List ℕ} (s i j : ℕ) → s ≡ exit_or_skip a.test.row.p n (map_at a.test.row.p b maps) e → i ≡ code_of (vevent e) → j ≡ e * 1099511627776 + v → ok ≡ true
        → RowBecomes k counts parts (Said stmts) (λ p r. tidied true p (s ∷ [])) counts' parts'
        → StoredLeft a.test.row w (Ok RAISE) (set (set values (k * 19 + 17) i) (k * 19 + 18) v) counts' parts' (set held k j)
    raise_left s i j exit msg pair h c =
        let r = a.test.row in
        let q : v ≡ code_of value = gives ∙ test_code a.test in
        let z : s ≡ exit_or_skip r.p r.heading.top.state r.heading.top.map e = rw (a.state_is, ← a.map_is) exit in
        rw (suits_is ∙ h, ← z, pair, msg, q, ← a.test.values_are) (
          refl,
          stored_then r (λ p l. s ∷ []) true c (asked_said placing)
              r.m.loc.variables (vevent e) value
              (touched_then (touched k 19 17 (code_of (vevent e)) r.f.values (omega arith)) (touched k 19 18 (code_of value) (set r.f.values (k * 19 + 17) (code_of (vevent e))) (omega arith)))
              (told_set r.p r.f k r.m r.heading.sound r.heading.stands e value) (raising e value) refl,
        )
