-- What the loader's arrays hold while it reads: the tables of the lines so far. Where the next line is in range there is room for it.
use Rattle.std.specs.Prelude.{ℕ, ◌≤◌, ◌<◌, min, ◌≡◌, Bool, true, ◌&&◌, List, leb, ltb, length, get_or}
use Rattle.std.proofs.Common.{sym, ◌∙◌, arith}
use Rattle.lists.specs.Tells.{Tells, both, form, agree, less, at_most_lem}
use Rattle.values.specs.declared.Ty.{Ty}
use Rattle.programs.specs.Sizes.{CHOICES, SPENT, EVENTS, ACTIONS, BITS}
use Rattle.programs.specs.Program.{Action}
use Rattle.machines.specs.Config.{Choice}
use Rattle.texts.specs.Reading.{next}
use Rattle.tabled.specs.Tabled.{byte_of, word_of, event_table, choice_table}
use Rattle.numerals.specs.Numerals.{CAP}
use Rattle.spoken.specs.Counted.{next_room}
use Rattle.putting.specs.Asked.{EventRoom, ActionTables, ActionRoom, ChoiceRoom}
use Rattle.putting.specs.Counts.{event_count, action_count}
use Rattle.putting.specs.Words.{byte_kept, word_kept}

-- EVENTS so far
pub record EventHeld (types : List ℕ) : Type 0 where
  pub rows : List Ty
  pub held : types ≡ event_table rows
  pub few : length rows ≤ EVENTS

module _ {types : List ℕ} (h : EventHeld types) where
  -- how many
  pub events_count : get_or types 0 0 ≡ length h.rows
  events_count = rw h.held (event_count h.rows)

  -- no more than there may be
  pub events_few : get_or types 0 0 ≤ EVENTS
  events_few = omega (arith, events_count, h.few)

  -- room for the next
  abbrev pub event_room : (i : ℕ) {r : Bool} → r ≡ next EVENTS (get_or types 0 0) i → r ≡ true → EventRoom types
  event_room i e t = record { rows = h.rows; held = h.held; room = omega (arith, events_count, next_room EVENTS (get_or types 0 0) i (sym e ∙ t)) }

-- ACTIONS so far
pub record ActionHeld (kinds bodies : List ℕ) : Type 0 where
  pub rows : List Action
  pub held : ActionTables rows kinds bodies
  pub few : length rows ≤ ACTIONS

module _ {kinds bodies : List ℕ} (h : ActionHeld kinds bodies) where
  -- how many
  pub actions_count : get_or kinds 0 0 ≡ length h.rows
  actions_count = rw h.held.of (action_count h.rows)

  -- no more than there may be
  pub actions_few : get_or kinds 0 0 ≤ ACTIONS
  actions_few = omega (arith, actions_count, h.few)

  -- room for the next
  abbrev pub action_room : (i : ℕ) {r : Bool} → r ≡ next ACTIONS (get_or kinds 0 0) i → r ≡ true → ActionRoom kinds bodies
  action_room i e t = record { rows = h.rows; held = h.held; room = omega (arith, actions_count, next_room ACTIONS (get_or kinds 0 0) i (sym e ∙ t)) }

-- CHOICES so far
pub record ChoiceHeld (choices : List ℕ) (n : ℕ) : Type 0 where
  pub rows : List Choice
  pub held : choices ≡ choice_table rows
  pub count : length rows ≡ n

-- a choice is in range behind n others
abbrev pub choosable : ℕ → ℕ → ℕ → Bool
choosable n machine bits = ltb n CHOICES && ltb 0 machine && ltb machine SPENT && leb bits BITS

-- what that says
pub record Choosable (n machine bits : ℕ) : Type 0 where
  pub room : n < CHOICES
  pub live : 0 < machine
  pub small : machine < SPENT
  pub low : bits ≤ BITS

-- the test tells
pub choosable_is : (n machine bits : ℕ) → Tells (choosable n machine bits) (Choosable n machine bits)
choosable_is n machine bits =
    form (both (both (both (less n CHOICES) (less 0 machine)) (less machine SPENT)) (at_most_lem bits BITS))
    (λ p. record { room = p.0.0.0; live = p.0.0.1; small = p.0.1; low = p.1 })
    (λ q. (((q.room, q.live), q.small), q.low))

-- and of the cut numbers it tells the same
choosable_cut : (n machine bits : ℕ) → choosable n (min machine CAP) (min bits CAP) ≡ choosable n machine bits
choosable_cut n machine bits =
    agree (choosable n (min machine CAP) (min bits CAP)) (choosable n machine bits)
    (form (choosable_is n (min machine CAP) (min bits CAP))
    (λ q. record { room = q.room; live = omega (arith, q.live); small = omega (arith, q.small); low = omega (arith, q.low) })
    (λ q. record { room = q.room; live = omega (arith, q.live); small = omega (arith, q.small); low = omega (arith, q.low) }))
    (choosable_is n machine bits)

module _ {choices : List ℕ} {n : ℕ} (h : ChoiceHeld choices n) where
  -- what the code tests is what is asked of the line
  pub choice_told : (c : Choice) {j x y : ℕ} {r : Bool} → j ≡ c.machine → x ≡ min j CAP → y ≡ min c.bits CAP → r ≡ choosable n x y
      → r ≡ choosable (length h.rows) c.machine c.bits
  choice_told c a b d e = e ∙ rw (b, d, a, h.count) (choosable_cut n c.machine c.bits)

  -- room for the next
  abbrev pub choice_room : {x y : ℕ} → Choosable n x y → ChoiceRoom choices n
  choice_room q = record { rows = h.rows; held = h.held; count = h.count; room = q.room }

-- NUMBERS WRITTEN
-- in 8 bits
pub byte_written : {i j x r : ℕ} → j ≡ i → x ≡ min j CAP → r ≡ byte_of x → byte_of i ≡ r
byte_written {i} a b c = sym (c ∙ rw (b, a) (byte_kept i))

-- in 16 bits
pub word_written : {i j x r : ℕ} → j ≡ i → x ≡ min j CAP → r ≡ word_of x → word_of i ≡ r
word_written {i} a b c = sym (c ∙ rw (b, a) (word_kept i))

-- a machine and its bits that are in range are not cut
pub uncut : {i j x : ℕ} → j ≡ i → x ≡ min j CAP → x < SPENT → i ≡ x
uncut a b h = omega arith
