-- What the loader's arrays of states and flags hold while it reads: the tables of the lines so far. Where the next line is in range there is room for it.
use Rattle.std.specs.Prelude.{ℕ, ◌+◌, ◌*◌, ◌≤◌, ◌<◌, min, ◌≡◌, refl, Bool, true, false, cond, List, [], ◌∷◌, ◌++◌, get_or, replicate}
use Rattle.std.proofs.Common.{ap, sym, ◌∙◌, arith, length-append}
use Rattle.std.proofs.Math.ListN.{length, get_or-eq_default}
use Rattle.std.proofs.lemmas.List.{length-replicate}
use Rattle.lists.specs.Lists.{is_some, all, there, flat}
use Rattle.rows.specs.Pad.{pad_get}
use Rattle.rows.specs.Part.{put}
use Rattle.rows.specs.Seek.{table}
use Rattle.programs.specs.Sizes.{EVENTS, STATES}
use Rattle.programs.specs.Program.{State}
use Rattle.texts.specs.Numbers.{numbers}
use Rattle.texts.specs.Forms.{state_line}
use Rattle.texts.specs.Reading.{next}
use Rattle.tabled.specs.Tabled.{byte_of, deferrable, state_kind, flag_row, defer_table}
use Rattle.numerals.specs.Numerals.{CAP}
use Rattle.spoken.specs.Spoken.{value_at, number_at, list_at, line_at}
use Rattle.spoken.specs.Counted.{next_told, next_room}
use Rattle.putting.specs.Asked.{StateTables, StateRoom}
use Rattle.putting.specs.Counts.{state_count, flag_rows, defer_length}
use Rattle.putting.specs.Flags.{flags_put, flags_none, zeros_absent}
use Rattle.listings.specs.Listings.{list_of}
use Rattle.listed.specs.Flags.{Flaggable, flag_of}
use Rattle.taking_states.specs.Lines.{state_at, state_says}

-- the arrays are the tables of the states ns, with their flags
pub record FlaggedTables (ns : List State) (homes entries exits flags : List ℕ) : Type 0 where
  pub states : StateTables ns homes entries exits
  pub defers : flags ≡ defer_table ns

-- STATES so far
pub record StateHeld (homes entries exits flags : List ℕ) : Type 0 where
  pub rows : List State
  pub held : FlaggedTables rows homes entries exits flags
  pub few : length rows ≤ STATES

-- room for the state at the places
pub record LineRoom (s places homes entries exits flags : List ℕ) : Type 0 where
  pub rows : List State
  pub held : FlaggedTables rows homes entries exits flags
  pub room : length rows < STATES
  pub listed : is_some (numbers (value_at s places 2)) ≡ true

-- room for the flags of state n, whose deferred events the bytes d say; `can` where each can be one of a program's
pub record FlagRoom (d : List ℕ) (can : Bool) (flags : List ℕ) (n : ℕ) : Type 0 where
  pub rows : List State
  pub held : flags ≡ defer_table rows
  pub last : n ≡ length rows + 1
  pub room : n ≤ STATES
  pub listed : is_some (numbers d) ≡ true
  pub told : can ≡ all (there EVENTS) (list_of d)

module _ {homes entries exits flags : List ℕ} (h : StateHeld homes entries exits flags) where
  -- how many
  pub states_count : get_or homes 0 0 ≡ length h.rows
  states_count = rw h.held.states.of (state_count h.rows)

  -- how many, at most
  pub states_few : get_or homes 0 0 ≤ STATES
  states_few = omega (arith, states_count, h.few)

  -- room for the next
  abbrev pub line_room : (s places : List ℕ) (i : ℕ) → next STATES (get_or homes 0 0) i ≡ true → is_some (numbers (value_at s places 2)) ≡ true → LineRoom s places homes entries exits flags
  line_room s places i e l = record { rows = h.rows; held = h.held; room = omega (arith, states_count, next_room STATES (get_or homes 0 0) i e); listed = l }

  -- the test of the code; x is the line's own number as the code has it
  pub state_next : (s places : List ℕ) {i x : ℕ} {t : State} → line_at s places 37 ≡ state_line i t → x ≡ min (number_at s places 0) CAP
      → next STATES (get_or homes 0 0) x ≡ next STATES (length h.rows) i
  state_next s places q c = next_told STATES (omega arith) states_count (state_says s places q).0 c refl

-- THE LINE
module _ {s places homes entries exits flags : List ℕ} (h : LineRoom s places homes entries exits flags) where
  -- how many before it
  pub before_count : get_or homes 0 0 ≡ length h.rows
  before_count = rw h.held.states.of (state_count h.rows)

  -- there is a place for it
  pub before_few : get_or homes 0 0 < STATES
  before_few = omega (arith, before_count, h.room)

  -- room for its row
  abbrev pub row_room : StateRoom homes entries exits
  row_room = record { rows = h.rows; held = h.held.states; room = h.room }

  -- room for its flags, where its number is n
  abbrev pub flag_room_at : {can : Bool} {n : ℕ} → n ≡ get_or homes 0 0 + 1 → can ≡ all (there EVENTS) (list_at s places 2) → FlagRoom (value_at s places 2) can flags n
  flag_room_at q e = record { rows = h.rows; held = h.held.defers; last = omega (arith, q, before_count); room = omega (arith, q, before_few); listed = h.listed; told = e }

  -- at the number that it has
  abbrev pub flag_room : {can : Bool} → can ≡ all (there EVENTS) (list_at s places 2) → FlagRoom (value_at s places 2) can flags (get_or homes 0 0 + 1)
  flag_room e = flag_room_at refl e

  -- its kind
  pub kind_told : {can : Bool} {k : ℕ} → can ≡ all (there EVENTS) (list_at s places 2) → k ≡ cond can (byte_of (number_at s places 1)) 255 → state_kind (state_at s places) ≡ k
  kind_told e k = rw (k, e)

-- THE FLAGS
module _ {d : List ℕ} {can : Bool} {flags : List ℕ} {n : ℕ} (h : FlagRoom d can flags n) where
  -- none is set from the place of state n on
  none_set : (j : ℕ) → get_or flags (n * 65 + j) 0 ≡ 0
  unfolding defer_table
  none_set j =
      let l : length (replicate 65 0 ++ flat flag_row h.rows) ≤ n * 65 + j = simp (length-append, length-replicate) (omega (arith, h.last, flag_rows h.rows)) in
      rw h.held (pad_get 0 4225 (replicate 65 0 ++ flat flag_row h.rows) (n * 65 + j) ∙ get_or-eq_default (replicate 65 0 ++ flat flag_row h.rows) 0 l)

  -- they can be set
  pub flaggable : {l : List ℕ} → l ≡ d → can ≡ true → Flaggable l flags (n * 65)
  flaggable e c = rw e (record {
    listed = h.listed;
    small = sym h.told ∙ c;
    long = rw h.held (defer_length h.rows (omega (arith, h.last, h.room)));
    inside = omega (arith, h.room);
    zero = λ j l. none_set j;
  })

  module _ (t : State) (q : t.defer ≡ list_of d) where
    -- every event can be one
    can_told : can ≡ deferrable t
    can_told = h.told ∙ ap (all (there EVENTS)) (sym q)

    -- they are set
    pub flags_set : {l exit : List ℕ} → l ≡ d → can ≡ true → exit ≡ put (n * 65) (table (flag_of (list_of l)) 0 65) flags → exit ≡ defer_table (h.rows ++ t ∷ [])
    flags_set {l} e c p =
        let r : flag_row t ≡ table (flag_of (list_of l)) 0 65 = rw (← can_told, c, q, e) in
        p ∙ ap (λ x. put (n * 65) x flags) (sym r) ∙ ap (put (n * 65) (flag_row t)) h.held ∙ flags_put h.rows t n h.last h.room

    -- none is
    pub flags_unset : can ≡ false → flags ≡ defer_table (h.rows ++ t ∷ [])
    flags_unset c = h.held ∙ flags_none h.rows t n h.last h.room (zeros_absent t (sym can_told ∙ c))
