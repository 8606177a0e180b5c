-- The head statement of a machine that stands in a room: what the function of its rule is asked of the lists that it is lent, and what it leaves.
use Rattle.std.specs.Prelude.{ℕ, ◌+◌, ◌-◌, ◌≤◌, ◌<◌, ◌≡◌, Bool, not, List, ◌∷◌, eqb, length, get_or, set}
use Rattle.std.proofs.Common.{ap, sym, ◌∙◌, arith}
use Rattle.lists.specs.Facts.{has}
use Rattle.programs.specs.Program.{Program, Stmt, stmt_at}
use Rattle.programs.specs.Statements.{parts as parts_of, height}
use Rattle.soundness.specs.Sound.{Sound}
use Rattle.soundness.specs.SoundFounded.{sound_founded}
use Rattle.machines.specs.Config.{Frame, Pending, Machine}
use Rattle.machines.specs.Locals.{remains}
use Rattle.machines.specs.Rooms.{set_local}
use Rattle.acceptance.specs.Accepted.{counted, Heights}
use Rattle.kept.specs.KeptRow.{height_part}
use Rattle.rules.specs.Act.{Act, does}
use Rattle.configs.specs.Encode.{held_code}
use Rattle.configs.specs.declared.Flat.{Flat}
use Rattle.tables.specs.Decode.{stmts_of}
use Rattle.parts.specs.Parts.{Said, tidied, awaits}
use Rattle.engine.specs.Outcome.{Outcome}
use Rattle.engine.specs.Engine.{Stands, Changed, Acted}
use Rattle.engine.specs.Holding.{RowBecomes}
use Rattle.remaining.specs.Remaining.{Standing, Headed, Placing, Dropping, standing}
use Rattle.remaining.specs.Held.{with_row, with_pending, count_is, row_there, headed_there, placing_there, dropping_there, remains_changed, remains_pends}

-- THE HEAD STATEMENT of the machine m in room k is t, at the top of its stack is the frame `top`
pub record Heading (p : Program) (f : Flat) (k : ℕ) (m : Machine) (t : Stmt) : Type 0 where
  pub sound : Sound p
  pub stands : Stands p f k m
  pub top : Frame
  pub below : List Frame
  pub stack : m.loc.stack ≡ top ∷ below
  pub s : ℕ
  pub r : List ℕ
  pub head : m.loc.row ≡ s ∷ r
  pub is : stmt_at p s ≡ t

-- what the definitions do with it, under the bits w
abbrev pub act_of : {p : Program} {f : Flat} {k : ℕ} {m : Machine} {t : Stmt} → Heading p f k m t → ℕ → Act
act_of {p = p} {m = m} {t = t} h w = does p m.this m.loc w h.top.state h.top.map h.s h.r t

-- WHAT EVERY RULE OF A HEAD IS ASKED: the lists that hold the row and what is pending are the machine's
pub record RowAsked (k : ℕ) (t : Stmt) (counts parts held : List ℕ) : Type 0 where
  pub p : Program
  pub f : Flat
  pub m : Machine
  pub heading : Heading p f k m t
  pub counts_are : f.counts ≡ counts
  pub parts_are : f.parts ≡ parts
  pub held_are : f.held ≡ held

-- and a rule after which the row may begin with another statement: the statements are the program's
pub record PartAsked (stmts : List ℕ) (k : ℕ) (t : Stmt) (counts parts held : List ℕ) : Type 0 where
  pub row : RowAsked k t counts parts held
  pub inits : List ℕ
  pub stmts_are : row.p.stmts ≡ stmts_of stmts inits

-- WHAT IS LEFT by a rule that keeps what is pending
abbrev pub RowLeft : {k : ℕ} {t : Stmt} {counts parts held : List ℕ} → RowAsked k t counts parts held → ℕ → Outcome → List ℕ → List ℕ → Type 0
RowLeft {k = k} a w o counts parts = Acted a.f k a.m (act_of a.heading w) o (with_row a.f counts parts)

-- and by one that does not
abbrev pub PendingLeft : {k : ℕ} {t : Stmt} {counts parts held : List ℕ} → RowAsked k t counts parts held → ℕ → Outcome → List ℕ → List ℕ → List ℕ → Type 0
PendingLeft {k = k} a w o counts parts held = Acted a.f k a.m (act_of a.heading w) o (with_pending a.f counts parts held)

module _ {k : ℕ} {t : Stmt} {counts parts held : List ℕ} (a : RowAsked k t counts parts held) where
  -- the lists as they are
  pub row_same : with_row a.f counts parts ≡ a.f
  row_same = λ i. with_row a.f (sym a.counts_are i) (sym a.parts_are i)

  -- the room is one of 32
  pub room_32 : k < 32
  room_32 = a.heading.stands.room

  -- WHAT THE ROW'S FUNCTIONS ARE ASKED
  pub asked_standing : Standing k counts parts
  asked_standing = rw (← a.counts_are, ← a.parts_are) (standing (row_there a.p a.f k a.m a.heading.sound a.heading.stands))

  pub asked_headed : Headed k counts parts
  asked_headed = rw (← a.counts_are, ← a.parts_are) (headed_there a.p a.f k a.m a.heading.sound a.heading.stands a.heading.s a.heading.r a.heading.head)

  -- as many parts as are behind the head, and one
  pub asked_count : get_or counts k 0 ≡ length a.heading.r + 1
  asked_count = rw (← a.counts_are) (count_is a.f k a.m a.heading.stands.holds ∙ ap length a.heading.head ∙ omega arith)

  -- the head's height and what is behind it
  pub head_low : height a.p a.heading.s + length a.heading.r ≤ 33
  head_low = go a.m.loc.row a.heading.head a.heading.stands.ok.loc_ok.row_ok.heights
    where
      go : (l : List ℕ) → l ≡ a.heading.s ∷ a.heading.r → Heights a.p (counted a.m.loc.pending) l → height a.p a.heading.s + length a.heading.r ≤ 33
      go l e h = omega (arith, (rw e at h).0)

  -- a part of the head is lower
  pub part_low : (x : ℕ) → has x (parts_of t) → height a.p x < height a.p a.heading.s
  part_low x h = height_part a.p (sound_founded a.p a.heading.sound) a.heading.s x (rw a.heading.is h)

  -- A ROW THAT KEEPS WHAT IS PENDING
  module _ {Of : Program → Type 0} (g : Program → List ℕ → List ℕ) {counts' parts' : List ℕ} (b : Bool) where
    pub row_kept : b ≡ not (eqb (get_or held k 0) 0) → RowBecomes k counts parts Of (λ p r. tidied b p (g p r)) counts' parts' → Of a.p
        → Changed a.f k (set_local (remains a.p (g a.p (a.heading.s ∷ a.heading.r)) a.m.loc.pending a.m.loc) a.m) (with_row a.f counts' parts')
    row_kept e c of = remains_changed a.p a.f k a.m a.heading.sound a.heading.stands {Of = Of} g b (rw a.held_are e)
        (rw (a.counts_are, a.parts_are) c) of _ (ap (g a.p) a.heading.head)

    -- ONE AFTER WHICH q IS PENDING
    pub row_then : (q : Pending) → b ≡ awaits q → RowBecomes k counts parts Of (λ p r. tidied b p (g p r)) counts' parts' → Of a.p
        → Changed a.f k (set_local (remains a.p (g a.p (a.heading.s ∷ a.heading.r)) q a.m.loc) a.m) (with_pending a.f counts' parts' (set held k (held_code q)))
    row_then q e c of = rw (← a.held_are) (remains_pends a.p a.f k a.m a.heading.sound a.heading.stands {Of = Of} g b q e
        (rw (a.counts_are, a.parts_are) c) of _ (ap (g a.p) a.heading.head))

module _ {stmts : List ℕ} {k : ℕ} {t : Stmt} {counts parts held : List ℕ} (a : PartAsked stmts k t counts parts held) where
  -- the statements are said
  pub asked_said : Said stmts a.row.p
  asked_said = record { inits = a.inits; same = a.stmts_are; founded = sound_founded a.row.p a.row.heading.sound }

  -- the one behind the head
  pub asked_dropping : Dropping stmts k counts parts
  asked_dropping = let r = a.row in
      rw (← r.counts_are, ← r.parts_are) (dropping_there r.p r.f k r.m r.heading.sound r.heading.stands stmts r.heading.s r.heading.r asked_said r.heading.head)

  -- statement x with j parts behind it
  pub asked_placing : (x j : ℕ) → height a.row.p x + j ≤ 33 → Placing stmts k counts parts x j
  asked_placing x j h = let r = a.row in
      rw (← r.counts_are, ← r.parts_are) (placing_there r.p r.f k r.m r.heading.sound r.heading.stands stmts x j asked_said h)

  -- a part of the head in its place,
  pub placing_part : (x : ℕ) → has x (parts_of t) → Placing stmts k counts parts x (get_or counts k 0 - 1)
  placing_part x h = asked_placing x (get_or counts k 0 - 1) (omega (arith, asked_count a.row, head_low a.row, part_low a.row x h))

  -- and before the head
  pub placing_before : (x : ℕ) → has x (parts_of t) → Placing stmts k counts parts x (get_or counts k 0)
  placing_before x h = asked_placing x (get_or counts k 0) (omega (arith, asked_count a.row, head_low a.row, part_low a.row x h))

  -- any statement alone
  pub placing_alone : (x : ℕ) → Placing stmts k counts parts x 0
  placing_alone x = asked_placing x 0 (omega (arith, asked_said.founded.low_enough x))
