-- The heads whose rules touch only the machine itself: what their functions are asked, from what all of them are asked, and what is left.
use Rattle.std.specs.Prelude.{ℕ, ◌+◌, ◌-◌, ◌*◌, ◌≤◌, ◌<◌, ◌≡◌, refl, List, [], ◌∷◌, get_or, Err}
use Rattle.std.proofs.Common.{sym, ◌∙◌, subst, arith}
use Rattle.lists.specs.Facts.{has, first_has}
use Rattle.answers.specs.declared.Answer.TheVariants.{NotAccepted}
use Rattle.programs.specs.Program.{Program, assert, if, while}
use Rattle.programs.specs.Statements.{exprs_of}
use Rattle.machines.specs.Config.{Machine}
use Rattle.tables.specs.declared.Head.{Head}
use Rattle.tables.specs.declared.Head.TheVariants.{Skip, Assign, New, Delete, Send, Raise, Leave, Return, Assert, Seq, If, While}
use Rattle.tables.specs.declared.Program.{Program as Tables}
use Rattle.tables.specs.Decode as decode
use Rattle.index.specs.declared.Index.{Index}
use Rattle.index.specs.Index.{Says, Places}
use Rattle.maps.specs.Maps.{map_at}
use Rattle.configs.specs.declared.Flat.{Flat}
use Rattle.engine.specs.Outcome.{Outcome}
use Rattle.engine.specs.Engine.{Acted}
use Rattle.engine.specs.Holding.{StackHeld}
use Rattle.remaining.specs.Held.{with_row, with_pending}
use Rattle.stacks.specs.Stacks.{Deep, Framed, deep, framed, stack_held, top_state, top_map}
use Rattle.statements.specs.Heading.{Heading, act_of, RowAsked, PartAsked}
use Rattle.statements.specs.Conditions.{TestAsked, BranchAsked}
use Rattle.storing.specs.Stores.{with_stored, same_stored}
use Rattle.storing.specs.Storing.{AssignAsked, ReturnAsked}
use Rattle.raising.specs.Raising.{RaiseAsked}

-- WHAT IS LENT is a sound program's and a machine's whose head statement is h
pub record OwnAsked (stmts exprs places says types owners vartypes homes exits depths states maps values : List ℕ) (k w : ℕ) (h : Head) (counts parts held : List ℕ) : Type 0 where
  pub p : Program
  pub f : Flat
  pub m : Machine
  pub inits : List ℕ
  pub entries : List ℕ
  pub flags : List ℕ
  pub heading : Heading p f k m (decode.stmt_of inits h)
  pub stmts_are : p.stmts ≡ decode.stmts_of stmts inits
  pub exprs_are : p.exprs ≡ decode.exprs_of exprs
  pub events_are : p.events ≡ decode.events_of types
  pub variables_are : p.variables ≡ decode.variables_of owners vartypes
  pub states_are : p.states ≡ decode.states_of homes entries exits flags
  pub told : Says p says
  pub placed : Places p places
  pub depths_are : f.depths ≡ depths
  pub state_rows_are : f.states ≡ states
  pub maps_are : f.maps ≡ maps
  pub values_are : f.values ≡ values
  pub counts_are : f.counts ≡ counts
  pub parts_are : f.parts ≡ parts
  pub held_are : f.held ≡ held
  pub bits : w < 256

-- the same of the program, what is looked up of it, and the configuration, each lent whole
abbrev pub OwnAskedOf : Tables → Index → Flat → ℕ → ℕ → Head → Type 0
OwnAskedOf q x f k w h = OwnAsked q.stmts q.exprs x.places x.says q.event_types q.variable_of q.variable_type q.state_of q.state_exit f.depths f.states f.maps f.values k w h f.counts f.parts f.held

module _ {stmts exprs places says types owners vartypes homes exits depths states maps values : List ℕ} {k w : ℕ} {h : Head} {counts parts held : List ℕ}
    (a : OwnAsked stmts exprs places says types owners vartypes homes exits depths states maps values k w h counts parts held) where
  -- the act of the head
  abbrev pub LeftBy : Outcome → Flat → Type 0
  LeftBy r g = Acted a.f k a.m (act_of a.heading w) r g

  -- refused, as no statement of a row is
  abbrev pub LeftAlone : Outcome → Flat → Type 0
  LeftAlone r g = (r ≡ Err NotAccepted) × (g ≡ a.f)

-- WHAT IS LEFT, by the head: three heads are others'
abbrev pub Left : {stmts exprs places says types owners vartypes homes exits depths states maps values : List ℕ} {k w : ℕ} {counts parts held : List ℕ} (h : Head)
    → OwnAsked stmts exprs places says types owners vartypes homes exits depths states maps values k w h counts parts held → Outcome → Flat → Type 0
Left Skip a r g = LeftBy a r g
Left (Assign x e) a r g = LeftBy a r g
Left (New x m i n) a r g = LeftAlone a r g
Left Delete a r g = LeftAlone a r g
Left (Send t e x) a r g = LeftAlone a r g
Left (Raise e x) a r g = LeftBy a r g
Left Leave a r g = LeftBy a r g
Left Return a r g = LeftBy a r g
Left (Assert e) a r g = LeftBy a r g
Left (Seq x y) a r g = LeftBy a r g
Left (If e x y) a r g = LeftBy a r g
Left (While e x) a r g = LeftBy a r g

-- the lists at the end
abbrev pub Owned : {stmts exprs places says types owners vartypes homes exits depths states maps values : List ℕ} {k w : ℕ} {h : Head} {counts parts held : List ℕ}
    → OwnAsked stmts exprs places says types owners vartypes homes exits depths states maps values k w h counts parts held → Outcome → List ℕ → List ℕ → List ℕ → List ℕ → Type 0
Owned {h = h} a r values counts parts held = Left h a r (with_stored a.f values counts parts held)

-- the lists as they were, or with another row, or with something else pending
module _ {stmts exprs places says types owners vartypes homes exits depths states maps values : List ℕ} {k w : ℕ} {h : Head} {counts parts held : List ℕ}
    (a : OwnAsked stmts exprs places says types owners vartypes homes exits depths states maps values k w h counts parts held) where
  pub same_lists : with_stored a.f values counts parts held ≡ a.f
  same_lists = same_stored a.f a.values_are a.counts_are a.parts_are a.held_are

  pub row_lists : (counts' parts' : List ℕ) → with_row a.f counts' parts' ≡ with_stored a.f values counts' parts' held
  row_lists counts' parts' = λ i. with_stored a.f (a.values_are i) counts' parts' (a.held_are i)

  pub pending_lists : (counts' parts' held' : List ℕ) → with_pending a.f counts' parts' held' ≡ with_stored a.f values counts' parts' held'
  pending_lists counts' parts' held' = λ i. with_stored a.f (a.values_are i) counts' parts' held'

  -- what a rule leaves that keeps the values and what is pending; that keeps the values; that is refused
  pub row_left : (r : Outcome) (counts' parts' : List ℕ) → Acted a.f k a.m (act_of a.heading w) r (with_row a.f counts' parts') → LeftBy a r (with_stored a.f values counts' parts' held)
  row_left r counts' parts' d = subst (LeftBy a r) (row_lists counts' parts') d

  pub pending_left : (r : Outcome) (counts' parts' held' : List ℕ) → Acted a.f k a.m (act_of a.heading w) r (with_pending a.f counts' parts' held')
      → LeftBy a r (with_stored a.f values counts' parts' held')
  pending_left r counts' parts' held' d = subst (LeftBy a r) (pending_lists counts' parts' held') d

  pub alone_left : LeftAlone a (Err NotAccepted) (with_stored a.f values counts parts held)
  alone_left = (refl, same_lists)

  -- WHAT THE FUNCTIONS ARE ASKED
  abbrev pub own_row : RowAsked k (decode.stmt_of a.inits h) counts parts held
  own_row = record { p = a.p; f = a.f; m = a.m; heading = a.heading; counts_are = a.counts_are; parts_are = a.parts_are; held_are = a.held_are }

  abbrev pub own_part : PartAsked stmts k (decode.stmt_of a.inits h) counts parts held
  own_part = record { row = own_row; inits = a.inits; stmts_are = a.stmts_are }

  abbrev pub own_test : (e : ℕ) → has e (exprs_of (decode.stmt_of a.inits h)) → TestAsked exprs places values k (decode.stmt_of a.inits h) e w counts parts held
  own_test e q = record { row = own_row; exprs_are = a.exprs_are; here = a.placed; values_are = a.values_are; of = q; bits = a.bits }

  abbrev pub own_branch : (e : ℕ) → has e (exprs_of (decode.stmt_of a.inits h)) → BranchAsked stmts exprs places values k (decode.stmt_of a.inits h) e w counts parts held
  own_branch e q = record { test = own_test e q; inits = a.inits; stmts_are = a.stmts_are }

  -- WHERE THE TOP OF THE STACK STANDS
  stacked : StackHeld k depths states maps (a.heading.top ∷ a.heading.below)
  stacked = rw (← a.heading.stack, ← a.depths_are, ← a.state_rows_are, ← a.maps_are)
      (stack_held a.f k a.m a.heading.stands.holds a.heading.stands.sized a.heading.stands.room)

  framed_top : Framed a.p (a.heading.top ∷ a.heading.below)
  framed_top = rw (← a.heading.stack) (framed a.p a.f.next a.m.loc a.heading.sound a.heading.stands.ok.loc_ok)

  pub own_deep : Deep k depths states maps
  own_deep = deep k depths states maps a.heading.top a.heading.below stacked

  pub own_state : get_or states (k * 8 + (get_or depths k 0 - 1)) 0 ≡ a.heading.top.state
  own_state = top_state k depths states maps a.heading.top a.heading.below stacked

  pub own_map : map_at a.p (k * 512 + (get_or depths k 0 - 1) * 64) maps ≡ a.heading.top.map
  own_map = top_map k depths states maps a.heading.top a.heading.below stacked a.p framed_top

  pub own_inside : k * 512 + (get_or depths k 0 - 1) * 64 + 64 ≤ 16384
  own_inside = omega (arith, own_deep.fits, own_deep.some, own_deep.room)

-- a head that is known
module _ {stmts exprs places says types owners vartypes homes exits depths states maps values : List ℕ} {k w : ℕ} {counts parts held : List ℕ} where
  abbrev pub own_assign : (x e : ℕ) (a : OwnAsked stmts exprs places says types owners vartypes homes exits depths states maps values k w (Assign x e) counts parts held)
      → AssignAsked exprs places owners vartypes values k x e w counts parts held
  own_assign x e a = record { test = own_test a e (first_has e []); variables_are = a.variables_are }

  abbrev pub own_assert : (e : ℕ) (a : OwnAsked stmts exprs places says types owners vartypes homes exits depths states maps values k w (Assert e) counts parts held)
      → TestAsked exprs places values k (assert e) e w counts parts held
  own_assert e a = own_test a e (first_has e [])

  abbrev pub own_if : (e x y : ℕ) (a : OwnAsked stmts exprs places says types owners vartypes homes exits depths states maps values k w (If e x y) counts parts held)
      → BranchAsked stmts exprs places values k (if e x y) e w counts parts held
  own_if e x y a = own_branch a e (first_has e [])

  abbrev pub own_while : (e x : ℕ) (a : OwnAsked stmts exprs places says types owners vartypes homes exits depths states maps values k w (While e x) counts parts held)
      → BranchAsked stmts exprs places values k (while e x) e w counts parts held
  own_while e x a = own_branch a e (first_has e [])

  abbrev pub own_return : (a : OwnAsked stmts exprs places says types owners vartypes homes exits depths states maps values k w Return counts parts held) (n : ℕ)
      → n ≡ get_or states (k * 8 + (get_or depths k 0 - 1)) 0 → ReturnAsked stmts homes exits k n counts parts held
  own_return a n q = record { part = own_part a; entries = a.entries; flags = a.flags; states_are = a.states_are; state_is = sym (q ∙ own_state a) }

  abbrev pub own_raise : (e x : ℕ) (a : OwnAsked stmts exprs places says types owners vartypes homes exits depths states maps values k w (Raise e x) counts parts held) (b n : ℕ)
      → b ≡ k * 512 + (get_or depths k 0 - 1) * 64 → n ≡ get_or states (k * 8 + (get_or depths k 0 - 1)) 0
      → RaiseAsked stmts exprs places says types homes exits maps values k b n e x w counts parts held
  own_raise e x a b n q r = record {
    test = own_test a x (first_has x []);
    inits = a.inits;
    stmts_are = a.stmts_are;
    events_are = a.events_are;
    told = a.told;
    entries = a.entries;
    flags = a.flags;
    states_are = a.states_are;
    state_is = sym (r ∙ own_state a);
    map_is = rw q (own_map a);
    inside = rw q (own_inside a);
  }

  -- what is left of a head is what is left of the same head by another name
  pub owned_at : {h t : Head} (e : h ≡ t) (r : Outcome) (values' counts' parts' held' : List ℕ)
      → ((a : OwnAsked stmts exprs places says types owners vartypes homes exits depths states maps values k w t counts parts held) → Owned a r values' counts' parts' held')
      → (a : OwnAsked stmts exprs places says types owners vartypes homes exits depths states maps values k w h counts parts held) → Owned a r values' counts' parts' held'
  owned_at e r values' counts' parts' held' left =
      subst (λ (t : Head). (a : OwnAsked stmts exprs places says types owners vartypes homes exits depths states maps values k w t counts parts held) → Owned a r values' counts' parts' held') (sym e) left
