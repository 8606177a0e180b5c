-- The rule of a head statement, by the statement: what its function is asked, and that what it leaves is what the definitions have.
use Rattle.std.specs.Prelude.{ℕ, ◌+◌, ◌-◌, ◌*◌, ◌≤◌, ◌≡◌, refl, Bool, true, false, List, length, get_or, Ok}
use Rattle.std.proofs.Common.{ap, sym, ◌∙◌, subst, true≢false, arith}
use Rattle.lists.specs.Lists.{at}
use Rattle.programs.specs.Program.{Program, Stmt, skip, new, delete, send, stmt_at}
use Rattle.machines.specs.Config.{Machine}
use Rattle.rules.specs.declared.Rule.TheVariants.{DELETE}
use Rattle.rules.specs.Act.{does}
use Rattle.rules.specs.Step as definition
use Rattle.tables.specs.declared.Head.{Head}
use Rattle.tables.specs.declared.Head.TheVariants.{Skip, Assign, New, Delete, Send, Raise, Leave, Return, Assert, Seq, If, While}
use Rattle.tables.specs.Decode.{head_at, stmt_of, pairs_of}
use Rattle.tables.specs.Tables.{stmt_head}
use Rattle.configs.specs.declared.Room.{Room}
use Rattle.configs.specs.Encode.{free}
use Rattle.configs.specs.declared.Flat.{Flat}
use Rattle.configs.specs.Flat.{Sized, flat, sized_next}
use Rattle.engine.specs.Outcome.{Outcome}
use Rattle.engine.specs.Engine.{Performed}
use Rattle.laying.specs.Laying.{Placed}
use Rattle.rooms.specs.Standing.{lives_taken, lives_stands, performed_own}
use Rattle.remaining.specs.Held.{row_33}
use Rattle.owning.specs.Owning.{OwnAsked, LeftBy, Left}
use Rattle.deleting.specs.Deleting.{performed_delete}
use Rattle.sending.specs.Asked.{SendAsked}
use Rattle.creating.specs.Asked.{NewAsked}
use Rattle.heads.specs.Asked.{HeadAsked}

-- a head whose rule touches only the machine itself
abbrev pub is_own : Head → Bool
is_own Skip = true
is_own (Assign x e) = true
is_own (New x m i n) = false
is_own Delete = false
is_own (Send t e x) = false
is_own (Raise e x) = true
is_own Leave = true
is_own Return = true
is_own (Assert e) = true
is_own (Seq x y) = true
is_own (If e x y) = true
is_own (While e x) = true

-- what is left of such a head is what its act leaves
pub left_own : {stmts exprs places says types owners vartypes homes exits depths states maps values : List ℕ} {k w : ℕ} {counts parts held : List ℕ} (h : Head)
    (a : OwnAsked stmts exprs places says types owners vartypes homes exits depths states maps values k w h counts parts held) (r : Outcome) (g : Flat) → is_own h ≡ true → Left h a r g → LeftBy a r g
left_own Skip a r g q d = d
left_own (Assign x e) a r g q d = d
left_own (New x m i n) a r g q d = absurd (true≢false (sym q))
left_own Delete a r g q d = absurd (true≢false (sym q))
left_own (Send t e x) a r g q d = absurd (true≢false (sym q))
left_own (Raise e x) a r g q d = d
left_own Leave a r g q d = d
left_own Return a r g q d = d
left_own (Assert e) a r g q d = d
left_own (Seq x y) a r g q d = d
left_own (If e x y) a r g q d = d
left_own (While e x) a r g q d = d

-- what is asked of the lists, and what a room's clearing leaves, does not depend on the next live number
pub sized_any : {ids kinds depths states maps values counts parts held waiting pairs : List ℕ} (i j : ℕ) → Sized (flat ids kinds depths states maps values counts parts held waiting pairs i)
    → Sized (flat ids kinds depths states maps values counts parts held waiting pairs j)
sized_any i j s = sized_next _ j s

pub placed_any : {ids kinds depths states maps values counts parts held waiting pairs ids' kinds' depths' states' maps' values' counts' parts' held' waiting' pairs' : List ℕ} (k i j : ℕ) (o : Room)
    → Placed (flat ids kinds depths states maps values counts parts held waiting pairs i) k o (flat ids' kinds' depths' states' maps' values' counts' parts' held' waiting' pairs' i)
    → Placed (flat ids kinds depths states maps values counts parts held waiting pairs j) k o (flat ids' kinds' depths' states' maps' values' counts' parts' held' waiting' pairs' j)
placed_any k i j o d = record { sized = sized_any i j d.sized; own = d.own; others = d.others }

module _ {exprs stmts inits types owners vartypes doers bodies homes entries exits defers says places : List ℕ} {f : Flat} {k w : ℕ}
    (a : HeadAsked exprs stmts inits types owners vartypes doers bodies homes entries exits defers says places f k w) where
  abbrev p : Program
  p = a.room.step.p

  abbrev m : Machine
  m = a.room.m

  -- the definitions' outcome of the head
  abbrev pub head_outcome : definition.Outcome
  head_outcome = definition.perform p a.room.step.c m.this m (does p m.this m.loc w a.room.top.state a.room.top.map a.s a.r (stmt_at p a.s))

  -- as it is by another name of the statement
  by_name : (t : Stmt) → stmt_at p a.s ≡ t → (r : Outcome) (g : Flat)
      → Performed f (definition.perform p a.room.step.c m.this m (does p m.this m.loc w a.room.top.state a.room.top.map a.s a.r t)) r g → Performed f head_outcome r g
  by_name t is r g d =
      subst (λ (u : Stmt). Performed f (definition.perform p a.room.step.c m.this m (does p m.this m.loc w a.room.top.state a.room.top.map a.s a.r u)) r g) (sym is) d

  -- THE HEAD as the tables have it: h, read at place s'
  pub head_is : (s' : ℕ) (h : Head) → s' ≡ get_or f.parts (k * 33 + (get_or f.counts k 0 - 1)) 0 → h ≡ head_at stmts s' → stmt_at p a.s ≡ stmt_of inits h
  head_is s' h q e = ap (λ l. at skip l a.s) a.room.step.tabled.stmts_are ∙ stmt_head stmts inits a.s ∙ ap (stmt_of inits) (ap (head_at stmts) (sym a.place ∙ sym q) ∙ sym e)

  -- the row has a head, and no more than 33 parts
  pub head_there : (1 ≤ get_or f.counts k 0) × (get_or f.counts k 0 ≤ 33)
  head_there =
      let n : get_or f.counts k 0 ≡ length m.loc.row = ap (λ (x : Room). x.count) (lives_taken p f a.room.step.c k m a.room.lives) in
      let few = row_33 p f k m a.room.step.tabled.sound (lives_stands p f a.room.step.c k m a.room.lives) in
      (omega (arith, n, ap length a.row), omega (arith, n, few))

  -- A HEAD OF THE MACHINE'S OWN
  module _ (h : Head) (is : stmt_at p a.s ≡ stmt_of inits h) where
    abbrev pub own_asked : OwnAsked stmts exprs places says types owners vartypes homes exits f.depths f.states f.maps f.values k w h f.counts f.parts f.held
    own_asked = record {
      p = p;
      f = f;
      m = m;
      inits = inits;
      entries = entries;
      flags = defers;
      heading = record {
        sound = a.room.step.tabled.sound;
        stands = lives_stands p f a.room.step.c k m a.room.lives;
        top = a.room.top;
        below = a.room.below;
        stack = a.room.stack;
        s = a.s;
        r = a.r;
        head = a.row;
        is = is;
      };
      stmts_are = a.room.step.tabled.stmts_are;
      exprs_are = a.room.step.tabled.exprs_are;
      events_are = a.room.step.tabled.events_are;
      variables_are = a.room.step.tabled.variables_are;
      states_are = a.room.step.tabled.states_are;
      told = a.room.step.tabled.told;
      placed = a.room.step.tabled.placed;
      depths_are = refl;
      state_rows_are = refl;
      maps_are = refl;
      values_are = refl;
      counts_are = refl;
      parts_are = refl;
      held_are = refl;
      bits = a.room.step.bits;
    }

    pub own_performed : (r : Outcome) (g : Flat) → is_own h ≡ true → Left h own_asked r g → Performed f head_outcome r g
    own_performed r g q d = by_name (stmt_of inits h) is r g (performed_own p f a.room.step.c k m a.room.lives r g
        (does p m.this m.loc w a.room.top.state a.room.top.map a.s a.r (stmt_of inits h)) (left_own h own_asked r g q d))

  -- DELETE
  pub delete_performed : (g : Flat) → stmt_at p a.s ≡ delete → Placed f k free g → g.next ≡ f.next → Performed f head_outcome (Ok DELETE) g
  delete_performed g is d n = by_name delete is (Ok DELETE) g (performed_delete p f a.room.step.c k m g a.room.lives d n)

  -- SEND
  module _ (t e x : ℕ) (is : stmt_at p a.s ≡ send t e x) where
    abbrev pub send_asked : SendAsked k t e x w exprs places types f.ids f.values f.counts f.parts f.held f.waiting f.pairs
    send_asked = record {
      p = p;
      sound = a.room.step.tabled.sound;
      exprs_are = a.room.step.tabled.exprs_are;
      places_are = a.room.step.tabled.placed;
      events_are = a.room.step.tabled.events_are;
      kinds = f.kinds;
      depths = f.depths;
      states = f.states;
      maps = f.maps;
      next = f.next;
      c = a.room.step.c;
      m = m;
      lives = a.room.lives;
      s = a.s;
      r = a.r;
      row = a.row;
      head = is;
      bits = a.room.step.bits;
    }

    pub send_performed : (r : Outcome) (g : Flat)
        → Performed f (definition.perform p a.room.step.c m.this m (does p m.this m.loc w a.room.top.state a.room.top.map a.s a.r (send t e x))) r g → Performed f head_outcome r g
    send_performed = by_name (send t e x) is

  -- NEW
  module _ (x κ z n : ℕ) (is : stmt_at p a.s ≡ new x κ (pairs_of inits z n)) where
    abbrev pub new_asked : NewAsked k x κ z n w exprs places owners vartypes stmts inits homes entries f.ids f.kinds f.depths f.states f.values f.counts f.parts f.held f.next
    new_asked = record {
      p = p;
      sound = a.room.step.tabled.sound;
      exprs_are = a.room.step.tabled.exprs_are;
      places_are = a.room.step.tabled.placed;
      variables_are = a.room.step.tabled.variables_are;
      stmts_are = a.room.step.tabled.stmts_are;
      exits = exits;
      flags = defers;
      states_are = a.room.step.tabled.states_are;
      maps = f.maps;
      waiting = f.waiting;
      pairs = f.pairs;
      c = a.room.step.c;
      own = m;
      lives = a.room.lives;
      s = a.s;
      r = a.r;
      row = a.row;
      head = is;
      bits = a.room.step.bits;
    }

    pub new_performed : (r : Outcome) (g : Flat)
        → Performed f (definition.perform p a.room.step.c m.this m (does p m.this m.loc w a.room.top.state a.room.top.map a.s a.r (new x κ (pairs_of inits z n)))) r g
        → Performed f head_outcome r g
    new_performed = by_name (new x κ (pairs_of inits z n)) is
