-- The engine's functions: two outcomes that meet a contract are equal, and so is all that was lent, on refusals too. Each contract is one of three forms, the
-- act of a machine, a dequeue, or a step of the definitions; and the lists of its own that a function says it over follow from them.
use Rattle.std.specs.Prelude.{ℕ, ◌≤◌, ◌<◌, ◌≡◌, refl, Bool, true, false, Some, None, List}
use Rattle.std.specs.Prelude as Prelude
use Rattle.std.proofs.Common.{ap, sym, ◌∙◌, ⊎_elim, ext_get_or}
use Rattle.std.proofs.Math.Option.{Option, none, some, none-ne-some}
use mathlib.Core.Bool.{true≢false}
use Rattle.rows.specs.Pad.{below?}
use Rattle.values.specs.declared.Value.{Value}
use Rattle.programs.specs.Program.{Stmt, new, send}
use Rattle.runs.specs.Outcome.{took, refused}
use Rattle.machines.specs.Config.{Reply, Pair, Local, Machine}
use Rattle.rules.specs.Act.{Act, alone, creates, deletes, sends, dequeues, refuses, does}
use Rattle.rules.specs.Step as definition
use Rattle.tables.specs.declared.Head.{Head}
use Rattle.tables.specs.declared.Head.TheVariants.{Skip, Assign, New, Delete, Send, Raise, Leave, Return, Assert, Seq, If, While}
use Rattle.tables.specs.Decode.{pairs_of}
use Rattle.configs.specs.declared.Flat.{Flat}
use Rattle.configs.specs.Flat.{flat}
use Rattle.engine.specs.Outcome.{Outcome}
use Rattle.engine.specs.Engine.{Acted, Dequeued, Performed}
use Rattle.statements.specs.Heading.{act_of, RowAsked, RowLeft, PendingLeft}
use Rattle.remaining.specs.Held.{with_row, with_pending}
use Rattle.storing.specs.Stores.{with_stored}
use Rattle.storing.specs.Storing.{StoredLeft}
use Rattle.pending.specs.Pending.{among, Here, Left}
use Rattle.dequeuing.specs.Dequeuing.{DequeueAsked, DequeueLeaves}
use Rattle.sending.specs.Sending.{with_sent}
use Rattle.sending.specs.Asked.{SendAsked, lists, Sent}
use Rattle.creating.specs.Asked.{NewAsked, Created}
use Rattle.beginnings.specs.Inits.{Written, InitsAsked, Begun, Given}
use Rattle.owning.specs.Owning.{OwnAsked, Owned, Left as OwnLeft}
use Rattle.unique.specs.Arrays.{held_one, changed_one}

-- THE ACT of a machine that touches nothing else
pub acted_one : (f : Flat) (k : ℕ) (m : Machine) (a : Act) (r s : Outcome) (g h : Flat) → Acted f k m a r g → Acted f k m a s h → (r ≡ s) × (g ≡ h)
acted_one f k m (alone R l) r s g h x y = (x.0 ∙ sym y.0, changed_one f g h k _ x.1 y.1)
acted_one f k m (refuses e) r s g h x y = (x.0 ∙ sym y.0, x.1 ∙ sym y.1)
acted_one f k m (creates n l) r s g h x y = absurd x
acted_one f k m deletes r s g h x y = absurd x
acted_one f k m (sends t z l) r s g h x y = absurd x
acted_one f k m dequeues r s g h x y = absurd x

-- DEQUEUE
pub dequeued_one : (f : Flat) (k : ℕ) (m : Machine) (t : Option (Local × List Pair)) (r s : Outcome) (g h : Flat) → Dequeued f k m t r g → Dequeued f k m t s h → (r ≡ s) × (g ≡ h)
dequeued_one f k m none r s g h x y = (x.0 ∙ sym y.0, x.1 ∙ sym y.1)
dequeued_one f k m (some t) r s g h x y = (x.0 ∙ sym y.0, changed_one f g h k _ x.1 y.1)

-- A STEP of the definitions: `dispatch::step_on`, `heads::head_on`
pub performed_one : (f : Flat) (o : definition.Outcome) (r s : Outcome) (g h : Flat) → Performed f o r g → Performed f o s h → (r ≡ s) × (g ≡ h)
performed_one f (took R c) r s g h x y = (x.0 ∙ sym y.0, held_one g h x.1.0 y.1.0 (x.1.1 ∙ sym y.1.1))
performed_one f (refused e) r s g h x y = (x.0 ∙ sym y.0, x.1 ∙ sym y.1)

-- THE RULES OF A HEAD
module _ {k : ℕ} {t : Stmt} {counts parts held : List ℕ} (a : RowAsked k t counts parts held) (w : ℕ) (r s : Outcome) where
  -- `statements`: skip_on, assert_on, if_on, while_on
  pub row_left_one : (c d p q : List ℕ) → RowLeft a w r c p → RowLeft a w s d q → (r ≡ s) × ((c ≡ d) × (p ≡ q))
  row_left_one c d p q x y =
      let e = acted_one a.f k a.m (act_of a.heading w) r s (with_row a.f c p) (with_row a.f d q) x y in
      (e.0, (ap (λ (f : Flat). f.counts) e.1, ap (λ (f : Flat). f.parts) e.1))

  -- `statements::leave_on`, `storing::return_on`
  pub pending_left_one : (c d p q h i : List ℕ) → PendingLeft a w r c p h → PendingLeft a w s d q i → (r ≡ s) × ((c ≡ d) × ((p ≡ q) × (h ≡ i)))
  pending_left_one c d p q h i x y =
      let e = acted_one a.f k a.m (act_of a.heading w) r s (with_pending a.f c p h) (with_pending a.f d q i) x y in
      (e.0, (ap (λ (f : Flat). f.counts) e.1, (ap (λ (f : Flat). f.parts) e.1, ap (λ (f : Flat). f.held) e.1)))

  -- `storing::assign_on`, `raising::raise_on`
  pub stored_left_one : (u v c d p q h i : List ℕ) → StoredLeft a w r u c p h → StoredLeft a w s v d q i → (r ≡ s) × ((u ≡ v) × ((c ≡ d) × ((p ≡ q) × (h ≡ i))))
  stored_left_one u v c d p q h i x y =
      let e = acted_one a.f k a.m (act_of a.heading w) r s (with_stored a.f u c p h) (with_stored a.f v d q i) x y in
      (e.0, (ap (λ (f : Flat). f.values) e.1, (ap (λ (f : Flat). f.counts) e.1, (ap (λ (f : Flat). f.parts) e.1, ap (λ (f : Flat). f.held) e.1))))

-- `owning::own_on`: by the head,
pub own_left_one : {stmts exprs places says types owners vartypes homes exits depths states maps values : List ℕ} {k w : ℕ} {counts parts held : List ℕ} (h : Head)
    (a : OwnAsked stmts exprs places says types owners vartypes homes exits depths states maps values k w h counts parts held) (r s : Outcome) (f g : Flat)
    → OwnLeft h a r f → OwnLeft h a s g → (r ≡ s) × (f ≡ g)
own_left_one {k = k} {w = w} Skip a r s f g x y = acted_one a.f k a.m (act_of a.heading w) r s f g x y
own_left_one {k = k} {w = w} (Assign z e) a r s f g x y = acted_one a.f k a.m (act_of a.heading w) r s f g x y
own_left_one (New z m i n) a r s f g x y = (x.0 ∙ sym y.0, x.1 ∙ sym y.1)
own_left_one Delete a r s f g x y = (x.0 ∙ sym y.0, x.1 ∙ sym y.1)
own_left_one (Send t e z) a r s f g x y = (x.0 ∙ sym y.0, x.1 ∙ sym y.1)
own_left_one {k = k} {w = w} (Raise e z) a r s f g x y = acted_one a.f k a.m (act_of a.heading w) r s f g x y
own_left_one {k = k} {w = w} Leave a r s f g x y = acted_one a.f k a.m (act_of a.heading w) r s f g x y
own_left_one {k = k} {w = w} Return a r s f g x y = acted_one a.f k a.m (act_of a.heading w) r s f g x y
own_left_one {k = k} {w = w} (Assert e) a r s f g x y = acted_one a.f k a.m (act_of a.heading w) r s f g x y
own_left_one {k = k} {w = w} (Seq z u) a r s f g x y = acted_one a.f k a.m (act_of a.heading w) r s f g x y
own_left_one {k = k} {w = w} (If e z u) a r s f g x y = acted_one a.f k a.m (act_of a.heading w) r s f g x y
own_left_one {k = k} {w = w} (While e z) a r s f g x y = acted_one a.f k a.m (act_of a.heading w) r s f g x y

-- and of the lists that it is lent whole, which are those of `old` but for the four
pub owned_one : {stmts exprs places says types owners vartypes homes exits depths states maps values : List ℕ} {k w : ℕ} {counts parts held : List ℕ} (h : Head)
    (a : OwnAsked stmts exprs places says types owners vartypes homes exits depths states maps values k w h counts parts held) (r s : Outcome) (old f g : Flat)
    → Owned a r f.values f.counts f.parts f.held → f ≡ with_stored old f.values f.counts f.parts f.held
    → Owned a s g.values g.counts g.parts g.held → g ≡ with_stored old g.values g.counts g.parts g.held → (r ≡ s) × (f ≡ g)
owned_one h a r s old f g x p y q =
    let e = own_left_one h a r s (with_stored a.f f.values f.counts f.parts f.held) (with_stored a.f g.values g.counts g.parts g.held) x y in
    (e.0, p ∙ ap (λ (z : Flat). with_stored old z.values z.counts z.parts z.held) e.1 ∙ sym q)

-- WHAT IS PENDING: `pending` (step_on, call_on, action_on, pop1_on, pop2_on), `pended::pend_on`
pub pend_left_one : {k : ℕ} {depths states maps counts parts held : List ℕ} (a : Here k depths states maps counts parts held) (act : Act) (r s : Outcome) (d e t u m n c b p q h i : List ℕ)
    → Left a act r d t m c p h → Left a act s e u n b q i → (r ≡ s) × ((d ≡ e) × ((t ≡ u) × ((m ≡ n) × ((c ≡ b) × ((p ≡ q) × (h ≡ i))))))
pend_left_one {k} {depths} {states} {maps} {counts} {parts} {held} a act r s d e t u m n c b p q h i x y =
    let z = acted_one (among a.others depths states maps counts parts held) k a.machine act r s (among a.others d t m c p h) (among a.others e u n b q i) x y in (
      z.0,
      (
        ap (λ (f : Flat). f.depths) z.1,
        (
          ap (λ (f : Flat). f.states) z.1,
          (ap (λ (f : Flat). f.maps) z.1, (ap (λ (f : Flat). f.counts) z.1, (ap (λ (f : Flat). f.parts) z.1, ap (λ (f : Flat). f.held) z.1))),
        ),
      ),
    )

-- `dequeuing::dequeue_on`
pub dequeue_one : (says stmts kinds exits flags : List ℕ) (k : ℕ) (depths states maps values counts parts held waiting pairs : List ℕ)
    (a : DequeueAsked says stmts kinds exits flags k depths states maps values counts parts held waiting pairs) (r s : Outcome) (u v c d p q h i w x y z : List ℕ)
    → DequeueLeaves says stmts kinds exits flags k depths states maps values counts parts held waiting pairs r u c p h w y
    → DequeueLeaves says stmts kinds exits flags k depths states maps values counts parts held waiting pairs s v d q i x z
    → (r ≡ s) × ((u ≡ v) × ((c ≡ d) × ((p ≡ q) × ((h ≡ i) × ((w ≡ x) × (y ≡ z))))))
dequeue_one says stmts kinds exits flags k depths states maps values counts parts held waiting pairs a r s u v c d p q h i w x y z m n =
    let e = dequeued_one (flat a.ids a.owners depths states maps values counts parts held waiting pairs a.next) k a.machine
    (definition.takes a.program a.machine.loc a.machine.loc.stack a.machine.queue) r s
    (flat a.ids a.owners depths states maps u c p h w y a.next) (flat a.ids a.owners depths states maps v d q i x z a.next) (m a) (n a) in (
      e.0,
      (
        ap (λ (f : Flat). f.values) e.1,
        (
          ap (λ (f : Flat). f.counts) e.1,
          (ap (λ (f : Flat). f.parts) e.1, (ap (λ (f : Flat). f.held) e.1, (ap (λ (f : Flat). f.waiting) e.1, ap (λ (f : Flat). f.pairs) e.1))),
        ),
      ),
    )

-- `sending::send_on`
pub send_one : {k t e a w : ℕ} {exprs places types ids values counts parts held waiting pairs : List ℕ} (q : SendAsked k t e a w exprs places types ids values counts parts held waiting pairs)
    (n : ℕ) (α : List Reply) (r s : Outcome) (c d p o x y u v : List ℕ) → Sent q n α r c p x u → Sent q n α s d o y v → (r ≡ s) × ((c ≡ d) × ((p ≡ o) × ((x ≡ y) × (u ≡ v))))
send_one {t = t} {e = e} {a = a} {w = w} q n α r s c d p o x y u v h i =
    let z = performed_one (lists q) (definition.perform q.p q.c q.m.this q.m (does q.p q.m.this q.m.loc w n α q.s q.r (send t e a))) r s
    (with_sent (lists q) c p x u) (with_sent (lists q) d o y v) h i in
    (z.0, (ap (λ (f : Flat). f.counts) z.1, (ap (λ (f : Flat). f.parts) z.1, (ap (λ (f : Flat). f.waiting) z.1, ap (λ (f : Flat). f.pairs) z.1))))

-- `creating::new_on`: all lists, and the next number, are among those of the flat lists
pub new_one : {k x m z n w : ℕ} {exprs places variables types stmts inits owners entries ids kinds depths tops values counts parts held : List ℕ} {next : ℕ}
    (q : NewAsked k x m z n w exprs places variables types stmts inits owners entries ids kinds depths tops values counts parts held next) (t : ℕ) (α : List Reply) (r s : Outcome)
    (ids' ids'' kinds' kinds'' depths' depths'' tops' tops'' values' values'' counts' counts'' parts' parts'' : List ℕ) (next' next'' : ℕ)
    → Created q t α r ids' kinds' depths' tops' values' counts' parts' next' → Created q t α s ids'' kinds'' depths'' tops'' values'' counts'' parts'' next''
    → (r ≡ s)
    × (flat ids' kinds' depths' tops' q.maps values' counts' parts' held q.waiting q.pairs next'
    ≡ flat ids'' kinds'' depths'' tops'' q.maps values'' counts'' parts'' held q.waiting q.pairs next'')
new_one {x = x} {m = m} {z = z} {n = n} {w = w} {inits = inits} {ids = ids} {kinds = kinds} {depths = depths} {tops = tops} {values = values} {counts = counts} {parts = parts} {held = held} {next = next}
    q t α r s ids' ids'' kinds' kinds'' depths' depths'' tops' tops'' values' values'' counts' counts'' parts' parts'' next' next'' h i =
    performed_one (flat ids kinds depths tops q.maps values counts parts held q.waiting q.pairs next)
    (definition.perform q.p q.c q.own.this q.own (does q.p q.own.this q.own.loc w t α q.s q.r (new x m (pairs_of inits z n)))) r s
    (flat ids' kinds' depths' tops' q.maps values' counts' parts' held q.waiting q.pairs next')
    (flat ids'' kinds'' depths'' tops'' q.maps values'' counts'' parts'' held q.waiting q.pairs next'') h i

-- the values of a creation, written
written_one : (vs : List Value) (out put : List ℕ) → Written vs out → Written vs put → out ≡ put
written_one vs out put h k = ext_get_or 0 out put (h.size ∙ sym k.size) (λ j b. ⊎_elim
    (λ (l : j < 16). h.values j l ∙ sym (k.values j l))
    (λ (l : 16 ≤ j). h.rest j l ∙ sym (k.rest j l))
    (below? j 16))

-- `beginnings::init_values`
pub inits_one : {k z n w : ℕ} {exprs places kinds types inits values out₀ : List ℕ} (q : InitsAsked k z n w exprs places kinds types inits values out₀) (r s : Bool) (out put : List ℕ)
    → Begun q r out → Begun q s put → (r ≡ s) × (out ≡ put)
inits_one q true true out put (vs, (e, (i, h))) (us, (f, (j, k))) = let x : vs ≡ us = cc in (refl, written_one us out put (rw x at h) k)
inits_one q true false out put (vs, (e, h)) k = absurd (none-ne-some _ (sym k.0 ∙ e))
inits_one q false true out put h (us, (f, k)) = absurd (none-ne-some _ (sym h.0 ∙ f))
inits_one q false false out put h k = (refl, h.1 ∙ sym k.1)

-- and as its answer says it: the values, or none
pub given_one : {k z n w : ℕ} {exprs places kinds types inits values out₀ : List ℕ} (q : InitsAsked k z n w exprs places kinds types inits values out₀) (r s : Prelude.Option (List ℕ)) → Given q r → Given q s → r ≡ s
given_one q (Some out) (Some put) h k = ap Some (inits_one q true true out put h k).1
given_one {out₀} q (Some out) None h k = absurd (true≢false (inits_one q true false out out₀ h k).0)
given_one {out₀} q None (Some put) h k = absurd (true≢false (sym (inits_one q false true out₀ put h k).0))
given_one q None None h k = refl
