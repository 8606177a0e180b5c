-- What the functions of src/lib.rt are asked, and that what they leave is what the definitions have for a send.
use Rattle.std.specs.Prelude.{ℕ, ◌+◌, ◌*◌, ◌/◌, ◌%◌, ◌^◌, ◌≤◌, ◌<◌, ◌≡◌, refl, Bool, true, false, not, List, [], ◌∷◌, eqb, get_or, drop, Ok, Err}
use Rattle.std.proofs.Common.{sym, ap, ◌∙◌, subst, arith, div-le_self, zero-add}
use Rattle.std.proofs.Math.Option.{Option, none, some}
use Rattle.lists.specs.Lists.{at, on_opt}
use Rattle.lists.specs.Facts.{first_has, second_has}
use Rattle.answers.specs.declared.Answer.{Answer}
use Rattle.answers.specs.declared.Answer.TheVariants.{QueueFull, SendToNotLive, WrongType}
use Rattle.values.specs.declared.Ty.{Ty}
use Rattle.values.specs.declared.Ty.TheVariants.{Void as void}
use Rattle.values.specs.declared.Live.{Live}
use Rattle.values.specs.declared.Value.{Value}
use Rattle.values.specs.declared.Value.TheVariants.{Id as vid}
use Rattle.values.specs.Values.{suits}
use Rattle.programs.specs.Program.{Program, send, stmt_at, event_type}
use Rattle.programs.specs.Trees.{tree, stars}
use Rattle.soundness.specs.Sound.{Sound}
use Rattle.machines.specs.Config.{Reply, Pair, Local, Machine, Config}
use Rattle.machines.specs.Eval.{eval}
use Rattle.machines.specs.Locals.{moves_on}
use Rattle.rules.specs.declared.Rule.TheVariants.{SEND}
use Rattle.rules.specs.Act.{Act, sends, refuses, on_target, fit, does}
use Rattle.rules.specs.Step as definition
use Rattle.acceptance.specs.Accepted.{ValueOk, PairOk}
use Rattle.codes.specs.Codes.{code_of, value_of}
use Rattle.tables.specs.Decode.{exprs_of, events_of}
use Rattle.index.specs.Index.{Places}
use Rattle.evaluation.specs.Evaluated.{REST, evaluated, Readable}
use Rattle.configs.specs.Encode.{pair_number}
use Rattle.configs.specs.declared.Flat.{Flat}
use Rattle.configs.specs.Flat.{flat}
use Rattle.parts.specs.Parts.{Any, tidied}
use Rattle.queues.specs.Queues.{Put}
use Rattle.queues.specs.Queues as queues
use Rattle.engine.specs.Outcome.{Outcome}
use Rattle.engine.specs.Engine.{Stands, Performed}
use Rattle.engine.specs.Holding.{RowBecomes}
use Rattle.remaining.specs.Remaining.{Headed}
use Rattle.remaining.specs.Held.{headed_there, remains_changed}
use Rattle.stored.specs.Stored.{readable, eval_ok, gives_code, gives_value, gives_rest}
use Rattle.rooms.specs.Places.{First}
use Rattle.rooms.specs.Standing.{Lives, lives_stands, lives_taken, lives_ok, next_is, found, not_found}
use Rattle.sending.specs.Heads.{head_refers}
use Rattle.sending.specs.Waiting.{queue_fine}
use Rattle.sending.specs.Sending.{with_sent, sent_not_live, sent_wrong, sent_full, sent_done}

-- THE HEAD OF THE MACHINE IN ROOM k IS `send t e a`: there are a sound program and a configuration, of which the lists that are lent are part
pub record SendAsked (k t e a w : ℕ) (exprs places types ids values counts parts held waiting pairs : List ℕ) : Type 0 where
  pub p : Program
  pub sound : Sound p
  pub exprs_are : p.exprs ≡ exprs_of exprs
  pub places_are : Places p places
  pub events_are : p.events ≡ events_of types
  pub kinds : List ℕ
  pub depths : List ℕ
  pub states : List ℕ
  pub maps : List ℕ
  pub next : ℕ
  pub c : Config
  pub m : Machine
  pub lives : Lives p (flat ids kinds depths states maps values counts parts held waiting pairs next) c k m
  pub s : ℕ
  pub r : List ℕ
  pub row : m.loc.row ≡ s ∷ r
  pub head : stmt_at p s ≡ send t e a
  pub bits : w < 256

-- machine i is the target, and these bits are left
pub record ToAsked (k i e a rest : ℕ) (exprs places types ids values counts parts held waiting pairs : List ℕ) : Type 0 where
  pub t : ℕ
  pub w : ℕ
  pub asked : SendAsked k t e a w exprs places types ids values counts parts held waiting pairs
  pub low : 1 ≤ i
  pub rest_is : rest ≡ w / 2 ^ stars (tree asked.p t)

-- what is sent: none where the payload does not suit
abbrev pub payload : Program → ℕ → Local → ℕ → ℕ → ℕ → ℕ → Option Pair
payload p i l w t e a = on_opt (fit (event_type p e) (eval p i l w (stars (tree p t)) a)) none (λ v. some (record { event = e; value = v }))

module _ {k t e a w : ℕ} {exprs places types ids values counts parts held waiting pairs : List ℕ} (q : SendAsked k t e a w exprs places types ids values counts parts held waiting pairs) where
  -- the flat lists
  abbrev pub lists : Flat
  lists = flat ids q.kinds q.depths q.states q.maps values counts parts held waiting pairs q.next

  -- WHAT A SEND LEAVES, where the top of the stack is (n, α)
  abbrev pub Sent : ℕ → List Reply → Outcome → List ℕ → List ℕ → List ℕ → List ℕ → Type 0
  Sent n α r counts' parts' waiting' pairs' =
      Performed lists (definition.perform q.p q.c q.m.this q.m (does q.p q.m.this q.m.loc w n α q.s q.r (send t e a))) r
      (with_sent lists counts' parts' waiting' pairs')

  -- what a send to machine i leaves
  abbrev pub To : ℕ → Outcome → List ℕ → List ℕ → List ℕ → List ℕ → Type 0
  To i r counts' parts' waiting' pairs' =
      Performed lists (definition.perform q.p q.c q.m.this q.m (sends i (payload q.p q.m.this q.m.loc w t e a) (moves_on q.p q.r q.m.loc))) r
      (with_sent lists counts' parts' waiting' pairs')

  -- the machine stands
  stands : Stands q.p lists k q.m
  stands = lives_stands q.p lists q.c k q.m q.lives

  -- evaluation can read its values
  pub send_readable : Readable places values (k * 19)
  send_readable = readable q.p lists k q.m q.sound stands places q.places_are

  -- its row has a head
  pub send_headed : Headed k counts parts
  send_headed = headed_there q.p lists k q.m q.sound stands q.s q.r q.row

  -- THE TARGET
  -- what it evaluates to
  target_is : value_of (evaluated exprs places values (k * 19) t w % REST) ≡ eval q.p q.m.this q.m.loc w 0 t
  target_is = gives_value q.p lists k q.m q.sound stands exprs places q.exprs_are q.places_are q.s q.r q.row t (rw q.head (first_has t (a ∷ []))) w 0 w (omega arith)

  module _ (u : ℕ) (v : Value) (gave : u ≡ evaluated exprs places values (k * 19) t w) (read : v ≡ value_of (u % REST)) where
    -- the target is v
    target : eval q.p q.m.this q.m.loc w 0 t ≡ v
    target = sym target_is ∙ sym (ap (λ (x : ℕ). value_of (x % REST)) gave) ∙ sym read

    -- it is no id: refused
    pub send_refused : (n : ℕ) (α : List Reply) (x : Answer) → ((f : ℕ → Act) → on_target v f ≡ refuses x) → Sent n α (Err x) counts parts waiting pairs
    send_refused n α x h = rw (target, h (λ i. sends i (payload q.p q.m.this q.m.loc w t e a) (moves_on q.p q.r q.m.loc))) (refl, refl)

    module _ (i : Live) (id : v ≡ vid i) where
      -- it is machine i: what is asked of the rest,
      pub send_to : ToAsked k i.0 e a (u / REST) exprs places types ids values counts parts held waiting pairs
      send_to = record {
        t = t;
        w = w;
        asked = q;
        low = (subst (ValueOk q.p q.next) (target ∙ id) (eval_ok q.p lists k q.m q.sound stands w 0 t)).0;
        rest_is = ap (λ (x : ℕ). x / REST) gave
            ∙ gives_rest q.p lists k q.m q.sound stands exprs places q.exprs_are q.places_are q.s q.r q.row t (rw q.head (first_has t (a ∷ []))) w 0 w (omega arith)
            ∙ ap (λ (j : ℕ). w / 2 ^ j) (zero-add (stars (tree q.p t)));
      }

-- THE SEND TO MACHINE i
module _ {k i e a rest : ℕ} {exprs places types ids values counts parts held waiting pairs : List ℕ} (q : ToAsked k i e a rest exprs places types ids values counts parts held waiting pairs) where
  -- what it leaves
  abbrev pub SentTo : Outcome → List ℕ → List ℕ → List ℕ → List ℕ → Type 0
  SentTo r counts' parts' waiting' pairs' = To q.asked i r counts' parts' waiting' pairs'

  -- the program
  abbrev p : Program
  p = q.asked.p

  -- the sender
  abbrev m : Machine
  m = q.asked.m

  -- the flat lists
  abbrev f : Flat
  f = lists q.asked

  -- the bits that are left are bits
  pub rest_bits : rest < 256
  rest_bits = omega (arith, q.rest_is, div-le_self q.w (2 ^ stars (tree p q.t)), q.asked.bits)

  -- the value of the payload
  abbrev sent_value : Value
  sent_value = eval p m.this m.loc q.w (stars (tree p q.t)) a

  module _ (to : ℕ) (first : First ids i to) where
    -- 12
    pub to_not_live : to ≡ 32 → SentTo (Err SendToNotLive) counts parts waiting pairs
    to_not_live h = sent_not_live p q.asked.sound f q.asked.c k m q.asked.lives i (payload p m.this m.loc q.w q.t e a) (moves_on p q.asked.r m.loc)
        (not_found p f q.asked.c q.asked.lives.sized q.asked.lives.holds q.asked.lives.accepted i to q.low first (omega arith))

    module _ (live : to ≡ 32 → ⊥) where
      -- the target
      target_found : (n : Machine) × (Lives p f q.asked.c to n × (n.this ≡ i))
      target_found = found p f q.asked.c q.asked.lives.sized q.asked.lives.holds q.asked.lives.accepted i to q.low first (omega (arith, first.inside, live))

      -- its queue can be put to
      pub to_ready : queues.QueueOk pairs waiting to
      to_ready = let n = target_found in
          queue_fine f to n.0 n.1.0.sized n.1.0.room (lives_taken p f q.asked.c to n.0 n.1.0) (lives_ok p f q.asked.c to n.0 n.1.0).queue_ok.size

      module _ (u : ℕ) (gave : u ≡ evaluated exprs places values (k * 19) a rest) where
        -- the payload's number
        number : u % REST ≡ code_of sent_value
        number = ap (λ (n : ℕ). n % REST) gave ∙ gives_code p f k m q.asked.sound (stands q.asked) exprs places q.asked.exprs_are q.asked.places_are q.asked.s q.asked.r q.asked.row a
            (rw q.asked.head (second_has q.t a [])) q.w (stars (tree p q.t)) rest q.rest_is

        -- its value
        worth : value_of (u % REST) ≡ sent_value
        worth = ap (λ (n : ℕ). value_of (n % REST)) gave ∙ gives_value p f k m q.asked.sound (stands q.asked) exprs places q.asked.exprs_are q.asked.places_are q.asked.s q.asked.r q.asked.row a
            (rw q.asked.head (second_has q.t a [])) q.w (stars (tree p q.t)) rest q.rest_is

        -- the test
        tested : (b : Bool) → b ≡ suits (at void (events_of types) e) (value_of (u % REST)) → suits (event_type p e) sent_value ≡ b
        tested b h = ap (λ (l : List Ty). suits (at void l e) sent_value) q.asked.events_are ∙ ap (suits (at void (events_of types) e)) (sym worth) ∙ sym h

        -- what is left of a send to the target's own number is left of one to i
        carry : (o : Option Pair) (r : Outcome) (g : Flat) → payload p m.this m.loc q.w q.t e a ≡ o
            → Performed f (definition.perform p q.asked.c m.this m (sends target_found.0.this o (moves_on p q.asked.r m.loc))) r g
            → Performed f (definition.perform p q.asked.c m.this m (sends i (payload p m.this m.loc q.w q.t e a) (moves_on p q.asked.r m.loc))) r g
        carry o r g h d = subst (λ x. Performed f (definition.perform p q.asked.c m.this m (sends i x (moves_on p q.asked.r m.loc))) r g) (sym h)
            (subst (λ j. Performed f (definition.perform p q.asked.c m.this m (sends j o (moves_on p q.asked.r m.loc))) r g) target_found.1.1 d)

        -- 15
        pub to_wrong : false ≡ suits (at void (events_of types) e) (value_of (u % REST)) → SentTo (Err WrongType) counts parts waiting pairs
        to_wrong h = carry none (Err WrongType) f (rw (tested false h))
            (sent_wrong p q.asked.sound f q.asked.c k m q.asked.lives to target_found.0 target_found.1.0 none (moves_on p q.asked.r m.loc) refl)

        module _ (z : ℕ) (made : z ≡ e * 1099511627776 + u % REST) (suited : true ≡ suits (at void (events_of types) e) (value_of (u % REST))) (waiting' pairs' : List ℕ) where
          -- the pair
          abbrev y : Pair
          y = record { event = e; value = sent_value }

          -- is what is sent;
          sent_is : payload p m.this m.loc q.w q.t e a ≡ some y
          sent_is = rw (tested true suited)

          -- its number is the one that is put;
          pair_number_lem : z ≡ pair_number y
          pair_number_lem = made ∙ ap (λ (n : ℕ). e * 1099511627776 + n) number

          -- it is accepted
          fine : PairOk p q.asked.c.next y
          fine = (
            head_refers p q.asked.next m.loc q.asked.s q.asked.r (send q.t e a) q.asked.sound (stands q.asked).ok.loc_ok q.asked.row q.asked.head,
            (
              subst (λ (n : ℕ). ValueOk p n sent_value) (next_is f q.asked.c q.asked.lives.holds) (eval_ok p f k m q.asked.sound (stands q.asked) q.w (stars (tree p q.t)) a),
              tested true suited,
            ),
          )

          -- 16
          pub to_full : Put pairs waiting to z false pairs' waiting' → SentTo (Err QueueFull) counts parts waiting' pairs'
          to_full h = carry (some y) (Err QueueFull) (with_sent f counts parts waiting' pairs') sent_is
              (sent_full p q.asked.sound f q.asked.c k m q.asked.lives to target_found.0 target_found.1.0 y fine (moves_on p q.asked.r m.loc) waiting' pairs'
              (subst (λ (n : ℕ). Put pairs waiting to n false pairs' waiting') pair_number_lem h))

          -- SENT
          pub to_done : (counts' parts' : List ℕ) (pending : Bool) → pending ≡ not (eqb (get_or held k 0) 0) → Put pairs waiting to z true pairs' waiting'
              → RowBecomes k counts parts Any (λ p r. tidied pending p (0 ∷ drop 1 r)) counts' parts' → SentTo (Ok SEND) counts' parts' waiting' pairs'
          to_done counts' parts' pending pends h row = carry (some y) (Ok SEND) (with_sent f counts' parts' waiting' pairs') sent_is
              (sent_done p q.asked.sound f q.asked.c k m q.asked.lives to target_found.0 target_found.1.0 y fine (moves_on p q.asked.r m.loc) waiting' pairs' counts' parts'
              (remains_changed p f k m q.asked.sound (stands q.asked) {Of = Any} (λ p r. 0 ∷ drop 1 r) pending pends row tt (0 ∷ q.asked.r) (rw q.asked.row))
              (subst (λ (n : ℕ). Put pairs waiting to n true pairs' waiting') pair_number_lem h))

-- WHAT A SEND LEAVES, where the target is machine i: what the send to it leaves
pub send_sent : {k t e a w : ℕ} {exprs places types ids values counts parts held waiting pairs : List ℕ} (q : SendAsked k t e a w exprs places types ids values counts parts held waiting pairs)
    (u : ℕ) (v : Value) (gave : u ≡ evaluated exprs places values (k * 19) t w) (read : v ≡ value_of (u % REST)) (i : Live) (id : v ≡ vid i)
    (n : ℕ) (α : List Reply) (r : Outcome) (counts' parts' waiting' pairs' : List ℕ)
    → SentTo (send_to q u v gave read i id) r counts' parts' waiting' pairs' → Sent q n α r counts' parts' waiting' pairs'
unfolding send_to
send_sent q u v gave read i id n α r counts' parts' waiting' pairs' h = rw (target q u v gave read, id) h
