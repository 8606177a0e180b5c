-- Answer 7 as a table tells it: "an exit with raise, return or leave anywhere inside". The table has a mark at each statement that is not quiet.
use Rattle.std.specs.Borrow.{Bor}
use Rattle.std.specs.Prelude.{ℕ, suc, ◌+◌, ◌*◌, ◌≤◌, ◌<◌, ◌≡◌, Bool, false, cond, ◌&&◌, List, eqb, ltb, length, get_or, set, replicate}
use Rattle.std.proofs.Math.Path.{refl, ap, fun_ext}
use Rattle.std.proofs.Common.{sym, ◌∙◌, add-one, arith, lt-ltb, le-ltb, length-set, get_or-set_same, get_or-set_other}
use Rattle.std.proofs.Math.Bool.{true}
use Rattle.std.proofs.Math.Logic.{⊎_elim, dite}
use Rattle.std.proofs.Math.Decide.{ℕ_discrete}
use Rattle.std.proofs.Math.ListN.{get_or-eq_default}
use Rattle.lists.specs.Lists.{at, all, There}
use Rattle.lists.specs.Facts.{and_true}
use Rattle.lists.specs.Down.{below, downward, below_is}
use Rattle.std.proofs.lemmas.List.{length-replicate}
use Rattle.rows.specs.Pad.{below?, zeros_get}
use Rattle.programs.specs.Sizes.{KINDS, EVENTS, VARIABLES, EXPRS, STMTS, ACTIONS, STATES}
use Rattle.programs.specs.Program.{Program, State, skip, stmt_at}
use Rattle.tables.specs.declared.Program.{Program as Tables}
use Rattle.tables.specs.declared.Head.{Head}
use Rattle.tables.specs.declared.Head.TheVariants.{Skip, Assign, New, Delete, Send, Raise, Leave, Return, Assert, Seq, If, While}
use Rattle.tables.specs.Decode.{count, head_at, head_in, heads_of, stmt_of, exprs_of, actions_of, no_state, state_in, states_of, program_of}
use Rattle.tables.specs.Numbered.{at_row, at_past}
use Rattle.tables.specs.Tables.{stmt_head, exprs_length, stmts_length, actions_length, states_length}
use Rattle.soundness.specs.Asked.{is_quiet, quietly, quiet}
use Rattle.soundness.specs.Sound.{lines, first_fault}
use Rattle.faults.specs.Faults.{onward, row_fault}
use Rattle.faults.specs.First.{first_bad, table_bad}
use Rattle.faults.specs.Asking.{Fronted, fronted_program, front_is, states_fault_lem}
use Rattle.marks.specs.declared.Inner.{Inner}
use Rattle.marks.specs.declared.Inner.TheVariants.{Nothing, One, Two}
use Rattle.marks.specs.Marks.{Stated, stated_program}
use Rattle.marks.specs.Inner.{listed, head_parts, parts_in, parts_are}
use Rattle.marks.specs.Climbs.{Climbs, climbs_keep}
use Rattle.marks.specs.Tall.{below_past}

-- p is a program with these events, kinds, variables, expressions, statements, actions and states
pub record ToldStates (types : List ℕ) (kinds : ℕ) (variable_of exprs stmts action_of state_of exits : List ℕ) (p : Program) : Type 0 where
  pub fronted : Fronted types kinds variable_of p
  pub same_exprs : p.exprs ≡ exprs_of exprs
  pub stated : Stated stmts p
  pub bodies : List ℕ
  pub same_actions : p.actions ≡ actions_of action_of bodies
  pub entries : List ℕ
  pub flags : List ℕ
  pub same_states : p.states ≡ states_of state_of entries exits flags

-- so, by the code's tables
abbrev pub TellsStates : Program → Tables → Type 0
TellsStates p q = ToldStates q.event_types q.kinds q.variable_of q.exprs q.stmts q.action_of q.state_of q.state_exit p

-- LAW FOR CALLERS: so is the program that the tables are
pub told_states_program : (q : Tables) → TellsStates (program_of q) q
told_states_program q = record {
  fronted = fronted_program q;
  same_exprs = refl;
  stated = stated_program q;
  bodies = q.action_body;
  same_actions = refl;
  entries = q.state_entry;
  flags = q.defers;
  same_states = refl;
}

-- STATEMENTS
-- of a head: no raise, return or leave
abbrev pub quiet_head : Head → Bool
quiet_head Skip = true
quiet_head (Assign x e) = true
quiet_head (New x k i n) = true
quiet_head Delete = true
quiet_head (Send t e a) = true
quiet_head (Raise e a) = false
quiet_head Leave = false
quiet_head Return = false
quiet_head (Assert e) = true
quiet_head (Seq a b) = true
quiet_head (If e a b) = true
quiet_head (While e a) = true

-- an init list says nothing of it
head_quiet : (p : Program) (inits : List ℕ) (h : Head) → quiet_head h ≡ is_quiet p (stmt_of inits h)
head_quiet p inits Skip = refl
head_quiet p inits (Assign x e) = refl
head_quiet p inits (New x k i n) = refl
head_quiet p inits Delete = refl
head_quiet p inits (Send t e a) = refl
head_quiet p inits (Raise e a) = refl
head_quiet p inits Leave = refl
head_quiet p inits Return = refl
head_quiet p inits (Assert e) = refl
head_quiet p inits (Seq a b) = refl
head_quiet p inits (If e a b) = refl
head_quiet p inits (While e a) = refl

-- statement s is quiet, and so is all inside it; whatever is quiet, and holds what
unfoldable pub hushed : (ℕ → Bool) → (ℕ → List ℕ) → ℕ → Bool
hushed still kids s = downward true (λ f n. still n && all f (kids n)) s

-- of these statements
abbrev pub hushed_in : List ℕ → ℕ → Bool
hushed_in stmts s = hushed (λ n. quiet_head (head_at stmts n)) (parts_in stmts) s

-- what the table says of statement t, where t is lower than n; quiet where it is not
abbrev pub quiet_low : List ℕ → ℕ → ℕ → Bool
quiet_low loud n t = cond (ltb t n) (eqb (get_or loud t 0) 0) true

-- statement s is quiet, by what the table says of the lower ones
abbrev pub quiet_here : List ℕ → List ℕ → ℕ → Bool
quiet_here stmts loud s = quiet_head (head_at stmts s) && all (quiet_low loud s) (parts_in stmts s)

-- the program's
hushed_is : (stmts : List ℕ) (p : Program) → Stated stmts p → (s : ℕ) → hushed_in stmts s ≡ quietly p s
unfolding hushed quietly
hushed_is stmts p t s =
    let e : (n : ℕ) → quiet_head (head_at stmts n) ≡ is_quiet p (stmt_at p n) =
    λ n. head_quiet p t.inits (head_at stmts n) ∙ ap (is_quiet p) (sym (ap (λ l. at skip l n) t.same ∙ stmt_head stmts t.inits n)) in
    ap (λ still. hushed still (parts_in stmts) s) (fun_ext e) ∙ ap (λ kids. hushed (λ n. is_quiet p (stmt_at p n)) kids s) (fun_ext (parts_are stmts p t))

-- a statement past the last is quiet
hushed_past : (stmts : List ℕ) (s : ℕ) → count STMTS stmts < s → hushed_in stmts s ≡ true
unfolding hushed downward heads_of
hushed_past stmts s h = let e : head_at stmts s ≡ Skip = at_past (head_in stmts) Skip {e = s} refl h in rw e

-- THE TABLE: the statements below i have their marks, and the others none
pub record Hushing (stmts : List ℕ) (i : ℕ) (loud : List ℕ) : Type 0 where
  pub size : length loud ≡ 1025
  pub done : (m : ℕ) → m < i → eqb (get_or loud m 0) 0 ≡ hushed_in stmts m
  pub rest : (m : ℕ) → i ≤ m → get_or loud m 0 ≡ 0

-- before the first
pub quiet_first : (stmts loud : List ℕ) → length loud ≡ 1025 → ((m : ℕ) → get_or loud m 0 ≡ 0) → Hushing stmts 1 loud
unfolding hushed downward
quiet_first stmts loud e zeros = record {
  size = e;
  done = λ m h. let z : m ≡ 0 = omega arith in rw (z, zeros 0);
  rest = λ m h. zeros m;
}

module _ (stmts : List ℕ) (i : ℕ) (loud : List ℕ) (told : Hushing stmts i loud) (fits : i ≤ 1024) where
  -- what the table says of lower ones is what is said of them
  low_is : (t : ℕ) → quiet_low loud i t ≡ below true (λ f n. quiet_head (head_at stmts n) && all f (parts_in stmts n)) i t
  unfolding hushed
  low_is t = ⊎_elim
      (λ (h : t < i). rw (lt-ltb t i h, told.done t h) (sym (below_is true (λ f n. quiet_head (head_at stmts n) && all f (parts_in stmts n)) i t h)))
      (λ (h : i ≤ t). rw (le-ltb t i h) (sym (below_past true (λ f n. quiet_head (head_at stmts n) && all f (parts_in stmts n)) i t h)))
      (below? t i)

  -- so statement i's own
  here_is : quiet_here stmts loud i ≡ hushed_in stmts i
  unfolding hushed downward
  here_is = ap (λ f. quiet_head (head_at stmts i) && all f (parts_in stmts i)) (fun_ext low_is)

  -- the next statement: a mark where it is not quiet
  pub quiet_more : (y : ℕ) → eqb y 0 ≡ quiet_here stmts loud i → Hushing stmts (i + 1) (set loud i y)
  quiet_more y e = record {
    size = length-set loud i y ∙ told.size;
    done = λ m h. dite (ℕ_discrete m i)
        (λ q. rw (q, get_or-set_same loud i y 0 (omega (arith, told.size))) (e ∙ here_is))
        (λ q. rw (get_or-set_other loud i m y 0 q) (told.done m (omega arith)));
    rest = λ m h. get_or-set_other loud i m y 0 (λ q. omega arith) ∙ told.rest m (omega arith);
  }

-- so after n turns, where what is worked out for a statement is 0 exactly where it is quiet
pub quiet_up : (stmts : List ℕ) (said : Bor (List ℕ) → ℕ → ℕ → Type 0) → ((k : Bor (List ℕ)) (m y : ℕ) → said k m y → eqb y 0 ≡ quiet_here stmts k.now m) → (n : ℕ) → n ≤ 1024
    → (l : List ℕ) → Climbs said (replicate 1025 0) n l → Hushing stmts (n + 1) l
quiet_up stmts said told n fits l h = rw add-one (climbs_keep said (λ m k. Hushing stmts (suc m) k) (replicate 1025 0)
    (quiet_first stmts _ (length-replicate {A = ℕ} 1025 0) (zeros_get 0 1025)) n
    (λ m k y b c s. rw (← add-one) (quiet_more stmts (suc m) k.now c (omega arith) y (told k (suc m) y s))) l h)

-- all statements have their marks
pub record Loud (stmts loud : List ℕ) : Type 0 where
  pub size : length loud ≡ 1025
  pub quiet_at : (s : ℕ) → eqb (get_or loud s 0) 0 ≡ hushed_in stmts s

-- after the last
pub quiet_all : (stmts : List ℕ) (i : ℕ) (loud : List ℕ) → Hushing stmts i loud → count STMTS stmts < i → Loud stmts loud
quiet_all stmts i loud told h = record {
  size = told.size;
  quiet_at = λ s. ⊎_elim
      (λ (b : s < i). told.done s b)
      (λ (b : i ≤ s). rw (told.rest s b) (sym (hushed_past stmts s (omega arith))))
      (below? s i);
}

-- FOR THE CODE
-- nothing inside,
pub all_none : (f : ℕ → Bool) (i : Inner) → i ≡ Nothing → true ≡ all f (listed i)
all_none f i e = rw e

-- one part,
pub all_one : (f : ℕ → Bool) (i : Inner) (a : ℕ) (r : Bool) → i ≡ One a → r ≡ f a → r ≡ all f (listed i)
all_one f i a r e h = rw (e, h) (sym (and_true (f a) true refl))

-- two, the first of which is not quiet,
pub all_first : (f : ℕ → Bool) (i : Inner) (a b : ℕ) (r : Bool) → i ≡ Two a b → r ≡ f a → r ≡ false → false ≡ all f (listed i)
all_first f i a b r e h k = rw (e, ← h, k)

-- or is
pub all_second : (f : ℕ → Bool) (i : Inner) (a b : ℕ) (r s : Bool) → i ≡ Two a b → r ≡ f a → r ≡ true → s ≡ f b → s ≡ all f (listed i)
all_second f i a b r s e h k j = rw (e, ← h, k, j) (sym (and_true (f b) true refl))

-- a head and its parts, told
pub here_told : (stmts loud : List ℕ) (s : ℕ) (h : Head) (ts : List ℕ) (q r : Bool) → h ≡ head_at stmts s → ts ≡ head_parts h → q ≡ quiet_head h → q ≡ true → r ≡ all (quiet_low loud s) ts → r ≡ quiet_here stmts loud s
here_told stmts loud s h ts q r e f g k j = rw (← e, ← f, ← g, k) j

-- a head that is not quiet
pub here_loud : (stmts loud : List ℕ) (s : ℕ) (h : Head) (q : Bool) → h ≡ head_at stmts s → q ≡ quiet_head h → q ≡ false → false ≡ quiet_here stmts loud s
here_loud stmts loud s h q e g k = rw (← e, ← g, k)

-- past the table
pub quiet_past : (loud : List ℕ) → length loud ≡ 1025 → (s : ℕ) → 1024 < s → true ≡ eqb (get_or loud s 0) 0
quiet_past loud e s h = rw (get_or-eq_default loud 0 {n = s} (omega arith))

-- THE STATES
-- a state whose exit is quiet
abbrev pub quiet_exit : List ℕ → List ℕ → ℕ → Bool
quiet_exit loud exits n = eqb (get_or loud (get_or exits n 0) 0) 0

module _ (types : List ℕ) (kinds : ℕ) (variable_of exprs stmts action_of state_of exits loud : List ℕ) (p : Program) (told : ToldStates types kinds variable_of exprs stmts action_of state_of exits p)
    (l : Loud stmts loud) where
  -- as many states as their table says
  states_many : length p.states ≡ count STATES state_of
  states_many = ap length told.same_states ∙ states_length state_of told.entries exits told.flags

  -- a state's exit
  exit_is : (n : ℕ) → There (count STATES state_of) n → (at no_state p.states n).exit ≡ get_or exits n 0
  unfolding states_of
  exit_is n b = ap (λ (s : State). s.exit) (ap (λ ss. at no_state ss n) told.same_states ∙ at_row (state_in state_of told.entries exits told.flags) no_state {e = n} refl b.0 b.1)

  -- its test
  state_test : (n : ℕ) → There (count STATES state_of) n → quietly p (at no_state p.states n).exit ≡ quiet_exit loud exits n
  state_test n b = ap (quietly p) (exit_is n b) ∙ sym (l.quiet_at (get_or exits n 0) ∙ hushed_is stmts p told.stated (get_or exits n 0))

  -- the first state at fault
  states_at_fault : row_fault (quiet p).state p.states ≡ first_bad (quiet_exit loud exits) (count STATES state_of)
  states_at_fault = table_bad (quiet p).state no_state (quiet_exit loud exits) p.states (count STATES state_of) states_many state_test

  -- THE FIRST LINE at fault
  pub quiet_line : (b x n a m q r : ℕ) → b ≡ count EVENTS types + kinds + count (KINDS * VARIABLES) variable_of → x ≡ count EXPRS exprs → n ≡ count STMTS stmts → a ≡ count ACTIONS action_of
      → m ≡ count STATES state_of → q ≡ first_bad (quiet_exit loud exits) m → r ≡ onward (b + x + n + a) q → r ≡ first_fault 1 (lines p (quiet p))
  quiet_line b x n a m q r i j k f e g h =
      sym (states_fault_lem p (quiet p).state ∙ rw (
        states_at_fault,
        told.same_exprs,
        exprs_length exprs,
        told.stated.same,
        stmts_length stmts told.stated.inits,
        told.same_actions,
        actions_length action_of told.bodies,
        front_is types kinds variable_of p told.fronted,
        h,
        g,
        i,
        j,
        k,
        f,
        e,
      ))
