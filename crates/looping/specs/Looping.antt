-- THE LOOP OF A RUN: what it is asked, what it leaves, and what holds after k of its turns.
use Rattle.std.specs.Prelude.{ℕ, suc, ◌+◌, ◌≤◌, ◌<◌, ◌≡◌, refl, cond, List, [], ◌∷◌, ◌++◌, map, eqb, length, take, drop, get_or, set, Ok, Err}
use Rattle.std.proofs.Common.{ap, sym, ◌∙◌, subst, append-nil, add-one, arith, eq-eqb, ne_eqb, length-append, drop_of_length-le, drop-cons, get_or-take, length-take-le}
use Rattle.std.proofs.lemmas.List.{map-append, length-map}
use Rattle.std.proofs.Math.ListN.{get_or-map}
use Rattle.std.proofs.Math.Seq.{append_snoc, take-length}
use Rattle.answers.specs.declared.Answer.{Answer}
use Rattle.answers.specs.declared.Answer.TheVariants.{Done}
use Rattle.answers.specs.Number.{number}
use Rattle.programs.specs.Sizes.{CHOICES}
use Rattle.programs.specs.Program.{Program}
use Rattle.machines.specs.Config.{Config, Choice}
use Rattle.runs.specs.Outcome.{took, refused}
use Rattle.runs.specs.Run.{Ended, later, run, ruled}
use Rattle.rules.specs.declared.Rule.{Rule}
use Rattle.rules.specs.Step as definition
use Rattle.acceptance.specs.Accepted.{Accepted}
use Rattle.kept.specs.Theorem.{step_keeps}
use Rattle.configs.specs.Encode.{written}
use Rattle.configs.specs.declared.Flat.{Flat}
use Rattle.configs.specs.Flat.{Sized, held}
use Rattle.choices.specs.Choices.{choice_of, choices_of, bits_small}
use Rattle.labels.specs.Labels.{rule_number}
use Rattle.engine.specs.Engine.{Performed}
use Rattle.tables.specs.declared.Program.{Program as Tables}
use Rattle.index.specs.declared.Index.{Index}
use Rattle.heads.specs.Asked.{Tabled, StepAsked}
use Rattle.handed_runs.specs.declared.Ending.{Ending}
use Rattle.handed_runs.specs.HandedRuns.{fronted}
use Rattle.runs.specs.Turns.{later_none, later_more, run_took, ruled_took, run_refused, ruled_refused}
use Rattle.handed_runs.specs.Fronted.{fronted_more}

-- THE LISTS f hold an accepted configuration; the first n of the numbers l are to be run, and `row` has a place for the rule of each
pub record RunAsked (exprs stmts inits types owners vartypes doers bodies kinds entries exits defers says places : List ℕ) (f : Flat) (l : List ℕ) (n : ℕ) (row : List ℕ) : Type 0 where
  pub p : Program
  pub tabled : Tabled exprs stmts inits types owners vartypes doers bodies kinds entries exits defers says places p
  pub c : Config
  pub sized : Sized f
  pub holds : held f ≡ written c
  pub accepted : Accepted p c
  pub inside : n ≤ length l
  pub few : n ≤ CHOICES
  pub room : length row ≡ CHOICES

-- the same of the program, what is looked up of it, and the configuration, each lent whole, where all the numbers l are to be run
abbrev pub RunAskedOf : Tables → Index → Flat → List ℕ → List ℕ → Type 0
RunAskedOf q x f l row = RunAsked q.exprs q.stmts q.inits q.event_types q.variable_of q.variable_type q.action_of q.action_body q.state_of q.state_entry q.state_exit q.defers x.says x.places f l (length l) row

-- the end of a run that stopped with the answer a after n steps: place 0 where the answer is 0
abbrev pub ended_with : Answer → ℕ → Ending
ended_with a n = record { answer = a; place = cond (eqb (number a) 0) 0 (suc n); steps = n }

-- so with the answer 0,
pub ended_done : (a : Answer) (n : ℕ) → number a ≡ 0 → record { answer = a; place = 0; steps = n } ≡ ended_with a n
ended_done a n e = rw (eq-eqb (number a) 0 e)

-- and with any other the place of the choice that was refused
pub ended_refused : (a : Answer) (n place : ℕ) → (number a ≡ 0 → ⊥) → place ≡ suc n → record { answer = a; place = place; steps = n } ≡ ended_with a n
ended_refused a n place e q = rw (q, ne_eqb (number a) 0 e)

-- WHAT A RUN LEAVES, by the definitions' run of the first n of the numbers l: the lists hold its last configuration; answer, place and steps are its own; and the
-- numbers of its rules are written from the front of the row
pub record RunLeft (p : Program) (c : Config) (l : List ℕ) (n : ℕ) (row : List ℕ) (r : Ending) (g : Flat) (row' : List ℕ) : Type 0 where
  pub sized : Sized g
  pub holds : held g ≡ written (run (definition.step p) c (choices_of (take n l))).config
  pub ends : r ≡ ended_with (run (definition.step p) c (choices_of (take n l))).answer (run (definition.step p) c (choices_of (take n l))).steps
  pub rules : row' ≡ fronted (map rule_number (ruled (definition.step p) c (choices_of (take n l)))) row

-- a run of the first n of the numbers by themselves is the run of the first n of them
pub left_first : {p : Program} {c : Config} {l : List ℕ} {n : ℕ} {row : List ℕ} {r : Ending} {g : Flat} {row' : List ℕ}
    → RunLeft p c (take n l) (length (take n l)) row r g row' → RunLeft p c l n row r g row'
left_first {p} {c} {l} {n} {row} {r} {g} {row'} a =
    let same : take (length (take n l)) (take n l) ≡ take n l = take-length (take n l) in
    record { sized = a.sized; holds = rw same at a.holds; ends = rw same at a.ends; rules = rw same at a.rules }

-- AFTER k TURNS over the choices xs: the lists hold an accepted configuration, from which the rest of the run goes on, and the rules so far are written
pub record Going (p : Program) (c : Config) (xs : List Choice) (row₀ : List ℕ) (k : ℕ) (f : Flat) (row : List ℕ) : Type 0 where
  pub config : Config
  pub taken : List Rule
  pub sized : Sized f
  pub holds : held f ≡ written config
  pub accepted : Accepted p config
  pub many : length taken ≡ k
  pub rest : run (definition.step p) c xs ≡ later k (run (definition.step p) config (drop k xs))
  pub rules : ruled (definition.step p) c xs ≡ taken ++ ruled (definition.step p) config (drop k xs)
  pub wrote : row ≡ fronted (map rule_number taken) row₀

-- what is left where a step was taken,
took_so : (f g : Flat) (o : definition.Outcome) (R : Rule) → Performed f o (Ok R) g → (d : Config) × ((o ≡ took R d) × (Sized g × (held g ≡ written d)))
took_so f g (took S d) R h = let e : S ≡ R = cc h.0 in (d, (ap (λ (T : Rule). took T d) e, h.1))
took_so f g (refused b) R h = let z : ◌≡◌ {A = ℕ} 0 1 = cc h.0 in absurd (omega arith)

-- and where none was
refused_so : (f g : Flat) (o : definition.Outcome) (b : Answer) → Performed f o (Err b) g → (o ≡ refused b) × (g ≡ f)
refused_so f g (took S d) b h = let z : ◌≡◌ {A = ℕ} 0 1 = cc h.0 in absurd (omega arith)
refused_so f g (refused a) b h = let e : a ≡ b = cc h.0 in (ap refused e, h.1)

module _ {exprs stmts inits types owners vartypes doers bodies kinds entries exits defers says places : List ℕ} {f₀ : Flat} {l : List ℕ} {n : ℕ} {row₀ : List ℕ}
    (a : RunAsked exprs stmts inits types owners vartypes doers bodies kinds entries exits defers says places f₀ l n row₀) where
  -- the choices that are run
  abbrev xs : List Choice
  xs = choices_of (take n l)

  -- as many as n
  many_xs : length xs ≡ n
  many_xs = length-map (take n l) choice_of ∙ length-take-le n l a.inside

  -- after k turns of this run
  abbrev pub GoingOn : ℕ → Flat → List ℕ → Type 0
  GoingOn k f row = Going a.p a.c xs row₀ k f row

  -- BEFORE THE FIRST
  pub going_none : GoingOn 0 f₀ row₀
  going_none = record {
    config = a.c;
    taken = [];
    sized = a.sized;
    holds = a.holds;
    accepted = a.accepted;
    many = refl;
    rest = sym (later_none (run (definition.step a.p) a.c xs));
    rules = refl;
    wrote = refl;
  }

  module _ {k : ℕ} {f : Flat} {row : List ℕ} (g : GoingOn k f row) where
    -- the run is over where nothing more of it is taken: it stops with the answer b. Fact by fact,
    stops_facts : (b : Answer) → run (definition.step a.p) g.config (drop k xs) ≡ record { config = g.config; answer = b; steps = 0 } → ruled (definition.step a.p) g.config (drop k xs) ≡ []
        → {r : Ending} → r ≡ ended_with b k
        → (held f ≡ written (run (definition.step a.p) a.c xs).config)
        × ((r ≡ ended_with (run (definition.step a.p) a.c xs).answer (run (definition.step a.p) a.c xs).steps)
        × (row ≡ fronted (map rule_number (ruled (definition.step a.p) a.c xs)) row₀))
    stops_facts b over none {r} e =
        let steps : k + 0 ≡ k = omega arith in
        let last : run (definition.step a.p) a.c xs ≡ record { config = g.config; answer = b; steps = k } = g.rest ∙ ap (later k) over ∙ (λ i. record { config = g.config; answer = b; steps = steps i }) in
        let all : ruled (definition.step a.p) a.c xs ≡ g.taken = g.rules ∙ ap (λ (ys : List Rule). g.taken ++ ys) none ∙ append-nil g.taken in (
          g.holds ∙ ap (λ (e : Ended Config). written e.config) (sym last),
          (
            e ∙ ap (λ (e : Ended Config). ended_with e.answer e.steps) (sym last),
            g.wrote ∙ ap (λ (ys : List Rule). fronted (map rule_number ys) row₀) (sym all),
          ),
        )

    -- and as what a run leaves
    stops : (b : Answer) → run (definition.step a.p) g.config (drop k xs) ≡ record { config = g.config; answer = b; steps = 0 } → ruled (definition.step a.p) g.config (drop k xs) ≡ []
        → {r : Ending} → r ≡ ended_with b k → RunLeft a.p a.c l n row₀ r f row
    stops b over none e =
        let so = stops_facts b over none e in
        record { sized = g.sized; holds = so.0; ends = so.1.0; rules = so.1.1 }

    -- AFTER THE LAST
    pub going_done : {r : Ending} → n ≤ k → r ≡ ended_with Done k → RunLeft a.p a.c l n row₀ r f row
    going_done h e =
        let all : length xs ≤ k = omega (arith, many_xs, h) in
        let none : drop k xs ≡ [] = drop_of_length-le xs all in
        let over = stops_facts Done (ap (run (definition.step a.p) g.config) none) (ap (ruled (definition.step a.p) g.config) none) e in
        record { sized = g.sized; holds = over.0; ends = over.1.0; rules = over.1.1 }

    -- A TURN
    module _ (h : k < n) where
      -- its choice
      abbrev x : Choice
      x = choice_of (get_or l k 0)

      -- it stands first among those that are left
      next_choice : drop k xs ≡ x ∷ drop (k + 1) xs
      next_choice = drop-cons xs k (choice_of 0) (omega (arith, many_xs))
          ∙ ap (λ (y : Choice). y ∷ drop (suc k) xs) (get_or-map choice_of (take n l) k 0 ∙ ap choice_of (get_or-take n l k 0 h))
          ∙ ap (λ (j : ℕ). x ∷ drop j xs) (sym (add-one k))

      -- what its step is asked
      abbrev pub turn_asked : {w : ℕ} → w ≡ x.bits → StepAsked exprs stmts inits types owners vartypes doers bodies kinds entries exits defers says places f w
      turn_asked e = record {
        p = a.p;
        tabled = a.tabled;
        c = g.config;
        sized = g.sized;
        holds = g.holds;
        accepted = g.accepted;
        bits = omega (arith, e, bits_small (get_or l k 0));
      }

      -- the choice by its two numbers
      chosen : {i w : ℕ} → i ≡ x.machine → w ≡ x.bits → definition.step a.p g.config (record { machine = i; bits = w }) ≡ definition.step a.p g.config x
      chosen e q = λ t. definition.step a.p g.config (record { machine = e t; bits = q t })

      -- IT IS REFUSED: the run stops there
      pub going_refused : {i w : ℕ} → i ≡ x.machine → w ≡ x.bits → (b : Answer) (g' : Flat) → Performed f (definition.step a.p g.config (record { machine = i; bits = w })) (Err b) g'
          → {r : Ending} → r ≡ ended_with b k → RunLeft a.p a.c l n row₀ r g' row
      going_refused e q b g' d {r} s =
          let so = refused_so f g' _ b d in
          let refuses = sym (chosen e q) ∙ so.0 in
          let over = stops_facts b (ap (run (definition.step a.p) g.config) next_choice ∙ run_refused (definition.step a.p) g.config x (drop (k + 1) xs) b refuses)
          (ap (ruled (definition.step a.p) g.config) next_choice ∙ ruled_refused (definition.step a.p) g.config x (drop (k + 1) xs) b refuses) s in
          subst (λ (y : Flat). RunLeft a.p a.c l n row₀ r y row) (sym so.1) (record { sized = g.sized; holds = over.0; ends = over.1.0; rules = over.1.1 })

      -- IT TAKES A STEP by the rule R, whose number is written
      pub going_took : {i w : ℕ} → i ≡ x.machine → w ≡ x.bits → (R : Rule) (g' : Flat) → Performed f (definition.step a.p g.config (record { machine = i; bits = w })) (Ok R) g'
          → {v : ℕ} → v ≡ rule_number R → GoingOn (k + 1) g' (set row k v)
      going_took e q R g' d {v} s =
          let so = took_so f g' _ R d in
          let steps = sym (chosen e q) ∙ so.1.0 in
          record {
            config = so.0;
            taken = g.taken ++ R ∷ [];
            sized = so.1.1.0;
            holds = so.1.1.1;
            accepted = step_keeps a.p a.tabled.sound g.config so.0 x R g.accepted steps;
            many = length-append g.taken (R ∷ []) ∙ ap (λ (m : ℕ). m + 1) g.many;
            rest = g.rest ∙ ap (λ (ys : List Choice). later k (run (definition.step a.p) g.config ys)) next_choice
                ∙ ap (later k) (run_took (definition.step a.p) g.config x (drop (k + 1) xs) R so.0 steps) ∙ later_more k _;
            rules = g.rules ∙ ap (λ (ys : List Choice). g.taken ++ ruled (definition.step a.p) g.config ys) next_choice
                ∙ ap (λ (ys : List Rule). g.taken ++ ys) (ruled_took (definition.step a.p) g.config x (drop (k + 1) xs) R so.0 steps)
                ∙ sym (append_snoc g.taken R (ruled (definition.step a.p) so.0 (drop (k + 1) xs)));
            wrote =
                let numbers = map rule_number g.taken in
                let place : k ≡ length numbers = sym (length-map g.taken rule_number ∙ g.many) in
                ap (λ (ys : List ℕ). set ys k v) g.wrote ∙ (λ t. set (fronted numbers row₀) (place t) (s t))
                ∙ fronted_more numbers row₀ (rule_number R) (omega (arith, place, h, a.few, a.room))
                ∙ ap (λ (ys : List ℕ). fronted ys row₀) (sym (map-append rule_number g.taken (R ∷ [])));
          }
