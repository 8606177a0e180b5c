-- The values of `init`, one after the other: what the loop of src/lib.rt has worked out after j of the pairs, and that in the end it is what the definitions have.
use Rattle.std.specs.Prelude.{ℕ, zero, suc, ◌+◌, ◌*◌, ◌/◌, ◌%◌, ◌^◌, ◌≤◌, ◌<◌, ◌≡◌, refl, Bool, true, false, List, [], ◌∷◌, map, eqb, length, drop, get_or, set, replicate, Some, None}
use Rattle.std.specs.Prelude as Prelude
use Rattle.std.proofs.Common.{sym, ap, ◌∙◌, subst, div-le_self, add-one, arith, length-set, drop_of_length-le, drop-cons, get_or-set_same, get_or-set_other}
use Rattle.std.proofs.Math.Logic.{dite}
use Rattle.std.proofs.Math.Option.{Option, none, some}
use Rattle.std.proofs.Math.Decide.{ℕ_discrete}
use Rattle.std.proofs.lemmas.List.{length-map}
use Rattle.std.proofs.Math.ListN.{get_or-map}
use Rattle.lists.specs.Lists.{at}
use Rattle.lists.specs.Facts.{has, first_has, or_right, All-at}
use Rattle.rows.specs.Pad.{zeros_replicate}
use Rattle.rows.specs.Part.{put, put_over}
use Rattle.values.specs.declared.Value.{Value}
use Rattle.values.specs.declared.Value.TheVariants.{Undefined as undefined}
use Rattle.values.specs.Values.{suits}
use Rattle.programs.specs.Program.{Program, Variable, new, stmt_at, variable_at, variables_of, place}
use Rattle.programs.specs.Statements as statements
use Rattle.programs.specs.Trees.{tree, stars}
use Rattle.soundness.specs.Founded.{VariableOf, Refers}
use Rattle.soundness.specs.Sound.{Sound}
use Rattle.machines.specs.Config.{Machine}
use Rattle.machines.specs.Eval.{eval}
use Rattle.machines.specs.Locals.{blank}
use Rattle.rules.specs.Act as act
use Rattle.codes.specs.Codes.{code_of, value_of}
use Rattle.tables.specs.Decode as decode
use Rattle.tables.specs.Decode.{no_variable, pair_in, pairs_of}
use Rattle.tables.specs.Tables.{variables_length, pairs_length, pairs_get}
use Rattle.index.specs.Index.{Places}
use Rattle.evaluation.specs.Evaluated.{REST, evaluated, Readable}
use Rattle.configs.specs.declared.Flat.{Flat}
use Rattle.engine.specs.Engine.{Stands}
use Rattle.stored.specs.Stored.{place_own, place_there, place_16, readable, gives_code, gives_value, gives_rest}
use Rattle.sending.specs.Heads.{head_refers}

-- THE VALUES vs WRITTEN in the 19 places of `out`: a place for each of 16 variables, and three more that are zero
pub record Written (vs : List Value) (out : List ℕ) : Type 0 where
  pub size : length out ≡ 19
  pub values : (j : ℕ) → j < 16 → get_or out j 0 ≡ code_of (get_or vs j undefined)
  pub rest : (j : ℕ) → 16 ≤ j → get_or out j 0 ≡ 0

-- zeros in all of them, which is one list
cleared_is : (out blank : List ℕ) → length out ≡ 19 → length blank ≡ 19 → ((j : ℕ) → get_or blank j 0 ≡ 0) → put 0 (replicate 19 0) out ≡ blank
cleared_is out blank e f z = put_over (replicate 19 0) out (sym e) ∙ sym (zeros_replicate 0 19 blank f (λ k h. z k))

-- where nothing is set, all are zero
pub written_blank : (xs : List Variable) (out : List ℕ) → length out ≡ 19 → ((j : ℕ) → get_or out j 0 ≡ 0) → Written (map (λ v. undefined) xs) out
written_blank xs out e z = record { size = e; values = λ j h. z j ∙ ap code_of (sym (get_or-map (λ (v : Variable). undefined) xs j (record { of = 0; type = no_variable.type }))); rest = λ j h. z j }

-- a store of one value
written_set : (vs : List Value) (out : List ℕ) (y : ℕ) (v : Value) → y < 16 → y < length vs → Written vs out → Written (set vs y v) (set out y (code_of v))
written_set vs out y v h l w = record {
  size = length-set out y (code_of v) ∙ w.size;
  values = λ j b. dite (ℕ_discrete j y)
      (λ e. rw e (get_or-set_same out y (code_of v) 0 (omega (arith, w.size)) ∙ ap code_of (sym (get_or-set_same vs y v undefined l))))
      (λ e. get_or-set_other out y j (code_of v) 0 e ∙ w.values j b ∙ ap code_of (sym (get_or-set_other vs y j v undefined e)));
  rest = λ j b. get_or-set_other out y j (code_of v) 0 (λ e. omega arith) ∙ w.rest j b;
}

-- what f gives of an element is among what it gives of all
has_map : {A : Type 0} (f : A → ℕ) (d : A) (l : List A) (j : ℕ) → j < length l → has (f (get_or l j d)) (map f l)
has_map f d [] j h = absurd (omega arith)
has_map f d (x ∷ l) zero h = first_has (f x) (map f l)
has_map f d (x ∷ l) (suc j) h = or_right (eqb (f (get_or l j d)) (f x)) _ (has_map f d l j (omega arith))

-- THE MACHINE IN ROOM k CREATES: its head is `new`, with the n pairs from place z on
pub record InitsAsked (k z n w : ℕ) (exprs places kinds types inits values out : List ℕ) : Type 0 where
  pub p : Program
  pub sound : Sound p
  pub exprs_are : p.exprs ≡ decode.exprs_of exprs
  pub places_are : Places p places
  pub variables_are : p.variables ≡ decode.variables_of kinds types
  pub f : Flat
  pub values_are : f.values ≡ values
  pub m : Machine
  pub stands : Stands p f k m
  pub s : ℕ
  pub r : List ℕ
  pub x : ℕ
  pub kind : ℕ
  pub row : m.loc.row ≡ s ∷ r
  pub head : stmt_at p s ≡ new x kind (pairs_of inits z n)
  pub bits : w < 256
  pub out_size : length out ≡ 19
  pub out_zero : (j : ℕ) → get_or out j 0 ≡ 0

module _ {k z n w : ℕ} {exprs places kinds types inits values out₀ : List ℕ} (q : InitsAsked k z n w exprs places kinds types inits values out₀) where
  -- the values of `init`, as the definitions have them
  abbrev pub inits_of : Option (List Value)
  inits_of = act.inits q.p q.m.this q.m.loc w q.kind (pairs_of inits z n) 0 (blank q.p q.kind)

  -- WHAT IS LEFT: the values, written; or one does not suit, and nothing is
  abbrev pub Begun : Bool → List ℕ → Type 0
  Begun true out = (vs : List Value) × ((inits_of ≡ some vs) × ((length vs ≡ length (variables_of q.p q.kind)) × Written vs out))
  Begun false out = (inits_of ≡ none) × (out ≡ out₀)

  -- as it is answered: the values, or none of them
  abbrev pub Given : Prelude.Option (List ℕ) → Type 0
  Given (Some out) = Begun true out
  Given None = Begun false out₀

  -- after j pairs
  pub record Working (j rest : ℕ) (out : List ℕ) : Type 0 where
    pub vs : List Value
    pub taken : ℕ
    pub turns : j ≤ length (pairs_of inits z n)
    pub rest_is : rest ≡ w / 2 ^ taken
    pub same : act.inits q.p q.m.this q.m.loc w q.kind (drop j (pairs_of inits z n)) taken vs ≡ inits_of
    pub wide : length vs ≡ length (variables_of q.p q.kind)
    pub written : Written vs out

  -- THE PAIRS
  -- what the head names
  named : Refers q.p q.m.loc.kind (new q.x q.kind (pairs_of inits z n))
  named = head_refers q.p q.f.next q.m.loc q.s q.r (new q.x q.kind (pairs_of inits z n)) q.sound q.stands.ok.loc_ok q.row q.head

  -- a kind has at most 16 variables
  few : length (variables_of q.p q.kind) ≤ 16
  few = q.sound.is_sized.1.1.0 q.kind named.2

  -- evaluation can read the machine's values
  pub inits_readable : Readable places values (k * 19)
  inits_readable = subst (λ (l : List ℕ). Readable places l (k * 19)) q.values_are (readable q.p q.f k q.m q.sound q.stands places q.places_are)

  module _ (j : ℕ) (h : j < length (pairs_of inits z n)) where
    -- pair j stands in the pool
    pair_is : get_or (pairs_of inits z n) j (0, 0) ≡ pair_in inits (z + j)
    pair_is = pairs_get inits z n j (omega (arith, pairs_length inits z n))

    -- its variable is one of the kind
    variable_of : VariableOf q.p q.kind (get_or inits ((z + j) * 2) 0)
    variable_of = subst (λ (xe : ℕ × ℕ). VariableOf q.p q.kind xe.0) pair_is (All-at (λ xe. VariableOf q.p q.kind xe.0) (0, 0) (pairs_of inits z n) j h named.3)

    -- whose number is one of 257,
    pub variable_small : get_or inits ((z + j) * 2) 0 < 257
    variable_small = omega (arith, variable_of.0.1, ap length q.variables_are, variables_length kinds types)

    -- whose place stands in `places`,
    place_is : get_or places (get_or inits ((z + j) * 2) 0) 0 ≡ place q.p q.kind (get_or inits ((z + j) * 2) 0)
    place_is = place_own q.p q.sound places q.places_are q.kind (get_or inits ((z + j) * 2) 0) variable_of

    -- and is one of 16
    pub place_small : get_or places (get_or inits ((z + j) * 2) 0) 0 < 16
    place_small = place_16 q.p q.sound places q.places_are (get_or inits ((z + j) * 2) 0)

    -- its expression is one of the head's
    expr_of_lem : has (get_or inits ((z + j) * 2 + 1) 0) (statements.exprs_of (stmt_at q.p q.s))
    expr_of_lem = rw q.head (subst (λ (xe : ℕ × ℕ). has xe.1 (map (λ ye. ye.1) (pairs_of inits z n))) pair_is (has_map (λ ye. ye.1) (0, 0) (pairs_of inits z n) j h))

    -- THE TURN
    module _ (rest u : ℕ) (out : List ℕ) (work : Working j rest out) (gave : u ≡ evaluated exprs places values (k * 19) (get_or inits ((z + j) * 2 + 1) 0) rest) where
      -- the value of the pair's expression
      abbrev given : Value
      given = eval q.p q.m.this q.m.loc w work.taken (get_or inits ((z + j) * 2 + 1) 0)

      -- what was evaluated, in the lists
      gave' : u ≡ evaluated exprs places q.f.values (k * 19) (get_or inits ((z + j) * 2 + 1) 0) rest
      gave' = gave ∙ ap (λ (l : List ℕ). evaluated exprs places l (k * 19) (get_or inits ((z + j) * 2 + 1) 0) rest) (sym q.values_are)

      -- its number
      number : u % REST ≡ code_of given
      number = ap (λ (i : ℕ). i % REST) gave' ∙ gives_code q.p q.f k q.m q.sound q.stands exprs places q.exprs_are q.places_are q.s q.r q.row
          (get_or inits ((z + j) * 2 + 1) 0) expr_of_lem w work.taken rest work.rest_is

      -- its value
      worth : value_of (u % REST) ≡ given
      worth = ap (λ (i : ℕ). value_of (i % REST)) gave' ∙ gives_value q.p q.f k q.m q.sound q.stands exprs places q.exprs_are q.places_are q.s q.r q.row
          (get_or inits ((z + j) * 2 + 1) 0) expr_of_lem w work.taken rest work.rest_is

      -- the test
      tested : (b : Bool) → b ≡ suits (at no_variable (decode.variables_of kinds types) (get_or inits ((z + j) * 2) 0)).type (value_of (u % REST))
          → suits (variable_at q.p (get_or inits ((z + j) * 2) 0)).type given ≡ b
      tested b t = ap (λ (l : List Variable). suits (at no_variable l (get_or inits ((z + j) * 2) 0)).type given) q.variables_are
          ∙ ap (suits (at no_variable (decode.variables_of kinds types) (get_or inits ((z + j) * 2) 0)).type) (sym worth) ∙ sym t

      -- the definitions' turn
      opened : act.inits q.p q.m.this q.m.loc w q.kind (pair_in inits (z + j) ∷ drop (suc j) (pairs_of inits z n)) work.taken work.vs ≡ inits_of
      opened = ap (λ xe. act.inits q.p q.m.this q.m.loc w q.kind (xe ∷ drop (suc j) (pairs_of inits z n)) work.taken work.vs) (sym pair_is)
          ∙ ap (λ l. act.inits q.p q.m.this q.m.loc w q.kind l work.taken work.vs) (sym (drop-cons (pairs_of inits z n) j (0, 0) h)) ∙ work.same

      -- the value does not suit
      pub inits_wrong : false ≡ suits (at no_variable (decode.variables_of kinds types) (get_or inits ((z + j) * 2) 0)).type (value_of (u % REST)) → (clear : List ℕ) → clear ≡ put 0 (replicate 19 0) out → Begun false clear
      inits_wrong t clear d = (sym opened ∙ rw (tested false t), d ∙ cleared_is out out₀ work.written.size q.out_size q.out_zero)

      -- it does
      pub inits_more : true ≡ suits (at no_variable (decode.variables_of kinds types) (get_or inits ((z + j) * 2) 0)).type (value_of (u % REST))
          → Working (j + 1) (u / REST) (set out (get_or places (get_or inits ((z + j) * 2) 0) 0) (u % REST))
      inits_more t = record {
        vs = set work.vs (place q.p q.kind (get_or inits ((z + j) * 2) 0)) given;
        taken = work.taken + stars (tree q.p (get_or inits ((z + j) * 2 + 1) 0));
        turns = omega arith;
        rest_is = ap (λ (i : ℕ). i / REST) gave' ∙ gives_rest q.p q.f k q.m q.sound q.stands exprs places q.exprs_are q.places_are q.s q.r q.row
            (get_or inits ((z + j) * 2 + 1) 0) expr_of_lem w work.taken rest work.rest_is;
        same = rw (add-one j) (rw (tested true t) at opened);
        wide = length-set work.vs _ given ∙ work.wide;
        written = rw (place_is, number) (written_set work.vs out (place q.p q.kind (get_or inits ((z + j) * 2) 0)) given (omega (arith, place_is, place_small))
            (omega (arith, work.wide, place_there q.p q.sound places q.places_are q.kind (get_or inits ((z + j) * 2) 0) variable_of)) work.written);
      }

  -- BEFORE THE FIRST PAIR
  pub inits_none : Working 0 w out₀
  inits_none = record {
    vs = blank q.p q.kind;
    taken = 0;
    turns = omega arith;
    rest_is = omega arith;
    same = refl;
    wide = length-map (variables_of q.p q.kind) (λ v. undefined);
    written = written_blank (variables_of q.p q.kind) out₀ q.out_size q.out_zero;
  }

  module _ (j rest : ℕ) (out : List ℕ) (work : Working j rest out) where
    -- the bits that are left are bits
    pub work_bits : rest < 256
    work_bits = omega (arith, work.rest_is, div-le_self w (2 ^ work.taken), q.bits)

    -- AFTER THE LAST
    pub inits_all : length (pairs_of inits z n) ≤ j → Begun true out
    inits_all h = (work.vs, (sym work.same ∙ rw (drop_of_length-le (pairs_of inits z n) h), (work.wide, work.written)))
