-- What a line says is well said: where it is in the form, its variable is not void, its lists are ascending, and its `val` is in range if it is said to be.
-- Nothing here is of the document: it follows from the forms of Forms.antt.
use Rattle.std.specs.Prelude.{ℕ, ◌≡◌, refl, Bool, true, false, cond, List, [], ◌∷◌, ◌++◌, map, get_or}
use Rattle.std.proofs.Math.Option.{Option, none, some}
use Rattle.lists.specs.Lists.{All, on_opt, same}
use Rattle.lists.specs.Facts.{All-append, All-get_d}
use Rattle.programs.specs.Program.{Program, Stmt, State}
use Rattle.programs.specs.declared.Expr.{Expr}
use Rattle.soundness.specs.Asked.{is_void, ascending, init_of}
use Rattle.soundness.specs.Sound.{expr_ranged}
use Rattle.texts.specs.Bytes.{bytes, only}
use Rattle.texts.specs.Numbers.{decimal, signed, listed, numbers, pairs}
use Rattle.texts.specs.Forms.{Said, event_line, machine_line, var_line, expr_line, stmt_line, action_line, state_line, step_line, call_line, act_line, start_line, choice_line}
use Rattle.texts.specs.Forms.{Val, a_number, an_integer, a_list, some_pairs, one, value_of, field_of, fields, values_of, list_at_in, pairs_at_in, Form, forms, said_as, said}

-- An expression with its `val` in range. (The range is the same in every program.)
abbrev pub Ranged : Expr → Type 0
Ranged e = (p : Program) → (expr_ranged p e).Holds

-- A statement with the variables of its `init` ascending
abbrev pub InitAscending : Stmt → Type 0
InitAscending s = ascending (map (λ xe. xe.0) (init_of s)) ≡ true

-- A state with its deferred events ascending
abbrev pub DeferAscending : State → Type 0
DeferAscending n = ascending n.defer ≡ true

-- A line well said: no void variable, an expression ranged where its `val` is said to be in range, and the lists ascending
abbrev pub WellSaid : Said → Type 0
WellSaid (event_line i t) = Unit {0}
WellSaid (machine_line i) = Unit {0}
WellSaid (var_line i v) = is_void v.type ≡ false
WellSaid (expr_line i r e) = r ≡ true → Ranged e
WellSaid (stmt_line i s) = InitAscending s
WellSaid (action_line i a) = Unit {0}
WellSaid (state_line i n) = DeferAscending n
WellSaid (step_line t) = Unit {0}
WellSaid (call_line t) = Unit {0}
WellSaid (act_line t) = Unit {0}
WellSaid (start_line k) = Unit {0}
WellSaid (choice_line c) = Unit {0}

-- WHAT IS THERE, IF ANYTHING
-- P holds of it.
abbrev pub IfThere : {A : Type 0} → (A → Type 0) → Option A → Type 0
IfThere P none = Unit {0}
IfThere P (some a) = P a

module _ {A : Type 0} where
  -- P holds of what either branch of a choice gives, so of what the choice gives.
  either_there : (P : A → Type 0) (b : Bool) (x y : Option A) → IfThere P x → IfThere P y → IfThere P (cond b x y)
  either_there P true x y h k = h
  either_there P false x y h k = k

  -- What `only` lets through passes its test.
  only_there : (f : A → Bool) (o : Option A) → IfThere (λ a. f a ≡ true) (only f o)
  only_there f none = tt
  only_there f (some a) = go (f a) refl
    where
      go : (b : Bool) → f a ≡ b → IfThere (λ x. f x ≡ true) (cond b (some a) none)
      go true e = e
      go false e = tt

-- VALUES
-- A value with its list ascending and the variables of its pairs ascending
abbrev Good : Val → Type 0
Good v = (ascending (list_at_in v) ≡ true) × (ascending (map (λ xe. xe.0) (pairs_at_in v)) ≡ true)

-- One value is good where what it is made of gives a good one.
one_good : {A : Type 0} (f : A → Val) (o : Option A) → IfThere (λ a. Good (f a)) o → IfThere (All Good) (one f o)
one_good f none h = tt
one_good f (some a) h = (h, tt)

-- A number or an integer always does,
anything_good : {A : Type 0} (f : A → Val) (o : Option A) → ((a : A) → Good (f a)) → IfThere (λ a. Good (f a)) o
anything_good f none h = tt
anything_good f (some a) h = h a

-- a list does where it is ascending,
list_good : (o : Option (List ℕ)) → IfThere (λ l. ascending l ≡ true) o → IfThere (λ l. Good (a_list l)) o
list_good none h = tt
list_good (some l) h = (h, refl)

-- and pairs do where their variables are: that is what `only` lets through.
pairs_good : (o : Option (List (ℕ × ℕ))) → IfThere (λ l. ascending (map (λ xe. xe.0) l) ≡ true) o → IfThere (λ l. Good (some_pairs l)) o
pairs_good none h = tt
pairs_good (some l) h = (refl, h)

-- So the values of any value of a form are good, whichever it is,
value_good : (h d : List ℕ) → IfThere (All Good) (value_of h d)
value_good h d = go (same h (35 ∷ [])) (same h (126 ∷ [])) (same h (64 ∷ [])) (same h (37 ∷ [])) (same h d)
  where
    go : (a b c e f : Bool) → IfThere (All Good) (cond a (one a_number (decimal d)) (cond b (one an_integer (signed d)) (cond c (one a_list (numbers d))
        (cond e (one some_pairs (pairs d)) (cond f (some []) none)))))
    go true b c e f = one_good a_number (decimal d) (anything_good a_number (decimal d) (λ n. (refl, refl)))
    go false true c e f = one_good an_integer (signed d) (anything_good an_integer (signed d) (λ z. (refl, refl)))
    go false false true e f = one_good a_list (numbers d) (list_good (numbers d) (only_there ascending (listed decimal d)))
    go false false false true f = one_good some_pairs (pairs d) (pairs_good (pairs d) (only_there _ (listed _ d)))
    go false false false false true = tt
    go false false false false false = tt

-- of any field,
field_good : (f g : List (List ℕ)) → IfThere (All Good) (field_of f g)
field_good [] g = tt
field_good (k ∷ []) g = tt
field_good (k ∷ h ∷ []) [] = tt
field_good (k ∷ h ∷ []) (l ∷ []) = tt
field_good (k ∷ h ∷ []) (l ∷ d ∷ []) = either_there (All Good) (same k l) (value_of h d) none (value_good h d) tt
field_good (k ∷ h ∷ []) (l ∷ d ∷ e ∷ g) = tt
field_good (k ∷ h ∷ i ∷ t) g = tt

-- and of any line.
values_good : (f l : List (List (List ℕ))) → IfThere (All Good) (values_of f l)
values_good [] [] = tt
values_good [] (g ∷ l) = tt
values_good (f ∷ t) [] = tt
values_good (f ∷ t) (g ∷ l) = go (field_of f g) (values_of t l) (field_good f g) (values_good t l)
  where
    go : (x y : Option (List Val)) → IfThere (All Good) x → IfThere (All Good) y → IfThere (All Good) (on_opt x none (λ v. on_opt y none (λ w. some (v ++ w))))
    go none y h k = tt
    go (some v) none h k = tt
    go (some v) (some w) h k = All-append Good v w h k

-- THE FORMS
-- A form that says something well of all good values
abbrev WellFormed : Form → Type 0
WellFormed f = (v : List Val) → All Good v → WellSaid (f.1 v)

-- The form by which a line is said is one of those given: where all are well-formed, the line is well said.
said_as_well : (fs : List Form) (l : List (List (List ℕ))) → All WellFormed fs → IfThere WellSaid (said_as fs l)
said_as_well [] l h = tt
said_as_well (f ∷ fs) l h = go (values_of (fields (bytes f.0)) l) (values_good (fields (bytes f.0)) l) (said_as_well fs l h.1)
  where
    go : (o : Option (List Val)) → IfThere (All Good) o → IfThere WellSaid (said_as fs l) → IfThere WellSaid (on_opt o (said_as fs l) (λ v. some (f.1 v)))
    go none g later = later
    go (some v) g later = h.0 v g

-- Value i of a line is good.
at_good : (v : List Val) (i : ℕ) → All Good v → Good (get_or v i (a_number 0))
at_good v i g = All-get_d Good (a_number 0) v i (refl, refl) g

-- What is asked of most lines holds at once, whatever the values are: nothing is asked,
nothing_asked : (v : List Val) → All Good v → Unit {0}
nothing_asked v g = tt

-- the type is not void,
not_void : (v : List Val) → All Good v → false ≡ false
not_void v g = refl

-- there is no `val` to be in range (of an int it is the range itself that is told),
no_val : (r : List Val → Bool) (v : List Val) → All Good v → r v ≡ true → Program → Unit {0}
no_val r v g e p = tt

-- or there are no pairs.
no_pairs : (v : List Val) → All Good v → true ≡ true
no_pairs v g = refl

-- One proof in front of others, so that they stand in a row
infixr 20 ◌and◌
abbrev ◌and◌ : {A B : Type 0} → A → B → A × B
◌and◌ a b = (a, b)

-- EVERY FORM IS WELL-FORMED: events, machines, variables, expressions, statements, actions, states, and the rest, in the order of `forms`
forms_well : All WellFormed forms
forms_well = nothing_asked and nothing_asked and nothing_asked and nothing_asked and nothing_asked
    and nothing_asked
    and not_void and not_void and not_void and not_void
    and no_val _ and no_val _ and no_val _ and no_val _ and no_val _ and no_val _ and (λ v g e p. e) and no_val _
    and no_val _ and no_val _ and no_val _ and no_val _ and no_val _ and no_val _
    and no_pairs and no_pairs and no_pairs and no_pairs and no_pairs and (λ v g. (at_good v 3 g).1)
    and no_pairs and no_pairs and no_pairs and no_pairs and no_pairs and no_pairs
    and nothing_asked
    and (λ v g. (at_good v 2 g).0)
    and nothing_asked and nothing_asked and nothing_asked and nothing_asked and nothing_asked and nothing_asked
    and tt

-- THE law: what a line says is well said.
pub said_well : (l : List ℕ) → IfThere WellSaid (said l)
unfolding said
said_well l = said_as_well forms (fields l) forms_well
