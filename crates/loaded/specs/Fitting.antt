-- What the reading of a text has made sure of when its program is whole: the sizes are kept, `val` and the choices are in range, no variable is void, the
-- lists are ascending. It is kept from line to line. Nothing here is of the document.
use Rattle.std.specs.Prelude.{ℕ, zero, suc, ◌+◌, ◌≤◌, ◌<◌, ◌≡◌, refl, Bool, true, false, cond, ◌&&◌, List, [], ◌∷◌, ◌++◌, reverse, eqb, leb, ltb, length, replicate}
use Rattle.std.proofs.Math.Option.{Option, none, some}
use Rattle.std.proofs.Common.{arith, subst, sym, eqb-true, leb-true}
use Rattle.std.proofs.lemmas.List.{length-reverse}
use Rattle.lists.specs.Lists.{All, on_opt, keep, push, There, there}
use Rattle.lists.specs.Tells.{both, equal, at_most_lem, less, given_is, there_is}
use Rattle.lists.specs.Facts.{and_parts, All-map}
use Rattle.lists.specs.Keep.{All-reverse, kept_reverse}
use Rattle.lists.specs.Check.{Check, free, all_each}
use Rattle.answers.specs.declared.Answer.TheVariants.{NotInForm, OutOfRange}
use Rattle.programs.specs.Sizes.{CHOICES, SPENT, KINDS, EVENTS, VARIABLES, EXPRS, STMTS, ACTIONS, STATES, BITS}
use Rattle.programs.specs.Program.{Program, Variable, is_of}
use Rattle.machines.specs.Config.{Choice}
use Rattle.soundness.specs.Asked.{is_void, orderly}
use Rattle.soundness.specs.Sound.{numbered, meet, meets, sized, expr_ranged}
use Rattle.texts.specs.Forms.{Said, event_line, machine_line, var_line, expr_line, stmt_line, action_line, state_line, step_line, call_line, act_line, start_line, choice_line, said}
use Rattle.texts.specs.Reading.{Tables, tables, put, kind, ordered, next, room, ranged, Result, loaded, refused, nothing, program_of, whole, reading}
use Rattle.loaded.specs.WellSaid.{Ranged, InitAscending, DeferAscending, WellSaid, IfThere, said_well}

-- ONE TABLE
-- A table within its size, with P of every element
pub record Table {A : Type 0} (size : ℕ) (P : A → Type 0) (l : List A) : Type 0 where
  pub fits : length l ≤ size
  pub each : All P l

module _ {A : Type 0} (size : ℕ) (P : A → Type 0) where
  -- One element more, with a number that is next within the size
  more : (l : List A) (x : A) (i : ℕ) → next size (length l) i ≡ true → P x → Table size P l → Table size P (x ∷ l)
  more l x i e h t = let n = (both (equal i (length l + 1)) (at_most_lem i size)).holds e in record { fits = omega arith; each = (h, t.each) }

  -- The same table, the last first
  turned : (l : List A) → Table size P l → Table size P (reverse l)
  turned l t = record { fits = rw length-reverse t.fits; each = All-reverse P l t.each }

-- VARIABLES, after a line of the kind `last`: they come behind the machines, so that a machine line finds none.
record Variables (last machines : ℕ) (vs : List Variable) : Type 0 where
  pub kinds_fit : machines ≤ KINDS
  pub none_yet : last ≤ 2 → vs ≡ []
  pub few : (k : ℕ) → There machines k → length (keep (is_of k) vs) ≤ VARIABLES
  pub not_void : All (λ v. is_void v.type ≡ false) vs

-- A line of a kind behind the variables changes nothing of it,
behind : (last now machines : ℕ) (vs : List Variable) → 3 ≤ now → Variables last machines vs → Variables now machines vs
behind last now machines vs h v = record { kinds_fit = v.kinds_fit; none_yet = λ e. absurd (omega arith); few = v.few; not_void = v.not_void }

-- nor does an event,
another_event : (last machines : ℕ) (vs : List Variable) → leb last 1 ≡ true → Variables last machines vs → Variables 1 machines vs
another_event last machines vs e v =
    record { kinds_fit = v.kinds_fit; none_yet = λ h. v.none_yet (omega (arith, leb-true last 1 e)); few = v.few; not_void = v.not_void }

-- a machine comes while there are none,
another_machine : (last machines i : ℕ) (vs : List Variable) → leb last 2 ≡ true → next KINDS machines i ≡ true → Variables last machines vs → Variables 2 (suc machines) vs
another_machine last machines i vs e r v =
    let no : vs ≡ [] = v.none_yet (leb-true last 2 e) in
    let n = (both (equal i (machines + 1)) (at_most_lem i KINDS)).holds r in
    record { kinds_fit = omega arith; none_yet = λ h. no; few = λ k t. rw no (omega arith); not_void = v.not_void }

-- and a variable comes where its kind has room.
another_variable : (last machines : ℕ) (x : Variable) (vs : List Variable) → room machines x.of vs ≡ true → is_void x.type ≡ false → Variables last machines vs
    → Variables 3 machines (x ∷ vs)
another_variable last machines x vs r w v =
    record { kinds_fit = v.kinds_fit; none_yet = λ h. absurd (omega arith); few = λ k t. go k t (eqb x.of k) refl; not_void = (w, v.not_void) }
  where
    roomy : There machines x.of → length (keep (is_of x.of) vs) < VARIABLES
    roomy t = (given_is (there machines x.of) (less (length (keep (is_of x.of) vs)) VARIABLES)).holds r ((there_is machines x.of).test t)

    go : (k : ℕ) → There machines k → (b : Bool) → eqb x.of k ≡ b → length (push b x (keep (is_of k) vs)) ≤ VARIABLES
    go k t true e =
        let o = eqb-true x.of k e in
        subst (λ (n : ℕ). length (keep (is_of n) vs) < VARIABLES) o (roomy (subst (λ (n : ℕ). There machines n) (sym o) t))
    go k t false e = v.few k t

-- THE TABLES, after a line of the kind `last`
-- A choice in range: "a live number, bits 0 to 255"
abbrev pub InRange : Choice → Type 0
InRange c = (1 ≤ c.machine) × (c.machine < SPENT) × (c.bits ≤ BITS)

-- Nothing is asked of an element.
abbrev Anything : {A : Type 0} → A → Type 0
Anything x = Unit {0}

-- What is kept from line to line
abbrev Fit : ℕ → Tables → Type 0
Fit last (tables es ms vs xs ss acs ns ts cs ds ks hs) = Variables last ms vs × Table EVENTS Anything es × Table EXPRS Ranged xs × Table STMTS InitAscending ss
    × Table ACTIONS Anything acs × Table STATES DeferAscending ns × Table CHOICES InRange hs

-- A choice that is let in is in range, and there is room for it.
another_choice : (hs : List Choice) (c : Choice) → ltb (length hs) CHOICES && ltb 0 c.machine && ltb c.machine SPENT && leb c.bits BITS ≡ true
    → Table CHOICES InRange hs → Table CHOICES InRange (c ∷ hs)
another_choice hs c e t =
    let h = (both (both (both (less (length hs) CHOICES) (less 0 c.machine)) (less c.machine SPENT)) (at_most_lem c.bits BITS)).holds e in
    record { fits = h.0.0.0; each = ((h.0.0.1, h.0.1, h.1), t.each) }

-- Every line that is well said, in its order and in range keeps it.
put_fit : (last : ℕ) (x : Said) (a : Tables) → ordered last x ≡ true → ranged a x ≡ true → WellSaid x → Fit last a → Fit (kind x) (put x a)
put_fit last (event_line i t) (tables es ms vs xs ss acs ns ts cs ds ks hs) o r w f =
    (another_event last ms vs o f.0, more EVENTS _ es t i r tt f.1, f.2, f.3, f.4, f.5, f.6)
put_fit last (machine_line i) (tables es ms vs xs ss acs ns ts cs ds ks hs) o r w f = (another_machine last ms i vs o r f.0, f.1, f.2, f.3, f.4, f.5, f.6)
put_fit last (var_line i v) (tables es ms vs xs ss acs ns ts cs ds ks hs) o r w f =
    (another_variable last ms v vs (and_parts (eqb i (length vs + 1)) _ r).1 w f.0, f.1, f.2, f.3, f.4, f.5, f.6)
put_fit last (expr_line i b e) (tables es ms vs xs ss acs ns ts cs ds ks hs) o r w f =
    let d = and_parts (next EXPRS (length xs) i) b r in
    (behind last 4 ms vs (omega arith) f.0, f.1, more EXPRS Ranged xs e i d.0 (w d.1) f.2, f.3, f.4, f.5, f.6)
put_fit last (stmt_line i s) (tables es ms vs xs ss acs ns ts cs ds ks hs) o r w f =
    (behind last 5 ms vs (omega arith) f.0, f.1, f.2, more STMTS InitAscending ss s i r w f.3, f.4, f.5, f.6)
put_fit last (action_line i c) (tables es ms vs xs ss acs ns ts cs ds ks hs) o r w f =
    (behind last 6 ms vs (omega arith) f.0, f.1, f.2, f.3, more ACTIONS Anything acs c i r tt f.4, f.5, f.6)
put_fit last (state_line i n) (tables es ms vs xs ss acs ns ts cs ds ks hs) o r w f =
    (behind last 7 ms vs (omega arith) f.0, f.1, f.2, f.3, f.4, more STATES DeferAscending ns n i r w f.5, f.6)
put_fit last (step_line t) (tables es ms vs xs ss acs ns ts cs ds ks hs) o r w f = (behind last 8 ms vs (omega arith) f.0, f.1, f.2, f.3, f.4, f.5, f.6)
put_fit last (call_line t) (tables es ms vs xs ss acs ns ts cs ds ks hs) o r w f = (behind last 9 ms vs (omega arith) f.0, f.1, f.2, f.3, f.4, f.5, f.6)
put_fit last (act_line t) (tables es ms vs xs ss acs ns ts cs ds ks hs) o r w f = (behind last 10 ms vs (omega arith) f.0, f.1, f.2, f.3, f.4, f.5, f.6)
put_fit last (start_line k) (tables es ms vs xs ss acs ns ts cs ds ks hs) o r w f = (behind last 11 ms vs (omega arith) f.0, f.1, f.2, f.3, f.4, f.5, f.6)
put_fit last (choice_line c) (tables es ms vs xs ss acs ns ts cs ds ks hs) o r w f =
    (behind last 12 ms vs (omega arith) f.0, f.1, f.2, f.3, f.4, f.5, another_choice hs c r f.6)

-- THE READING
-- P holds of the program and the choices that a result gives, if it gives any.
abbrev IfLoaded : (Program → List Choice → Type 0) → Result → Type 0
IfLoaded P (loaded p c) = P p c
IfLoaded P (refused a k) = Unit {0}

-- What is known of a program, and of its choices, that a text has been read to
pub record Prepared (p : Program) (c : List Choice) : Type 0 where
  pub is_orderly : (meets p orderly).Holds
  pub is_sized : (sized p).Holds
  pub in_range_lem : Table CHOICES InRange c

-- CHECKS IN A ROW
-- Two rows that are met make one.
meet_both : (l m : List Check) → (meet l).Holds → (meet m).Holds → (meet (l ++ m)).Holds
meet_both [] m h k = k
meet_both (c ∷ l) m h k = (h.0, meet_both l m h.1 k)

-- Where nothing is asked, it is met.
meet_free : (n : ℕ) → (meet (replicate n free)).Holds
meet_free zero = tt
meet_free (suc n) = (tt, meet_free n)

-- A numbered table is met where the check follows of every element, whatever its number is.
meet_numbered : {A : Type 0} (f : ℕ → A → Check) (n : ℕ) (l : List A) → ((n : ℕ) → All (λ x. (f n x).Holds) l) → (meet (numbered f n l)).Holds
meet_numbered f n [] h = tt
meet_numbered f n (x ∷ l) h = ((h n).0, meet_numbered f (suc n) l (λ m. (h m).1))

-- Nothing asked of a table is met too.
meet_nothing : {A : Type 0} (n : ℕ) (l : List A) → (meet (numbered (λ m x. free) n l)).Holds
meet_nothing n [] = tt
meet_nothing n (x ∷ l) = (tt, meet_nothing (suc n) l)

-- So a program is orderly where its variables, statements and states are.
meets_orderly : (p : Program) → All (λ v. is_void v.type ≡ false) p.variables → All InitAscending p.stmts → All DeferAscending p.states → (meets p orderly).Holds
meets_orderly p v s n =
    meet_both (replicate (length p.events) free) _ (meet_free (length p.events))
    (meet_both (replicate p.machines free) _ (meet_free p.machines)
    (meet_both (numbered orderly.variable 1 p.variables) _ (meet_numbered _ 1 p.variables (λ m. v))
    (meet_both (numbered orderly.expr 1 p.exprs) _ (meet_nothing 1 p.exprs)
    (meet_both (numbered orderly.stmt 1 p.stmts) _ (meet_numbered _ 1 p.stmts (λ m. s))
    (meet_both (numbered orderly.action 1 p.actions) _ (meet_nothing 1 p.actions)
    (meet_both (numbered orderly.state 1 p.states) _ (meet_numbered _ 1 p.states (λ m. n))
    (meet_both (numbered orderly.step 1 p.steps) _ (meet_nothing 1 p.steps)
    (meet_both (numbered orderly.call 1 p.calls) _ (meet_nothing 1 p.calls)
    (meet_both (numbered orderly.act 1 p.acts) _ (meet_nothing 1 p.acts) (tt, tt))))))))))

-- When all lines are read, what fits is prepared: the tables are turned round, so that the first stands first.
whole_prepared : (last k : ℕ) (a : Tables) → Fit last a → IfLoaded Prepared (whole a k)
whole_prepared last k (tables es ms vs xs ss acs ns ts cs ds [] hs) f = tt
whole_prepared last k (tables es ms vs xs ss acs ns ts cs ds (s ∷ l) hs) f =
    let p = (program_of (tables es ms vs xs ss acs ns ts cs ds (s ∷ l) hs) s).0 in
    let events = turned EVENTS Anything es f.1 in
    let exprs = turned EXPRS Ranged xs f.2 in
    let stmts = turned STMTS InitAscending ss f.3 in
    let actions = turned ACTIONS Anything acs f.4 in
    let states = turned STATES DeferAscending ns f.5 in
    let range = all_each (expr_ranged p) (reverse xs) (All-map Ranged _ (reverse xs) (λ e r. r p) exprs.each) in
    record {
      is_orderly = meets_orderly p (All-reverse _ vs f.0.not_void) stmts.each states.each;
      is_sized = (f.0.kinds_fit, (events.fits, ((λ k t. rw kept_reverse (f.0.few k t)), (exprs.fits, (stmts.fits, (actions.fits, (states.fits, range)))))));
      in_range_lem = turned CHOICES InRange hs f.6;
    }

-- Of a choice of two results, what holds of either, of the first where the test is passed, holds.
if_passed : (P : Program → List Choice → Type 0) (b : Bool) (r s : Result) → (b ≡ true → IfLoaded P r) → IfLoaded P s → IfLoaded P (cond b r s)
if_passed P true r s h k = h refl
if_passed P false r s h k = k

-- From tables that fit, the reading gives only what is prepared.
reading_prepared : (last : ℕ) (a : Tables) (k : ℕ) (ls : List (List ℕ)) → Fit last a → IfLoaded Prepared (reading last a k ls)
reading_prepared last a k [] f = whole_prepared last k a f
reading_prepared last a k ([] ∷ []) f = whole_prepared last k a f
reading_prepared last a k ((b ∷ l) ∷ []) f = tt
reading_prepared last a k (l ∷ m ∷ ls) f = go (said l) (said_well l) (λ n t. reading_prepared n t (k + 1) (m ∷ ls))
  where
    go : (o : Option Said) → IfThere WellSaid o → ((n : ℕ) (t : Tables) → Fit n t → IfLoaded Prepared (reading n t (k + 1) (m ∷ ls)))
        → IfLoaded Prepared (on_opt o (refused NotInForm k) (λ x.
        cond (ordered last x) (cond (ranged a x) (reading (kind x) (put x a) (k + 1) (m ∷ ls)) (refused OutOfRange k)) (refused NotInForm k)))
    go none w later = tt
    go (some x) w later = if_passed Prepared (ordered last x) _ _ (λ o.
        if_passed Prepared (ranged a x) _ _ (λ r. later (kind x) (put x a) (put_fit last x a o r w f)) tt) tt

-- A table with nothing in it fits.
no_table : {A : Type 0} (size : ℕ) (P : A → Type 0) → Table size P []
no_table size P = record { fits = omega arith; each = tt }

-- THE law of the reading: a program that a text is read to is prepared, and so are its choices.
pub prepared : (ls : List (List ℕ)) (p : Program) (c : List Choice) → reading 0 nothing 1 ls ≡ loaded p c → Prepared p c
prepared ls p c e = rw e at (reading_prepared 0 nothing 1 ls (
  record { kinds_fit = omega arith; none_yet = λ h. refl; few = λ k t. omega arith; not_void = tt },
  no_table EVENTS Anything,
  no_table EXPRS Ranged,
  no_table STMTS InitAscending,
  no_table ACTIONS Anything,
  no_table STATES DeferAscending,
  no_table CHOICES InRange,
))
