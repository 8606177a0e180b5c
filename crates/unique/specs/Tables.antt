-- Tables that are worked out of a program, and the marks of what was named: every place of them is said.
use Rattle.std.specs.Prelude.{ℕ, zero, suc, ◌+◌, ◌*◌, ◌/◌, ◌%◌, ◌≤◌, ◌<◌, ◌≡◌, refl, Bool, true, false, not, List, [], eqb, length, get_or}
use Rattle.std.specs.Borrow.{Bor}
use Rattle.std.proofs.Common.{sym, ◌∙◌, true≢false, arith, eq-eqb, ne_eqb, ext_get_or}
use Rattle.std.proofs.Math.Logic.{dite}
use Rattle.std.proofs.Math.Bool.{not-not}
use Rattle.std.proofs.Math.Decide.{ℕ_discrete}
use Rattle.lists.specs.Lists.{any, keep, push, There, there}
use Rattle.lists.specs.Tells.{Tells, there_is}
use Rattle.rows.specs.Seek.{table}
use Rattle.programs.specs.Program.{Program, Move, Variable}
use Rattle.tables.specs.declared.Program.{Program as Lent}
use Rattle.tables.specs.Decode.{program_of, variables_of, exprs_of, stmts_of, actions_of, states_of}
use Rattle.index.specs.declared.Index.{Index}
use Rattle.index.specs.Index.{said_at, Said, Says, Placed}
use Rattle.marks.specs.declared.Inner.{Inner}
use Rattle.marks.specs.declared.Inner.TheVariants.{Nothing, One, Two}
use Rattle.marks.specs.Inner.{listed}
use Rattle.marks.specs.Climbs.{Climbs}
use Rattle.marks.specs.Tall.{Over}
use Rattle.marks.specs.Flow.{flowed}
use Rattle.marks.specs.Sheet.{Marking}
use Rattle.marks.specs.Marks.{Heights, Served, Stated, Peopled}
use Rattle.expr_marks.specs.Naming.{ExprServed}
use Rattle.faults.specs.declared.Counts.{Counts}
use Rattle.faults.specs.Read.{Counting}
use Rattle.doubling.specs.Doubling.{Seen, Named}
use Rattle.unique.specs.Forms.{lined}

-- INDEX: `say`, every place of whose table is said
pub say_one : (steps calls acts : List Move) (r s : List ℕ) → Said steps calls acts r → Said steps calls acts s → r ≡ s
say_one steps calls acts r s h k = ext_get_or 0 r s (h.size ∙ sym k.size) (λ i b. go i (omega (arith, h.size)))
  where
    go : (i : ℕ) → i < 12675 → get_or r i 0 ≡ get_or s i 0
    go i b = dite (ℕ_discrete (i % 3) 0)
        (λ z. let q : i ≡ said_at (i / 195) (i / 3 % 65) = omega (arith, z) in rw q (h.step n e hn he ∙ sym (k.step n e hn he)))
        (λ z. dite (ℕ_discrete (i % 3) 1)
        (λ y. let q : i ≡ said_at (i / 195) (i / 3 % 65) + 1 = omega (arith, y) in rw q (h.call n e hn he ∙ sym (k.call n e hn he)))
        (λ y. let q : i ≡ said_at (i / 195) (i / 3 % 65) + 2 = omega (arith, z, y) in rw q (h.act n e hn he ∙ sym (k.act n e hn he))))
      where
        n : ℕ
        n = i / 195

        e : ℕ
        e = i / 3 % 65

        hn : n ≤ 64
        hn = omega arith

        he : e ≤ 64
        he = omega arith

-- the places of variables
placed_one : (variables : List Variable) (r s : List ℕ) → Placed variables r → Placed variables s → r ≡ s
placed_one variables r s h k = ext_get_or 0 r s (h.size ∙ sym k.size) (λ x b. go x (there (length variables) x) (there_is (length variables) x))
  where
    go : (x : ℕ) (b : Bool) → Tells b (There (length variables) x) → get_or r x 0 ≡ get_or s x 0
    go x true t = let y = t.holds refl in h.place x y ∙ sym (k.place x y)
    go x false t = let y : There (length variables) x → ⊥ = λ a. true≢false (sym (t.test a)) in h.none x y ∙ sym (k.none x y)

-- `index::place_all`
pub place_all_one : (kinds r s : List ℕ) → ((types : List ℕ) → Placed (variables_of kinds types) r) → ((types : List ℕ) → Placed (variables_of kinds types) s) → r ≡ s
place_all_one kinds r s h k = placed_one (variables_of kinds []) r s (h []) (k [])

-- `index::Index::of`, of the program that is lent
pub index_one : (q : Lent) (r s : Index) → Says (program_of q) r.says → ((types : List ℕ) → Placed (variables_of q.variable_of types) r.places)
    → Says (program_of q) s.says → ((types : List ℕ) → Placed (variables_of q.variable_of types) s.places) → r ≡ s
index_one q r s a b c d = λ i. record {
  says = say_one (program_of q).steps (program_of q).calls (program_of q).acts r.says s.says a c i;
  places = place_all_one q.variable_of r.places s.places b d i;
}

-- MARKS: `marks::heights`
pub heights_one : (stmts r s : List ℕ) → ((p : Program) → Stated stmts p → Heights p r) → ((p : Program) → Stated stmts p → Heights p s) → r ≡ s
heights_one stmts r s h k = ext_get_or 0 r s (a.size ∙ sym b.size) (λ i l. a.height_of i (omega (arith, a.size)) ∙ sym (b.height_of i (omega (arith, a.size))))
  where
    p : Program
    p = lined [] 0 [] [] (stmts_of stmts []) [] [] [] [] [] 0

    a : Heights p r
    a = h p (record { inits = []; same = refl })

    b : Heights p s
    b = k p (record { inits = []; same = refl })

-- a table of marks
marking_one : (n : ℕ) (f : ℕ → ℕ → Bool) (r s : List ℕ) → Marking n f r → Marking n f s → r ≡ s
marking_one n f r s h k = ext_get_or 0 r s (h.size ∙ sym k.size) (λ i b.
    let e : i ≡ i / 1025 * 1025 + i % 1025 = omega arith in
    let x : i / 1025 ≤ 16 = omega (arith, h.size) in
    let y : i % 1025 ≤ 1024 = omega arith in
    rw e (h.mark_at (i / 1025) (i % 1025) x y ∙ sym (k.mark_at (i / 1025) (i % 1025) x y)))

-- `marks::served`
pub served_one : (stmts kinds bodies state_kinds entries exits r s : List ℕ) → ((p : Program) → Peopled stmts kinds bodies state_kinds entries exits p → Served p r)
    → ((p : Program) → Peopled stmts kinds bodies state_kinds entries exits p → Served p s) → r ≡ s
served_one stmts kinds bodies state_kinds entries exits r s h k = marking_one _ _ r s (h p peopled) (k p peopled)
  where
    p : Program
    p = lined [] 0 [] [] (stmts_of stmts []) (actions_of kinds bodies) (states_of state_kinds entries exits []) [] [] [] 0

    peopled : Peopled stmts kinds bodies state_kinds entries exits p
    peopled = record { stated = record { inits = []; same = refl }; flags = []; same_actions = refl; same_states = refl }

-- `expr_marks::expr_served`, where the table that it is lent is a program's
pub expr_served_one : (exprs stmts inits served r s : List ℕ) (p : Program) → p.exprs ≡ exprs_of exprs → p.stmts ≡ stmts_of stmts inits → Served p served
    → ((p : Program) → p.exprs ≡ exprs_of exprs → p.stmts ≡ stmts_of stmts inits → Served p served → ExprServed p r)
    → ((p : Program) → p.exprs ≡ exprs_of exprs → p.stmts ≡ stmts_of stmts inits → Served p served → ExprServed p s) → r ≡ s
expr_served_one exprs stmts inits served r s p e f t h k = marking_one _ _ r s (h p e f t) (k p e f t)

-- `marks`: parts_of, operands_of
pub inner_one : (l : List ℕ) (r s : Inner) → listed r ≡ l → listed s ≡ l → r ≡ s
inner_one l r s h k = go r s (h ∙ sym k)
  where
    go : (r s : Inner) → listed r ≡ listed s → r ≡ s
    go Nothing Nothing e = refl
    go Nothing (One a) e = absurd (let z : ◌≡◌ {A = ℕ} 0 1 = cc in omega arith)
    go Nothing (Two a b) e = absurd (let z : ◌≡◌ {A = ℕ} 0 1 = cc in omega arith)
    go (One a) Nothing e = absurd (let z : ◌≡◌ {A = ℕ} 0 1 = cc in omega arith)
    go (One a) (One b) e = cc
    go (One a) (Two b c) e = absurd (let z : ◌≡◌ {A = ℕ} 0 1 = cc in omega arith)
    go (Two a b) Nothing e = absurd (let z : ◌≡◌ {A = ℕ} 0 1 = cc in omega arith)
    go (Two a b) (One c) e = absurd (let z : ◌≡◌ {A = ℕ} 0 1 = cc in omega arith)
    go (Two a b) (Two c d) e = cc

-- `marks::height_over`
pub over_one : (l : List ℕ) (n : ℕ) (ts : List ℕ) (r s : ℕ) → Over l n ts r → Over l n ts s → r ≡ s
over_one l n ts r s h k = h.0 ∙ sym k.0

-- `marks::climb`, where what is worked out of a table and a number is determined
pub climb_one : {A : Type 0} (said : Bor (List A) → ℕ → A → Type 0) → ((k j : Bor (List A)) (m : ℕ) (x y : A) → k.now ≡ j.now → said k m x → said j m y → x ≡ y)
    → (first : List A) (n : ℕ) (r s : List A) → Climbs said first n r → Climbs said first n s → r ≡ s
climb_one said same first zero r s h k = h ∙ sym k
climb_one said same first (suc n) r s h k =
    let e : h.lower.now ≡ k.lower.now = climb_one said same first n h.lower.now k.lower.now h.lent k.lent in
    h.stored ∙ rw (e, same h.lower k.lower (suc n) h.item k.item e h.worked k.worked) (sym k.stored)

-- `marks::flow`, where what each number holds is determined
pub flow_one : (said : ℕ → Inner → Type 0) (kids : ℕ → List ℕ) → ((m : ℕ) (i : Inner) → said m i → listed i ≡ kids m) → (b n : ℕ) (l r s : List ℕ)
    → ((kids : ℕ → List ℕ) → ((m : ℕ) (i : Inner) → said m i → listed i ≡ kids m) → r ≡ flowed kids b n l)
    → ((kids : ℕ → List ℕ) → ((m : ℕ) (i : Inner) → said m i → listed i ≡ kids m) → s ≡ flowed kids b n l) → r ≡ s
flow_one said kids told b n l r s h k = h kids told ∙ sym (k kids told)

-- `faults::count_rows`
pub counts_one : (types : List ℕ) (kinds : ℕ) (owners trees steps actors places : List ℕ) (c d : Counts) → Counting types kinds owners trees steps actors places c
    → Counting types kinds owners trees steps actors places d → c ≡ d
counts_one types kinds owners trees steps actors places c d h k = λ i. record {
  events = (h.events ∙ sym k.events) i;
  kinds = (h.machines ∙ sym k.machines) i;
  variables = (h.variables ∙ sym k.variables) i;
  exprs = (h.exprs ∙ sym k.exprs) i;
  stmts = (h.stmts ∙ sym k.stmts) i;
  actions = (h.actions ∙ sym k.actions) i;
  states = (h.states ∙ sym k.states) i;
}

-- WHAT WAS NAMED, where the marks are these: the numbers whose mark is set
abbrev marked_from : List ℕ → ℕ → ℕ → List ℕ
marked_from seen i n = keep (λ x. not (eqb (get_or seen x 0) 0)) (table (λ x. x) i n)

-- none of them is lower than the first that is looked at,
marked_low : (seen : List ℕ) (x i n : ℕ) → x < i → any (eqb x) (marked_from seen i n) ≡ false
unfolding table
marked_low seen x i zero h = refl
marked_low seen x i (suc n) h = go (not (eqb (get_or seen i 0) 0)) (marked_low seen x (i + 1) n (omega arith))
  where
    go : (b : Bool) → any (eqb x) (marked_from seen (i + 1) n) ≡ false → any (eqb x) (push b i (marked_from seen (i + 1) n)) ≡ false
    go true e = rw (ne_eqb x i (λ q. omega arith)) e
    go false e = e

-- and each that is looked at is one of them where its mark is set
marked_at : (seen : List ℕ) (x i n : ℕ) → i ≤ x → x < i + n → any (eqb x) (marked_from seen i n) ≡ not (eqb (get_or seen x 0) 0)
unfolding table
marked_at seen x i zero h k = absurd (omega arith)
marked_at seen x i (suc n) h k = dite (ℕ_discrete x i)
    (λ e. rw e (here (not (eqb (get_or seen i 0) 0))))
    (λ e. behind e (not (eqb (get_or seen i 0) 0)) (marked_at seen x (i + 1) n (omega (arith, e)) (omega arith)))
  where
    here : (b : Bool) → any (eqb i) (push b i (marked_from seen (i + 1) n)) ≡ b
    here true = rw (eq-eqb i i refl)
    here false = marked_low seen i (i + 1) n (omega arith)

    behind : (x ≡ i → ⊥) → (b : Bool) → any (eqb x) (marked_from seen (i + 1) n) ≡ not (eqb (get_or seen x 0) 0) → any (eqb x) (push b i (marked_from seen (i + 1) n)) ≡ not (eqb (get_or seen x 0) 0)
    behind e true q = rw (ne_eqb x i e) q
    behind e false q = q

-- `doubling`: name, name_two, name_exprs, name_parts, name_operands
pub named_one : (seen names : List ℕ) → length seen ≡ 65536 → (r s : Bool) (l m : List ℕ) → Named seen names r l → Named seen names s m → (r ≡ s) × (l ≡ m)
named_one seen names size r s l m h k = (h.tells p before marks ∙ sym (k.tells p before marks), h.marks ∙ sym k.marks)
  where
    p : Program
    p = lined [] 0 [] [] [] [] [] [] [] [] 0

    before : List ℕ
    before = marked_from seen 0 65536

    marks : Seen seen before
    marks = record { size = size; mark = λ x b. sym (rw (marked_at seen x 0 65536 (omega arith) b) (not-not (eqb (get_or seen x 0) 0))) }
