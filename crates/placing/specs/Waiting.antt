-- The table of the machines that have choices not yet placed, each with the place of the first of them: from there on every choice of the machine is one, since a meeting places them all.
use Rattle.std.specs.Prelude.{ℕ, ◌+◌, ◌≤◌, ◌<◌, ◌≡◌, refl, ◌≢◌, Bool, true, false, List, [], ◌∷◌, ◌++◌, eqb, length, get_or, set}
use Rattle.std.proofs.Common.{sym, ap, ◌∙◌, arith, eqb-true, length-set, get_or-set_same, get_or-set_other}
use Rattle.std.proofs.lemmas.Bool.{eqb-false}
use Rattle.regrouping.specs.Regrouped.{mine}
use Rattle.placing.specs.Placed.{owner, owner_at}
use Rattle.regrouping.specs.Mine.{mine_with, mine_without, none_left}
use Rattle.placing.specs.Written.{of_machine, part_none, part_with, part_without}

-- The first `used` rows of the table hold the machines of u, the choices before place i that are not yet placed.
pub record Waiting (cs : List ℕ) (i : ℕ) (u who since : List ℕ) (used : ℕ) : Type 0 where
  -- the table has its size, and no more rows than places were passed
  pub size : length who ≡ 4096
  pub size' : length since ≡ 4096
  pub few : used ≤ i
  -- a row's place has been passed
  pub early : (s : ℕ) → s < used → get_or since s 0 ≤ i
  -- a machine has one row
  pub single : (s t : ℕ) → s < used → t < used → get_or who s 0 ≡ get_or who t 0 → s ≡ t
  -- its choices not yet placed are all those from the row's place on
  pub known : (s : ℕ) → s < used → mine owner (get_or who s 0) u ≡ of_machine cs (get_or who s 0) (get_or since s 0) i
  -- a machine that has no row has none
  pub absent : (k : ℕ) → ((s : ℕ) → s < used → get_or who s 0 ≢ k) → mine owner k u ≡ []

-- before the first choice the table is empty
pub nobody : (cs who since : List ℕ) → length who ≡ 4096 → length since ≡ 4096 → Waiting cs 0 [] who since 0
nobody cs who since z z' = record {
  size = z;
  size' = z';
  few = omega arith;
  early = λ s l. absurd (omega arith);
  single = λ s t l m e. absurd (omega arith);
  known = λ s l. absurd (omega arith);
  absent = λ k h. refl;
}

-- an empty table: all is placed
pub all_placed : {cs : List ℕ} {i : ℕ} {u who since : List ℕ} → Waiting cs i u who since 0 → u ≡ []
all_placed {u = u} w = none_left owner u (λ k. w.absent k (λ s l. absurd (omega arith)))

module _ {cs : List ℕ} {i : ℕ} {u who since : List ℕ} {used : ℕ} (w : Waiting cs i u who since used) where
  -- the next place
  module _ (inside : i < length cs) where
    -- With its choice behind those not yet placed each row still knows its machine's.
    knows : (s : ℕ) → s < used → mine owner (get_or who s 0) (u ++ get_or cs i 0 ∷ []) ≡ of_machine cs (get_or who s 0) (get_or since s 0) (i + 1)
    knows s l = go (eqb (owner_at cs i) (get_or who s 0)) refl
      where
        go : (b : Bool) → eqb (owner_at cs i) (get_or who s 0) ≡ b → mine owner (get_or who s 0) (u ++ get_or cs i 0 ∷ []) ≡ of_machine cs (get_or who s 0) (get_or since s 0) (i + 1)
        go true e = let is = eqb-true _ _ e in
            mine_with owner (get_or who s 0) u (get_or cs i 0) is ∙ ap (λ m. m ++ get_or cs i 0 ∷ []) (w.known s l) ∙ sym (part_with cs (get_or who s 0) (get_or since s 0) i (w.early s l) inside is)
        go false e = let d = eqb-false _ _ e in
            mine_without owner (get_or who s 0) u (get_or cs i 0) d ∙ w.known s l ∙ sym (part_without cs (get_or who s 0) (get_or since s 0) i (w.early s l) inside d)

    -- THE NEXT PLACE holds a private choice of a machine that has a row.
    pub stays : (s : ℕ) → s < used → get_or who s 0 ≡ owner_at cs i → Waiting cs (i + 1) (u ++ get_or cs i 0 ∷ []) who since used
    stays s l e = record {
      size = w.size;
      size' = w.size';
      few = omega (arith, w.few);
      early = λ t m. omega (arith, w.early t m);
      single = w.single;
      known = knows;
      absent = λ k h. mine_without owner k u (get_or cs i 0) (λ q. h s l (e ∙ q)) ∙ w.absent k h;
    }

    -- a private choice of machine k, which has no row
    module _ (k : ℕ) (is : owner_at cs i ≡ k) (room : used < 4096) (new : (s : ℕ) → s < used → get_or who s 0 ≢ k) where
      -- the new row's machine
      last_name : (t : ℕ) → t ≡ used → get_or (set who used k) t 0 ≡ k
      last_name t e = rw e (get_or-set_same who used k 0 (omega (arith, w.size)))

      -- and its place
      last_place : (t : ℕ) → t ≡ used → get_or (set since used i) t 0 ≡ i
      last_place t e = rw e (get_or-set_same since used i 0 (omega (arith, w.size')))

      -- the other rows' machines
      name : (t : ℕ) → t < used → get_or (set who used k) t 0 ≡ get_or who t 0
      name t l = get_or-set_other who used t k 0 (λ e. omega (arith, e))

      -- and their places
      place : (t : ℕ) → t < used → get_or (set since used i) t 0 ≡ get_or since t 0
      place t l = get_or-set_other since used t i 0 (λ e. omega (arith, e))

      -- the choice is the first of the machine's not yet placed
      begins : mine owner k (u ++ get_or cs i 0 ∷ []) ≡ of_machine cs k i (i + 1)
      begins = mine_with owner k u (get_or cs i 0) is ∙ ap (λ m. m ++ get_or cs i 0 ∷ []) (w.absent k new ∙ sym (part_none cs k i)) ∙ sym (part_with cs k i i (omega arith) inside is)

      -- THE NEXT PLACE holds a private choice of a machine that has none: it gets one.
      pub opens : Waiting cs (i + 1) (u ++ get_or cs i 0 ∷ []) (set who used k) (set since used i) (used + 1)
      opens = record {
        size = length-set who used k ∙ w.size;
        size' = length-set since used i ∙ w.size';
        few = omega (arith, w.few);
        early = λ t m. early t m (eqb t used) refl;
        single = λ s t l m e. single s t l m e (eqb s used) refl (eqb t used) refl;
        known = λ t m. known t m (eqb t used) refl;
        absent = λ j h. mine_without owner j u (get_or cs i 0) (λ e. h used (omega arith) (last_name used refl ∙ sym is ∙ e)) ∙ w.absent j (λ t m e. h t (omega arith) (name t m ∙ e));
      }
        where
          early : (t : ℕ) → t < used + 1 → (b : Bool) → eqb t used ≡ b → get_or (set since used i) t 0 ≤ i + 1
          early t m true e = rw (last_place t (eqb-true t used e)) (omega arith)
          early t m false e = let d = eqb-false t used e in let l : t < used = omega arith in rw (place t l) (omega (arith, w.early t l))

          single : (s t : ℕ) → s < used + 1 → t < used + 1 → get_or (set who used k) s 0 ≡ get_or (set who used k) t 0 → (a : Bool) → eqb s used ≡ a → (b : Bool) → eqb t used ≡ b → s ≡ t
          single s t l m e true p true q = eqb-true s used p ∙ sym (eqb-true t used q)
          single s t l m e true p false q = let d = eqb-false t used q in let h : t < used = omega arith in absurd (new t h (sym (name t h) ∙ sym e ∙ last_name s (eqb-true s used p)))
          single s t l m e false p true q = let d = eqb-false s used p in let h : s < used = omega arith in absurd (new s h (sym (name s h) ∙ e ∙ last_name t (eqb-true t used q)))
          single s t l m e false p false q =
              let d = eqb-false s used p in
              let d' = eqb-false t used q in
              let h : s < used = omega arith in
              let h' : t < used = omega arith in
              w.single s t h h' (sym (name s h) ∙ e ∙ name t h')

          known : (t : ℕ) → t < used + 1 → (b : Bool) → eqb t used ≡ b →
              mine owner (get_or (set who used k) t 0) (u ++ get_or cs i 0 ∷ []) ≡ of_machine cs (get_or (set who used k) t 0) (get_or (set since used i) t 0) (i + 1)
          known t m true e = let q = eqb-true t used e in rw (last_name t q, last_place t q) begins
          known t m false e = let d = eqb-false t used e in let l : t < used = omega arith in rw (name t l, place t l) (knows t l)

  -- THE NEXT PLACE holds a meeting of a machine that has no row.
  pub passes : i < length cs → ((s : ℕ) → s < used → get_or who s 0 ≢ owner_at cs i) → Waiting cs (i + 1) u who since used
  passes inside gone = record {
    size = w.size;
    size' = w.size';
    few = omega (arith, w.few);
    early = λ t m. omega (arith, w.early t m);
    single = w.single;
    known = λ s l. w.known s l ∙ sym (part_without cs (get_or who s 0) (get_or since s 0) i (w.early s l) inside (λ q. gone s l (sym q)));
    absent = w.absent;
  }
