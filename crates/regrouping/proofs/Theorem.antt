-- The regrouping theorem, over any step: where every choice but perhaps the last takes a step, it is as the user asks.
use Rattle.std.specs.Prelude.{ℕ, ◌≤◌, ◌≡◌, ◌≢◌, ◌⊎◌, Bool, true, false, eqb, length}
use Rattle.std.proofs.Math.Path.{refl}
use Rattle.std.proofs.Common.{sym, ap, subst, ◌∙◌, inl, inr, arith, length-append}
use Rattle.std.proofs.Math.Option.{Option, none, some, map, none-ne-some}
use mathlib.Core.List.Permᴰ
use mathlib.Core.List.{List, [], ◌∷◌, ◌++◌, cons-ne-nil, map-append}
use Rattle.answers.specs.declared.Answer.{Answer}
use Rattle.answers.specs.declared.Answer.TheVariants.{Done}
use Rattle.runs.specs.Outcome.{Out, took, refused, on_out}
use Rattle.runs.specs.Run.{Ended, later, run, Stepped}
use Rattle.lists.specs.Lists.{keep}
use Rattle.lists.specs.Keep.{keep_map}
use Rattle.lists.specs.Ends.{init_of, last_of, init_last, but_last, last_snoc, before_end, map_split}
use Rattle.regrouping.specs.Regrouped.{tails, weave, regrouped}
use Rattle.regrouping.specs.Demand.{choices, own_e, meet_e, label, regroup, MeetsAt, Regrouping}
use Rattle.regrouping.specs.Swaps.{Swaps, Swaps.none as still, after, swap, and_then, swaps_weave, swaps_mine, swaps_perm, swaps_length, swaps_behind, Calm, Tidy, tidy_at}
use Rattle.regrouping.proofs.Swaps.{tidy_weave}

-- ends with the same number of steps
same_ended : {C : Type 0} (c : C) (a : Answer) (m n : ℕ) → m ≡ n → ◌≡◌ {A = Ended C} (record { config = c; answer = a; steps = m }) (record { config = c; answer = a; steps = n })
same_ended c a m n e = rw e

module _ {C X R : Type 0} (step : C → X → Out C R) where
  -- the labelled list runs from c to d, each step by its rule
  abbrev pub Runs : C → List (X × R) → C → Type 0
  Runs c [] d = c ≡ d
  Runs c (e ∷ l) d = (c' : C) × (step c e.0 ≡ took e.1 c') × Runs c' l d

  module _ (own : X → ℕ) (meets : R → Bool) where
    -- more choices behind a labelled run
    runs_run : (c d : C) (m : List (X × R)) (l : List X) → Runs c m d → run step c (choices m ++ l) ≡ later (length m) (run step d l)
    runs_run c d [] l h = rw h (same_ended _ _ _ _ (omega arith))
    runs_run c d (e ∷ m) l h = rw (h.1, runs_run h.0 d m l h.2) (same_ended _ _ _ _ (omega arith))

    -- the labelled run alone
    runs_ran : (c d : C) (m : List (X × R)) → Runs c m d → run step c (choices m) ≡ record { config = d; answer = Done; steps = length (choices m) }
    runs_ran c d [] h = rw h
    runs_ran c d (e ∷ m) h = rw (h.1, runs_ran h.0 d m h.2) (same_ended _ _ _ _ (omega arith))

    -- choices that all take steps have a labelled run
    stepped_label : (c : C) (l : List X) → Stepped step c l → (m : List (X × R)) × (d : C) × (label step c l ≡ some m) × (choices m ≡ l) × Runs c m d
    stepped_label c [] h = ([], c, refl, refl, refl)
    stepped_label c (x ∷ l) h = go (stepped_label h.1 l h.3)
      where
        go : (m : List (X × R)) × (d : C) × (label step h.1 l ≡ some m) × (choices m ≡ l) × Runs h.1 m d →
            (m : List (X × R)) × (d : C) × (label step c (x ∷ l) ≡ some m) × (choices m ≡ x ∷ l) × Runs c m d
        go t = ((x, h.0) ∷ t.0, t.1, rw (h.2, t.2), ap (λ k. x ∷ k) t.3, (h.1, h.2, t.4))

    -- a labelled run in two parts
    runs_split : (c d : C) (l m : List (X × R)) → Runs c (l ++ m) d → (k : C) × Runs c l k × Runs k m d
    runs_split c d [] m h = (c, refl, h)
    runs_split c d (e ∷ l) m h = let t = runs_split h.0 d l m h.2 in (t.0, (h.0, h.1, t.1), t.2)

    -- a list of at most one choice is left as it is
    short : (c : C) (l : List X) → length l ≤ 1 → Regrouping step own meets c l l
    short c l h = record {
      same_choices = Permᴰ.refl l;
      in_order = λ k. refl;
      same_last = refl;
      changes = λ p a b q e d. absurd (omega (arith, simp length-append at (ap length e)));
      same_end = refl;
    }

    -- THE HYPOTHESES. Inv is what is known of a configuration and of what is still to run from it; the least is that the runtime accepts it.
    module _ (Inv : C → List (X × R) → Type 0)
        (inv_step : (c d : C) (x : X × R) (l : List (X × R)) → Inv c (x ∷ l) → step c x.0 ≡ took x.1 d → Inv d l)
        (inv_swaps : (c : C) (l m : List (X × R)) → Swaps (own_e R own) (meet_e X meets) l m → Inv c l → Inv c m)
        (commute : (c c₁ c₂ : C) (x y : X × R) (l : List (X × R)) → Inv c (x ∷ y ∷ l) → own x.0 ≢ own y.0 → meets x.1 ≡ false →
        step c x.0 ≡ took x.1 c₁ → step c₁ y.0 ≡ took y.1 c₂ →
        (c₃ : C) × (step c y.0 ≡ took y.1 c₃) × (step c₃ x.0 ≡ took x.1 c₂)) where
      -- moved private entries leave a run a run, to the same end
      swaps_runs : {l m : List (X × R)} (c d : C) → Swaps (own_e R own) (meet_e X meets) l m → Inv c l → Runs c l d → Runs c m d
      swaps_runs c d still i h = h
      swaps_runs c d (after {x = x} {l = l} s) i h = (h.0, h.1, swaps_runs h.0 d s (inv_step c h.0 x l i h.1) h.2)
      swaps_runs c d (swap {x = x} {y = y} {l = l} p q) i h =
          let t = commute c h.0 h.2.0 x y l i q p h.1 h.2.1 in (t.0, t.1, (h.2.0, t.2, h.2.2))
      swaps_runs c d (and_then {l = l} {m = m} s t) i h = swaps_runs c d t (inv_swaps c l m s i) (swaps_runs c d s i h)

      -- a tidy labelled run changes machine only straight after a meeting or after a machine's last choice
      changes_at : (c d : C) (w : List (X × R)) (z : X × R) → Tidy (own_e R own) (meet_e X meets) (w ++ z ∷ []) → Runs c w d → (p : List X) (a b : X) (q : List X) →
          choices (w ++ z ∷ []) ≡ p ++ a ∷ b ∷ q → own a ≢ own b → MeetsAt step own meets c p a ⊎ (keep (λ x. eqb (own x) (own a)) (b ∷ q) ≡ [])
      changes_at c d w z t h p a b q e diff = let s = map_split (λ e. e.0) (w ++ z ∷ []) p (a ∷ b ∷ q) e in go s.0 s.1 s.2 s.3 s.4
        where
          meets_at : (P : List (X × R)) (A : X × R) (r : List (X × R)) → choices P ≡ p → A.0 ≡ a → meets A.1 ≡ true →
              (k : C) × Runs c P k × Runs k (A ∷ r) d → MeetsAt step own meets c p a
          meets_at P A r ep ea m (k, h₁, h₂) = (k, A.1, h₂.0, rw (← ep) (runs_ran c k P h₁), rw ea at h₂.1, m)

          by_kind : (P : List (X × R)) (A B : X × R) (Q : List (X × R)) → w ++ z ∷ [] ≡ P ++ A ∷ B ∷ Q → choices P ≡ p →
              A.0 ≡ a → B.0 ≡ b → choices Q ≡ q → Calm (own_e R own) (meet_e X meets) A (B ∷ Q) → MeetsAt step own meets c p a ⊎ (keep (λ x. eqb (own x) (own a)) (b ∷ q) ≡ [])
          by_kind P A B Q es ep ea eb eq (inl o) = absurd (diff (cc))
          by_kind P A B Q es ep ea eb eq (inr (inl m)) =
              inl (meets_at P A (init_of B Q) ep ea m (runs_split c d P (A ∷ init_of B Q) (rw (before_end w z P A B Q es) at h)))
          by_kind P A B Q es ep ea eb eq (inr (inr n)) = inr (subst (λ (m : X). keep (λ x. eqb (own x) (own m)) (b ∷ q) ≡ []) ea (rw (← eb, ← eq) (keep_map (λ x. eqb (own x) (own A.0)) (λ e. e.0) (B ∷ Q) ∙ ap choices n)))

          go : (P Q : List (X × R)) → w ++ z ∷ [] ≡ P ++ Q → choices P ≡ p → choices Q ≡ a ∷ b ∷ q →
              MeetsAt step own meets c p a ⊎ (keep (λ x. eqb (own x) (own a)) (b ∷ q) ≡ [])
          go P [] es ep eq = absurd (cons-ne-nil a (b ∷ q) (sym eq))
          go P (A ∷ []) es ep eq = absurd (cons-ne-nil b q (cc))
          go P (A ∷ B ∷ Q) es ep eq = by_kind P A B Q es ep (cc) (cc) (cc) (tidy_at (own_e R own) (meet_e X meets) P A (B ∷ Q) (rw es at t))

      -- what the labelled run says of the choices, where z is an entry for the last choice: its rule is never looked at
      core : (c d : C) (m : List (X × R)) (z : X × R) → Inv c m → Runs c m d →
          Regrouping step own meets c (choices (m ++ z ∷ [])) (choices (regrouped (own_e R own) (meet_e X meets) (own z.0) m ++ z ∷ []))
      core c d m z i h = record {
        same_choices = Permᴰ.map (λ e. e.0) (swaps_perm (own_e R own) (meet_e X meets) both);
        in_order = λ k. keep_map _ _ (w ++ z ∷ []) ∙ ap choices (swaps_mine (own_e R own) (meet_e X meets) k both) ∙ sym (keep_map _ _ (m ++ z ∷ []));
        same_last = rw (map-append (λ e. e.0) w, map-append (λ e. e.0) m, last_snoc (choices w), last_snoc (choices m));
        changes = changes_at c d w z (tidy_weave (own_e R own) (meet_e X meets) z m []) there;
        same_end = rw (map-append (λ e. e.0) w, map-append (λ e. e.0) m, runs_run c d w (z.0 ∷ []) there, runs_run c d m (z.0 ∷ []) h, swaps_length (own_e R own) (meet_e X meets) moved);
      }
        where
          w : List (X × R)
          w = regrouped (own_e R own) (meet_e X meets) (own z.0) m

          moved : Swaps (own_e R own) (meet_e X meets) m w
          moved = swaps_weave (own_e R own) (meet_e X meets) (own z.0) m [] tt

          both : Swaps (own_e R own) (meet_e X meets) (m ++ z ∷ []) (w ++ z ∷ [])
          both = swaps_behind (own_e R own) (meet_e X meets) (z ∷ []) moved

          there : Runs c w d
          there = swaps_runs c d moved i h

      -- THE THEOREM. Where every choice but perhaps the last takes a step, the list is regrouped, and so as the user asks.
      pub regroup_good : (c : C) (l : List X) → Stepped step c (but_last l) → ((m : List (X × R)) → label step c (but_last l) ≡ some m → Inv c m) →
          (m : List X) × (regroup step own meets c l ≡ some m) × Regrouping step own meets c l m
      unfolding regroup weave tails
      regroup_good c [] h i = ([], refl, short c [] (omega arith))
      regroup_good c (x ∷ []) h i = (x ∷ [], refl, short c (x ∷ []) (omega arith))
      regroup_good c (x ∷ y ∷ l) h i = go (stepped_label c (init_of x (y ∷ l)) h)
        where
          -- The last choice needs an entry: it is given the rule of the first choice, which takes a step.
          go : (m : List (X × R)) × (d : C) × (label step c (init_of x (y ∷ l)) ≡ some m) × (choices m ≡ init_of x (y ∷ l)) × Runs c m d →
              (m : List X) × (regroup step own meets c (x ∷ y ∷ l) ≡ some m) × Regrouping step own meets c (x ∷ y ∷ l) m
          go (m, d, el, em, s) = (
            choices (regrouped (own_e R own) (meet_e X meets) (own (last_of y l)) m) ++ last_of y l ∷ [],
            rw el,
            rw (map-append (λ e. e.0) m, map-append, em, init_last y l) at (core c d m (last_of y l, h.0) (i m el) s),
          )

    -- choices that have labels all take steps
    label_stepped : (c : C) (l : List X) (m : List (X × R)) → label step c l ≡ some m → Stepped step c l
    label_stepped c [] m e = tt
    label_stepped c (x ∷ l) m e = out (step c x) refl e (λ d n f. label_stepped d l n f)
      where
        tail : (r : R) (d : C) (o : Option (List (X × R))) → label step d l ≡ o → map (λ m. (x, r) ∷ m) o ≡ some m → ((n : List (X × R)) → label step d l ≡ some n → Stepped step d l) → Stepped step d l
        tail r d none f e k = absurd (none-ne-some _ e)
        tail r d (some n) f e k = k n f

        out : (o : Out C R) → step c x ≡ o → on_out o (λ r d. map (λ m. (x, r) ∷ m) (label step d l)) (λ a. none) ≡ some m →
            ((d : C) (n : List (X × R)) → label step d l ≡ some n → Stepped step d l) → Stepped step c (x ∷ l)
        out (took r d) f e k = (r, d, f, tail r d (label step d l) refl e (k d))
        out (refused a) f e k = absurd (none-ne-some _ e)

    -- Answer 22 is given only where a choice before the last takes no step.
    pub regroup_22 : (c : C) (l : List X) → regroup step own meets c l ≡ none → Stepped step c (but_last l) → ⊥
    unfolding regroup
    regroup_22 c [] e h = none-ne-some _ (sym e)
    regroup_22 c (x ∷ l) e h = let t = stepped_label c (init_of x l) h in none-ne-some _ (sym (rw t.2 at e))

    -- It is given wherever one takes no step: where there is a regrouped list, they all take steps.
    pub regroup_0 : (c : C) (l m : List X) → regroup step own meets c l ≡ some m → Stepped step c (but_last l)
    unfolding regroup
    regroup_0 c [] m e = tt
    regroup_0 c (x ∷ l) m e = go (label step c (init_of x l)) refl e
      where
        go : (o : Option (List (X × R))) → label step c (init_of x l) ≡ o →
            map (λ m. choices (regrouped (own_e R own) (meet_e X meets) (own (last_of x l)) m) ++ last_of x l ∷ []) o ≡ some m → Stepped step c (init_of x l)
        go none f e = absurd (none-ne-some _ e)
        go (some n) f e = label_stepped c (init_of x l) n f
