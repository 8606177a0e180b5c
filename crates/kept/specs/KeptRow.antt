-- A row stays one: parts serve the kind, a seq at the head is split, no lone skip, and the rule of 33.
use Prim.Native.Nat.{ℕ, zero, suc, ◌+◌, ◌≤◌, ◌<◌}
use Rattle.std.specs.Prelude.{◌≡◌, refl, ◌⊎◌, Bool, ◌||◌, List, [], ◌∷◌, eqb, length}
use Rattle.std.proofs.Common.{sym, ◌∙◌, inl, inr, true≢false, arith, eqb-true}
use Rattle.std.proofs.Math.Path.{ap}
use mathlib.Core.Option.{Option, none, some, none-ne-some}
use Rattle.std.proofs.Math.Bool.{true, false, cond}
use Rattle.lists.specs.Lists.{All, any, most}
use Rattle.lists.specs.Facts.{eqb_same, or_left, or_right, or_cases, and_parts, and_both, All-map, any_mono, any_has, All-has, most_has, most_ext, has, first_has, second_has}
use Rattle.lists.specs.Down.{below, downward, below_is}
use Rattle.programs.specs.Sizes.{ROW}
use Rattle.programs.specs.Program.{Program, State, Stmt, skip, assign, new, delete, send, raise, leave, return, assert, seq, if, while, stmt_at}
use Rattle.programs.specs.Statements.{is_skip, is_seq, parts, height, inside, by_action, by_state, serves}
use Rattle.machines.specs.Config.{Pending, idle, raising, returning}
use Rattle.machines.specs.Row.{onto, splits, lone, tidy}
use Rattle.soundness.specs.Founded.{Founded, Refers}
use Rattle.acceptance.specs.Accepted.{PartOk, NoSeq, counted, Heights, RowOk}

pub seq_parts : (t : Stmt) (a b : ℕ) → is_seq t ≡ some (a, b) → has a (parts t) × has b (parts t)
seq_parts skip a b e = absurd (none-ne-some _ e)
seq_parts (assign x y) a b e = absurd (none-ne-some _ e)
seq_parts (new x k is) a b e = absurd (none-ne-some _ e)
seq_parts delete a b e = absurd (none-ne-some _ e)
seq_parts (send x y z) a b e = absurd (none-ne-some _ e)
seq_parts (raise x y) a b e = absurd (none-ne-some _ e)
seq_parts leave a b e = absurd (none-ne-some _ e)
seq_parts return a b e = absurd (none-ne-some _ e)
seq_parts (assert y) a b e = absurd (none-ne-some _ e)
seq_parts (seq x y) a b e = let g = mathlib.Core.Option.some-injective _ _ e in rw (← ap (λ t. t.0) g, ← ap (λ t. t.1) g) (first_has x (y ∷ []), second_has x y [])
seq_parts (if x y z) a b e = absurd (none-ne-some _ e)
seq_parts (while x y) a b e = absurd (none-ne-some _ e)

module _ (p : Program) (founded : Founded p) where
  -- HEIGHTS
  height_is : (s : ℕ) → height p s ≡ suc (most (height p) (parts (stmt_at p s)))
  unfolding height downward
  height_is s = ap suc (most_ext (below 1 (λ f n. suc (most f (parts (stmt_at p n)))) s) (height p) (parts (stmt_at p s))
      (All-map (λ t. t < s) _ (parts (stmt_at p s)) (λ t h. below_is 1 (λ f n. suc (most f (parts (stmt_at p n)))) s t h) (founded.lower s)))

  pub height_part : (s t : ℕ) → has t (parts (stmt_at p s)) → height p t < height p s
  height_part s t h = rw (height_is s) (omega (arith, most_has t (height p) (parts (stmt_at p s)) h))

  pub height_low : (s : ℕ) → 1 ≤ height p s
  height_low s = rw (height_is s) (omega arith)

  pub height_0 : height p 0 ≡ 1
  height_0 = height_is 0

  -- WHAT SERVES A KIND
  abbrev looks : ℕ → (ℕ → Bool) → ℕ → Bool
  looks s f n = eqb n s || any f (parts (stmt_at p n))

  pub inside_self : (s : ℕ) → inside p s s ≡ true
  unfolding inside downward
  inside_self s = rw (eqb_same s)

  module _ (s t : ℕ) (h : has t (parts (stmt_at p s))) where
    look_part : (n : ℕ) (f g : ℕ → Bool) → ((i : ℕ) → f i ≡ true → g i ≡ true) → (t < n → g t ≡ true) → looks s f n ≡ true → looks t g n ≡ true
    look_part n f g k d e = go (or_cases (eqb n s) _ e)
      where
        go : (eqb n s ≡ true) ⊎ (any f (parts (stmt_at p n)) ≡ true) → looks t g n ≡ true
        go (inl a) = let q = eqb-true n s a in or_right (eqb n t) _ (rw q (any_has t g (parts (stmt_at p s)) h (d (rw q (All-has t (λ x. x < s) (parts (stmt_at p s)) h (founded.lower s))))))
        go (inr b) = or_right (eqb n t) _ (any_mono f g (parts (stmt_at p n)) k b)

    below_part : (n i : ℕ) → below false (looks s) n i ≡ true → below false (looks t) n i ≡ true
    unfolding below inside downward
    below_part zero i e = e
    below_part (suc n) i e = go (eqb i n) (below_part n) e
      where
        go : (b : Bool) → ((i : ℕ) → below false (looks s) n i ≡ true → below false (looks t) n i ≡ true) →
            cond b (looks s (below false (looks s) n) n) (below false (looks s) n i) ≡ true → cond b (looks t (below false (looks t) n) n) (below false (looks t) n i) ≡ true
        go true ih e = look_part n _ _ ih (λ l. below_is false (looks t) n t l ∙ inside_self t) e
        go false ih e = ih i e

    inside_part : (n : ℕ) → inside p s n ≡ true → inside p t n ≡ true
    unfolding inside downward
    inside_part n e = look_part n _ _ (below_part n) (λ l. below_is false (looks t) n t l ∙ inside_self t) e

    serves_part : (k : ℕ) → serves p k s ≡ true → serves p k t ≡ true
    unfolding serves
    serves_part k e = go (or_cases (any (by_action p k s) p.actions) (any (by_state p k s) p.states) e)
      where
        either : (x : State) → (inside p s x.entry ≡ true) ⊎ (inside p s x.exit ≡ true) → inside p t x.entry || inside p t x.exit ≡ true
        either x (inl a) = or_left (inside p t x.entry) (inside p t x.exit) (inside_part x.entry a)
        either x (inr b) = or_right (inside p t x.entry) (inside p t x.exit) (inside_part x.exit b)

        go : (any (by_action p k s) p.actions ≡ true) ⊎ (any (by_state p k s) p.states ≡ true) → serves p k t ≡ true
        go (inl a) = or_left (any (by_action p k t) p.actions) (any (by_state p k t) p.states) (any_mono (by_action p k s) (by_action p k t) p.actions (λ x f. let d = and_parts (eqb x.of k) (inside p s x.body) f in
            and_both (eqb x.of k) (inside p t x.body) d.0 (inside_part x.body d.1)) a)
        go (inr b) = or_right (any (by_action p k t) p.actions) (any (by_state p k t) p.states) (any_mono (by_state p k s) (by_state p k t) p.states (λ x f. let d = and_parts (eqb x.of k) (inside p s x.entry || inside p s x.exit) f in
            and_both (eqb x.of k) (inside p t x.entry || inside p t x.exit) d.0 (either x (or_cases (inside p s x.entry) (inside p s x.exit) d.1))) b)

  -- what a part of a row names is there, and of the kind
  pub part_refers : (k s : ℕ) → PartOk p k s → Refers p k (stmt_at p s)
  part_refers k s (inl z) = rw z tt
  part_refers k s (inr o) = founded.refers k s o.1

  -- a part of a part of a row may stand in the row
  pub part_part : (k s t : ℕ) → has t (parts (stmt_at p s)) → PartOk p k s → PartOk p k t
  part_part k s zero h o = inl refl
  part_part k s (suc t) h (inl e) = absurd (true≢false (sym (rw e at h)))
  part_part k s (suc t) h (inr o) = inr ((omega arith, All-has (suc t) _ (parts (stmt_at p s)) h (founded.parts_there s)), serves_part s (suc t) h k o.1)

  -- THE SPLIT
  pub onto_none : (s : ℕ) (r : List ℕ) → is_seq (stmt_at p s) ≡ none → onto p s r ≡ s ∷ r
  unfolding onto downward
  onto_none s r e = rw e

  pub onto_some : (s a b : ℕ) (r : List ℕ) → is_seq (stmt_at p s) ≡ some (a, b) → a < s → onto p s r ≡ onto p a (b ∷ r)
  unfolding onto downward
  onto_some s a b r e h = rw e (ap (λ g. g (b ∷ r)) (below_is (λ r. 0 ∷ r) (splits p) s a h))

  module _ (k : ℕ) where
    abbrev Headed : List ℕ → Type 0
    Headed [] = Unit {0}
    Headed (s ∷ r) = NoSeq p s

    record Rowed (q : ℕ) (r : List ℕ) : Type 0 where
      suited : All (PartOk p k) r
      heights : Heights p q r
      headed : Headed r

    onto_ok : (n s : ℕ) (r : List ℕ) (q : ℕ) → s < n → PartOk p k s → height p s + (length r + q) ≤ ROW → All (PartOk p k) r → Heights p q r → Rowed q (onto p s r)
    onto_ok zero s r q l o h all hs = absurd (omega arith)
    onto_ok (suc n) s r q l o h all hs = go (is_seq (stmt_at p s)) refl (onto_ok n)
      where
        go : (x : Option (ℕ × ℕ)) → is_seq (stmt_at p s) ≡ x →
            ((s : ℕ) (r : List ℕ) (q : ℕ) → s < n → PartOk p k s → height p s + (length r + q) ≤ ROW → All (PartOk p k) r → Heights p q r → Rowed q (onto p s r)) → Rowed q (onto p s r)
        go none e ih = rw (onto_none s r e) (record { suited = (o, all); heights = (h, hs); headed = e })
        go (some (a, b)) e ih =
            let m = seq_parts (stmt_at p s) a b e in
            let u = All-has a (λ t. t < s) (parts (stmt_at p s)) m.0 (founded.lower s) in
            let v = height_part s a m.0 in
            let w = height_part s b m.1 in
            rw (onto_some s a b r e u) (ih a (b ∷ r) q (omega arith) (part_part k s a m.0 o) (omega arith) (part_part k s b m.1 o, all) (omega arith, hs))

    lone_ok : (r : List ℕ) (q : Pending) → Rowed (counted q) r → RowOk p k (lone p r q) q
    lone_ok [] q h = record { suited = tt; formed = tt; heights = tt }
    lone_ok (s ∷ t ∷ r) q h = record { suited = h.suited; formed = h.headed; heights = h.heights }
    lone_ok (s ∷ []) idle h = go (is_skip (stmt_at p s)) refl
      where
        go : (b : Bool) → is_skip (stmt_at p s) ≡ b → RowOk p k (cond b [] (s ∷ [])) idle
        go true e = record { suited = tt; formed = tt; heights = tt }
        go false e = record { suited = h.suited; formed = (h.headed, e); heights = h.heights }
    lone_ok (s ∷ []) (raising e v) h = record { suited = h.suited; formed = h.headed; heights = h.heights }
    lone_ok (s ∷ []) returning h = record { suited = h.suited; formed = h.headed; heights = h.heights }

    -- THE ROW, TIDIED, IS ONE
    pub tidy_ok : (r : List ℕ) (q : Pending) → All (PartOk p k) r → Heights p (counted q) r → RowOk p k (tidy p r q) q
    tidy_ok [] q a h = lone_ok [] q (record { suited = tt; heights = tt; headed = tt })
    tidy_ok (s ∷ r) q a h = lone_ok (onto p s r) q (onto_ok (suc s) s r (counted q) (omega arith) a.0 h.0 a.1 h.1)

    -- a row with what is pending has at most 33 parts
    pub row_fits : (r : List ℕ) (q : Pending) → RowOk p k r q → length r + counted q ≤ ROW
    row_fits [] idle h = omega arith
    row_fits [] (raising e v) h = omega arith
    row_fits [] returning h = omega arith
    row_fits (s ∷ r) q h = omega (arith, height_low s, h.heights.0)
