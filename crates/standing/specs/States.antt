-- The states of a program, read back from their columns and from the flags of what they defer.
use Rattle.std.specs.Prelude.{ℕ, zero, suc, ◌+◌, ◌*◌, ◌≤◌, ◌<◌, ◌≡◌, refl, Bool, true, false, cond, not, ◌&&◌, ◌||◌, List, [], ◌∷◌, ◌++◌, map, eqb, ltb, length, get_or, replicate}
use Rattle.std.proofs.Common.{ap, sym, ◌∙◌, arith, ne_eqb}
use Rattle.std.proofs.Math.Logic.{dite}
use Rattle.std.proofs.Math.Decide.{ℕ_discrete}
use Rattle.std.proofs.lemmas.List.{length-replicate}
use Rattle.lists.specs.Lists.{All, There, any, keep, push, flat}
use Rattle.lists.specs.Facts.{eqb_same, flag_back, and_parts, All-map, All-at, All-zip}
use Rattle.lists.specs.Keep.{keep_ext}
use Rattle.lists.specs.Tells.{every, there_is, less}
use Rattle.rows.specs.Pad.{pad}
use Rattle.rows.specs.Seek.{table, table_at}
use Rattle.programs.specs.Sizes.{EVENTS, STATES}
use Rattle.programs.specs.Program.{State}
use Rattle.soundness.specs.Asked.{ascending}
use Rattle.tables.specs.Decode.{no_state, flag, defer_of, states_of}
use Rattle.tables.specs.Numbered.{table_all}
use Rattle.tabled.specs.Widths.{flag_length}
use Rattle.tabled.specs.Tabled.{word_of, deferrable, state_kind, flag_row, state_kinds, state_entries, state_exits, defer_table}
use Rattle.standing.specs.Stood.{state_stood}
use Rattle.standing.specs.Columns.{table_reads, head_get, column_get, row_after}

-- WHAT IS KEPT OF THE NUMBERS FROM k ON
-- two tests that agree from k on keep the same
keep_alike : (f g : ℕ → Bool) (k n : ℕ) → ((e : ℕ) → k ≤ e → e < k + n → f e ≡ g e) → keep f (table (λ e. e) k n) ≡ keep g (table (λ e. e) k n)
keep_alike f g k n h = keep_ext f g (table (λ e. e) k n) (table_all (λ e. f e ≡ g e) (λ e. e) k n h)

-- the numbers of an ascending list lie above its first
rising : (x : ℕ) (l : List ℕ) → ascending (x ∷ l) ≡ true → All (λ y. x < y) l × (ascending l ≡ true)
rising x [] h = (tt, refl)
rising x (y ∷ l) h =
    let a = and_parts (ltb x y) (ascending (y ∷ l)) h in
    let b : x < y = (less x y).holds a.0 in
    ((b, All-map (λ z. y < z) (λ z. x < z) l (λ z c. omega arith) (rising y l a.1).0), a.1)

-- a number is not among larger ones
not_among : (e : ℕ) (l : List ℕ) → All (λ y. e < y) l → any (eqb e) l ≡ false
not_among e [] h = refl
not_among e (y ∷ l) h = rw (ne_eqb e y (λ q. omega (arith, h.0))) (not_among e l h.1)

-- of the n numbers from k on, those in an ascending list of them are the list
kept_list : (n k : ℕ) (l : List ℕ) → ascending l ≡ true → All (λ e. (k ≤ e) × (e < k + n)) l → keep (λ e. any (eqb e) l) (table (λ e. e) k n) ≡ l
unfolding table
kept_list zero k [] a h = refl
kept_list zero k (x ∷ l) a h = absurd (omega (arith, h.0))
kept_list (suc n) k [] a h = kept_list n (k + 1) [] a tt
kept_list (suc n) k (x ∷ l) a h = dite (ℕ_discrete x k)
    (λ q. here q (kept_list n (k + 1) l (rising x l a).1))
    (λ q. above (λ z. q (sym z)) (kept_list n (k + 1) (x ∷ l) a))
  where
    up : All (λ y. x < y) l
    up = (rising x l a).0

    here : x ≡ k → (All (λ e. (k + 1 ≤ e) × (e < k + 1 + n)) l → keep (λ e. any (eqb e) l) (table (λ e. e) (k + 1) n) ≡ l)
        → push (eqb k x || any (eqb k) l) k (keep (λ e. any (eqb e) (x ∷ l)) (table (λ e. e) (k + 1) n)) ≡ x ∷ l
    here q later =
        let first : eqb k x || any (eqb k) l ≡ true = rw (q, eqb_same k) in
        let alike = keep_alike (λ e. any (eqb e) (x ∷ l)) (λ e. any (eqb e) l) (k + 1) n (λ e b c. rw (ne_eqb e x (λ z. omega arith))) in
        let rest = alike ∙ later (All-zip (λ y. x < y) _ _ l (λ y b c. (omega arith, omega (arith, c.1))) up h.1) in
        ap (λ (b : Bool). push b k (keep (λ e. any (eqb e) (x ∷ l)) (table (λ e. e) (k + 1) n))) first ∙ (λ j. sym q j ∷ rest j)

    above : (k ≡ x → ⊥) → (All (λ e. (k + 1 ≤ e) × (e < k + 1 + n)) (x ∷ l) → keep (λ e. any (eqb e) (x ∷ l)) (table (λ e. e) (k + 1) n) ≡ x ∷ l)
        → push (eqb k x || any (eqb k) l) k (keep (λ e. any (eqb e) (x ∷ l)) (table (λ e. e) (k + 1) n)) ≡ x ∷ l
    above q later =
        let low : k < x = omega (arith, h.0.0) in
        let none = not_among k (x ∷ l) (low, All-map (λ y. x < y) (λ y. k < y) l (λ y b. omega arith) up) in
        ap (λ (b : Bool). push b k (keep (λ e. any (eqb e) (x ∷ l)) (table (λ e. e) (k + 1) n))) none
        ∙ later ((omega arith, omega (arith, h.0.1)), All-zip (λ y. x < y) _ _ l (λ y b c. (omega arith, omega (arith, c.1))) up h.1)

-- WHAT A STATE DEFERS
-- its flags
abbrev flagged : State → ℕ → Bool
flagged n e = deferrable n && any (eqb e) n.defer

-- the events flagged
defer_back : (n : State) → ascending n.defer ≡ true → keep (flagged n) (table (λ e. e) 1 EVENTS) ≡ cond (deferrable n) n.defer []
defer_back n a = go (deferrable n) refl
  where
    go : (b : Bool) → deferrable n ≡ b → keep (λ e. b && any (eqb e) n.defer) (table (λ e. e) 1 EVENTS) ≡ cond b n.defer []
    go true q = kept_list EVENTS 1 n.defer a (All-map (There EVENTS) _ n.defer (λ e b. (b.0, omega (arith, b.1))) ((every n.defer (there_is EVENTS)).holds q))
    go false q = kept_list EVENTS 1 [] refl tt

-- THE STATES
pub states_read : (ns : List State) → length ns ≤ STATES → All (λ n. ascending n.defer ≡ true) ns
    → states_of (state_kinds ns) (state_entries ns) (state_exits ns) (defer_table ns) ≡ map state_stood ns
unfolding states_of state_kinds state_entries state_exits defer_of defer_table
states_read ns h a = table_reads _ state_stood no_state _ STATES ns (head_get 65 (length ns) _) h (λ i b. λ j. record {
  of = column_get state_kind no_state 65 (length ns) ns i b j;
  defer = defers i b j;
  entry = column_get (λ n. word_of n.entry) no_state 65 0 ns i b j;
  exit = column_get (λ n. word_of n.exit) no_state 65 0 ns i b j;
})
  where
    -- the flag of state i and event e
    flag_get : (i : ℕ) → i < length ns → (e : ℕ) → e < 65 → flag (pad 0 4225 (replicate 65 0 ++ flat flag_row ns)) (1 + i) e ≡ flagged (get_or ns i no_state) e
    flag_get i b e h =
        let g = row_after flag_row 65 no_state flag_length 4225 (replicate 65 0) ns i e ((1 + i) * 65 + e) (length-replicate {A = ℕ} 65 0) b h (omega arith) in
        ap (λ (n : ℕ). not (eqb n 0)) (g ∙ table_at (λ d. cond (deferrable (get_or ns i no_state) && any (eqb d) (get_or ns i no_state).defer) 1 0) 0 65 e h)
        ∙ flag_back (flagged (get_or ns i no_state) e)

    -- what state i defers
    defers : (i : ℕ) → i < length ns → keep (flag (pad 0 4225 (replicate 65 0 ++ flat flag_row ns)) (1 + i)) (table (λ e. e) 1 EVENTS) ≡ (state_stood (get_or ns i no_state)).defer
    defers i b = keep_alike (flag (pad 0 4225 (replicate 65 0 ++ flat flag_row ns)) (1 + i)) (flagged (get_or ns i no_state)) 1 EVENTS (λ e c d. flag_get i b e (omega arith))
        ∙ defer_back (get_or ns i no_state) (All-at (λ n. ascending n.defer ≡ true) no_state ns i b a)
