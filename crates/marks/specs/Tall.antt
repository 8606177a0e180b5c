-- Heights worked out upward: what each number holds is lower, so when a number's turn comes the heights of all lower ones stand in the table.
use Prim.Native.Nat.{ℕ, zero, suc, ◌+◌, ◌≤◌, ◌<◌, max}
use Rattle.std.specs.Prelude.{◌≡◌, cond, ltb, length, get_or, set, take, replicate}
use Rattle.std.proofs.Math.Path.{refl, ap, fun_ext}
use Rattle.std.proofs.Common.{sym, ◌∙◌, ⊎_elim, add-one, arith, lt-ltb, le-ltb, ne_eqb, length-set, get_or-set_same, get_or-set_other}
use mathlib.Core.List.{List, [], ◌∷◌}
use Rattle.std.proofs.lemmas.List.{get_or-take, get_or_default, length-take, length-replicate, get_or-replicate}
use Rattle.std.specs.Borrow.{Bor}
use Rattle.std.proofs.Math.ListN.{get_or-eq_default}
use Rattle.std.proofs.Math.Logic.{dite}
use Rattle.std.proofs.Math.Decide.{ℕ_discrete}
use Rattle.lists.specs.Lists.{most}
use Rattle.lists.specs.Down.{below, downward, below_is}
use Rattle.rows.specs.Pad.{below?}
use Rattle.programs.specs.Sizes.{STMTS}
use Rattle.programs.specs.Program.{Program}
use Rattle.programs.specs.Statements.{height}
use Rattle.tables.specs.Decode.{count}
use Rattle.marks.specs.declared.Inner.{Inner}
use Rattle.marks.specs.declared.Inner.TheVariants.{Nothing, One, Two}
use Rattle.marks.specs.Marks.{Heights, Stated}
use Rattle.marks.specs.Inner.{listed, parts_in, parts_are, parts_past}
use Rattle.marks.specs.Climbs.{Climbs, climbs_keep}

-- ANSWERS FOR LOWER NUMBERS
module _ {A : Type 0} (other : A) (work : (ℕ → A) → ℕ → A) where
  -- of a number that is not lower the answer is `other`
  pub below_past : (n i : ℕ) → n ≤ i → below other work n i ≡ other
  unfolding below
  below_past zero i h = refl
  below_past (suc n) i h = rw (ne_eqb i n (λ e. omega arith)) (below_past n i (omega arith))

-- what stands in a table for number t, where t is lower than n; `other` where it is not
abbrev pub low_at : ℕ → List ℕ → ℕ → ℕ → ℕ
low_at other l n t = cond (ltb t n) (get_or l t 0) other

-- it stands in the part of the table that is lower than n
pub low_part : (other : ℕ) (l : List ℕ) (n t : ℕ) → n ≤ length l → get_or (take n l) t other ≡ low_at other l n t
low_part other l n t fits = ⊎_elim
    (λ (h : t < n). rw (lt-ltb t n h) (get_or-take n l t other h ∙ get_or_default l t other 0 (omega arith)))
    (λ (h : n ≤ t). rw (le-ltb t n h) (get_or-eq_default (take n l) other (omega (arith, length-take n l))))
    (below? t n)

module _ (other : ℕ) (work : (ℕ → ℕ) → ℕ → ℕ) (l : List ℕ) (n : ℕ) (done : (m : ℕ) → m < n → get_or l m 0 ≡ downward other work m) where
  -- a table with the answers of all lower numbers gives what `below` gives
  pub low_below : (t : ℕ) → low_at other l n t ≡ below other work n t
  low_below t = ⊎_elim
      (λ (h : t < n). rw (lt-ltb t n h, done t h) (sym (below_is other work n t h)))
      (λ (h : n ≤ t). rw (le-ltb t n h) (sym (below_past other work n t h)))
      (below? t n)

-- HEIGHTS
-- what holds nothing is 1, anything else one more than the highest that it holds
unfoldable pub tall : (ℕ → List ℕ) → ℕ → ℕ
tall kids n = downward 1 (λ f m. suc (most f (kids m))) n

-- what holds nothing
pub tall_leaf : (kids : ℕ → List ℕ) (n : ℕ) → kids n ≡ [] → tall kids n ≡ 1
unfolding tall downward
tall_leaf kids n e = rw e

-- the heights of the numbers below n are at most n
abbrev pub Low : List ℕ → ℕ → Type 0
Low l n = (m : ℕ) → m < n → get_or l m 0 ≤ n

-- r is the height of number n, which holds these numbers
abbrev pub Over : List ℕ → ℕ → List ℕ → ℕ → Type 0
Over l n ts r = (r ≡ suc (most (low_at 1 l n) ts)) × (r ≤ n + 1)

-- the height over what is inside, told by other words
pub over_told : (l : List ℕ) (n : ℕ) {ts us : List ℕ} {r : ℕ} → ts ≡ us → Over l n ts r → Over l n us r
over_told l n e h = rw (← e) h

module _ (l : List ℕ) (n : ℕ) (some : 1 ≤ n) (low : Low l n) where
  -- what stands for a number, lower or not, is at most n
  pub low_fits : (t : ℕ) → low_at 1 l n t ≤ n
  low_fits t = ⊎_elim
      (λ (h : t < n). rw (lt-ltb t n h) (low t h))
      (λ (h : n ≤ t). rw (le-ltb t n h) some)
      (below? t n)

  -- nothing in it
  pub over_none : (i : Inner) → i ≡ Nothing → Over l n (listed i) 1
  over_none i e = rw e (refl, omega arith)

  -- one number in it
  pub over_one : (i : Inner) (a r : ℕ) → i ≡ One a → r ≡ low_at 1 l n a → Over l n (listed i) (r + 1)
  over_one i a r e h = rw (e, h) (omega arith, omega (arith, low_fits a))

  -- two
  pub over_two : (i : Inner) (a b r : ℕ) → i ≡ Two a b → r ≡ max (low_at 1 l n a) (low_at 1 l n b) → Over l n (listed i) (r + 1)
  over_two i a b r e h = rw (e, h) (omega arith, omega (arith, low_fits a, low_fits b))

-- the numbers below i have their heights, and the others 1
pub record Climbed (kids : ℕ → List ℕ) (i : ℕ) (l : List ℕ) : Type 0 where
  pub size : length l ≡ 1025
  pub done : (m : ℕ) → m < i → get_or l m 0 ≡ tall kids m
  pub rest : (m : ℕ) → i ≤ m → m ≤ 1024 → get_or l m 0 ≡ 1
  pub low : (m : ℕ) → m < i → get_or l m 0 ≤ i

-- before the first
pub climbed_first : (kids : ℕ → List ℕ) (l : List ℕ) → length l ≡ 1025 → ((m : ℕ) → m ≤ 1024 → get_or l m 0 ≡ 1) → kids 0 ≡ [] → Climbed kids 1 l
climbed_first kids l e ones none = record {
  size = e;
  done = λ m h. let z : m ≡ 0 = omega arith in rw z (ones 0 (omega arith) ∙ sym (tall_leaf kids 0 none));
  rest = λ m h k. ones m k;
  low = λ m h. omega (arith, ones m (omega arith));
}

module _ (kids : ℕ → List ℕ) (i : ℕ) (l : List ℕ) (climbed : Climbed kids i l) (some : 1 ≤ i) (fits : i ≤ 1024) where
  -- number i's height
  pub climbed_here : suc (most (low_at 1 l i) (kids i)) ≡ tall kids i
  unfolding tall downward
  climbed_here = ap suc (most_same (kids i))
    where
      most_same : (ts : List ℕ) → most (low_at 1 l i) ts ≡ most (below 1 (λ f m. suc (most f (kids m))) i) ts
      most_same [] = refl
      most_same (t ∷ ts) = rw (low_below 1 (λ f m. suc (most f (kids m))) l i climbed.done t, most_same ts)

  -- the next number
  pub climbed_more : (x : ℕ) → x ≡ suc (most (low_at 1 l i) (kids i)) → x ≤ i + 1 → Climbed kids (i + 1) (set l i x)
  climbed_more x e b = record {
    size = length-set l i x ∙ climbed.size;
    done = λ m h. dite (ℕ_discrete m i)
        (λ q. rw (q, get_or-set_same l i x 0 (omega (arith, climbed.size))) (e ∙ climbed_here))
        (λ q. get_or-set_other l i m x 0 q ∙ climbed.done m (omega arith));
    rest = λ m h k. get_or-set_other l i m x 0 (λ q. omega arith) ∙ climbed.rest m (omega arith) k;
    low = λ m h. dite (ℕ_discrete m i)
        (λ q. rw (q, get_or-set_same l i x 0 (omega (arith, climbed.size))) b)
        (λ q. rw (get_or-set_other l i m x 0 q) (omega (arith, climbed.low m (omega arith))));
  }

-- so after i turns, where what is worked out for a number is the height over what it holds
pub climbed_up : (kids : ℕ → List ℕ) (said : Bor (List ℕ) → ℕ → ℕ → Type 0) → kids 0 ≡ [] → ((k : Bor (List ℕ)) (m x : ℕ) → said k m x → Over k.now m (kids m) x) → (i m : ℕ) → m ≡ i + 1 → i ≤ 1024
    → (l : List ℕ) → Climbs said (replicate 1025 1) i l → Climbed kids m l
climbed_up kids said none told i m e fits l h = rw (e, add-one) (climbs_keep said (λ n k. Climbed kids (suc n) k) (replicate 1025 1)
    (climbed_first kids _ (length-replicate {A = ℕ} 1025 1) (λ j b. get_or-replicate {A = ℕ} 1025 j 1 0 (omega arith)) none) i
    (λ n k x b c s. let o = told k (suc n) x s in rw (← add-one) (climbed_more kids (suc n) k.now c (omega arith) (omega arith) x o.0 o.1)) l h)

-- after the last, what lies behind holds nothing
pub climbed_all : (kids : ℕ → List ℕ) (n i : ℕ) (l : List ℕ) → Climbed kids i l → n < i → ((m : ℕ) → n < m → kids m ≡ []) → (m : ℕ) → m ≤ 1024 → get_or l m 0 ≡ tall kids m
climbed_all kids n i l climbed h past m k = ⊎_elim
    (λ (b : m < i). climbed.done m b)
    (λ (b : i ≤ m). climbed.rest m b k ∙ sym (tall_leaf kids m (past m (omega arith))))
    (below? m i)

-- THE STATEMENTS' HEIGHTS are the program's
pub climbed_heights : (stmts : List ℕ) (i : ℕ) (l : List ℕ) → Climbed (parts_in stmts) i l → count STMTS stmts < i → (p : Program) → Stated stmts p → Heights p l
unfolding tall height
climbed_heights stmts i l climbed h p t = record {
  size = climbed.size;
  height_of = λ s k. climbed_all (parts_in stmts) (count STMTS stmts) i l climbed h (parts_past stmts) s k
      ∙ ap (λ kids. downward 1 (λ f m. suc (most f (kids m))) s) (fun_ext (parts_are stmts p t));
}
