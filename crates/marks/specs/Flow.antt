-- Marks that are passed on downward: from a number that is marked to the lower ones that it holds. When all numbers have had their turn, from the
-- highest to the lowest, a number is marked where it is one of those marked at first or inside one of them.
use Prim.Native.Nat.{ℕ, zero, suc, ◌+◌, ◌-◌, ◌≤◌, ◌<◌}
use Rattle.std.specs.Prelude.{◌≡◌, Bool, not, cond, ◌&&◌, ◌||◌, length, get_or, set}
use Rattle.std.proofs.Math.Path.{refl, sym}
use Rattle.std.proofs.Common.{ap, ◌∙◌, add-one, arith, length-set, get_or-set_same, get_or-set_other}
use Rattle.std.proofs.Math.Bool.{true, false, and-false, or-false, or_assoc}
use mathlib.Core.List.{List, [], ◌∷◌}
use Rattle.std.proofs.Math.Logic.{⊎_elim, dite}
use Rattle.std.proofs.Math.Decide.{ℕ_discrete}
use borrow.Author.Tests.{lt-ltb, le-ltb, eq-eqb, ne_eqb}
use Rattle.std.proofs.Math.Dec.{eqb, ltb}
use Rattle.lists.specs.Lists.{any}
use Rattle.lists.specs.Down.{below, downward, below_is}
use Rattle.rows.specs.Pad.{below?}
use Rattle.rows.specs.Part.{Off}
use Rattle.marks.specs.Tall.{below_past}

-- THE MARKS
-- number m of the row that starts at b is marked
abbrev pub on : List ℕ → ℕ → ℕ → Bool
on l b m = not (eqb (get_or l (b + m) 0) 0)

-- number t of the row marked, where it is lower than n
abbrev pub mark_low : ℕ → ℕ → ℕ → List ℕ → List ℕ
mark_low b n t l = cond (ltb t n) (set l (b + t) 1) l

-- each of these numbers
unfoldable pub mark_all : ℕ → ℕ → List ℕ → List ℕ → List ℕ
mark_all b n [] l = l
mark_all b n (t ∷ ts) l = mark_all b n ts (mark_low b n t l)

-- number n's turn: what it holds is marked where it is
unfoldable pub passed : (ℕ → List ℕ) → ℕ → ℕ → List ℕ → List ℕ
passed kids b n l = cond (on l b n) (mark_all b n (kids n) l) l

-- the turns of the numbers from n down to 1
unfoldable pub flowed : (ℕ → List ℕ) → ℕ → ℕ → List ℕ → List ℕ
flowed kids b zero l = l
flowed kids b (suc n) l = flowed kids b n (passed kids b (suc n) l)

-- one of the numbers from 0 to n passes
unfoldable pub among : (ℕ → Bool) → ℕ → Bool
among f zero = f 0
among f (suc n) = f (suc n) || among f n

-- BOOLS
-- one of them, which held before or not, now holds where r does
or_new : (a b r : Bool) → r || b ≡ ((a && r) || b) || r
or_new true true true = refl
or_new true true false = refl
or_new true false true = refl
or_new true false false = refl
or_new false true true = refl
or_new false true false = refl
or_new false false true = refl
or_new false false false = refl

-- r moved to the front
or_swap : (a b r : Bool) → (a || r) || b ≡ (a || b) || r
or_swap true b r = refl
or_swap false true true = refl
or_swap false true false = refl
or_swap false false true = refl
or_swap false false false = refl

-- WHAT MARKS KEEP, where a mark in the row does
module _ (P : List ℕ → Type 0) (b : ℕ) where
  -- one mark, of a number that is lower than n
  low_keeps : (n : ℕ) → ((l : List ℕ) (t : ℕ) → t < n → P l → P (set l (b + t) 1)) → (t : ℕ) (l : List ℕ) → P l → P (mark_low b n t l)
  low_keeps n one t l h = ⊎_elim
      (λ (q : t < n). rw (lt-ltb t n q) (one l t q h))
      (λ (q : n ≤ t). rw (le-ltb t n q) h)
      (below? t n)

  -- marks of these numbers
  pub all_keeps : (n : ℕ) → ((l : List ℕ) (t : ℕ) → t < n → P l → P (set l (b + t) 1)) → (ts l : List ℕ) → P l → P (mark_all b n ts l)
  unfolding mark_all
  all_keeps n one [] l h = h
  all_keeps n one (t ∷ ts) l h = all_keeps n one ts (mark_low b n t l) (low_keeps n one t l h)

  -- a turn
  passed_keeps : (kids : ℕ → List ℕ) (n : ℕ) → ((l : List ℕ) (t : ℕ) → t < n → P l → P (set l (b + t) 1)) → (l : List ℕ) → P l → P (passed kids b n l)
  unfolding passed
  passed_keeps kids n one l h = go (on l b n)
    where
      go : (c : Bool) → P (cond c (mark_all b n (kids n) l) l)
      go true = all_keeps n one (kids n) l h
      go false = h

  -- all turns of a row
  pub flowed_keeps : (kids : ℕ → List ℕ) (n : ℕ) → ((l : List ℕ) (t : ℕ) → t < n → P l → P (set l (b + t) 1)) → (l : List ℕ) → P l → P (flowed kids b n l)
  unfolding flowed
  flowed_keeps kids zero one l h = h
  flowed_keeps kids (suc n) one l h = flowed_keeps kids n (λ m t q. one m t (omega arith)) (passed kids b (suc n) l) (passed_keeps kids (suc n) one l h)

-- the length: one mark
pub same_length : (b n : ℕ) (l m : List ℕ) (t : ℕ) → t < n → length m ≡ length l → length (set m (b + t) 1) ≡ length l
same_length b n l m t h e = length-set m (b + t) 1 ∙ e

-- a mark, where it is lower than n
low_length : (b n t : ℕ) (l : List ℕ) → length (mark_low b n t l) ≡ length l
low_length b n t l = low_keeps (λ m. length m ≡ length l) b n (same_length b n l) t l refl

-- marks of these numbers
pub all_length : (b n : ℕ) (ts l : List ℕ) → length (mark_all b n ts l) ≡ length l
all_length b n ts l = all_keeps (λ m. length m ≡ length l) b n (same_length b n l) ts l refl

-- a turn
passed_length : (kids : ℕ → List ℕ) (b n : ℕ) (l : List ℕ) → length (passed kids b n l) ≡ length l
passed_length kids b n l = passed_keeps (λ m. length m ≡ length l) b kids n (same_length b n l) l refl

-- all turns of a row
pub flowed_length : (kids : ℕ → List ℕ) (b n : ℕ) (l : List ℕ) → length (flowed kids b n l) ≡ length l
flowed_length kids b n l = flowed_keeps (λ m. length m ≡ length l) b kids n (same_length b n l) l refl

-- and what is off the row: one mark
pub same_off : (b n : ℕ) (l : List ℕ) (j : ℕ) → Off b n j → (m : List ℕ) (t : ℕ) → t < n → get_or m j 0 ≡ get_or l j 0 → get_or (set m (b + t) 1) j 0 ≡ get_or l j 0
same_off b n l j o m t h e = get_or-set_other m (b + t) j 1 0 (λ z. ⊎_elim (λ (q : j < b). omega arith) (λ (q : b + n ≤ j). omega arith) o) ∙ e

-- marks of these numbers
pub all_off : (b n : ℕ) (ts l : List ℕ) (j : ℕ) → Off b n j → get_or (mark_all b n ts l) j 0 ≡ get_or l j 0
all_off b n ts l j o = all_keeps (λ m. get_or m j 0 ≡ get_or l j 0) b n (same_off b n l j o) ts l refl

-- all turns of a row
pub flowed_off : (kids : ℕ → List ℕ) (b n : ℕ) (l : List ℕ) (j : ℕ) → Off b n j → get_or (flowed kids b n l) j 0 ≡ get_or l j 0
flowed_off kids b n l j o = flowed_keeps (λ m. get_or m j 0 ≡ get_or l j 0) b kids n (same_off b n l j o) l refl

-- ONE OF MANY
-- the same tests
among_ext : (f g : ℕ → Bool) (n : ℕ) → ((m : ℕ) → m ≤ n → f m ≡ g m) → among f n ≡ among g n
unfolding among
among_ext f g zero h = h 0 (omega arith)
among_ext f g (suc n) h = rw (h (suc n) (omega arith), among_ext f g n (λ m k. h m (omega arith)))

-- no test
pub among_none : (f : ℕ → Bool) (n : ℕ) → ((m : ℕ) → f m ≡ false) → among f n ≡ false
unfolding among
among_none f zero h = h 0
among_none f (suc n) h = rw (h (suc n), among_none f n h)

-- tests that differ in t alone: there the old one is a && r, the new one r
among_new : (f g : ℕ → Bool) (t : ℕ) (a r : Bool) → f t ≡ (a && r) → g t ≡ r → ((m : ℕ) → (m ≡ t → ⊥) → g m ≡ f m) → (n : ℕ) → t ≤ n → among g n ≡ among f n || r
unfolding among
among_new f g t a r e h k zero b = let z : t ≡ 0 = omega arith in rw (← z, h, e) (go a r)
  where
    go : (a r : Bool) → r ≡ (a && r) || r
    go true true = refl
    go true false = refl
    go false r = refl
among_new f g t a r e h k (suc n) b = dite (ℕ_discrete (suc n) t)
    (λ q. rw (q, h, e, among_ext g f n (λ m j. k m (λ z. omega arith))) (or_new a (among f n) r))
    (λ q. rw (k (suc n) q, among_new f g t a r e h k n (omega (arith, q))) (sym (or_assoc (f (suc n)) (among f n) r)))

-- A MARK in the row
on_same : (l : List ℕ) (b t : ℕ) → b + t < length l → on (set l (b + t) 1) b t ≡ true
on_same l b t h = rw (get_or-set_same l (b + t) 1 0 h)

-- and elsewhere nothing changes
on_other : (l : List ℕ) (b t m : ℕ) → (m ≡ t → ⊥) → on (set l (b + t) 1) b m ≡ on l b m
on_other l b t m h = rw (get_or-set_other l (b + t) (b + m) 1 0 (λ e. h (omega arith)))

module _ (kids : ℕ → List ℕ) (s : ℕ) where
  -- number s is number n or inside it
  unfoldable pub reach : ℕ → Bool
  reach n = downward false (λ f m. eqb m s || any f (kids m)) n

  -- in what is lower than n
  abbrev under : ℕ → ℕ → Bool
  under n t = below false (λ f m. eqb m s || any f (kids m)) n t

  -- what n holds
  reach_here : (n : ℕ) → reach n ≡ eqb n s || any (under n) (kids n)
  unfolding reach downward
  reach_here n = refl

  -- a lower number
  under_low : (n t : ℕ) → t < n → under n t ≡ reach t
  unfolding reach
  under_low n t h = below_is false (λ f m. eqb m s || any f (kids m)) n t h

  -- another number that holds nothing
  pub reach_leaf : (n : ℕ) → kids n ≡ [] → (n ≡ s → ⊥) → reach n ≡ false
  reach_leaf n e h = rw (reach_here n, e, ne_eqb n s h)

  -- WHAT THE MARKS OF A ROW LEAD TO, when the numbers above n have had their turns: s is inside a marked one of the others, or above n and marked
  unfoldable pub left : List ℕ → ℕ → ℕ → Bool
  left l b n = among (λ m. on l b m && reach m) n || (ltb n s && on l b s)

  -- one mark more
  pub left_mark : (l : List ℕ) (b n t : ℕ) → t ≤ n → b + t < length l → left (set l (b + t) 1) b n ≡ left l b n || reach t
  unfolding left
  left_mark l b n t h e =
      rw (among_new (λ m. on l b m && reach m) (λ m. on (set l (b + t) 1) b m && reach m) t (on l b t) (reach t) refl (rw (on_same l b t e)) (λ m q. rw (on_other l b t m q)) n h, above)
      (or_swap (among (λ m. on l b m && reach m) n) (ltb n s && on l b s) (reach t))
    where
      above : ltb n s && on (set l (b + t) 1) b s ≡ ltb n s && on l b s
      above = ⊎_elim
          (λ (k : n < s). rw (on_other l b t s (λ z. omega arith)))
          (λ (k : s ≤ n). rw (le-ltb n s k))
          (below? n s)

  -- a mark of a lower number, in the turn of the number above n
  left_low : (l : List ℕ) (b n t : ℕ) → b + n < length l → left (mark_low b (suc n) t l) b n ≡ left l b n || under (suc n) t
  left_low l b n t e = ⊎_elim
      (λ (h : t < suc n). rw (lt-ltb t (suc n) h, under_low (suc n) t h) (left_mark l b n t (omega arith) (omega arith)))
      (λ (h : suc n ≤ t). rw (le-ltb t (suc n) h, below_past false (λ f m. eqb m s || any f (kids m)) (suc n) t h) (sym (or-false (left l b n))))
      (below? t (suc n))

  -- of each of these numbers
  left_all : (b n : ℕ) (ts l : List ℕ) → b + n < length l → left (mark_all b (suc n) ts l) b n ≡ left l b n || any (under (suc n)) ts
  unfolding mark_all
  left_all b n [] l e = sym (or-false (left l b n))
  left_all b n (t ∷ ts) l e =
      left_all b n ts (mark_low b (suc n) t l) (rw (low_length b (suc n) t l) e)
      ∙ rw (left_low l b n t e) (or_assoc (left l b n) (under (suc n) t) (any (under (suc n)) ts))

  -- and before any turn: the numbers past n hold nothing
  pub left_marks : (b n : ℕ) (ts l : List ℕ) → ((m : ℕ) → n < m → kids m ≡ []) → s ≤ n → b + n < length l → left (mark_all b (n + 1) ts l) b n ≡ left l b n || any reach ts
  left_marks b n ts l past there e = rw add-one (left_all b n ts l e ∙ ap (λ r. left l b n || r) (every ts))
    where
      each : (t : ℕ) → under (suc n) t ≡ reach t
      each t = ⊎_elim
          (λ (h : t < suc n). under_low (suc n) t h)
          (λ (h : suc n ≤ t). below_past false (λ f m. eqb m s || any f (kids m)) (suc n) t h ∙ sym (reach_leaf t (past t h) (λ z. omega arith)))
          (below? t (suc n))

      every : (ts : List ℕ) → any (under (suc n)) ts ≡ any reach ts
      every [] = refl
      every (t ∷ ts) = rw (each t, every ts)

  -- the turn of a number that is marked
  left_marked : (l : List ℕ) (b n : ℕ) → on l b (suc n) ≡ true → left l b n || any (under (suc n)) (kids (suc n)) ≡ left l b (suc n)
  unfolding left among
  left_marked l b n o = ⊎_elim
      (λ (h : s < suc n). rw (o, reach_here (suc n), ne_eqb (suc n) s (λ z. omega arith), le-ltb (suc n) s (omega arith), le-ltb n s (omega arith))
      (low (among (λ m. on l b m && reach m) n) (any (under (suc n)) (kids (suc n)))))
      (λ (h : suc n ≤ s). dite (ℕ_discrete (suc n) s)
      (λ q. let os : on l b s ≡ true = rw (← q) o in
      rw (o, reach_here (suc n), eq-eqb (suc n) s q, lt-ltb n s (omega arith), os)
      (here (among (λ m. on l b m && reach m) n) (any (under (suc n)) (kids (suc n)))))
      (λ q. rw (o, reach_here (suc n), ne_eqb (suc n) s q, lt-ltb (suc n) s (omega arith), lt-ltb n s (omega arith))
      (high (among (λ m. on l b m && reach m) n) (any (under (suc n)) (kids (suc n))) (on l b s))))
      (below? s (suc n))
    where
      low : (a k : Bool) → (a || false) || k ≡ (k || a) || false
      low true true = refl
      low true false = refl
      low false true = refl
      low false false = refl

      here : (a k : Bool) → (a || true) || k ≡ true
      here true k = refl
      here false k = refl

      high : (a k o : Bool) → (a || o) || k ≡ (k || a) || o
      high true true o = refl
      high true false o = refl
      high false true true = refl
      high false true false = refl
      high false false true = refl
      high false false false = refl

  -- and of one that is not
  left_unmarked : (l : List ℕ) (b n : ℕ) → on l b (suc n) ≡ false → left l b n ≡ left l b (suc n)
  unfolding left among
  left_unmarked l b n o = ⊎_elim
      (λ (h : s < suc n). rw (o, le-ltb (suc n) s (omega arith), le-ltb n s (omega arith)))
      (λ (h : suc n ≤ s). dite (ℕ_discrete (suc n) s)
      (λ q. let os : on l b s ≡ false = rw (← q) o in
      rw (o, os, and-false (ltb n s), and-false (ltb (suc n) s)))
      (λ q. rw (o, lt-ltb (suc n) s (omega arith), lt-ltb n s (omega arith))))
      (below? s (suc n))

  -- a turn
  left_passed : (l : List ℕ) (b n : ℕ) → b + n < length l → left (passed kids b (suc n) l) b n ≡ left l b (suc n)
  unfolding passed
  left_passed l b n e = go (on l b (suc n)) refl
    where
      go : (c : Bool) → on l b (suc n) ≡ c → left (cond c (mark_all b (suc n) (kids (suc n)) l) l) b n ≡ left l b (suc n)
      go true o = left_all b n (kids (suc n)) l e ∙ left_marked l b n o
      go false o = left_unmarked l b n o

  -- all turns
  left_flowed : (b n : ℕ) (l : List ℕ) → b + n ≤ length l → left (flowed kids b n l) b 0 ≡ left l b n
  unfolding flowed
  left_flowed b zero l e = refl
  left_flowed b (suc n) l e = left_flowed b n (passed kids b (suc n) l) (rw (passed_length kids b (suc n) l) (omega arith)) ∙ left_passed l b n (omega arith)

  -- when all had their turns, the mark of s says it
  left_end : (l : List ℕ) (b : ℕ) → kids 0 ≡ [] → left l b 0 ≡ on l b s
  unfolding left among
  left_end l b e = dite (ℕ_discrete 0 s)
      (λ q. rw (reach_here 0, e, ← q) (both (on l b 0)))
      (λ q. rw (reach_leaf 0 e q, lt-ltb 0 s (omega (arith, q)), and-false))
    where
      both : (a : Bool) → (a && true) || false ≡ a
      both true = refl
      both false = refl

  -- THE law of a row
  pub flowed_on : (b n : ℕ) (l : List ℕ) → b + n ≤ length l → kids 0 ≡ [] → on (flowed kids b n l) b s ≡ left l b n
  flowed_on b n l e z = sym (left_end (flowed kids b n l) b z) ∙ left_flowed b n l e

  -- where s is not above n, only the marks up to n matter
  pub left_ext : (l m : List ℕ) (b n : ℕ) → s ≤ n → ((i : ℕ) → i ≤ n → get_or l (b + i) 0 ≡ get_or m (b + i) 0) → left l b n ≡ left m b n
  unfolding left
  left_ext l m b n h f = rw (le-ltb n s h, among_ext (λ i. on l b i && reach i) (λ i. on m b i && reach i) n (λ i k. rw (f i k)))

  -- without marks
  pub left_none : (l : List ℕ) (b n : ℕ) → ((i : ℕ) → get_or l i 0 ≡ 0) → left l b n ≡ false
  unfolding left
  left_none l b n f = rw (among_none (λ i. on l b i && reach i) n (λ i. rw (f (b + i))), f (b + s), and-false)

-- FOR THE CODE
-- no number is marked,
pub marks_none : (b n : ℕ) (ts l : List ℕ) → ts ≡ [] → l ≡ mark_all b n ts l
unfolding mark_all
marks_none b n ts l e = rw e

-- one,
pub marks_one : (b n : ℕ) (ts l m : List ℕ) (t : ℕ) → ts ≡ t ∷ [] → m ≡ mark_low b n t l → m ≡ mark_all b n ts l
unfolding mark_all
marks_one b n ts l m t e h = rw e h

-- or two
pub marks_two : (b n : ℕ) (ts l m o : List ℕ) (t u : ℕ) → ts ≡ t ∷ u ∷ [] → m ≡ mark_low b n t l → o ≡ mark_low b n u m → o ≡ mark_all b n ts l
unfolding mark_all
marks_two b n ts l m o t u e h k = rw (e, ← h) k

-- the turn of a number that is marked, what it holds told
pub passed_marked : (kids : ℕ → List ℕ) (b n : ℕ) (ts l m : List ℕ) → (get_or l (b + n) 0 ≡ 0 → ⊥) → ts ≡ kids n → m ≡ mark_all b n ts l → m ≡ passed kids b n l
unfolding passed
passed_marked kids b n ts l m h e k = rw (ne_eqb (get_or l (b + n) 0) 0 h, ← e) k

-- and of one that is not
pub passed_unmarked : (kids : ℕ → List ℕ) (b n : ℕ) (l : List ℕ) → get_or l (b + n) 0 ≡ 0 → l ≡ passed kids b n l
unfolding passed
passed_unmarked kids b n l h = rw h

-- a turn of many
pub flowed_turn : (kids : ℕ → List ℕ) (b n : ℕ) (l m z : List ℕ) → 0 < n → m ≡ passed kids b n l → flowed kids b n l ≡ z → flowed kids b (n - 1) m ≡ z
unfolding flowed
flowed_turn kids b zero l m z h e f = absurd (omega arith)
flowed_turn kids b (suc n) l m z h e f = let q : suc n - 1 ≡ n = omega arith in rw (q, e) f

-- no more turns
pub flowed_done : (kids : ℕ → List ℕ) (b n : ℕ) (l z : List ℕ) → n ≤ 0 → flowed kids b n l ≡ z → l ≡ z
unfolding flowed
flowed_done kids b zero l z h e = e
flowed_done kids b (suc n) l z h e = absurd (omega arith)
