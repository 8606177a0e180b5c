-- Tables that are worked out upward: what stands for a number is worked out when all lower ones have theirs.
use Rattle.std.specs.Prelude.{ℕ, zero, suc, ◌+◌, ◌<◌, ◌≡◌, refl, List, set}
use Rattle.std.proofs.Common.{arith}
use Rattle.std.specs.Borrow.{Bor}

module _ {A : Type 0} (said : Bor (List A) → ℕ → A → Type 0) where
  -- number n's turn: from a table with `before` comes l, with what is said of the table and n
  pub record Turned (before : List A → Type 0) (n : ℕ) (l : List A) : Type 0 where
    pub lower : Bor (List A)
    pub item : A
    pub lent : before lower.now
    pub worked : said lower n item
    pub stored : l ≡ set lower.now n item

  -- l is the table after the turns of the numbers from 1 to n, from the table `first` on
  abbrev pub Climbs : List A → ℕ → List A → Type 0
  Climbs first zero l = l ≡ first
  Climbs first (suc n) l = Turned (Climbs first n) (suc n) l

  -- one turn more
  pub climbs_more : (first : List A) (n : ℕ) (k : Bor (List A)) (x : A) → 0 < n → ((m : ℕ) → n ≡ m + 1 → Climbs first m k.now) → said k n x → Climbs first n (set k.now n x)
  climbs_more first zero k x h before s = absurd (omega arith)
  climbs_more first (suc n) k x h before s = record { lower = k; item = x; lent = before n (omega arith); worked = s; stored = refl }

  -- LAW FOR CALLERS: what holds of the first table, and what each turn keeps, holds of the last
  pub climbs_keep : (P : ℕ → List A → Type 0) (first : List A) → P 0 first → (n : ℕ)
      → ((m : ℕ) (k : Bor (List A)) (x : A) → m < n → P m k.now → said k (suc m) x → P (suc m) (set k.now (suc m) x)) → (l : List A) → Climbs first n l → P n l
  climbs_keep P first start zero step l h = rw h start
  climbs_keep P first start (suc n) step l h =
      rw h.stored (step n h.lower h.item (omega arith) (climbs_keep P first start n (λ m k x b. step m k x (omega arith)) h.lower.now h.lent) h.worked)
