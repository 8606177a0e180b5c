-- Pairs in the pool, stored one behind the other from place n on.
use Prim.Native.Nat.{ℕ, suc, ◌+◌, ◌-◌, ◌*◌, ◌≤◌, ◌<◌}
use Rattle.std.specs.Prelude.{◌≡◌, true, false, take, drop, set}
use Rattle.std.proofs.Math.Path.{ap, sym}
use Rattle.std.proofs.Common.{◌∙◌, add-one, take-append-drop, take-suc-set, drop-set-lt}
use mathlib.Core.List.{List, [], ◌∷◌, ◌++◌, map, append_assoc, append-nil}
use native.Mathlib.Omega.{arith}
use Rattle.std.proofs.Math.ListN.{length, length-set}
use Rattle.lists.specs.Lists.{is_some, flat}
use Rattle.rows.specs.Part.{put}
use Rattle.texts.specs.Bytes.{split, each}
use Rattle.texts.specs.Numbers.{pairs}
use Rattle.numerals.specs.Splits.{span, span_whole, Until}
use Rattle.tabled.specs.Tabled.{word_of, pair_row}
use Rattle.listings.specs.Listings.{is_none, pair_list, number_of, pair_in, pair_of, each_parts}
use Rattle.listings.specs.Left.{left, left_none, left_next, Paired, paired}
use Rattle.listed.specs.Says.{pairs_left, pairs_all, pairs_there, pairs_next, pairs_said, parts_there}

-- the pairs l from place k on
unfoldable pub pooled : ℕ → List (ℕ × ℕ) → List ℕ → List ℕ
pooled k [] xs = xs
pooled k (p ∷ l) xs = pooled (k + 1) l (set (set xs (k * 2) (word_of p.0)) (k * 2 + 1) (word_of p.1))

-- nothing is put
put_none : (b : ℕ) (xs : List ℕ) → put b [] xs ≡ xs
unfolding put
put_none b xs = let e : b + 0 ≡ b = omega arith in rw (append-nil (take b xs), e) (take-append-drop b xs)

-- two stores in front of a run
put_two : (b u v : ℕ) (r xs : List ℕ) → b + 2 ≤ length xs → put (b + 2) r (set (set xs b u) (b + 1) v) ≡ put b (u ∷ v ∷ r) xs
unfolding put
put_two b u v r xs h =
    let i : b + 2 ≡ suc (b + 1) = omega arith in
    let k : b + suc (suc (length r)) ≡ suc (b + 1) + length r = omega arith in
    let n : length (set xs b u) ≡ length xs = length-set xs b u in
    let t : take (suc (b + 1)) (set (set xs b u) (b + 1) v) ≡ (take b xs ++ u ∷ []) ++ v ∷ [] =
    take-suc-set (set xs b u) (b + 1) v (omega arith) ∙ ap (λ l. l ++ v ∷ []) (ap (λ m. take m (set xs b u)) (add-one b) ∙ take-suc-set xs b u (omega arith)) in
    let d : drop (suc (b + 1) + length r) (set (set xs b u) (b + 1) v) ≡ drop (suc (b + 1) + length r) xs =
    drop-set-lt (suc (b + 1) + length r) (set xs b u) (b + 1) v (omega arith) ∙ drop-set-lt (suc (b + 1) + length r) xs b u (omega arith) in
    rw (i, t, d, k) (simp append_assoc)

-- all of them
pooled_all : (k : ℕ) (l : List (ℕ × ℕ)) (xs : List ℕ) → (k + length l) * 2 ≤ length xs → pooled k l xs ≡ put (k * 2) (flat pair_row l) xs
unfolding pooled
pooled_all k [] xs h = sym (put_none (k * 2) xs)
pooled_all k (p ∷ l) xs h =
    let n : length (set (set xs (k * 2) (word_of p.0)) (k * 2 + 1) (word_of p.1)) ≡ length xs =
    length-set (set xs (k * 2) (word_of p.0)) (k * 2 + 1) (word_of p.1) ∙ length-set xs (k * 2) (word_of p.0) in
    let e : (k + 1) * 2 ≡ k * 2 + 2 = omega arith in
    pooled_all (k + 1) l (set (set xs (k * 2) (word_of p.0)) (k * 2 + 1) (word_of p.1)) (omega arith)
    ∙ rw e (put_two (k * 2) (word_of p.0) (word_of p.1) (flat pair_row l) xs (omega arith))

-- what is asked: a list of pairs, and room for them from place n on
pub record Poolable (d xs : List ℕ) (n : ℕ) : Type 0 where
  pub listed : is_some (pairs d) ≡ true
  pub long : length xs ≡ 30000
  pub room : n + length (pair_list d) ≤ 15000

-- THE LOOP that stores them: k are stored
pub record Pooling (d xs : List ℕ) (n a k : ℕ) (ys : List ℕ) : Type 0 where
  pub rest : pooled (n + k) (pairs_left a d) ys ≡ pooled n (pair_list d) xs
  pub says : is_some (each pair_in (left a d)) ≡ true
  pub count : k + length (pairs_left a d) ≡ length (pair_list d)
  pub long : length ys ≡ 30000

-- what is left: how many pairs are stored, and where
pub record Pooled (d xs : List ℕ) (n r : ℕ) (ys : List ℕ) : Type 0 where
  pub count : r ≡ length (pair_list d)
  pub stored : ys ≡ put (n * 2) (flat pair_row (pair_list d)) xs

module _ (d xs : List ℕ) (n : ℕ) (q : Poolable d xs n) where
  -- `none` has no pairs
  pub pooling_none : is_none d ≡ true → Pooled d xs n 0 xs
  pooling_none h = record { count = rw h; stored = rw h (sym (put_none (n * 2) xs)) }

  -- before the first part
  pub pooling_first : is_none d ≡ false → Pooling d xs n 0 0 xs
  pooling_first h =
      let e = pairs_all d h q.listed in
      let z : n + 0 ≡ n = omega arith in
      record { rest = rw (e, z); says = pairs_there d h q.listed; count = rw e (omega arith); long = q.long }

  module _ (a k : ℕ) (ys : List ℕ) (g : Pooling d xs n a k ys) (e m : ℕ) (h : a ≤ length d) (u : Until 44 d a (length d) e) (w : Until 58 d a e m) where
    -- the next part says a pair
    parts : (is_some (pair_in (span a e d)) ≡ true) × (is_some (each pair_in (left (e + 1) d)) ≡ true)
    parts = each_parts pair_in (0, 0) (span a e d) (left (e + 1) d) (rw (left_next a e d h u) at g.says)

    -- its colon and its numbers are there,
    pub pooling_pair : Paired d a e m u.high w
    pooling_pair = paired d a e m u.high w parts.0

    -- there is room for it,
    pub pooling_room : n + k < 15000
    pooling_room = omega (arith, g.count, ap length (pairs_next d a e h u), q.room)

    -- and it is stored.
    pub pooling_more : (x y : ℕ) → x ≡ word_of (number_of (span a m d)) → y ≡ word_of (number_of (span (m + 1) e d))
        → Pooling d xs n (e + 1) (k + 1) (set (set ys ((n + k) * 2) x) ((n + k) * 2 + 1) y)
    unfolding pooled
    pooling_more x y s t =
        let p = pooling_pair in
        let i : n + (k + 1) ≡ n + k + 1 = omega arith in
        let z : pair_of (span a e d) ≡ (number_of (span a m d), number_of (span (m + 1) e d)) = p.says in
        record {
          rest = rw (i, s, t) (ap (λ (c : ℕ × ℕ). pooled (n + k + 1) (pairs_left (e + 1) d) (set (set ys ((n + k) * 2) (word_of c.0)) ((n + k) * 2 + 1) (word_of c.1))) (sym z)
              ∙ ap (λ l. pooled (n + k) l ys) (sym (pairs_next d a e h u)) ∙ g.rest);
          says = parts.1;
          count = omega (arith, g.count, ap length (pairs_next d a e h u));
          long = length-set (set ys ((n + k) * 2) x) ((n + k) * 2 + 1) y ∙ length-set ys ((n + k) * 2) x ∙ g.long;
        }

  -- behind the last part
  pub pooling_all : (a k : ℕ) (ys : List ℕ) → Pooling d xs n a k ys → length d < a → Pooled d xs n k ys
  unfolding pooled
  pooling_all a k ys g h =
      let z : pairs_left a d ≡ [] = ap (map pair_of) (left_none a d h) in
      record {
        count = omega (arith, g.count, ap length z);
        stored = sym (ap (λ l. pooled (n + k) l ys) z) ∙ g.rest ∙ pooled_all n (pair_list d) xs (omega (arith, q.room, q.long));
      }

-- THE LOOP over the parts one by one: k pairs are stored, and the parts ps are left
pub record PoolLeft (d xs : List ℕ) (n : ℕ) (ps : List (List ℕ)) (k : ℕ) (ys : List ℕ) : Type 0 where
  pub rest : pooled (n + k) (map pair_of ps) ys ≡ pooled n (pair_list d) xs
  pub says : is_some (each pair_in ps) ≡ true
  pub count : k + length (map pair_of ps) ≡ length (pair_list d)
  pub long : length ys ≡ 30000

module _ (d xs : List ℕ) (n : ℕ) (q : Poolable d xs n) where
  -- before the first part
  pub pool_first : is_none d ≡ false → PoolLeft d xs n (split 44 d) 0 xs
  pool_first h =
      let e = pairs_said d h q.listed in
      let z : n + 0 ≡ n = omega arith in
      record { rest = rw (e, z); says = parts_there d h q.listed; count = rw e (omega arith); long = q.long }

  module _ (p : List ℕ) (ps : List (List ℕ)) (k : ℕ) (ys : List ℕ) (g : PoolLeft d xs n (p ∷ ps) k ys) where
    -- there is room for the pair,
    pub pool_room : n + k < 15000
    pool_room = omega (arith, g.count, q.room)

    module _ (m : ℕ) (w : Until 58 p 0 (length p) m) where
      pair : Paired p 0 (length p) m (omega arith) w
      pair = paired p 0 (length p) m (omega arith) w (rw (span_whole p) (each_parts pair_in (0, 0) p ps g.says).0)

      -- its colon is there,
      pub pool_colon : m < length p
      pool_colon = pair.colon

      -- it says the numbers on either side,
      pub pool_pair : pair_of p ≡ (number_of (take m p), number_of (span (m + 1) (length p) p))
      pool_pair =
          let z : m - 0 ≡ m = omega arith in
          ap pair_of (sym (span_whole p)) ∙ pair.says ∙ ap (λ (i : ℕ). (number_of (take i p), number_of (span (m + 1) (length p) p))) z

      -- and it is stored.
      pub pool_more : (x y : ℕ) → x ≡ word_of (number_of (take m p)) → y ≡ word_of (number_of (span (m + 1) (length p) p))
          → PoolLeft d xs n ps (k + 1) (set (set ys ((n + k) * 2) x) ((n + k) * 2 + 1) y)
      unfolding pooled
      pool_more x y s t =
          let i : n + (k + 1) ≡ n + k + 1 = omega arith in
          record {
            rest = rw (i, s, t) (ap (λ (c : ℕ × ℕ). pooled (n + k + 1) (map pair_of ps) (set (set ys ((n + k) * 2) (word_of c.0)) ((n + k) * 2 + 1) (word_of c.1))) (sym pool_pair) ∙ g.rest);
            says = (each_parts pair_in (0, 0) p ps g.says).1;
            count = omega (arith, g.count);
            long = length-set (set ys ((n + k) * 2) x) ((n + k) * 2 + 1) y ∙ length-set ys ((n + k) * 2) x ∙ g.long;
          }

  -- behind the last part
  pub pool_all : (k : ℕ) (ys : List ℕ) → PoolLeft d xs n [] k ys → Pooled d xs n k ys
  unfolding pooled
  pool_all k ys g = record {
    count = omega (arith, g.count);
    stored = g.rest ∙ pooled_all n (pair_list d) xs (omega (arith, q.room, q.long));
  }
