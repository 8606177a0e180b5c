-- A room's queue in the flat lists: the pairs' numbers that wait, what is asked of its 16 places, what ⊙ and a removal make of it, and that both keep what is asked.
use Rattle.std.specs.Prelude.{ℕ, zero, suc, ◌+◌, ◌-◌, ◌*◌, ◌≤◌, ◌<◌, ◌≡◌, Bool, eqb, take, drop, get_or, set}
use Rattle.std.proofs.Math.Path.{refl}
use Rattle.std.proofs.Common.{ap, sym, ◌∙◌, true≢false, le_of_suc-le-suc, not-suc-le-zero, arith, length-set, get_or-drop, get_or-set_same, get_or-set_other, length-take-le}
use Rattle.std.proofs.Math.Option.{Option, none, some, none-ne-some}
use Rattle.std.proofs.Math.Bool.{true, false, cond}
use mathlib.Core.List.{List, [], ◌∷◌, ◌++◌}
use Rattle.std.proofs.Math.Numerals.{add-one}
use borrow.Author.Tests.{eq-eqb, ne_eqb, lt-ltb, le-ltb, ltb-true}
use Rattle.std.proofs.Math.Dec.{ltb}
use Rattle.std.proofs.Math.ListN.{length, length-append, length-drop, get_or-eq_default}
use Rattle.std.proofs.lemmas.List.{set-get_or}
use Rattle.lists.specs.Lists.{on_opt, is_some, any}
use Rattle.lists.specs.Facts.{or_left, or_right, or_none}
use Rattle.rows.specs.Pad.{pad, pad_length, pad_get, pad_take, pushes, without, without_length}
use Rattle.rows.specs.Part.{part, put, part_length, part_front, put_length, put_part, part_put, set_put, row_other}
use Rattle.programs.specs.Sizes.{QUEUE}

-- THE QUEUE of room i: the numbers that wait
abbrev pub queue_at : List ℕ → List ℕ → ℕ → List ℕ
queue_at pairs waiting i = take (get_or waiting i 0) (part (i * 16) 16 pairs)

-- what is asked of room i's queue: zeros stand behind what waits
pub record QueueOk (pairs waiting : List ℕ) (i : ℕ) : Type 0 where
  pub room : i < 32
  pub places : length pairs ≡ 512
  pub rooms : length waiting ≡ 32
  pub fits : get_or waiting i 0 ≤ 16
  pub packed : part (i * 16) 16 pairs ≡ pad 0 16 (queue_at pairs waiting i)

-- q ⊙ x on numbers: an equal one that waits leaves the queue as it is; a full queue refuses; else the number goes to the end
unfoldable pub put_number : List ℕ → ℕ → Option (List ℕ)
put_number q x = cond (any (eqb x) q) (some q) (cond (ltb (length q) QUEUE) (some (q ++ x ∷ [])) none)

-- all rooms' places where room i's queue is q
abbrev pub put_queue : ℕ → List ℕ → List ℕ → List ℕ
put_queue i q pairs = put (i * 16) (pad 0 16 q) pairs

-- what a put to room i leaves: where the queue refuses, all as it was
pub record Put (pairs waiting : List ℕ) (i x : ℕ) (r : Bool) (pairs' waiting' : List ℕ) : Type 0 where
  pub answer : r ≡ is_some (put_number (queue_at pairs waiting i) x)
  pub places : pairs' ≡ on_opt (put_number (queue_at pairs waiting i) x) pairs (λ q. put_queue i q pairs)
  pub counts : waiting' ≡ on_opt (put_number (queue_at pairs waiting i) x) waiting (λ q. set waiting i (length q))

-- what the removal of pair k from room i's queue leaves
pub record Removed (pairs waiting : List ℕ) (i k : ℕ) (pairs' waiting' : List ℕ) : Type 0 where
  pub places : pairs' ≡ put_queue i (without k (queue_at pairs waiting i)) pairs
  pub counts : waiting' ≡ set waiting i (get_or waiting i 0 - 1)

-- THE SEARCH
module _ {A : Type 0} (f : A → Bool) (d : A) where
  -- none of the first i + 1 passes where none of i does and the next does not
  more : (l : List A) (i : ℕ) → any f (take i l) ≡ false → f (get_or l i d) ≡ false → any f (take (suc i) l) ≡ false
  more [] i e h = refl
  more (x ∷ l) zero e h = rw h
  more (x ∷ l) (suc i) e h = let n = or_none (f x) (any f (take i l)) e in rw n.0 (more l i n.1 h)

  -- an element that passes is found
  hit : (l : List A) (n i : ℕ) → i < n → i < length l → f (get_or l i d) ≡ true → any f (take n l) ≡ true
  hit [] n i b c h = absurd (not-suc-le-zero c)
  hit (x ∷ l) zero i b c h = absurd (not-suc-le-zero b)
  hit (x ∷ l) (suc n) zero b c h = or_left (f x) _ h
  hit (x ∷ l) (suc n) (suc i) b c h = or_right (f x) _ (hit l n i (le_of_suc-le-suc b) (le_of_suc-le-suc c) h)

module _ (x b : ℕ) (l : List ℕ) where
  -- before the first turn nothing is seen
  pub seen_none : any (eqb x) (part b 0 l) ≡ false
  unfolding part
  seen_none = refl

  -- a number that is another is passed over
  pub seen_more : (k : ℕ) → any (eqb x) (part b k l) ≡ false → (get_or l (b + k) 0 ≡ x → ⊥) → any (eqb x) (part b (k + 1) l) ≡ false
  unfolding part
  seen_more k e n = rw add-one (more (eqb x) 0 (drop b l) k e (rw (get_or-drop b l k 0) (ne_eqb x (get_or l (b + k) 0) (λ q. n (sym q)))))

  -- an equal one is found
  pub seen_hit : (n k : ℕ) → k < n → b + n ≤ length l → get_or l (b + k) 0 ≡ x → any (eqb x) (part b n l) ≡ true
  unfolding part
  seen_hit n k h c e =
      let s : k < length (drop b l) = simp length-drop (omega arith) in
      hit (eqb x) 0 (drop b l) n k h s (rw (get_or-drop b l k 0) (eq-eqb x (get_or l (b + k) 0) (sym e)))

-- THE THREE WAYS OF ⊙
module _ (q : List ℕ) (x : ℕ) where
  -- an equal one waits
  pub put_there : any (eqb x) q ≡ true → put_number q x ≡ some q
  unfolding put_number
  put_there h = rw h

  -- the queue is full
  pub put_full : any (eqb x) q ≡ false → 16 ≤ length q → put_number q x ≡ none
  unfolding put_number
  put_full h l = rw (h, le-ltb (length q) 16 l)

  -- there is a place
  pub put_new : any (eqb x) q ≡ false → length q < 16 → put_number q x ≡ some (q ++ x ∷ [])
  unfolding put_number
  put_new h l = rw (h, lt-ltb (length q) 16 l)

  -- what is made has its 16 places, too
  pub put_fits : (r : List ℕ) → length q ≤ 16 → put_number q x ≡ some r → length r ≤ 16
  unfolding put_number
  put_fits r l = go (any (eqb x) q) (ltb (length q) 16) refl
    where
      go : (a b : Bool) → ltb (length q) 16 ≡ b → cond a (some q) (cond b (some (q ++ x ∷ [])) none) ≡ some r → length r ≤ 16
      go true b t e = let s : q ≡ r = cc in rw s at l
      go false true t e =
          let s : q ++ x ∷ [] ≡ r = cc in
          let n : length (q ++ x ∷ []) ≤ 16 = simp length-append (omega (arith, ltb-true (length q) 16 t)) in
          rw s at n
      go false false t e = absurd (none-ne-some _ e)

-- ROOM i's QUEUE
module _ (pairs waiting : List ℕ) (i : ℕ) (ok : QueueOk pairs waiting i) where
  -- the room has 16 places
  row_length : length (part (i * 16) 16 pairs) ≡ 16
  row_length = part_length (i * 16) 16 pairs (omega arith)

  -- as many wait as are counted
  pub queue_length : length (queue_at pairs waiting i) ≡ get_or waiting i 0
  queue_length = length-take-le (get_or waiting i 0) (part (i * 16) 16 pairs) (omega (arith, row_length))

  -- zeros stand behind them
  pub queue_zeros : (j : ℕ) → get_or waiting i 0 ≤ j → get_or (part (i * 16) 16 pairs) j 0 ≡ 0
  queue_zeros j h =
      ap (λ (l : List ℕ). get_or l j 0) ok.packed ∙ pad_get 0 16 (queue_at pairs waiting i) j
      ∙ get_or-eq_default (queue_at pairs waiting i) 0 (omega (arith, queue_length))

  -- the numbers that are counted are the queue
  pub queue_part : part (i * 16) (get_or waiting i 0) pairs ≡ queue_at pairs waiting i
  queue_part = sym (part_front (i * 16) 16 (get_or waiting i 0) pairs ok.fits)

  -- the places hold the queue
  pub places_same : pairs ≡ put_queue i (queue_at pairs waiting i) pairs
  places_same = put_part 0 (i * 16) 16 pairs (omega arith) ∙ ap (λ (r : List ℕ). put (i * 16) r pairs) ok.packed

  -- the counts hold its length
  pub counts_same : waiting ≡ set waiting i (length (queue_at pairs waiting i))
  counts_same = rw queue_length (sym (set-get_or waiting i 0))

  -- an equal number waits: nothing is stored
  pub left_there : (x : ℕ) → any (eqb x) (part (i * 16) (get_or waiting i 0) pairs) ≡ true → Put pairs waiting i x true pairs waiting
  left_there x h =
      let e : put_number (queue_at pairs waiting i) x ≡ some (queue_at pairs waiting i) = put_there (queue_at pairs waiting i) x (rw queue_part at h) in
      record { answer = rw e; places = rw e places_same; counts = rw e counts_same }

  -- the queue is full: nothing is stored
  pub left_full : (x : ℕ) → any (eqb x) (part (i * 16) (get_or waiting i 0) pairs) ≡ false → 16 ≤ get_or waiting i 0 → Put pairs waiting i x false pairs waiting
  left_full x h l =
      let e : put_number (queue_at pairs waiting i) x ≡ none = put_full (queue_at pairs waiting i) x (rw queue_part at h) (omega (arith, queue_length)) in
      record { answer = rw e; places = rw e; counts = rw e }

  -- the number is stored behind the last one, and counted
  pub left_new : (x : ℕ) → any (eqb x) (part (i * 16) (get_or waiting i 0) pairs) ≡ false → get_or waiting i 0 < 16
      → Put pairs waiting i x true (set pairs (i * 16 + get_or waiting i 0) x) (set waiting i (get_or waiting i 0 + 1))
  left_new x h l =
      let e : put_number (queue_at pairs waiting i) x ≡ some (queue_at pairs waiting i ++ x ∷ []) = put_new (queue_at pairs waiting i) x (rw queue_part at h) (omega (arith, queue_length)) in
      let n : get_or waiting i 0 + 1 ≡ length (queue_at pairs waiting i ++ x ∷ []) = simp length-append (omega (arith, queue_length)) in
      record {
        answer = rw e;
        places = rw e (set_put 0 (i * 16) 16 pairs (get_or waiting i 0) x (omega arith) l
            ∙ ap (λ (r : List ℕ). put (i * 16) r pairs) (pushes 0 16 (get_or waiting i 0) (part (i * 16) 16 pairs) row_length ok.fits ok.packed x l));
        counts = rw e (ap (λ (m : ℕ). set waiting i m) n);
      }

  -- a number that waits can be put
  pub can_there : (x : ℕ) → any (eqb x) (part (i * 16) (get_or waiting i 0) pairs) ≡ true → true ≡ is_some (put_number (queue_at pairs waiting i) x)
  can_there x h = (left_there x h).answer

  -- another one where a place is left
  pub can_new : (x : ℕ) → any (eqb x) (part (i * 16) (get_or waiting i 0) pairs) ≡ false → ltb (get_or waiting i 0) 16 ≡ is_some (put_number (queue_at pairs waiting i) x)
  unfolding put_number
  can_new x h =
      let m : any (eqb x) (queue_at pairs waiting i) ≡ false = rw queue_part at h in
      rw (m, queue_length) (go (ltb (get_or waiting i 0) 16))
    where
      go : (b : Bool) → b ≡ is_some (cond b (some (queue_at pairs waiting i ++ x ∷ [])) none)
      go true = refl
      go false = refl

  -- ROOM i's QUEUE BECOMES q
  module _ (q : List ℕ) (h : length q ≤ 16) where
    -- 16 places again
    pad_16 : length (pad 0 16 q) ≡ 16
    pad_16 = pad_length 0 16 q h

    -- the room's places
    pub new_row : part (i * 16) 16 (put_queue i q pairs) ≡ pad 0 16 q
    new_row = part_put 0 (i * 16) 16 (pad 0 16 q) pairs pad_16 (omega arith)

    -- its count
    pub new_count : get_or (set waiting i (length q)) i 0 ≡ length q
    new_count = get_or-set_same waiting i (length q) 0 (omega arith)

    -- its queue
    pub new_queue : queue_at (put_queue i q pairs) (set waiting i (length q)) i ≡ q
    new_queue = rw (new_count, new_row) (pad_take 0 16 q)

    -- what is asked of it holds
    pub new_ok : QueueOk (put_queue i q pairs) (set waiting i (length q)) i
    new_ok = record {
      room = ok.room;
      places = put_length (i * 16) (pad 0 16 q) pairs (omega (arith, pad_16)) ∙ ok.places;
      rooms = length-set waiting i (length q) ∙ ok.rooms;
      fits = rw new_count h;
      packed = new_row ∙ ap (pad 0 16) (sym new_queue);
    }

    -- another room's places are as they were
    pub other_row : (j : ℕ) → j < 32 → (j ≡ i → ⊥) → part (j * 16) 16 (put_queue i q pairs) ≡ part (j * 16) 16 pairs
    other_row j l n = row_other 0 16 i pairs (omega arith) (pad 0 16 q) j pad_16 (omega arith) n

    -- so is its count
    pub other_count : (j : ℕ) → (j ≡ i → ⊥) → get_or (set waiting i (length q)) j 0 ≡ get_or waiting j 0
    other_count j n = get_or-set_other waiting i j (length q) 0 n

    -- so is its queue
    pub other_queue : (j : ℕ) → j < 32 → (j ≡ i → ⊥) → queue_at (put_queue i q pairs) (set waiting i (length q)) j ≡ queue_at pairs waiting j
    other_queue j l n = rw (other_count j n, other_row j l n)

    -- and what is asked of it holds as before
    pub other_ok : (j : ℕ) → (j ≡ i → ⊥) → QueueOk pairs waiting j → QueueOk (put_queue i q pairs) (set waiting i (length q)) j
    other_ok j n o = record {
      room = o.room;
      places = new_ok.places;
      rooms = new_ok.rooms;
      fits = rw (other_count j n) o.fits;
      packed = other_row j o.room n ∙ o.packed ∙ ap (pad 0 16) (sym (other_queue j o.room n));
    }

-- WHAT A PUT AND A REMOVAL LEAVE: room i's queue is q, in 16 places, and nothing else is changed
pub record Becomes (pairs waiting : List ℕ) (i : ℕ) (q pairs' waiting' : List ℕ) : Type 0 where
  pub small : length q ≤ 16
  pub places : pairs' ≡ put_queue i q pairs
  pub counts : waiting' ≡ set waiting i (length q)

-- what is asked of room i's queue is kept, and its queue is q; of another room all is as it was
module _ (pairs waiting : List ℕ) (i : ℕ) (q pairs' waiting' : List ℕ) (ok : QueueOk pairs waiting i) (b : Becomes pairs waiting i q pairs' waiting') where
  -- what is asked of it
  pub becomes_ok : QueueOk pairs' waiting' i
  becomes_ok = rw (b.places, b.counts) (new_ok pairs waiting i ok q b.small)

  -- the queue
  pub becomes_queue : queue_at pairs' waiting' i ≡ q
  becomes_queue = rw (b.places, b.counts) (new_queue pairs waiting i ok q b.small)

  -- what is asked of another room's
  pub becomes_other_ok : (j : ℕ) → (j ≡ i → ⊥) → QueueOk pairs waiting j → QueueOk pairs' waiting' j
  becomes_other_ok j n o = rw (b.places, b.counts) (other_ok pairs waiting i ok q b.small j n o)

  -- another room's places
  pub becomes_other_row : (j : ℕ) → j < 32 → (j ≡ i → ⊥) → part (j * 16) 16 pairs' ≡ part (j * 16) 16 pairs
  becomes_other_row j l n = rw b.places (other_row pairs waiting i ok q b.small j l n)

  -- another room's count
  pub becomes_other_count : (j : ℕ) → (j ≡ i → ⊥) → get_or waiting' j 0 ≡ get_or waiting j 0
  becomes_other_count j n = rw b.counts (other_count pairs waiting i ok q b.small j n)

module _ (pairs waiting : List ℕ) (i : ℕ) (pairs' waiting' : List ℕ) (ok : QueueOk pairs waiting i) where
  -- a put that is done
  pub put_done : (x : ℕ) → Put pairs waiting i x true pairs' waiting' → (q : List ℕ) × ((put_number (queue_at pairs waiting i) x ≡ some q) × Becomes pairs waiting i q pairs' waiting')
  put_done x p = go (put_number (queue_at pairs waiting i) x) refl p.answer p.places p.counts
    where
      go : (o : Option (List ℕ)) → put_number (queue_at pairs waiting i) x ≡ o → true ≡ is_some o → pairs' ≡ on_opt o pairs (λ q. put_queue i q pairs)
          → waiting' ≡ on_opt o waiting (λ q. set waiting i (length q))
          → (q : List ℕ) × ((put_number (queue_at pairs waiting i) x ≡ some q) × Becomes pairs waiting i q pairs' waiting')
      go none e a s t = absurd (true≢false a)
      go (some q) e a s t =
          (q, (e, record { small = put_fits (queue_at pairs waiting i) x q (omega (arith, queue_length pairs waiting i ok, ok.fits)) e; places = s; counts = t }))

  -- a put that is refused
  pub put_refused : (x : ℕ) → Put pairs waiting i x false pairs' waiting' → (put_number (queue_at pairs waiting i) x ≡ none) × ((pairs' ≡ pairs) × (waiting' ≡ waiting))
  put_refused x p = go (put_number (queue_at pairs waiting i) x) refl p.answer p.places p.counts
    where
      go : (o : Option (List ℕ)) → put_number (queue_at pairs waiting i) x ≡ o → false ≡ is_some o → pairs' ≡ on_opt o pairs (λ q. put_queue i q pairs)
          → waiting' ≡ on_opt o waiting (λ q. set waiting i (length q)) → (put_number (queue_at pairs waiting i) x ≡ none) × ((pairs' ≡ pairs) × (waiting' ≡ waiting))
      go none e a s t = (e, (s, t))
      go (some q) e a s t = absurd (true≢false (sym a))

  -- a put, done or refused
  pub put_becomes : (x : ℕ) (r : Bool) → Put pairs waiting i x r pairs' waiting'
      → Becomes pairs waiting i (on_opt (put_number (queue_at pairs waiting i) x) (queue_at pairs waiting i) (λ q. q)) pairs' waiting'
  put_becomes x true p = let d = put_done x p in rw d.1.0 d.1.1
  put_becomes x false p =
      let d = put_refused x p in
      rw (d.0, d.1.0, d.1.1) (record { small = omega (arith, queue_length pairs waiting i ok, ok.fits); places = places_same pairs waiting i ok; counts = counts_same pairs waiting i ok })

  -- a removal
  pub remove_becomes : (k : ℕ) → k < get_or waiting i 0 → Removed pairs waiting i k pairs' waiting' → Becomes pairs waiting i (without k (queue_at pairs waiting i)) pairs' waiting'
  remove_becomes k l p =
      let s : length (queue_at pairs waiting i) ≡ get_or waiting i 0 = queue_length pairs waiting i ok in
      let n : length (without k (queue_at pairs waiting i)) + 1 ≡ length (queue_at pairs waiting i) = without_length 0 k (queue_at pairs waiting i) (omega arith) in
      let m : get_or waiting i 0 - 1 ≡ length (without k (queue_at pairs waiting i)) = omega arith in
      record { small = omega (arith, ok.fits); places = p.places; counts = p.counts ∙ ap (λ (v : ℕ). set waiting i v) m }
