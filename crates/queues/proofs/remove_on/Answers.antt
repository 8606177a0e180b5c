-- `queues::remove_on` meets its contract: the numbers behind the one taken out move up, and a zero stands behind them. Assumes nothing.
use Rattle.std.specs.Prelude.{ℕ, ◌+◌, ◌-◌, ◌*◌, ◌≤◌, ◌<◌, ◌≡◌, refl, List, length, get_or, set}
use Rattle.std.proofs.Common.{ap, sym, ◌∙◌, ⊎_elim, arith, length-set, get_or-set_same, get_or-set_other, get_or-take}
use Rattle.std.proofs.Math.Logic.{dite}
use Rattle.std.proofs.Math.Decide.{ℕ_discrete}
use Rattle.std.proofs.Math.ListN.{get_or-eq_default}
use Rattle.std.specs.List.{CopiedTo, SameBelow, SameFrom}
use Rattle.rows.specs.Pad.{below?, pad, pad_length, pad_get, without, without_length, without_low, without_high}
use Rattle.rows.specs.Part.{part, part_get, put_ext}
use Rattle.queues.specs.Queues.{QueueOk, queue_at, put_queue, queue_length, queue_zeros}
use Rattle.queues.proofs.remove_on.Goals as goal

-- what the move and the zero leave, in room i's places and off them
module _ (pairs waiting : List ℕ) (i k : ℕ) (ok : QueueOk pairs waiting i) (h : k < get_or waiting i 0) (new : List ℕ) (long : length new ≡ length pairs)
    (moved : CopiedTo pairs new (i * 16 + (k + 1)) (i * 16 + k) (i * 16 + (get_or waiting i 0 - 1 + 1) - (i * 16 + (k + 1))))
    (before : SameBelow pairs new (i * 16 + k)) (behind : SameFrom pairs new (i * 16 + k + (i * 16 + (get_or waiting i 0 - 1 + 1) - (i * 16 + (k + 1))))) where
  -- the numbers that wait
  abbrev q : List ℕ
  q = queue_at pairs waiting i

  there : k < length q
  there = omega (arith, queue_length pairs waiting i ok)

  fewer : length (without k q) + 1 ≡ get_or waiting i 0
  fewer = without_length 0 k q there ∙ queue_length pairs waiting i ok

  places_16 : length (pad 0 16 (without k q)) ≡ 16
  places_16 = pad_length 0 16 (without k q) (omega (arith, fewer, ok.fits))

  -- number j of them
  number : (j : ℕ) → j < get_or waiting i 0 → get_or q j 0 ≡ get_or pairs (i * 16 + j) 0
  number j b = get_or-take (get_or waiting i 0) (part (i * 16) 16 pairs) j 0 b ∙ part_get (i * 16) 16 pairs j 0 (omega (arith, ok.fits))

  -- the place of the zero is the last one's
  other : (j : ℕ) → (j ≡ i * 16 + (get_or waiting i 0 - 1) → ⊥) → get_or (set new (i * 16 + (get_or waiting i 0 - 1)) 0) j 0 ≡ get_or new j 0
  other j n = get_or-set_other new (i * 16 + (get_or waiting i 0 - 1)) j 0 0 n

  low : (j : ℕ) → j < k → get_or (set new (i * 16 + (get_or waiting i 0 - 1)) 0) (i * 16 + j) 0 ≡ get_or (without k q) j 0
  low j b = other (i * 16 + j) (λ e. omega arith) ∙ before (i * 16 + j) 0 (omega arith) ∙ sym (without_low 0 k q j there b ∙ number j (omega arith))

  high : (j : ℕ) → k ≤ j → j < get_or waiting i 0 - 1 → get_or (set new (i * 16 + (get_or waiting i 0 - 1)) 0) (i * 16 + j) 0 ≡ get_or (without k q) j 0
  high j b d =
      let e : i * 16 + (k + 1) + (i * 16 + j - (i * 16 + k)) ≡ i * 16 + (j + 1) = omega arith in
      other (i * 16 + j) (λ e. omega arith) ∙ moved (i * 16 + j) 0 (omega arith) (omega arith) ∙ ap (λ (m : ℕ). get_or pairs m 0) e
      ∙ sym (without_high 0 k q j there b ∙ number (j + 1) (omega arith))

  past : (j : ℕ) → get_or waiting i 0 - 1 ≤ j → j < 16 → get_or (set new (i * 16 + (get_or waiting i 0 - 1)) 0) (i * 16 + j) 0 ≡ get_or (without k q) j 0
  past j b d = dite (ℕ_discrete j (get_or waiting i 0 - 1))
      (λ (e : j ≡ get_or waiting i 0 - 1). rw e (get_or-set_same new (i * 16 + (get_or waiting i 0 - 1)) 0 0 (omega (arith, long, ok.places, ok.room, ok.fits))
      ∙ sym (get_or-eq_default (without k q) 0 (omega (arith, fewer)))))
      (λ (n : j ≡ get_or waiting i 0 - 1 → ⊥). let c : get_or waiting i 0 ≤ j = omega arith in
      other (i * 16 + j) (λ e. omega arith) ∙ behind (i * 16 + j) 0 (omega arith) ∙ sym (part_get (i * 16) 16 pairs j 0 d) ∙ queue_zeros pairs waiting i ok j c
      ∙ sym (get_or-eq_default (without k q) 0 (omega (arith, fewer))))

  removed : set new (i * 16 + (get_or waiting i 0 - 1)) 0 ≡ put_queue i (without k q) pairs
  removed = put_ext 0 (i * 16) (pad 0 16 (without k q)) pairs (set new (i * 16 + (get_or waiting i 0 - 1)) 0)
      (omega (arith, places_16, ok.places, ok.room)) (length-set new (i * 16 + (get_or waiting i 0 - 1)) 0 ∙ long)
      (λ j b. let d : j < 16 = omega (arith, places_16) in
      ⊎_elim (λ (c : j < k). low j c)
      (λ (c : k ≤ j). ⊎_elim (λ (e : j < get_or waiting i 0 - 1). high j c e) (λ (e : get_or waiting i 0 - 1 ≤ j). past j e d) (below? j (get_or waiting i 0 - 1)))
      (below? j k) ∙ sym (pad_get 0 16 (without k q) j))
      (λ j o. ⊎_elim
      (λ (b : j < i * 16). other j (λ e. omega arith) ∙ before j 0 (omega arith))
      (λ (b : i * 16 + length (pad 0 16 (without k q)) ≤ j). other j (λ e. omega (arith, places_16, ok.fits)) ∙ behind j 0 (omega (arith, places_16, ok.fits)))
      o)

pub returns : goal.returns
returns c =
    let a = c.args in
    let m = c.copy_within.ensures in
    record {
      places = removed a.pairs.now a.waiting.now a.i a.k c.requires.0 c.requires.1 _ m.len m.by_index.0 m.by_index.1 m.by_index.2;
      counts = refl;
    }
