-- The functions on a room's row of parts, its stack and its queue: what the room holds at the end, and that all off it is as it was, fixes the lists.
use Rattle.std.specs.Prelude.{ℕ, ◌+◌, ◌*◌, ◌≤◌, ◌<◌, ◌≡◌, Bool, List, ◌∷◌, reverse, length, get_or}
use Rattle.std.proofs.Common.{ap, sym, ◌∙◌, ⊎_elim, arith, ext_get_or}
use Rattle.rows.specs.Pad.{below?}
use Rattle.rows.specs.Part.{Off, where?, part, part_get}
use Rattle.programs.specs.Sizes.{ROW}
use Rattle.programs.specs.Program.{Program}
use Rattle.machines.specs.Config.{Frame}
use Rattle.configs.specs.Reversed.{down_to_length, down_to_at}
use Rattle.parts.specs.Parts.{Row, row_at, Becomes}
use Rattle.queues.specs.Queues.{Put, Removed}
use Rattle.engine.specs.Holding.{Elsewhere, other_place, RowBecomes, StackHeld}
use Rattle.remaining.specs.Remaining.{Standing, stands}
use Rattle.stacks.specs.Stacks.{Framed, StackBecomes}
use Rattle.creating.specs.Newborn.{LayAsked, NewLaid}

-- A ROW in its 33 places
-- has one number of parts,
counts_one : (b m n : ℕ) (ys zs : List ℕ) → row_at b m ys ≡ row_at b n zs → m ≡ n
counts_one b m n ys zs e = sym (down_to_length (λ k. get_or ys (b + k) 0) m) ∙ ap length e ∙ down_to_length (λ k. get_or zs (b + k) 0) n

-- and one list holds it, where that is known off them
row_one : (b m n : ℕ) (ys zs : List ℕ) → Row b m ys → Row b n zs → row_at b m ys ≡ row_at b n zs → ((k : ℕ) → Off b ROW k → get_or ys k 0 ≡ get_or zs k 0) → ys ≡ zs
row_one b m n ys zs y z e off = ext_get_or 0 ys zs (y.long ∙ sym z.long) (λ i h. ⊎_elim
    (λ (q : (j : ℕ) × ((j < ROW) × (b + j ≡ i))). rw (← q.1.1) (inside q.0 q.1.0))
    (λ (o : Off b ROW i). off i o)
    (where? b ROW i))
  where
    same : m ≡ n
    same = counts_one b m n ys zs e

    inside : (j : ℕ) → j < ROW → get_or ys (b + j) 0 ≡ get_or zs (b + j) 0
    inside j h = ⊎_elim
        (λ (q : j < m). sym (down_to_at (λ k. get_or ys (b + k) 0) 0 m j q) ∙ ap (λ (l : List ℕ). get_or (reverse l) j 0) e ∙ down_to_at (λ k. get_or zs (b + k) 0) 0 n j (omega (arith, same)))
        (λ (q : m ≤ j). y.zeros j q h ∙ sym (z.zeros j (omega (arith, same)) h))
        (below? j m)

-- `parts`: lone, finish, settle, tidy; p is a program that the contract speaks of
pub becomes_one : {b n : ℕ} {xs : List ℕ} {Of : Program → Type 0} {f : Program → List ℕ → List ℕ} (p : Program) → Of p → (m o : ℕ) (ys zs : List ℕ)
    → Becomes b n xs Of f m ys → Becomes b n xs Of f o zs → (m ≡ o) × (ys ≡ zs)
becomes_one {b} p of m o ys zs h k =
    let e = h.reads p of ∙ sym (k.reads p of) in
    (counts_one b m o ys zs e, row_one b m o ys zs h.row k.row e (λ i q. h.off i q ∙ sym (k.off i q)))

-- ONE PLACE of a room, where the others are as they were
place_one : {k : ℕ} {xs ys zs : List ℕ} → Elsewhere k 1 xs ys → Elsewhere k 1 xs zs → get_or ys k 0 ≡ get_or zs k 0 → ys ≡ zs
place_one {k} {xs} {ys} {zs} h i e = ext_get_or 0 ys zs (h.size ∙ sym i.size) (λ j b. ⊎_elim
    (λ (q : (l : ℕ) × ((l < 1) × (k + l ≡ j))). let z : k + q.0 ≡ k = omega (arith, q.1.0) in rw (← q.1.1, z) e)
    (λ (o : Off k 1 j). let n : j ≡ k → ⊥ = λ z. ⊎_elim (λ (a : j < k). omega arith) (λ (a : k + 1 ≤ j). omega arith) o in other_place h j n ∙ sym (other_place i j n))
    (where? k 1 j))

-- and a row of them
elsewhere_one : {k w : ℕ} {xs ys zs : List ℕ} → Elsewhere k w xs ys → Elsewhere k w xs zs → part (k * w) w ys ≡ part (k * w) w zs → ys ≡ zs
elsewhere_one {k} {w} {xs} {ys} {zs} h i e = ext_get_or 0 ys zs (h.size ∙ sym i.size) (λ j b. ⊎_elim
    (λ (q : (l : ℕ) × ((l < w) × (k * w + l ≡ j))). rw (← q.1.1)
    (sym (part_get (k * w) w ys q.0 0 q.1.0) ∙ ap (λ (l : List ℕ). get_or l q.0 0) e ∙ part_get (k * w) w zs q.0 0 q.1.0))
    (λ (o : Off (k * w) w j). h.same j o ∙ sym (i.same j o))
    (where? (k * w) w j))

-- `remaining`: finish_head, replace_head, push_part, drop_head, clear_row, only; p is a program that the contract speaks of
pub row_becomes_one : {k : ℕ} {counts parts : List ℕ} {Of : Program → Type 0} {f : Program → List ℕ → List ℕ} (p : Program) → Of p → Standing k counts parts → (c d ys zs : List ℕ) → RowBecomes k counts parts Of f c ys → RowBecomes k counts parts Of f d zs → (c ≡ d) × (ys ≡ zs)
row_becomes_one {k} {counts} {parts} p of standing c d ys zs h i =
    let row = stands k counts parts standing in
    let a = h.becomes p of (row_at (k * 33) (get_or counts k 0) parts) row in
    let b = i.becomes p of (row_at (k * 33) (get_or counts k 0) parts) row in
    let e = a.reads ∙ sym b.reads in (
      place_one h.counts_off i.counts_off (counts_one (k * 33) (get_or c k 0) (get_or d k 0) ys zs e),
      row_one (k * 33) (get_or c k 0) (get_or d k 0) ys zs a.row b.row e (λ j o. h.parts_off.same j o ∙ sym (i.parts_off.same j o)),
    )

-- `stacks`: pop_frame, step_frame, call_frame; the stack f on γ stands there
pub stack_becomes_one : {k : ℕ} {depths states maps : List ℕ} {Of : Program → Type 0} {change : Program → Frame → List Frame → List Frame} (p : Program) → Of p → (f : Frame) (γ : List Frame)
    → Framed p (f ∷ γ) → StackHeld k depths states maps (f ∷ γ) → (d e s t m n : List ℕ) → StackBecomes k depths states maps Of change d s m → StackBecomes k depths states maps Of change e t n
    → (d ≡ e) × ((s ≡ t) × (m ≡ n))
stack_becomes_one p of f γ framed stack d e s t m n h i =
    let a = h.becomes p of f γ framed stack in
    let b = i.becomes p of f γ framed stack in (
      place_one h.depths_off i.depths_off (a.depth ∙ sym b.depth),
      (elsewhere_one h.states_off i.states_off (a.state_row ∙ sym b.state_row), elsewhere_one h.maps_off i.maps_off (a.map_row ∙ sym b.map_row)),
    )

-- `queues::put_on`
pub put_one : {pairs waiting : List ℕ} {i x : ℕ} (r s : Bool) (p q w v : List ℕ) → Put pairs waiting i x r p w → Put pairs waiting i x s q v → (r ≡ s) × ((p ≡ q) × (w ≡ v))
put_one r s p q w v h k = (h.answer ∙ sym k.answer, (h.places ∙ sym k.places, h.counts ∙ sym k.counts))

-- `queues::remove_on`
pub removed_one : {pairs waiting : List ℕ} {i k : ℕ} (p q w v : List ℕ) → Removed pairs waiting i k p w → Removed pairs waiting i k q v → (p ≡ q) × (w ≡ v)
removed_one p q w v h k = (h.places ∙ sym k.places, h.counts ∙ sym k.counts)

-- `creating::lay_new`; what it is asked has a program that the contract speaks of
pub laid_one : {to i m n entry : ℕ} {own stmts ids kinds depths tops values counts parts : List ℕ} → LayAsked to entry stmts values counts parts → (a a' b b' c c' d d' e e' f f' g g' : List ℕ)
    → NewLaid to i m n own entry stmts ids kinds depths tops values counts parts a b c d e f g → NewLaid to i m n own entry stmts ids kinds depths tops values counts parts a' b' c' d' e' f' g'
    → (a ≡ a') × ((b ≡ b') × ((c ≡ c') × ((d ≡ d') × ((e ≡ e') × ((f ≡ f') × (g ≡ g'))))))
laid_one q a a' b b' c c' d d' e e' f f' g g' h k = (
  h.ids_are ∙ sym k.ids_are,
  (
    h.kinds_are ∙ sym k.kinds_are,
    (
      h.depths_are ∙ sym k.depths_are,
      (
        h.tops_are ∙ sym k.tops_are,
        (h.values_are ∙ sym k.values_are, row_becomes_one q.placing.program q.placing.said q.placing.standing f f' g g' h.row k.row),
      ),
    ),
  ),
)
