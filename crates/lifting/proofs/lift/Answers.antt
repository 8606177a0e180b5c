-- `lifting::lift` meets its contract: each call of the closure gives its room, and leaves the closure as it was. Assumes nothing.
use Rattle.std.proofs.Common.{◌≡◌, ℕ, suc, zero, ◌+◌, ◌<◌, ◌≤◌, sym, ◌∙◌, List, get_or, arith, rules, subst, ext_get_or}
use Rattle.std.specs.Array.{IsFromFnResultFrom}
use Rattle.std.specs.Fn.{Called, Mut}
use Rattle.rows.specs.Seek.{table, table_length, table_at}
use Rattle.configs.specs.Flat.{room_at}
use Rattle.lifting.proofs.lift.Goals as goal

-- where each call of a closure gives what f gives and leaves the closure as it was, what `from_fn` makes of it are the values of f
module _ {C B : Type 0} (g : Mut C (ℕ × Unit {0}) B) (c : C) (f : ℕ → B) (top : ℕ) (gives : (i : ℕ) (y : B) (q : C) → i < top → Called g c (i, tt) y q → (q ≡ c) × (y ≡ f i)) where
  pub made : (ys : List B) (d : B) (i n : ℕ) → i + n ≤ top → IsFromFnResultFrom g c ys i n → (j : ℕ) → j < n → get_or ys (i + j) d ≡ f (i + j)
  made ys d i zero b e j l = absurd (omega arith)
  made ys d i (suc n) b e zero l =
      let z : i + 0 ≡ i = omega arith in
      rw z (e.2.1 d ∙ (gives i e.1 e.0 (omega arith) e.3).1)
  made ys d i (suc n) b e (suc j) l =
      let s : i + suc j ≡ i + 1 + j = omega arith in
      rw s (made ys d (i + 1) n (omega arith) (subst (λ (q : C). IsFromFnResultFrom g q ys (i + 1) n) (gives i e.1 e.0 (omega arith) e.3).0 e.4) j (omega arith))

pub returns : goal.returns
returns c =
    let f = c.args.flat.now in
    let n = c.from_fn.ensures.items.long in
    let m = made _ _ (room_at f) 32 (λ i y q h k. search rules) c.from_fn.result (room_at f 0) 0 32 (omega arith) c.from_fn.ensures.items.each in
    λ t. record {
      next = f.next;
      rooms = ext_get_or (room_at f 0) c.from_fn.result (table (room_at f) 0 32) (n ∙ sym (table_length (room_at f) 0 32))
          (λ j b. let l : j < 32 = omega arith in let z : 0 + j ≡ j = omega arith in rw z at (m j l) ∙ sym (table_at (room_at f) (room_at f 0) 32 j l)) t;
    }
