-- The choices that no meeting placed, written machine by machine, by number; and the end of the list.
use Rattle.std.specs.Prelude.{ℕ, ◌+◌, ◌-◌, ◌≤◌, ◌≡◌, refl, List, [], ◌++◌, length, get_or}
use Rattle.std.proofs.Common.{sym, ap, ◌∙◌, append_assoc, append-nil, arith, length-append}
use Rattle.std.proofs.lemmas.List.Edits.{sets}
use Rattle.std.proofs.Math.Seq.{length-sets}
use Rattle.regrouping.specs.Regrouped.{others, tails, by_number}
use Rattle.placing.specs.Placed.{owner}
use Rattle.regrouping.proofs.Mine.{by_number_next}
use Rattle.placing.specs.Written.{of_machine, sets_behind, Room}
use Rattle.placing.specs.Waiting.{Waiting, all_placed}
use Rattle.placing.specs.Closing.{Lowest, none_lower, closed, Without, without_row}

-- What the tails' loop asks: u is what is to be written, and there is room for it.
pub record Tails (cs : List ℕ) (end : ℕ) (who since : List ℕ) (used : ℕ) (out : List ℕ) (at : ℕ) : Type 0 where
  pub u : List ℕ
  pub table : Waiting cs end u who since used
  pub inside : end ≤ length cs
  pub room : at + length (by_number owner u) ≤ length out

-- `done` is written of u, and `rest` is not.
pub record Tailing (cs : List ℕ) (end : ℕ) (u out₀ : List ℕ) (at : ℕ) (who since : List ℕ) (used : ℕ) (out : List ℕ) (o : ℕ) : Type 0 where
  pub done : List ℕ
  pub rest : List ℕ
  pub whole : by_number owner u ≡ done ++ by_number owner rest
  pub table : Waiting cs end rest who since used
  pub next : o ≡ at + length done
  pub written : out ≡ sets out₀ at done
  pub long : length out ≡ length out₀

-- before the first machine
pub begin_tailing : {cs : List ℕ} {end : ℕ} {who since : List ℕ} {used : ℕ} {out : List ℕ} {at : ℕ} (a : Tails cs end who since used out at) → Tailing cs end a.u out at who since used out at
begin_tailing a = record { done = []; rest = a.u; whole = refl; table = a.table; next = omega arith; written = refl; long = refl }

-- all is written
pub record Tailed (u out₀ : List ℕ) (at : ℕ) (out : List ℕ) (o : ℕ) : Type 0 where
  pub next : o ≡ at + length (by_number owner u)
  pub written : out ≡ sets out₀ at (by_number owner u)

-- after the last machine
pub end_tailing : {cs : List ℕ} {end : ℕ} {u out₀ : List ℕ} {at : ℕ} {who since : List ℕ} {out : List ℕ} {o : ℕ} → Tailing cs end u out₀ at who since 0 out o → Tailed u out₀ at out o
unfolding tails
end_tailing t =
    let is = t.whole ∙ ap (λ r. t.done ++ by_number owner r) (all_placed t.table) ∙ append-nil t.done in
    record { next = rw is t.next; written = rw is t.written }

module _ {cs : List ℕ} {end : ℕ} {u out₀ : List ℕ} {at : ℕ} {who since : List ℕ} {used : ℕ} {out : List ℕ} {o s : ℕ}
    (room : at + length (by_number owner u) ≤ length out₀) (inside : end ≤ length cs) (t : Tailing cs end u out₀ at who since used out o) (l : Lowest who used s) (fits : used ≤ 4096) where
  -- the machine of the least number is taken out of the table
  taken : Without cs end t.rest (get_or who s 0) (closed who used s) (closed since used s) (used - 1) (get_or since s 0)
  taken = without_row s t.table l.within fits

  -- its choices come next
  split : by_number owner u ≡ (t.done ++ of_machine cs (get_or who s 0) (get_or since s 0) end) ++ by_number owner (others owner (get_or who s 0) t.rest)
  split = t.whole ∙ ap (λ r. t.done ++ r) (by_number_next owner (get_or who s 0) t.rest (none_lower t.table l)
      ∙ ap (λ m. m ++ by_number owner (others owner (get_or who s 0) t.rest)) taken.own)
      ∙ sym (append_assoc t.done (of_machine cs (get_or who s 0) (get_or since s 0) end) (by_number owner (others owner (get_or who s 0) t.rest)))

  -- there is room for its choices
  pub tail_room : Room cs (get_or who s 0) (get_or since s 0) end out o
  tail_room = record {
    ordered = taken.begun;
    inside = inside;
    room = omega (
      arith,
      ap length split,
      length-append (t.done ++ of_machine cs (get_or who s 0) (get_or since s 0) end) (by_number owner (others owner (get_or who s 0) t.rest)),
      length-append t.done (of_machine cs (get_or who s 0) (get_or since s 0) end),
      t.next,
      t.long,
      room,
    );
  }

  -- which are written
  pub tail_turn : (out' : List ℕ) (o' : ℕ) → o' ≡ o + length (of_machine cs (get_or who s 0) (get_or since s 0) end) → out' ≡ sets out o (of_machine cs (get_or who s 0) (get_or since s 0) end) →
      Tailing cs end u out₀ at (closed who used s) (closed since used s) (used - 1) out' o'
  tail_turn out' o' n e = record {
    done = t.done ++ of_machine cs (get_or who s 0) (get_or since s 0) end;
    rest = others owner (get_or who s 0) t.rest;
    whole = split;
    table = taken.rest;
    next = omega (arith, n, t.next, length-append t.done (of_machine cs (get_or who s 0) (get_or since s 0) end));
    written = e ∙ sets_behind out₀ out t.done (of_machine cs (get_or who s 0) (get_or since s 0) end) at o t.written t.next;
    long = ap length e ∙ length-sets out o (of_machine cs (get_or who s 0) (get_or since s 0) end) ∙ t.long;
  }
