-- A machine's choices in a part of the list, written one behind the other into the output.
use Rattle.std.specs.Prelude.{ℕ, suc, ◌+◌, ◌-◌, ◌≤◌, ◌<◌, ◌≡◌, refl, ◌≢◌, List, [], ◌∷◌, ◌++◌, get_or, drop, set}
use Rattle.std.proofs.Common.{sym, ◌∙◌, add-zero, zero-add, add-one, length-set, length-append, drop_of_length-le, take-suc}
use Rattle.std.proofs.Math.Path.{ap}
use native.Mathlib.Omega.{arith}
use Rattle.std.proofs.Math.ListN.{length, take, length-take}
use Rattle.std.proofs.lemmas.List.Edits.{sets, sets-eq}
use Rattle.std.proofs.Math.Seq.{take-add, drop-append-le, length-take-le}
use Rattle.lists.specs.Keep.{keep_append}
use Rattle.regrouping.specs.Regrouped.{mine}
use Rattle.placing.specs.Placed.{owner}
use Rattle.regrouping.specs.Mine.{mine_with, mine_without}

-- machine k's choices from place f on, up to place e, which is left out
unfoldable pub of_machine : List ℕ → ℕ → ℕ → ℕ → List ℕ
of_machine cs k f e = mine owner k (drop f (take e cs))

module _ (cs : List ℕ) (k f : ℕ) where
  -- up to the place where it begins there is none
  pub part_none : of_machine cs k f f ≡ []
  unfolding of_machine
  part_none = let short : length (take f cs) ≤ f = omega (arith, length-take f cs) in ap (mine owner k) (drop_of_length-le (take f cs) short)

  module _ (e : ℕ) (begun : f ≤ e) (inside : e < length cs) where
    -- one place more
    more : drop f (take (e + 1) cs) ≡ drop f (take e cs) ++ get_or cs e 0 ∷ []
    more = rw (add-one, take-suc cs e 0) (drop-append-le f (take e cs) (get_or cs e 0 ∷ []) (omega (arith, length-take-le e cs (omega arith))))

    -- that is the machine's
    pub part_with : owner (get_or cs e 0) ≡ k → of_machine cs k f (e + 1) ≡ of_machine cs k f e ++ get_or cs e 0 ∷ []
    unfolding of_machine
    part_with is = ap (mine owner k) more ∙ mine_with owner k (drop f (take e cs)) (get_or cs e 0) is

    -- that is another's
    pub part_without : owner (get_or cs e 0) ≢ k → of_machine cs k f (e + 1) ≡ of_machine cs k f e
    unfolding of_machine
    part_without d = ap (mine owner k) more ∙ mine_without owner k (drop f (take e cs)) (get_or cs e 0) d

  -- a longer part has no fewer
  part_grows : (j e : ℕ) → f ≤ j → j ≤ e → e ≤ length cs → length (of_machine cs k f j) ≤ length (of_machine cs k f e)
  unfolding of_machine
  part_grows j e l m n =
      let sum : e ≡ j + (e - j) = omega arith in
      let split : take e cs ≡ take j cs ++ take (e - j) (drop j cs) = ap (λ i. take i cs) sum ∙ take-add j (e - j) cs in
      rw (split, drop-append-le f (take j cs) (take (e - j) (drop j cs)) (omega (arith, length-take-le j cs (omega arith))), keep_append, length-append) (omega arith)

-- numbers stored one behind the other, in two parts
sets_append : (l : List ℕ) (i : ℕ) (vs ws : List ℕ) → sets l i (vs ++ ws) ≡ sets (sets l i vs) (i + length vs) ws
sets_append l i [] ws = rw add-zero
sets_append l i (v ∷ vs) ws = let e : i + suc (length vs) ≡ suc i + length vs = omega arith in rw e (sets_append (set l i v) (suc i) vs ws)

-- so behind those that are stored
pub sets_behind : (out₀ out vs ws : List ℕ) (at o : ℕ) → out ≡ sets out₀ at vs → o ≡ at + length vs → sets out o ws ≡ sets out₀ at (vs ++ ws)
sets_behind out₀ out vs ws at o e n = ap (λ l. sets l o ws) e ∙ ap (λ j. sets (sets out₀ at vs) j ws) n ∙ sym (sets_append out₀ at vs ws)

-- numbers stored from the front on
pub sets_front : (l vs : List ℕ) → length vs ≤ length l → sets l 0 vs ≡ vs ++ drop (length vs) l
sets_front l vs h = rw zero-add at (sets-eq vs l 0 (omega arith))

-- what the writing of a machine's choices asks: the part is one of the list, and there is room
pub record Room (cs : List ℕ) (k from end : ℕ) (out : List ℕ) (at : ℕ) : Type 0 where
  pub ordered : from ≤ end
  pub inside : end ≤ length cs
  pub room : at + length (of_machine cs k from end) ≤ length out

-- the machine's choices are written up to place j
pub record Writing (cs : List ℕ) (k from : ℕ) (out₀ : List ℕ) (at : ℕ) (out : List ℕ) (j o : ℕ) : Type 0 where
  pub begun : from ≤ j
  pub next : o ≡ at + length (of_machine cs k from j)
  pub written : out ≡ sets out₀ at (of_machine cs k from j)
  pub long : length out ≡ length out₀

-- before the first place
pub begins : (cs : List ℕ) (k from : ℕ) (out : List ℕ) (at : ℕ) → Writing cs k from out at out from at
begins cs k from out at = record {
  begun = omega arith;
  next = rw (part_none cs k from, add-zero);
  written = rw (part_none cs k from);
  long = refl;
}

module _ {cs : List ℕ} {k from end : ℕ} {out₀ : List ℕ} {at : ℕ} {out : List ℕ} {j o : ℕ} (asked : Room cs k from end out₀ at) (w : Writing cs k from out₀ at out j o) (before : j < end) where
  -- a place that is another machine's
  pub passes : owner (get_or cs j 0) ≢ k → Writing cs k from out₀ at out (j + 1) o
  passes d = let same = part_without cs k from j w.begun (omega (arith, asked.inside)) d in record {
    begun = omega (arith, w.begun);
    next = rw same w.next;
    written = rw same w.written;
    long = w.long;
  }

  module _ (is : owner (get_or cs j 0) ≡ k) where
    -- one choice more
    grown : of_machine cs k from (j + 1) ≡ of_machine cs k from j ++ get_or cs j 0 ∷ []
    grown = part_with cs k from j w.begun (omega (arith, asked.inside)) is

    -- so it is longer by one
    longer : length (of_machine cs k from (j + 1)) ≡ length (of_machine cs k from j) + 1
    longer = rw (grown, length-append)

    -- a place that is its own is written
    pub puts : Writing cs k from out₀ at (set out o (get_or cs j 0)) (j + 1) (o + 1)
    puts = record {
      begun = omega (arith, w.begun);
      next = omega (arith, longer, w.next);
      written = rw (grown, sets_append out₀ at (of_machine cs k from j) (get_or cs j 0 ∷ []), ← w.written, ← w.next);
      long = length-set out o (get_or cs j 0) ∙ w.long;
    }

    -- and there is room for it
    pub fits : o < length out
    fits = omega (arith, longer, w.next, w.long, asked.room, part_grows cs k from (j + 1) end (omega (arith, w.begun)) (omega arith) asked.inside)
