-- The meetings of the list, each written behind its machine's choices not yet placed.
use Rattle.std.specs.Prelude.{ℕ, ◌+◌, ◌≤◌, ◌<◌, ◌≡◌, true, false, List, [], ◌∷◌, ◌++◌, length, take, drop}
use Rattle.std.proofs.Math.Path.{refl, sym, ap}
use Rattle.std.proofs.Common.{◌∙◌, append_assoc, add-zero, add-one, arith, length-append, length-take, drop-cons, drop-drop, get_or-drop, get_or-take, length-take-le}
use Rattle.std.proofs.lemmas.List.{map-append, length-map}
use Rattle.std.proofs.Math.ListN.{get_or}
use Rattle.std.proofs.lemmas.List.Edits.{sets}
use Rattle.std.proofs.Math.Seq.{length-sets}
use Rattle.lists.specs.Facts.{All-each}
use Rattle.labels.specs.Labels.{meeting}
use Rattle.regrouping.specs.Regrouped.{mine, others, weave}
use Rattle.regrouping.specs.Demand.{choices}
use Rattle.regrouping.specs.Swaps.{swaps_weave, swaps_length}
use Rattle.placing.specs.Placed.{owner, owner_at, with_rules, own_n, meet_n, woven}
use Rattle.regrouping.proofs.Maps.{map_mine, map_others}
use Rattle.placing.specs.Written.{of_machine, part_with, sets_behind, Room}
use Rattle.placing.specs.Waiting.{Waiting, nobody, passes}
use Rattle.placing.specs.Closing.{Without}

-- the entries before the one at place `last`, from place i on
abbrev pub entries : List ℕ → List ℕ → ℕ → ℕ → List (ℕ × ℕ)
entries cs rules last i = with_rules (drop i (take last cs)) (drop i rules)

-- all of them, regrouped: place `last` holds the last choice
abbrev pub all_of : List ℕ → List ℕ → ℕ → List (ℕ × ℕ)
all_of cs rules last = woven (owner_at cs last) (entries cs rules last 0)

-- what the meetings' loop asks of the lists that it is lent
pub record Lists (cs out : List ℕ) (last : ℕ) : Type 0 where
  pub inside : last < length cs
  pub room : last < length out

-- Before place i: `done` is written, and `left` is not yet placed.
pub record Weaving (cs rules : List ℕ) (last : ℕ) (out₀ who since out : List ℕ) (i o used : ℕ) : Type 0 where
  pub done : List (ℕ × ℕ)
  pub left : List (ℕ × ℕ)
  pub bound : i ≤ last
  pub whole : all_of cs rules last ≡ done ++ weave own_n meet_n (owner_at cs last) left (entries cs rules last i)
  pub table : Waiting cs i (choices left) who since used
  pub next : o ≡ length done
  pub written : out ≡ sets out₀ 0 (choices done)
  pub long : length out ≡ length out₀

-- before the first place
pub begin_weaving : (cs rules : List ℕ) (last : ℕ) (who since out : List ℕ) → length who ≡ 4096 → length since ≡ 4096 → Weaving cs rules last out who since out 0 0 0
begin_weaving cs rules last who since out z z' = record {
  done = [];
  left = [];
  bound = omega arith;
  whole = refl;
  table = nobody cs who since z z';
  next = refl;
  written = refl;
  long = refl;
}

-- there are no more pairs than choices
with_rules_length : (l rules : List ℕ) → length (with_rules l rules) ≤ length l
with_rules_length [] rules = omega arith
with_rules_length (x ∷ l) rules = let h = with_rules_length l (drop 1 rules) in omega arith

-- no more is written than stands before the last choice
pub all_length : (cs rules : List ℕ) (last : ℕ) → length (all_of cs rules last) ≤ last
all_length cs rules last = omega (
  arith,
  swaps_length own_n meet_n (swaps_weave own_n meet_n (owner_at cs last) (entries cs rules last 0) [] tt),
  with_rules_length (take last cs) rules,
  length-take last cs,
)

module _ {cs rules : List ℕ} {last : ℕ} {out₀ who since out : List ℕ} {i o used : ℕ} (ask : Lists cs out₀ last) (w : Weaving cs rules last out₀ who since out i o used) (more : i < last) where
  -- the entry at the place
  here : entries cs rules last i ≡ (get_or cs i 0, get_or rules i 0) ∷ entries cs rules last (i + 1)
  here =
      let a : i < length (take last cs) = omega (arith, length-take-le last cs (omega (arith, ask.inside))) in
      rw (add-one i, drop-cons (take last cs) i 0 a, get_or-drop i rules 0 0, add-zero, drop-drop 1 i rules, add-one i, get_or-take last cs i 0 more)

  -- a private choice is not yet placed
  pub private_turn : (who' since' : List ℕ) (used' : ℕ) → meeting (get_or rules i 0) ≡ false → Waiting cs (i + 1) (choices w.left ++ get_or cs i 0 ∷ []) who' since' used' →
      Weaving cs rules last out₀ who' since' out (i + 1) o used'
  unfolding weave
  private_turn who' since' used' m t = record {
    done = w.done;
    left = w.left ++ (get_or cs i 0, get_or rules i 0) ∷ [];
    bound = omega arith;
    whole = w.whole ∙ rw (here, m);
    table = rw (map-append (λ e. e.0) w.left) t;
    next = w.next;
    written = w.written;
    long = w.long;
  }

  module _ {who' since' : List ℕ} {used' r : ℕ} (m : meeting (get_or rules i 0) ≡ true) (t : Without cs i (choices w.left) (owner_at cs i) who' since' used' r) where
    -- a meeting is written behind its machine's choices
    puts : List (ℕ × ℕ)
    puts = mine own_n (owner_at cs i) w.left ++ (get_or cs i 0, get_or rules i 0) ∷ []

    -- which are the machine's choices from its row's place on
    puts_are : of_machine cs (owner_at cs i) r (i + 1) ≡ choices puts
    unfolding puts
    puts_are = part_with cs (owner_at cs i) r i t.begun (omega (arith, ask.inside)) refl
        ∙ ap (λ l. l ++ get_or cs i 0 ∷ []) (sym t.own ∙ sym (map_mine (λ e. e.0) own_n owner (owner_at cs i) w.left (All-each _ (λ e. refl) w.left)))
        ∙ sym (map-append (λ e. e.0) (mine own_n (owner_at cs i) w.left) ((get_or cs i 0, get_or rules i 0) ∷ []))

    -- With them written the rest is to come.
    split : all_of cs rules last ≡ (w.done ++ puts) ++ weave own_n meet_n (owner_at cs last) (others own_n (owner_at cs i) w.left) (entries cs rules last (i + 1))
    unfolding weave puts
    split = w.whole ∙ rw (here, m) (simp append_assoc)

    -- there is room for them
    pub meeting_room : Room cs (owner_at cs i) r (i + 1) out o
    meeting_room = record {
      ordered = omega (arith, t.begun);
      inside = omega (arith, ask.inside);
      room = rw puts_are (omega (
        arith,
        length-map puts (λ e. e.0),
        ap length split,
        length-append (w.done ++ puts) (weave own_n meet_n (owner_at cs last) (others own_n (owner_at cs i) w.left) (entries cs rules last (i + 1))),
        length-append w.done puts,
        all_length cs rules last,
        ask.room,
        w.long,
        w.next,
      ));
    }

    -- and they are written
    pub meeting_turn : (out' : List ℕ) (o' : ℕ) → o' ≡ o + length (of_machine cs (owner_at cs i) r (i + 1)) → out' ≡ sets out o (of_machine cs (owner_at cs i) r (i + 1)) →
        Weaving cs rules last out₀ who' since' out' (i + 1) o' used'
    meeting_turn out' o' n e = record {
      done = w.done ++ puts;
      left = others own_n (owner_at cs i) w.left;
      bound = omega arith;
      whole = split;
      table = rw (map_others (λ e. e.0) own_n owner (owner_at cs i) w.left (All-each _ (λ e. refl) w.left)) (passes t.rest (omega (arith, ask.inside)) t.gone);
      next = n ∙ rw (puts_are) (omega (arith, length-map puts (λ e. e.0), length-append w.done puts, w.next));
      written = e ∙ ap (sets out o) puts_are ∙ sets_behind out₀ out (choices w.done) (choices puts) 0 o w.written (omega (arith, w.next, length-map w.done (λ e. e.0)))
          ∙ ap (sets out₀ 0) (sym (map-append (λ e. e.0) w.done puts));
      long = ap length e ∙ length-sets out o (of_machine cs (owner_at cs i) r (i + 1)) ∙ w.long;
    }
