-- The meetings, the other machines' tails, the last choice's machine and the last choice: the list regrouped.
use Rattle.std.specs.Prelude.{ℕ, ◌+◌, ◌-◌, ◌≤◌, ◌≡◌, refl, take, drop}
use Rattle.std.proofs.Math.Path.{sym, ap}
use Rattle.std.proofs.Common.{◌∙◌, length-take, drop_of_length-le}
use mathlib.Core.List.{List, [], ◌∷◌, ◌++◌, append_assoc, map-append}
use native.Mathlib.Omega.{arith}
use Rattle.std.proofs.Math.ListN.{length, get_or, length-append, length-map}
use Rattle.std.proofs.Math.Seq.{sets, length-sets}
use Rattle.lists.specs.Facts.{All-each}
use Rattle.lists.specs.Ends.{last_of, take_init}
use Rattle.regrouping.specs.Regrouped.{mine, others, by_number, weave}
use Rattle.regrouping.specs.Demand.{choices}
use Rattle.placing.specs.Placed.{owner, owner_at, with_rules, own_n, meet_n, placed_list}
use Rattle.regrouping.proofs.Maps.{map_mine, map_others, map_by_number}
use Rattle.placing.specs.Written.{of_machine, part_with, sets_behind, sets_front, Room}
use Rattle.placing.specs.Closing.{Without}
use Rattle.placing.specs.Weaving.{entries, all_of, all_length, Lists, Weaving}
use Rattle.placing.specs.Tailing.{Tails, Tailed}

-- what is asked of the lists that are handed in: some choices, no more than a list may have, and room for them
pub record Handed (cs out : List ℕ) : Type 0 where
  pub some : 1 ≤ length cs
  pub few : length cs ≤ 4096
  pub room : length cs ≤ length out

-- so the last place is one, of the list and of the output
pub lists_handed : {cs out : List ℕ} → Handed cs out → Lists cs out (length cs - 1)
lists_handed h = record { inside = omega (arith, h.some); room = omega (arith, h.some, h.room) }

-- the last choice by its place
last_got : (x : ℕ) (l : List ℕ) → last_of x l ≡ get_or (x ∷ l) (length l) 0
last_got x [] = refl
last_got x (y ∷ l) = last_got y l

-- the regrouped list by its places
placed_is : (cs rules : List ℕ) (last : ℕ) → last + 1 ≡ length cs → placed_list cs rules ≡ choices (all_of cs rules last) ++ get_or cs last 0 ∷ []
unfolding placed_list
placed_is [] rules last e = absurd (omega arith)
placed_is (x ∷ l) rules last e =
    let n : length l ≡ last = omega arith in
    rw (← take_init x l, last_got x l, n)

module _ {cs rules : List ℕ} {last : ℕ} {out₀ who₁ since₁ out₁ : List ℕ} {o used₁ : ℕ} {who₂ since₂ : List ℕ} {used₂ r : ℕ}
    (ask : Lists cs out₀ last) (w : Weaving cs rules last out₀ who₁ since₁ out₁ last o used₁)
    (t : Without cs last (choices w.left) (owner_at cs last) who₂ since₂ used₂ r) where
  -- what is to be written behind the meetings: the other machines' choices
  abbrev tail : List ℕ
  tail = by_number owner (others owner (owner_at cs last) (choices w.left))

  -- and those of the last choice's machine
  abbrev own : List ℕ
  own = mine owner (owner_at cs last) (choices w.left)

  -- no entry is to come
  none_more : entries cs rules last last ≡ []
  none_more = let short : length (take last cs) ≤ last = omega (arith, length-take last cs) in ap (λ l. with_rules l (drop last rules)) (drop_of_length-le (take last cs) short)

  -- the regrouped choices are the meetings with what stands before them, and those two
  parts : choices (all_of cs rules last) ≡ (choices w.done ++ tail) ++ own
  unfolding weave
  parts = ap choices (w.whole ∙ ap (weave_on) none_more)
      ∙ map-append (λ e. e.0) w.done (by_number own_n rest ++ mine own_n (owner_at cs last) w.left)
      ∙ ap (λ l. choices w.done ++ l) (map-append (λ e. e.0) (by_number own_n rest) (mine own_n (owner_at cs last) w.left)
      ∙ ap (λ l. l ++ choices (mine own_n (owner_at cs last) w.left)) (map_by_number (λ e. e.0) own_n owner rest (All-each _ (λ e. refl) rest)
      ∙ ap (by_number owner) (map_others (λ e. e.0) own_n owner (owner_at cs last) w.left (All-each _ (λ e. refl) w.left)))
      ∙ ap (λ l. tail ++ l) (map_mine (λ e. e.0) own_n owner (owner_at cs last) w.left (All-each _ (λ e. refl) w.left)))
      ∙ sym (append_assoc (choices w.done) tail own)
    where
      rest : List (ℕ × ℕ)
      rest = others own_n (owner_at cs last) w.left

      weave_on : List (ℕ × ℕ) → List (ℕ × ℕ)
      weave_on m = w.done ++ weave own_n meet_n (owner_at cs last) w.left m

  -- which are no more than stand before the last choice
  lengths : (length w.done + length tail) + length own ≤ last
  lengths = omega (
    arith,
    all_length cs rules last,
    length-map (all_of cs rules last) (λ e. e.0),
    ap length parts,
    length-append (choices w.done ++ tail) own,
    length-append (choices w.done) tail,
    length-map w.done (λ e. e.0),
  )

  -- the tails are written
  pub tails_asked : Tails cs last who₂ since₂ used₂ out₁ o
  tails_asked = record {
    u = others owner (owner_at cs last) (choices w.left);
    table = t.rest;
    inside = omega (arith, ask.inside);
    room = omega (arith, lengths, w.next, w.long, ask.room);
  }

  module _ {out₂ : List ℕ} {e : ℕ} (g : Tailed tails_asked.u out₁ o out₂ e) where
    -- the last choice's machine's choices with the last choice
    ends : of_machine cs (owner_at cs last) r (last + 1) ≡ own ++ get_or cs last 0 ∷ []
    ends = part_with cs (owner_at cs last) r last t.begun ask.inside refl ∙ ap (λ l. l ++ get_or cs last 0 ∷ []) (sym t.own)

    -- and there is room for the rest
    pub last_room : Room cs (owner_at cs last) r (last + 1) out₂ e
    unfolding tails_asked
    last_room = record {
      ordered = omega (arith, t.begun);
      inside = omega (arith, ask.inside);
      room = rw ends (omega (
        arith,
        lengths,
        length-append own (get_or cs last 0 ∷ []),
        g.next,
        ap length g.written ∙ length-sets out₁ o tail,
        w.next,
        w.long,
        ask.room,
      ));
    }

    -- THE WHOLE LIST
    pub placed : (out₃ : List ℕ) → last + 1 ≡ length cs → out₃ ≡ sets out₂ e (of_machine cs (owner_at cs last) r (last + 1)) →
        out₃ ≡ placed_list cs rules ++ drop (length (placed_list cs rules)) out₀
    unfolding tails_asked
    placed out₃ n f = f ∙ ap (sets out₂ e) ends ∙ sets_behind out₀ out₂ (choices w.done ++ tail) (own ++ get_or cs last 0 ∷ []) 0 e so_far so_long ∙ ap (sets out₀ 0) all
        ∙ sets_front out₀ (placed_list cs rules) fits
      where
        so_far : out₂ ≡ sets out₀ 0 (choices w.done ++ tail)
        so_far = g.written ∙ sets_behind out₀ out₁ (choices w.done) tail 0 o w.written (omega (arith, w.next, length-map w.done (λ e. e.0)))

        so_long : e ≡ 0 + length (choices w.done ++ tail)
        so_long = omega (arith, g.next, w.next, length-append (choices w.done) tail, length-map w.done (λ e. e.0))

        all : (choices w.done ++ tail) ++ (own ++ get_or cs last 0 ∷ []) ≡ placed_list cs rules
        all = sym (placed_is cs rules last n ∙ ap (λ l. l ++ get_or cs last 0 ∷ []) parts ∙ append_assoc (choices w.done ++ tail) own (get_or cs last 0 ∷ []))

        fits : length (placed_list cs rules) ≤ length out₀
        fits = omega (
          arith,
          ap length (placed_is cs rules last n),
          length-append (choices (all_of cs rules last)) (get_or cs last 0 ∷ []),
          length-map (all_of cs rules last) (λ e. e.0),
          all_length cs rules last,
          ask.room,
        )
