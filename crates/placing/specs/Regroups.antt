-- The regrouped list of numbers is the regrouped list of the choices that the numbers are.
use Rattle.std.specs.Prelude.{ℕ, ◌<◌, ◌≡◌, refl}
use Rattle.std.proofs.Common.{sym, ap, ◌∙◌}
use mathlib.Core.List.{List, [], ◌∷◌, ◌++◌, map, map-map, cons-ne-nil, map-append}
use Rattle.lists.specs.Lists.{All}
use Rattle.lists.specs.Facts.{All-each, All-map}
use Rattle.lists.specs.Keep.{All-image, image-All}
use Rattle.lists.specs.Ends.{init_of, last_of, map_init, map_last}
use Rattle.machines.specs.Config.{Choice}
use Rattle.rules.specs.declared.Rule.{Rule}
use Rattle.choices.specs.Choices.{choice_word, choice_of, choices_of, word_again, bits_small, choice_again}
use Rattle.labels.specs.Labels.{rule_number, meeting, meeting_is}
use Rattle.meetings.specs.Meetings.{own, meets}
use Rattle.regrouping.specs.Regrouped.{regrouped}
use Rattle.regrouping.specs.Demand.{choices, own_e, meet_e}
use Rattle.placing.specs.Placed.{owner, with_rules, own_n, meet_n, woven, placed_list}
use Rattle.regrouping.proofs.Maps.{map_regrouped}

-- a choice and its rule as numbers
abbrev numbered : Choice × Rule → ℕ × ℕ
numbered e = (choice_word e.0, rule_number e.1)

-- the numbers of the rules of labelled choices
abbrev pub rule_numbers : List (Choice × Rule) → List ℕ
rule_numbers m = map rule_number (map (λ e. e.1) m)

-- choices with their rules' numbers are the labelled choices as numbers
with_rules_numbered : (l : List ℕ) (m : List (Choice × Rule)) (more : List ℕ) → choices m ≡ choices_of l → with_rules l (rule_numbers m ++ more) ≡ map numbered m
with_rules_numbered [] [] more e = refl
with_rules_numbered [] (y ∷ m) more e = absurd (cons-ne-nil y.0 (choices m) e)
with_rules_numbered (x ∷ l) [] more e = absurd (cons-ne-nil (choice_of x) (choices_of l) (sym e))
with_rules_numbered (x ∷ l) (y ∷ m) more e =
    let same : y.0 ≡ choice_of x = cc in
    let rest : choices m ≡ choices_of l = cc in
    rw (with_rules_numbered l m more rest, same, word_again x)

-- the bits of labelled choices that are numbers' are a choice's
bits_of : (l : List ℕ) (m : List (Choice × Rule)) → choices m ≡ choices_of l → All (λ e. e.0.bits < 256) m
bits_of l m e = image-All (λ x. x.bits < 256) (λ e. e.0) m (rw e (All-image (λ x. x.bits < 256) choice_of l (All-each _ bits_small l)))

-- THE LAW. Where m is the choices before the last with the rules of their steps, and the list of rules begins with those rules' numbers, the regrouped list of numbers is the numbers of
-- the regrouped list.
pub placed_regroup : (x : ℕ) (l : List ℕ) (m : List (Choice × Rule)) (more : List ℕ) → choices m ≡ init_of (choice_of x) (choices_of l) →
    placed_list (x ∷ l) (rule_numbers m ++ more)
    ≡ map choice_word (choices (regrouped (own_e Rule own) (meet_e Choice meets) (own (last_of (choice_of x) (choices_of l))) m) ++ last_of (choice_of x) (choices_of l) ∷ [])
unfolding placed_list
placed_regroup x l m more e =
    ap (λ n. choices (woven k n) ++ last_of x l ∷ []) (with_rules_numbered (init_of x l) m more is)
    ∙ ap (λ w. choices w ++ last_of x l ∷ []) (sym (map_regrouped numbered (own_e Rule own) own_n (meet_e Choice meets) meet_n k m owns classes))
    ∙ ap (λ w. w ++ last_of x l ∷ []) (map-map (λ e. e.0) numbered w ∙ sym (map-map choice_word (λ e. e.0) w))
    ∙ ap (λ n. map choice_word (choices w) ++ n ∷ []) (sym (word_again (last_of x l)))
    ∙ sym (map-append choice_word (choices w) (choice_of (last_of x l) ∷ []))
    ∙ ap (λ z. map choice_word (choices (regrouped (own_e Rule own) (meet_e Choice meets) (own z) m) ++ z ∷ [])) (map_last choice_of x l)
  where
    k : ℕ
    k = owner (last_of x l)

    w : List (Choice × Rule)
    w = regrouped (own_e Rule own) (meet_e Choice meets) k m

    is : choices m ≡ choices_of (init_of x l)
    is = e ∙ sym (map_init choice_of x l)

    owns : All (λ e. owner (choice_word e.0) ≡ e.0.machine) m
    owns = All-map _ _ m (λ e h. ap (λ y. y.machine) (choice_again e.0 h)) (bits_of (init_of x l) m is)

    classes : All (λ e. meeting (rule_number e.1) ≡ meets e.1) m
    classes = All-each _ (λ e. meeting_is e.1) m
