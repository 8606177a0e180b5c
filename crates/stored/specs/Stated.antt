-- The tables that a rule looks into, as crates/maps asks them: of a sound program they follow from what the index says and from the states' own tables.
use Rattle.std.specs.Prelude.{ℕ, ◌≤◌, ◌≡◌, Bool, true, false, cond, ◌&&◌, List, [], ◌∷◌, eqb, length}
use Rattle.std.proofs.Common.{subst, arith}
use Rattle.std.proofs.Math.Option.{some, none-ne-some, some-injective}
use Rattle.lists.specs.Lists.{All, There}
use Rattle.lists.specs.Facts.{All-map}
use Rattle.programs.specs.Sizes.{ACTIONS}
use Rattle.programs.specs.Program.{Program, Move, moved}
use Rattle.soundness.specs.Sound.{Sound}
use Rattle.soundness.specs.SoundFounded.{sound_founded}
use Rattle.tables.specs.Decode.{states_of}
use Rattle.index.specs.Index.{Says}
use Rattle.maps.specs.Maps.{Moves, Tables}

-- what holds of all that moves lead to holds of what one leads to
moved_all : (P : ℕ → Type 0) (l : List Move) (n e t : ℕ) → All (λ m. P m.to) l → moved l n e ≡ some t → P t
moved_all P [] n e t a q = absurd (none-ne-some _ q)
moved_all P (m ∷ l) n e t a q = go (eqb m.from n && eqb m.on e) (moved_all P l n e t a.1) q
  where
    go : (b : Bool) → (moved l n e ≡ some t → P t) → cond b (some m.to) (moved l n e) ≡ some t → P t
    go true f q = subst P (some-injective _ _ q) a.0
    go false f q = f q

module _ (p : Program) (says : List ℕ) (sound : Sound p) (told : Says p says) where
  -- `says` is the program's, and what a line leads to is there
  pub moves_said : Moves p says
  moves_said = record {
    told = told;
    step_from_1 = λ n e t q. moved_all (λ i. 1 ≤ i) p.steps n e t (All-map _ _ p.steps (λ m h. h.0.0) (sound_founded p sound).steps_ok) q;
    call_from_1 = λ n e t q. moved_all (λ i. 1 ≤ i) p.calls n e t (All-map _ _ p.calls (λ m h. h.0.0) (sound_founded p sound).calls_ok) q;
    act_there = λ n e a q. moved_all (There ACTIONS) p.acts n e a (All-map _ _ p.acts (λ m h. (h.0.0, omega (arith, h.0.1, few))) (sound_founded p sound).acts_ok) q;
  }
    where
      few : length p.actions ≤ ACTIONS
      few = sound.is_sized.1.1.1.1.1.0

  -- and so are the states
  pub tables_said : (kinds entries exits flags : List ℕ) → p.states ≡ states_of kinds entries exits flags → Tables p says kinds entries exits flags
  tables_said kinds entries exits flags e = record { lines = moves_said; states = e }
