-- A run of a program in its tables: what it is asked, and what its loop is asked in turn.
use Rattle.std.specs.Prelude.{ℕ, ◌≤◌, ◌≡◌, refl, List, length}
use Rattle.std.proofs.Common.{sym}
use Rattle.programs.specs.Sizes.{CHOICES}
use Rattle.tables.specs.declared.Program.{Program as Tables}
use Rattle.tables.specs.Decode.{program_of, variables_of}
use Rattle.index.specs.Index.{Said, Placed}
use Rattle.configs.specs.declared.Flat.{Flat}
use Rattle.configs.specs.Flat.{flat_config}
use Rattle.accepting.specs.Asked.{IsOne}
use Rattle.admitting.specs.Admitting.{Laid}
use Rattle.looping.specs.Looping.{RunAsked}

-- THE LISTS f hold an accepted configuration of the sound program, in unused places zero; the first n of the numbers l are to be run, and `row` has a place for
-- the rule of each
pub record AcceptedAsked (q : Tables) (f : Flat) (l : List ℕ) (n : ℕ) (row : List ℕ) : Type 0 where
  pub laid : Laid q f
  pub one : IsOne (program_of q) f
  pub inside : n ≤ length l
  pub few : n ≤ CHOICES
  pub room : length row ≡ CHOICES

-- what the loop is asked
abbrev pub loop_asked : {q : Tables} {f : Flat} {l : List ℕ} {n : ℕ} {row says places : List ℕ} → AcceptedAsked q f l n row
    → Said (program_of q).steps (program_of q).calls (program_of q).acts says → ((types : List ℕ) → Placed (variables_of q.variable_of types) places)
    → RunAsked q.exprs q.stmts q.inits q.event_types q.variable_of q.variable_type q.action_of q.action_body q.state_of q.state_entry q.state_exit q.defers says places f l n row
loop_asked {q} {f} a k h = record {
  p = program_of q;
  tabled = record {
    sound = a.laid.sound;
    exprs_are = refl;
    stmts_are = refl;
    events_are = refl;
    variables_are = refl;
    actions_are = refl;
    states_are = refl;
    told = k;
    placed = h q.variable_type;
  };
  c = flat_config (program_of q) f;
  sized = a.laid.sized;
  holds = sym a.one.zeroed;
  accepted = a.one.accepted;
  inside = a.inside;
  few = a.few;
  room = a.room;
}
