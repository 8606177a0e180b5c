-- `referring::defers_refer` meets its contract: what is asked of number e is that the flag of event e + 1 is not set. Assumes nothing.
use Rattle.std.proofs.Common.{◌≡◌, ℕ, ◌+◌, ◌*◌, ◌≤◌, Bool, List, length, get_or, refl, ap, sym, ◌∙◌, rules, eqb}
use Rattle.lists.specs.Check.{within, each}
use Rattle.programs.specs.Program.{Program as Lines, state_at}
use Rattle.soundness.specs.Asked.{event_there}
use Rattle.tables.specs.declared.Program.{Program as Tables}
use Rattle.tables.specs.Decode.{count, defer_of}
use Rattle.faults.specs.Read.{Holds}
use Rattle.faults.specs.Ranges.{all_below}
use Rattle.referring.specs.Deferring.{deferred, defers_told}
use Rattle.referring.proofs.defers_refer.Goals as goal

-- of the state it is what its flags say
of_state : (p : Lines) (q : Tables) (n events : ℕ) {b : Bool} → length p.events ≡ events → Holds p q → 1 ≤ n → n ≤ count 64 q.state_of
    → b ≡ (each (within events) (defer_of q.defers n)).test → b ≡ (each (event_there p) (state_at p n).defer).test
of_state p q n events k h low high e =
    let d : (state_at p n).defer ≡ defer_of q.defers n = rw h.state (deferred q.state_of q.state_entry q.state_exit q.defers n low high) in
    e ∙ ap (λ (l : List ℕ). (each (within events) l).test) (sym d) ∙ ap (λ (m : ℕ). (each (within m) (state_at p n).defer).test) (sym k)

pub returns : goal.returns
returns c =
    let a = c.args in
    let q = a.program.now in
    λ p k h. of_state p q a.n a.c.events k.events h c.requires.0 c.requires.1
    (defers_told q.defers a.n a.c.events c.all.result
    (all_below (λ e b. b ≡ eqb (get_or q.defers (a.n * 65 + (e + 1)) 0) 0) (λ x r f m. search rules) (λ e b m. search rules) c.all.result refl c.all.ensures.runs))
