-- The head of an accepted machine's row: what it names is there, and of the machine's kind.
use Rattle.std.specs.Prelude.{ℕ, ◌≡◌, List, ◌∷◌}
use Rattle.std.proofs.Common.{subst}
use Rattle.programs.specs.Program.{Program, Stmt, stmt_at}
use Rattle.soundness.specs.Founded.{Refers}
use Rattle.soundness.specs.Sound.{Sound}
use Rattle.soundness.specs.SoundFounded.{sound_founded}
use Rattle.machines.specs.Config.{Local}
use Rattle.acceptance.specs.Accepted.{LocalOk}
use Rattle.kept.specs.KeptRow.{part_refers}

-- WHAT THE HEAD NAMES
pub head_refers : (p : Program) (next : ℕ) (l : Local) (s : ℕ) (r : List ℕ) (t : Stmt) → Sound p → LocalOk p next l → l.row ≡ s ∷ r → stmt_at p s ≡ t → Refers p l.kind t
head_refers p next l s r t sound ok row head =
    subst (Refers p l.kind) head (part_refers p (sound_founded p sound) l.kind s (rw row at ok.row_ok.suited).0)
