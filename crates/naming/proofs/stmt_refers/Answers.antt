-- `naming::stmt_refers` meets its contract: a `new` by what `new_refers` says. Assumes nothing.
use Rattle.naming.proofs.stmt_refers.Goals as goal

pub returns-in-New : goal.returns-in-New
returns-in-New c p n v = rw (c.in-New.is, ← c.from-in-New.ensures, ← c.from-in-New-2.ensures, ← c.from-in-New-3.ensures, ← c.from-in-New-4.ensures) (c.new_refers.ensures p n v)
