-- `scans::scan` meets its contract: at each turn what is still to be scanned gives what the whole form gives. Assumes nothing.
use Rattle.scans.specs.Turns.{Scanning}
use Rattle.scans.proofs.scan.Given as goal

abbrev pub invariant-loop-c : goal.invariant-loop-c
invariant-loop-c l = Scanning l.form 0 l.s l.a l.e l.c-index l.i l.n l.at
