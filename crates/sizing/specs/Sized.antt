-- A program that tables are read as passes no size but, it may be, that of the kinds and of the variables a kind, and each of its ints is in range.
use Prim.Native.Nat.{ℕ, zero, suc, ◌+◌, ◌*◌, ◌<◌}
use Rattle.std.specs.Prelude.{◌≡◌, Bool, true, false, ◌&&◌, List, leb, length, get_or}
use Rattle.std.proofs.Math.Path.{refl}
use Rattle.std.proofs.Common.{ap, arith, le-leb}
use Rattle.lists.specs.Lists.{up_to}
use Rattle.lists.specs.Facts.{All-get_d}
use Rattle.lists.specs.Check.{each}
use Rattle.rows.specs.Seek.{table}
use Rattle.values.specs.Words.{int_in_range}
use Rattle.programs.specs.declared.Leaf.TheVariants.{Bot as bot}
use Rattle.programs.specs.declared.Expr.TheVariants.{Leaf as leaf}
use Rattle.programs.specs.Sizes.{EXPRS}
use Rattle.programs.specs.Program.{Program, variables_of}
use Rattle.tables.specs.Decode.{count, short, expr_kinds, expr_of, expr_in, exprs_of}
use Rattle.tables.specs.Tables.{events_length, exprs_length, stmts_length, actions_length, states_length}
use Rattle.soundness.specs.Sound.{expr_ranged, sized}
use Rattle.faults.specs.Read.{Tabled}

module _ (p : Program) where
  -- so an expression of any kind is in range
  expr_ranged_lem : (k x a b : ℕ) → x < 4294967296 → (expr_ranged p (expr_of k x a b)).test ≡ true
  unfolding expr_of
  expr_ranged_lem k x a b h = All-get_d (λ e. (expr_ranged p e).test ≡ true) (leaf bot) (expr_kinds x a b) k refl
      (refl, (int_in_range x h, (refl, (refl, (refl, (refl, (refl, (refl, (refl, (refl, (refl, (refl, (refl, (refl, tt))))))))))))))

  -- every row of a table of them
  rows_ranged : (l : List ℕ) (k n : ℕ) → ((i : ℕ) → get_or l i 0 < 4294967296) → (each (expr_ranged p) (table (expr_in l) k n)).test ≡ true
  unfolding table
  rows_ranged l k zero h = refl
  rows_ranged l k (suc n) h =
      rw (expr_ranged_lem (get_or l (k * 3) 0) (get_or l (k * 3 + 1) 0) (short (get_or l (k * 3 + 1) 0)) (short (get_or l (k * 3 + 2) 0)) (h (k * 3 + 1))) (rows_ranged l (k + 1) n h)

  -- all expressions
  exprs_ranged : (l : List ℕ) → ((i : ℕ) → get_or l i 0 < 4294967296) → (each (expr_ranged p) (exprs_of l)).test ≡ true
  unfolding exprs_of
  exprs_ranged l h = rows_ranged l 1 (count EXPRS l) h

-- two tests among others that pass
among : (a u : Bool) {b c d e f g : Bool} → b ≡ true → c ≡ true → d ≡ true → e ≡ true → f ≡ true → g ≡ true → a && (b && (u && (c && (d && (e && (f && g)))))) ≡ a && u
among true true hb hc hd he hf hg = rw (hb, hc, hd, he, hf, hg)
among true false hb hc hd he hf hg = rw hb
among false u hb hc hd he hf hg = refl

-- the test, by the kinds and the variables of each
pub sized_is : (p : Program) {types : List ℕ} {kinds : ℕ} {owners holds exprs stmts inits actors bodies states entries exits flags : List ℕ}
    → Tabled p types kinds owners holds exprs stmts inits actors bodies states entries exits flags → ((i : ℕ) → get_or exprs i 0 < 4294967296)
    → (sized p).test ≡ leb p.machines 16 && up_to p.machines (λ k. leb (length (variables_of p k)) 16)
sized_is p {types} {kinds} {owners} {holds} {exprs} {stmts} {inits} {actors} {bodies} {states} {entries} {exits} {flags} t h =
    among (leb p.machines 16) (up_to p.machines (λ k. leb (length (variables_of p k)) 16))
    (le-leb (length p.events) 64 (omega (arith, ap length t.event, events_length types)))
    (le-leb (length p.exprs) 1024 (omega (arith, ap length t.expr, exprs_length exprs)))
    (le-leb (length p.stmts) 1024 (omega (arith, ap length t.stmt, stmts_length stmts inits)))
    (le-leb (length p.actions) 64 (omega (arith, ap length t.action, actions_length actors bodies)))
    (le-leb (length p.states) 64 (omega (arith, ap length t.state, states_length states entries exits flags)))
    (rw t.expr (exprs_ranged p exprs h))
