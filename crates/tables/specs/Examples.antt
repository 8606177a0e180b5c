-- Document 01, "A session of the run program": expressions, statements and a state as the tables hold them, read back.
use Rattle.std.specs.Prelude.{◌≡◌, refl, [], ◌∷◌, pos, set, replicate}
use Rattle.rows.specs.Seek.{table}
use Rattle.values.specs.declared.Binary.TheVariants.{Add as add}
use Rattle.programs.specs.declared.Leaf.TheVariants.{Int as int_val, This as this}
use Rattle.programs.specs.declared.Expr.TheVariants.{Leaf as leaf, Binary as binary}
use Rattle.programs.specs.Program.{assign, new, send, seq}
use Rattle.tables.specs.Decode.{exprs_of, expr_of, stmts_of, heads_of, head_of, pairs_of, states_of, defer_of}

-- `expr=1 kind=int val=41`, `expr=2 kind=int val=1`, `expr=3 kind=add a=1 b=2`, `expr=4 kind=this`
exprs : exprs_of (4 ∷ 0 ∷ 0 ∷ 1 ∷ 2147483689 ∷ 0 ∷ 1 ∷ 2147483649 ∷ 0 ∷ 10 ∷ 1 ∷ 2 ∷ 4 ∷ 0 ∷ 0 ∷ [])
    ≡ leaf (int_val (pos 41)) ∷ leaf (int_val (pos 1)) ∷ binary add 1 2 ∷ leaf this ∷ []
unfolding exprs_of expr_of table
exprs = refl

-- `stmt=1 kind=assign var=1 expr=3`, `stmt=2 kind=send to=4 event=1 arg=0`, `stmt=3 kind=seq first=1 second=2`, and one `kind=new var=5 machine=2 init=3:7`
stmts : stmts_of (4 ∷ 0 ∷ 0 ∷ 0 ∷ 0 ∷ 1 ∷ 1 ∷ 3 ∷ 0 ∷ 0 ∷ 4 ∷ 4 ∷ 1 ∷ 0 ∷ 0 ∷ 9 ∷ 1 ∷ 2 ∷ 0 ∷ 0 ∷ 2 ∷ 5 ∷ 2 ∷ 1 ∷ 1 ∷ []) (0 ∷ 0 ∷ 3 ∷ 7 ∷ [])
    ≡ assign 1 3 ∷ send 4 1 0 ∷ seq 1 2 ∷ new 5 2 ((3, 7) ∷ []) ∷ []
unfolding stmts_of heads_of head_of pairs_of table
stmts = refl

-- `state=1 of=1 defer=2,5 entry=3 exit=0`
state : states_of (1 ∷ 1 ∷ []) (0 ∷ 3 ∷ []) (0 ∷ 0 ∷ []) (set (set (replicate 130 0) 67 1) 70 1) ≡ record { of = 1; defer = 2 ∷ 5 ∷ []; entry = 3; exit = 0 } ∷ []
unfolding states_of defer_of table
state = refl
