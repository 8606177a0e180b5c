-- The numbers in a statement or an expression: the parts of a statement, the operands of an expression. None, one or two.
use Rattle.std.specs.Prelude.{ℕ, ◌<◌, ◌≡◌, refl, List, [], ◌∷◌}
use Rattle.std.proofs.Common.{ap, sym, ◌∙◌}
use Rattle.lists.specs.Lists.{at}
use Rattle.programs.specs.declared.Leaf.TheVariants.{Bot as bot}
use Rattle.programs.specs.declared.Expr.TheVariants.{Leaf as leaf}
use Rattle.programs.specs.Sizes.{STMTS, EXPRS}
use Rattle.programs.specs.Program.{Program, skip, stmt_at}
use Rattle.programs.specs.Statements.{parts}
use Rattle.programs.specs.Trees.{operands}
use Rattle.tables.specs.declared.Head.{Head}
use Rattle.tables.specs.declared.Head.TheVariants.{Skip, Assign, New, Delete, Send, Raise, Leave, Return, Assert, Seq, If, While}
use Rattle.tables.specs.Decode.{count, head_at, head_in, heads_of, stmt_of, expr_in, exprs_of}
use Rattle.tables.specs.Numbered.{at_past}
use Rattle.tables.specs.Tables.{stmt_head}
use Rattle.marks.specs.declared.Inner.{Inner}
use Rattle.marks.specs.declared.Inner.TheVariants.{Nothing, One, Two}
use Rattle.marks.specs.Marks.{Stated}

-- them as a list, left to right
abbrev pub listed : Inner → List ℕ
listed Nothing = []
listed (One a) = a ∷ []
listed (Two a b) = a ∷ b ∷ []

-- the parts of a statement, of its head
abbrev pub head_parts : Head → List ℕ
head_parts Skip = []
head_parts (Assign x e) = []
head_parts (New x k i n) = []
head_parts Delete = []
head_parts (Send t e a) = []
head_parts (Raise e a) = []
head_parts Leave = []
head_parts Return = []
head_parts (Assert e) = []
head_parts (Seq a b) = a ∷ b ∷ []
head_parts (If e a b) = a ∷ b ∷ []
head_parts (While e a) = a ∷ []

-- the parts of statement s in these statements
abbrev pub parts_in : List ℕ → ℕ → List ℕ
parts_in stmts s = head_parts (head_at stmts s)

-- the operands of expression e in these expressions
abbrev pub operands_in : List ℕ → ℕ → List ℕ
operands_in exprs e = operands (at (leaf bot) (exprs_of exprs) e)

-- an init list has no part
head_parts_lem : (inits : List ℕ) (h : Head) → head_parts h ≡ parts (stmt_of inits h)
head_parts_lem inits Skip = refl
head_parts_lem inits (Assign x e) = refl
head_parts_lem inits (New x k i n) = refl
head_parts_lem inits Delete = refl
head_parts_lem inits (Send t e a) = refl
head_parts_lem inits (Raise e a) = refl
head_parts_lem inits Leave = refl
head_parts_lem inits Return = refl
head_parts_lem inits (Assert e) = refl
head_parts_lem inits (Seq a b) = refl
head_parts_lem inits (If e a b) = refl
head_parts_lem inits (While e a) = refl

-- so they are the parts of the program's statement
pub parts_are : (stmts : List ℕ) (p : Program) → Stated stmts p → (s : ℕ) → parts_in stmts s ≡ parts (stmt_at p s)
parts_are stmts p t s =
    head_parts_lem t.inits (head_at stmts s)
    ∙ ap parts (sym (ap (λ l. at skip l s) t.same ∙ stmt_head stmts t.inits s))

-- a statement past the last has no part
pub parts_past : (stmts : List ℕ) (s : ℕ) → count STMTS stmts < s → parts_in stmts s ≡ []
unfolding heads_of
parts_past stmts s h = ap head_parts (at_past (head_in stmts) Skip {e = s} refl h)

-- an expression past the last has no operand
pub operands_past : (exprs : List ℕ) (e : ℕ) → count EXPRS exprs < e → operands_in exprs e ≡ []
unfolding exprs_of
operands_past exprs e h = ap operands (at_past (expr_in exprs) (leaf bot) {e = e} refl h)
