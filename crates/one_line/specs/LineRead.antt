-- ONE LINE READ: what taking it asks, and what comes of it where it is in range and where it is not.
use Rattle.std.specs.Prelude.{ℕ, ◌+◌, ◌-◌, ◌*◌, ◌≤◌, ◌<◌, ◌≡◌, refl, Bool, true, false, cond, List, eqb, leb, ltb, length}
use Rattle.std.proofs.Common.{ap, sym, ◌∙◌, subst, arith}
use Rattle.std.proofs.Math.Logic.{dite}
use Rattle.std.proofs.Math.Option.{some}
use Rattle.std.proofs.Math.Decide.{ℕ_discrete}
use Rattle.answers.specs.declared.Answer.TheVariants.{OutOfRange}
use Rattle.texts.specs.Bytes.{LF}
use Rattle.texts.specs.Forms.{Said, said}
use Rattle.texts.specs.Reading.{put, kind, ordered, ranged}
use Rattle.numerals.specs.Splits.{span, Until, span_length}
use Rattle.forms.specs.declared.Form.{Form}
use Rattle.forms.specs.Recognised.{Recognised}
use Rattle.forms.specs.Values.{init_held, defer_held}
use Rattle.told.specs.Told.{line_told}
use Rattle.spoken.specs.Spoken.{pairs_at, line_at}
use Rattle.spoken.specs.Took.{Took}
use Rattle.lengths.specs.Counted.{moves_in, pairs_in}
use Rattle.lengths.specs.Lengths.{said_bytes}
use Rattle.gathering.specs.declared.Lines.{Lines}
use Rattle.taking_lines.specs.Rows.{step_row, call_row, act_row, kind_machine, kind_step, kind_call, kind_start}
use Rattle.taking_lines.specs.Asked.{Gathered, LineAsked}
use Rattle.one_line.specs.Turns.{read_unranged, read_on}
use Rattle.one_line.specs.Order.{later_more, weighs_more}
use Rattle.one_line.specs.Loop.{LineTurn, Turned, RefusedAt, order_low, order_start}

-- the test of the order, by the kind that a form's number has
pub ordered_told : (s : List ℕ) (last row : ℕ) (places : List ℕ) {k : ℕ} {t : Bool} → ((s places : List ℕ) → k ≡ kind (line_at s places row)) → t ≡ cond (eqb k 11) (ltb last 11) (leb last k)
    → ordered last (line_at s places row) ≡ t
ordered_told s last row places e h = sym (h ∙ ap (λ (n : ℕ). cond (eqb n 11) (ltb last 11) (leb last n)) (e s places))

-- a `new` has its pairs
pub pairs_row : (s places : List ℕ) (row : ℕ) → row ≡ 29 → pairs_in (line_at s places row) ≡ length (pairs_at s places 3)
unfolding line_at
pairs_row s places row e = ap (λ (n : ℕ). pairs_in (line_at s places n)) e

-- a step, a call and an act are a move
pub moves_row : (s places : List ℕ) (row : ℕ) → 38 ≤ row → row ≤ 40 → moves_in (line_at s places row) ≡ 1
moves_row s places row l h = dite (ℕ_discrete row 38)
    (λ e. ap moves_in (step_row s places row l (omega (arith, e))).1)
    (λ n. dite (ℕ_discrete row 39)
    (λ e. ap moves_in (call_row s places row (omega (arith, e)) (omega (arith, e))).1)
    (λ o. ap moves_in (act_row s places row (omega (arith, n, o)) (omega arith)).1))

module _ {x : Lines} (s : List ℕ) (last i : ℕ) (h : LineTurn s last i x)
    (e : ℕ) (u : Until LF s i (length s) e) (l : e < length s) (r : Form) (w : Recognised s i e r) (low : r.row < 44) where
  -- the line
  abbrev pub said_line : Said
  said_line = line_at s r.at r.row

  -- it says so,
  pub says : said (span i e s) ≡ some said_line
  says = line_told s i e r w low

  -- and has its bytes
  pub bytes : (16 * moves_in said_line ≤ e - i + 1) × (4 * pairs_in said_line ≤ e - i + 1)
  bytes = subst (λ (n : ℕ). (16 * moves_in said_line ≤ n + 1) × (4 * pairs_in said_line ≤ n + 1)) (span_length i e s (omega (arith, l))) (said_bytes (span i e s) said_line says)

  module _ (o : ordered last said_line ≡ true) where
    -- WHAT TAKING IT ASKS
    abbrev pub line_asked : LineAsked s r.row r.at x
    line_asked = record {
      lines = h.lines;
      gathered = h.gathered;
      row_low = low;
      few_variables = omega (arith, h.gathered.front.vars.count, h.weighs.vars, h.inside, h.short);
      pool = λ q. record {
        listed = init_held s i e r w q;
        room = omega (arith, h.gathered.back.statements.held.count, h.weighs.pairs, bytes.1, pairs_row s r.at r.row q, u.low, l, h.short);
      };
      listed = defer_held s i e r w;
      few = λ a b. omega (arith, h.weighs.moves, bytes.0, moves_row s r.at r.row a b, u.low, l, h.short);
      no_variable = λ q. h.later.vars (let z = order_low last said_line 2 o (kind_machine s r.at r.row q) (omega arith) in omega arith);
      no_call = λ q. h.later.calls (let z = order_low last said_line 8 o (kind_step s r.at r.row q) (omega arith) in omega arith);
      no_act = λ q. h.later.acts (let z = order_low last said_line 9 o (kind_call s r.at r.row q) (omega arith) in omega arith);
      no_start = λ q. h.later.starts (order_start last said_line o (kind_start s r.at r.row q));
    }

    -- OUT OF RANGE
    pub line_unranged : {x' : Lines} {r : Bool} {taken : Type 0} → Took r (ranged h.lines said_line) taken (Gathered h.lines x')
        → r ≡ false → RefusedAt s last i h.lines OutOfRange x'
    line_unranged t q = record { same = λ n. read_unranged s last h.lines n i e u l said_line says o (sym t.told ∙ q); gathered = t.left q }

    -- READ
    pub line_read : {x' : Lines} {k : ℕ} {r : Bool} {kept : Type 0} → k ≡ kind said_line
        → Took r (ranged h.lines said_line) (Gathered (put said_line h.lines) x') kept → r ≡ true
        → Turned s last i h.lines (e + 1) k x'
    line_read z t q = rw z (record {
      lines = put said_line h.lines;
      more = record { ends = e; until = u; line = said_line; says = says; next = refl; sort = refl; taken = refl };
      same = λ n. read_on s last h.lines n i e u l said_line says o (sym t.told ∙ q);
      gathered = t.done q;
      later = later_more last h.lines said_line o h.later;
      weighs = let z : i + (e - i + 1) ≡ e + 1 = omega (arith, u.low) in
          rw z at (weighs_more h.lines said_line i (e - i + 1) h.weighs (omega arith) bytes.0 bytes.1);
      further = omega (arith, u.low);
      inside = omega arith;
    })
