-- `exports::namakviz_regroup` meets its contract: 0, or the number of the answer. Assumes nothing.
use Rattle.std.proofs.Common.{◌≡◌, Bool, true, false, eqb, eqb-true, refl, sym, ◌∙◌}
use Rattle.std.specs.Prelude.{Ok, Err}
use Rattle.answers.specs.declared.Answer.{Answer}
use Rattle.answers.specs.Number.{number}
use Rattle.grouping.specs.Grouping.{refusal_of}
use Rattle.exports.proofs.namakviz_regroup.Goals as goal

-- no refusal is 0,
none : (a : Answer) → Ok tt ≡ refusal_of a → 0 ≡ number a
none a h = go (eqb (number a) 0) refl h
  where
    go : (b : Bool) → eqb (number a) 0 ≡ b → Ok tt ≡ refusal_of a → 0 ≡ number a
    go true e h = sym (eqb-true (number a) 0 e)
    go false e h = let k = rw e at h in cc

-- and a refusal is its own answer
some : (a b : Answer) → Err b ≡ refusal_of a → number b ≡ number a
some a b h = go (eqb (number a) 0) refl h
  where
    go : (t : Bool) → eqb (number a) 0 ≡ t → Err b ≡ refusal_of a → number b ≡ number a
    go true e h = let k = rw e at h in cc
    go false e h = let k = rw e at h in cc

pub returns-in-Ok : goal.returns-in-Ok
returns-in-Ok c = let g = c.regroup in (none _ (sym c.in-Ok.is ∙ g.ensures.0), g.ensures.1)

pub returns-in-Err : goal.returns-in-Err
returns-in-Err c = let g = c.regroup in (c.number.ensures ∙ some _ c.in-Err.a (sym c.in-Err.is ∙ g.ensures.0), g.ensures.1)
