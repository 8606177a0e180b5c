-- The places of a line in a text, and the word at each.
use Rattle.std.specs.Prelude.{ℕ, zero, suc, ◌+◌, ◌-◌, ◌≤◌, ◌<◌, ◌≡◌, List, [], ◌∷◌, length, drop, take, get_or}
use Rattle.std.proofs.Common.{ap, sym, ◌∙◌, arith, eq-eqb, ne_eqb}
use Rattle.std.proofs.Math.Logic.{dite}
use Rattle.std.proofs.Math.Decide.{dec_lt, ℕ_discrete}
use Rattle.readers.specs.Words.{word, drop_next, word_space, word_lf, word_on, word_out}
use Rattle.shapes.specs.Parts.{till}
use Rattle.shapes.specs.Reads.{after}

-- the bytes from a to before e
abbrev pub line_of : List ℕ → ℕ → ℕ → List ℕ
line_of s a e = take (e - a) (drop a s)

-- A LINE from a on ends at e: there is no LF (10) before e, and one at e if the text does not end there
pub record LineAt (s : List ℕ) (a e : ℕ) : Type 0 where
  pub inside : a ≤ e
  pub low : e ≤ length s
  pub clear : (k : ℕ) → a ≤ k → k < e → get_or s k 0 ≡ 10 → ⊥
  pub ends : e < length s → get_or s e 0 ≡ 10

-- from its end on it has no bytes
pub line_none : (s : List ℕ) (a e : ℕ) → e ≤ a → line_of s a e ≡ []
line_none s a e h = ap (λ (k : ℕ). take k (drop a s)) (let z : e - a ≡ 0 = omega arith in z)

-- before it, its byte and what follows
pub line_next : (s : List ℕ) (a e : ℕ) → a < e → e ≤ length s → line_of s a e ≡ get_or s a 0 ∷ line_of s (a + 1) e
line_next s a e h k =
    let z : e - a ≡ suc (e - (a + 1)) = omega arith in
    rw (z, drop_next s a (omega arith))

-- the line without its first byte
pub line_on : (s : List ℕ) (a e : ℕ) → LineAt s a e → a < e → LineAt s (a + 1) e
line_on s a e l h = record { inside = omega arith; low = l.low; clear = λ k p q. l.clear k (omega arith) q; ends = l.ends }

-- the word at a place of a line: the line's bytes till a space, and the line behind it
pub record WordAt (s : List ℕ) (a e : ℕ) : Type 0 where
  pub bytes : word (drop a s) ≡ till 32 (line_of s a e)
  pub behind : LineAt s (a + length (word (drop a s))) e
  pub rest : line_of s (a + length (word (drop a s))) e ≡ after (line_of s a e)

-- no word
none_at : (s : List ℕ) (a e : ℕ) → LineAt s a e → word (drop a s) ≡ [] → till 32 (line_of s a e) ≡ [] → after (line_of s a e) ≡ line_of s a e → WordAt s a e
none_at s a e l w t f =
    let z : a + length (word (drop a s)) ≡ a = rw w (omega arith) in
    record { bytes = w ∙ sym t; behind = rw z l; rest = rw z (sym f) }

-- one more byte
more_at : (s : List ℕ) (a e : ℕ) → LineAt s a e → a < e → (get_or s a 0 ≡ 32 → ⊥) → WordAt s (a + 1) e → WordAt s a e
more_at s a e l h n w =
    let on = word_on s a (omega arith) n (l.clear a (omega arith) h) in
    let z : a + length (word (drop a s)) ≡ a + 1 + length (word (drop (a + 1) s)) = rw on (omega arith) in
    record {
      bytes = rw (on, line_next s a e h l.low, ne_eqb (get_or s a 0) 32 n) (ap (λ (x : List ℕ). get_or s a 0 ∷ x) w.bytes);
      behind = rw z w.behind;
      rest = rw (z, line_next s a e h l.low, ne_eqb (get_or s a 0) 32 n) w.rest;
    }

-- n bytes before the line's end
word_by : (s : List ℕ) (e n a : ℕ) → a + n ≡ e → LineAt s a e → WordAt s a e
word_by s e zero a q l = none_at s a e l (dite (dec_lt a (length s)) (λ h. let z : a ≡ e = omega arith in let t : get_or s a 0 ≡ 10 = rw z (l.ends (omega arith)) in word_lf s a h (λ f. omega arith) t) (λ h. word_out s a (omega arith))) (rw (line_none s a e (omega arith))) (rw (line_none s a e (omega arith)))
word_by s e (suc n) a q l =
    let h : a < e = omega arith in
    dite (ℕ_discrete (get_or s a 0) 32)
    (λ f. none_at s a e l (word_space s a (omega arith) f) (rw (line_next s a e h l.low, eq-eqb (get_or s a 0) 32 f)) (rw (line_next s a e h l.low, eq-eqb (get_or s a 0) 32 f)))
    (λ f. more_at s a e l h f (word_by s e n (a + 1) (omega arith) (line_on s a e l h)))

-- THE WORD at a place of a line
pub word_at : (s : List ℕ) (a e : ℕ) → LineAt s a e → WordAt s a e
word_at s a e l = word_by s e (e - a) a (omega arith) l
