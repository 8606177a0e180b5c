-- A sound program is a founded one: each thing that the steps rest on follows from what is asked of the lines.
use Prim.Native.Nat.{ℕ, suc, ◌≤◌, ◌<◌}
use Rattle.std.specs.Prelude.{◌≡◌, refl, ◌⊎◌, Bool, ◌&&◌, length}
use Rattle.std.proofs.Common.{sym, inl, inr, true≢false, arith, eqb-true}
use Rattle.std.proofs.Math.Path.{subst}
use Rattle.std.proofs.Math.Bool.{true}
use Rattle.std.proofs.Math.Dec.{eqb}
use Rattle.lists.specs.Lists.{All, any, most, There}
use Rattle.lists.specs.Down.{downward, below}
use Rattle.lists.specs.Facts.{and_parts, or_cases, at_any, any_all, All-zip}
use Rattle.lists.specs.Check.{each_all}
use Rattle.values.specs.declared.Ty.{Ty}
use Rattle.values.specs.declared.Ty.TheVariants.{Void as void, Bool as bool, Int as int, Event as event, Id as id}
use Rattle.programs.specs.Sizes.{HEIGHT}
use Rattle.programs.specs.Program.{Program, Stmt, skip, assign, new, delete, send, raise, leave, return, assert, seq, if, while, stmt_at}
use Rattle.programs.specs.Statements.{parts, height, by_action, by_state, serves}
use Rattle.soundness.specs.Asked.{is_id, refers, lower, own, low, stmt_refers, stmt_own}
use Rattle.soundness.specs.Sound.{Sound}
use Rattle.soundness.specs.Lines.{numbered_all, tables}
use Rattle.soundness.specs.Lines.{stmt_meets, action_meets, state_meets, step_meets, call_meets, act_meets, start_meets}
use Rattle.soundness.specs.Founded.{Refers, StateSound, Founded}

-- The type that passes the test of id is id.
id_is : (t : Ty) → is_id t ≡ true → t ≡ id
id_is void e = absurd (true≢false (sym e))
id_is bool e = absurd (true≢false (sym e))
id_is int e = absurd (true≢false (sym e))
id_is event e = absurd (true≢false (sym e))
id_is id e = refl

module _ (p : Program) where
  -- ONE STATEMENT
  -- A part is there where the statement refers to what is there.
  parts_refer : (t : Stmt) → (stmt_refers p t).Holds → All (λ a. a ≤ length p.stmts) (parts t)
  parts_refer skip h = tt
  parts_refer (assign x e) h = tt
  parts_refer (new x m is) h = tt
  parts_refer delete h = tt
  parts_refer (send t e a) h = tt
  parts_refer (raise e a) h = tt
  parts_refer leave h = tt
  parts_refer return h = tt
  parts_refer (assert e) h = tt
  parts_refer (seq a b) h = (h.0, (h.1, tt))
  parts_refer (if e a b) h = (h.1.0, (h.1.1, tt))
  parts_refer (while e a) h = (h.1, tt)

  -- A statement that serves kind k, refers to what is there and names no foreign variable refers as the steps want it.
  stmt_refers_lem : (k s : ℕ) (t : Stmt) → There p.machines k → serves p k s ≡ true → (stmt_refers p t).Holds → (stmt_own p s t).Holds → Refers p k t
  stmt_refers_lem k s skip m v h o = tt
  stmt_refers_lem k s (assign x e) m v h o = (h.0, o k m v)
  stmt_refers_lem k s (new x j is) m v h o = (
    (h.0, o.0 k m v),
    id_is _ h.1.0,
    h.1.1.0,
    All-zip _ _ _ is (λ xe there of. (there.0, of)) (each_all _ is h.1.1.1) (each_all _ is o.1),
  )
  stmt_refers_lem k s delete m v h o = tt
  stmt_refers_lem k s (send t e a) m v h o = h.1.0
  stmt_refers_lem k s (raise e a) m v h o = h.0
  stmt_refers_lem k s leave m v h o = tt
  stmt_refers_lem k s return m v h o = tt
  stmt_refers_lem k s (assert e) m v h o = tt
  stmt_refers_lem k s (seq a b) m v h o = tt
  stmt_refers_lem k s (if e a b) m v h o = tt
  stmt_refers_lem k s (while e a) m v h o = tt

  module _ (sound : Sound p) where
    -- THE KIND THAT A STATEMENT SERVES is there: an action or a state is of it.
    pub served_there : (k s : ℕ) → serves p k s ≡ true → There p.machines k
    unfolding serves
    served_there k s e = go (or_cases (any (by_action p k s) p.actions) (any (by_state p k s) p.states) e)
      where
        of_k : (n : ℕ) (b : Bool) → eqb n k && b ≡ true → There p.machines n → There p.machines k
        of_k n b e h = subst (There p.machines) (eqb-true n k (and_parts (eqb n k) b e).0) h

        go : (any (by_action p k s) p.actions ≡ true) ⊎ (any (by_state p k s) p.states ≡ true) → There p.machines k
        go (inl x) = any_all (by_action p k s) (λ a. There p.machines a.of) _ p.actions (λ a. of_k a.of _) x
            (numbered_all (refers p).action _ p.actions (λ n a h. h.0) (tables p (refers p) sound.all_refer).actions)
        go (inr x) = any_all (by_state p k s) (λ q. There p.machines q.of) _ p.states (λ q. of_k q.of _) x
            (numbered_all (refers p).state _ p.states (λ n q h. h.0) (tables p (refers p) sound.all_refer).states)

    -- EVERY STATEMENT, of a number that is not there too: that one is skip, which has no parts
    -- Its parts are lower than it is,
    parts_lower : (s : ℕ) → All (λ t. t < s) (parts (stmt_at p s))
    parts_lower s = at_any (λ t. All (λ a. a < s) (parts t)) skip p.stmts s tt
        (λ t. each_all _ (parts (stmt_at p s)) (stmt_meets p (lower p) sound.all_lower s t).0)

    -- and there;
    all_parts_there : (s : ℕ) → All (λ t. t ≤ length p.stmts) (parts (stmt_at p s))
    all_parts_there s = at_any (λ t. All (λ a. a ≤ length p.stmts) (parts t)) skip p.stmts s tt
        (λ t. parts_refer (stmt_at p s) (stmt_meets p (refers p) sound.all_refer s t))

    -- it refers to what is of each kind that it serves;
    serving_refers : (k s : ℕ) → serves p k s ≡ true → Refers p k (stmt_at p s)
    serving_refers k s v = at_any (Refers p k) skip p.stmts s tt
        (λ t. stmt_refers_lem k s (stmt_at p s) (served_there k s v) v (stmt_meets p (refers p) sound.all_refer s t) (stmt_meets p (own p) sound.all_own s t))

    -- its height is not over 32.
    all_low_enough : (s : ℕ) → height p s ≤ HEIGHT
    unfolding height downward
    all_low_enough s = at_any (λ t. suc (most (below 1 (λ f n. suc (most f (parts (stmt_at p n)))) s) (parts t)) ≤ HEIGHT) skip p.stmts s (omega arith)
        (λ t. (stmt_meets p (low p) sound.all_low s t).0)

    -- EVERY STATE that is there has its kind, its entry and its exit there.
    state_sound : (n : ℕ) → There (length p.states) n → StateSound p n
    state_sound n t = let h = state_meets p (refers p) sound.all_refer n t in
        record { kind_there = h.0; entry_there = h.1.1.0; exit_there = h.1.1.1 }

-- THE theorem: what the steps rest on holds of every sound program.
pub sound_founded : (p : Program) → Sound p → Founded p
sound_founded p sound = record {
  lower = parts_lower p sound;
  parts_there = all_parts_there p sound;
  refers = serving_refers p sound;
  low_enough = all_low_enough p sound;
  actions_there = λ a t. (action_meets p (refers p) sound.all_refer a t).1;
  states_there = state_sound p sound;
  steps_ok = numbered_all (refers p).step _ p.steps (λ n t h. h.1.1) (step_meets p (refers p) sound.all_refer);
  calls_ok = numbered_all (refers p).call _ p.calls (λ n t h. h.1.1) (call_meets p (refers p) sound.all_refer);
  acts_ok = numbered_all (refers p).act _ p.acts (λ n t h. h.1.1) (act_meets p (refers p) sound.all_refer);
  some_state = sound.is_stateful;
  start_there = start_meets p (refers p) sound.all_refer;
}
