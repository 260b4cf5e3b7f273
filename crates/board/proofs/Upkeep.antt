-- What a mount does after its erases: by cases, and what the current block holds in each.
use mathlib.Core.Path.{◌≡◌, refl, sym, ap, ◌∙◌}
use mathlib.Core.List.{List, [], ◌∷◌}
use mathlib.Core.Bool.{Bool, true, false, cond, false≢true}
use Prim.Native.Nat.{ℕ, ◌+◌, ◌≤◌, ◌<◌}
use native.Mathlib.Omega.{arith}
use lib.Dec.{ltb}
use lib.ListN.{length}
use borrow.Author.Tests.{lt-ltb, ltb-true, ltb-false}
use Rattle.flash.proofs.Cases.{on_test}
use Rattle.frame.specs.declared.Edition.{Edition}
use Rattle.frame.specs.declared.Edition.TheVariants as edition
use Rattle.frame.specs.Frame.{reset, reset_len}
use Rattle.frame.specs.Reader.{Tail, clean, cut, bad}
use Rattle.frame.proofs.Encode.{length-encode}
use Rattle.journal.specs.Replay.{Entry, state, settled_only}
use Rattle.journal.specs.Block.{Journal}
use Rattle.journal.specs.Laws.{by_edition}
use Rattle.board.specs.Mount.{Upkeep, rests, mends, moves, closed_end, for_tail, for_pending, upkeep_of, transfers, reset_bytes, due_reset, replay_of}
use Rattle.board.specs.Table.{DueTransfer}

pub on-upkeep : {A : Type 0} (u : Upkeep) → (u ≡ moves → A) → (u ≡ mends → A) → (u ≡ rests → A) → A
on-upkeep moves f g h = f refl
on-upkeep mends f g h = g refl
on-upkeep rests f g h = h refl

is-moves : (u : Upkeep) → transfers u ≡ true → u ≡ moves
is-moves moves t = refl
is-moves mends t = absurd (false≢true t)
is-moves rests t = absurd (false≢true t)

moves-mends : moves ≡ mends → ⊥
moves-mends e = false≢true (sym (ap transfers e))

moves-rests : moves ≡ rests → ⊥
moves-rests e = false≢true (sym (ap transfers e))

-- rests and mends are told apart
is_mend : Upkeep → Bool
is_mend rests = false
is_mend mends = true
is_mend moves = false

mends-rests : mends ≡ rests → ⊥
unfolding is_mend
mends-rests e = false≢true (sym (ap is_mend e))

-- something is pending: the reset fits, or it doesn't
by-room : (s : ℕ) (w : Journal) → Upkeep
by-room s w = cond (ltb s (closed_end w + reset_len w.edition)) moves mends

room-rests : (s : ℕ) (w : Journal) → by-room s w ≡ rests → ⊥
unfolding by-room
room-rests s w e =
    on_test (ltb s (closed_end w + reset_len w.edition)) (λ t. moves-rests (sym (rw t) ∙ e)) (λ t. mends-rests (sym (rw t) ∙ e))

room-moves : (s : ℕ) (w : Journal) → by-room s w ≡ moves → s < closed_end w + reset_len w.edition
unfolding by-room
room-moves s w e =
    on_test (ltb s (closed_end w + reset_len w.edition)) (λ t. ltb-true s (closed_end w + reset_len w.edition) t)
    (λ t. absurd (moves-mends (sym e ∙ rw t)))

room-mends : (s : ℕ) (w : Journal) → by-room s w ≡ mends → closed_end w + reset_len w.edition ≤ s
unfolding by-room
room-mends s w e =
    on_test (ltb s (closed_end w + reset_len w.edition)) (λ t. absurd (moves-mends (sym (rw t) ∙ e)))
    (λ t. ltb-false s (closed_end w + reset_len w.edition) t)

-- ---- a block that rests has a clean tail and nothing pending

tail-rests : (c : Tail) → for_tail c ≡ rests → c ≡ clean
tail-rests clean e = refl
tail-rests (cut n) e = absurd (mends-rests e)
tail-rests (bad f) e = absurd (mends-rests e)

pub rests-clean : (s : ℕ) (w : Journal) → upkeep_of s w ≡ rests → w.tail ≡ clean
unfolding by-room
rests-clean s w e = go (replay_of w).pending e
  where
    go : (ps : List Entry) → for_pending s w ps ≡ rests → w.tail ≡ clean
    go [] e = tail-rests w.tail e
    go (p ∷ ps) e = absurd (room-rests s w e)

rests-empty : (s : ℕ) (w : Journal) (ps : List Entry) → for_pending s w ps ≡ rests → ps ≡ []
unfolding by-room
rests-empty s w [] e = refl
rests-empty s w (p ∷ ps) e = absurd (room-rests s w e)

pub rests-none : (s : ℕ) (w : Journal) → upkeep_of s w ≡ rests → (replay_of w).pending ≡ []
rests-none s w e = rests-empty s w (replay_of w).pending e

pub rests-settled : (s : ℕ) (w : Journal) → upkeep_of s w ≡ rests → replay_of w ≡ settled_only (replay_of w)
rests-settled s w e = ap (state (replay_of w).objects) (rests-none s w e)

-- ---- the reset of a block that is mended fits

pub reset-size : (ed : Edition) → reset_len ed ≡ by_edition ed 5 9
reset-size edition.First = refl
reset-size edition.Second = refl

pub mends-fits : (s : ℕ) (w : Journal) → upkeep_of s w ≡ mends → closed_end w ≤ s → closed_end w + length (due_reset w) ≤ s
unfolding by-room
mends-fits s w e h = go (replay_of w).pending e
  where
    go : (ps : List Entry) → for_pending s w ps ≡ mends → closed_end w + length (reset_bytes w ps) ≤ s
    go [] e = omega arith
    go (p ∷ ps) e = omega (arith, room-mends s w e, length-encode w.edition reset)

-- at most nine bytes
pub reset-few : (w : Journal) → length (due_reset w) ≤ 9
reset-few w = go (replay_of w).pending
  where
    most : (ed : Edition) → reset_len ed ≤ 9
    most edition.First = omega arith
    most edition.Second = omega arith

    go : (ps : List Entry) → length (reset_bytes w ps) ≤ 9
    go [] = omega arith
    go (p ∷ ps) = omega (arith, most w.edition, length-encode w.edition reset)

-- ---- a transfer is due as document 02 says

pub due_moves : (s : ℕ) (w : Journal) → transfers (upkeep_of s w) ≡ true → DueTransfer s w
unfolding by-room
due_moves s w t = go (replay_of w).pending refl (is-moves (upkeep_of s w) t)
  where
    tail_moves : (c : Tail) → for_tail c ≡ moves → ⊥
    tail_moves clean e = moves-rests (sym e)
    tail_moves (cut n) e = moves-mends (sym e)
    tail_moves (bad f) e = moves-mends (sym e)

    go : (ps : List Entry) → (replay_of w).pending ≡ ps → for_pending s w ps ≡ moves → DueTransfer s w
    go [] q e = absurd (tail_moves w.tail e)
    go (p ∷ ps) q e =
        record {
          some_pending = λ n. let z : ◌≡◌ {A = List Entry} (p ∷ ps) [] = sym q ∙ n in let y : ◌≡◌ {A = ℕ} 0 1 = cc in omega arith;
          no_fit = omega (arith, room-moves s w e, reset-size w.edition);
        }

pub moves-due : (s : ℕ) (w : Journal) → DueTransfer s w → upkeep_of s w ≡ moves
unfolding by-room
moves-due s w d = go (replay_of w).pending refl
  where
    go : (ps : List Entry) → (replay_of w).pending ≡ ps → for_pending s w ps ≡ moves
    go [] q = absurd (d.some_pending q)
    go (p ∷ ps) q = rw (lt-ltb s (closed_end w + reset_len w.edition) (omega (arith, d.no_fit, reset-size w.edition)))
