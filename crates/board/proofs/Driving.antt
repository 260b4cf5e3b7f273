-- What is next, done to the flash, then made, is a step call.
use mathlib.Core.Path.{◌≡◌, refl, ap, ◌∙◌}
use mathlib.Core.List.{List, []}
use mathlib.Core.Bool.{Bool, true, false, ◌&&◌, cond}
use Prim.Native.Nat.{ℕ}
use lib.ListN.{length}
use Rattle.flash.specs.Flash.{size_in, Step, program, erase, apply, size_of, within}
use Rattle.flash.proofs.Image.{length-apply}
use Rattle.wire.specs.declared.Refusal.TheVariants as refusal
use Rattle.board.specs.declared.Next.TheVariants as next
use Rattle.board.specs.declared.Phase.{Phase}
use Rattle.board.specs.declared.Phase.TheVariants.{Unmounted, Idle, Busy}
use Rattle.board.specs.declared.Record.{Record}
use Rattle.board.specs.Record.{Out, refuse}
use Rattle.board.specs.Step.{action, advance, same_shape, stepped, step_busy, step_on, step_in}
use Rattle.board.specs.Drive.{placed, next_in, next_on, flashed, made_in_of, made_on, NextThenMade}

-- the caller's flash step is the machine's
placed_flashes : (s : ℕ) (x : Step) (img : List ℕ) → flashed (placed s x) img ≡ apply s x img
placed_flashes s (program k o v) img = refl
placed_flashes s (erase k) img = refl

made_in : (N : ℕ) (p : Phase) (img : List ℕ) (r : Record) → made_in_of N p (flashed (next_in N p (length img) r) img) r ≡ step_in N p img r
unfolding step_busy
made_in N Unmounted img r = refl
made_in N Idle img r = refl
made_in N (Busy s) img r = go (taken img) refl
  where
    taken : List ℕ → Bool
    taken i = same_shape N (length i) r && within N (size_of N i) (action s r)

    after : List ℕ
    after = apply (size_of N img) (action s r) img

    moved : Bool → List ℕ → Out
    moved b i = cond b (stepped i (advance N s i r)) (refuse refusal.Stale i r [])

    -- the flash keeps its length
    same : taken after ≡ taken img
    same = ap (λ (n : ℕ). same_shape N n r && within N (size_in N n) (action s r)) (length-apply (size_of N img) (action s r) img)

    go : (b : Bool) → taken img ≡ b
        → made_in_of N (Busy s) (flashed (cond b (placed (size_of N img) (action s r)) (next.Refused refusal.Stale)) img) r
        ≡ cond b (stepped after (advance N s after r)) (refuse refusal.Stale img r [])
    go true e =
        ap (λ (i : List ℕ). moved (taken i) i) (placed_flashes (size_of N img) (action s r) img) ∙ ap (λ (b : Bool). moved b after) (same ∙ e)
    go false e = ap (λ (b : Bool). moved b img) e

pub next-then-made : NextThenMade
unfolding NextThenMade next_on made_on step_on
next-then-made N img r = made_in N r.phase img r
