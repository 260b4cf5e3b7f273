-- What is next, by the step's place; bytes programmed one by one.
use mathlib.Core.Path.{◌≡◌, sym, ap, ap₂, ◌∙◌}
use mathlib.Core.List.{List}
use mathlib.Core.Bool.{Bool, cond}
use mathlib.Core.Logic.{◌⊎◌, inl, inr}
use Prim.Native.Nat.{ℕ, suc, ◌+◌, ◌*◌, ◌≤◌, ◌<◌}
use native.Mathlib.Omega.{arith}
use lib.ListN.{length, get_or, drop}
use lib.Seq.{drop-cons, drop-length}
use Rattle.flash.specs.Flash.{Step, block_of, offset_of, program_at, size_in, writes, write_all}
use Rattle.flash.proofs.Sizes.{place-most}
use Rattle.wire.specs.declared.Refusal.TheVariants as refusal
use Rattle.board.specs.declared.Stage.{Stage}
use Rattle.board.specs.declared.Phase.{Phase}
use Rattle.board.specs.declared.Phase.TheVariants.{Unmounted, Idle, Busy}
use Rattle.board.specs.declared.Record.{Record}
use Rattle.board.specs.declared.Rest.{Rest}
use Rattle.board.specs.declared.Next.TheVariants as next
use Rattle.board.specs.Step as step
use Rattle.board.specs.Drive.{placed, next_in}
use Rattle.job.specs.declared.actions.Action.{Action}
use Rattle.job.specs.declared.actions.Action.TheVariants as action
use Rattle.job.specs.Code.{flash_step, takes}
use Rattle.drive.specs.declared.bursts.Lane.{Lane}
use Rattle.drive.specs.Code.{Short}

-- ---- what is next in a job, by whether its place lies in the image

pub next_is : (N len : ℕ) (r : Record) (st : Stage) (x : Step) (b : Bool) → x ≡ step.action st r → takes N len r.rest x ≡ b
    → cond b (placed (size_in N len) x) (next.Refused refusal.Stale) ≡ next_in N (Busy st) len r
next_is N len r st x b e t =
    ap (λ (c : Bool). cond c (placed (size_in N len) x) (next.Refused refusal.Stale)) (sym t)
    ∙ ap (λ (y : Step). cond (takes N len r.rest y) (placed (size_in N len) y) (next.Refused refusal.Stale)) e

-- a byte to program, by its place
pub placed-program : (s i : ℕ) (a : Action) (k o v : ℕ) → a ≡ action.Program k o v
    → i ≡ block_of (flash_step a) * s + offset_of (flash_step a) → next.Program i v ≡ placed s (flash_step a)
placed-program s i a k o v e h =
    ap (λ (j : ℕ). next.Program j v) (h ∙ ap (λ (x : Action). block_of (flash_step x) * s + offset_of (flash_step x)) e)
    ∙ sym (ap (λ (x : Action). placed s (flash_step x)) e)

-- in no job there is nothing
pub nothing_next : (N len : ℕ) (r : Record) (ph : Phase) → (ph ≡ Unmounted) ⊎ (ph ≡ Idle) → next.Nothing ≡ next_in N ph len r
nothing_next N len r ph (inl e) = sym (ap (λ (x : Phase). next_in N x len r) e)
nothing_next N len r ph (inr e) = sym (ap (λ (x : Phase). next_in N x len r) e)

-- ---- bytes programmed

-- the places of a frame's bytes end in the image
pub lane_ends : (N len s : ℕ) (z : Rest) (l : Lane) (k : ℕ) → s ≡ size_in N len → Short N len z l k → l.block * s + (k + l.at) ≤ len
lane_ends N len s z l k e h = place-most N len s l.block (k + l.at) e h.there (omega (arith, h.room))

module _ (img : List ℕ) (at : ℕ) (bs : List ℕ) where
  pub write_first : write_all img (writes (at + 0) (drop 0 bs)) ≡ write_all img (writes at bs)
  write_first = let e : at + 0 ≡ at = omega arith in ap (λ (o : ℕ). write_all img (writes o bs)) e

  pub write_one : (i : ℕ) → i < length bs
      → write_all img (writes (at + i) (drop i bs)) ≡ write_all (program_at img (at + i) (get_or bs i 0)) (writes (at + (i + 1)) (drop (i + 1) bs))
  unfolding writes write_all
  write_one i h =
      let e : suc (at + i) ≡ at + (i + 1) = omega arith in
      let f : suc i ≡ i + 1 = omega arith in
      ap (λ (l : List ℕ). write_all img (writes (at + i) l)) (drop-cons bs i 0 h)
      ∙ ap₂ (λ (o j : ℕ). write_all (program_at img (at + i) (get_or bs i 0)) (writes o (drop j bs))) e f

  pub write_last : (i : ℕ) → i ≡ length bs → write_all img (writes (at + i) (drop i bs)) ≡ img
  unfolding writes write_all
  write_last i e = ap (λ (l : List ℕ). write_all img (writes (at + i) l)) (ap (λ (j : ℕ). drop j bs) e ∙ drop-length bs)
