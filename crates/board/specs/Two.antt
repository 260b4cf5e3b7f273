-- Two blocks, document 02, K14: "N = 2 gives the same bytes and steps as before". What documents 01 and 02 say of two halves is written down here a
-- second time, by the states of the two, for this comparison alone: which half is current, which are erased, where a transfer goes, what is refused.
-- Most of it is not what stood in the definitions before K14: those went by lists of blocks, as today's do. What the lines below take from today's pages
-- is shared: the states of a block, the work of each job once its blocks are chosen, a job's next step and where the record goes on.
use Rattle.std.specs.Prelude.{List, [], ◌∷◌, Bool, true, false, ◌&&◌, cond, ◌≡◌, ℕ, suc, ◌-◌, ◌/◌, ◌%◌, ◌<◌, eqb, ltb, leb, length}
use Rattle.std.proofs.Math.Option.{Option, none}
use Rattle.flash.specs.Bytes.{Bytes, all_ff}
use Rattle.flash.specs.Flash.{Step, apply, block, size_of, block_of, offset_of}
use Rattle.frame.specs.Frame.{Frame}
use Rattle.journal.specs.Block.{Journal, BlockState, blank, in_progress, valid, foreign, block_state, last_time}
use Rattle.wire.specs.declared.Answer.TheVariants.{Done}
use Rattle.wire.specs.declared.Refusal.{Refusal}
use Rattle.wire.specs.declared.Refusal.TheVariants as refusal
use Rattle.board.specs.declared.Phase.{Phase}
use Rattle.board.specs.declared.Phase.TheVariants.{Unmounted, Idle, Busy}
use Rattle.board.specs.declared.Rest.{Rest}
use Rattle.board.specs.declared.Record.{Record}
use Rattle.board.specs.Record.{allowed, unmounted, rest, Out, out, refuse}
use Rattle.board.specs.Step.{action, advance, stepped, step_on}
use Rattle.board.specs.Mount.{is_blank, moves, upkeep_of, transfers, tied_times, mount_on, format_on}
use Rattle.board.specs.Queue.{held, held_in_of, counted}
use Rattle.board.specs.Exec.{exec}
use Rattle.board.specs.Plan.{Work, Performs, format_in, mount_in, frame_in, frame_work, convert_in, convert_work}

-- ---- the image

-- "Its length is a multiple of 256 from 512 to 65,536." "It is two halves of S bytes each."
abbrev pub allowed_two : ℕ → Bool
allowed_two n = leb 512 n && leb n 65536 && eqb (n % 256) 0

abbrev pub size_two : List ℕ → ℕ
size_two img = length img / 2

abbrev pub state_two : List ℕ → ℕ → BlockState
state_two img k = block_state (block (size_two img) k img)

-- of two, the one that isn't k
abbrev pub beside : ℕ → ℕ
beside k = cond (eqb k 0) 1 0

-- ---- mount

-- "the valid half is current; of two, the one with the larger time"; refusals 2 and 3, K4 and K5
pub data Choice : Type 0 where
  takes : ℕ → Journal → Choice
  refuses : Refusal → Choice

abbrev pub choose_two : BlockState → BlockState → Choice
choose_two (valid x) (valid y) =
    cond (eqb x.time y.time) (refuses (tied_times 0)) (cond (ltb x.time y.time) (takes 1 y) (takes 0 x))
choose_two (valid x) blank = takes 0 x
choose_two (valid x) in_progress = takes 0 x
choose_two (valid x) (foreign e) = takes 0 x
choose_two blank (valid y) = takes 1 y
choose_two in_progress (valid y) = takes 1 y
choose_two (foreign e) (valid y) = takes 1 y
choose_two (foreign e) blank = refuses (refusal.Foreign 0 e)
choose_two (foreign e) in_progress = refuses (refusal.Foreign 0 e)
choose_two (foreign e) (foreign f) = refuses (refusal.Foreign 0 e)
choose_two blank (foreign e) = refuses (refusal.Foreign 1 e)
choose_two in_progress (foreign e) = refuses (refusal.Foreign 1 e)
choose_two blank blank = refuses refusal.NoStore
choose_two blank in_progress = refuses refusal.NoStore
choose_two in_progress blank = refuses refusal.NoStore
choose_two in_progress in_progress = refuses refusal.NoStore

-- "The other is erased if it isn't blank." A transfer goes "into the blank half"
abbrev pub mount_two : List ℕ → ℕ → Journal → Work
mount_two img k x =
    mount_in 2 img (cond (is_blank (state_two img (beside k))) [] (beside k ∷ [])) (beside k)
    (record { number = k; journal = x })

-- ---- format

-- K4: "Format now erases last the valid half, of two the one with the larger time (half 1 if there is none or the times are equal)."
abbrev pub last_two : BlockState → BlockState → ℕ
last_two (valid x) (valid y) = cond (ltb y.time x.time) 0 1
last_two (valid x) blank = 0
last_two (valid x) in_progress = 0
last_two (valid x) (foreign e) = 0
last_two blank b = 1
last_two in_progress b = 1
last_two (foreign e) b = 1

abbrev pub format_two : List ℕ → Work
format_two img = let k : ℕ = last_two (state_two img 0) (state_two img 1) in format_in 2 (length img - 1) (beside k ∷ k ∷ [])

-- ---- requests and steps

-- 11: "its length differs, or the image read afresh isn't: recorded half valid, .., other half blank, .."
abbrev pub held_two : List ℕ → Record → Option Journal
held_two img r =
    cond (eqb (length img) (suc r.rest.last) && (ltb r.rest.block 2 && all_ff (block (size_two img) (beside r.rest.block) img)))
    (held_in_of (size_two img) r (state_two img r.rest.block)) none

-- "after a transfer if end + n exceeds S", "into the blank half"
abbrev pub frame_two : List ℕ → Record → Journal → Frame → Work
frame_two img r x f =
    let z : Rest = r.rest in frame_in (size_two img) (beside z.block) (counted (rest 2 z.last z.block z.end z.edition) x f) x f

-- "in a job, 11 is given exactly if the image length isn't the record's or the job's next place lies outside it"
abbrev pub step_two : Phase → List ℕ → Record → Out
step_two Unmounted img r = out Done img r []
step_two Idle img r = out Done img r []
step_two (Busy s) img r =
    let x : Step = action s r in
    let after : List ℕ = apply (size_two img) x img in
    cond (eqb (length img) (suc r.rest.last) && (ltb (block_of x) 2 && ltb (offset_of x) (size_two img))) (stepped after (advance 2 s after r))
    (refuse refusal.Stale img r [])

-- ---- "N = 2 gives the same bytes and steps as before": those of the two halves above

pub record TwoBlocks : Type 0 where
  pub lengths : (n : ℕ) → allowed 2 n ≡ allowed_two n
  pub sizes : (img : List ℕ) → size_of 2 img ≡ size_two img
  -- a mount refused, for its halves or for its time, and accepted
  pub mount_refused : (img : List ℕ) (n : Refusal) → allowed_two (length img) ≡ true → choose_two (state_two img 0) (state_two img 1) ≡ refuses n
      → mount_on 2 img ≡ refuse n img unmounted []
  pub mount_worn : (img : List ℕ) (k : ℕ) (x : Journal) → allowed_two (length img) ≡ true
      → choose_two (state_two img 0) (state_two img 1) ≡ takes k x → x.time ≡ last_time → upkeep_of (size_two img) x ≡ moves
      → mount_on 2 img ≡ refuse refusal.Worn img unmounted []
  pub mount_steps : (img : List ℕ) (k : ℕ) (x : Journal) → Bytes img → allowed_two (length img) ≡ true
      → choose_two (state_two img 0) (state_two img 1) ≡ takes k x → (transfers (upkeep_of (size_two img) x) && eqb x.time last_time) ≡ false
      → Performs 2 (exec 2) img (mount_on 2 img).board (mount_two img k x)
  pub format_steps : (img : List ℕ) → allowed_two (length img) ≡ true
      → Performs 2 (exec 2) img (format_on 2 img).board (format_two img)
  -- requests: the image read afresh, the steps, the record after them
  pub fresh : (img : List ℕ) (r : Record) → r.rest.blocks ≡ 2 → held 2 img r ≡ held_two img r
  pub frame_steps : (img : List ℕ) (r : Record) (x : Journal) (f : Frame) → r.rest.block < 2
      → (frame_work 2 img r x f).steps ≡ (frame_two img r x f).steps
  pub frame_record : (img : List ℕ) (r : Record) (x : Journal) (f : Frame) → r.rest.blocks ≡ 2 → r.rest.block < 2
      → (frame_work 2 img r x f).last ≡ (frame_two img r x f).last
  -- K9: a convert's go "into the blank half" too
  pub convert-work : (img : List ℕ) (r : Record) (x : Journal) → r.rest.block < 2
      → convert_work 2 img r x ≡ convert_in (beside r.rest.block) r.rest x
  pub steps : (img : List ℕ) (r : Record) → r.rest.blocks ≡ 2 → step_on 2 img r ≡ step_two r.phase img r
