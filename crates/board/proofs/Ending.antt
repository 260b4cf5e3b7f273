-- Demand 1, forged records: whatever a record and an image hold, step calls end or get 11 within 65,536 of them.
use mathlib.Core.Path.{◌≡◌, refl, sym, ap, subst}
use mathlib.Core.List.{List}
use mathlib.Core.Logic.{◌⊎◌, inl, inr}
use mathlib.Core.Option.{Option, none, some}
use mathlib.Core.Bool.{true, false, ◌&&◌}
use Prim.Native.Nat.{ℕ, zero, suc, ◌+◌, ◌-◌, ◌≤◌, ◌<◌}
use native.Mathlib.Omega.{arith}
use lib.Dec.{eqb, ltb, leb}
use lib.ListN.{length}
use borrow.Author.Tests.{ltb-true, leb-true, eqb-true}
use Rattle.flash.specs.Flash.{max_blocks, size_in, is_count, Step, block_of, offset_of, apply, size_of, within}
use Rattle.flash.proofs.Cases.{on_test, and_left, and_right, and_no-left, and_no_right}
use Rattle.flash.proofs.Image.{length-apply}
use Rattle.flash.proofs.Sizes.{size-half}
use Rattle.journal.specs.Block.{mark_writes}
use Rattle.journal.specs.Index.{Load}
use Rattle.wire.specs.declared.Answer.TheVariants.{Refused}
use Rattle.wire.specs.declared.Refusal.TheVariants as refusal
use Rattle.board.specs.declared.Stage.{Stage}
use Rattle.board.specs.declared.Stage.TheVariants.{Wipe, Open, Copy, Seal, Drop, Append, Close}
use Rattle.board.specs.declared.Phase.{Phase}
use Rattle.board.specs.declared.Phase.TheVariants.{Unmounted, Idle, Busy}
use Rattle.board.specs.declared.Record.{Record}
use Rattle.board.specs.Record.{in_stage, Out}
use Rattle.board.specs.Step.{same_shape, landed, enter_append, enter_drop, enter_copy, enter_close, enter_open, action, past_frame, advance, step_on}
use Rattle.board.specs.Exec.{exec}
use Rattle.board.specs.Demand1.{Declared, Rests, EndsWithin}
use Rattle.board.proofs.Outcomes.{next_for, open_enters, open_skips, copy_loads, copy-ends, drop_enters, drop_skips, append_enters}
use Rattle.board.proofs.Outcomes.{close_enters, close_skips, close_next, close_last}
use Rattle.board.proofs.Outcomes.{append_skips, wipe_next, wipe_last, open_next, open_last, copy_next, copy_last, seal_next}
use Rattle.board.proofs.Outcomes.{seal_last, drop_last, append_next, append_last, step-outside, step-goes}

-- ---- a bound on the calls left, in blocks of z bytes: every stage's own, and those of the stages that may follow

abbrev in_append : Record → ℕ
in_append r = r.job.size

abbrev in_drop : Record → ℕ
in_drop r = suc (in_append r)

abbrev in_seal : Record → ℕ
in_seal r = mark_writes + in_drop r

abbrev in_copy : ℕ → Record → ℕ
in_copy z r = z - r.cursor.at + in_seal r

abbrev in_close : Record → ℕ
in_close r = r.job.closes + in_append r

abbrev in_open : ℕ → Record → ℕ
in_open z r = mark_writes + (z + in_seal r) + r.job.closes

abbrev left_in : Phase → ℕ → Record → ℕ
left_in Unmounted z r = 0
left_in Idle z r = 0
left_in (Busy Wipe) z r = suc (r.job.wipes - suc r.cursor.index) + in_open z r
left_in (Busy Open) z r = suc (mark_writes - suc r.cursor.index) + (z + in_seal r)
left_in (Busy Copy) z r = in_copy z r
left_in (Busy Seal) z r = suc (mark_writes - suc r.cursor.index) + in_drop r
left_in (Busy Drop) z r = in_drop r
left_in (Busy Append) z r = suc (r.job.size - suc r.cursor.index)
left_in (Busy Close) z r = suc (r.job.closes - suc r.cursor.index) + in_append r

abbrev left : ℕ → Record → ℕ
left z r = left_in r.phase z r

-- ---- entering a stage

append_left : (z : ℕ) (r : Record) → left z (enter_append r) ≤ in_append r
append_left z r =
    on_test (ltb 0 r.job.size)
    (λ e. rw (append_enters r e) (omega (arith, ltb-true 0 r.job.size e)))
    (λ e. rw (append_skips r e) (omega arith))

drop-left : (z : ℕ) (r : Record) → left z (enter_drop r) ≤ in_drop r
drop-left z r =
    on_test r.job.drops
    (λ e. rw (drop_enters r e) (omega arith))
    (λ e. rw (drop_skips r e) (omega (arith, append_left z (landed r))))

copy-left : (N : ℕ) (z : ℕ) (img : List ℕ) (r : Record) → left z (enter_copy N img r) ≤ in_copy z r
copy-left N z img r = go (next_for N img r) refl
  where
    go : (u : Option Load) → next_for N img r ≡ u → left z (enter_copy N img r) ≤ in_copy z r
    go (some u) e = rw (copy_loads N img r u e) (omega arith)
    go none e = rw (copy-ends N img r e) (omega arith)

close-left : (z : ℕ) (r : Record) → left z (enter_close r) ≤ in_close r
close-left z r =
    on_test (ltb 0 r.job.closes)
    (λ e. rw (close_enters r e) (omega (arith, ltb-true 0 r.job.closes e)))
    (λ e. rw (close_skips r e) (omega (arith, append_left z r)))

open_left : (z : ℕ) (r : Record) → left z (enter_open r) ≤ in_open z r
open_left z r =
    on_test r.job.moves
    (λ e. rw (open_enters r e) (omega arith))
    (λ e. rw (open_skips r e) (omega (arith, close-left z r)))

-- ---- each step leaves less

advance-less : (N : ℕ) (z : ℕ) (s : Stage) (img : List ℕ) (r : Record) → within N z (action s r) ≡ true → left z (advance N s img r) < left_in (Busy s) z r
advance-less N z Wipe img r w =
    on_test (ltb (suc r.cursor.index) r.job.wipes)
    (λ e. rw (wipe_next N img r e) (omega (arith, ltb-true (suc r.cursor.index) r.job.wipes e)))
    (λ e. rw (wipe_last N img r e) (omega (arith, open_left z r)))
advance-less N z Open img r w =
    on_test (ltb (suc r.cursor.index) mark_writes)
    (λ e. rw (open_next N img r e) (omega (arith, ltb-true (suc r.cursor.index) mark_writes e)))
    (λ e. rw (open_last N img r e) (omega (arith, copy-left N z img r)))
advance-less N z Copy img r w =
    let t : r.cursor.at < z =
    ltb-true r.cursor.at z
    (and_right (ltb r.job.target N) (ltb r.cursor.at z) (and_right (is_count N) (ltb r.job.target N && ltb r.cursor.at z) w)) in
    on_test (ltb (suc r.cursor.off) r.cursor.size)
    (λ e. rw (copy_next N img r e) (omega arith))
    (λ e. rw (copy_last N img r e) (omega (arith, copy-left N z img (in_stage Copy (past_frame r.cursor) r))))
advance-less N z Seal img r w =
    on_test (ltb (suc r.cursor.index) mark_writes)
    (λ e. rw (seal_next N img r e) (omega (arith, ltb-true (suc r.cursor.index) mark_writes e)))
    (λ e. rw (seal_last N img r e) (omega (arith, drop-left z r)))
advance-less N z Drop img r w = rw (drop_last N img r) (omega (arith, append_left z (landed r)))
advance-less N z Append img r w =
    on_test (ltb (suc r.cursor.index) r.job.size)
    (λ e. rw (append_next N img r e) (omega (arith, ltb-true (suc r.cursor.index) r.job.size e)))
    (λ e. rw (append_last N img r e) (omega arith))
advance-less N z Close img r w =
    on_test (ltb (suc r.cursor.index) r.job.closes)
    (λ e. rw (close_next N img r e) (omega (arith, ltb-true (suc r.cursor.index) r.job.closes e)))
    (λ e. rw (close_last N img r e) (omega (arith, append_left z r)))

-- ---- so they end

none_left : (p : Phase) (z : ℕ) (r : Record) → left_in p z r ≤ 0 → Rests p
none_left Unmounted z r h = tt
none_left Idle z r h = tt
none_left (Busy Wipe) z r h = omega arith
none_left (Busy Open) z r h = omega arith
none_left (Busy Copy) z r h = omega arith
none_left (Busy Seal) z r h = omega arith
none_left (Busy Drop) z r h = omega arith
none_left (Busy Append) z r h = omega arith
none_left (Busy Close) z r h = omega arith

-- one call more
module _ (N : ℕ) (n : ℕ) (img : List ℕ) (r : Record) where
  abbrev Goes : Type 0
  Goes = ((step_on N img r).answer ≡ Refused refusal.Stale) ⊎ EndsWithin (exec N) n (step_on N img r).image (step_on N img r).board

  one_more : ((s : Stage) → r.phase ≡ Busy s → Goes) → EndsWithin (exec N) (suc n) img r
  unfolding EndsWithin
  one_more f = go r.phase refl
    where
      go : (p : Phase) → r.phase ≡ p → Rests r.phase ⊎ Goes
      go Unmounted e = inl (subst Rests (sym e) tt)
      go Idle e = inl (subst Rests (sym e) tt)
      go (Busy s) e = inr (f s e)

  gets_11 : (s : Stage) → r.phase ≡ Busy s → (same_shape N (length img) r && within N (size_of N img) (action s r)) ≡ false → Goes
  gets_11 s e t = inl (ap (λ (o : Out). o.answer) (step-outside N img r s e t))

  goes_on : left (size_of N img) r ≤ suc n → ((i : List ℕ) (b : Record) → left (size_of N i) b ≤ n → EndsWithin (exec N) n i b) → (s : Stage) → r.phase ≡ Busy s
      → (same_shape N (length img) r && within N (size_of N img) (action s r)) ≡ true → Goes
  goes_on h further s e t =
      let after : List ℕ = apply (size_of N img) (action s r) img in
      let l : length after ≡ length img = length-apply (size_of N img) (action s r) img in
      let b : left_in (Busy s) (size_of N img) r ≤ suc n = subst (λ (p : Phase). left_in p (size_of N img) r ≤ suc n) e h in
      let less : left (size_of N img) (advance N s after r) ≤ n =
      omega (arith, advance-less N (size_of N img) s after r (and_right (same_shape N (length img) r) (within N (size_of N img) (action s r)) t)) in
      inr
      (subst (λ (o : Out). EndsWithin (exec N) n o.image o.board) (sym (step-goes N img r s e t))
      (further after (advance N s after r) (subst (λ (m : ℕ). left (size_in N m) (advance N s after r) ≤ n) (sym l) less)))

ends : (N : ℕ) (n : ℕ) (img : List ℕ) (r : Record) → left (size_of N img) r ≤ n → EndsWithin (exec N) n img r
unfolding EndsWithin
ends N zero img r h = none_left r.phase (size_of N img) r h
ends N (suc n) img r h =
    one_more N n img r
    (λ s e. on_test (same_shape N (length img) r && within N (size_of N img) (action s r)) (goes_on N n img r h (λ i b l. ends N n i b l) s e)
    (gets_11 N n img r s e))

-- an image of another shape, or a number of blocks that none has
ends-at-once : (N : ℕ) (n : ℕ) (img : List ℕ) (r : Record) → 0 < n
    → ((s : Stage) → (same_shape N (length img) r && within N (size_of N img) (action s r)) ≡ false) → EndsWithin (exec N) n img r
ends-at-once N zero img r h e = absurd (omega arith)
ends-at-once N (suc n) img r h e = one_more N n img r (λ s p. gets_11 N n img r s p (e s))

few-left : (N : ℕ) (p : Phase) (img : List ℕ) (r : Record) → Declared r → size_of N img ≤ 32768 → left_in p (size_of N img) r ≤ 65536
few-left N Unmounted img r d e = omega arith
few-left N Idle img r d e = omega arith
few-left N (Busy Wipe) img r d e = omega arith
few-left N (Busy Open) img r d e = omega arith
few-left N (Busy Copy) img r d e = omega arith
few-left N (Busy Seal) img r d e = omega arith
few-left N (Busy Drop) img r d e = omega arith
few-left N (Busy Append) img r d e = omega arith
few-left N (Busy Close) img r d e = omega arith

-- at least two blocks in at most 65,536 bytes
few_bytes : (N n : ℕ) → is_count N ≡ true → n ≤ 65536 → size_in N n ≤ 32768
few_bytes N n c h = omega (arith, size-half N n (leb-true 2 N (and_left (leb 2 N) (leb N max_blocks) c)))

pub forged-ends : (N : ℕ) (img : List ℕ) (r : Record) → Declared r → EndsWithin (exec N) 65536 img r
forged-ends N img r d =
    on_test (is_count N)
    (λ c.
    on_test (same_shape N (length img) r)
    (λ e.
    let l : length img ≡ suc r.rest.last =
    eqb-true (length img) (suc r.rest.last) (and_left (eqb (length img) (suc r.rest.last)) (eqb N r.rest.blocks) e) in
    ends N 65536 img r (few-left N r.phase img r d (few_bytes N (length img) c (omega (arith, d.last)))))
    (λ e.
    ends-at-once N 65536 img r (omega arith) (λ s. and_no-left (same_shape N (length img) r) (within N (size_of N img) (action s r)) e)))
    (λ c. ends-at-once N 65536 img r (omega arith)
    (λ s.
    let x : Step = action s r in
    and_no_right (same_shape N (length img) r) (within N (size_of N img) x)
    (and_no-left (is_count N) (ltb (block_of x) N && ltb (offset_of x) (size_of N img)) c)))
