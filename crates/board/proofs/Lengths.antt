-- How many steps each plan has.
use mathlib.Core.Path.{◌≡◌, refl, sym, ap, ◌∙◌}
use mathlib.Core.List.{List, [], ◌∷◌, ◌++◌, append-nil, map}
use mathlib.Core.Bool.{Bool, true, false, cond}
use Prim.Native.Nat.{ℕ, suc, ◌+◌, ◌-◌, ◌≤◌, ◌<◌}
use native.Mathlib.Omega.{arith}
use lib.Dec.{eqb, ltb}
use lib.ListN.{length, get_or, length-append, length-map}
use Rattle.flash.specs.Flash.{Step, erase, size_of, Write, write_step, writes}
use Rattle.flash.proofs.Cases.{on_test}
use Rattle.flash.proofs.Programming.{length-writes}
use Rattle.frame.specs.declared.Edition.{Edition}
use Rattle.frame.specs.declared.Edition.TheVariants as edition
use Rattle.frame.specs.Frame.{Frame, encode, encode_all, frame_len}
use Rattle.frame.specs.Reader.{Tail, clean, cut, bad}
use Rattle.frame.proofs.Encode.{length-encode}
use Rattle.journal.specs.Replay.{State, frames_of, settled_only}
use Rattle.journal.specs.Block.{Journal, build, closing, changing, close_writes}
use Rattle.journal.specs.Room.{claimed}
use Rattle.journal.proofs.Room.{frames-total, claimed-settled}
use Rattle.journal.proofs.Building.{length-build}
use Rattle.board.specs.declared.Rest.{Rest}
use Rattle.board.specs.Mount.{Store, store_at, Upkeep, rests, mends, moves, upkeep, format_order, replay_of, used_of, claimed_of}
use Rattle.board.specs.Mount.{end_of, closed_end, closes_for, due_reset, block_in}
use Rattle.board.specs.Plan.{on_block, transfer_to, append_plan, programs, Work, format_work, mend_work, upkeep_work, mount_in, stayed_work, moved_work, frame_in}
use Rattle.board.proofs.Upkeep.{reset-few}
use Rattle.board.proofs.Order.{length_order}

-- "C - 5 steps"
pub length_transfer : (ed : Edition) (j k : ℕ) (w : Journal) (st : State) → length (transfer_to ed j k w st) + 5 ≡ claimed ed st
length_transfer ed j k w st =
    let ws : List Write = build ed (suc w.time) (frames_of st) in
    let e : length (transfer_to ed j k w st) ≡ length ws + 1 =
    length-append (on_block j ws) (erase k ∷ []) ∙ ap (λ (n : ℕ). n + 1) (length-map ws (write_step j)) in
    omega (arith, length-build ed (suc w.time) (frames_of st), frames-total ed st)

pub length-plan-append : (ed : Edition) (k end : ℕ) (f : Frame) → length (append_plan ed k end f) ≡ frame_len ed f
length-plan-append ed k end f = length-map (writes end (encode ed f)) (write_step k) ∙ length-writes end (encode ed f) ∙ length-encode ed f

-- wipes, and what follows them
wipes-then : (ks : List ℕ) (xs : List Step) → length (map erase ks ++ xs) ≡ length ks + length xs
wipes-then ks xs = length-append (map erase ks) xs ∙ ap (λ (n : ℕ). n + length xs) (length-map ks erase)

-- a step for each block and ten for block 0's header
pub length-format : (N : ℕ) (img : List ℕ) → length (format_work N img).steps ≡ N + 10
unfolding writes encode_all
length-format N img = wipes-then (format_order N img) (on_block 0 (build edition.First 1 [])) ∙ ap (λ (n : ℕ). n + 10) (length_order N img)

-- there is a first step
pub format-some : (N : ℕ) (img : List ℕ) → (x : Step) × (xs : List Step) × ((format_work N img).steps ≡ x ∷ xs)
format-some N img = go (format_work N img).steps refl
  where
    go : (p : List Step) → (format_work N img).steps ≡ p → (x : Step) × (xs : List Step) × ((format_work N img).steps ≡ x ∷ xs)
    go [] e = let z : length (format_work N img).steps ≡ 0 = ap length e in absurd (omega (arith, length-format N img))
    go (x ∷ xs) e = (x, xs, e)

-- a frame's work, after a transfer or without one
pub frame_cases : (Q : Work → Type 0) (s j : ℕ) (z : Rest) (x : Journal) (f : Frame) → (ltb s (z.end + frame_len x.edition f) ≡ true → Q (moved_work j z x f))
    → (ltb s (z.end + frame_len x.edition f) ≡ false → Q (stayed_work z x f)) → Q (frame_in s j z x f)
frame_cases Q s j z x f moved stayed = go (ltb s (z.end + frame_len x.edition f)) refl
  where
    go : (b : Bool) → ltb s (z.end + frame_len x.edition f) ≡ b → Q (cond b (moved_work j z x f) (stayed_work z x f))
    go true e = moved e
    go false e = stayed e

length_moved : (j : ℕ) (z : Rest) (x : Journal) (f : Frame) → length (moved_work j z x f).steps + 5 ≡ claimed_of x + frame_len x.edition f
length_moved j z x f =
    let st : State = replay_of x in
    omega (
      arith,
      length-append (transfer_to x.edition j z.block x st) (append_plan x.edition j (claimed_of x) f),
      length_transfer x.edition j z.block x st,
      length-plan-append x.edition j (claimed_of x) f,
    )

pub frame-short : (s j : ℕ) (z : Rest) (x : Journal) (f : Frame) → claimed_of x + frame_len x.edition f ≤ s → length (frame_in s j z x f).steps ≤ s
frame-short s j z x f h =
    frame_cases (λ w. length w.steps ≤ s) s j z x f (λ e. omega (arith, length_moved j z x f))
    (λ e. omega (arith, length-plan-append x.edition z.block z.end f))

pub frame-some : (s j : ℕ) (z : Rest) (x : Journal) (f : Frame) → 0 < length (frame_in s j z x f).steps
frame-some s j z x f =
    frame_cases (λ w. 0 < length w.steps) s j z x f (λ e. omega (arith, length_moved j z x f))
    (λ e. omega (arith, length-plan-append x.edition z.block z.end f))

-- ---- without the erases

programs-wipes : (ks : List ℕ) (xs : List Step) → programs (map erase ks ++ xs) ≡ programs xs
unfolding programs
programs-wipes [] xs = refl
programs-wipes (k ∷ ks) xs = programs-wipes ks xs

programs-writes : (k : ℕ) (ws : List Write) (xs : List Step) → programs (on_block k ws ++ xs) ≡ on_block k ws ++ programs xs
unfolding programs
programs-writes k [] xs = refl
programs-writes k (w ∷ ws) xs = ap (λ (ys : List Step). write_step k w ∷ ys) (programs-writes k ws xs)

-- a transfer has one erase
programs_transfer : (ed : Edition) (j k : ℕ) (w : Journal) (st : State) → length (transfer_to ed j k w st) ≡ suc (length (programs (transfer_to ed j k w st)))
unfolding programs
programs_transfer ed j k w st =
    let ws : List Write = build ed (suc w.time) (frames_of st) in
    let e : length (programs (transfer_to ed j k w st)) ≡ length (on_block j ws) + 0 =
    ap (λ (xs : List Step). length xs) (programs-writes j ws (erase k ∷ [])) ∙ length-append (on_block j ws) [] in
    omega (arith, e, length-append (on_block j ws) (erase k ∷ []))

-- ---- a mount

-- its steps but the first erases program what a transfer does, at most thirteen bytes, or nothing; one erase more is the transfer's
pub record UpkeepSteps (x : Store) (xs : List Step) : Type 0 where
  pub programmed : length (programs xs) ≤ used_of x.journal
  pub erased : length xs ≤ suc (length (programs xs))

changing-few : (b : List ℕ) (ws : List Write) → length (changing b ws) ≤ length ws
unfolding changing
changing-few b [] = omega arith
changing-few b (w ∷ ws) =
    on_test (eqb (get_or b w.at 0) w.byte) (λ t. rw (t, changing) (omega (arith, changing-few b ws))) (λ t. rw (t, changing) (omega (arith, changing-few b ws)))

-- at most four bytes close a torn frame
pub closes-few : (b : List ℕ) (at : ℕ) (c : Tail) → length (close_writes b at c) ≤ 4
closes-few b at clean = omega arith
closes-few b at (cut n) = omega (arith, changing-few b (closing at n))
closes-few b at (bad e) = omega arith

-- a mended block: every step programs a byte, and there are at most thirteen
pub mend_programs : (k : ℕ) (b : List ℕ) (z : Rest) (x : Journal) → programs (mend_work k b z x).steps ≡ (mend_work k b z x).steps
unfolding programs
mend_programs k b z x =
    programs-writes k (closes_for mends b x) (on_block k (writes (closed_end x) (due_reset x)))
    ∙ ap (λ (ys : List Step). on_block k (closes_for mends b x) ++ ys)
    (ap programs (sym (append-nil (on_block k (writes (closed_end x) (due_reset x))))) ∙ programs-writes k (writes (closed_end x) (due_reset x)) []
    ∙ append-nil (on_block k (writes (closed_end x) (due_reset x))))

pub mend_few : (k : ℕ) (b : List ℕ) (z : Rest) (x : Journal) → length (mend_work k b z x).steps ≤ 13
mend_few k b z x =
    omega (
      arith,
      length-append (on_block k (closes_for mends b x)) (on_block k (writes (closed_end x) (due_reset x))),
      length-map (closes_for mends b x) (write_step k),
      length-map (writes (closed_end x) (due_reset x)) (write_step k),
      length-writes (closed_end x) (due_reset x),
      closes-few b (end_of x) x.tail,
      reset-few x,
    )

pub upkeep-steps : (u : Upkeep) (j : ℕ) (b : List ℕ) (z : Rest) (x : Store) → UpkeepSteps x (upkeep_work u j b z x).steps
unfolding programs
upkeep-steps rests j b z x = record { programmed = omega arith; erased = omega arith }
upkeep-steps mends j b z x =
    let e : length (programs (mend_work x.number b z x.journal).steps) ≡ length (mend_work x.number b z x.journal).steps =
    ap (λ (xs : List Step). length xs) (mend_programs x.number b z x.journal) in
    record { programmed = omega (arith, e, mend_few x.number b z x.journal); erased = omega (arith, e) }
upkeep-steps moves j b z x =
    let st : State = settled_only (replay_of x.journal) in
    let ed : Edition = x.journal.edition in
    let n = programs_transfer ed j x.number x.journal st in
    record {
      programmed = omega (arith, n, length_transfer ed j x.number x.journal st, claimed-settled ed (replay_of x.journal));
      erased = omega (arith, n);
    }

-- the same with the erases before it
pub mount_steps : (N : ℕ) (img ks : List ℕ) (j : ℕ) (x : Store)
    → (length (programs (mount_in N img ks j x).steps) ≤ used_of x.journal)
    × (length (mount_in N img ks j x).steps ≤ length (programs (mount_in N img ks j x).steps) + suc (length ks))
mount_steps N img ks j x =
    let u : Upkeep = upkeep (size_of N img) x in
    let z : Rest = store_at N (length img - 1) x in
    let xs : List Step = (upkeep_work u j (block_in N img x) z x).steps in
    let y : UpkeepSteps x xs = upkeep-steps u j (block_in N img x) z x in
    let e : length (programs (map erase ks ++ xs)) ≡ length (programs xs) = ap (λ (ys : List Step). length ys) (programs-wipes ks xs) in
    (omega (arith, e, y.programmed), omega (arith, e, y.erased, wipes-then ks xs))
