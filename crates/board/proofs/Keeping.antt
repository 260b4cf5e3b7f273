-- The invariant of runs: how it is had in each phase, that it keeps the objects safe, and that a step call keeps it.
use mathlib.Core.Path.{◌≡◌, refl, sym, ap, subst, ◌∙◌}
use mathlib.Core.List.{List, []}
use mathlib.Core.Logic.{◌⊎◌, inl, inr}
use Prim.Native.Nat.{ℕ, ◌+◌, ◌*◌, ◌≤◌}
use native.Mathlib.Omega.{arith}
use lib.ListN.{length, replicate}
use Rattle.flash.specs.Bytes.{Bytes}
use Rattle.flash.specs.Flash.{Step, erase, apply, block, size_of, with_block, erase_block}
use Rattle.flash.specs.Raised.{Raised}
use Rattle.flash.proofs.Image.{length-apply, bytes-apply}
use Rattle.flash.proofs.Raising.{raised-blank, length_with, bytes_with_lem, with_same, as_erase}
use Rattle.journal.specs.Replay.{Object}
use Rattle.wire.specs.declared.Answer.{Answer}
use Rattle.wire.specs.declared.Answer.TheVariants.{Done, More}
use Rattle.wire.specs.declared.Refusal.{Refusal}
use Rattle.board.specs.declared.Stage.{Stage}
use Rattle.board.specs.declared.Phase.{Phase}
use Rattle.board.specs.declared.Phase.TheVariants.{Unmounted, Idle, Busy}
use Rattle.board.specs.declared.Record.{Record}
use Rattle.board.specs.Record.{Out, out, answer_of, answer_in}
use Rattle.board.specs.Step.{step_on}
use Rattle.board.specs.Demand1.{Rests}
use Rattle.board.specs.Book.{Book, UnderWay, nothing, committing, formatting, finishing, enter_step}
use Rattle.board.specs.Table.{InJob as JobPhase}
use Rattle.board.specs.Exec.{exec}
use Rattle.board.specs.Claim.{track_step, Never, CutsErase, Track}
use Rattle.board.proofs.Images.{Sized, size-of, sized-as, sized-block}
use Rattle.board.proofs.Invariant.{Valid, Safe, some_valid, CutSafe, GuardIn, Ready, IdleBook, InJob, InPhase, Inv}
use Rattle.board.proofs.Current.{block-long, blank_lessers}
use Rattle.board.proofs.Outcomes.{step-resting}
use Rattle.board.proofs.Jobs.{Stepped, job-step}

-- ---- the phase that an answer shows

pub record IsBusy (p : Phase) : Type 0 where
  pub stage : Stage
  pub is : p ≡ Busy stage

pub more-busy : (p : Phase) → answer_in p ≡ More → IsBusy p
more-busy Unmounted e = let z : ◌≡◌ {A = ℕ} 0 1 = cc in absurd (omega arith)
more-busy Idle e = let z : ◌≡◌ {A = ℕ} 0 1 = cc in absurd (omega arith)
more-busy (Busy g) e = record { stage = g; is = refl }

-- ---- the invariant in each phase

-- a record in a job, with what the book has under way
abbrev pub Working : ℕ → ℕ → List ℕ → Record → Book → Track → Type 0
Working N s img r b u = InJob N s (GuardIn N s b.objects u b.under) (λ i z. IdleBook N s (track_step u b.under Done) i z (finishing b b.under)) img r

pub inv_unmounted : {N : ℕ} {s : ℕ} {img : List ℕ} {b : Book} {u : Track} (r : Record) → Sized N s img → Bytes img → r.phase ≡ Unmounted
    → Safe N s img b.objects u
    → b.under ≡ nothing → Inv N s img r b u
inv_unmounted {N} {s} {img} {b} {u} r z y e f n = record { sized = z; bytes = y; phase = subst (λ (p : Phase). InPhase N p s img r b u) (sym e) (f, n) }

pub ready-idle : {N : ℕ} {s : ℕ} {img : List ℕ} {r : Record} → Ready N s img r → r.phase ≡ Idle
ready-idle y = ap (λ (x : Record). x.phase) y.is

pub inv_idle : {N : ℕ} {s : ℕ} {img : List ℕ} {b : Book} {u : Track} (r : Record) → Sized N s img → Bytes img → IdleBook N s u img r b → Inv N s img r b u
inv_idle {N} {s} {img} {b} {u} r z y i = record { sized = z; bytes = y; phase = subst (λ (p : Phase). InPhase N p s img r b u) (sym (ready-idle i.ready)) i }

pub inv_busy : {N : ℕ} {s : ℕ} {img : List ℕ} {b : Book} {u : Track} (r : Record) → Sized N s img → Bytes img → answer_of r ≡ More → Working N s img r b u
    → Inv N s img r b u
inv_busy {N} {s} {img} {b} {u} r z y m j =
    record { sized = z; bytes = y; phase = subst (λ (p : Phase). InPhase N p s img r b u) (sym (more-busy r.phase m).is) j }

-- by the record's phase
pub on-phase : {N : ℕ} {C : Type 0} {s : ℕ} {img : List ℕ} {r : Record} {b : Book} {u : Track} → Inv N s img r b u
    → (r.phase ≡ Unmounted → Safe N s img b.objects u → b.under ≡ nothing → C) → (r.phase ≡ Idle → IdleBook N s u img r b → C)
    → (IsBusy r.phase → Working N s img r b u → C) → C
on-phase {N} {C} {s} {img} {r} {b} {u} v f g h = go r.phase refl v.phase
  where
    go : (p : Phase) → r.phase ≡ p → InPhase N p s img r b u → C
    go Unmounted e (x, n) = f e x n
    go Idle e x = g e x
    go (Busy q) e x = h (record { stage = q; is = e }) x

-- ---- the objects are safe

abbrev pub idle-valid : {N s : ℕ} {u : Track} {img : List ℕ} {r : Record} {b : Book} (y : IdleBook N s u img r b)
    → Valid u.tight s img y.ready.stands.block b.objects
idle-valid y =
    record { journal = y.ready.journal; contents = y.ready.contents; room = y.spare; same = y.objects }

pub safe-idle : {N : ℕ} {s : ℕ} {img : List ℕ} {r : Record} {b : Book} {u : Track} → Sized N s img → IdleBook N s u img r b → Safe N s img b.objects u
safe-idle {N} z y =
    some_valid y.ready.stands.block y.ready.there (idle-valid y) (blank_lessers z y.ready.journal.time y.ready.others)

pub safe-of : {N : ℕ} {s : ℕ} {img : List ℕ} {r : Record} {b : Book} {u : Track} → Inv N s img r b u → Safe N s img b.objects u
safe-of {N} {s} {img} {r} {b} {u} v =
    on-phase v (λ e f n. f) (λ e y. safe-idle v.sized y)
    (λ g j. subst (λ (i : List ℕ). Safe N s i b.objects u) (sym j.now) (j.each j.count j.begun).0)

-- ---- a step call

track-more : (u : Track) (w : UnderWay) → track_step u w More ≡ u
track-more u nothing = refl
track-more u (committing h) = refl
track-more u formatting = refl

abbrev pub StepKeeps : ℕ → ℕ → Book → Track → Out → Type 0
StepKeeps N s b u o = Inv N s o.image o.board (enter_step b o.answer) (track_step u b.under o.answer) × ((n : Refusal) → Never n o)

done-never : (o : Out) (a : Answer) → o.answer ≡ a → (a ≡ Done) ⊎ (a ≡ More) → (n : Refusal) → Never n o
done-never o a e (inl d) n x = let z : ◌≡◌ {A = ℕ} 0 1 = cc in omega arith
done-never o a e (inr m) n x = let z : ◌≡◌ {A = ℕ} 0 1 = cc in omega arith

resting_keeps : {N : ℕ} {s : ℕ} {img : List ℕ} {r : Record} {b : Book} {u : Track} → Inv N s img r b u → b.under ≡ nothing
    → StepKeeps N s b u (out Done img r [])
resting_keeps {N} {s} {img} {r} {b} {u} v n = (
  subst (λ (w : UnderWay). Inv N s img r (finishing b w) (track_step u w Done)) (sym n) v,
  done-never (out Done img r []) Done refl (inl refl),
)

abbrev Then : ℕ → ℕ → Book → Track → List ℕ → Record → Type 0
Then N s b u img r =
    ((answer_of r ≡ More) × Working N s img r b u) ⊎ ((answer_of r ≡ Done) × IdleBook N s (track_step u b.under Done) img r (finishing b b.under))

then_keeps : {N : ℕ} (s : ℕ) (b : Book) (u : Track) (img : List ℕ) (r : Record) → Sized N s img → Bytes img → Then N s b u img r
    → StepKeeps N s b u (out (answer_of r) img r [])
then_keeps {N} s b u img r z y (inl (m, j)) = (
  subst (λ (a : Answer). Inv N s img r (enter_step b a) (track_step u b.under a)) (sym m)
      (subst (λ (w : Track). Inv N s img r b w) (sym (track-more u b.under)) (inv_busy r z y m j)),
  done-never (out (answer_of r) img r []) (answer_of r) refl (inr m),
)
then_keeps {N} s b u img r z y (inr (d, i)) = (
  subst (λ (a : Answer). Inv N s img r (enter_step b a) (track_step u b.under a)) (sym d) (inv_idle r z y i),
  done-never (out (answer_of r) img r []) (answer_of r) refl (inl d),
)

pub step_keeps : {N : ℕ} {s : ℕ} {img : List ℕ} {r : Record} {b : Book} {u : Track} → Inv N s img r b u → StepKeeps N s b u (step_on N img r)
step_keeps {N} {s} {img} {r} {b} {u} v =
    on-phase v
    (λ e f n. subst (StepKeeps N s b u) (sym (step-resting N img r (subst (λ (p : Phase). Rests p) (sym e) tt))) (resting_keeps v n))
    (λ e y. subst (StepKeeps N s b u) (sym (step-resting N img r (subst (λ (p : Phase). Rests p) (sym e) tt))) (resting_keeps v y.under))
    (λ g j.
    let y : Stepped N s (GuardIn N s b.objects u b.under) (λ i z. IdleBook N s (track_step u b.under Done) i z (finishing b b.under)) img r =
    job-step v.sized j in
    subst (StepKeeps N s b u) (sym y.gives)
    (then_keeps s b u (apply s y.does img) y.next (sized-as (apply s y.does img) (length-apply s y.does img) v.sized)
    (bytes-apply s y.does img v.bytes) y.then))

-- ---- power is lost

-- an image on which a mount or format may come next, whatever the record
pub record Bare (N : ℕ) (s : ℕ) (img : List ℕ) (os : List Object) (u : Track) : Type 0 where
  pub sized : Sized N s img
  pub bytes : Bytes img
  pub safe : Safe N s img os u

pub bare_of : {N : ℕ} {s : ℕ} {img : List ℕ} {r : Record} {b : Book} {u : Track} → Inv N s img r b u → Bare N s img b.objects u
bare_of v = record { sized = v.sized; bytes = v.bytes; safe = safe-of v }

-- inside an erase
pub cut-bare : {N : ℕ} {s : ℕ} {img : List ℕ} {r : Record} {b : Book} {u : Track} (k : ℕ) (new : List ℕ) → Inv N s img r b u
    → CutsErase N (exec N) img r b k new → Bare N s (with_block (size_of N img) k new img) b.objects u
cut-bare {N} {s} {img} {r} {b} {u} k new v c =
    subst (λ (n : ℕ). Bare N s (with_block n k new img) b.objects u) (sym (size-of v.sized))
    (record {
      sized = sized-as (with_block s k new img) (length_with s k new img room (raised.long ∙ block-long k v.sized c.there)) v.sized;
      bytes = bytes_with_lem s k new img raised.bytes v.bytes;
      safe = on-phase v (λ e f n. absurd (subst JobPhase e c.in_job)) (λ e y. absurd (subst JobPhase e c.in_job)) (λ g j. go (job-step v.sized j));
    })
  where
    room : k * s + s ≤ length img
    room = sized-block k v.sized c.there

    raised : Raised (block s k img) new
    raised = subst (λ (n : ℕ). Raised (block n k img) new) (size-of v.sized) c.raised

    -- the step is this erase, or the block is blank and stays so
    pick : (x : Step) → GuardIn N s b.objects u b.under x img → (x ≡ erase k) ⊎ (block s k img ≡ replicate s 255)
        → Safe N s (with_block s k new img) b.objects u
    pick x h (inl p) = subst (λ (y : Step). CutSafe N s b.objects u y img) p (h.1 c.no_format) new raised
    pick x h (inr p) =
        let e : new ≡ block s k img = raised-blank s new (subst (λ (l : List ℕ). Raised l new) p raised) ∙ sym p in
        subst (λ (l : List ℕ). Safe N s l b.objects u) (sym (ap (λ (l : List ℕ). with_block s k l img) e ∙ with_same s k img)) (safe-of v)

    go : Stepped N s (GuardIn N s b.objects u b.under) (λ i z. IdleBook N s (track_step u b.under Done) i z (finishing b b.under)) img r
        → Safe N s (with_block s k new img) b.objects u
    go y =
        let e : apply s y.does img ≡ erase_block s k img =
        ap (λ (o : Out). o.image) (sym y.gives) ∙ c.erases ∙ ap (λ (n : ℕ). erase_block n k img) (size-of v.sized) in
        pick y.does y.holds (as_erase s k img v.bytes room y.does e)
