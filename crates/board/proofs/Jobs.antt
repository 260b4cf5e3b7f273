-- A job is begun, does the next step of its plan at each call, and ends.
use mathlib.Core.Path.{◌≡◌, refl, sym, ap, subst, ◌∙◌}
use mathlib.Core.List.{List, [], ◌∷◌}
use mathlib.Core.Logic.{◌⊎◌, inl, inr}
use Prim.Native.Nat.{ℕ, suc, ◌≤◌, ◌<◌}
use native.Mathlib.Omega.{arith}
use lib.Dec.{ltb}
use lib.ListN.{length, get_or, take, drop, drop_of_length-le}
use lib.Seq.{take-suc, drop-cons, take_all}
use borrow.Author.Tests.{ltb-true, ltb-false}
use Rattle.flash.specs.Flash.{Step, erase, apply, apply_all, size_of}
use Rattle.flash.proofs.Cases.{on_test}
use Rattle.wire.specs.declared.Answer.TheVariants.{Done, More}
use Rattle.board.specs.declared.Phase.{Phase}
use Rattle.board.specs.declared.Phase.TheVariants.{Idle}
use Rattle.board.specs.declared.Record.{Record}
use Rattle.board.specs.Record.{out, answer_of, answer_in}
use Rattle.board.specs.Step.{step_on}
use Rattle.board.specs.Exec.{exec}
use Rattle.board.specs.Plan.{Follows}
use Rattle.board.proofs.Images.{Sized, size-of, apply-append}
use Rattle.board.proofs.Invariant.{InJob}
use Rattle.board.proofs.Prefixes.{Each}

pub idle-done : (p : Phase) → p ≡ Idle → answer_in p ≡ Done
idle-done p e = ap answer_in e

-- what a step call on a job does: the step x of its plan, and then the job goes on or is done
pub record Stepped (N : ℕ) (s : ℕ) (P : Step → List ℕ → Type 0) (Q : List ℕ → Record → Type 0) (img : List ℕ) (r : Record) : Type 0 where
  pub does : Step
  pub next : Record
  pub gives : step_on N img r ≡ out (answer_of next) (apply s does img) next []
  pub holds : P does img
  pub then : ((answer_of next ≡ More) × InJob N s P Q (apply s does img) next) ⊎ ((answer_of next ≡ Done) × Q (apply s does img) next)

abbrev Onward : ℕ → ℕ → List ℕ → Record → Step → List Step → Record → Type 0
Onward N s img r x xs z = (n : Record) × (step_on N img r ≡ out (answer_of n) (apply s x img) n []) × Follows N (exec N) (apply s x img) n xs z

onward : (N : ℕ) (s : ℕ) (img : List ℕ) (r : Record) (x : Step) (xs : List Step) (z : Record) → size_of N img ≡ s → Follows N (exec N) img r (x ∷ xs) z
    → Onward N s img r x xs z
onward N s img r x xs z e (m, f) = subst (λ (n : ℕ). Onward N n img r x xs z) e f

one_more : (s : ℕ) (plan : List Step) (c : ℕ) (start : List ℕ) → c < length plan
    → apply s (get_or plan c (erase 0)) (apply_all s (take c plan) start) ≡ apply_all s (take (suc c) plan) start
unfolding apply_all
one_more s plan c start h =
    sym (ap (λ (l : List Step). apply_all s l start) (take-suc plan c (erase 0) h) ∙ apply-append s (take c plan) (get_or plan c (erase 0) ∷ []) start)

in_more : (N : ℕ) (s : ℕ) (img : List ℕ) (r : Record) (x : Step) (xs : List Step) (z : Record) → Follows N (exec N) img r (x ∷ xs) z → answer_of r ≡ More
in_more N s img r x xs z (m, f) = m

pub job-step : {N : ℕ} {s : ℕ} {P : Step → List ℕ → Type 0} {Q : List ℕ → Record → Type 0} {img : List ℕ} {r : Record} → Sized N s img → InJob N s P Q img r
    → Stepped N s P Q img r
job-step {N} {s} {P} {Q} {img} {r} z y =
    let x : Step = get_or y.plan y.count (erase 0) in
    let rest : List Step = drop (suc y.count) y.plan in
    let f : Onward N s img r x rest y.last =
    onward N s img r x rest y.last (size-of z) (subst (λ (l : List Step). Follows N (exec N) img r l y.last)
    (drop-cons y.plan y.count (erase 0) y.begun) y.follows) in
    let i : apply s x img ≡ apply_all s (take (suc y.count) y.plan) y.start =
    ap (apply s x) y.now ∙ one_more s y.plan y.count y.start y.begun in
    record {
      does = x;
      next = f.0;
      gives = f.1;
      holds = subst (P x) (sym y.now) (y.each y.count y.begun);
      then = on_test (ltb (suc y.count) (length y.plan))
          (λ t.
          let h : suc y.count < length y.plan = ltb-true (suc y.count) (length y.plan) t in
          inl (
            in_more N s (apply s x img) f.0 (get_or y.plan (suc y.count) (erase 0)) (drop (suc (suc y.count)) y.plan) y.last
                (subst (λ (l : List Step). Follows N (exec N) (apply s x img) f.0 l y.last) (drop-cons y.plan (suc y.count) (erase 0) h) f.2),
            record {
              start = y.start;
              plan = y.plan;
              last = y.last;
              count = suc y.count;
              now = i;
              follows = f.2;
              begun = h;
              each = y.each;
              ends = y.ends;
              rests = y.rests;
            },
          ))
          (λ t.
          let h : length y.plan ≤ suc y.count = ltb-false (suc y.count) (length y.plan) t in
          let e : f.0 ≡ y.last = subst (λ (l : List Step). Follows N (exec N) (apply s x img) f.0 l y.last) (drop_of_length-le y.plan h) f.2 in
          let j : apply_all s y.plan y.start ≡ apply s x img =
          sym (i ∙ ap (λ (l : List Step). apply_all s l y.start) (take_all (suc y.count) y.plan h)) in
          inr (
            idle-done f.0.phase (ap (λ (q : Record). q.phase) e ∙ y.rests),
            subst (Q (apply s x img)) (sym e) (subst (λ (l : List ℕ). Q l y.last) j y.ends),
          ));
    }

-- what an accepted call begins: a job at its first step, or what a plan of no steps gives
abbrev pub Begun : ℕ → ℕ → (Step → List ℕ → Type 0) → (List ℕ → Record → Type 0) → List ℕ → Record → Type 0
Begun N s P Q img r = ((answer_of r ≡ More) × InJob N s P Q img r) ⊎ ((answer_of r ≡ Done) × Q img r)

-- a plan with steps is begun
pub job-starts : {N : ℕ} {s : ℕ} {P : Step → List ℕ → Type 0} {Q : List ℕ → Record → Type 0} (img : List ℕ) (r : Record) (plan : List Step) (last : Record)
    → Follows N (exec N) img r plan last → 0 < length plan → Each s P plan img → Q (apply_all s plan img) last → last.phase ≡ Idle
    → (answer_of r ≡ More) × InJob N s P Q img r
unfolding apply_all
job-starts img r [] last f n e q i = absurd (omega arith)
job-starts img r (x ∷ xs) last f n e q i = (
  f.0,
  record { start = img; plan = x ∷ xs; last = last; count = 0; now = refl; follows = f; begun = n; each = e; ends = q; rests = i },
)

pub job-begins : {N : ℕ} {s : ℕ} {P : Step → List ℕ → Type 0} {Q : List ℕ → Record → Type 0} (img : List ℕ) (r : Record) (plan : List Step) (last : Record)
    → Follows N (exec N) img r plan last → Each s P plan img → Q (apply_all s plan img) last → last.phase ≡ Idle → Begun N s P Q img r
unfolding apply_all
job-begins {N} {s} {P} {Q} img r [] last f e q i = inr (idle-done r.phase (ap (λ (x : Record). x.phase) f ∙ i), subst (Q img) (sym f) q)
job-begins {N} {s} {P} {Q} img r (x ∷ xs) last f e q i = inl (job-starts img r (x ∷ xs) last f (omega arith) e q i)
