-- Where the buffer is not written, the record that comes back is the one that was given.
use mathlib.Core.Path.{◌≡◌, refl, sym, ap, subst, ◌∙◌}
use mathlib.Core.List.{List, []}
use mathlib.Core.Bool.{true, false, true≢false, ◌&&◌}
use Prim.Native.Nat.{ℕ}
use lib.ListN.{length}
use Rattle.flash.specs.Flash.{apply, size_of, within}
use Rattle.flash.proofs.Cases.{on_test}
use Rattle.wire.specs.declared.Answer.{Answer}
use Rattle.wire.specs.declared.Answer.TheVariants.{Done}
use Rattle.wire.specs.declared.Refusal.TheVariants as refusal
use Rattle.board.specs.declared.Stage.{Stage}
use Rattle.board.specs.declared.Phase.{Phase}
use Rattle.board.specs.declared.Phase.TheVariants.{Unmounted, Idle, Busy}
use Rattle.board.specs.declared.Record.{Record}
use Rattle.board.specs.Record.{Out, out, refuse, answer_in}
use Rattle.board.specs.Step.{action, advance, same_shape, stepped, step_on}
use Rattle.board.specs.Drive.{made_in_of, made_on}
use Rattle.board.specs.Demand1.{Rests}
use Rattle.board.proofs.Outcomes.{step-resting, step-outside, step-goes}
use Rattle.pack.specs.Code.{changes}

-- a call that left the record, or that changes it
abbrev pub Keeps : Record → Out → Type 0
Keeps r o = changes r.phase o.answer ≡ false → o.board ≡ r

kept : (r : Record) (o o' : Out) → o ≡ o' → o'.board ≡ r → Keeps r o
kept r o o' e b w = ap (λ (x : Out). x.board) e ∙ b

wrote : (r : Record) (o : Out) (p : Phase) (a : Answer) → r.phase ≡ p → o.answer ≡ a → changes p a ≡ true → Keeps r o
wrote r o p a e d t w = absurd (true≢false (sym t ∙ sym (ap (λ (x : Phase). changes x a) e) ∙ sym (ap (changes r.phase) d) ∙ w))

in_job : (s : Stage) (p : Phase) → changes (Busy s) (answer_in p) ≡ true
in_job s Unmounted = refl
in_job s Idle = refl
in_job s (Busy n) = refl

pub step_keeps : (N : ℕ) (img : List ℕ) (r : Record) → Keeps r (step_on N img r)
step_keeps N img r = by r.phase refl
  where
    by : (p : Phase) → r.phase ≡ p → Keeps r (step_on N img r)
    by Unmounted e = kept r _ _ (step-resting N img r (subst Rests (sym e) tt)) refl
    by Idle e = kept r _ _ (step-resting N img r (subst Rests (sym e) tt)) refl
    by (Busy s) e =
        on_test (same_shape N (length img) r && within N (size_of N img) (action s r))
        (λ t. wrote r (step_on N img r) (Busy s) _ e (ap (λ (o : Out). o.answer) (step-goes N img r s e t))
        (in_job s (advance N s (apply (size_of N img) (action s r) img) r).phase))
        (λ t. kept r _ _ (step-outside N img r s e t) refl)

-- ---- a step that the caller made

pub made_cases : (N : ℕ) (P : Out → Type 0) (img : List ℕ) (r : Record) → P (out Done img r [])
    → ((s : Stage) → r.phase ≡ Busy s → P (stepped img (advance N s img r))) → P (refuse refusal.Stale img r []) → P (made_on N img r)
unfolding made_on
made_cases N P img r rests goes stale = by r.phase refl
  where
    by : (p : Phase) → r.phase ≡ p → P (made_in_of N p img r)
    by Unmounted e = rests
    by Idle e = rests
    by (Busy s) e = on_test (same_shape N (length img) r && within N (size_of N img) (action s r)) (λ t. rw t (goes s e)) (λ t. rw t stale)

pub made_keeps : (N : ℕ) (img : List ℕ) (r : Record) → Keeps r (made_on N img r)
made_keeps N img r =
    made_cases N (Keeps r) img r (λ _. refl)
    (λ s e. wrote r (stepped img (advance N s img r)) (Busy s) _ e refl (in_job s (advance N s img r).phase))
    (λ _. refl)
