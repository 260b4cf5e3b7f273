-- The test of a step is its line of the table.
use mathlib.Core.Path.{◌≡◌, sym, ap, subst, ◌∙◌}
use mathlib.Core.List.{List}
use mathlib.Core.Logic.{◌⊎◌, inl, inr}
use mathlib.Core.Bool.{Bool, true, false, ◌&&◌, not}
use Prim.Native.Nat.{ℕ, suc, ◌≤◌, ◌<◌}
use native.Mathlib.Omega.{arith}
use lib.Dec.{eqb, ltb, leb}
use lib.ListN.{length}
use borrow.Author.Tests.{eqb-true, eqb-false, leb-true, leb-false, ltb-true, ltb-false}
use Rattle.flash.specs.Flash.{max_blocks, is_count, Step, size_of, block_of, offset_of, within}
use Rattle.flash.proofs.Cases.{on_test, clash, and_both, and_left, and_right}
use Rattle.board.specs.declared.Stage.{Stage}
use Rattle.board.specs.declared.Phase.{Phase}
use Rattle.board.specs.declared.Phase.TheVariants.{Unmounted, Idle, Busy}
use Rattle.board.specs.declared.Record.{Record}
use Rattle.board.specs.Step.{same_shape, action}
use Rattle.board.specs.Table.{is_busy, Outside, Misplaced}
use Rattle.board.proofs.Checks.{outside}
use Rattle.board.proofs.Lines.{Tests, false-true, not_yes, not-no}

pub step-test : {N : ℕ} (img : List ℕ) (r : Record) (p : Phase) → r.phase ≡ p → Tests (outside N p img r) (Misplaced N img r)
step-test img r Unmounted e =
    record { yes = λ t. false-true t; no = λ y. false-true (ap is_busy (sym e ∙ y.is-busy)) }
step-test img r Idle e =
    record { yes = λ t. false-true t; no = λ y. false-true (ap is_busy (sym e ∙ y.is-busy)) }
step-test {N} img r (Busy s) e = record { yes = λ t. record { stage = s; is-busy = e; misfits = misfit t }; no = λ y. not-no fits (λ t. hit (at_stage y) t) }
  where
    x : Step
    x = action s r

    shape : Bool
    shape = same_shape N (length img) r

    long : Bool
    long = eqb (length img) (suc r.rest.last)

    same : Bool
    same = eqb N r.rest.blocks

    there : Bool
    there = ltb (block_of x) N

    inside : Bool
    inside = ltb (offset_of x) (size_of N img)

    fits : Bool
    fits = shape && within N (size_of N img) x

    Misfit : Stage → Type 0
    Misfit g = (length img ≡ suc r.rest.last → ⊥) ⊎ ((N ≡ r.rest.blocks → ⊥) ⊎ Outside N img (action g r))

    no_count : is_count N ≡ false → Outside N img x
    no_count c =
        on_test (leb 2 N)
        (λ a. on_test (leb N max_blocks) (λ b. clash (is_count N) (and_both (leb 2 N) (leb N max_blocks) a b) c)
        (λ b. inr (inl (leb-false N max_blocks b))))
        (λ a. inl (leb-false 2 N a))

    misfit : not fits ≡ true → Misfit s
    misfit t =
        on_test long
        (λ a.
        on_test same
        (λ b.
        on_test (is_count N)
        (λ c.
        on_test there
        (λ d.
        on_test inside
        (λ e.
        absurd (not_yes fits t (and_both shape (within N (size_of N img) x) (and_both long same a b)
        (and_both (is_count N) (there && inside) c (and_both there inside d e)))))
        (λ e. inr (inr (inr (inr (inr (ltb-false (offset_of x) (size_of N img) e)))))))
        (λ d. inr (inr (inr (inr (inl (ltb-false (block_of x) N d)))))))
        (λ c. inr (inr (no_count c))))
        (λ b. inr (inl (eqb-false N r.rest.blocks b))))
        (λ a. inl (eqb-false (length img) (suc r.rest.last) a))

    same_stage : {a b : Stage} → Busy a ≡ Busy b → a ≡ b
    same_stage q = cc

    at_stage : Misplaced N img r → Misfit s
    at_stage y = subst Misfit (same_stage (sym y.is-busy ∙ e)) y.misfits

    hit : Misfit s → fits ≡ true → ⊥
    hit (inl f) t = f (eqb-true (length img) (suc r.rest.last) (and_left long same (and_left shape (within N (size_of N img) x) t)))
    hit (inr (inl f)) t = f (eqb-true N r.rest.blocks (and_right long same (and_left shape (within N (size_of N img) x) t)))
    hit (inr (inr o)) t =
        let w : within N (size_of N img) x ≡ true = and_right shape (within N (size_of N img) x) t in
        let c : is_count N ≡ true = and_left (is_count N) (there && inside) w in
        let d : (there && inside) ≡ true = and_right (is_count N) (there && inside) w in
        out_hit o (leb-true 2 N (and_left (leb 2 N) (leb N max_blocks) c)) (leb-true N max_blocks (and_right (leb 2 N) (leb N max_blocks) c))
        (ltb-true (block_of x) N (and_left there inside d)) (ltb-true (offset_of x) (size_of N img) (and_right there inside d))
      where
        out_hit : Outside N img x → 2 ≤ N → N ≤ 16 → block_of x < N → offset_of x < size_of N img → ⊥
        out_hit (inl l) a b c d = omega arith
        out_hit (inr (inl l)) a b c d = omega arith
        out_hit (inr (inr (inl l))) a b c d = omega arith
        out_hit (inr (inr (inr l))) a b c d = omega arith
