-- The steps of a job, one more or none.
use mathlib.Core.Path.{◌≡◌, refl, sym}
use mathlib.Core.List.{List}
use mathlib.Core.Logic.{◌≢◌}
use Prim.Native.Nat.{ℕ, zero, suc, ◌+◌, ◌-◌, ◌<◌}
use native.Mathlib.Omega.{arith}
use Rattle.wire.specs.declared.Answer.{Answer}
use Rattle.wire.specs.declared.Answer.TheVariants.{Done, More, Refused}
use Rattle.board.specs.declared.Record.{Record}
use Rattle.board.specs.Step.{step_on}
use Rattle.job.specs.declared.Outcome.{Outcome}
use Rattle.scene.specs.Runs.{Reached, steps_from}

-- what is reached from before a step is reached from after it
pub one_more : (N most n : ℕ) (img img' : List ℕ) (r : Record) (a : Answer) (o : Outcome) (w : Reached)
    → n < most → a ≡ More → (img' ≡ (step_on N img r).image) × (o.answer ≡ (step_on N img r).answer) × (o.board ≡ (step_on N img r).board)
    → steps_from N (most - n) img r a n ≡ w → steps_from N (most - (n + 1)) img' o.board o.answer (n + 1) ≡ w
unfolding steps_from
one_more N most n img img' r a o w l e (i, s, k) h =
    let f : most - n ≡ suc (most - (n + 1)) = omega arith in
    rw (i, s, k) (rw (f, e) at h)

-- an answer other than more ends it: where it ended is what is reached
pub no_more : (N f : ℕ) (img : List ℕ) (r : Record) (a : Answer) (n : ℕ) (w : Reached) → a ≢ More → steps_from N f img r a n ≡ w
    → (img ≡ w.image) × (r ≡ w.board) × (a ≡ w.answer) × (n ≡ w.steps)
unfolding steps_from
no_more N zero img r a n w e h = rw (sym h) (refl, refl, refl, refl)
no_more N (suc f) img r Done n w e h = rw (sym h) (refl, refl, refl, refl)
no_more N (suc f) img r More n w e h = absurd (e refl)
no_more N (suc f) img r (Refused x) n w e h = rw (sym h) (refl, refl, refl, refl)

pub all_done : (N most n : ℕ) (img : List ℕ) (r : Record) (a : Answer) (w : Reached) → most ≡ n → steps_from N (most - n) img r a n ≡ w
    → (img ≡ w.image) × (r ≡ w.board) × (a ≡ w.answer) × (most ≡ w.steps)
unfolding steps_from
all_done N most n img r a w e h =
    let f : most - n ≡ zero = omega arith in
    rw (sym (rw f at h), e) (refl, refl, refl, refl)
