-- A run is so many step calls, up to the first that does not answer more.
use mathlib.Core.Path.{◌≡◌, refl, sym, ap, subst, ◌∙◌}
use mathlib.Core.List.{List, []}
use mathlib.Core.Bool.{Bool, true, false, cond, ◌&&◌}
use Prim.Native.Nat.{ℕ, zero, suc, ◌-◌, ◌<◌}
use native.Mathlib.Omega.{arith}
use lib.Dec.{eqb}
use lib.ListN.{length}
use borrow.Author.Tests.{eqb-true, eq-eqb, ne_eqb}
use Rattle.flash.specs.Flash.{apply, size_of, within}
use Rattle.flash.proofs.Cases.{on_test}
use Rattle.wire.specs.declared.Answer.{Answer}
use Rattle.wire.specs.declared.Answer.TheVariants.{Done, More, Refused}
use Rattle.wire.specs.declared.Refusal.TheVariants as refusal
use Rattle.wire.specs.Answer.{edge_number}
use Rattle.board.specs.declared.Stage.{Stage}
use Rattle.board.specs.declared.Phase.{Phase}
use Rattle.board.specs.declared.Phase.TheVariants.{Unmounted, Idle, Busy}
use Rattle.board.specs.declared.Record.{Record}
use Rattle.board.specs.Record.{Out, refuse, answer_in, answer_of}
use Rattle.board.specs.Step.{action, advance, same_shape, stepped, step_on}
use Rattle.board.specs.Exec.{step}
use Rattle.board.specs.Drive.{Drove, run_from, run_on_of}
use Rattle.board.specs.Demand1.{Rests}
use Rattle.board.specs.Table.{is_busy}
use Rattle.board.proofs.Outcomes.{step-resting, step-outside, step-goes}
use Rattle.drive.proofs.Running.{run_on, run_over, run-done, run-refused}
use Rattle.lent.specs.Layout.{record_size, record_in, record_bytes}
use Rattle.lent.proofs.Inverse.{record_back, length_bytes_of}
use Rattle.lent.proofs.Own.{own-sized}
use Rattle.pack.specs.Code.{changes}
use Rattle.edge.specs.Edge.{Edge, Run, run, ran, edge_run}
use Rattle.edge.specs.Calls.{plain, last_steps, one_more_of, steps_up_to, RunExact}
use Rattle.edge.proofs.Arrays.{step-sized}
use Rattle.edge.proofs.Calls.{meets, is_step}
use Rattle.edge.proofs.Driving.{none_made}

-- ---- one step call more before it

abbrev bumped : Drove → Drove
bumped d = record { steps = suc d.steps; out = d.out }

later : (N n c : ℕ) (o : Out) → 0 < c → run_from N n (suc c) o ≡ bumped (run_from N n c o)
later N zero c o h = by o.answer refl
  where
    by : (a : Answer) → o.answer ≡ a → run_from N 0 (suc c) o ≡ bumped (run_from N 0 c o)
    by Done e = run-done N 0 (suc c) o e ∙ sym (ap bumped (run-done N 0 c o e))
    by More e = run_over N (suc c) o e ∙ sym (ap bumped (run_over N c o e))
    by (Refused why) e =
        let z : suc c - 1 ≡ suc (c - 1) = omega arith in
        run-refused N 0 (suc c) o why e ∙ ap (λ (k : ℕ). record { steps = k; out = o }) z ∙ sym (ap bumped (run-refused N 0 c o why e))
later N (suc n) c o h = by o.answer refl (λ x. later N n (suc c) x (omega arith))
  where
    by : (a : Answer) → o.answer ≡ a → ((x : Out) → run_from N n (suc (suc c)) x ≡ bumped (run_from N n (suc c) x))
        → run_from N (suc n) (suc c) o ≡ bumped (run_from N (suc n) c o)
    by Done e f = run-done N (suc n) (suc c) o e ∙ sym (ap bumped (run-done N (suc n) c o e))
    by More e f = run_on N n (suc c) o e ∙ f (step_on N o.image o.board) ∙ sym (ap bumped (run_on N n c o e))
    by (Refused why) e f =
        let z : suc c - 1 ≡ suc (c - 1) = omega arith in
        run-refused N (suc n) (suc c) o why e ∙ ap (λ (k : ℕ). record { steps = k; out = o }) z ∙ sym (ap bumped (run-refused N (suc n) c o why e))

first_more : (N n : ℕ) (o : Out) → o.answer ≡ More → run_from N n 1 o ≡ bumped (run_from N n 0 o)
first_more N zero o e = run_over N 1 o e ∙ sym (ap bumped (run_over N 0 o e))
first_more N (suc n) o e = run_on N n 1 o e ∙ later N n 1 (step_on N o.image o.board) (omega arith) ∙ sym (ap bumped (run_on N n 0 o e))

-- ---- on a record buffer of its size

module _ (N : ℕ) (img b : List ℕ) (l : length b ≡ record_size) where
  abbrev r : Record
  r = record_in b

  abbrev pub o : Out
  o = step_on N img r

  pub is_run : (n steps : ℕ) → edge_run N img b n steps ≡ ran b (run_on_of N n img r)
  unfolding edge_run
  is_run n steps = rw (eq-eqb (length b) record_size l)

  -- a step call by its answer, then the rest
  abbrev pub b' : List ℕ
  b' = (meets N img b l (plain step)).after

  abbrev pub on : ℕ → Answer → Run
  on n a =
      cond (eqb (edge_number a) 255) (one_more_of (steps_up_to N n o.image b')) (run (edge_number a) (last_steps b (edge_number a)) o.image b')

  pub is_on : (n : ℕ) (a : Answer) → o.answer ≡ a → steps_up_to N (suc n) img b ≡ on n a
  unfolding steps_up_to
  is_on n a e =
      ap (λ (x : Edge). cond (eqb x.answer 255) (one_more_of (steps_up_to N n x.image x.board))
      (run x.answer (last_steps b x.answer) x.image x.board)) (meets N img b l (plain step)).is ∙ ap (on n) e

  wrote : (a : Answer) → o.answer ≡ a → b' ≡ cond (changes r.phase a) (record_bytes o.board) b
  wrote a e =
      ap (λ (x : Edge). x.board) (sym (meets N img b l (plain step)).is ∙ is_step N img b l)
      ∙ ap (λ (x : Answer). cond (changes r.phase x) (record_bytes o.board) b) e

  -- a record in no job
  run_rests : (n : ℕ) → answer_of r ≡ Done → ran b (run_on_of N n img r) ≡ run 0 0 img b
  run_rests n e = ap (ran b) (run-done N n 0 (stepped img r) e) ∙ ap (λ (a : Answer). run (edge_number a) 0 img b) e

  up_rests : (n : ℕ) → Rests r.phase → is_busy r.phase ≡ false → steps_up_to N (suc n) img b ≡ run 0 0 img b
  up_rests n h t =
      let e = step-resting N img r h in
      let a : o.answer ≡ Done = ap (λ (x : Out). x.answer) e in
      is_on n Done a ∙ ap (run 0 (last_steps b 0) o.image) (wrote Done a) ∙ rw t (ap (λ (x : Out). run 0 0 x.image b) e)

  -- a record in a job: refused, ended, gone on
  module _ (s : Stage) (p : r.phase ≡ Busy s) (n : ℕ) where
    in_job : answer_of r ≡ More
    in_job = ap answer_in p

    busy : is_busy r.phase ≡ true
    busy = ap is_busy p

    from_one : run_on_of N (suc n) img r ≡ run_from N n 1 o
    from_one = run_on N n 0 (stepped img r) in_job

    refused : o ≡ refuse refusal.Stale img r [] → ran b (run_on_of N (suc n) img r) ≡ steps_up_to N (suc n) img b
    refused e =
        let a : o.answer ≡ Refused refusal.Stale = ap (λ (x : Out). x.answer) e in
        ap (ran b) (from_one ∙ run-refused N n 1 o refusal.Stale a) ∙ ap (λ (x : Out). run (edge_number x.answer) 0 x.image b) e
        ∙ sym (is_on n (Refused refusal.Stale) a ∙ ap (run 11 (last_steps b 11) o.image) (wrote (Refused refusal.Stale) a)
        ∙ rw busy (ap (λ (x : Out). run 11 0 x.image b) e))

    ended : o.answer ≡ Done → ran b (run_on_of N (suc n) img r) ≡ steps_up_to N (suc n) img b
    ended a =
        ap (ran b) (from_one ∙ run-done N n 1 o a) ∙ ap (λ (x : Answer). run (edge_number x) 1 o.image (record_bytes o.board)) a
        ∙ sym (is_on n Done a ∙ ap (run 0 (last_steps b 0) o.image) (wrote Done a) ∙ rw busy)

    -- the buffer then
    abbrev c : List ℕ
    c = record_bytes o.board

    gone_on : o.answer ≡ More → o ≡ stepped o.image o.board → ran c (run_on_of N n o.image o.board) ≡ steps_up_to N n o.image c
        → ran b (run_on_of N (suc n) img r) ≡ steps_up_to N (suc n) img b
    gone_on a e f = ap (ran b) one ∙ bytes ∙ ap one_more_of f ∙ sym (is_on n More a ∙ ap (λ (w : List ℕ). one_more_of (steps_up_to N n o.image w)) (wrote More a))
      where
        one : run_on_of N (suc n) img r ≡ bumped (run_on_of N n o.image o.board)
        one = from_one ∙ first_more N n o a ∙ ap (λ (x : Out). bumped (run_from N n 0 x)) e

        bytes : ran b (bumped (run_on_of N n o.image o.board)) ≡ one_more_of (ran c (run_on_of N n o.image o.board))
        bytes =
            let d = run_on_of N n o.image o.board in
            let y : eqb (suc d.steps) 0 ≡ false = ne_eqb (suc d.steps) 0 (λ z. omega (arith, z)) in
            let x : Bool → List ℕ → Run = λ t w. run (edge_number d.out.answer) (suc d.steps) d.out.image (cond t w (record_bytes d.out.board)) in
            on_test (eqb d.steps 0)
            (λ t.
            let k = none_made N n o.image o.board (eqb-true d.steps 0 t) in
            ap (λ (q : Bool). x q b) y ∙ ap (λ (w : Record). run (edge_number d.out.answer) (suc d.steps) d.out.image (record_bytes w)) k.1
            ∙ sym (ap (λ (q : Bool). x q c) t))
            (λ t. ap (λ (q : Bool). x q b) y ∙ sym (ap (λ (q : Bool). x q c) t))

-- ---- every buffer

none_first : (N : ℕ) (img b : List ℕ) → ran b (run_on_of N 0 img (record_in b)) ≡ steps_up_to N 0 img b
unfolding steps_up_to
none_first N img b = by (record_in b).phase refl
  where
    by : (p : Phase) → (record_in b).phase ≡ p → ran b (run_on_of N 0 img (record_in b)) ≡ steps_up_to N 0 img b
    by Unmounted e = ap (ran b) (run-done N 0 0 (stepped img (record_in b)) (ap answer_in e))
    by Idle e = ap (ran b) (run-done N 0 0 (stepped img (record_in b)) (ap answer_in e))
    by (Busy s) e = ap (ran b) (run_over N 0 (stepped img (record_in b)) (ap answer_in e))

-- a record answers done or more
phases : {P : Type 0} (p : Phase) → (answer_in p ≡ Done → P) → (answer_in p ≡ More → P) → P
phases Unmounted f g = f refl
phases Idle f g = f refl
phases (Busy s) f g = g refl

all_runs : (N n : ℕ) (img b : List ℕ) → length b ≡ record_size → ran b (run_on_of N n img (record_in b)) ≡ steps_up_to N n img b
all_runs N zero img b l = none_first N img b
all_runs N (suc n) img b l = by (record_in b).phase refl (all_runs N n)
  where
    by : (p : Phase) → (record_in b).phase ≡ p
        → ((i c : List ℕ) → length c ≡ record_size → ran c (run_on_of N n i (record_in c)) ≡ steps_up_to N n i c)
        → ran b (run_on_of N (suc n) img (record_in b)) ≡ steps_up_to N (suc n) img b
    by Unmounted e f = run_rests N img b l (suc n) (ap answer_in e) ∙ sym (up_rests N img b l n (subst Rests (sym e) tt) (ap is_busy e))
    by Idle e f = run_rests N img b l (suc n) (ap answer_in e) ∙ sym (up_rests N img b l n (subst Rests (sym e) tt) (ap is_busy e))
    by (Busy s) e f =
        let r = record_in b in
        on_test (same_shape N (length img) r && within N (size_of N img) (action s r))
        (λ t.
        let after = apply (size_of N img) (action s r) img in
        let g : step_on N img r ≡ stepped after (advance N s after r) = step-goes N img r s e t in
        let o = step_on N img r in
        let z = (step-sized N img r (own-sized b)).0 in
        let c = record_bytes o.board in
        let h : ran c (run_on_of N n o.image o.board) ≡ steps_up_to N n o.image c =
        ap (λ (q : Record). ran c (run_on_of N n o.image q)) (sym (record_back o.board z)) ∙ f o.image c (length_bytes_of o.board z) in
        phases (advance N s after r).phase
        (λ q. ended N img b l s e n (ap (λ (x : Out). x.answer) g ∙ q))
        (λ q. gone_on N img b l s e n (ap (λ (x : Out). x.answer) g ∙ q) (g ∙ sym (λ i. stepped (g i).image (g i).board)) h))
        (λ t. refused N img b l s e n (step-outside N img r s e t))

pub run-exact : RunExact
unfolding RunExact
run-exact N img b n steps l = is_run N img b l n steps ∙ all_runs N n img b l
