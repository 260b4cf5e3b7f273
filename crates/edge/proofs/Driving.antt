-- Flash that the caller drives, at the edge: next and made are a step; a run writes the record if it made a step.
use mathlib.Core.Path.{◌≡◌, refl, sym, ap, ◌∙◌}
use mathlib.Core.List.{List}
use mathlib.Core.Bool.{Bool, true, false, cond}
use Prim.Native.Nat.{ℕ, zero, suc, ◌<◌}
use native.Mathlib.Omega.{arith}
use lib.Dec.{eqb}
use lib.ListN.{length}
use borrow.Author.Tests.{ne_eqb}
use Rattle.flash.proofs.Cases.{on_test}
use Rattle.wire.specs.declared.Answer.{Answer}
use Rattle.wire.specs.declared.Answer.TheVariants.{Done, More, Refused}
use Rattle.wire.specs.declared.Refusal.{Refusal}
use Rattle.wire.specs.declared.Refusal.TheVariants as refusal
use Rattle.wire.specs.Answer.{refusal_number, edge_number}
use Rattle.board.specs.declared.Next.{Next}
use Rattle.board.specs.declared.Next.TheVariants as next
use Rattle.board.specs.declared.Record.{Record}
use Rattle.board.specs.Record.{Out, answer_of}
use Rattle.board.specs.Step.{stepped, step_on}
use Rattle.board.specs.Exec.{step}
use Rattle.board.specs.Drive.{Drove, next_on, flashed, made_on, run_from, run_on_of, NextThenMade}
use Rattle.board.proofs.Driving.{next-then-made}
use Rattle.board.proofs.Refusals.{refusals_untouched}
use Rattle.drive.specs.declared.runs.Ran.{Ran}
use Rattle.drive.specs.Code.{Runs}
use Rattle.drive.proofs.Running.{run_on, run_over, run-done, run-refused}
use Rattle.lent.specs.Layout.{record_size, record_in, record_bytes}
use Rattle.pack.specs.Code.{loaded_in, Holds}
use Rattle.edge.specs.Edge.{Edge, edge, written, holds_record, edge_step, edge_made, tells, told, flashed_by, edge_next}
use Rattle.edge.specs.Edge.{run, ran, edge_run, NoStepStays, EdgeNextThenMade}
use Rattle.edge.proofs.Buffers.{filled}

-- ---- next, then made

-- a refusal's number is no flash step's
told-nothing : (why : Refusal) (img : List ℕ) → flashed_by (told (refusal_number why) 0 0 0) img ≡ img
told-nothing refusal.Malformed img = refl
told-nothing refusal.NoStore img = refl
told-nothing (refusal.Foreign k e) img = refl
told-nothing refusal.ImageLength img = refl
told-nothing refusal.Busy img = refl
told-nothing refusal.Worn img = refl
told-nothing refusal.NoRoom img = refl
told-nothing refusal.NoObject img = refl
told-nothing refusal.ShortReply img = refl
told-nothing refusal.HostRange img = refl
told-nothing refusal.Stale img = refl
told-nothing refusal.HostFull img = refl
told-nothing refusal.Pending img = refl

told_flashes : (x : Next) (img : List ℕ) → flashed_by (tells x) img ≡ flashed x img
told_flashes (next.Program at v) img = refl
told_flashes (next.Erase at n) img = refl
told_flashes next.Nothing img = refl
told_flashes (next.Refused why) img = told-nothing why img

module _ (b : List ℕ) where
  -- what a call came to, on a buffer that holds a record
  met : Out → Edge
  met o = edge (edge_number o.answer) o.image (written b o) o.reply

  made_is : (N : ℕ) (img : List ℕ) → holds_record b ≡ true → edge_made N img b ≡ met (made_on N img (record_in b))
  unfolding edge_made met
  made_is N img t = rw t

  step_is : (N : ℕ) (img : List ℕ) → holds_record b ≡ true → edge_step N img b ≡ met (step_on N img (record_in b))
  unfolding edge_step met
  step_is N img t = rw t

  -- on any other buffer both are 254
  same_other : (N : ℕ) (img : List ℕ) → holds_record b ≡ false → edge_made N img b ≡ edge_step N img b
  unfolding edge_made edge_step
  same_other N img t = rw t

pub edge-next-then-made : EdgeNextThenMade
unfolding EdgeNextThenMade NextThenMade edge_next
edge-next-then-made N img b at size byte =
    let x = next_on N (length img) (record_in b) in
    let by : Bool → Edge = λ q. edge_made N (flashed_by (cond q (tells x) (told 254 at size byte)) img) b in
    on_test (holds_record b)
    (λ t.
    ap by t ∙ ap (λ (i : List ℕ). edge_made N i b) (told_flashes x img) ∙ made_is b N (flashed x img) t ∙ ap (met b) (next-then-made N img (record_in b))
    ∙ sym (step_is b N img t))
    (λ t. ap by t ∙ same_other b N img t)

-- ---- runs

abbrev steps_of : Drove → ℕ
steps_of d = d.steps

-- from its second step call on a run has made a step
made_some : (N m c : ℕ) (o : Out) → 1 < c → 0 < (run_from N m c o).steps
made_some N zero c o h = by o.answer refl
  where
    by : (a : Answer) → o.answer ≡ a → 0 < (run_from N 0 c o).steps
    by Done e = omega (arith, ap steps_of (run-done N 0 c o e))
    by More e = omega (arith, ap steps_of (run_over N c o e))
    by (Refused why) e = omega (arith, ap steps_of (run-refused N 0 c o why e))
made_some N (suc m) c o h = by o.answer refl (λ x. made_some N m (suc c) x (omega arith))
  where
    by : (a : Answer) → o.answer ≡ a → ((x : Out) → 0 < (run_from N m (suc c) x).steps) → 0 < (run_from N (suc m) c o).steps
    by Done e f = omega (arith, ap steps_of (run-done N (suc m) c o e))
    by More e f = omega (arith, ap steps_of (run_on N m c o e), f (step_on N o.image o.board))
    by (Refused why) e f = omega (arith, ap steps_of (run-refused N (suc m) c o why e))

made_one : (N m : ℕ) (o : Out) → o.answer ≡ More → (run_from N m 1 o).steps ≡ 0 → ⊥
made_one N zero o q e = omega (arith, e, ap steps_of (run_over N 1 o q))
made_one N (suc m) o q e = omega (arith, e, ap steps_of (run_on N m 1 o q), made_some N m 2 (step_on N o.image o.board) (omega arith))

-- image and record as they were
abbrev Leaves : List ℕ → Record → Drove → Type 0
Leaves img r d = (d.out.image ≡ img) × (d.out.board ≡ r)

left : (img : List ℕ) (r : Record) (d e : Drove) → d ≡ e → Leaves img r e → Leaves img r d
left img r d e p h = (ap (λ (x : Drove). x.out.image) p ∙ h.0, ap (λ (x : Drove). x.out.board) p ∙ h.1)

first-refused : (N m : ℕ) (img : List ℕ) (r : Record) → (run_from N m 1 (step_on N img r)).steps ≡ 0
    → Leaves img r (run_from N m 1 (step_on N img r))
first-refused N m img r e = by (step_on N img r).answer refl
  where
    by : (a : Answer) → (step_on N img r).answer ≡ a → Leaves img r (run_from N m 1 (step_on N img r))
    by Done q = absurd (omega (arith, e, ap steps_of (run-done N m 1 (step_on N img r) q)))
    by More q = absurd (made_one N m (step_on N img r) q e)
    by (Refused why) q =
        let u = refusals_untouched N img r step why q in
        left img r _ _ (run-refused N m 1 (step_on N img r) why q) (ap (λ (o : Out). o.image) u, ap (λ (o : Out). o.board) u)

-- a run that made none leaves image and record
pub none_made : (N m : ℕ) (img : List ℕ) (r : Record) → (run_on_of N m img r).steps ≡ 0 → Leaves img r (run_on_of N m img r)
none_made N m img r e = by m (answer_of r) refl e
  where
    by : (k : ℕ) (a : Answer) → answer_of r ≡ a → (run_on_of N k img r).steps ≡ 0 → Leaves img r (run_on_of N k img r)
    by k Done q f = left img r _ _ (run-done N k 0 (stepped img r) q) (refl, refl)
    by k (Refused why) q f = left img r _ _ (run-refused N k 0 (stepped img r) why q) (refl, refl)
    by zero More q f = left img r _ _ (run_over N 0 (stepped img r) q) (refl, refl)
    by (suc k) More q f =
        let g = run_on N k 0 (stepped img r) q in
        left img r _ _ g (first-refused N k img r (sym (ap steps_of g) ∙ f))

-- what the code came to: x by the parts, after the buffer
module _ (N : ℕ) (img img' b places unit after : List ℕ) (n m : ℕ) (x : Ran) (l : length b ≡ record_size)
    (q : Runs x places unit (record_in b).frame img' (run_on_of N m img (record_in b))) (e : n ≡ edge_number x.stepped.answer) where
  abbrev d : Drove
  d = run_on_of N m img (record_in b)

  same_run : after ≡ cond (eqb d.steps 0) b (record_bytes d.out.board) → run n x.steps img' after ≡ ran b d
  same_run w = λ i. run ((e ∙ ap edge_number q.answers) i) (q.steps i) (q.image i) (w i)

  pub ran_none : x.steps ≡ 0 → after ≡ b → (run n x.steps img' after ≡ ran b d) × (record_in after ≡ d.out.board)
  ran_none z k =
      let y : d.steps ≡ 0 = sym q.steps ∙ z in (
        same_run (k ∙ sym (ap (λ (t : ℕ). cond (eqb t 0) b (record_bytes d.out.board)) y)),
        ap record_in k ∙ sym (none_made N m img (record_in b) y).1,
      )

  pub ran_some : (x.steps ≡ 0 → ⊥) → Holds (loaded_in x.stepped places unit b) b after
      → (run n x.steps img' after ≡ ran b d) × (record_in after ≡ d.out.board)
  ran_some z h =
      let y : eqb d.steps 0 ≡ false = ne_eqb _ _ (λ f. z (q.steps ∙ f)) in (
        same_run (h.bytes ∙ filled _ b l ∙ ap record_bytes q.gives ∙ sym (ap (λ (t : Bool). cond t b (record_bytes d.out.board)) y)),
        h.back l ∙ q.gives,
      )

pub no-step-stays : NoStepStays
unfolding NoStepStays edge_run
no-step-stays N img b n =
    on_test (holds_record b)
    (λ t. rw t (λ e.
    let k = none_made N n img (record_in b) e in
    let o = (run_on_of N n img (record_in b)).out in
    λ i. run (edge_number o.answer) (e i) (k.0 i) (ap (λ (s : ℕ). cond (eqb s 0) b (record_bytes o.board)) e i)))
    (λ t. rw t (λ _. refl))
