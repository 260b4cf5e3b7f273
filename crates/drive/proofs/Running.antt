-- Step calls one after the other: a run from here is the run from the start.
use mathlib.Core.Path.{◌≡◌, refl, sym, ap, ap₂, subst, ◌∙◌}
use mathlib.Core.List.{List, [], ◌∷◌}
use mathlib.Core.Bool.{Bool, true, false, ◌&&◌, cond}
use mathlib.Core.Logic.{◌⊎◌, inl, inr}
use Prim.Native.Nat.{ℕ, zero, suc, ◌+◌, ◌-◌, ◌*◌, ◌≤◌, ◌<◌}
use native.Mathlib.Omega.{arith}
use native.Mathlib.Nat.{zero-add}
use lib.ListN.{length, get_or, take, drop, length-set, length-drop}
use lib.Seq.{get_or-drop}
use borrow.Author.Tests.{lt-ltb}
use Rattle.flash.specs.Flash.{Step, apply, program_at, is_count, size_in, size_of, within, writes, write_all}
use Rattle.flash.proofs.Cases.{and_both}
use Rattle.wire.specs.declared.Answer.{Answer}
use Rattle.wire.specs.declared.Answer.TheVariants.{Done, More, Refused}
use Rattle.wire.specs.declared.Refusal.{Refusal}
use Rattle.wire.specs.declared.Refusal.TheVariants as refusal
use Rattle.board.specs.declared.Stage.{Stage}
use Rattle.board.specs.declared.Stage.TheVariants.{Copy, Append}
use Rattle.board.specs.declared.Phase.{Phase}
use Rattle.board.specs.declared.Phase.TheVariants.{Unmounted, Idle, Busy}
use Rattle.board.specs.declared.Cursor.{Cursor}
use Rattle.board.specs.declared.Record.{Record}
use Rattle.board.specs.Record.{Out, in_stage, refuse, answer_in, answer_of, cursor}
use Rattle.board.specs.Step.{action, advance, next_index, next_byte, same_shape, stepped, step_busy, step_in, step_on}
use Rattle.board.specs.Drive.{Drove, drove, run_from, run_on_of}
use Rattle.board.proofs.Pipeline.{inside-yes}
use Rattle.board.proofs.Outcomes.{step-goes, copy_next, append_next}
use Rattle.job.specs.declared.records.Numbers.{Numbers}
use Rattle.job.specs.declared.records.Stepped.{Stepped}
use Rattle.job.specs.Code.{assemble, staged, staying, leaves_if, leaves, Steps}
use Rattle.drive.specs.Code.{on_by, steps_by, copy_lane, append_lane, Short, laid, Bursts, Runs}
use Rattle.drive.specs.declared.bursts.Lane.{Lane}

-- ---- a run by the answer it is at

pub run_on : (N m c : ℕ) (o : Out) → o.answer ≡ More → run_from N (suc m) c o ≡ run_from N m (suc c) (step_on N o.image o.board)
unfolding run_from
run_on N m c o e = rw e

abbrev ended : ℕ → Out → Drove
ended c o = record { steps = c; out = o }

pub run_over : (N c : ℕ) (o : Out) → o.answer ≡ More → run_from N 0 c o ≡ ended c o
unfolding run_from
run_over N c o e = ap (drove c o) e

pub run-done : (N m c : ℕ) (o : Out) → o.answer ≡ Done → run_from N m c o ≡ ended c o
unfolding run_from
run-done N zero c o e = ap (drove c o) e
run-done N (suc m) c o e = rw e

pub run-refused : (N m c : ℕ) (o : Out) (why : Refusal) → o.answer ≡ Refused why → run_from N m c o ≡ ended (c - 1) o
unfolding run_from
run-refused N zero c o why e = ap (drove c o) e
run-refused N (suc m) c o why e = rw e

-- ---- a step that goes on

done-ends : Done ≡ More → ⊥
done-ends e = let z : ◌≡◌ {A = ℕ} 0 1 = cc in omega arith

refused-ends : (why : Refusal) → Refused why ≡ More → ⊥
refused-ends why e = let z : ◌≡◌ {A = ℕ} 0 1 = cc in omega arith

by-test : (b : Bool) (x y : Out) → x ≡ stepped x.image x.board → (y.answer ≡ More → ⊥) → (cond b x y).answer ≡ More
    → cond b x y ≡ stepped (cond b x y).image (cond b x y).board
by-test true x y s n e = s
by-test false x y s n e = absurd (n e)

goes_in : (N : ℕ) (ph : Phase) (img : List ℕ) (r : Record) → (step_in N ph img r).answer ≡ More
    → step_in N ph img r ≡ stepped (step_in N ph img r).image (step_in N ph img r).board
unfolding step_busy
goes_in N Unmounted img r e = absurd (done-ends e)
goes_in N Idle img r e = absurd (done-ends e)
goes_in N (Busy s) img r e =
    let after : List ℕ = apply (size_of N img) (action s r) img in
    by-test (same_shape N (length img) r && within N (size_of N img) (action s r)) (stepped after (advance N s after r))
    (refuse refusal.Stale img r []) refl (refused-ends refusal.Stale) e

pub more-steps : (N : ℕ) (img : List ℕ) (r : Record) (b : Bool) (q : Record) (img' : List ℕ) → Steps More b q img' (step_on N img r)
    → step_on N img r ≡ stepped img' q
unfolding step_on
more-steps N img r b q img' x = goes_in N r.phase img r (sym x.answers) ∙ ap₂ stepped (sym x.image) (sym x.gives)

-- ---- bytes of a frame, one after the other

pub no_burst : (N : ℕ) (img : List ℕ) (r : Record) → Bursts N 0 img r img r
no_burst N img r = record { answers = refl; runs = λ m d. ap₂ (λ (i j : ℕ). run_from N i j (stepped img r)) (zero-add m) (sym (zero-add d)) }

-- a step programs a byte and leads to the record after it
abbrev Programs : ℕ → (ℕ → Record) → ℕ → List ℕ → ℕ → ℕ → Type 0
Programs N r a bs len i =
    (img : List ℕ) → length img ≡ len
    → (answer_of (r i) ≡ More) × (step_on N img (r i) ≡ stepped (program_at img (i + a) (get_or bs i 0)) (r (suc i)))

pub glide : (N k : ℕ) (r : ℕ → Record) (a : ℕ) (bs : List ℕ) (len : ℕ) → k ≤ length bs → ((i : ℕ) → i < k → Programs N r a bs len i)
    → (img : List ℕ) → length img ≡ len → (m d : ℕ)
    → run_from N (k + m) d (stepped img (r 0)) ≡ run_from N m (k + d) (stepped (write_all img (writes a (take k bs))) (r k))
unfolding writes write_all
glide N zero r a bs len h each img l m d = (no_burst N img (r 0)).runs m d
glide N (suc k) r a [] len h each img l m d = absurd (omega arith)
glide N (suc k) r a (x ∷ bs) len h each img l m d =
    let e : suc k + m ≡ suc (k + m) = omega arith in
    let f : k + suc d ≡ suc k + d = omega arith in
    let z : 0 + a ≡ a = omega arith in
    let s = each 0 (omega arith) img l in
    let on : (i : ℕ) → suc i + a ≡ i + suc a = λ i. omega arith in
    let img₁ : List ℕ = program_at img a x in
    ap (λ (i : ℕ). run_from N i d (stepped img (r 0))) e
    ∙ run_on N (k + m) d (stepped img (r 0)) s.0
    ∙ ap (run_from N (k + m) (suc d)) (s.1 ∙ ap (λ (i : ℕ). stepped (program_at img i x) (r 1)) z)
    ∙ glide N k (λ i. r (suc i)) (suc a) bs len (omega arith)
    (λ i g im y. (
      (each (suc i) (omega arith) im y).0,
      (each (suc i) (omega arith) im y).1 ∙ ap (λ (j : ℕ). stepped (program_at im j (get_or bs i 0)) (r (suc (suc i)))) (on i),
    ))
    img₁ (length-set img a _ ∙ l) m (suc d)
    ∙ ap (λ (i : ℕ). run_from N m i (stepped (write_all img₁ (writes (suc a) (take k bs))) (r (suc k)))) f

module _ (N : ℕ) (img : List ℕ) (q : Record) (c : Cursor) (size : ℕ) (is : size_of N img ≡ size) (same : same_shape N (length img) q ≡ true)
    (count : is_count N ≡ true) where
  -- a byte of the frame that is copied, but its last
  copy_byte : q.job.target < N → c.at < size → suc c.off < c.size
      → step_on N img (in_stage Copy c q)
      ≡ stepped (program_at img (q.job.target * size + c.at) (get_or q.unit c.off 0)) (in_stage Copy (next_byte c) q)
  copy_byte t a o =
      let byte : ℕ = get_or q.unit c.off 0 in
      let place : ℕ → ℕ = λ k. q.job.target * k + c.at in
      let x : Step = action Copy (in_stage Copy c q) in
      step-goes N img (in_stage Copy c q) Copy refl
      (and_both (same_shape N (length img) q) (within N (size_of N img) x) same
      (inside-yes (size_of N img) x count t (subst (λ (k : ℕ). c.at < k) (sym is) a)))
      ∙ ap (stepped (program_at img (place (size_of N img)) byte))
      (copy_next N (program_at img (place (size_of N img)) byte) (in_stage Copy c q) (lt-ltb _ _ o))
      ∙ ap (λ (k : ℕ). stepped (program_at img (place k) byte) (in_stage Copy (next_byte c) q)) is

  -- a byte of the frame to append, but its last
  append_byte : q.rest.block < N → q.rest.end + c.index < size → suc c.index < q.job.size
      → step_on N img (in_stage Append c q)
      ≡ stepped (program_at img (q.rest.block * size + (q.rest.end + c.index)) (get_or q.frame c.index 0)) (in_stage Append (next_index c) q)
  append_byte t a o =
      let byte : ℕ = get_or q.frame c.index 0 in
      let place : ℕ → ℕ = λ k. q.rest.block * k + (q.rest.end + c.index) in
      let x : Step = action Append (in_stage Append c q) in
      step-goes N img (in_stage Append c q) Append refl
      (and_both (same_shape N (length img) q) (within N (size_of N img) x) same
      (inside-yes (size_of N img) x count t (subst (λ (k : ℕ). q.rest.end + c.index < k) (sym is) a)))
      ∙ ap (stepped (program_at img (place (size_of N img)) byte))
      (append_next N (program_at img (place (size_of N img)) byte) (in_stage Append c q) (lt-ltb _ _ o))
      ∙ ap (λ (k : ℕ). stepped (program_at img (place k) byte) (in_stage Append (next_index c) q)) is

-- the i-th byte from a cursor on
ith : (bs : List ℕ) (o i : ℕ) → get_or bs (i + o) 0 ≡ get_or (drop o bs) i 0
ith bs o i = let e : i + o ≡ o + i = omega arith in ap (λ (j : ℕ). get_or bs j 0) e ∙ sym (get_or-drop o bs i 0)

-- ---- some bytes of a frame at once

pub by_count : {P : Type 0} (k : ℕ) → (k ≡ 0 → P) → (0 < k → P) → P
by_count zero none some = none refl
by_count (suc k) none some = some (omega arith)

module _ (N : ℕ) (p u f img : List ℕ) (n : Numbers) (k : ℕ) where
  abbrev was : Record
  was = assemble n p u f

  abbrev c : Cursor
  c = n.cursor

  -- the job in its own stage, at its own cursor
  own : (st : Stage) → n.phase ≡ Busy st → (x : Cursor) → x ≡ c → in_stage st x was ≡ was
  own st e x g =
      ap₂ (λ (y : Phase) (z : Cursor). assemble (record { phase = y; rest = n.rest; job = n.job; cursor = z }) p u f) (sym e) g

  spread : (st : Stage) → n.phase ≡ Busy st → (at : ℕ → Cursor) → at 0 ≡ c → (lane : Lane) (bs : List ℕ)
      → Short N (length img) n.rest lane k → k + lane.done ≤ length bs
      → ((i : ℕ) → i < k → Programs N (λ j. in_stage st (at j) was) (lane.block * size_of N img + lane.at) (drop lane.done bs)
      (length img) i)
      → (img' : List ℕ) (n' : Numbers) → img' ≡ laid N lane bs k img → n' ≡ staged st (at k) n
      → Bursts N k img was img' (assemble n' p u f)
  spread st e at start lane bs short full each img' n' wrote moved =
      let h : k ≤ length (drop lane.done bs) = simp length-drop (omega arith) in
      record {
        answers = ap (λ (x : Numbers). answer_in x.phase) moved ∙ sym (ap answer_in e);
        runs = λ m d. ap (λ (x : Record). run_from N (k + m) d (stepped img x)) (sym (own st e (at 0) start))
            ∙ glide N k (λ j. in_stage st (at j) was) (lane.block * size_of N img + lane.at) (drop lane.done bs) (length img) h each img
            refl m d
            ∙ ap₂ (λ (i : List ℕ) (x : Numbers). run_from N m (k + d) (stepped i (assemble x p u f))) (sym wrote) (sym moved);
      }

  -- with no step it stays as it is
  stood : (st : Stage) → n.phase ≡ Busy st → (x : Cursor) → x ≡ c → (img' : List ℕ) (n' : Numbers) → k ≡ 0 → img' ≡ img → n' ≡ staged st x n
      → Bursts N k img was img' (assemble n' p u f)
  stood st e x g img' n' z same moved =
      let r : assemble n' p u f ≡ was = ap (λ (y : Numbers). assemble y p u f) moved ∙ own st e x g in
      subst (λ (y : Record). Bursts N k img was img' y) (sym r) (subst (λ (i : List ℕ). Bursts N k img was i was) (sym same)
      (subst (λ (j : ℕ). Bursts N j img was img was) (sym z) (no_burst N img was)))

  zero_on : (on_by 0 c ≡ c) × (steps_by 0 c ≡ c)
  zero_on = (
    ap₂ (λ (x y : ℕ). cursor c.index x c.id c.source c.size y) (zero-add c.at) (zero-add c.off),
    ap (λ (x : ℕ). cursor x c.at c.id c.source c.size c.off) (zero-add c.index),
  )

  copies_some : n.phase ≡ Busy Copy → Short N (length img) n.rest (copy_lane n) k → k + c.off ≤ length u
      → (img' : List ℕ) (n' : Numbers) → img' ≡ laid N (copy_lane n) u k img → n' ≡ staged Copy (on_by k c) n
      → Bursts N k img was img' (assemble n' p u f)
  copies_some e short full =
      spread Copy e (λ i. on_by i c) zero_on.0 (copy_lane n) u short full (λ i g im l.
      let b : ℕ = n.job.target * size_of N img in
      let room = short.room in
      let inside = short.inside in
      let x : suc (i + c.at) ≡ suc i + c.at = omega arith in
      let y : suc (i + c.off) ≡ suc i + c.off = omega arith in
      let shift : (o : ℕ) → o + (i + c.at) ≡ i + (o + c.at) = λ o. omega arith in (
        refl,
        copy_byte N im was (on_by i c) (size_of N img) (ap (size_in N) l) (ap (λ (z : ℕ). same_shape N z was) l ∙ short.same) short.count
            short.there (omega arith) (omega arith)
            ∙ ap₂ (λ (z w : ℕ). stepped (program_at im z w) (in_stage Copy (next_byte (on_by i c)) was))
            (shift b) (ith u c.off i)
            ∙ ap₂ (λ (z w : ℕ). stepped (program_at im (i + (b + c.at)) (get_or (drop c.off u) i 0))
            (in_stage Copy (cursor c.index z c.id c.source c.size w) was)) x y,
      ))

  appends_some : n.phase ≡ Busy Append → Short N (length img) n.rest (append_lane n) k → k + c.index ≤ length f
      → (img' : List ℕ) (n' : Numbers) → img' ≡ laid N (append_lane n) f k img → n' ≡ staged Append (steps_by k c) n
      → Bursts N k img was img' (assemble n' p u f)
  appends_some e short full =
      spread Append e (λ i. steps_by i c) zero_on.1 (append_lane n) f short full (λ i g im l.
      let b : ℕ = n.rest.block * size_of N img in
      let room = short.room in
      let inside = short.inside in
      let x : suc (i + c.index) ≡ suc i + c.index = omega arith in
      let shift : (o : ℕ) → o + (n.rest.end + (i + c.index)) ≡ i + (o + (n.rest.end + c.index)) = λ o. omega arith in (
        refl,
        append_byte N im was (steps_by i c) (size_of N img) (ap (size_in N) l) (ap (λ (z : ℕ). same_shape N z was) l ∙ short.same) short.count
            short.there (omega arith) (omega arith)
            ∙ ap₂ (λ (z w : ℕ). stepped (program_at im z w) (in_stage Append (next_index (steps_by i c)) was))
            (shift b) (ith f c.index i)
            ∙ ap (λ (z : ℕ). stepped (program_at im (i + (b + (n.rest.end + c.index))) (get_or (drop c.index f) i 0))
            (in_stage Append (cursor z c.at c.id c.source c.size c.off) was)) x,
      ))

  pub copies : n.phase ≡ Busy Copy → (img' : List ℕ) (n' : Numbers) → (0 < k → Short N (length img) n.rest (copy_lane n) k)
      → (0 < k → (img' ≡ laid N (copy_lane n) u k img) × (k + c.off ≤ length u)) → (k ≡ 0 → img' ≡ img) → n' ≡ staged Copy (on_by k c) n
      → Bursts N k img was img' (assemble n' p u f)
  copies e img' n' short wrote none moved =
      by_count k (λ z. stood Copy e (on_by k c) (ap (λ (j : ℕ). on_by j c) z ∙ zero_on.0) img' n' z (none z) moved)
      (λ h. copies_some e (short h) (wrote h).1 img' n' (wrote h).0 moved)

  pub appends : n.phase ≡ Busy Append → (img' : List ℕ) (n' : Numbers) → (0 < k → Short N (length img) n.rest (append_lane n) k)
      → (0 < k → (img' ≡ laid N (append_lane n) f k img) × (k + c.index ≤ length f)) → (k ≡ 0 → img' ≡ img) → n' ≡ staged Append (steps_by k c) n
      → Bursts N k img was img' (assemble n' p u f)
  appends e img' n' short wrote none moved =
      by_count k (λ z. stood Append e (steps_by k c) (ap (λ (j : ℕ). steps_by j c) z ∙ zero_on.1) img' n' z (none z) moved)
      (λ h. appends_some e (short h) (wrote h).1 img' n' (wrote h).0 moved)

-- ---- a run from here

module _ (N : ℕ) (d : Drove) (most steps k : ℕ) (img : List ℕ) (r : Record) (img₁ : List ℕ) (r₁ : Record) (more : steps < most)
    (few : k ≤ most - steps - 1) (from : run_from N (most - steps) steps (stepped img r) ≡ d) (busy : answer_of r ≡ More)
    (burst : Bursts N k img r img₁ r₁) where
  -- some steps at once, then one
  stepping : run_from N (most - (steps + k + 1)) (steps + k + 1) (step_on N img₁ r₁) ≡ d
  stepping =
      let m : ℕ = most - (steps + k + 1) in
      let e : most - steps ≡ k + suc m = omega arith in
      let f : suc (k + steps) ≡ steps + k + 1 = omega arith in
      sym (sym from ∙ ap (λ (i : ℕ). run_from N i steps (stepped img r)) e ∙ burst.runs (suc m) steps
      ∙ run_on N m (k + steps) (stepped img₁ r₁) (burst.answers ∙ busy) ∙ ap (λ (i : ℕ). run_from N m i (step_on N img₁ r₁)) f)

  module _ (s : Stepped) (p u f img₂ : List ℕ) (x : Steps s.answer s.ended (leaves s p u f) img₂ (step_on N img₁ r₁)) where
    pub run_again : s.answer ≡ More
        → (run_from N (most - (steps + (k + 1))) (steps + (k + 1)) (stepped img₂ (assemble s.next p u f)) ≡ d)
        × (answer_in s.next.phase ≡ More)
    run_again e =
        let there : steps + (k + 1) ≡ steps + k + 1 = omega arith in
        let whole : leaves s p u f ≡ assemble s.next p u f = ap (λ (b : Bool). leaves_if b s.next p u f) (x.goes e) in
        let y : Steps More s.ended (leaves s p u f) img₂ (step_on N img₁ r₁) =
        subst (λ (a : Answer). Steps a s.ended (leaves s p u f) img₂ (step_on N img₁ r₁)) e x in
        let z : step_on N img₁ r₁ ≡ stepped img₂ (assemble s.next p u f) =
        more-steps N img₁ r₁ s.ended (leaves s p u f) img₂ y ∙ ap (stepped img₂) whole in (
          ap (λ (j : ℕ). run_from N (most - j) j (stepped img₂ (assemble s.next p u f))) there
              ∙ ap (run_from N (most - (steps + k + 1)) (steps + k + 1)) (sym z) ∙ stepping,
          sym (ap (λ (o : Out). o.answer) z) ∙ sym x.answers ∙ e,
        )

    run_is : (i : ℕ) → ended i (step_on N img₁ r₁) ≡ d → Runs (record { steps = i; stepped = s }) p u f img₂ d
    run_is i e =
        record {
          steps = ap (λ (y : Drove). y.steps) e;
          image = x.image ∙ ap (λ (y : Drove). y.out.image) e;
          answers = x.answers ∙ ap (λ (y : Drove). y.out.answer) e;
          gives = x.gives ∙ ap (λ (y : Drove). y.out.board) e;
        }

    pub run_ends : s.answer ≡ Done → Runs (record { steps = steps + k + 1; stepped = s }) p u f img₂ d
    run_ends e =
        run_is (steps + k + 1) (sym (run-done N (most - (steps + k + 1)) (steps + k + 1) (step_on N img₁ r₁) (sym x.answers ∙ e)) ∙ stepping)

    pub run_stops : (why : Refusal) → s.answer ≡ Refused why → Runs (record { steps = steps + k; stepped = s }) p u f img₂ d
    run_stops why e =
        let f₁ : steps + k ≡ steps + k + 1 - 1 = omega arith in
        run_is (steps + k) (ap (λ (i : ℕ). ended i (step_on N img₁ r₁)) f₁
        ∙ sym (run-refused N (most - (steps + k + 1)) (steps + k + 1) (step_on N img₁ r₁) why (sym x.answers ∙ e)) ∙ stepping)

-- the budget is spent
pub run_spent : (N : ℕ) (d : Drove) (most steps : ℕ) (p u f img : List ℕ) (n : Numbers) → most ≤ steps
    → run_from N (most - steps) steps (stepped img (assemble n p u f)) ≡ d → answer_in n.phase ≡ More
    → Runs (record { steps = steps; stepped = staying More n }) p u f img d
run_spent N d most steps p u f img n spent from busy =
    let z : most - steps ≡ 0 = omega arith in
    let e : ended steps (stepped img (assemble n p u f)) ≡ d =
    sym (run_over N steps (stepped img (assemble n p u f)) busy) ∙ ap (λ (i : ℕ). run_from N i steps (stepped img (assemble n p u f))) (sym z) ∙ from in
    record {
      steps = ap (λ (y : Drove). y.steps) e;
      image = ap (λ (y : Drove). y.out.image) e;
      answers = sym busy ∙ ap (λ (y : Drove). y.out.answer) e;
      gives = ap (λ (y : Drove). y.out.board) e;
    }

-- a record in no job
at-rest : (ph : Phase) → (ph ≡ Unmounted) ⊎ (ph ≡ Idle) → answer_in ph ≡ Done
at-rest ph (inl e) = ap answer_in e
at-rest ph (inr e) = ap answer_in e

pub run_rests : (N most : ℕ) (p u f img : List ℕ) (n : Numbers) → (n.phase ≡ Unmounted) ⊎ (n.phase ≡ Idle)
    → Runs (record { steps = 0; stepped = staying Done n }) p u f img (run_on_of N most img (assemble n p u f))
run_rests N most p u f img n out =
    let rests : answer_in n.phase ≡ Done = at-rest n.phase out in
    let e : ended 0 (stepped img (assemble n p u f)) ≡ run_on_of N most img (assemble n p u f) =
    sym (run-done N most 0 (stepped img (assemble n p u f)) rests) in
    record {
      steps = ap (λ (y : Drove). y.steps) e;
      image = ap (λ (y : Drove). y.out.image) e;
      answers = sym rests ∙ ap (λ (y : Drove). y.out.answer) e;
      gives = ap (λ (y : Drove). y.out.board) e;
    }
