-- The machine's answers tell its record; steps, mounts and formats have no reply and no stretch.
use mathlib.Core.Path.{◌≡◌, refl, sym, ap, subst, ◌∙◌}
use mathlib.Core.List.{List, [], ◌∷◌}
use mathlib.Core.Option.{Option, none, some}
use mathlib.Core.Bool.{Bool, true, false, ◌&&◌, cond}
use Prim.Native.Nat.{ℕ, suc}
use native.Mathlib.Omega.{arith}
use lib.Dec.{eqb, ltb, leb}
use lib.ListN.{length}
use Rattle.flash.specs.Flash.{apply, block, size_of, within}
use Rattle.flash.proofs.Cases.{on_test}
use Rattle.frame.specs.Frame.{host_max}
use Rattle.journal.specs.Block.{last_time, mark_writes}
use Rattle.journal.specs.Index.{Load, next_load_of}
use Rattle.wire.specs.declared.Answer.TheVariants.{Done, More}
use Rattle.wire.specs.declared.Refusal.{Refusal}
use Rattle.wire.specs.declared.Refusal.TheVariants as refusal
use Rattle.wire.specs.Answer.{number_of}
use Rattle.board.specs.declared.Stage.{Stage}
use Rattle.board.specs.declared.Stage.TheVariants.{Wipe, Open, Copy, Seal, Drop, Append, Close}
use Rattle.board.specs.declared.Phase.{Phase}
use Rattle.board.specs.declared.Phase.TheVariants.{Unmounted, Idle, Busy}
use Rattle.board.specs.declared.Record.{Record}
use Rattle.board.specs.Record.{allowed, idle, in_stage, no_stretch, Out, out, refuse, answer_in, answer_of, reads_in}
use Rattle.board.specs.Step.{same_shape, enter, landed, load_or, enter_append, enter_drop, enter_copy, enter_close, enter_open, enter_wipe, action, next_index}
use Rattle.board.specs.Step.{next_byte, past_frame, advance, step_on}
use Rattle.board.specs.Mount.{all_found, Store, stores, equal_times, newest, upkeep, transfers, wipe_list, mount_job, time_of}
use Rattle.board.specs.Mount.{none_valid, lowest_tied, tied_times, mount_at, mount_on, format_job, format_on}
use Rattle.board.specs.Queue.{Asking, asking, refuse_to, request_on}
use Rattle.board.specs.Exec.{Call, request, step, mount, format, exec}
use Rattle.board.specs.Demand1.{Rests}
use Rattle.board.specs.Demand2.{Accepted}
use Rattle.board.specs.Table.{InJob}
use Rattle.board.specs.Promise.{NoStep, Tells, Silent}
use Rattle.board.proofs.Outcomes.{request_length, request_host, request-in, mount-length, mount_none, mount_equal, mount-at, mount_worn, mount-begins}
use Rattle.board.proofs.Outcomes.{format-length, format-begins, step-resting, step-outside, step-goes}
use Rattle.board.proofs.Planning.{Met, refused, done, begun, converting, request_met}

-- ---- a job leads to a record that is mounted

abbrev Mounted : Phase → Type 0
Mounted Unmounted = ⊥
Mounted Idle = Unit {0}
Mounted (Busy s) = Unit {0}

abbrev Up : Record → Type 0
Up r = Mounted r.phase

up-cond : (b : Bool) (x y : Record) → Up x → Up y → Up (cond b x y)
up-cond true x y a c = a
up-cond false x y a c = c

up-append : (r : Record) → Up (enter_append r)
unfolding enter_append
up-append r = up-cond (ltb 0 r.job.size) (enter Append r) (idle r.places r.rest) tt tt

up-drop : (r : Record) → Up (enter_drop r)
unfolding enter_drop
up-drop r = up-cond r.job.drops (enter Drop r) (enter_append (landed r)) tt (up-append (landed r))

up-load : (r : Record) (u : Option Load) → Up (load_or r u)
up-load r none = tt
up-load r (some u) = tt

up-copy : (N : ℕ) (img : List ℕ) (r : Record) → Up (enter_copy N img r)
unfolding enter_copy
up-copy N img r =
    up-load r
    (next_load_of (reads_in r) (block (size_of N img) r.rest.block img) r.rest.end r.places r.job.since r.cursor.id r.cursor.source)

up-close : (r : Record) → Up (enter_close r)
unfolding enter_close
up-close r = up-cond (ltb 0 r.job.closes) (enter Close r) (enter_append r) tt (up-append r)

up_open : (r : Record) → Up (enter_open r)
unfolding enter_open
up_open r = up-cond r.job.moves (enter Open r) (enter_close r) tt (up-close r)

up-wipe : (r : Record) → Up (enter_wipe r)
unfolding enter_wipe
up-wipe r = up-cond (ltb 0 r.job.wipes) (enter Wipe r) (enter_open r) tt (up_open r)

up-advance : (N : ℕ) (s : Stage) (img : List ℕ) (r : Record) → Up (advance N s img r)
unfolding advance
up-advance N Wipe img r = up-cond (ltb (suc r.cursor.index) r.job.wipes) (in_stage Wipe (next_index r.cursor) r) (enter_open r) tt (up_open r)
up-advance N Open img r = up-cond (ltb (suc r.cursor.index) mark_writes) (in_stage Open (next_index r.cursor) r) (enter_copy N img r) tt (up-copy N img r)
up-advance N Copy img r =
    up-cond (ltb (suc r.cursor.off) r.cursor.size) (in_stage Copy (next_byte r.cursor) r)
    (enter_copy N img (in_stage Copy (past_frame r.cursor) r)) tt (up-copy N img (in_stage Copy (past_frame r.cursor) r))
up-advance N Seal img r = up-cond (ltb (suc r.cursor.index) mark_writes) (in_stage Seal (next_index r.cursor) r) (enter_drop r) tt (up-drop r)
up-advance N Drop img r = up-append (landed r)
up-advance N Append img r = up-cond (ltb (suc r.cursor.index) r.job.size) (in_stage Append (next_index r.cursor) r) _ tt tt
up-advance N Close img r = up-cond (ltb (suc r.cursor.index) r.job.closes) (in_stage Close (next_index r.cursor) r) (enter_append r) tt (up-append r)

-- ---- outcomes

tells-of : (o : Out) (p : Phase) → o.board.phase ≡ p → o.answer ≡ answer_in p → Mounted p → Tells o
tells-of o Unmounted e a u = absurd u
tells-of o Idle e a u =
    record {
      done = ((λ _. e), (λ _. ap number_of a));
      more = ((λ f. let w : Done ≡ More = sym a ∙ f in let z : ◌≡◌ {A = ℕ} 0 1 = cc in absurd (omega arith)), (λ j. absurd (subst InJob e j)));
    }
tells-of o (Busy s) e a u =
    record {
      done = (
        (λ f. let w : ◌≡◌ {A = Option ℕ} none (some 0) = sym (ap number_of a) ∙ f in let z : ◌≡◌ {A = ℕ} 0 1 = cc in absurd (omega arith)),
        (λ f. let w : Busy s ≡ Idle = sym e ∙ f in let z : ◌≡◌ {A = ℕ} 0 1 = cc in absurd (omega arith)),
      );
      more = ((λ _. subst InJob (sym e) tt), (λ _. a));
    }

tells-begun : {o : Out} (img reply : List ℕ) (g : Record) → Up g → o ≡ out (answer_of g) img g reply → Tells o
tells-begun img reply g u e = subst Tells (sym e) (tells-of (out (answer_of g) img g reply) g.phase refl refl u)

-- what an outcome without reply and stretch is
data Plain (o : Out) : Type 0 where
  refused_plain : (n : Refusal) (img : List ℕ) (r : Record) → o ≡ refuse n img r [] → Plain o
  begun_plain : (img : List ℕ) (g : Record) → Up g → o ≡ out (answer_of g) img g [] → Plain o

plain-tells : (o : Out) → Plain o → Accepted o.answer → Tells o
plain-tells o (refused_plain n img r e) a = absurd (subst Accepted (ap (λ (x : Out). x.answer) e) a)
plain-tells o (begun_plain img g u e) a = tells-begun img [] g u e

plain-silent : {o : Out} → Plain o → (o.reply ≡ []) × (o.stretch ≡ no_stretch)
plain-silent (refused_plain n img r e) = (ap (λ (x : Out). x.reply) e, ap (λ (x : Out). x.stretch) e)
plain-silent (begun_plain img g u e) = (ap (λ (x : Out). x.reply) e, ap (λ (x : Out). x.stretch) e)

-- ---- mount and format

at_plain : (N : ℕ) (img : List ℕ) (x : Store) → Plain (mount_at N img (all_found N img) x)
at_plain N img x =
    on_test (transfers (upkeep (size_of N img) x) && eqb (time_of x) last_time)
    (λ t. refused_plain refusal.Worn img _ (mount_worn N img (all_found N img) x t))
    (λ t. let j : Record = mount_job N img x (wipe_list x.number (all_found N img)) (upkeep (size_of N img) x) in
    begun_plain img (enter_wipe j) (up-wipe j) (mount-begins N img (all_found N img) x t))

mount-plain : (N : ℕ) (img : List ℕ) → Plain (mount_on N img)
mount-plain N img =
    on_test (allowed N (length img))
    (λ a. go a (stores (all_found N img)) refl)
    (λ a. refused_plain refusal.ImageLength img _ (mount-length N img a))
  where
    go : allowed N (length img) ≡ true → (xs : List Store) → stores (all_found N img) ≡ xs → Plain (mount_on N img)
    go a [] e = refused_plain (none_valid (all_found N img)) img _ (mount_none N img a e)
    go a (y ∷ ys) e =
        on_test (equal_times (y ∷ ys))
        (λ q. refused_plain (tied_times (lowest_tied (y ∷ ys))) img _ (mount_equal N img a y ys e q))
        (λ q. subst Plain (sym (mount-at N img a y ys e q)) (at_plain N img (newest y ys)))

format-plain : (N : ℕ) (img : List ℕ) → Plain (format_on N img)
format-plain N img =
    on_test (allowed N (length img))
    (λ a. begun_plain img (enter_wipe (format_job N img)) (up-wipe (format_job N img)) (format-begins N img a))
    (λ a. refused_plain refusal.ImageLength img _ (format-length N img a))

-- ---- steps

step-plain : (N : ℕ) (img : List ℕ) (r : Record) (s : Stage) → r.phase ≡ Busy s → Plain (step_on N img r)
step-plain N img r s e =
    on_test (same_shape N (length img) r && within N (size_of N img) (action s r))
    (λ t. let after : List ℕ = apply (size_of N img) (action s r) img in
    begun_plain after (advance N s after r) (up-advance N s after r) (step-goes N img r s e t))
    (λ t. refused_plain refusal.Stale img r (step-outside N img r s e t))

step-told : (N : ℕ) (img : List ℕ) (r : Record) → (r.phase ≡ Unmounted → ⊥) → Accepted (step_on N img r).answer → Tells (step_on N img r)
step-told N img r n a = go r.phase refl
  where
    go : (p : Phase) → r.phase ≡ p → Tells (step_on N img r)
    go Unmounted e = absurd (n e)
    go Idle e = subst Tells (sym (step-resting N img r (subst Rests (sym e) tt))) (tells-of (out Done img r []) Idle e refl tt)
    go (Busy s) e = plain-tells (step_on N img r) (step-plain N img r s e) a

step-silent : (N : ℕ) (img : List ℕ) (r : Record) → ((step_on N img r).reply ≡ []) × ((step_on N img r).stretch ≡ no_stretch)
step-silent N img r = go r.phase refl
  where
    rested : Rests r.phase → ((step_on N img r).reply ≡ []) × ((step_on N img r).stretch ≡ no_stretch)
    rested h = (ap (λ (x : Out). x.reply) (step-resting N img r h), ap (λ (x : Out). x.stretch) (step-resting N img r h))

    go : (p : Phase) → r.phase ≡ p → ((step_on N img r).reply ≡ []) × ((step_on N img r).stretch ≡ no_stretch)
    go Unmounted e = rested (subst Rests (sym e) tt)
    go Idle e = rested (subst Rests (sym e) tt)
    go (Busy s) e = plain-silent (step-plain N img r s e)

-- ---- requests

request-told : (a : Asking) → Accepted (request_on a).answer → Tells (request_on a)
request-told a t = go (request_met a) a.board.phase refl
  where
    o : Out
    o = request_on a

    turned : (n : Refusal) → o ≡ refuse_to a n → Tells o
    turned n e = absurd (subst Accepted (ap (λ (x : Out). x.answer) e) t)

    past : (allowed a.blocks (length a.image) ≡ true → leb a.host.0 host_max ≡ true → Tells o) → Tells o
    past f =
        on_test (allowed a.blocks (length a.image))
        (λ ok. on_test (leb a.host.0 host_max) (f ok) (λ k. turned refusal.HostRange (request_host a ok k)))
        (λ no. turned refusal.ImageLength (request_length a no))

    go : Met a o → (p : Phase) → a.board.phase ≡ p → Tells o
    go (refused n e) p q = turned n e
    go (begun y e) p q = tells-begun a.image a.reply _ (up-wipe _) e
    go (converting y e) p q = tells-begun a.image a.reply _ (up-wipe _) e
    go (done d i b) (Busy s) q = past (λ ok k. turned refusal.Busy (request-in a ok k q))
    go (done d i b) Unmounted q = past (λ ok k. turned refusal.NoStore (request-in a ok k q))
    go (done d i b) Idle q = tells-of o Idle (ap (λ (x : Record). x.phase) b ∙ q) d tt

-- ---- every call

pub told : (N : ℕ) (img : List ℕ) (r : Record) (c : Call) → Accepted (exec N img r c).answer → (r.phase ≡ Unmounted → NoStep c) → Tells (exec N img r c)
told N img r (request h m reply) a n = request-told (asking N img r h m reply) a
told N img r step a n = step-told N img r n a
told N img r mount a n = plain-tells (mount_on N img) (mount-plain N img) a
told N img r format a n = plain-tells (format_on N img) (format-plain N img) a

pub silent : (N : ℕ) (img : List ℕ) (r : Record) (c : Call) → Silent c (exec N img r c)
silent N img r (request h m reply) = tt
silent N img r step = step-silent N img r
silent N img r mount = plain-silent (mount-plain N img)
silent N img r format = plain-silent (format-plain N img)
