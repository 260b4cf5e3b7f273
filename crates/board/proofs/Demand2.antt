-- Demand 2: every image reads as one store, and every programmed byte of a run lands.
use mathlib.Core.Path.{◌≡◌, refl, sym, ap, subst, ◌∙◌}
use mathlib.Core.List.{List, [], ◌∷◌}
use mathlib.Core.Logic.{◌⊎◌, inl, inr}
use mathlib.Core.Option.{some}
use Prim.Native.Nat.{ℕ, ◌+◌, ◌*◌, ◌≤◌, ◌<◌}
use native.Mathlib.Omega.{arith}
use lib.ListN.{length, get_or, drop, length-take}
use lib.Seq.{get_or-take, get_or-drop}
use Rattle.flash.specs.Bytes.{Bytes}
use Rattle.flash.specs.Flash.{Step, program, erase, apply, apply_all, block, size_of, with_block, write, program_at}
use Rattle.flash.proofs.Image.{length-apply, bytes-apply, block-program}
use Rattle.flash.proofs.Raising.{length_with, bytes_with_lem}
use Rattle.frame.specs.declared.Edition.TheVariants as edition
use Rattle.frame.specs.declared.Host.{Host}
use Rattle.journal.specs.Replay.{state, settled_only}
use Rattle.journal.specs.Block.{Journal, state_at, in_transfer}
use Rattle.journal.proofs.Building as building
use Rattle.wire.specs.declared.Answer.{Answer}
use Rattle.wire.specs.declared.Answer.TheVariants.{Done, More, Refused}
use Rattle.wire.specs.Answer.{number_of}
use Rattle.board.proofs.TablingReads.{never_lost}
use Rattle.board.specs.declared.Phase.{Phase}
use Rattle.board.specs.declared.Phase.TheVariants.{Unmounted, Idle, Busy}
use Rattle.board.specs.declared.Record.{Record}
use Rattle.board.specs.Record.{Out, out, unmounted, answer_of}
use Rattle.board.specs.Step.{step_on, enter_wipe}
use Rattle.board.specs.Mount.{Store, all_found, wipe_list, upkeep, mount_job, mount_on, format_job, format_on, replay_of}
use Rattle.board.specs.Queue.{request_on, Asking, asking}
use Rattle.board.specs.Exec.{Call, request, step, mount, format, exec}
use Rattle.board.specs.Plan.{Follows, format_work, mount_work}
use Rattle.board.specs.Table.{InJob as JobPhase, Fresh, Exactly, request_lines, mount_lines, lines_of}
use Rattle.board.specs.Demand1.{Rests}
use Rattle.board.specs.Book.{Book, enter_call}
use Rattle.board.specs.Claim.{Begins as Restarting, Event, call, cut_erase, CutsErase, Happens}
use Rattle.board.specs.Demand2.{Accepted, Mounts, OneStore, ClosesKind, LandsAt, StepLands as OneLands, EachCall, FromAny, NotStale, UsableFrom, LandsFrom}
use Rattle.board.proofs.Images.{Sized, size-of, sized_of, sized-as, sized-block, length-all-steps, bytes-all-steps}
use Rattle.board.proofs.Invariant.{StepLands, Ready, InJob, Sound}
use Rattle.board.proofs.Outcomes.{format-begins, step-resting}
use Rattle.board.proofs.Current.{After, block-long}
use Rattle.board.proofs.Jobs.{Stepped, job-step, Begun, job-starts, job-begins}
use Rattle.board.proofs.Keeping.{more-busy, ready-idle}
use Rattle.board.proofs.Accepted.{follows-format}
use Rattle.board.proofs.Lengths.{length-format}
use Rattle.board.proofs.Freshness.{ready-fresh}
use Rattle.board.proofs.Answering.{number-accepted, other-number, not-numbered}
use Rattle.board.proofs.Tabling.{request_lines_lem, format_lines}
use Rattle.board.proofs.TablingMounts.{mount_lines_lem}
use Rattle.board.proofs.Refusals.{refusals_untouched, at-most-one-step}
use Rattle.board.proofs.Formatting.{format_lands, format_ends}
use Rattle.board.proofs.Deciding.{Begins, mount-accepted, taken_newest}
use Rattle.board.proofs.Mounting.{mount_performs, in_time-at, mount_lands, mount_ends, mount_short, mount_erases}
use Rattle.board.proofs.Planning.{job_of, convert_of, Met, refused, done, begun, converting, request_met, frame_begins, convert_job_begins}

-- ---- one store

module _ {N : ℕ} {s : ℕ} {img : List ℕ} (z : Sized N s img) (by : Bytes img) (y : Begins N s img) where
  abbrev x : Store
  x = y.store

  abbrev last : Record
  last = (mount_work N img x).last

  abbrev job : Record
  job = enter_wipe (mount_job N img x (wipe_list x.number (all_found N img)) (upkeep (size_of N img) x))

  mount_follows : Follows N (exec N) img job (mount_work N img x).steps last
  mount_follows =
      mount_performs x z by y.taken.there y.holds

  after : After N s x.journal.edition (apply_all s (mount_work N img x).steps img) last (settled_only (replay_of x.journal))
  after = mount_ends x z by y.taken.there y.holds (in_time-at y.store z y.in_time)

  -- the job is begun, or there is none
  mount_begun : Begun N s (StepLands s) (Ready N s) img job
  mount_begun =
      job-begins img job (mount_work N img x).steps last mount_follows
      (mount_lands x z by y.taken.there y.holds (in_time-at y.store z y.in_time)) after.ready (ready-idle after.ready)

pub one_store : (N : ℕ) → OneStore N (exec N)
unfolding OneStore
one_store N img r by ok a =
    let s : ℕ = size_of N img in
    let z : Sized N s img = sized_of N img ok in
    let y : Begins N s img = mount-accepted z by a in
    let x : Store = y.store in
    let after-image : List ℕ = apply_all s (mount_work N img x).steps img in
    let e : After N s x.journal.edition (apply_all s (mount_work N img x).steps img) (last z by y) (settled_only (replay_of x.journal)) = after z by y in
    subst (Mounts N (exec N) img) (sym y.begins)
    (record {
      store = x;
      there = y.taken.there;
      is-valid = y.taken.is-valid;
      newest = taken_newest z y.taken;
      follows = mount_follows z by y;
      short = mount_short x z by y.taken.there y.holds (in_time-at y.store z y.in_time);
      erases = mount_erases x z by y.taken.there y.holds (in_time-at y.store z y.in_time);
      holding = e.ready.journal;
      is_fresh = ready-fresh (sized-as after-image (length-all-steps s (mount_work N img x).steps img) z)
          (bytes-all-steps s (mount_work N img x).steps img by) e.ready;
      holds = e.state;
    })

-- ---- a step that lands in its block lands in the image

lands-at : (s : ℕ) (x : Step) (img : List ℕ) → StepLands s x img → LandsAt s x img
lands-at s (erase k) img y = tt
lands-at s (program k o v) img y =
    let n : length (block s k img) ≤ s = omega (arith, length-take s (drop (k * s) img)) in
    let h : o < s = omega (arith, y.inside) in
    let same : (i : List ℕ) → get_or (block s k i) o 0 ≡ get_or i (k * s + o) 0 = λ i. get_or-take s (drop (k * s) i) o 0 h ∙ get_or-drop (k * s) i o 0 in
    (over (same img) y.before, sym (same (program_at img (k * s + o) v)) ∙ ap (λ (l : List ℕ). get_or l o 0) (block-program s k o v img h) ∙ y.after)
  where
    Was : Type 0 → ℕ → Type 0
    Was C b = (b ≡ 255) ⊎ (((o ≡ state_at) × (b ≡ in_transfer)) ⊎ C)

    over : {a b : ℕ} → a ≡ b → Was (building.ClosesKind (block s k img) (write o v)) a → Was (ClosesKind s k o v img) b
    over e (inl w) = inl (sym e ∙ w)
    over e (inr (inl (p, w))) = inr (inl (p, sym e ∙ w))
    over e (inr (inr c)) =
        inr (inr (record {
          journal = c.journal;
          long = c.long;
          is-valid = c.is-valid;
          is-torn = c.is-torn;
          at_kind = c.at_kind;
          to_zero = c.to_zero;
        }))

-- ---- what holds between calls, whatever the image was

pub record Steady (N : ℕ) (s : ℕ) (img : List ℕ) (r : Record) : Type 0 where
  pub sized : Sized N s img
  pub bytes : Bytes img
  pub phase : Sound N r.phase s img r

module _ {N : ℕ} {s : ℕ} {img : List ℕ} (z : Sized N s img) (by : Bytes img) where
  steady_unmounted : (r : Record) → r.phase ≡ Unmounted → Steady N s img r
  steady_unmounted r e = record { sized = z; bytes = by; phase = subst (λ (p : Phase). Sound N p s img r) (sym e) tt }

  pub steady_idle : (r : Record) → Ready N s img r → Steady N s img r
  steady_idle r y = record { sized = z; bytes = by; phase = subst (λ (p : Phase). Sound N p s img r) (sym (ready-idle y)) y }

  steady_busy : (r : Record) → answer_of r ≡ More → InJob N s (StepLands s) (Ready N s) img r → Steady N s img r
  steady_busy r e j = record { sized = z; bytes = by; phase = subst (λ (p : Phase). Sound N p s img r) (sym (more-busy r.phase e).is) j }

  steady_begun : (r : Record) → Begun N s (StepLands s) (Ready N s) img r → Steady N s img r
  steady_begun r (inl (e, j)) = steady_busy r e j
  steady_begun r (inr (e, y)) = steady_idle r y

-- ---- a request

abbrev Kept : ℕ → ℕ → Out → Type 0
Kept N s o = Steady N s o.image o.board

pub request-kept : {N : ℕ} {s : ℕ} {img : List ℕ} {r : Record} → Steady N s img r → (h : Host) (m reply : List ℕ) → Bytes m
    → Kept N s (request_on (asking N img r h m reply))
request-kept {N} {s} {img} {r} v h m reply bm = go (request_met a)
  where
    a : Asking
    a = asking N img r h m reply

    go : Met a (request_on a) → Kept N s (request_on a)
    go (refused n p) = subst (Kept N s) (sym p) v
    go (done d i b) = subst (λ (l : List ℕ). Steady N s l (request_on a).board) (sym i) (subst (Steady N s img) (sym b) v)
    go (begun y p) =
        let j = frame_begins v.sized v.bytes bm y in
        subst (Kept N s) (sym p) (steady_busy v.sized v.bytes (job_of y) j.0 j.1)
    go (converting y p) =
        let j = convert_job_begins v.sized v.bytes y in
        subst (Kept N s) (sym p) (steady_busy v.sized v.bytes (convert_of y) j.0 j.1)

-- ---- a step

abbrev StepDone : ℕ → ℕ → List ℕ → Out → Type 0
StepDone N s img o = OneLands N img o × Kept N s o

pub step_done : {N : ℕ} {s : ℕ} {img : List ℕ} {r : Record} → Steady N s img r → StepDone N s img (step_on N img r)
step_done {N} {s} {img} {r} v = go r.phase refl v.phase
  where
    rests : Rests r.phase → StepDone N s img (step_on N img r)
    rests h = subst (StepDone N s img) (sym (step-resting N img r h)) (inl refl, v)

    go : (p : Phase) → r.phase ≡ p → Sound N p s img r → StepDone N s img (step_on N img r)
    go Unmounted e y = rests (subst Rests (sym e) tt)
    go Idle e y = rests (subst Rests (sym e) tt)
    go (Busy g) e j =
        let y : Stepped N s (StepLands s) (Ready N s) img r = job-step v.sized j in
        let i : List ℕ = apply s y.does img in
        subst (StepDone N s img) (sym y.gives) (
          subst (λ (n : ℕ). OneLands N img (out (answer_of y.next) (apply n y.does img) y.next [])) (size-of v.sized)
              (inr (y.does, refl, subst (λ (n : ℕ). LandsAt n y.does img) (sym (size-of v.sized)) (lands-at s y.does img y.holds))),
          steady_begun (sized-as i (length-apply s y.does img) v.sized) (bytes-apply s y.does img v.bytes) y.next y.then,
        )

-- ---- mount and format

mount-kept : {N : ℕ} {s : ℕ} {img : List ℕ} → Sized N s img → Bytes img → Steady N s img (mount_on N img).board
mount-kept {N} {s} {img} z by = go (mount_on N img).answer refl
  where
    goes : (a : Answer) → (mount_on N img).answer ≡ a → Accepted a → Steady N s img (mount_on N img).board
    goes a e f =
        let y : Begins N s img = mount-accepted z by (subst Accepted (sym e) f) in
        subst (λ (o : Out). Steady N s img o.board) (sym y.begins) (steady_begun z by (job z by y) (mount_begun z by y))

    go : (a : Answer) → (mount_on N img).answer ≡ a → Steady N s img (mount_on N img).board
    go Done e = goes Done e tt
    go More e = goes More e tt
    go (Refused n) e =
        subst (λ (o : Out). Steady N s img o.board) (sym (refusals_untouched N img unmounted mount n e)) (steady_unmounted z by unmounted refl)

format-kept : {N : ℕ} {s : ℕ} {img : List ℕ} → Sized N s img → Bytes img → Steady N s img (format_on N img).board
format-kept {N} {s} {img} z by =
    let a : After N s edition.First (apply_all s (format_work N img).steps img) (format_work N img).last (state [] []) = format_ends z in
    let j : (answer_of (enter_wipe (format_job N img)) ≡ More) × InJob N s (StepLands s) (Ready N s) img (enter_wipe (format_job N img)) =
    job-starts img (enter_wipe (format_job N img)) (format_work N img).steps (format_work N img).last (follows-format N img z.ok)
    (omega (arith, length-format N img)) (format_lands z) a.ready (ready-idle a.ready) in
    subst (λ (o : Out). Steady N s img o.board) (sym (format-begins N img z.ok)) (steady_busy z by (enter_wipe (format_job N img)) j.0 j.1)

-- ---- every call

-- only a step changes the image
same-image : {N : ℕ} {s : ℕ} {img : List ℕ} (o : Out) → o.image ≡ img → Steady N s img o.board → Kept N s o
same-image {N} {s} o e v = subst (λ (l : List ℕ). Steady N s l o.board) (sym e) v

-- a mount or a format
pub begun_kept : {N : ℕ} {s : ℕ} {img : List ℕ} (r : Record) → Sized N s img → Bytes img → (c : Call) → Restarting c
    → ((exec N img r c).image ≡ img) × Kept N s (exec N img r c)
begun_kept r z by (request h m reply) n = absurd n
begun_kept r z by step n = absurd n
begun_kept {N} {s} {img} r z by mount n =
    let e : (mount_on N img).image ≡ img = at-most-one-step N img r mount in (e, same-image (mount_on N img) e (mount-kept z by))
begun_kept {N} {s} {img} r z by format n =
    let e : (format_on N img).image ≡ img = at-most-one-step N img r format in (e, same-image (format_on N img) e (format-kept z by))

-- power lost inside an erase
cut-sized : {N : ℕ} {s : ℕ} {img : List ℕ} {r : Record} {b : Book} (k : ℕ) (new : List ℕ) → Steady N s img r → CutsErase N (exec N) img r b k new
    → Sized N s (with_block (size_of N img) k new img)
cut-sized {N} {s} {img} k new v c =
    let z : Sized N s img = v.sized in
    let long : length new ≡ s = c.raised.long ∙ ap (λ (n : ℕ). length (block n k img)) (size-of z) ∙ block-long k z c.there in
    subst (λ (n : ℕ). Sized N s (with_block n k new img)) (sym (size-of z))
    (sized-as (with_block s k new img) (length_with s k new img (sized-block k z c.there) long) z)

-- ---- no call gets 11

request-fits : {N : ℕ} {s : ℕ} {img : List ℕ} {r : Record} → Steady N s img r → (h : Host) (m reply : List ℕ) → NotStale (request_on (asking N img r h m reply))
request-fits {N} {s} {img} {r} v h m reply e = go (request_lines_lem (asking N img r h m reply) v.bytes)
  where
    a : Answer
    a = (request_on (asking N img r h m reply)).answer

    fits : (p : Phase) → Sound N p s img r → (JobPhase p → ⊥) → (p ≡ Unmounted → ⊥) → ((x : Journal) → Fresh N img r x → ⊥) → ⊥
    fits Unmounted y j u f = u refl
    fits Idle y j u f = f y.journal (ready-fresh v.sized v.bytes y)
    fits (Busy g) y j u f = j tt

    go : Exactly (request_lines (asking N img r h m reply)) a → ⊥
    go (inl (_, f)) = other-number a 4 11 (omega arith) f e
    go (inr (_, inl (_, f))) = other-number a 10 11 (omega arith) f e
    go (inr (_, inr (_, inl (_, f)))) = other-number a 5 11 (omega arith) f e
    go (inr (_, inr (_, inr (_, inl (_, f))))) = other-number a 2 11 (omega arith) f e
    go (inr (_, inr (_, inr (u, inr (w, inl (f, _)))))) = fits r.phase v.phase u w f.1
    go (inr (_, inr (_, inr (_, inr (_, inr (_, inl (_, f))))))) = other-number a 1 11 (omega arith) f e
    go (inr (_, inr (_, inr (u, inr (w, inr (_, inr (_, inl (l, _)))))))) =
        fits r.phase v.phase u w (λ x y. never_lost (asking N img r h m reply) x v.bytes v.sized.ok y l)
    go (inr (_, inr (_, inr (_, inr (_, inr (_, inr (_, inr (_, x)))))))) =
        not-numbered 10 (drop 7 (request_lines (asking N img r h m reply))) a (omega arith) x e

step_fits : {N : ℕ} {s : ℕ} {img : List ℕ} {r : Record} → Steady N s img r → NotStale (step_on N img r)
step_fits {N} {s} {img} {r} v = go r.phase refl v.phase
  where
    taken : (b : Answer) → (b ≡ More) ⊎ (b ≡ Done) → number_of b ≡ some 11 → ⊥
    taken b (inl e) f = number-accepted b 10 f (subst Accepted (sym e) tt)
    taken b (inr e) f = number-accepted b 10 f (subst Accepted (sym e) tt)

    rests : Rests r.phase → NotStale (step_on N img r)
    rests h = taken (step_on N img r).answer (inr (ap (λ (o : Out). o.answer) (step-resting N img r h)))

    go : (p : Phase) → r.phase ≡ p → Sound N p s img r → NotStale (step_on N img r)
    go Unmounted e y = rests (subst Rests (sym e) tt)
    go Idle e y = rests (subst Rests (sym e) tt)
    go (Busy g) e j =
        let y : Stepped N s (StepLands s) (Ready N s) img r = job-step v.sized j in
        taken (step_on N img r).answer (then (ap (λ (o : Out). o.answer) y.gives) y.then)
      where
        then : {b d : Answer} {P Q : Type 0} → b ≡ d → ((d ≡ More) × P) ⊎ ((d ≡ Done) × Q) → (b ≡ More) ⊎ (b ≡ Done)
        then e (inl (f, _)) = inl (e ∙ f)
        then e (inr (f, _)) = inr (e ∙ f)

begun-fits : (N : ℕ) (img : List ℕ) (r : Record) → Bytes img → (c : Call) → Restarting c → NotStale (exec N img r c)
begun-fits N img r by (request h m reply) n = absurd n
begun-fits N img r by step n = absurd n
begun-fits N img r by mount n = not-numbered 10 (mount_lines N img) (mount_on N img).answer (omega arith) (mount_lines_lem img by)
begun-fits N img r by format n = not-numbered 10 (lines_of N img r format) (format_on N img).answer (omega arith) (format_lines img r)

-- ---- every run

-- of each call: it does a step that lands or none, and does not get 11
abbrev Fine : ℕ → List ℕ → Out → Type 0
Fine N img o = OneLands N img o × NotStale o

all_fine : {N : ℕ} {s : ℕ} {img : List ℕ} {r : Record} (b : Book) → Steady N s img r → (es : List Event) → Happens N (exec N) img r b es
    → EachCall N (exec N) (Fine N) img r es
all_fine b v [] h = tt
all_fine {N} {s} {img} {r} b v (call (request g m reply) ∷ es) (bm, h) =
    let c : Call = request g m reply in
    ((inl (at-most-one-step N img r c), request-fits v g m reply), all_fine {img = (exec N img r c).image} {r = (exec N img r c).board} (enter_call b c (exec N img r c).answer) (request-kept v g m reply bm) es h)
all_fine {N} {s} {img} {r} b v (call step ∷ es) (_, h) =
    let y = step_done v in ((y.0, step_fits v), all_fine {img = (exec N img r step).image} {r = (exec N img r step).board} (enter_call b step (exec N img r step).answer) y.1 es h)
all_fine {N} {s} {img} {r} b v (call mount ∷ es) (_, h) =
    let y = begun_kept r v.sized v.bytes mount tt in
    ((inl y.0, begun-fits N img r v.bytes mount tt), all_fine {img = (exec N img r mount).image} {r = (exec N img r mount).board} (enter_call b mount (exec N img r mount).answer) y.1 es h)
all_fine {N} {s} {img} {r} b v (call format ∷ es) (_, h) =
    let y = begun_kept r v.sized v.bytes format tt in
    ((inl y.0, begun-fits N img r v.bytes format tt), all_fine {img = (exec N img r format).image} {r = (exec N img r format).board} (enter_call b format (exec N img r format).answer) y.1 es h)
all_fine b v (cut_erase k new q ∷ []) h = tt
all_fine {N} {s} {img} b v (cut_erase k new q ∷ call c ∷ es) (x, n, (_, h)) =
    let i : List ℕ = with_block (size_of N img) k new img in
    let by : Bytes i = bytes_with_lem (size_of N img) k new img x.raised.bytes v.bytes in
    let y = begun_kept q (cut-sized k new v x) by c n in
    ((inl y.0, begun-fits N i q by c n), all_fine {img = (exec N i q c).image} {r = (exec N i q c).board} (enter_call b c (exec N i q c).answer) y.1 es h)
all_fine b v (cut_erase k new q ∷ cut_erase j more p ∷ es) (x, n, h) = absurd n

module _ (N : ℕ) (P : List ℕ → Out → Type 0) (f : (img : List ℕ) (o : Out) → Fine N img o → P img o) where
  each_as : (img : List ℕ) (r : Record) (es : List Event) → EachCall N (exec N) (Fine N) img r es → EachCall N (exec N) P img r es
  each_as img r [] y = tt
  each_as img r (call c ∷ es) (y, z) = (f img (exec N img r c) y, each_as (exec N img r c).image (exec N img r c).board es z)
  each_as img r (cut_erase k new q ∷ es) y = each_as (with_block (size_of N img) k new img) q es y

  from_any : FromAny N (exec N) P
  from_any =
      record {
        from_mount = λ img r b es by ok h. each_as img (mount_on N img).board es (all_fine b (mount-kept (sized_of N img ok) by) es h);
        from_format = λ img r b es by ok h. each_as img (format_on N img).board es (all_fine b (format-kept (sized_of N img ok) by) es h);
      }

pub lands-from : (N : ℕ) → LandsFrom N (exec N)
lands-from N = from_any N (OneLands N) (λ img o y. y.0)

pub usable-from : (N : ℕ) → UsableFrom N (exec N)
usable-from N = from_any N (λ img o. NotStale o) (λ img o y. y.1)
