-- A job of a machine that keeps the clauses can be finished, in so many steps as the call that began it may take.
use mathlib.Core.Path.{◌≡◌, refl, sym, ap, subst, ◌∙◌}
use mathlib.Core.List.{List, [], ◌∷◌}
use mathlib.Core.Option.{Option, none, some}
use Prim.Native.Nat.{ℕ}
use native.Mathlib.Omega.{arith}
use Rattle.flash.specs.Bytes.{Bytes}
use Rattle.flash.specs.Flash.{size_in, Step, program, erase, apply, size_of}
use Rattle.flash.proofs.Image.{length-apply}
use Rattle.frame.specs.declared.Host.{Host}
use Rattle.journal.specs.Block.{Journal}
use Rattle.wire.specs.declared.Answer.{Answer}
use Rattle.wire.specs.declared.Answer.TheVariants.{Done, More, Refused}
use Rattle.wire.specs.declared.Refusal.{Refusal}
use Rattle.wire.specs.Answer.{number_of}
use Rattle.board.specs.declared.Phase.{Phase}
use Rattle.board.specs.declared.Phase.TheVariants.{Unmounted, Idle, Busy}
use Rattle.board.specs.declared.Record.{Record}
use Rattle.board.specs.Record.{Out}
use Rattle.board.specs.Mount.{Store}
use Rattle.board.specs.Exec.{Machine, Call, request, step, mount, format}
use Rattle.board.specs.Plan.{Follows, programs, Work, format_work, mount_work, frame_work, convert_work}
use Rattle.board.specs.Table.{Task, idles, appends, converts, task_for, InJob}
use Rattle.board.specs.Demand1.{Unchanged, Short, Rests}
use Rattle.board.specs.Demand2.{Accepted}
use Rattle.board.specs.Claim.{Finishes, begun_by, ByteCall, Begins}
use Rattle.board.specs.Promise.{Answers, Job, frame_job, mount-job, format-job, Calls, convert-job}
use Rattle.board.proofs.TablingMounts.{Mountable}
use Rattle.board.proofs.Determining.{job-idle, Asked, mount_takes, more_asks}

-- if the record is in a job, which call a began
abbrev pub Ends : ℕ → Machine → Call → List ℕ → Record → Type 0
Ends N m a img r = InJob r.phase → Finishes N m a img r

short-rest : (N s : ℕ) (x : Step) (xs : List Step) (c : Call) → Short N s (x ∷ xs) c → Short N s xs c
unfolding programs
short-rest N s x xs (request h msg reply) l = omega arith
short-rest N s x xs step l = omega arith
short-rest N s (program k o v) xs mount (l, e) = (omega arith, omega arith)
short-rest N s (erase k) xs mount (l, e) = (l, omega arith)
short-rest N s x xs format l = omega arith

pub idle-ends : {N : ℕ} {m : Machine} {a : Call} {img : List ℕ} {r : Record} → r.phase ≡ Idle → Ends N m a img r
idle-ends e j = absurd (subst InJob e j)

module _ {N : ℕ} {m : Machine} (p : Calls N m) (img : List ℕ) (by : Bytes img) where
  -- the job of an accepted call
  job_finishes : (r : Record) (c : Call) (w : Work) → ByteCall c → Job N img r c w → Accepted (m img r c).answer
      → (m img r c).image ≡ img → Finishes N m c (m img r c).image (m img r c).board
  job_finishes r c w bc j a i =
      let f = p.jobs img r c w by bc j a in
      subst (λ (l : List ℕ). Finishes N m c l (m img r c).board) (sym i) (record { work = w; follows = f.0; rests = job-idle j; short = f.1 })

  -- of a request that is answered more
  request_ends : (r : Record) (h : Host) (msg reply : List ℕ) → Bytes msg → (m img r (request h msg reply)).answer ≡ More
      → Ends N m (request h msg reply) (m img r (request h msg reply)).image (m img r (request h msg reply)).board
  request_ends r h msg reply bm e j =
      go (task_for h msg x y.asked) refl (p.serves img r h msg reply x y.asked by bm y.is_held y.is_asked a).answers
    where
      c : Call
      c = request h msg reply

      a : Accepted (m img r c).answer
      a = subst Accepted (sym e) tt

      y : Asked N img r msg
      y = more_asks p img by r h msg reply bm e

      x : Journal
      x = y.holding

      go : (f : Task) → task_for h msg x y.asked ≡ f → Answers f r (m img r c) → Finishes N m c (m img r c).image (m img r c).board
      go idles g (n, b) = let w : ◌≡◌ {A = Option ℕ} (some 0) none = sym n ∙ ap number_of e in let v : ◌≡◌ {A = ℕ} 0 1 = cc in absurd (omega arith)
      go (appends f) g b =
          job_finishes r c (frame_work N img r x f) bm
          (frame_job h msg reply x y.asked f y.is_held y.is_asked g) a (p.one-step img r c)
      go converts g b =
          job_finishes r c (convert_work N img r x) bm
          (convert-job h msg reply x y.asked y.is_held y.is_asked g) a (p.one-step img r c)

  -- a refused mount or format leaves no job
  taken_ends : (r : Record) (c : Call) → (Accepted (m img r c).answer → Finishes N m c (m img r c).image (m img r c).board)
      → ((n : Refusal) → InJob (Unchanged img r c n).board.phase → ⊥) → Ends N m c (m img r c).image (m img r c).board
  taken_ends r c f g j = go (m img r c).answer refl
    where
      go : (w : Answer) → (m img r c).answer ≡ w → Finishes N m c (m img r c).image (m img r c).board
      go Done e = f (subst Accepted (sym e) tt)
      go More e = f (subst Accepted (sym e) tt)
      go (Refused n) e = absurd (g n (subst (λ (o : Out). InJob o.board.phase) (p.untouched img r c n e) j))

  mount_ends : (r : Record) → Ends N m mount (m img r mount).image (m img r mount).board
  mount_ends r =
      taken_ends r mount
      (λ a. let y : Mountable N img = mount_takes p img by r a in
      let x : Store = y.store in
      job_finishes r mount (mount_work N img x) tt
      (mount-job x y.current) a (p.one-step img r mount))
      (λ n k. k)

  format_ends : (r : Record) → Ends N m format (m img r format).image (m img r format).board
  format_ends r =
      taken_ends r format
      (λ a. job_finishes r format (format_work N img) tt format-job a (p.one-step img r format))
      (λ n k. k)

  -- one step fewer
  step_ends : (a : Call) (r : Record) → Ends N m a img r → Ends N m a (m img r step).image (m img r step).board
  step_ends a r f = go r.phase refl
    where
      rests : Rests r.phase → Ends N m a (m img r step).image (m img r step).board
      rests h = subst (λ (o : Out). Ends N m a o.image o.board) (sym (p.rests img r h)) f

      goes : (plan : List Step) (z : Record) → Follows N m img r plan z → z.phase ≡ Idle → Short N (size_of N img) plan a → InJob r.phase
          → Finishes N m a (m img r step).image (m img r step).board
      goes [] z e i l j = absurd (subst InJob (ap (λ (q : Record). q.phase) e ∙ i) j)
      goes (x ∷ xs) z (b, (n, g, h)) i l j =
          let s : ℕ = size_of N img in
          let e : size_of N (apply s x img) ≡ s = ap (size_in N) (length-apply s x img) in
          subst (λ (o : Out). Finishes N m a o.image o.board) (sym g)
          (record {
            work = record { steps = xs; last = z };
            follows = h;
            rests = i;
            short = subst (λ (k : ℕ). Short N k xs a) (sym e) (short-rest N s x xs a l);
          })

      go : (q : Phase) → r.phase ≡ q → Ends N m a (m img r step).image (m img r step).board
      go Unmounted e = rests (subst Rests (sym e) tt)
      go Idle e = rests (subst Rests (sym e) tt)
      go (Busy s) e =
          let y : Finishes N m a img r = f (subst InJob (sym e) tt) in
          λ j. goes y.work.steps y.work.last y.follows y.rests y.short (subst InJob (sym e) tt)

  pub call_ends : (a : Call) (r : Record) → Ends N m a img r → (c : Call) → ByteCall c
      → Ends N m (begun_by a c (m img r c).answer) (m img r c).image (m img r c).board
  call_ends a r f (request h msg reply) bm = go (m img r c).answer refl
    where
      c : Call
      c = request h msg reply

      go : (w : Answer) → (m img r c).answer ≡ w → Ends N m (begun_by a c (m img r c).answer) (m img r c).image (m img r c).board
      go Done e =
          idle-ends ((p.told img r c (subst Accepted (sym e) tt) (λ _. tt)).done.0 (ap number_of e))
      go More e =
          subst (λ (w : Answer). Ends N m (begun_by a c w) (m img r c).image (m img r c).board) (sym e) (request_ends r h msg reply bm e)
      go (Refused n) e =
          subst (λ (o : Out). Ends N m (begun_by a c o.answer) o.image o.board) (sym (p.untouched img r c n e)) f
  call_ends a r f step bc = step_ends a r f
  call_ends a r f mount bc = mount_ends r
  call_ends a r f format bc = format_ends r

  -- a mount or a format, whatever the record
  pub restart_ends : (a : Call) (r : Record) (c : Call) → Begins c → Ends N m (begun_by a c (m img r c).answer) (m img r c).image (m img r c).board
  restart_ends a r (request h msg reply) b = absurd b
  restart_ends a r step b = absurd b
  restart_ends a r mount b = mount_ends r
  restart_ends a r format b = format_ends r
