-- Erase counts in a run: every machine that keeps the promise does the steps of its jobs' plans one by one, so two blocks' counts differ by at most one.
use mathlib.Core.Path.{◌≡◌, refl, sym, ap, subst, ◌∙◌}
use mathlib.Core.List.{List, [], ◌∷◌, ◌++◌, append-nil}
use Prim.Native.Nat.{ℕ}
use native.Mathlib.Omega.{arith}
use lib.ListN.{length}
use Rattle.flash.specs.Bytes.{Bytes}
use Rattle.flash.specs.Flash.{Step, apply, apply_all, size_of}
use Rattle.frame.specs.declared.Host.{Host}
use Rattle.journal.specs.Block.{Journal}
use Rattle.wire.specs.declared.Answer.{Answer}
use Rattle.wire.specs.declared.Answer.TheVariants.{Done, More, Refused}
use Rattle.wire.specs.declared.Refusal.{Refusal}
use Rattle.wire.specs.declared.Request.{Request}
use Rattle.board.specs.declared.Phase.{Phase}
use Rattle.board.specs.declared.Phase.TheVariants.{Unmounted, Idle, Busy}
use Rattle.board.specs.declared.Record.{Record}
use Rattle.board.specs.Record.{Out, out, answer_in, answer_of}
use Rattle.board.specs.Mount.{Store}
use Rattle.board.specs.Queue.{asking}
use Rattle.board.specs.Exec.{Machine, Call, request, step, mount, format, exec}
use Rattle.board.specs.Plan.{frame_work, mount_work, format_work, Follows, convert_work}
use Rattle.board.specs.Table.{Task, idles, appends, converts, task_for}
use Rattle.board.specs.Demand1.{Rests}
use Rattle.board.specs.Demand2.{Accepted}
use Rattle.board.specs.Claim.{ByteCall, formatted}
use Rattle.board.specs.Promise.{NoStep, Calls, frame_job, mount-job, Answers, Serves, Shown, convert-job}
use Rattle.board.specs.Wear.{LeavesToDo, begins, goes_on, Does, image_after, made_in_of, made_by, steps_made, Undisturbed, EvenWear}
use Rattle.board.proofs.Images.{Sized, size-of, sized_of, sized-as, length-all-steps, bytes-all-steps}
use Rattle.board.proofs.Invariant.{Ready, Sound}
use Rattle.board.proofs.Keeping.{more-busy}
use Rattle.board.proofs.Formatting.{format_ends}
use Rattle.board.proofs.Refusals.{at-most-one-step}
use Rattle.board.proofs.Demand2.{Steady, steady_idle, request-kept, step_done, begun_kept}
use Rattle.board.proofs.Claiming.{format-done}
use Rattle.board.proofs.Answering.{number-done, told-answer, in_job}
use Rattle.board.proofs.Alike.{Alike, resting, working, Agree}
use Rattle.board.proofs.Determining.{Asked, mount_takes, while_busy, busy_refuses, call_agrees, job-idle, more_asks}
use Rattle.board.proofs.TablingMounts.{Mountable}
use Rattle.board.proofs.Following.{formatted_over}
use Rattle.board.proofs.Promising.{calls}
use Rattle.board.proofs.Wear.{Level, level-none, level-even, level-on, Leads, Here, Begin, job_leads}

-- ---- a run of a machine that keeps the promise, beside the same calls of `exec`

-- nothing is left to do, with the same record in no job; or steps that both do, level before each
abbrev Going : ℕ → ℕ → Machine → List ℕ → Record → Record → List Step → List Step → Type 0
Going N s m img r q xs [] = Rests q.phase × (r ≡ q) × Here N s img xs
Going N s m img r q xs (x ∷ ys) =
    (z : Record) × (z.phase ≡ Idle) × Follows N m img r (x ∷ ys) z × Follows N (exec N) img q (x ∷ ys) z × Leads N xs (x ∷ ys) z.rest.block

going-plan : {N s : ℕ} {img : List ℕ} {q : Record} (m : Machine) (r : Record) (xs plan : List Step) (z : Record) → z.phase ≡ Idle → Steady N s img q
    → Follows N m img r plan z → Follows N (exec N) img q plan z → Leads N xs plan z.rest.block → Going N s m img r q xs plan
going-plan {N} {s} {img} {q} m r xs [] z i v f g l =
    let e : q.phase ≡ Idle = ap (λ (k : Record). k.phase) g ∙ i in (
      subst Rests (sym e) tt,
      f ∙ sym g,
      (q, subst (λ (p : Phase). Sound N p s img q) e v.phase, subst (Level N xs) (sym (ap (λ (k : Record). k.rest.block) g)) l),
    )
going-plan m r xs (x ∷ ys) z i v f g l = (z, i, f, g, l)

rests-not : (p : Phase) → Rests p → answer_in p ≡ More → ⊥
rests-not p h e = subst Rests (more-busy p e).is h

pub made_none : (p : Phase) → Rests p → made_in_of p ≡ 0
made_none Unmounted h = refl
made_none Idle h = refl
made_none (Busy g) h = absurd h

pub made_one : (p : Phase) → answer_in p ≡ More → made_in_of p ≡ 1
made_one p e = ap made_in_of (more-busy p e).is

-- ---- a request while a job runs

module _ {N : ℕ} {m : Machine} (p : Calls N m) (img : List ℕ) (by : Bytes img) (r : Record) (h : Host) (msg reply : List ℕ) (e : answer_of r ≡ More) where
  abbrev busy_call : Call
  busy_call = request h msg reply

  pub busy_stays : ((m img r busy_call).answer ≡ More → ⊥) × ((m img r busy_call).board ≡ r)
  busy_stays = go (m img r busy_call).answer refl
    where
      never : Accepted (m img r busy_call).answer → ⊥
      never = busy_refuses p p img by h (m img r busy_call).answer
          (while_busy p p img by r h msg reply (m img r busy_call).answer (in_job r.phase e) (p.table img r busy_call by))

      go : (a : Answer) → (m img r busy_call).answer ≡ a → ((m img r busy_call).answer ≡ More → ⊥) × ((m img r busy_call).board ≡ r)
      go Done d = absurd (never (subst Accepted (sym d) tt))
      go More d = absurd (never (subst Accepted (sym d) tt))
      go (Refused n) d = ((λ f. never (subst Accepted (sym f) tt)), ap (λ (o : Out). o.board) (p.untouched img r busy_call n d))

-- ---- a request or a mount in no job

begin-no-step : (c : Call) → Begin c → NoStep c
begin-no-step (request g msg reply) b = tt
begin-no-step step b = b
begin-no-step mount b = tt
begin-no-step format b = tt

module _ {N : ℕ} {m : Machine} (p : Calls N m) (img : List ℕ) (by : Bytes img) (q : Record) (h : Rests q.phase) where
  agreed : (c : Call) → ByteCall c → Agree N m (exec N) (m img q c) (exec N img q c)
  agreed c bc = call_agrees p calls img by q q (resting h refl) c bc

  -- a refusal leaves a record in no job
  refused_rests : (c : Call) → Begin c → (n : Refusal) → (m img q c).answer ≡ Refused n → Rests (m img q c).board.phase
  refused_rests (request g msg reply) b n e = subst (λ (o : Out). Rests o.board.phase) (sym (p.untouched img q (request g msg reply) n e)) h
  refused_rests step b n e = absurd b
  refused_rests mount b n e = subst (λ (o : Out). Rests o.board.phase) (sym (p.untouched img q mount n e)) tt
  refused_rests format b n e = absurd b

  -- so does whatever doesn't answer more
  settles : (c : Call) → Begin c → ByteCall c → ((m img q c).answer ≡ More → ⊥)
      → Rests (exec N img q c).board.phase × ((m img q c).board ≡ (exec N img q c).board)
  settles c b bc n = go (agreed c bc).next
    where
      o : Out
      o = m img q c

      busy : answer_of o.board ≡ More → (a : Answer) → o.answer ≡ a → ⊥
      busy f Done e = n (told-answer o (p.told img q c (subst Accepted (sym e) tt) (λ _. begin-no-step c b)) (subst Accepted (sym e) tt) ∙ f)
      busy f More e = n e
      busy f (Refused w) e = rests-not o.board.phase (refused_rests c b w e) f

      go : Alike N m (exec N) o.image o.board (exec N img q c).board → Rests (exec N img q c).board.phase × (o.board ≡ (exec N img q c).board)
      go (resting k e) = (k, e)
      go (working x ys z i f g) = absurd (busy f.0 o.answer refl)

  rest_leaves : {s : ℕ} (xs : List Step) (c : Call) (after : List Step) → Begin c → ByteCall c → Sized N s img → Here N s img xs
      → Steady N s img (exec N img q c).board → LeavesToDo N m img q [] c after → Going N s m img (m img q c).board (exec N img q c).board xs after
  rest_leaves xs c after b bc z y v (begins w a j) =
      let d : (exec N img q c).answer ≡ More = sym (ap (λ (k : Shown). k.answer) (agreed c bc).same) ∙ a in
      going-plan m (m img q c).board xs w.steps w.last (job-idle j) v (p.jobs img q c w by bc j (subst Accepted (sym a) tt)).0
      (calls.jobs img q c w by bc j (subst Accepted (sym d) tt)).0 (job_leads z by y b j)
  rest_leaves {s} xs c after b bc z y v (goes_on n) = let w = settles c b bc n in (w.0, w.1, y)

  -- what is left to do is told by the answer
  pub request_some : (g : Host) (msg reply : List ℕ) → Bytes msg → (after : List Step) × LeavesToDo N m img q [] (request g msg reply) after
  request_some g msg reply bm = go (m img q c).answer refl
    where
      c : Call
      c = request g msg reply

      go : (a : Answer) → (m img q c).answer ≡ a → (after : List Step) × LeavesToDo N m img q [] c after
      go Done e = ([], goes_on (λ f. let w : Done ≡ More = sym e ∙ f in let z : ◌≡◌ {A = ℕ} 0 1 = cc in omega arith))
      go (Refused n) e = ([], goes_on (λ f. let w : Refused n ≡ More = sym e ∙ f in let z : ◌≡◌ {A = ℕ} 0 1 = cc in omega arith))
      go More e = framed (task_for g msg x k) refl t.answers
        where
          a : Accepted (m img q c).answer
          a = subst Accepted (sym e) tt

          y : Asked N img q msg
          y = more_asks p img by q g msg reply bm e

          x : Journal
          x = y.holding

          k : Request
          k = y.asked

          t : Serves (asking N img q g msg reply) x k (m img q c)
          t = p.serves img q g msg reply x k by bm y.is_held y.is_asked a

          framed : (f : Task) → task_for g msg x k ≡ f → Answers f q (m img q c) → (after : List Step) × LeavesToDo N m img q [] c after
          framed idles d (w, _) = let f : Done ≡ More = sym (number-done (m img q c).answer w) ∙ e in let z : ◌≡◌ {A = ℕ} 0 1 = cc in absurd (omega arith)
          framed (appends f) d w = (
            (frame_work N img q x f).steps,
            begins (frame_work N img q x f) e (frame_job g msg reply x k f y.is_held y.is_asked d),
          )
          framed converts d w = (
            (convert_work N img q x).steps,
            begins (convert_work N img q x) e (convert-job g msg reply x k y.is_held y.is_asked d),
          )

  mount_some : (after : List Step) × LeavesToDo N m img q [] mount after
  mount_some = go (m img q mount).answer refl
    where
      go : (a : Answer) → (m img q mount).answer ≡ a → (after : List Step) × LeavesToDo N m img q [] mount after
      go Done e = ([], goes_on (λ f. let w : Done ≡ More = sym e ∙ f in let z : ◌≡◌ {A = ℕ} 0 1 = cc in omega arith))
      go (Refused n) e = ([], goes_on (λ f. let w : Refused n ≡ More = sym e ∙ f in let z : ◌≡◌ {A = ℕ} 0 1 = cc in omega arith))
      go More e =
          let y : Mountable N img = mount_takes p img by q (subst Accepted (sym e) tt) in
          let x : Store = y.store in (
            (mount_work N img x).steps,
            begins (mount_work N img x) e (mount-job x y.current),
          )

-- ---- every run

-- what is told of the steps ys: they are what was done to the image, one for each step call in a job
pub record Told (s : ℕ) (m : Machine) (img : List ℕ) (r : Record) (cs : List Call) (ys : List Step) : Type 0 where
  pub image : image_after m img r cs ≡ apply_all s ys img
  pub each : length ys ≡ steps_made m img r cs

module _ {s : ℕ} {m : Machine} {img : List ℕ} {r : Record} where
  pub told_none : Told s m img r [] []
  unfolding apply_all
  told_none = record { image = refl; each = refl }

  -- a call that does no step, and then the rest
  pub told_past : {cs : List Call} {ys : List Step} (c : Call) → (m img r c).image ≡ img → made_by r c ≡ 0
      → Told s m (m img r c).image (m img r c).board cs ys → Told s m img r (c ∷ cs) ys
  told_past {ys = ys} c i n w = record { image = w.image ∙ ap (apply_all s ys) i; each = omega (arith, w.each, n) }

  -- a step, and then the rest
  pub told_step : {cs : List Call} {ys : List Step} (x : Step) → (m img r step).image ≡ apply s x img → made_in_of r.phase ≡ 1
      → Told s m (m img r step).image (m img r step).board cs ys → Told s m img r (step ∷ cs) (x ∷ ys)
  unfolding apply_all
  told_step {ys = ys} x i n w = record { image = w.image ∙ ap (apply_all s ys) i; each = omega (arith, w.each, n) }

-- with xs the steps before it
record Ran (N s : ℕ) (m : Machine) (img : List ℕ) (r : Record) (cs : List Call) (xs ys : List Step) : Type 0 where
  level : (k : ℕ) × Level N (xs ++ ys) k
  told : Told s m img r cs ys

-- the steps are there, and whichever they are
abbrev Runs : ℕ → ℕ → Machine → List ℕ → Record → List Step → List Call → List Step → Type 0
Runs N s m img r left cs xs = ((ys : List Step) × Does N m img r left cs ys) × ((ys : List Step) → Does N m img r left cs ys → Ran N s m img r cs xs ys)

going-level : {N : ℕ} (s : ℕ) (m : Machine) (img : List ℕ) (r q : Record) (xs left : List Step) → Going N s m img r q xs left → (k : ℕ) × Level N xs k
going-level s m img r q xs [] (h, e, (k, y, l)) = (k.rest.block, l)
going-level s m img r q xs (x ∷ ys) (z, i, f, g, l) = l.0

-- nothing more is called
run_ends : {N s : ℕ} {m : Machine} {img : List ℕ} {r : Record} (xs ys : List Step) → (k : ℕ) × Level N xs k → ys ≡ [] → Ran N s m img r [] xs ys
run_ends {N} {s} {m} {img} {r} xs ys l e =
    subst (λ (y : List Step). Ran N s m img r [] xs y) (sym e) (record { level = rw append-nil l; told = told_none })

-- a call that does no step, and then the rest
run_past : {N s : ℕ} {m : Machine} {img : List ℕ} {r : Record} {cs : List Call} {xs ys : List Step} (c : Call) → (m img r c).image ≡ img → made_by r c ≡ 0
    → Ran N s m (m img r c).image (m img r c).board cs xs ys → Ran N s m img r (c ∷ cs) xs ys
run_past c i n w = record { level = w.level; told = told_past c i n w.told }

-- a step, and then the rest
run_step : {N s : ℕ} {m : Machine} {img : List ℕ} {r : Record} {cs : List Call} {xs ys zs : List Step} (x : Step) → (m img r step).image ≡ apply s x img
    → made_in_of r.phase ≡ 1 → zs ≡ x ∷ ys → Ran N s m (m img r step).image (m img r step).board cs (xs ++ (x ∷ [])) ys → Ran N s m img r (step ∷ cs) xs zs
run_step {N} {s} {m} {img} {r} {cs} {xs} {ys} x i n e w =
    subst (Ran N s m img r (step ∷ cs) xs) (sym e)
    (record { level = level-on xs ys x w.level; told = told_step x i n w.told })

module _ {N : ℕ} {m : Machine} (p : Calls N m) (s : ℕ) where
  -- a request or a mount in no job, or a request while a job runs
  call_leaves : (img : List ℕ) (r q : Record) (xs left after : List Step) (h : Host) (msg reply : List ℕ) → Bytes msg → Steady N s img q
      → Steady N s img (exec N img q (request h msg reply)).board → Going N s m img r q xs left → LeavesToDo N m img r left (request h msg reply) after
      → Going N s m img (m img r (request h msg reply)).board (exec N img q (request h msg reply)).board xs after
  call_leaves img r q xs [] after h msg reply bm v w (k, e, y) d =
      let c : Call = request h msg reply in
      subst (λ (t : Record). Going N s m img (m img t c).board (exec N img q c).board xs after) (sym e)
      (rest_leaves p img v.bytes q k xs c after tt bm v.sized y w (subst (λ (t : Record). LeavesToDo N m img t [] c after) e d))
  call_leaves img r q xs (x ∷ ys) after h msg reply bm v w (z, i, f, g, l) (begins b a j) =
      absurd ((busy_stays p img v.bytes r h msg reply f.0).0 a)
  call_leaves img r q xs (x ∷ ys) after h msg reply bm v w (z, i, f, g, l) (goes_on n) =
      let a = (busy_stays p img v.bytes r h msg reply f.0).1 in
      let b = (busy_stays calls img v.bytes q h msg reply g.0).1 in (
        z,
        i,
        subst (λ (t : Record). Follows N m img t (x ∷ ys) z) (sym a) f,
        subst (λ (t : Record). Follows N (exec N) img t (x ∷ ys) z) (sym b) g,
        l,
      )

  mount_leaves : (img : List ℕ) (r q : Record) (xs left after : List Step) → Rests r.phase → Steady N s img q
      → Steady N s img (exec N img q mount).board → Going N s m img r q xs left → LeavesToDo N m img r left mount after
      → Going N s m img (m img r mount).board (exec N img q mount).board xs after
  mount_leaves img r q xs [] after n v w (k, e, y) d =
      subst (λ (t : Record). Going N s m img (m img t mount).board (exec N img q mount).board xs after) (sym e)
      (rest_leaves p img v.bytes q k xs mount after tt tt v.sized y w (subst (λ (t : Record). LeavesToDo N m img t [] mount after) e d))
  mount_leaves img r q xs (x ∷ ys) after n v w (z, i, f, g, l) d = absurd (rests-not r.phase n f.0)

  -- what a call leaves to do is there
  call_some : (img : List ℕ) (r q : Record) (xs left : List Step) (h : Host) (msg reply : List ℕ) → Bytes img → Bytes msg → Going N s m img r q xs left
      → (after : List Step) × LeavesToDo N m img r left (request h msg reply) after
  call_some img r q xs [] h msg reply by bm (k, e, y) =
      subst (λ (t : Record). (after : List Step) × LeavesToDo N m img t [] (request h msg reply) after) (sym e) (request_some p img by q k h msg reply bm)
  call_some img r q xs (x ∷ ys) h msg reply by bm (z, i, f, g, l) = (x ∷ ys, goes_on (busy_stays p img by r h msg reply f.0).0)

  mount_left : (img : List ℕ) (r q : Record) (xs left : List Step) → Bytes img → Rests r.phase → Going N s m img r q xs left
      → (after : List Step) × LeavesToDo N m img r left mount after
  mount_left img r q xs [] by n (k, e, y) =
      subst (λ (t : Record). (after : List Step) × LeavesToDo N m img t [] mount after) (sym e) (mount_some p img by q k)
  mount_left img r q xs (x ∷ ys) by n (z, i, f, g, l) = absurd (rests-not r.phase n f.0)

  -- from an image on that is as the machine gave it back
  module _ (img after : List ℕ) (r q : Record) (e : after ≡ img) where
    steady_over : Steady N s img q → Steady N s after q
    steady_over v = subst (λ (l : List ℕ). Steady N s l q) (sym e) v

    going_over : (xs left : List Step) → Going N s m img r q xs left → Going N s m after r q xs left
    going_over xs left g = subst (λ (l : List ℕ). Going N s m l r q xs left) (sym e) g

  runs : (img : List ℕ) (r q : Record) (xs left : List Step) → Steady N s img q → Going N s m img r q xs left → (cs : List Call) → Undisturbed m img r cs
      → Runs N s m img r left cs xs
  runs img r q xs left v g [] u = (([], refl), λ ys e. run_ends xs ys (going-level s m img r q xs left g) e)
  runs img r q xs [] v going (step ∷ cs) u =
      let h : Rests q.phase = going.0 in
      let e : r ≡ q = going.1 in
      let y : Here N s img xs = going.2 in
      let k : Rests r.phase = subst (λ (t : Record). Rests t.phase) (sym e) h in
      let a : m img r step ≡ out Done img r [] = p.rests img r k in
      let i : (m img r step).image ≡ img = ap (λ (o : Out). o.image) a in
      let w = runs (m img r step).image (m img r step).board q xs [] (steady_over img _ r q i v)
      (h, ap (λ (o : Out). o.board) a ∙ e, subst (λ (l : List ℕ). Here N s l xs) (sym i) y) cs u in
      (w.0, λ ys d. run_past step i (made_none r.phase k) (w.1 ys d))
  runs img r q xs (x ∷ ys) v going (step ∷ cs) u =
      let z = going.0 in
      let i = going.1 in
      let a = going.2.0 in
      let r' = going.2.1.0 in
      let b = going.2.1.1 in
      let f = going.2.1.2 in
      let q' = going.3.1.0 in
      let d = going.3.1.1 in
      let g = going.3.1.2 in
      let l = going.4.1 in
      let n : (m img r step).image ≡ apply s x img = ap (λ (o : Out). o.image) b ∙ ap (λ (k : ℕ). apply k x img) (size-of v.sized) in
      let t : Steady N s (apply (size_of N img) x img) q' = subst (λ (o : Out). Steady N s o.image o.board) d (step_done v).1 in
      let w = runs (m img r step).image (m img r step).board q' (xs ++ (x ∷ [])) ys (subst (λ (o : Out). Steady N s o.image q') (sym b) t)
      (subst (λ (o : Out). Going N s m o.image o.board q' (xs ++ (x ∷ [])) ys) (sym b) (going-plan m r' (xs ++ (x ∷ [])) ys z i t f g l)) cs u in (
        (x ∷ w.0.0, (w.0.0, refl, w.0.1)),
        λ zs (ws, e, y). run_step x n (made_one r.phase a) e (w.1 ws y),
      )
  runs img r q xs left v g (request h msg reply ∷ cs) (bm, u) =
      let c : Call = request h msg reply in
      let i : (m img r c).image ≡ img = p.one-step img r c in
      let t : Steady N s img (exec N img q c).board =
      subst (λ (l : List ℕ). Steady N s l (exec N img q c).board) (at-most-one-step N img q c) (request-kept v h msg reply bm) in
      let w : (after : List Step) → LeavesToDo N m img r left c after → Runs N s m (m img r c).image (m img r c).board after cs xs =
      λ after d. runs (m img r c).image (m img r c).board (exec N img q c).board xs after (steady_over img _ (m img r c).board _ i t)
      (going_over img _ (m img r c).board _ i xs after (call_leaves img r q xs left after h msg reply bm v t g d)) cs u in
      let y = call_some img r q xs left h msg reply v.bytes bm g in
      let f = (w y.0 y.1).0 in
      ((f.0, (y.0, y.1, f.1)), λ ys (after, d, e). run_past c i refl ((w after d).1 ys e))
  runs img r q xs left v g (mount ∷ cs) (h, u) =
      let i : (m img r mount).image ≡ img = p.one-step img r mount in
      let k = begun_kept q v.sized v.bytes mount tt in
      let t : Steady N s img (exec N img q mount).board = subst (λ (l : List ℕ). Steady N s l (exec N img q mount).board) k.0 k.1 in
      let w : (after : List Step) → LeavesToDo N m img r left mount after → Runs N s m (m img r mount).image (m img r mount).board after cs xs =
      λ after d. runs (m img r mount).image (m img r mount).board (exec N img q mount).board xs after (steady_over img _ (m img r mount).board _ i t)
      (going_over img _ (m img r mount).board _ i xs after (mount_leaves img r q xs left after h v t g d)) cs u in
      let y = mount_left img r q xs left v.bytes h g in
      let f = (w y.0 y.1).0 in
      ((f.0, (y.0, y.1, f.1)), λ ys (after, d, e). run_past mount i refl ((w after d).1 ys e))
  runs img r q xs left v g (format ∷ cs) u = absurd u

-- ---- from a finished format on

at_rest : {N : ℕ} {m : Machine} {img : List ℕ} {r q : Record} → q.phase ≡ Idle → Alike N m (exec N) img r q → r ≡ q
at_rest i (resting h e) = e
at_rest {q = q} i (working x xs z j f g) = absurd (rests-not q.phase (subst Rests (sym i) tt) g.0)

pub even-wear : EvenWear
unfolding EvenWear
even-wear N m pm img r cs by ok u =
    let s : ℕ = size_of N img in
    let z : Sized N s img = sized_of N img ok in
    let i : List ℕ = apply_all s (format_work N img).steps img in
    let b : Record = (format_work N img).last in
    let o : Out = formatted N m img r in
    let zi : Sized N s i = sized-as i (length-all-steps s (format_work N img).steps img) z in
    let v : Steady N s i b = steady_idle zi (bytes-all-steps s (format_work N img).steps img by) b (format_ends z).ready in
    let w : Agree N m (exec N) o (out Done i b []) = subst (Agree N m (exec N) o) (format-done r z) (formatted_over pm.calls img r by) in
    let t : o.board ≡ b = at_rest refl w.next in
    let y = runs pm.calls s o.image o.board b [] [] (subst (λ (k : List ℕ). Steady N s k b) (sym w.image) v)
    (tt, t, (b, subst (λ (k : List ℕ). Ready N s k b) (sym w.image) (format_ends z).ready, level-none N (omega (arith, z.few)))) cs u in
    let n : size_of N o.image ≡ s = ap (size_of N) w.image ∙ size-of zi in
    record {
      some = y.0;
      image = λ xs d. (y.1 xs d).told.image ∙ ap (λ (k : ℕ). apply_all k xs o.image) (sym n);
      each = λ xs d. (y.1 xs d).told.each;
      even = λ xs j k d hj hk. level-even (y.1 xs d).level.1 j k hj hk;
    }
