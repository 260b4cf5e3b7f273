-- K12, of every machine that keeps the promise: the counts of a run, from any image and any record in no job.
use mathlib.Core.Path.{◌≡◌, refl, sym, ap, subst, subst₂, ◌∙◌}
use mathlib.Core.List.{List, [], ◌∷◌, ◌++◌, append-nil}
use mathlib.Core.Bool.{Bool, true, false}
use Prim.Native.Nat.{ℕ, ◌+◌, ◌≤◌, ◌<◌}
use native.Mathlib.Omega.{arith}
use Rattle.flash.specs.Bytes.{Bytes}
use Rattle.flash.specs.Flash.{Step, program, erase, apply, block, size_of, size_in}
use Rattle.flash.proofs.Image.{length-apply, bytes-apply}
use Rattle.frame.specs.declared.Edition.{Edition}
use Rattle.frame.specs.declared.Host.{Host}
use Rattle.frame.specs.Frame.{Frame, frame_len, edition_by}
use Rattle.frame.proofs.Encode.{edition-back}
use Rattle.journal.specs.Block.{Journal}
use Rattle.journal.specs.Sentences.{ValidBlock}
use Rattle.journal.specs.Replay.{is_open_of}
use Rattle.journal.specs.Laws.{by_edition}
use Rattle.wire.specs.declared.Answer.{Answer}
use Rattle.wire.specs.declared.Answer.TheVariants.{Done, More, Refused}
use Rattle.wire.specs.declared.Request.{Request}
use Rattle.wire.specs.declared.Request.TheVariants.{Put, Delete, Commit, Abort, Read, Log, Convert}
use Rattle.wire.specs.Sentences.{Means}
use Rattle.board.specs.declared.Phase.TheVariants.{Idle}
use Rattle.board.specs.declared.Record.{Record}
use Rattle.board.specs.Record.{reads_in, Out, out, answer_of}
use Rattle.board.specs.Mount.{next_block, replay_of, claimed_of}
use Rattle.board.specs.Queue.{counted}
use Rattle.board.specs.Exec.{Machine, Call, request, step, mount, format}
use Rattle.board.specs.Plan.{Follows, Work, frame_in, frame_work}
use Rattle.board.specs.Table.{Task, idles, appends, converts, task_for, end_task, Fresh}
use Rattle.board.specs.Demand1.{Rests}
use Rattle.board.specs.Demand2.{Accepted}
use Rattle.board.specs.Promise.{Calls, Job, frame_job, convert-job, Answers}
use Rattle.board.specs.Wear.{LeavesToDo, begins, goes_on, Does}
use Rattle.board.specs.Endurance.{Tally, frame_bytes, accepting, answered, erasing, tallied, tally, RequestRun, ClaimedAtMost}
use Rattle.board.specs.Endurance.{rose, erase_count}
use Rattle.board.proofs.Images.{Sized, sized_of, sized-block}
use Rattle.board.proofs.Editions.{number_is}
use Rattle.board.proofs.Lengths.{frame_cases}
use Rattle.board.proofs.Determining.{Asked, job-idle, more_asks, request_asks, read_hands, kind_cases}
use Rattle.board.proofs.Wear.{Level, level-on, Leads, leads_frame}
use Rattle.board.proofs.WearRuns.{Told, told_none, told_past, told_step, made_none, made_one, busy_stays, request_some}
use Rattle.board.proofs.Rising.{same-rose}
use Rattle.board.proofs.Tallies.{Bounds, Between}
use Rattle.board.proofs.Endurance.{Sizes, frame-sizes, is_erase, Counts, counts_frame}

-- ---- a frame's job

-- a task that is a convert comes of one
end-not : {P : Type 0} (b : Bool) (f : Frame) → end_task b f ≡ converts → P
end-not true f e = let z : ◌≡◌ {A = ℕ} 0 1 = cc in absurd (omega arith)
end-not false f e = let z : ◌≡◌ {A = ℕ} 0 1 = cc in absurd (omega arith)

pub convert_task_lem : (h : Host) (msg : List ℕ) (x : Journal) (q : Request) → task_for h msg x q ≡ converts → q ≡ Convert
convert_task_lem h msg x (Put i) e = let z : ◌≡◌ {A = ℕ} 0 1 = cc in absurd (omega arith)
convert_task_lem h msg x (Delete i) e = let z : ◌≡◌ {A = ℕ} 0 1 = cc in absurd (omega arith)
convert_task_lem h msg x Commit e = end-not (is_open_of h (replay_of x).pending) _ e
convert_task_lem h msg x Abort e = end-not (is_open_of h (replay_of x).pending) _ e
convert_task_lem h msg x (Read i) e = let z : ◌≡◌ {A = ℕ} 0 1 = cc in absurd (omega arith)
convert_task_lem h msg x (Log p) e = let z : ◌≡◌ {A = ℕ} 0 1 = cc in absurd (omega arith)
convert_task_lem h msg x Convert e = refl

-- a request that doesn't begin a job counts nothing
counts-none : (a : Answer) (n : ℕ) (t : Tally) → (a ≡ More → ⊥) → answered a n t ≡ t
counts-none Done n t f = refl
counts-none More n t f = absurd (f refl)
counts-none (Refused why) n t f = refl

answered-erases : (a : Answer) (n : ℕ) (t : Tally) → (answered a n t).erases ≡ t.erases
answered-erases Done n t = refl
answered-erases More n t = refl
answered-erases (Refused why) n t = refl

erased-by : (x : Step) (t : Tally) (ys : List Step) → (erasing (is_erase x) t).erases + erase_count ys ≡ t.erases + erase_count (x ∷ ys)
unfolding erase_count
erased-by (program k o v) t ys = refl
erased-by (erase k) t ys = omega arith

-- a request that begins no job leaves the record
answer-leaves : {r : Record} (k : Task) (o : Out) → (o.answer ≡ More → ⊥) → Answers k r o → o.board ≡ r
answer-leaves idles o f w = w.1
answer-leaves (appends g) o f w = absurd (f w)
answer-leaves converts o f w = absurd (f w)

leaves_record : {N : ℕ} {m : Machine} (p : Calls N m) (img : List ℕ) (by : Bytes img) (r : Record) (h : Host) (msg reply : List ℕ) → Bytes msg
    → ((m img r (request h msg reply)).answer ≡ More → ⊥) → (m img r (request h msg reply)).board ≡ r
leaves_record {N} {m} p img by r h msg reply bm f = go (m img r c).answer refl
  where
    c : Call
    c = request h msg reply

    go : (a : Answer) → (m img r c).answer ≡ a → (m img r c).board ≡ r
    go More e = absurd (f e)
    go (Refused n) e = ap (λ (o : Out). o.board) (p.untouched img r c n e)
    go Done e =
        let a : Accepted (m img r c).answer = subst Accepted (sym e) tt in
        kind_cases p img by msg (λ k. (read_hands p img by r h msg reply bm k a).2.board)
        (λ k.
        let y : Asked N img r msg = request_asks p img by r h msg reply k a in
        answer-leaves (task_for h msg y.holding y.asked) (m img r c) f
        (p.serves img r h msg reply y.holding y.asked by bm y.is_held y.is_asked a).answers)

module _ {N : ℕ} {m : Machine} (p : Calls N m) (s most ed : ℕ) where
  abbrev pub least : ℕ
  least = by_edition (edition_by ed) 6 10

  abbrev pub most_bytes : ℕ
  most_bytes = by_edition (edition_by ed) 248 252

  -- ---- between calls

  -- in no job, with xs the steps done before; a record of a block that isn't there begins no job
  pub record Resting (xs : List Step) (t : Tally) (r : Record) : Type 0 where
    pub rests : Rests r.phase
    pub block : ℕ
    pub level : Level N xs block
    pub stands : r.rest.block < N → r.rest.block ≡ block
    pub edition : r.rest.edition ≡ ed
    pub between : Between s most least most_bytes t r.rest.end

  pub record Working (img : List ℕ) (r : Record) (xs : List Step) (t : Tally) (plan : List Step) : Type 0 where
    pub last : Record
    pub ends_idle : last.phase ≡ Idle
    pub follows : Follows N m img r plan last
    pub leads : Leads N xs plan last.rest.block
    pub edition : last.rest.edition ≡ ed
    pub counts : Counts s most least most_bytes last.rest.end img t plan

  abbrev pub Going : List ℕ → Record → List Step → Tally → List Step → Type 0
  Going img r xs t [] = Resting xs t r
  Going img r xs t (x ∷ plan) = Working img r xs t (x ∷ plan)

  going : (img : List ℕ) (r : Record) (xs : List Step) (t : Tally) (plan : List Step) → Working img r xs t plan → Going img r xs t plan
  going img r xs t [] w =
      subst (Resting xs t) (sym w.follows)
      (record {
        rests = subst Rests (sym w.ends_idle) tt;
        block = w.last.rest.block;
        level = w.leads;
        stands = λ _. refl;
        edition = w.edition;
        between = w.counts;
      })
  going img r xs t (x ∷ plan) w = w

  -- ---- an accepted frame

  module _ (img : List ℕ) (by : Bytes img) (e : size_of N img ≡ s) (r : Record) (xs : List Step) (t : Tally) (y : Resting xs t r) (h : Host) (msg reply : List ℕ)
      (bm : Bytes msg) (a : (m img r (request h msg reply)).answer ≡ More) where
    abbrev c : Call
    c = request h msg reply

    abbrev n : ℕ
    n = frame_bytes (reads_in r) msg

    sized : Sized N s img
    sized = subst (λ (k : ℕ). Sized N k img) e (sized_of N img (more_asks p img by r h msg reply bm a).length_ok)

    module _ (x : Journal) (f : Frame) (v : Fresh N img r x) (z : Sizes x.edition msg f)
        (claims : size_of N img < r.rest.end + n → claimed_of x ≤ most) where
      reads : edition_by ed ≡ x.edition
      reads = ap edition_by (sym y.edition ∙ v.edition_is ∙ sym (number_is x.edition)) ∙ edition-back x.edition

      long : frame_len x.edition f ≡ n
      long = z.is ∙ ap (λ (d : Edition). frame_bytes d msg) (sym reads ∙ ap edition_by (sym y.edition))

      frame_counts : Counts s most least most_bytes (frame_work N img r x f).last.rest.end img (accepting n t) (frame_work N img r x f).steps
      frame_counts =
          subst (λ (k : ℕ). Counts s most least most_bytes (frame_work N img r x f).last.rest.end img (accepting k t) (frame_work N img r x f).steps) long
          (subst
          (λ (k : ℕ). Counts s most least most_bytes (frame_in k (next_block N r.rest.block) (counted r.rest x f) x f).last.rest.end img
          (accepting (frame_len x.edition f) t) (frame_in k (next_block N r.rest.block) (counted r.rest x f) x f).steps) (sym e)
          (counts_frame s most least most_bytes N img t (counted r.rest x f) x f by sized.few v.there (sized-block r.rest.block sized v.there)
          (omega (arith, sized.low)) (subst (λ (k : ℕ). ValidBlock (block k r.rest.block img) x) e v.is-valid) (omega (arith, v.room, e))
          (subst (λ (d : Edition). by_edition d 6 10 ≤ frame_len x.edition f) (sym reads) z.least)
          (subst (λ (d : Edition). frame_len x.edition f ≤ by_edition d 248 252) (sym reads) z.most) y.between
          (λ l. claims (omega (arith, l, e, long)))))

      frame_works : Job N img r c (frame_work N img r x f) → Working img (m img r c).board xs (accepting n t) (frame_work N img r x f).steps
      frame_works j =
          record {
            last = (frame_work N img r x f).last;
            ends_idle = job-idle j;
            follows = (p.jobs img r c (frame_work N img r x f) by bm j (subst Accepted (sym a) tt)).0;
            leads = leads_frame (size_of N img) (counted r.rest x f) x f (subst (Level N xs) (sym (y.stands v.there)) y.level);
            edition = frame_cases (λ w. w.last.rest.edition ≡ ed) (size_of N img) (next_block N r.rest.block) (counted r.rest x f) x f
                (λ _. y.edition) (λ _. y.edition);
            counts = frame_counts;
          }

    accepts : (w : Work) → Job N img r c w → (Means msg Convert → ⊥)
        → ((x : Journal) → Fresh N img r x → size_of N img < r.rest.end + n → claimed_of x ≤ most)
        → Working img (m img r c).board xs (accepting n t) w.steps
    accepts w (frame_job g k rep x q f v means task) other claims =
        frame_works x f v (frame-sizes h msg x q f means task) (claims x v) (frame_job g k rep x q f v means task)
    accepts w (convert-job g k rep x q v means task) other claims = absurd (other (subst (Means msg) (convert_task_lem h msg x q task) means))

  -- ---- every run

  pub record Ran (img : List ℕ) (r : Record) (cs : List Call) (xs : List Step) (t : Tally) (ys : List Step) : Type 0 where
    pub told : Told s m img r cs ys
    pub level : (k : ℕ) × Level N (xs ++ ys) k
    pub erased : (tally m img r t cs).erases ≡ t.erases + erase_count ys
    pub bounds : Bounds s most least most_bytes (tally m img r t cs)

  -- the steps are there, and whichever they are
  abbrev pub Runs : List ℕ → Record → List Step → List Call → List Step → Tally → Type 0
  Runs img r left cs xs t = ((ys : List Step) × Does N m img r left cs ys) × ((ys : List Step) → Does N m img r left cs ys → Ran img r cs xs t ys)

  going_bounds : (img : List ℕ) (r : Record) (xs left : List Step) (t : Tally) → Going img r xs t left
      → ((k : ℕ) × Level N xs k) × Bounds s most least most_bytes t
  going_bounds img r xs [] t g = ((g.block, g.level), g.between.bounds)
  going_bounds img r xs (x ∷ ys) t g = (g.leads.0, g.counts.0)

  ran_ends : (img : List ℕ) (r : Record) (xs left ys : List Step) (t : Tally) → Going img r xs t left → ys ≡ [] → Ran img r [] xs t ys
  unfolding erase_count
  ran_ends img r xs left ys t g e =
      let w = going_bounds img r xs left t g in
      subst (Ran img r [] xs t) (sym e)
      (record { told = told_none; level = subst (λ (l : List Step). (k : ℕ) × Level N l k) (sym (append-nil xs)) w.0; erased = omega arith; bounds = w.1 })

  -- a request, and then the rest
  ran_past : (img : List ℕ) (r : Record) (cs : List Call) (xs ys : List Step) (t : Tally) (h : Host) (msg reply : List ℕ)
      → Ran (m img r (request h msg reply)).image (m img r (request h msg reply)).board cs xs
      (tallied img r (request h msg reply) (m img r (request h msg reply)) t) ys
      → Ran img r (request h msg reply ∷ cs) xs t ys
  ran_past img r cs xs ys t h msg reply w =
      let c : Call = request h msg reply in
      record {
        told = told_past c (p.one-step img r c) refl w.told;
        level = w.level;
        erased = w.erased ∙ ap (λ (k : ℕ). k + erase_count ys) (answered-erases (m img r c).answer (frame_bytes (reads_in r) msg) t);
        bounds = w.bounds;
      }

  -- a step call, where the tally after it is this
  counted_as : (img : List ℕ) (r : Record) (cs : List Call) (t u : Tally) → erasing (rose img (m img r step).image) t ≡ u
      → tally m img r t (step ∷ cs) ≡ tally m (m img r step).image (m img r step).board u cs
  counted_as img r cs t u e = ap (λ (k : Tally). tally m (m img r step).image (m img r step).board k cs) e

  -- in no job
  ran_idle : (img : List ℕ) (r : Record) (cs : List Call) (xs ys : List Step) (t : Tally) → Rests r.phase
      → Ran (m img r step).image (m img r step).board cs xs t ys → Ran img r (step ∷ cs) xs t ys
  ran_idle img r cs xs ys t k w =
      let i : (m img r step).image ≡ img = ap (λ (o : Out). o.image) (p.rests img r k) in
      let q = counted_as img r cs t t (ap (λ (b : Bool). erasing b t) (ap (rose img) i ∙ same-rose img)) in
      record {
        told = told_past step i (made_none r.phase k) w.told;
        level = w.level;
        erased = ap (λ (u : Tally). u.erases) q ∙ w.erased;
        bounds = subst (Bounds s most least most_bytes) (sym q) w.bounds;
      }

  -- in one
  ran_step : (img : List ℕ) (r : Record) (cs : List Call) (xs ys : List Step) (t : Tally) (x : Step) → (m img r step).image ≡ apply s x img
      → answer_of r ≡ More → rose img (apply s x img) ≡ is_erase x
      → Ran (m img r step).image (m img r step).board cs (xs ++ (x ∷ [])) (erasing (is_erase x) t) ys → Ran img r (step ∷ cs) xs t (x ∷ ys)
  ran_step img r cs xs ys t x i a o w =
      let q = counted_as img r cs t (erasing (is_erase x) t) (ap (λ (b : Bool). erasing b t) (ap (rose img) i ∙ o)) in
      record {
        told = told_step x i (made_one r.phase a) w.told;
        level = level-on xs ys x w.level;
        erased = ap (λ (u : Tally). u.erases) q ∙ w.erased ∙ erased-by x t ys;
        bounds = subst (Bounds s most least most_bytes) (sym q) w.bounds;
      }

  -- what a request leaves to do
  module _ (img : List ℕ) (by : Bytes img) (e : size_of N img ≡ s) (r : Record) (xs : List Step) (t : Tally) (h : Host) (msg reply : List ℕ) (bm : Bytes msg)
      (other : (m img r (request h msg reply)).answer ≡ More → Means msg Convert → ⊥)
      (claims : (m img r (request h msg reply)).answer ≡ More → (x : Journal) → Fresh N img r x → size_of N img < r.rest.end + frame_bytes (reads_in r) msg
      → claimed_of x ≤ most) where
    abbrev asks : Call
    asks = request h msg reply

    abbrev after_it : Tally
    after_it = tallied img r asks (m img r asks) t

    same_tally : ((m img r asks).answer ≡ More → ⊥) → after_it ≡ t
    same_tally f = counts-none (m img r asks).answer (frame_bytes (reads_in r) msg) t f

    request_leaves : (left after : List Step) → Going img r xs t left → LeavesToDo N m img r left asks after → Going img (m img r asks).board xs after_it after
    request_leaves [] after g (begins w a j) =
        subst (λ (u : Tally). Going img (m img r asks).board xs u w.steps) (sym (ap (λ (b : Answer). answered b (frame_bytes (reads_in r) msg) t) a))
        (going img (m img r asks).board xs (accepting (frame_bytes (reads_in r) msg) t) w.steps
        (accepts img by e r xs t g h msg reply bm a w j (other a) (claims a)))
    request_leaves [] after g (goes_on f) = subst₂ (Resting xs) (sym (same_tally f)) (sym (leaves_record p img by r h msg reply bm f)) g
    request_leaves (x ∷ ys) after g (begins w a j) = absurd ((busy_stays p img by r h msg reply g.follows.0).0 a)
    request_leaves (x ∷ ys) after g (goes_on f) =
        subst₂ (λ (u : Tally) (q : Record). Working img q xs u (x ∷ ys)) (sym (same_tally f)) (sym (leaves_record p img by r h msg reply bm f)) g

    request_there : (left : List Step) → Going img r xs t left → (after : List Step) × LeavesToDo N m img r left asks after
    request_there [] g = request_some p img by r g.rests h msg reply bm
    request_there (x ∷ ys) g = (x ∷ ys, goes_on (busy_stays p img by r h msg reply g.follows.0).0)

  pub runs : (img : List ℕ) (r : Record) (xs left : List Step) (t : Tally) → Bytes img → size_of N img ≡ s → Going img r xs t left → (cs : List Call)
      → RequestRun m img r cs → ClaimedAtMost N m most img r cs → Runs img r left cs xs t
  runs img r xs left t by e g [] u c = (([], refl), λ ys d. ran_ends img r xs left ys t g d)
  runs img r xs [] t by e g (step ∷ cs) u c =
      let a : m img r step ≡ out Done img r [] = p.rests img r g.rests in
      let i : (m img r step).image ≡ img = ap (λ (o : Out). o.image) a in
      let w = runs (m img r step).image (m img r step).board xs [] t (subst Bytes (sym i) by) (ap (size_of N) i ∙ e)
      (subst (Resting xs t) (sym (ap (λ (o : Out). o.board) a)) g) cs u c in
      (w.0, λ ys d. ran_idle img r cs xs ys t g.rests (w.1 ys d))
  runs img r xs (x ∷ ys) t by e g (step ∷ cs) u c =
      let next : Record = g.follows.1.0 in
      let f : m img r step ≡ out (answer_of next) (apply (size_of N img) x img) next [] = g.follows.1.1 in
      let i : (m img r step).image ≡ apply s x img = ap (λ (o : Out). o.image) f ∙ ap (λ (k : ℕ). apply k x img) e in
      let b : (m img r step).board ≡ next = ap (λ (o : Out). o.board) f in
      let y : Going (apply s x img) next (xs ++ (x ∷ [])) (erasing (is_erase x) t) ys =
      going (apply s x img) next (xs ++ (x ∷ [])) (erasing (is_erase x) t) ys
      (record {
        last = g.last;
        ends_idle = g.ends_idle;
        follows = subst (λ (l : List ℕ). Follows N m l next ys g.last) (ap (λ (k : ℕ). apply k x img) e) g.follows.1.2;
        leads = g.leads.1;
        edition = g.edition;
        counts = g.counts.2;
      }) in
      let w = runs (m img r step).image (m img r step).board (xs ++ (x ∷ [])) ys (erasing (is_erase x) t) (subst Bytes (sym i) (bytes-apply s x img by))
      (ap (size_of N) i ∙ ap (size_in N) (length-apply s x img) ∙ e)
      (subst₂ (λ (l : List ℕ) (q : Record). Going l q (xs ++ (x ∷ [])) (erasing (is_erase x) t) ys) (sym i) (sym b) y) cs u c in (
        (x ∷ w.0.0, (w.0.0, refl, w.0.1)),
        λ zs (ws, d, z). subst (Ran img r (step ∷ cs) xs t) (sym d) (ran_step img r cs xs ws t x i g.follows.0 g.counts.1 (w.1 ws z)),
      )
  runs img r xs left t by e g (request h msg reply ∷ cs) (bm, other, u) (claims, c) =
      let q : Call = request h msg reply in
      let i : (m img r q).image ≡ img = p.one-step img r q in
      let v : Tally = tallied img r q (m img r q) t in
      let w : (after : List Step) → LeavesToDo N m img r left q after → Runs (m img r q).image (m img r q).board after cs xs v =
      λ after d. runs (m img r q).image (m img r q).board xs after v (subst Bytes (sym i) by) (ap (size_of N) i ∙ e)
      (subst (λ (l : List ℕ). Going l (m img r q).board xs v after) (sym i)
      (request_leaves img by e r xs t h msg reply bm other claims left after g d)) cs u c in
      let y = request_there img by e r xs t h msg reply bm other claims left g in
      let f = (w y.0 y.1).0 in
      ((f.0, (y.0, y.1, f.1)), λ ys (after, d, z). ran_past img r cs xs ys t h msg reply ((w after d).1 ys z))
  runs img r xs left t by e g (mount ∷ cs) u c = absurd u
  runs img r xs left t by e g (format ∷ cs) u c = absurd u
