-- The customer's two tickets hold of every machine that keeps the promise.
use mathlib.Core.Path.{◌≡◌, refl, sym, ap, ap₂, subst, subst₂, ◌∙◌}
use mathlib.Core.List.{List, [], ◌∷◌, ◌++◌}
use mathlib.Core.Bool.{Bool, true, false}
use mathlib.Core.Logic.{◌⊎◌, inl, inr}
use mathlib.Core.Option.{Option, none, some}
use Prim.Native.Nat.{ℕ, zero, suc, ◌+◌, ◌≤◌, ◌<◌}
use native.Mathlib.Nat.{le_refl}
use native.Mathlib.Omega.{arith}
use lib.Dec.{ltb}
use lib.ListN.{length}
use lib.Seq.{take_all}
use borrow.Author.Tests.{ltb-true, ltb-false}
use Rattle.flash.specs.Bytes.{Bytes}
use Rattle.flash.specs.Flash.{Step, apply_all, block, size_of}
use Rattle.flash.proofs.Cases.{on_test}
use Rattle.frame.specs.declared.Host.{Host}
use Rattle.frame.specs.Frame.{Change}
use Rattle.journal.specs.Replay.{Object, State, change_all}
use Rattle.journal.specs.Block.{Journal, block_state}
use Rattle.wire.specs.declared.Answer.{Answer}
use Rattle.wire.specs.declared.Answer.TheVariants.{Done, More, Refused}
use Rattle.wire.specs.declared.Request.{Request}
use Rattle.wire.specs.declared.Request.TheVariants.{Commit}
use Rattle.wire.specs.Message.{Parsed}
use Rattle.wire.specs.Answer.{number_of}
use Rattle.board.specs.declared.Phase.{Phase}
use Rattle.board.specs.declared.Phase.TheVariants.{Idle}
use Rattle.board.specs.declared.Record.{Record}
use Rattle.board.specs.Record.{allowed, Out, out, Accepted}
use Rattle.board.specs.Mount.{Store, replay_of}
use Rattle.board.specs.Queue.{asking}
use Rattle.board.specs.Exec.{Machine, Call, request, step, mount, format}
use Rattle.board.specs.Plan.{Work, mount_work, frame_work, convert_work}
use Rattle.board.specs.Table.{Task, idles, appends, converts, task_for, Fresh}
use Rattle.board.specs.Demand1.{Unchanged, Rests}
use Rattle.board.specs.Demand2.{Mounts, OneStore}
use Rattle.board.specs.Book.{Book, book, nothing, no_lists, with_list, first_book, enter_step, enter_request, enter_parsed}
use Rattle.board.specs.Book as books
use Rattle.board.specs.Claim.{IdleAgrees, AgreesIn, Agrees, track, Event, call, steps_on, formatted, HappensFrom, Claim, Track, tracked}
use Rattle.board.specs.CutFormat.{Left, after_all, left_by_of}
use Rattle.wire.specs.Sentences.{Means, MessagesExact}
use Rattle.board.specs.Promise.{Answers, Serves, Job, frame_job, mount-job, StepsOf, Calls, Promise, Shown, convert-job}
use Rattle.board.specs.Tickets.{outcomes, strike, IsRefused, MarksRefused, Restores, committing, TicketsSettled}
use Rattle.wire.proofs.Sentences.{messages_exact}
use Rattle.board.proofs.Erasing.{same-valid}
use Rattle.board.proofs.Images.{length-all-steps, bytes-all-steps}
use Rattle.board.proofs.Freshness.{fresh-valid}
use Rattle.board.proofs.Answering.{number-done}
use Rattle.board.proofs.TablingMounts.{Mountable, mounts-current, same_store}
use Rattle.board.proofs.Determining.{mounted-idle, job-idle, Asked, mount_takes, mount_allowed, mount_agrees, more_asks, request_means}
use Rattle.board.proofs.Following.{left_by}
use Rattle.board.proofs.Runs.{stepping, after-append, HappensAfter, happens_append, happens_first, happens_rest, steps_happen, run_rest, steps_agree}

-- ---- 1

module _ {N : ℕ} {m : Machine} (p : Calls N m) where
  malformed_refused : (img : List ℕ) (r : Record) (h : Host) (msg reply : List ℕ) → Bytes img → ((q : Request) → Means msg q → ⊥)
      → IsRefused (request h msg reply) (m img r (request h msg reply)).answer
  malformed_refused img r h msg reply by f = go (m img r (request h msg reply)).answer refl
    where
      taken : Accepted (m img r (request h msg reply)).answer → ⊥
      taken a = let y = request_means p img by r h msg reply a in f y.0 y.1

      go : (a : Answer) → (m img r (request h msg reply)).answer ≡ a → IsRefused (request h msg reply) (m img r (request h msg reply)).answer
      go Done e = absurd (taken (subst Accepted (sym e) tt))
      go More e = absurd (taken (subst Accepted (sym e) tt))
      go (Refused n) e = (n, e)

  -- a refused request gives back what came in
  refused_same : (img : List ℕ) (r : Record) (c : Call) → IsRefused c (m img r c).answer → ((m img r c).image ≡ img) × ((m img r c).board ≡ r)
  refused_same img r (request h msg reply) (n, e) =
      let u : m img r (request h msg reply) ≡ Unchanged img r (request h msg reply) n = p.untouched img r (request h msg reply) n e in
      (ap (λ (o : Out). o.image) u, ap (λ (o : Out). o.board) u)
  refused_same img r step y = absurd y
  refused_same img r mount y = absurd y
  refused_same img r format y = absurd y

  nobody_disturbed : (img : List ℕ) (r : Record) (marks : List Bool) (cs : List Call) → MarksRefused m img r marks cs
      → outcomes m img r (strike marks cs) ≡ strike marks (outcomes m img r cs)
  nobody_disturbed img r [] cs y = refl
  nobody_disturbed img r (b ∷ bs) [] y = refl
  nobody_disturbed img r (true ∷ bs) (c ∷ cs) (x, y) =
      let s : ((m img r c).image ≡ img) × ((m img r c).board ≡ r) = refused_same img r c x in
      ap₂ (λ (i : List ℕ) (q : Record). outcomes m i q (strike bs cs)) (sym s.0) (sym s.1)
      ∙ nobody_disturbed (m img r c).image (m img r c).board bs cs y
  nobody_disturbed img r (false ∷ bs) (c ∷ cs) y =
      ap (λ (os : List Out). m img r c ∷ os) (nobody_disturbed (m img r c).image (m img r c).board bs cs y)

done_more : {P : Type 0} (a : Answer) → number_of a ≡ some 0 → a ≡ More → P
done_more a e f = let w : ◌≡◌ {A = Option ℕ} (some 0) none = sym e ∙ ap number_of f in let z : ◌≡◌ {A = ℕ} 0 1 = cc in absurd (omega arith)

-- ---- step calls of a run

-- with nothing under way step calls leave the book
quiet_step : (os : List Object) (l : Host → List Change) (a : Answer) → enter_step (book os l nothing) a ≡ book os l nothing
quiet_step os l Done = refl
quiet_step os l More = refl
quiet_step os l (Refused n) = refl

abbrev left_as : Out → Book → Left
left_as o b = record { image = o.image; board = o.board; book = b }

quiet-steps : (N : ℕ) (m : Machine) (n : ℕ) (o : Out) (os : List Object) (l : Host → List Change)
    → after_all N m o.image o.board (book os l nothing) (stepping n) ≡ left_as (steps_on m n o) (book os l nothing)
quiet-steps N m zero o os l = refl
quiet-steps N m (suc n) o os l =
    let x : Out = m o.image o.board step in
    ap (λ (b : Book). after_all N m x.image x.board b (stepping n)) (quiet_step os l x.answer) ∙ quiet-steps N m n x os l

-- a step call that answers more leaves it too
more-steps : (N : ℕ) (m : Machine) (n : ℕ) (o : Out) (b : Book) → ((j : ℕ) → j < n → (steps_on m (suc j) o).answer ≡ More)
    → (after_all N m o.image o.board b (stepping n)).book ≡ b
more-steps N m zero o b f = refl
more-steps N m (suc n) o b f =
    let x : Out = m o.image o.board step in
    ap (λ (a : Answer). (after_all N m x.image x.board (enter_step b a) (stepping n)).book) (f zero (omega arith))
    ∙ more-steps N m n x b (λ j h. f (suc j) (omega arith))

-- the book once a commit under way is done
abbrev settled : Book → Host → Book
settled b h = book (change_all (b.lists h) b.objects) (with_list b.lists h []) nothing

abbrev begun : Book → Host → Book
begun b h = book b.objects b.lists (books.committing h)

-- n steps that answer more, one that answers 0, and t of them in all
done-steps : (N : ℕ) (m : Machine) (n t : ℕ) (o : Out) (b : Book) (h : Host) → n < t → ((j : ℕ) → j < n → (steps_on m (suc j) o).answer ≡ More)
    → (steps_on m (suc n) o).answer ≡ Done → (after_all N m o.image o.board (begun b h) (stepping t)).book ≡ settled b h
done-steps N m n zero o b h l f e = absurd (omega arith)
done-steps N m zero (suc t) o b h l f e =
    let x : Out = m o.image o.board step in
    ap (λ (a : Answer). (after_all N m x.image x.board (enter_step (begun b h) a) (stepping t)).book) e
    ∙ ap (λ (l : Left). l.book) (quiet-steps N m t x (settled b h).objects (settled b h).lists)
done-steps N m (suc n) (suc t) o b h l f e =
    let x : Out = m o.image o.board step in
    ap (λ (a : Answer). (after_all N m x.image x.board (enter_step (begun b h) a) (stepping t)).book) (f zero (omega arith))
    ∙ done-steps N m n t x b h (omega arith) (λ j l. f (suc j) (omega arith)) e

-- steps of a record in no job
rest-steps : {N : ℕ} {m : Machine} → Calls N m → (d : ℕ) (o : Out) → Rests o.board.phase → o.answer ≡ Done → (steps_on m d o).answer ≡ Done
rest-steps p zero o h e = e
rest-steps {N} {m} p (suc d) o h e =
    let x : m o.image o.board step ≡ out Done o.image o.board [] = p.rests o.image o.board h in
    rest-steps p d (m o.image o.board step) (subst (λ (w : Out). Rests w.board.phase) (sym x) h) (ap (λ (w : Out). w.answer) x)

late-steps : {N : ℕ} {m : Machine} → Calls N m → (n t : ℕ) (o : Out) → n ≤ t → Rests (steps_on m n o).board.phase → (steps_on m n o).answer ≡ Done
    → (steps_on m t o).answer ≡ Done
late-steps p zero t o h r e = rest-steps p t o r e
late-steps p (suc n) zero o h r e = absurd (omega arith)
late-steps {N} {m} p (suc n) (suc t) o h r e = late-steps p n t (m o.image o.board step) (omega arith) r e

-- ---- a request that answers more

-- a commit under way, by k of its steps: 0 was answered and the book has settled the list, or not yet
abbrev BookSteps : ℕ → Machine → Out → Book → Host → ℕ → Type 0
BookSteps N m o b h k =
    ((number_of (steps_on m k o).answer ≡ some 0) × ((after_all N m o.image o.board (begun b h) (stepping k)).book ≡ settled b h))
    ⊎ (((steps_on m k o).answer ≡ More) × ((after_all N m o.image o.board (begun b h) (stepping k)).book ≡ begun b h))

plan-book : {N : ℕ} {m : Machine} → Calls N m → (i : List ℕ) (o : Out) (plan : List Step) (z : Record)
    → StepsOf N m i o (record { steps = plan; last = z }) → z.phase ≡ Idle → o.answer ≡ More
    → (b : Book) (h : Host) (k : ℕ) → BookSteps N m o b h k
plan-book p i o [] z st e a b h k = done_more o.answer st.done a
plan-book {N} {m} p i o (x ∷ xs) z st e a b h k =
    on_test (ltb k (suc n))
    (λ t. let l : k < suc n = ltb-true k (suc n) t in inr (st.more k l, more-steps N m k o (begun b h) (λ j v. st.more (suc j) (omega arith))))
    (λ t. let l : suc n ≤ k = ltb-false k (suc n) t in
    inl (
      ap number_of (late-steps p (suc n) k o l (subst (λ (w : Record). Rests w.phase) (sym st.last) (subst Rests (sym e) tt)) done),
      done-steps N m n k o b h (omega arith) (λ j v. st.more (suc j) (omega arith)) done,
    ))
  where
    n : ℕ
    n = length xs

    done : (steps_on m (suc n) o).answer ≡ Done
    done = number-done (steps_on m (suc n) o).answer st.done

book-steps : {N : ℕ} {m : Machine} (p : Promise N m) (i : List ℕ) → Bytes i → (w : Record) (h : Host) (msg reply : List ℕ) → Bytes msg
    → (m i w (request h msg reply)).answer ≡ More → (b : Book) (k : ℕ) → BookSteps N m (m i w (request h msg reply)) b h k
book-steps {N} {m} p i bi w h msg reply bm e b k = go (task_for h msg x q) refl serves.answers
  where
    o : Out
    o = m i w (request h msg reply)

    taken : Accepted o.answer
    taken = subst Accepted (sym e) tt

    y : Asked N i w msg
    y = more_asks p.calls i bi w h msg reply bm e

    x : Journal
    x = y.holding

    q : Request
    q = y.asked

    serves : Serves (asking N i w h msg reply) x q o
    serves = p.calls.serves i w h msg reply x q bi bm y.is_held y.is_asked taken

    go : (f : Task) → task_for h msg x q ≡ f → Answers f w o → BookSteps N m o b h k
    go idles g a = done_more o.answer a.0 e
    go (appends f) g a =
        let v : Work = frame_work N i w x f in
        let job : Job N i w (request h msg reply) v = frame_job h msg reply x q f y.is_held y.is_asked g in
        plan-book p.calls i o v.steps v.last (p.steps i w (request h msg reply) v bi bm job taken) (job-idle job) e b h k
    go converts g a =
        let v : Work = convert_work N i w x in
        let job : Job N i w (request h msg reply) v = convert-job h msg reply x q y.is_held y.is_asked g in
        plan-book p.calls i o v.steps v.last (p.steps i w (request h msg reply) v bi bm job taken) (job-idle job) e b h k

-- ---- 2

-- a mount of image i, whose steps leave a record that agrees with the objects os
module _ {N : ℕ} {m : Machine} (p : Promise N m) (i : List ℕ) (bi : Bytes i) (w : Record) (os : List Object)
    (agrees : (n : ℕ) → let o : Out = steps_on m n (m i w mount) in (u : Track) × Agrees N m mount u o.image o.board (book os no_lists nothing))
    (q : Record) (a : Accepted (m i q mount).answer) where
  store : Mountable N i
  store = mount_takes p.calls i bi q a

  abbrev work : Work
  work = mount_work N i store.store

  abbrev plan : List Step
  plan = work.steps

  abbrev z : Record
  z = work.last

  abbrev after : List ℕ
  after = apply_all (size_of N i) plan i

  job : (v : Record) → Job N i v mount work
  job v = mount-job store.store store.current

  steps : (v : Record) → Accepted (m i v mount).answer → StepsOf N m i (m i v mount) work
  steps v b = p.steps i v mount work bi tt (job v) b

  image-after : (v : Record) → Accepted (m i v mount).answer → (steps_on m (length plan) (m i v mount)).image ≡ after
  image-after v b =
      (steps v b).images (length plan) (le_refl (length plan))
      ∙ ap (λ (ys : List Step). apply_all (size_of N i) ys i) (take_all (length plan) plan (le_refl (length plan)))

  -- whatever record it is given
  accepted_too : Accepted (m i w mount).answer
  accepted_too = subst Accepted (ap (λ (s : Shown). s.answer) (mount_agrees p.calls p.calls i bi q w).same) a

  abbrev known : Track
  known = (agrees (length plan)).0

  idle_agrees : IdleAgrees N known after z (book os no_lists nothing)
  idle_agrees =
      subst (λ (h : Phase). AgreesIn N m mount known h after z (book os no_lists nothing))
      (mounted-idle N i store.store)
      (subst₂ (λ (l : List ℕ) (v : Record). Agrees N m mount known l v (book os no_lists nothing)) (image-after w accepted_too) (steps w accepted_too).last
      (agrees (length plan)).1)

  none_pending : (replay_of idle_agrees.journal).pending ≡ []
  unfolding OneStore
  none_pending =
      let ok : allowed N (length i) ≡ true = mount_allowed p.calls i bi q a in
      let y : Mounts N m i (m i q mount) = p.one_store i q bi ok a in
      let e : y.store ≡ store.store = same_store i bi ok y.store store.store (mounts-current i bi ok (m i q mount) y) store.current in
      let fresh : Fresh N after z y.holding =
      subst (λ (s : Store). Fresh N (apply_all (size_of N i) (mount_work N i s).steps i) (mount_work N i s).last y.holding) e y.is_fresh in
      let g : y.holding ≡ idle_agrees.journal =
      same-valid (sym (fresh-valid N after z y.holding (bytes-all-steps (size_of N i) plan i bi)
      (ap (allowed N) (length-all-steps (size_of N i) plan i) ∙ ok) fresh) ∙ idle_agrees.is-valid) in
      sym (ap (λ (w : Journal). (replay_of w).pending) g) ∙ ap (λ (s : State). s.pending) y.holds

  mount_restores : Restores N m (m i q mount) os
  mount_restores =
      record {
        count = length plan;
        short = subst (λ (l : List ℕ). length plan ≤ size_of N l + N) (sym (p.calls.one-step i q mount))
            (let l = (p.calls.jobs i q mount work bi tt (job q) a).1 in omega (arith, l.0, l.1));
        more = (steps q a).more;
        done = (steps q a).done;
        journal = idle_agrees.journal;
        is-valid = ap₂ (λ (l : List ℕ) (v : Record). block_state (block (size_of N l) v.rest.block l)) (image-after q a) (steps q a).last
            ∙ idle_agrees.is-valid;
        is_clean = idle_agrees.is_clean;
        objects = idle_agrees.objects;
        nothing_pending = none_pending;
      }

module _ {N : ℕ} {m : Machine} (p : Promise N m) (img : List ℕ) (r : Record) (by : Bytes img) (ok : allowed N (length img) ≡ true) where
  -- a run that goes on with a mount and n of its steps
  mounted_agrees : (es : List Event) → HappensFrom N m img r es → (n : ℕ)
      → let x : Left = left_by_of N m img r es in let o : Out = steps_on m n (m x.image x.board mount) in
      (u : Track) × Agrees N m mount u o.image o.board (book x.book.objects no_lists nothing)
  unfolding Claim
  mounted_agrees es hs n =
      let x : Left = left_by_of N m img r es in
      let o : Out = m x.image x.board mount in
      let b : Book = book x.book.objects no_lists nothing in
      let ds : List Event = call mount ∷ stepping n in
      let all : HappensFrom N m img r (es ++ ds) =
      happens_append N m (formatted N m img r).image (formatted N m img r).board first_book es ds hs tt (tt, steps_happen N m n o.image o.board b) in
      let y = run_rest N m (formatted N m img r).image (formatted N m img r).board first_book (tracked false false) format es ds
      ((p.claim img r by ok).3 (es ++ ds) all) in
      subst (λ (l : Left). (u : Track) × Agrees N m mount u l.image l.board l.book) (quiet-steps N m n o x.book.objects no_lists)
      (steps_agree N m n o.image o.board b (track (size_of N x.image) y.0 x.book mount o.answer) mount y.2.1 y.2.2)

  restores : (es : List Event) → HappensFrom N m img r es → (q : Record) → let x : Left = left_by_of N m img r es in
      Accepted (m x.image q mount).answer → Restores N m (m x.image q mount) x.book.objects
  restores es hs q a =
      let x : Left = left_by_of N m img r es in
      mount_restores p x.image (left_by p.calls img r by es hs).bytes x.board x.book.objects (mounted_agrees es hs) q a

  -- the book after a commit that has steps to do
  entered : (b : Book) (h : Host) (msg : List ℕ) (a : Answer) → a ≡ More → Means msg Commit
      → enter_request b h msg a ≡ book b.objects b.lists (books.committing h)
  unfolding MessagesExact
  entered b h msg a e k =
      ap (enter_request b h msg) e ∙ ap (λ (w : Parsed). enter_parsed b h msg w More) ((messages_exact msg Commit).1 k)

  commit_left : (es : List Event) (h : Host) (msg reply : List ℕ) (k : ℕ) → Means msg Commit → let x : Left = left_by_of N m img r es in
      let o : Out = m x.image x.board (request h msg reply) in o.answer ≡ More
      → (left_by_of N m img r (committing es h msg reply k)).book ≡ (after_all N m o.image o.board (begun x.book h) (stepping k)).book
  commit_left es h msg reply k y e =
      let x : Left = left_by_of N m img r es in
      let o : Out = m x.image x.board (request h msg reply) in
      ap (λ (l : Left). l.book)
      (after-append N m (formatted N m img r).image (formatted N m img r).board first_book es (call (request h msg reply) ∷ stepping k))
      ∙ ap (λ (b : Book). (after_all N m o.image o.board b (stepping k)).book) (entered x.book h msg o.answer e y)

  whole_or_not : (es : List Event) (h : Host) (msg reply : List ℕ) (k : ℕ) (q : Record) → HappensFrom N m img r (committing es h msg reply k)
      → Means msg Commit → let x : Left = left_by_of N m img r es in let y : Left = left_by_of N m img r (committing es h msg reply k) in
      let o : Out = m x.image x.board (request h msg reply) in
      o.answer ≡ More → Accepted (m y.image q mount).answer
      → ((number_of (steps_on m k o).answer ≡ some 0) × Restores N m (m y.image q mount) (change_all (x.book.lists h) x.book.objects))
      ⊎ (((steps_on m k o).answer ≡ More) × Restores N m (m y.image q mount) x.book.objects)
  whole_or_not es h msg reply k q hs n e a =
      go (book-steps p x.image (left_by p.calls img r by es first).bytes x.board h msg reply rest.0 e x.book k)
    where
      x : Left
      x = left_by_of N m img r es

      y : Left
      y = left_by_of N m img r (committing es h msg reply k)

      ds : List Event
      ds = call (request h msg reply) ∷ stepping k

      first : HappensFrom N m img r es
      first = happens_first N m (formatted N m img r).image (formatted N m img r).board first_book es ds hs

      rest : HappensAfter N m (left_by_of N m img r es) ds
      rest = happens_rest N m (formatted N m img r).image (formatted N m img r).board first_book es ds hs

      o : Out
      o = m x.image x.board (request h msg reply)

      back : (b : Book) → (after_all N m o.image o.board (begun x.book h) (stepping k)).book ≡ b
          → Restores N m (m y.image q mount) b.objects
      back b f =
          subst (λ (w : Book). Restores N m (m y.image q mount) w.objects) (commit_left es h msg reply k n e ∙ f)
          (restores (committing es h msg reply k) hs q a)

      go : BookSteps N m o x.book h k
          → ((number_of (steps_on m k o).answer ≡ some 0) × Restores N m (m y.image q mount) (change_all (x.book.lists h) x.book.objects))
          ⊎ (((steps_on m k o).answer ≡ More) × Restores N m (m y.image q mount) x.book.objects)
      go (inl (f, g)) = inl (f, back (settled x.book h) g)
      go (inr (f, g)) = inr (f, back (begun x.book h) g)

-- ---- both

pub tickets_settled : TicketsSettled
tickets_settled =
    record {
      bad_log_length = λ N m p. record { refused = malformed_refused p.calls; undisturbed = nobody_disturbed p.calls };
      power_cuts = λ N m p.
          record {
            restores = λ img r es q by ok hs a. restores p img r by ok es hs q a;
            whole_or_not = λ img r es h msg reply k q by ok hs n e a. whole_or_not p img r by ok es h msg reply k q hs n e a;
          };
    }
