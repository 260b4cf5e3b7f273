-- What follows from the clauses on each call: a machine that keeps them shows what the machine of document 01 does, so that all that is
-- proved of its runs holds of it too.
use mathlib.Core.Path.{◌≡◌, refl, sym, ap, subst, subst₂, ◌∙◌}
use mathlib.Core.List.{List, [], ◌∷◌}
use mathlib.Core.Option.{Option, none, some}
use mathlib.Core.Bool.{false}
use Prim.Native.Nat.{ℕ, ◌+◌, zero, suc}
use native.Mathlib.Omega.{arith}
use lib.ListN.{length, take}
use Rattle.flash.specs.Bytes.{Bytes}
use Rattle.flash.specs.Flash.{Step, apply_all, size_of, with_block}
use Rattle.flash.proofs.Raising.{bytes_with_lem}
use Rattle.journal.specs.Replay.{lookup}
use Rattle.wire.specs.declared.Answer.{Answer}
use Rattle.wire.specs.declared.Answer.TheVariants.{Done, More}
use Rattle.wire.specs.declared.Request.TheVariants.{Put, Delete, Commit, Abort, Read, Log, Convert}
use Rattle.wire.specs.Message.{Parsed, parse}
use Rattle.std.specs.Prelude.{Some, None}
use Rattle.wire.specs.Answer.{number_of}
use Rattle.board.specs.declared.Phase.{Phase}
use Rattle.board.specs.declared.Phase.TheVariants.{Unmounted, Idle, Busy}
use Rattle.board.specs.declared.Record.{Record}
use Rattle.board.specs.Record.{Out, answer_in, answer_of}
use Rattle.board.specs.Exec.{Machine, Call, request, step, mount, format, exec}
use Rattle.board.specs.Plan.{Follows, Work, Performs}
use Rattle.board.specs.Demand1.{Rests}
use Rattle.board.specs.Demand2.{Accepted}
use Rattle.board.specs.Book.{Book, first_book, enter_call}
use Rattle.board.specs.Table.{InJob}
use Rattle.board.specs.Claim.{AgreesIn, Agrees, ReadSays, RequestSays, Says, track, ByteCall, Event, call, cut_erase, CutsErase, Happens}
use Rattle.board.specs.Claim.{begun_by, Run, steps_on, formatted, HappensFrom, Claim, Track, tracked}
use Rattle.board.specs.CutFormat.{Left, after_all, left_by_of, Leaves, CutFormat}
use Rattle.board.specs.Promise.{Job, frame_job, mount-job, format-job, StepsOf, Calls, Shown, shown, convert-job}
use Rattle.board.proofs.Keeping.{more-busy}
use Rattle.board.proofs.Claiming.{claim}
use Rattle.board.proofs.CutFormat.{cut_format}
use Rattle.board.proofs.Stepping.{follows_steps, follows_part, follows_more}
use Rattle.board.proofs.Answering.{told-answer, in_job}
use Rattle.board.proofs.Alike.{Alike, resting, working, Agree}
use Rattle.board.proofs.Determining.{job-idle, call_agrees, format_agrees, begun_agrees}
use Rattle.board.proofs.Finishing.{Ends, idle-ends, call_ends, restart_ends}
use Rattle.board.proofs.Promising.{calls}

-- ---- the k-th step call

done-idle : (z : Record) → z.phase ≡ Idle → number_of (answer_of z) ≡ some 0
done-idle z e = ap (λ (p : Phase). number_of (answer_in p)) e

-- a plan's steps, made by the calls that follow an outcome that tells its record
plan-steps : {N : ℕ} (m : Machine) (img : List ℕ) (o : Out) (w : Work) → o.image ≡ img → o.answer ≡ answer_of o.board → w.last.phase ≡ Idle
    → Performs N m img o.board w → StepsOf N m img o w
plan-steps {N} m img o w i a e f =
    let plan : List Step = w.steps in
    let g : Follows N m o.image o.board plan z = subst (λ (x : List ℕ). Follows N m x o.board plan z) (sym i) f in
    record {
      images = λ n l. follows_part N m (size_of N img) n plan o z (ap (size_of N) i) l g ∙ ap (apply_all (size_of N img) (take n plan)) i;
      more = λ n l. follows_more N m n plan o z a l g;
      done = ends plan g;
      last = lasts plan g;
    }
  where
    z : Record
    z = w.last

    ends : (xs : List Step) → Follows N m o.image o.board xs z → number_of (steps_on m (length xs) o).answer ≡ some 0
    ends [] g = ap number_of (a ∙ ap answer_of g) ∙ done-idle z e
    ends (x ∷ xs) g = ap (λ (q : Out). number_of q.answer) (follows_steps N m (x ∷ xs) x xs refl (size_of N img) o z (ap (size_of N) i) g) ∙ done-idle z e

    lasts : (xs : List Step) → Follows N m o.image o.board xs z → (steps_on m (length xs) o).board ≡ z
    lasts [] g = g
    lasts (x ∷ xs) g = ap (λ (q : Out). q.board) (follows_steps N m (x ∷ xs) x xs refl (size_of N img) o z (ap (size_of N) i) g)

module _ {N : ℕ} {m : Machine} (p : Calls N m) where
  -- a job is no step's
  job_image : {img : List ℕ} {r : Record} {c : Call} {w : Work} → Job N img r c w → (m img r c).image ≡ img
  job_image {img} {r} (frame_job h msg reply x q f v k g) = p.one-step img r (request h msg reply)
  job_image {img} {r} (convert-job h msg reply x q v k g) = p.one-step img r (request h msg reply)
  job_image {img} {r} (mount-job x v) = p.one-step img r mount
  job_image {img} {r} format-job = p.one-step img r format

  job_tells : {img : List ℕ} {r : Record} {c : Call} {w : Work} → Job N img r c w → Accepted (m img r c).answer
      → (m img r c).answer ≡ answer_of (m img r c).board
  job_tells {img} {r} {c} (frame_job h msg reply x q f v k g) a = told-answer (m img r c) (p.told img r c a (λ _. tt)) a
  job_tells {img} {r} {c} (convert-job h msg reply x q v k g) a = told-answer (m img r c) (p.told img r c a (λ _. tt)) a
  job_tells {img} {r} {c} (mount-job x v) a = told-answer (m img r c) (p.told img r c a (λ _. tt)) a
  job_tells {img} {r} {c} format-job a = told-answer (m img r c) (p.told img r c a (λ _. tt)) a

  pub job_steps : (img : List ℕ) (r : Record) (c : Call) (w : Work) → Bytes img → ByteCall c → Job N img r c w
      → Accepted (m img r c).answer → StepsOf N m img (m img r c) w
  job_steps img r c w by bc j a =
      plan-steps m img (m img r c) w (job_image j) (job_tells j a) (job-idle j) (p.jobs img r c w by bc j a).0

-- ---- what a call says is what it shows

abbrev out_of : Shown → Record → Out
out_of s r = record { answer = s.answer; image = s.image; board = r; reply = s.reply; stretch = s.stretch }

read-shown : (s : Shown) (r q : Record) (v : Option (List ℕ)) → ReadSays (out_of s r) v → ReadSays (out_of s q) v
read-shown s r q none y = y
read-shown s r q (some v) y = y

request-shown : (z : Record) (w : Parsed) (reply : List ℕ) (s : Shown) (r q : Record) (b : Book) → RequestSays z w reply (out_of s r) b
    → RequestSays z w reply (out_of s q) b
request-shown z None reply s r q b y = y
request-shown z (Some (Put i)) reply s r q b y = tt
request-shown z (Some (Delete i)) reply s r q b y = tt
request-shown z (Some Commit) reply s r q b y = tt
request-shown z (Some Abort) reply s r q b y = tt
request-shown z (Some (Read i)) reply s r q b y = read-shown s r q (lookup i b.objects) y
request-shown z (Some (Log g)) reply s r q b y = y
request-shown z (Some Convert) reply s r q b y = record { some_pending = y.some_pending; none_pending = y.none_pending }

-- a record that is idle here is the same there
says-over : (N : ℕ) (img : List ℕ) (r q : Record) (b : Book) (u : Track) (c : Call) (o p : Out) → shown o ≡ shown p → (r.phase ≡ Idle → r ≡ q)
    → Says N img q b u c p → Says N img r b u c o
says-over N img r q b u (request h msg reply) o p e f (x, y, z) =
    let a : o.answer ≡ p.answer = ap (λ (s : Shown). s.answer) e in (
      (λ g. x (sym a ∙ g)),
      (λ g. y (sym a ∙ g)),
      (λ i k. request-shown r (parse msg) reply (shown o) p.board o.board b
          (subst₂ (λ (x : Record) (s : Shown). RequestSays x (parse msg) reply (out_of s p.board) b) (sym (f i)) (sym e)
          (z (sym (ap (λ (x : Record). x.phase) (f i)) ∙ i) k))),
    )
says-over N img r q b u step o p e f y = λ n g. y n (sym (ap (λ (s : Shown). s.answer) e) ∙ g)
says-over N img r q b u mount o p e f y =
    let a : o.answer ≡ p.answer = ap (λ (s : Shown). s.answer) e in
    record {
      never_foreign = λ k f g. y.never_foreign k f (sym a ∙ g);
      never_length = λ g. y.never_length (sym a ∙ g);
      no_store = λ g. y.no_store (sym a ∙ g);
      worn = λ g. y.worn (sym a ∙ g);
    }
says-over N img r q b u format o p e f y = ap (λ (s : Shown). s.answer) e ∙ y

-- ---- runs

module _ {N : ℕ} {m : Machine} (p : Calls N m) where
  abbrev Same : List ℕ → Record → Record → Type 0
  Same img r q = Alike N m (exec N) img r q

  abbrev Both : Out → Out → Type 0
  Both o x = Agree N m (exec N) o x

  same_idle : {img : List ℕ} {r q : Record} → Same img r q → r.phase ≡ Idle → r ≡ q
  same_idle (resting h e) i = e
  same_idle (working x xs z h f g) i = let w : Done ≡ More = sym (ap answer_in i) ∙ f.0 in let v : ◌≡◌ {A = ℕ} 0 1 = cc in absurd (omega arith)

  idle_same : {img : List ℕ} {r q : Record} → Same img r q → q.phase ≡ Idle → r.phase ≡ Idle
  idle_same (resting h e) i = ap (λ (x : Record). x.phase) e ∙ i
  idle_same (working x xs z h f g) i = let w : Done ≡ More = sym (ap answer_in i) ∙ g.0 in let v : ◌≡◌ {A = ℕ} 0 1 = cc in absurd (omega arith)

  at_rest : (s : Phase) (a : Call) (u : Track) (img : List ℕ) (q : Record) (b : Book) → Rests s → AgreesIn N (exec N) a u s img q b
      → AgreesIn N m a u s img q b
  at_rest Unmounted a u img q b h y = y
  at_rest Idle a u img q b h y = y
  at_rest (Busy s) a u img q b h y = absurd h

  agrees_over : (a : Call) (u : Track) (img : List ℕ) (r q : Record) (b : Book) → Same img r q → Ends N m a img r → Agrees N (exec N) a u img q b
      → Agrees N m a u img r b
  agrees_over a u img r q b (resting h e) d y = subst (λ (x : Record). Agrees N m a u img x b) (sym e) (at_rest q.phase a u img q b h y)
  agrees_over a u img r q b (working x xs z h f g) d y =
      let e : r.phase ≡ Busy (more-busy r.phase f.0).stage = (more-busy r.phase f.0).is in
      subst (λ (s : Phase). AgreesIn N m a u s img r b) (sym e) (d (subst InJob (sym e) tt))

  answers_over : {o x : Out} → Both o x → o.answer ≡ x.answer
  answers_over y = ap (λ (s : Shown). s.answer) y.same

  -- a cut inside an erase: the other machine erases there too
  cut_over : (img : List ℕ) (r q : Record) (b : Book) (k : ℕ) (new : List ℕ) → Bytes img → Same img r q → CutsErase N m img r b k new
      → CutsErase N (exec N) img q b k new
  cut_over img r q b k new by v c =
      record {
        in_job = busy v;
        no_format = c.no_format;
        there = c.there;
        erases = sym (call_agrees p calls img by r q v step tt).image ∙ c.erases;
        raised = c.raised;
      }
    where
      busy : Same img r q → InJob q.phase
      busy (resting h e) = subst (λ (x : Record). InJob x.phase) e c.in_job
      busy (working x xs z h f g) = in_job q.phase g.0

  pub cut_bytes : {img : List ℕ} {r : Record} {b : Book} {k : ℕ} {new : List ℕ} → Bytes img → CutsErase N m img r b k new
      → Bytes (with_block (size_of N img) k new img)
  cut_bytes {img} {r} {b} {k} {new} by c = bytes_with_lem (size_of N img) k new img c.raised.bytes by

  -- what holds by the image and the answer that the one gives back holds by those of the other
  carry : (P : List ℕ → Answer → Type 0) {o x : Out} → Both o x → P o.image o.answer → P x.image x.answer
  carry P w y = subst₂ P w.image (answers_over w) y

  carry_back : (P : List ℕ → Answer → Type 0) {o x : Out} → Both o x → P x.image x.answer → P o.image o.answer
  carry_back P w y = subst₂ P (sym w.image) (sym (answers_over w)) y

  pub happens_over : (img : List ℕ) (r q : Record) (b : Book) → Bytes img → Same img r q → (es : List Event) → Happens N m img r b es
      → Happens N (exec N) img q b es
  happens_over img r q b by v [] h = tt
  happens_over img r q b by v (call c ∷ es) (bc, h) =
      let o : Out = m img r c in
      let x : Out = exec N img q c in
      let w : Both o x = call_agrees p calls img by r q v c bc in (
        bc,
        carry (λ i a. Happens N (exec N) i x.board (enter_call b c a) es) w
            (happens_over o.image o.board x.board (enter_call b c o.answer) w.bytes w.next es h),
      )
  happens_over img r q b by v (cut_erase k new g ∷ []) (x, n, h) = (cut_over img r q b k new by v x, n, h)
  happens_over img r q b by v (cut_erase k new g ∷ call c ∷ es) (y, n, (bc, h)) =
      let i : List ℕ = with_block (size_of N img) k new img in
      let o : Out = m i g c in
      let x : Out = exec N i g c in
      let w : Both o x = begun_agrees p calls i g g c (cut_bytes by y) n in (
        cut_over img r q b k new by v y,
        n,
        (
          bc,
          carry (λ l a. Happens N (exec N) l x.board (enter_call b c a) es) w
              (happens_over o.image o.board x.board (enter_call b c o.answer) w.bytes w.next es h),
        ),
      )
  happens_over img r q b by v (cut_erase k new g ∷ cut_erase j more y ∷ es) (x, n, h) = absurd n

  -- a call that both answer alike says of the one what it says of the other, and so on from there
  run_over : (img : List ℕ) (r q : Record) (b : Book) (u : Track) (a : Call) → Bytes img → Same img r q → Ends N m a img r → (es : List Event)
      → Happens N m img r b es
      → Run N (exec N) img q b u a es → Run N m img r b u a es
  run_over img r q b u a by v t [] h y = tt
  run_over img r q b u a by v t (call c ∷ es) (bc, h) (s, y, z) =
      let o : Out = m img r c in
      let x : Out = exec N img q c in
      let w : Both o x = call_agrees p calls img by r q v c bc in
      let b' : Book = enter_call b c o.answer in
      let u' : Track = track (size_of N img) u b c o.answer in
      let a' : Call = begun_by a c o.answer in
      let t' : Ends N m a' o.image o.board = call_ends p img by a r t c bc in (
        says-over N img r q b u c o x w.same (same_idle v) s,
        agrees_over a' u' o.image o.board x.board b' w.next t'
            (carry_back (λ i d. Agrees N (exec N) (begun_by a c d) (track (size_of N img) u b c d) i x.board (enter_call b c d)) w y),
        run_over o.image o.board x.board b' u' a' w.bytes w.next t' es h
            (carry_back (λ i d. Run N (exec N) i x.board (enter_call b c d) (track (size_of N img) u b c d) (begun_by a c d) es) w z),
      )
  run_over img r q b u a by v t (cut_erase k new g ∷ []) (x, n, h) y = tt
  run_over img r q b u a by v t (cut_erase k new g ∷ call c ∷ es) (d, n, (bc, h)) (s, y, z) =
      let i : List ℕ = with_block (size_of N img) k new img in
      let o : Out = m i g c in
      let x : Out = exec N i g c in
      let w : Both o x = begun_agrees p calls i g g c (cut_bytes by d) n in
      let b' : Book = enter_call b c o.answer in
      let u' : Track = track (size_of N i) u b c o.answer in
      let a' : Call = begun_by a c o.answer in
      let t' : Ends N m a' o.image o.board = restart_ends p i (cut_bytes by d) a g c n in (
        says-over N i g g b u c o x w.same (λ e. refl) s,
        agrees_over a' u' o.image o.board x.board b' w.next t'
            (carry_back (λ l d. Agrees N (exec N) (begun_by a c d) (track (size_of N i) u b c d) l x.board (enter_call b c d)) w y),
        run_over o.image o.board x.board b' u' a' w.bytes w.next t' es h
            (carry_back (λ l d. Run N (exec N) l x.board (enter_call b c d) (track (size_of N i) u b c d) (begun_by a c d) es) w z),
      )
  run_over img r q b u a by v t (cut_erase k new g ∷ cut_erase j more f ∷ es) (x, n, h) y = absurd n

  steps_over : (n : ℕ) (o x : Out) → Both o x → Both (steps_on m n o) (steps_on (exec N) n x)
  steps_over zero o x w = w
  steps_over (suc n) o x w =
      steps_over n (m o.image o.board step) (exec N x.image x.board step)
      (subst (λ (i : List ℕ). Both (m o.image o.board step) (exec N i x.board step)) w.image
      (call_agrees p calls o.image w.bytes o.board x.board w.next step tt))

  pub formatted_over : (img : List ℕ) (r : Record) → Bytes img → Both (formatted N m img r) (formatted N (exec N) img r)
  formatted_over img r by = steps_over (N + 10) (m img r format) (exec N img r format) (format_agrees p calls img by r r)

  happens_from : (img : List ℕ) (r : Record) → Bytes img → (es : List Event) → HappensFrom N m img r es → HappensFrom N (exec N) img r es
  happens_from img r by es h =
      let w : Both (formatted N m img r) (formatted N (exec N) img r) = formatted_over img r by in
      subst (λ (i : List ℕ). Happens N (exec N) i (formatted N (exec N) img r).board first_book es) w.image
      (happens_over (formatted N m img r).image (formatted N m img r).board (formatted N (exec N) img r).board first_book w.bytes w.next es h)

  pub claim_of : Claim N m
  unfolding Claim
  claim_of img r by ok =
      let o : Out = formatted N m img r in
      let x : Out = formatted N (exec N) img r in
      let w : Both o x = formatted_over img r by in
      let y = claim N img r by ok in
      let i : o.board.phase ≡ Idle = idle_same w.next y.1 in
      let t : Ends N m format o.image o.board = idle-ends i in (
        answers_over w ∙ y.0,
        i,
        agrees_over format (tracked false false) o.image o.board x.board first_book w.next t
            (subst (λ (i : List ℕ). Agrees N (exec N) format (tracked false false) i x.board first_book) (sym w.image) y.2),
        (λ es h. run_over o.image o.board x.board first_book (tracked false false) format w.bytes w.next t es h
            (subst (λ (i : List ℕ). Run N (exec N) i x.board first_book (tracked false false) format es) (sym w.image)
            (y.3 es (happens_from img r by es h)))),
      )

  -- ---- what a run leaves

  pub record SameLeft (l k : Left) : Type 0 where
    pub image : l.image ≡ k.image
    pub book : l.book ≡ k.book
    pub bytes : Bytes l.image

  left_over : (img : List ℕ) (r q : Record) (b : Book) → Bytes img → Same img r q → (es : List Event) → Happens N m img r b es
      → SameLeft (after_all N m img r b es) (after_all N (exec N) img q b es)
  left_over img r q b by v [] h = record { image = refl; book = refl; bytes = by }
  left_over img r q b by v (call c ∷ es) (bc, h) =
      let o : Out = m img r c in
      let x : Out = exec N img q c in
      let w : Both o x = call_agrees p calls img by r q v c bc in
      carry (λ i a. SameLeft (after_all N m o.image o.board (enter_call b c o.answer) es) (after_all N (exec N) i x.board (enter_call b c a) es)) w
      (left_over o.image o.board x.board (enter_call b c o.answer) w.bytes w.next es h)
  left_over img r q b by v (cut_erase k new g ∷ []) (x, n, h) = record { image = refl; book = refl; bytes = cut_bytes by x }
  left_over img r q b by v (cut_erase k new g ∷ call c ∷ es) (d, n, (bc, h)) =
      let i : List ℕ = with_block (size_of N img) k new img in
      let o : Out = m i g c in
      let x : Out = exec N i g c in
      let w : Both o x = begun_agrees p calls i g g c (cut_bytes by d) n in
      carry (λ l a. SameLeft (after_all N m o.image o.board (enter_call b c o.answer) es) (after_all N (exec N) l x.board (enter_call b c a) es)) w
      (left_over o.image o.board x.board (enter_call b c o.answer) w.bytes w.next es h)
  left_over img r q b by v (cut_erase k new g ∷ cut_erase j more f ∷ es) (x, n, h) = absurd n

  pub left_by : (img : List ℕ) (r : Record) → Bytes img → (es : List Event) → HappensFrom N m img r es
      → SameLeft (left_by_of N m img r es) (left_by_of N (exec N) img r es)
  left_by img r by es h =
      let w : Both (formatted N m img r) (formatted N (exec N) img r) = formatted_over img r by in
      subst (λ (i : List ℕ). SameLeft (left_by_of N m img r es) (after_all N (exec N) i (formatted N (exec N) img r).board first_book es)) w.image
      (left_over (formatted N m img r).image (formatted N m img r).board (formatted N (exec N) img r).board first_book w.bytes w.next es h)

  pub cut_format_of : CutFormat N m
  unfolding CutFormat
  cut_format_of img r es j by ok hs h =
      let l : Left = left_by_of N m img r es in
      let k : Left = left_by_of N (exec N) img r es in
      let s : SameLeft l k = left_by img r by es hs in
      let w : Both (steps_on m j (m l.image l.board format)) (steps_on (exec N) j (exec N l.image k.board format)) =
      steps_over j (m l.image l.board format) (exec N l.image k.board format) (format_agrees p calls l.image s.bytes l.board k.board) in
      let e : (steps_on (exec N) j (exec N k.image k.board format)).image ≡ (steps_on m j (m l.image l.board format)).image =
      ap (λ (i : List ℕ). (steps_on (exec N) j (exec N i k.board format)).image) (sym s.image) ∙ sym w.image in
      subst (λ (b : List ℕ). Leaves N l.book.objects b j (steps_on m j (m l.image l.board format)).image) (sym s.image)
      (subst₂ (λ (b : Book) (i : List ℕ). Leaves N b.objects k.image j i) (sym s.book) e
      (cut_format N img r es j by ok (happens_from img r by es hs) h))
