-- The machine keeps each clause of the promise.
use mathlib.Core.Path.{◌≡◌, refl, sym, ap, ap₂, subst, subst₂, ◌∙◌}
use mathlib.Core.List.{List, [], ◌∷◌}
use mathlib.Core.Option.{Option, none, some}
use mathlib.Core.Bool.{Bool, true, false, ◌&&◌}
use mathlib.Core.Logic.{◌⊎◌, inl, inr}
use Prim.Native.Nat.{ℕ, ◌≤◌}
use native.Mathlib.Omega.{arith}
use lib.Dec.{eqb, ltb, leb}
use lib.ListN.{length}
use borrow.Author.Tests.{leb-true}
use Rattle.frame.specs.declared.Edition.{Edition}
use Rattle.frame.specs.declared.Edition.TheVariants as edition
use Rattle.flash.specs.Bytes.{Bytes}
use Rattle.flash.specs.Flash.{size_of}
use Rattle.flash.proofs.Cases.{on_test}
use Rattle.frame.specs.declared.Host.{Host}
use Rattle.frame.specs.declared.ObjectId.{ObjectId}
use Rattle.frame.specs.Frame.{host_max, Change, put, delete, Frame, change, commit, abort}
use Rattle.journal.specs.Replay.{lookup, is_open_of, Entry}
use Rattle.journal.specs.Block.{Journal, last_time}
use Rattle.journal.specs.Room.{no_room_of, host_full, used}
use Rattle.wire.specs.declared.Answer.TheVariants.{More}
use Rattle.wire.specs.declared.Refusal.{Refusal}
use Rattle.wire.specs.declared.Refusal.TheVariants as refusal
use Rattle.wire.specs.declared.Page.TheVariants.{Summary}
use Rattle.wire.specs.declared.Request.{Request}
use Rattle.wire.specs.declared.Request.TheVariants.{Put, Delete, Commit, Abort, Read, Log, Convert}
use Rattle.std.specs.Prelude.{Some}
use Rattle.wire.specs.Answer.{number_of}
use Rattle.wire.specs.Message.{parse, value_in_of, page_len}
use Rattle.board.proofs.Reading.{one-request, as_before}
use Rattle.board.proofs.ReadsLocal.{reads}
use Rattle.board.specs.declared.Phase.{Phase}
use Rattle.board.specs.declared.Phase.TheVariants.{Unmounted, Idle, Busy}
use Rattle.board.specs.declared.Record.{Record}
use Rattle.board.specs.Record.{allowed, Stretch, no_stretch, Out}
use Rattle.board.specs.Mount.{Store, mount_on, format_on, replay_of}
use Rattle.board.specs.Queue.{place_of, append, serve, serve_change, serve_end, request_on, Asking, asking, size_for, held_for, moves_for, refuse_to, done_at}
use Rattle.board.specs.Queue.{convert_job, convert, serve_convert, serve_parsed}
use Rattle.board.specs.Exec.{Call, request, step, mount, format, exec}
use Rattle.board.specs.Plan.{Work, Performs, format_work, mount_work, frame_work, convert_work}
use Rattle.board.specs.Table.{Task, idles, appends, converts, end_task, task_for, Fresh, FreshExact, Exactly, lines_of, FreshFor, convert_task}
use Rattle.board.specs.Demand1.{Short}
use Rattle.board.specs.Demand2.{Accepted, Mounts, OneStore}
use Rattle.board.specs.Claim.{ByteCall}
use Rattle.board.specs.Step.{begin}
use Rattle.wire.specs.Sentences.{Means, MessagesExact}
use Rattle.board.specs.Sentences.{StretchExact}
use Rattle.board.specs.Promise.{Answers, reply_for, Stands, HandsBack, Serves, Current, Job, frame_job, convert-job, mount-job, format-job, Calls}
use Rattle.board.proofs.Checks.{no_room_for}
use Rattle.board.proofs.Images.{sized_of}
use Rattle.board.proofs.Refusals.{refusals_untouched, at-most-one-step}
use Rattle.board.proofs.Ending.{forged-ends}
use Rattle.board.proofs.Demand2.{one_store}
use Rattle.board.proofs.Accepted.{follows-format}
use Rattle.board.proofs.Outcomes.{append_worn, append_begins, change_refused, change_goes, end_goes, end_idle, log_short, log_done, change_over}
use Rattle.board.proofs.Outcomes.{serve_put, serve_delete, serve_commit, serve_abort, serve-log, read_none, read_some, request_length, request_host}
use Rattle.board.proofs.Outcomes.{request-in, mount-length, format-length, format-begins, step-resting, serve-convert, convert_pending}
use Rattle.board.proofs.Outcomes.{convert_refused, convert_goes, convert_worn, convert_begins, convert_there}
use Rattle.board.proofs.Planning.{Appends, Converts, Asked, AskedConvert, convert_job_begins, begun_by, frame_begins, requests_planned}
use Rattle.board.proofs.Fitting.{the_frame, no-convert}
use Rattle.board.proofs.Lengths.{length-format}
use Rattle.wire.proofs.Sentences.{messages_exact}
use Rattle.board.proofs.Freshness.{fresh-exact}
use Rattle.board.proofs.Sentences.{stretch-exact}
use Rattle.board.proofs.Tabling.{request_lines_lem, step_lines, format_lines, same_held}
use Rattle.board.proofs.TablingMounts.{mount_lines_lem, same_store, mounts-current, mount-names}
use Rattle.board.proofs.Telling.{told, silent}

-- ---- accepted requests

module _ (a : Asking) (by : Bytes a.image) (bm : Bytes a.message) (x : Journal) (e : held_for a ≡ some x) where
  abbrev Met : Request → Out → Type 0
  Met q o = Accepted o.answer → Serves a x q o

  over : (q : Request) {o o' : Out} → o ≡ o' → Met q o' → Met q o
  over q d y = subst (Met q) (sym d) y

  turned_down : (q : Request) {o : Out} (n : Refusal) → o ≡ refuse_to a n → Met q o
  turned_down q n d t = absurd (subst Accepted (ap (λ (o : Out). o.answer) d) t)

  at_once : (q : Request) (o : Out) (st : Stretch) → o ≡ done_at a (reply_for a x q) st → HandsBack a x q st → task_for a.host a.message x q ≡ idles
      → Met q o
  at_once q o st d v n t =
      record {
        answers = subst (λ (f : Task). Answers f a.board o) (sym n) (ap (λ (y : Out). number_of y.answer) d, ap (λ (y : Out). y.board) d);
        writes = ap (λ (y : Out). y.reply) d;
        hands_back = subst (λ (y : Out). HandsBack a x q y.stretch) (sym d) v;
      }

  module _ (q : Request) (p : parse a.message ≡ Some q) (u : a.reply ≡ reply_for a x q) (v : HandsBack a x q no_stretch) where
    begun : (o : Out) (y : Asked a) → o ≡ begun_by y → (f : Frame) → task_for a.host a.message x q ≡ appends f → Met q o
    begun o y d f g t =
        record {
          answers = subst (λ (k : Task). Answers k a.board o) (sym g)
              (ap (λ (k : Out). k.answer) d ∙ (frame_begins (sized_of a.blocks a.image y.length_ok) by bm y).0);
          writes = ap (λ (k : Out). k.reply) d ∙ u;
          hands_back = subst (λ (k : Out). HandsBack a x q k.stretch) (sym d) v;
        }

    module _ (ok : allowed a.blocks (length a.image) ≡ true) (k : a.host.0 ≤ host_max) where
      append_met : (f : Frame) → task_for a.host a.message x q ≡ appends f → no_room_for a x q ≡ false → Met q (append a x f)
      append_met f g n =
          on_test (moves_for a x f && eqb x.time last_time)
          (λ t. turned_down q refusal.Worn (append_worn a x f t))
          (λ t. begun (append a x f)
          (record {
            holding = x;
            asked = q;
            frame = f;
            length_ok = ok;
            host_ok = k;
            is_held = e;
            is_asked = p;
            is_frame = g;
            has_room = n;
            not_worn = t;
          })
          (append_begins a x f t) f g)

      change_met : (c : Change) → task_for a.host a.message x q ≡ appends (change a.host c)
          → no_room_for a x q ≡ no_room_of x.edition (size_for a) (replay_of x) a.host c → Met q (serve_change a x c)
      change_met c g n =
          on_test (host_full x.edition (size_for a) (replay_of x) a.host c)
          (λ d. turned_down q refusal.HostFull (change_over a x c d))
          (λ d. on_test (no_room_of x.edition (size_for a) (replay_of x) a.host c)
          (λ t. turned_down q refusal.NoRoom (change_refused a x c d t))
          (λ t. over q (change_goes a x c d t) (append_met (change a.host c) g (n ∙ t))))

      end_met : (f : Frame) → task_for a.host a.message x q ≡ end_task (is_open_of a.host (replay_of x).pending) f → no_room_for a x q ≡ false
          → Met q (serve_end a x f)
      end_met f g n =
          on_test (is_open_of a.host (replay_of x).pending)
          (λ t. over q (end_goes a x f t) (append_met f (g ∙ ap (λ (b : Bool). end_task b f) t) n))
          (λ t. at_once q (serve_end a x f) no_stretch (end_idle a x f t ∙ ap (λ (y : List ℕ). done_at a y no_stretch) u) v
          (g ∙ ap (λ (b : Bool). end_task b f) t))

  module _ (ok : allowed a.blocks (length a.image) ≡ true) where
    -- where the value stands
    stands : (i : ObjectId) → parse a.message ≡ Some (Read i) → (v : List ℕ) → lookup i (replay_of x).objects ≡ some v
        → Stands a x i (place_of a.blocks a.image a.board x i)
    unfolding FreshExact MessagesExact StretchExact
    stands i p v l =
        let f : FreshFor a x = (fresh-exact a.blocks a.image a.board x by ok).0 e in
        let y = stretch-exact a.blocks a.image a.board x i v f.is-valid ((messages_exact a.message (Read i)).0 p).3 l in
        record { value = v; at = y.0; from = y.2; is = y.1 }

    read_met : (i : ObjectId) → parse a.message ≡ Some (Read i) → (v : Option (List ℕ)) → lookup i (replay_of x).objects ≡ v
        → Met (Read i) (serve a x (Read i))
    read_met i p none l = turned_down (Read i) refusal.NoObject (read_none a x i l)
    read_met i p (some v) l =
        at_once (Read i) (serve a x (Read i)) (place_of a.blocks a.image a.board x i) (read_some a x i v l) (stands i p v l) refl

    log_met : Met (Log Summary) (serve a x (Log Summary))
    log_met =
        over (Log Summary) (serve-log a x)
        (on_test (ltb (length a.reply) page_len)
        (λ t. turned_down (Log Summary) refusal.ShortReply (log_short a x t))
        (λ t. at_once (Log Summary) _ no_stretch (log_done a x t) refl refl))

    convert-in : a.host.0 ≤ host_max → parse a.message ≡ Some Convert → (replay_of x).pending ≡ []
        → ltb (size_for a) (used edition.Second (replay_of x)) ≡ false → (d : Edition) → x.edition ≡ d → Met Convert (convert a x d)
    convert-in k p n l edition.First g =
        on_test (eqb x.time last_time)
        (λ t. turned_down Convert refusal.Worn (convert_worn a x t))
        (λ t. over Convert (convert_begins a x t)
        (λ _.
        let y : AskedConvert a =
        record {
          holding = x;
          length_ok = ok;
          host_ok = k;
          is_held = e;
          is_asked = p;
          is_first = g;
          none_pending = n;
          has_room = l;
          not_worn = t;
        } in
        record {
          answers = subst (λ (c : Edition). Answers (convert_task c) a.board (begin a.image a.reply (convert_job a.blocks a.image a.board x)))
              (sym g) (convert_job_begins (sized_of a.blocks a.image ok) by y).0;
          writes = refl;
          hands_back = refl;
        }))
    convert-in k p n l edition.Second g =
        at_once Convert (convert a x edition.Second) no_stretch (convert_there a x) refl (ap convert_task g)

    convert_met : a.host.0 ≤ host_max → parse a.message ≡ Some Convert → (es : List Entry) → (replay_of x).pending ≡ es → Met Convert (serve_convert a x)
    convert_met k p (y ∷ es) n = turned_down Convert refusal.Pending (convert_pending a x y es n)
    convert_met k p [] n =
        on_test (ltb (size_for a) (used edition.Second (replay_of x)))
        (λ t. turned_down Convert refusal.NoRoom (convert_refused a x n t))
        (λ t. over Convert (convert_goes a x n t) (convert-in k p n t x.edition refl))

    serve_met : a.host.0 ≤ host_max → (q : Request) → parse a.message ≡ Some q → Met q (serve a x q)
    serve_met k (Put i) p = over (Put i) (serve_put a x i) (change_met (Put i) p refl refl ok k (put i (value_in_of a.message)) refl refl)
    serve_met k (Delete i) p = over (Delete i) (serve_delete a x i) (change_met (Delete i) p refl refl ok k (delete i) refl refl)
    serve_met k Commit p = over Commit (serve_commit a x) (end_met Commit p refl refl ok k (commit a.host) refl refl)
    serve_met k Abort p = over Abort (serve_abort a x) (end_met Abort p refl refl ok k (abort a.host) refl refl)
    serve_met k (Read i) p = read_met i p (lookup i (replay_of x).objects) refl
    serve_met k (Log Summary) p = log_met
    serve_met k Convert p = over Convert (serve-convert a x) (convert_met k p (replay_of x).pending refl)

    phase_met : leb a.host.0 host_max ≡ true → (q : Request) → parse a.message ≡ Some q → (s : Phase) → a.board.phase ≡ s → Met q (request_on a)
    phase_met k q p (Busy s) d = turned_down q refusal.Busy (request-in a ok k d)
    phase_met k q p Unmounted d = turned_down q refusal.NoStore (request-in a ok k d)
    phase_met k q p Idle d =
        over q (as_before a x by ok (leb-true a.host.0 host_max k) d e ∙ ap (serve_parsed a x) p) (serve_met (leb-true a.host.0 host_max k) q p)

    request_met : (q : Request) → parse a.message ≡ Some q → Met q (request_on a)
    request_met q p =
        on_test (leb a.host.0 host_max)
        (λ k. phase_met k q p a.board.phase refl)
        (λ k. turned_down q refusal.HostRange (request_host a ok k))

length-accepted : (a : Asking) → Accepted (request_on a).answer → allowed a.blocks (length a.image) ≡ true
length-accepted a t =
    on_test (allowed a.blocks (length a.image)) (λ ok. ok)
    (λ no. absurd (subst Accepted (ap (λ (o : Out). o.answer) (request_length a no)) t))

serves : (a : Asking) (x : Journal) (q : Request) → Bytes a.image → Bytes a.message → FreshFor a x → Means a.message q
    → Accepted (request_on a).answer → Serves a x q (request_on a)
unfolding FreshExact MessagesExact
serves a x q by bm f k t =
    let ok : allowed a.blocks (length a.image) ≡ true = length-accepted a t in
    request_met a by bm x ((fresh-exact a.blocks a.image a.board x by ok).1 f) ok q ((messages_exact a.message q).1 k) t

-- ---- jobs

-- the steps of a job, and how many
abbrev Does : ℕ → List ℕ → Call → Record → Work → Type 0
Does N img c r w = Performs N (exec N) img r w × Short N (size_of N img) w.steps c

-- the frame that a job appends is the one asked for
abbrev Plans : ℕ → List ℕ → Record → Call → Out → Journal → Frame → Type 0
Plans N img r c o x f = Does N img c o.board (frame_work N img r x f)

module _ (N : ℕ) (img : List ℕ) (r : Record) (by : Bytes img) where
  frame_does : (h : Host) (m reply : List ℕ) (x : Journal) (q : Request) (f : Frame) → Bytes m → Fresh N img r x → Means m q → task_for h m x q ≡ appends f
      → Accepted (exec N img r (request h m reply)).answer → Plans N img r (request h m reply) (exec N img r (request h m reply)) x f
  frame_does h m reply x q f bm v k g a = go (requests_planned b by bm t)
    where
      o : Out
      o = exec N img r (request h m reply)

      b : Asking
      b = asking N img r h m reply

      t : o.answer ≡ More
      t = subst (λ (n : Task). Answers n r o) g (serves b x q by bm v k a).answers

      go : Appends b o ⊎ Converts b o → Plans N img r (request h m reply) o x f
      go (inl w) =
          let c : w.holding ≡ x = same_held N img r by (length-accepted b a) w.holding x w.is_held v in
          let d : w.asked ≡ q = one-request m w.asked q w.is_asked k in
          let e : w.frame ≡ f = the_frame (sym w.is_frame ∙ ap₂ (task_for h m) c d ∙ g) in
          subst₂ (Plans N img r (request h m reply) o) c e (w.follows, w.short)
      go (inr w) =
          let d : Convert ≡ q = one-request m Convert q w.is_asked k in
          no-convert x.edition (ap (task_for h m x) d ∙ g)

  convert_does : (h : Host) (m reply : List ℕ) (x : Journal) (q : Request) → Bytes m → Fresh N img r x → Means m q → task_for h m x q ≡ converts
      → Accepted (exec N img r (request h m reply)).answer
      → Does N img (request h m reply) (exec N img r (request h m reply)).board (convert_work N img r x)
  convert_does h m reply x q bm v k g a = go (requests_planned b by bm t)
    where
      o : Out
      o = exec N img r (request h m reply)

      b : Asking
      b = asking N img r h m reply

      t : o.answer ≡ More
      t = subst (λ (n : Task). Answers n r o) g (serves b x q by bm v k a).answers

      go : Appends b o ⊎ Converts b o → Does N img (request h m reply) o.board (convert_work N img r x)
      go (inl w) =
          let c : w.holding ≡ x = same_held N img r by (length-accepted b a) w.holding x w.is_held v in
          let d : w.asked ≡ q = one-request m w.asked q w.is_asked k in
          let e : converts ≡ appends w.frame = sym g ∙ ap₂ (task_for h m) (sym c) (sym d) ∙ w.is_frame in
          let z : ◌≡◌ {A = ℕ} 0 1 = cc in
          absurd (omega arith)
      go (inr w) =
          let c : w.holding ≡ x = same_held N img r by (length-accepted b a) w.holding x w.is_held v in
          subst (λ (y : Journal). Does N img (request h m reply) o.board (convert_work N img r y)) c (w.follows, w.short)

  mount_does : (x : Store) → Current N img x → Accepted (mount_on N img).answer
      → Does N img mount (mount_on N img).board (mount_work N img x)
  unfolding OneStore
  mount_does x v a =
      on_test (allowed N (length img))
      (λ ok.
      let y : Mounts N (exec N) img (mount_on N img) = one_store N img r by ok a in
      let e : y.store ≡ x = same_store img by ok y.store x (mounts-current img by ok (mount_on N img) y) v in
      subst (λ (s : Store). Does N img mount (mount_on N img).board (mount_work N img s)) e (y.follows, (y.short, y.erases)))
      (λ no. absurd (subst (λ (o : Out). Accepted o.answer) (mount-length N img no) a))

  format_does : Accepted (format_on N img).answer → Does N img format (format_on N img).board (format_work N img)
  format_does a =
      on_test (allowed N (length img))
      (λ ok. (
        subst (λ (o : Out). Performs N (exec N) img o.board (format_work N img)) (sym (format-begins N img ok))
            (follows-format N img ok),
        omega (arith, length-format N img, (sized_of N img ok).low, (sized_of N img ok).most),
      ))
      (λ no. absurd (subst (λ (o : Out). Accepted o.answer) (format-length N img no) a))

  job_does : (c : Call) (w : Work) → ByteCall c → Job N img r c w → Accepted (exec N img r c).answer
      → Does N img c (exec N img r c).board w
  job_does c w bc (frame_job h m reply x q f v k g) a = frame_does h m reply x q f bc v k g a
  job_does c w bc (convert-job h m reply x q v k g) a = convert_does h m reply x q bc v k g a
  job_does c w bc (mount-job x v) a = mount_does x v a
  job_does c w bc format-job a = format_does a

-- ---- every call

by_lines : (N : ℕ) (img : List ℕ) (r : Record) (c : Call) → Bytes img → Exactly (lines_of N img r c) (exec N img r c).answer
by_lines N img r (request h msg reply) by = request_lines_lem (asking N img r h msg reply) by
by_lines N img r step by = step_lines img r
by_lines N img r mount by = mount_lines_lem img by
by_lines N img r format by = format_lines img r

pub calls : {N : ℕ} → Calls N (exec N)
calls {N} =
    record {
      table = by_lines N;
      names = λ img r k e by. mount-names img by k e;
      untouched = refusals_untouched N;
      told = told N;
      rests = step-resting N;
      one-step = at-most-one-step N;
      silent = silent N;
      serves = λ img r h m reply. serves (asking N img r h m reply);
      reads = λ img r h m reply i by bm w t. reads (asking N img r h m reply) i w t;
      jobs = λ img r c w by bc j a. job_does N img r by c w bc j a;
      ends = forged-ends N;
    }
