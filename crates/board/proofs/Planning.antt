-- Demand 2, requests: what a request does on any record and image, and the plan of one that is accepted with steps to do.
use mathlib.Core.Path.{◌≡◌, refl, sym, ap, subst, ◌∙◌}
use mathlib.Core.List.{List, [], ◌∷◌}
use mathlib.Core.Option.{Option, none, some}
use mathlib.Core.Bool.{Bool, true, false, ◌&&◌}
use mathlib.Core.Logic.{◌⊎◌, inl, inr}
use Prim.Native.Nat.{ℕ, ◌≤◌}
use native.Mathlib.Omega.{arith}
use lib.Dec.{eqb, ltb, leb}
use lib.ListN.{length}
use borrow.Author.Tests.{eqb-false, leb-true, ltb-false}
use Rattle.frame.specs.declared.Edition.{Edition}
use Rattle.frame.specs.declared.Edition.TheVariants as edition
use Rattle.flash.specs.Bytes.{Bytes}
use Rattle.flash.specs.Flash.{apply_all, block, size_of}
use Rattle.flash.proofs.Cases.{on_test}
use Rattle.frame.specs.declared.ObjectId.{ObjectId}
use Rattle.frame.specs.Frame.{host_max, Change, put, delete, Frame, change, commit, abort}
use Rattle.journal.specs.Replay.{lookup, next_state, is_open_of, Entry, state}
use Rattle.journal.specs.Block.{Journal, last_time}
use Rattle.journal.specs.Room.{no_room_of, host_full, used, counts_in}
use Rattle.journal.proofs.Places.{Standing}
use Rattle.journal.proofs.PerHost.{counts-none}
use Rattle.wire.specs.declared.Answer.TheVariants.{Done, More, Refused}
use Rattle.wire.specs.declared.Refusal.{Refusal}
use Rattle.wire.specs.declared.Refusal.TheVariants as refusal
use Rattle.wire.specs.declared.Page.TheVariants.{Summary}
use Rattle.wire.specs.declared.Request.{Request}
use Rattle.wire.specs.declared.Request.TheVariants.{Put, Delete, Commit, Abort, Read, Log, Convert}
use Rattle.wire.specs.Message.{Parsed, parse, value_in_of, page_len, of_read_kind, id_in}
use Rattle.std.specs.Prelude.{Some, None}
use Rattle.board.specs.Mount.{next_block, replay_of, counts_of}
use Rattle.board.specs.declared.Phase.{Phase}
use Rattle.board.specs.declared.Phase.TheVariants.{Unmounted, Idle, Busy}
use Rattle.board.specs.declared.Record.{Record}
use Rattle.board.specs.Record.{allowed, idle, Out, out, answer_of}
use Rattle.board.specs.Step.{enter_wipe}
use Rattle.board.specs.Queue.{append_job, append, serve, serve_change, serve_end, serve_parsed, serve_held, request_in, request_on, Asking, size_for}
use Rattle.board.specs.Queue.{held_for, moves_for, refuse_to, counted, convert_job, convert, serve_convert, read_at, read_parsed, request_by}
use Rattle.board.specs.Exec.{exec}
use Rattle.board.specs.Plan.{Performs, frame_work, convert_work}
use Rattle.board.specs.Table.{task_for, appends, end_task, FreshExact, FreshFor}
use Rattle.wire.specs.Sentences.{Means, MessagesExact}
use Rattle.board.proofs.Checks.{room_rule, no_room_for}
use Rattle.wire.proofs.Sentences.{messages_exact}
use Rattle.board.proofs.Freshness.{fresh-exact}
use Rattle.board.proofs.Images.{Sized, size-of, sized_of}
use Rattle.board.proofs.Invariant.{StepLands, Ready, InJob}
use Rattle.board.proofs.Outcomes.{append_worn, append_begins, change_refused, change_goes, end_goes, end_idle, log_short, log_done, change_over}
use Rattle.board.proofs.Outcomes.{serve_put, serve_delete, serve_commit, serve_abort, serve-log, read_none, read_some, request_length, request_host}
use Rattle.board.proofs.Outcomes.{request-in, serve-convert, convert_pending, convert_refused, convert_goes, convert_worn, convert_begins, convert_there}
use Rattle.board.proofs.Outcomes.{ReadCase, misshapen, absent, lost, found, read_case}
use Rattle.board.proofs.Current.{Roomy, After}
use Rattle.board.proofs.Keeping.{ready-idle}
use Rattle.board.proofs.Replies.{standing-of}
use Rattle.board.proofs.Holding.{held_inv}
use Rattle.board.proofs.Accepted.{follows-frame}
use Rattle.board.proofs.Framing.{AsRecorded, ready-holds, Appendable, frame_lands, frame_ends}
use Rattle.board.proofs.Requests.{legal}
use Rattle.board.proofs.Lengths.{frame-short}
use Rattle.board.proofs.Serving.{frame-starts}
use Rattle.board.proofs.Fitting.{Fitting, frame-fits}
use Rattle.board.proofs.Converting.{Convertible, convert_lands, convert_ends, convert_short, convert_follows, convert_starts}

-- ---- what a request meets

-- past every check: the frame that it appends
pub record Asked (a : Asking) : Type 0 where
  pub holding : Journal
  pub asked : Request
  pub frame : Frame
  pub length_ok : allowed a.blocks (length a.image) ≡ true
  pub host_ok : a.host.0 ≤ host_max
  pub is_held : held_for a ≡ some holding
  pub is_asked : parse a.message ≡ Some asked
  pub is_frame : task_for a.host a.message holding asked ≡ appends frame
  pub has_room : no_room_for a holding asked ≡ false
  pub not_worn : (moves_for a holding frame && eqb holding.time last_time) ≡ false

-- past every check: a convert of a store of the first edition
pub record AskedConvert (a : Asking) : Type 0 where
  pub holding : Journal
  pub length_ok : allowed a.blocks (length a.image) ≡ true
  pub host_ok : a.host.0 ≤ host_max
  pub is_held : held_for a ≡ some holding
  pub is_asked : parse a.message ≡ Some Convert
  pub is_first : holding.edition ≡ edition.First
  pub none_pending : (replay_of holding).pending ≡ []
  pub has_room : ltb (size_for a) (used edition.Second (replay_of holding)) ≡ false
  pub not_worn : eqb holding.time last_time ≡ false

abbrev pub convert_of : {a : Asking} → AskedConvert a → Record
convert_of {a} y = enter_wipe (convert_job a.blocks a.image a.board y.holding)

abbrev pub job_of : {a : Asking} → Asked a → Record
job_of {a} y = enter_wipe (append_job a.blocks a.image a.board y.holding y.frame)

-- the job is begun
abbrev pub begun_by : {a : Asking} → Asked a → Out
begun_by {a} y = out (answer_of (job_of y)) a.image (job_of y) a.reply

pub data Met (a : Asking) (o : Out) : Type 0 where
  refused : (n : Refusal) → o ≡ refuse_to a n → Met a o
  done : o.answer ≡ Done → o.image ≡ a.image → o.board ≡ a.board → Met a o
  begun : (y : Asked a) → o ≡ begun_by y → Met a o
  converting : (y : AskedConvert a) → o ≡ out (answer_of (convert_of y)) a.image (convert_of y) a.reply → Met a o

module _ (a : Asking) where
  over : {o o' : Out} → o ≡ o' → Met a o' → Met a o
  over e x = subst (Met a) (sym e) x

  module _ (ok : allowed a.blocks (length a.image) ≡ true) (k : a.host.0 ≤ host_max) (x : Journal) (e : held_for a ≡ some x) where
    module _ (q : Request) (p : parse a.message ≡ Some q) where
      append_met : (f : Frame) → task_for a.host a.message x q ≡ appends f → no_room_for a x q ≡ false → Met a (append a x f)
      append_met f g n =
          on_test (moves_for a x f && eqb x.time last_time)
          (λ t. refused refusal.Worn (append_worn a x f t))
          (λ t. begun
          (record {
            holding = x;
            asked = q;
            frame = f;
            length_ok = ok;
            host_ok = k;
            is_held = e;
            is_asked = p;
            is_frame = g;
            has_room = n;
            not_worn = t;
          })
          (append_begins a x f t))

      change_met : (c : Change) → task_for a.host a.message x q ≡ appends (change a.host c)
          → no_room_for a x q ≡ no_room_of x.edition (size_for a) (replay_of x) a.host c → Met a (serve_change a x c)
      change_met c g n =
          on_test (host_full x.edition (size_for a) (replay_of x) a.host c)
          (λ d. refused refusal.HostFull (change_over a x c d))
          (λ d. on_test (no_room_of x.edition (size_for a) (replay_of x) a.host c)
          (λ t. refused refusal.NoRoom (change_refused a x c d t))
          (λ t. over (change_goes a x c d t) (append_met (change a.host c) g (n ∙ t))))

      end_met : (f : Frame) → task_for a.host a.message x q ≡ end_task (is_open_of a.host (replay_of x).pending) f → no_room_for a x q ≡ false
          → Met a (serve_end a x f)
      end_met f g n =
          on_test (is_open_of a.host (replay_of x).pending)
          (λ t. over (end_goes a x f t) (append_met f (g ∙ ap (λ (b : Bool). end_task b f) t) n))
          (λ t. over (end_idle a x f t) (done refl refl refl))

    convert-in : parse a.message ≡ Some Convert → (replay_of x).pending ≡ [] → ltb (size_for a) (used edition.Second (replay_of x)) ≡ false
        → (d : Edition) → x.edition ≡ d → Met a (convert a x d)
    convert-in p n l edition.First g =
        on_test (eqb x.time last_time)
        (λ t. refused refusal.Worn (convert_worn a x t))
        (λ t. converting
        (record {
          holding = x;
          length_ok = ok;
          host_ok = k;
          is_held = e;
          is_asked = p;
          is_first = g;
          none_pending = n;
          has_room = l;
          not_worn = t;
        })
        (convert_begins a x t))
    convert-in p n l edition.Second g = over (convert_there a x) (done refl refl refl)

    convert_met : parse a.message ≡ Some Convert → (es : List Entry) → (replay_of x).pending ≡ es → Met a (serve_convert a x)
    convert_met p (y ∷ es) n = refused refusal.Pending (convert_pending a x y es n)
    convert_met p [] n =
        on_test (ltb (size_for a) (used edition.Second (replay_of x)))
        (λ t. refused refusal.NoRoom (convert_refused a x n t))
        (λ t. over (convert_goes a x n t) (convert-in p n t x.edition refl))

    scan_met : (i : ObjectId) (v : Option (List ℕ)) → lookup i (replay_of x).objects ≡ v → Met a (serve a x (Read i))
    scan_met i none l = refused refusal.NoObject (read_none a x i l)
    scan_met i (some v) l = over (read_some a x i v l) (done refl refl refl)

    serve_met : (q : Request) → parse a.message ≡ Some q → Met a (serve a x q)
    serve_met (Put i) p = over (serve_put a x i) (change_met (Put i) p (put i (value_in_of a.message)) refl refl)
    serve_met (Delete i) p = over (serve_delete a x i) (change_met (Delete i) p (delete i) refl refl)
    serve_met Commit p = over (serve_commit a x) (end_met Commit p (commit a.host) refl refl)
    serve_met Abort p = over (serve_abort a x) (end_met Abort p (abort a.host) refl refl)
    serve_met (Read i) p = scan_met i (lookup i (replay_of x).objects) refl
    serve_met (Log Summary) p =
        over (serve-log a x)
        (on_test (ltb (length a.reply) page_len)
        (λ t. refused refusal.ShortReply (log_short a x t))
        (λ t. over (log_done a x t) (done refl refl refl)))
    serve_met Convert p = over (serve-convert a x) (convert_met p (replay_of x).pending refl)

    parsed_met : (p : Parsed) → parse a.message ≡ p → Met a (serve_parsed a x p)
    parsed_met None p = refused refusal.Malformed refl
    parsed_met (Some q) p = serve_met q p

  module _ (ok : allowed a.blocks (length a.image) ≡ true) (k : a.host.0 ≤ host_max) where
    held_met : (x : Option Journal) → held_for a ≡ x → Met a (serve_held a x)
    held_met none e = refused refusal.Stale refl
    held_met (some x) e = parsed_met ok k x e (parse a.message) refl

    read_met : (i : ObjectId) → ReadCase a i → Met a (read_at a i)
    read_met i (misshapen t q) = refused refusal.Stale q
    read_met i (absent t z q) = refused refusal.NoObject q
    read_met i (lost t z v q) = refused refusal.Stale q
    read_met i (found x t z v q) = over q (done refl refl refl)

    read-parsed : (p : Parsed) → Met a (read_parsed a p)
    read-parsed None = refused refusal.Malformed refl
    read-parsed (Some q) = read_met (id_in a.message) (read_case a (id_in a.message))

    kind_met : (b : Bool) → Met a (request_by a b)
    kind_met true = read-parsed (parse a.message)
    kind_met false = held_met (held_for a) refl

    phase_met : (p : Phase) → Met a (request_in a p)
    phase_met (Busy s) = refused refusal.Busy refl
    phase_met Unmounted = refused refusal.NoStore refl
    phase_met Idle = kind_met (of_read_kind a.message)

  pub request_met : Met a (request_on a)
  request_met =
      on_test (allowed a.blocks (length a.image))
      (λ ok. on_test (leb a.host.0 host_max)
      (λ k. over (request-in a ok k refl) (phase_met ok (leb-true a.host.0 host_max k) a.board.phase))
      (λ k. refused refusal.HostRange (request_host a ok k)))
      (λ no. refused refusal.ImageLength (request_length a no))

-- ---- its plan

-- an accepted request with steps to do appends document 01's frame, after a transfer if it must, in at most S steps
pub record Appends (a : Asking) (o : Out) : Type 0 where
  pub holding : Journal
  pub asked : Request
  pub frame : Frame
  pub is_held : FreshFor a holding
  pub is_asked : Means a.message asked
  pub is_frame : task_for a.host a.message holding asked ≡ appends frame
  pub follows : Performs a.blocks (exec a.blocks) a.image o.board (frame_work a.blocks a.image a.board holding frame)
  pub short : length (frame_work a.blocks a.image a.board holding frame).steps ≤ size_for a

-- or takes the store to the second edition
pub record Converts (a : Asking) (o : Out) : Type 0 where
  pub holding : Journal
  pub is_held : FreshFor a holding
  pub is_asked : Means a.message Convert
  pub is_first : holding.edition ≡ edition.First
  pub follows : Performs a.blocks (exec a.blocks) a.image o.board (convert_work a.blocks a.image a.board holding)
  pub short : length (convert_work a.blocks a.image a.board holding).steps ≤ size_for a

-- the image is as the record says
held-holds : {s : ℕ} (a : Asking) {x : Journal} → Sized a.blocks s a.image → Bytes a.image → held_for a ≡ some x
    → AsRecorded a.blocks s a.image a.board x
held-holds {s} a {x} z by e =
    let v : (w : Ready a.blocks s a.image (idle a.board.places a.board.rest)) × (w.journal ≡ x) = held_inv a.board z by e in
    let w : AsRecorded a.blocks s a.image (idle a.board.places a.board.rest) x = ready-holds z v.0 v.1 in
    record { alone = w.alone; is_clean = w.is_clean; ends = w.ends; long = w.long; blocks = w.blocks; edition_is = w.edition_is }

module _ {s : ℕ} {a : Asking} (z : Sized a.blocks s a.image) (by : Bytes a.image) (bm : Bytes a.message) (y : Asked a) where
  abbrev N : ℕ
  N = a.blocks

  abbrev img : List ℕ
  img = a.image

  abbrev r : Record
  r = a.board

  abbrev x : Journal
  x = y.holding

  abbrev f : Frame
  f = y.frame

  holds : AsRecorded N s img r x
  holds = held-holds a z by y.is_held

  roomy : Roomy s x.edition (replay_of x)
  roomy =
      let v : (w : Ready N s img (idle r.places r.rest)) × (w.journal ≡ x) = held_inv r z by y.is_held in
      subst (λ (w : Journal). Roomy s w.edition (replay_of w)) v.1 v.0.room

  fitting : Fitting s x.edition (replay_of x) f
  fitting =
      frame-fits s a.host a.message x y.asked f roomy y.host_ok (legal x.edition a.host a.message y.asked y.host_ok bm y.is_asked)
      (subst (λ (n : ℕ). room_rule n a.host a.message x y.asked ≡ false) (size-of z) y.has_room) y.is_frame

  appendable : Appendable N s img r x f
  appendable =
      record {
        host = fitting.host;
        legal = fitting.legal;
        fits = fitting.fits;
        young = λ n.
            let t : (moves_for a x f && eqb x.time last_time) ≡ false = y.not_worn in
            let v : eqb x.time last_time ≡ false = rw n at t in
            omega (arith, eqb-false x.time last_time v, holds.alone.contents.layout.time_hi);
      }

  pub frame_appends : Appends a (begun_by y)
  unfolding FreshExact MessagesExact
  frame_appends =
      let j : Standing x.edition (block (size_of N img) r.rest.block img) x.frames =
      subst (λ (n : ℕ). Standing x.edition (block n r.rest.block img) x.frames) (sym (size-of z)) (standing-of holds.alone.contents) in
      record {
        holding = x;
        asked = y.asked;
        frame = f;
        is_held = (fresh-exact N img r x by z.ok).0 y.is_held;
        is_asked = (messages_exact a.message y.asked).0 y.is_asked;
        is_frame = y.is_frame;
        follows = follows-frame img r x f z.count holds.long holds.blocks holds.alone.there j (sym holds.ends) holds.edition_is
            (omega (arith, fitting.fits, size-of z)) appendable.legal;
        short = frame-short (size_of N img) (next_block N r.rest.block) (counted r.rest x f) x f (omega (arith, fitting.fits, size-of z));
      }

  -- the job is begun: each step lands, and it ends idle
  pub frame_begins : (answer_of (job_of y) ≡ More) × InJob N s (StepLands s) (Ready N s) img (job_of y)
  frame_begins =
      let a : After N s x.edition (apply_all s (frame_work N img r x f).steps img)
      (frame_work N img r x f).last (next_state (replay_of x) f) = frame_ends holds appendable fitting.room in
      frame-starts r x f z holds appendable (frame_lands holds appendable) a.ready (ready-idle a.ready)

module _ {s : ℕ} {a : Asking} (z : Sized a.blocks s a.image) (by : Bytes a.image) (y : AskedConvert a) where
  holds_convert : AsRecorded a.blocks s a.image a.board y.holding
  holds_convert = held-holds a z by y.is_held

  convertible : Convertible s a.board y.holding
  convertible =
      let v : (w : Ready a.blocks s a.image (idle a.board.places a.board.rest)) × (w.journal ≡ y.holding) = held_inv a.board z by y.is_held in
      record {
        young = omega (arith, eqb-false y.holding.time last_time y.not_worn, holds_convert.alone.contents.layout.time_hi);
        fits = omega (arith, size-of z, ltb-false (size_for a) (used edition.Second (replay_of y.holding)) y.has_room);
        none_pending =
            ap (λ (q : Record). q.rest.pending) v.0.is ∙ v.0.counts ∙ ap counts_of v.1
            ∙ ap (λ (es : List Entry). counts_in y.holding.edition (state (replay_of y.holding).objects es)) y.none_pending
            ∙ counts-none y.holding.edition (replay_of y.holding).objects;
      }

  convert_plans : Converts a (out (answer_of (convert_of y)) a.image (convert_of y) a.reply)
  unfolding FreshExact MessagesExact
  convert_plans =
      record {
        holding = y.holding;
        is_held = (fresh-exact a.blocks a.image a.board y.holding by z.ok).0 y.is_held;
        is_asked = (messages_exact a.message Convert).0 y.is_asked;
        is_first = y.is_first;
        follows = convert_follows holds_convert convertible z;
        short = omega (arith, size-of z, convert_short holds_convert convertible);
      }

  -- the job is begun: each step lands, and it ends idle
  pub convert_job_begins : (answer_of (convert_of y) ≡ More) × InJob a.blocks s (StepLands s) (Ready a.blocks s) a.image (convert_of y)
  convert_job_begins =
      convert_starts holds_convert convertible z (convert_lands holds_convert convertible) (convert_ends holds_convert convertible).ready

-- ---- on any record and image

pub requests_planned : (a : Asking) → Bytes a.image → Bytes a.message → (request_on a).answer ≡ More
    → Appends a (request_on a) ⊎ Converts a (request_on a)
requests_planned a by bm e = go (request_met a)
  where
    go : Met a (request_on a) → Appends a (request_on a) ⊎ Converts a (request_on a)
    go (refused n p) = let q : Refused n ≡ More = sym (ap (λ (o : Out). o.answer) p) ∙ e in let z : ◌≡◌ {A = ℕ} 0 1 = cc in absurd (omega arith)
    go (done d i b) = let q : Done ≡ More = sym d ∙ e in let z : ◌≡◌ {A = ℕ} 0 1 = cc in absurd (omega arith)
    go (begun y p) = inl (subst (Appends a) (sym p) (frame_appends (sized_of a.blocks a.image y.length_ok) by bm y))
    go (converting y p) = inr (subst (Converts a) (sym p) (convert_plans (sized_of a.blocks a.image y.length_ok) by y))
