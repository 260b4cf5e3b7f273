-- What a request leaves: the record itself where it is done, refused or a read, arrays at their lengths, and a stretch for a read alone.
use mathlib.Core.Path.{◌≡◌, refl, sym, ap, subst, ◌∙◌}
use mathlib.Core.List.{List, [], ◌∷◌, ◌++◌}
use mathlib.Core.Option.{Option, none, some}
use mathlib.Core.Bool.{Bool, true, false, ◌&&◌}
use Prim.Native.Nat.{ℕ, ◌≤◌}
use native.Mathlib.Omega.{arith}
use lib.Dec.{eqb, ltb, leb}
use lib.ListN.{length, length-drop}
use borrow.Author.Tests.{lt-ltb}
use Rattle.flash.proofs.Cases.{on_test}
use Rattle.frame.specs.declared.Edition.{Edition}
use Rattle.frame.specs.declared.Edition.TheVariants as edition
use Rattle.frame.specs.declared.Host.{Host}
use Rattle.frame.specs.declared.ObjectId.{ObjectId}
use Rattle.frame.specs.Frame.{host_max, value_max, Change, put, delete, Frame, change, commit, abort, frame_len}
use Rattle.journal.specs.Replay.{Entry, is_open_of}
use Rattle.journal.specs.Block.{Journal, last_time}
use Rattle.journal.specs.Room.{used, no_room_of, host_full}
use Rattle.journal.proofs.Places.{length-places}
use Rattle.wire.specs.declared.Answer.{Answer}
use Rattle.wire.specs.declared.Answer.TheVariants.{Done, More}
use Rattle.wire.specs.declared.Page.TheVariants.{Summary}
use Rattle.wire.specs.declared.Request.{Request}
use Rattle.wire.specs.declared.Request.TheVariants.{Put, Delete, Commit, Abort, Read, Log, Convert}
use Rattle.wire.specs.Message.{Parsed, parse, value_in_of, page_len, of_read_kind, id_in}
use Rattle.std.specs.Prelude.{Some, None}
use Rattle.wire.specs.Sentences.{Means, MessagesExact, ReadKindExact}
use Rattle.wire.proofs.Sentences.{messages_exact, read-kind-exact, read_asked}
use Rattle.board.proofs.Reading.{no_read}
use Rattle.board.specs.declared.Phase.{Phase}
use Rattle.board.specs.declared.Phase.TheVariants.{Unmounted, Idle, Busy}
use Rattle.board.specs.declared.Record.{Record}
use Rattle.board.specs.Record.{allowed, no_frame, no_stretch, Out, out, answer_of}
use Rattle.board.specs.Step.{enter_wipe}
use Rattle.board.specs.Mount.{replay_of}
use Rattle.board.specs.Queue.{append_job, convert_job, append, convert, serve_change, serve_end, serve_convert, serve, request_on, Asking, size_for, held_for, moves_for}
use Rattle.board.specs.Queue.{places_for, read_at}
use Rattle.board.proofs.Outcomes as outcome
use Rattle.lent.proofs.Inverse.{Sized}
use Rattle.queue.specs.Calls.{read_as_of}
use Rattle.edge.proofs.Arrays.{Short, buffer-sized, Plain, Leaves, begun}

-- ---- a read's message asks for nothing else

-- a read, or a message that is no request
abbrev pub AsksRead : Parsed → Type 0
AsksRead None = Unit {0}
AsksRead (Some (Put i)) = ⊥
AsksRead (Some (Delete i)) = ⊥
AsksRead (Some Commit) = ⊥
AsksRead (Some Abort) = ⊥
AsksRead (Some (Read i)) = Unit {0}
AsksRead (Some (Log p)) = ⊥
AsksRead (Some Convert) = ⊥

asks_read : (m : List ℕ) → of_read_kind m ≡ true → (q : Request) → parse m ≡ Some q → parse m ≡ Some (Read (id_in m))
unfolding MessagesExact ReadKindExact
asks_read m k q e = e ∙ ap Some (read_asked m q ((messages_exact m q).0 e) ((read-kind-exact m).0 k))

pub reads_only : (m : List ℕ) → AsksRead (parse (read_as_of m))
unfolding parse
reads_only m = on_test (of_read_kind m) (λ k. rw k (by (parse m) refl k)) (λ k. rw k tt)
  where
    by : (p : Parsed) → parse m ≡ p → of_read_kind m ≡ true → AsksRead (parse m)
    by None e k = rw e tt
    by (Some q) e k = subst AsksRead (sym (asks_read m k q e)) tt

-- ---- what is served

-- frames that fit their buffer in either edition
put-short : (h : Host) (i : ObjectId) (v : List ℕ) → length v ≤ value_max → Short (change h (put i v))
put-short h i v l edition.First = omega arith
put-short h i v l edition.Second = omega arith

delete-short : (h : Host) (i : ObjectId) → Short (change h (delete i))
delete-short h i edition.First = omega arith
delete-short h i edition.Second = omega arith

commit-short : (h : Host) → Short (commit h)
commit-short h edition.First = omega arith
commit-short h edition.Second = omega arith

abort-short : (h : Host) → Short (abort h)
abort-short h edition.First = omega arith
abort-short h edition.Second = omega arith

-- every frame has bytes
some_bytes : (ed : Edition) (f : Frame) → ltb 0 (frame_len ed f) ≡ true
some_bytes ed f = lt-ltb 0 (frame_len ed f) (omega arith)

module _ (a : Asking) (s : Sized a.board) where
  pub record Serves (o : Out) : Type 0 where
    pub leaves : Leaves o
    pub done : o.answer ≡ Done → o.board ≡ a.board
    pub place : ((i : ObjectId) → parse a.message ≡ Some (Read i) → ⊥) → o.stretch ≡ no_stretch
    pub read : AsksRead (parse a.message) → (o.board ≡ a.board) × (o.reply ≡ a.reply)

  kept : (w : Answer) → Plain w → Serves (out w a.image a.board a.reply)
  kept w n = record { leaves = (s, n); done = λ _. refl; place = λ _. refl; read = λ _. (refl, refl) }

  abbrev job : Journal → Frame → Record
  job x f = append_job a.blocks a.image a.board x f

  places_sized : (b : Bool) (x : Journal) (f : Frame) → length (places_for b x f) ≡ 256
  places_sized true x f = length-places x.edition x.frames
  places_sized false x f = length-places x.edition (x.frames ++ (f ∷ []))

  job_sized : (x : Journal) (f : Frame) → Short f → Sized (job x f)
  unfolding no_frame
  job_sized x f k =
      record {
        pending = refl;
        places = places_sized (moves_for a x f) x f;
        wipe = refl;
        since = refl;
        close = refl;
        unit = refl;
        frame = buffer-sized x.edition f (k x.edition);
      }

  -- a frame to append is a job
  job_more : (x : Journal) (f : Frame) → answer_of (enter_wipe (job x f)) ≡ More
  job_more x f =
      let w = outcome.wipe_skips (job x f) refl in
      on_test (moves_for a x f)
      (λ t. ap answer_of (w ∙ outcome.open_enters (job x f) t))
      (λ t. ap answer_of (w ∙ outcome.open_skips (job x f) t ∙ outcome.close_skips (job x f) refl
      ∙ outcome.append_enters (job x f) (some_bytes x.edition f)))

  appended : (AsksRead (parse a.message) → ⊥) → (x : Journal) (f : Frame) → Short f → Serves (append a x f)
  appended not x f k =
      on_test (moves_for a x f && eqb x.time last_time)
      (λ t. subst Serves (sym (outcome.append_worn a x f t)) (kept _ tt))
      (λ t. subst Serves (sym (outcome.append_begins a x f t)) (record {
        leaves = begun a.image a.reply (job x f) (job_sized x f k);
        done = λ e. let d : More ≡ Done = sym (job_more x f) ∙ e in let z : ◌≡◌ {A = ℕ} 0 1 = cc in absurd (omega arith);
        place = λ _. refl;
        read = λ y. absurd (not y);
      }))

  changed : (AsksRead (parse a.message) → ⊥) → (x : Journal) (c : Change) → Short (change a.host c) → Serves (serve_change a x c)
  changed not x c k =
      on_test (host_full x.edition (size_for a) (replay_of x) a.host c)
      (λ u. subst Serves (sym (outcome.change_over a x c u)) (kept _ tt))
      (λ u. on_test (no_room_of x.edition (size_for a) (replay_of x) a.host c)
      (λ t. subst Serves (sym (outcome.change_refused a x c u t)) (kept _ tt))
      (λ t. subst Serves (sym (outcome.change_goes a x c u t)) (appended not x (change a.host c) k)))

  ended : (AsksRead (parse a.message) → ⊥) → (x : Journal) (f : Frame) → Short f → Serves (serve_end a x f)
  ended not x f k =
      on_test (is_open_of a.host (replay_of x).pending)
      (λ t. subst Serves (sym (outcome.end_goes a x f t)) (appended not x f k))
      (λ t. subst Serves (sym (outcome.end_idle a x f t)) (kept _ tt))

  -- a convert that begins is a job
  abbrev moving : Journal → Record
  moving x = convert_job a.blocks a.image a.board x

  moving_sized : (x : Journal) → Sized (moving x)
  unfolding no_frame
  moving_sized x =
      record { pending = s.pending; places = length-places x.edition x.frames; wipe = refl; since = refl; close = refl; unit = refl; frame = refl }

  moving_more : (x : Journal) → answer_of (enter_wipe (moving x)) ≡ More
  moving_more x = ap answer_of (outcome.wipe_skips (moving x) refl ∙ outcome.open_enters (moving x) refl)

  converted : (AsksRead (parse a.message) → ⊥) → (x : Journal) (ed : Edition) → Serves (convert a x ed)
  converted not x edition.Second = subst Serves (sym (outcome.convert_there a x)) (kept _ tt)
  converted not x edition.First =
      on_test (eqb x.time last_time)
      (λ t. subst Serves (sym (outcome.convert_worn a x t)) (kept _ tt))
      (λ t. subst Serves (sym (outcome.convert_begins a x t)) (record {
        leaves = begun a.image a.reply (moving x) (moving_sized x);
        done = λ e. let d : More ≡ Done = sym (moving_more x) ∙ e in let z : ◌≡◌ {A = ℕ} 0 1 = cc in absurd (omega arith);
        place = λ _. refl;
        read = λ y. absurd (not y);
      }))

  moved : (AsksRead (parse a.message) → ⊥) → (x : Journal) → Serves (serve_convert a x)
  moved not x = by (replay_of x).pending refl
    where
      by : (es : List Entry) → (replay_of x).pending ≡ es → Serves (serve_convert a x)
      by (e ∷ es) p = subst Serves (sym (outcome.convert_pending a x e es p)) (kept _ tt)
      by [] p =
          on_test (ltb (size_for a) (used edition.Second (replay_of x)))
          (λ t. subst Serves (sym (outcome.convert_refused a x p t)) (kept _ tt))
          (λ t. subst Serves (sym (outcome.convert_goes a x p t)) (converted not x x.edition))

  -- a put's value is at most the longest
  served : of_read_kind a.message ≡ false → (x : Journal) (q : Request) → parse a.message ≡ Some q → Means a.message q → Serves (serve a x q)
  served k x (Put i) z w =
      subst Serves (sym (outcome.serve_put a x i))
      (changed (subst AsksRead z) x (put i (value_in_of a.message))
      (put-short a.host i (value_in_of a.message) (omega (arith, w.2, length-drop 6 a.message))))
  served k x (Delete i) z w = subst Serves (sym (outcome.serve_delete a x i)) (changed (subst AsksRead z) x (delete i) (delete-short a.host i))
  served k x Commit z w = subst Serves (sym (outcome.serve_commit a x)) (ended (subst AsksRead z) x (commit a.host) (commit-short a.host))
  served k x Abort z w = subst Serves (sym (outcome.serve_abort a x)) (ended (subst AsksRead z) x (abort a.host) (abort-short a.host))
  served k x (Read i) z w = absurd (no_read a.message k i z)
  served k x (Log Summary) z w =
      on_test (ltb (length a.reply) page_len)
      (λ t. subst Serves (sym (outcome.serve-log a x ∙ outcome.log_short a x t)) (kept _ tt))
      (λ t. subst Serves (sym (outcome.serve-log a x ∙ outcome.log_done a x t))
      (record { leaves = (s, tt); done = λ _. refl; place = λ _. refl; read = λ y. absurd (subst AsksRead z y) }))
  served k x Convert z w = subst Serves (sym (outcome.serve-convert a x)) (moved (subst AsksRead z) x)

  means : (q : Request) → parse a.message ≡ Some q → Means a.message q
  unfolding MessagesExact
  means q = (messages_exact a.message q).0

  -- a read by its place
  placed : (i : ObjectId) → parse a.message ≡ Some (Read i) → outcome.ReadCase a i → Serves (read_at a i)
  placed i w (outcome.misshapen t e) = subst Serves (sym e) (kept _ tt)
  placed i w (outcome.absent t z e) = subst Serves (sym e) (kept _ tt)
  placed i w (outcome.lost t z v e) = subst Serves (sym e) (kept _ tt)
  placed i w (outcome.found x t z v e) =
      subst Serves (sym e) (record { leaves = (s, tt); done = λ _. refl; place = λ f. absurd (f i w); read = λ _. (refl, refl) })

  asked : allowed a.blocks (length a.image) ≡ true → leb a.host.0 host_max ≡ true → Serves (request_on a)
  asked ok e = by a.board.phase refl
    where
      reading : of_read_kind a.message ≡ true → a.board.phase ≡ Idle → (p : Parsed) → parse a.message ≡ p → Serves (request_on a)
      reading k i None z = subst Serves (sym (outcome.read_malformed a ok e k i z)) (kept _ tt)
      reading k i (Some q) z =
          subst Serves (sym (outcome.read_placed a ok e k i q z))
          (placed (id_in a.message) (asks_read a.message k q z) (outcome.read_case a (id_in a.message)))

      of : of_read_kind a.message ≡ false → (x : Journal) → a.board.phase ≡ Idle → held_for a ≡ some x → (p : Parsed) → parse a.message ≡ p
          → Serves (request_on a)
      of k x i y None z = subst Serves (sym (outcome.request_malformed a ok e k i x y z)) (kept _ tt)
      of k x i y (Some q) z = subst Serves (sym (outcome.request_served a ok e k i x q y z)) (served k x q z (means q z))

      in_idle : of_read_kind a.message ≡ false → a.board.phase ≡ Idle → (o : Option Journal) → held_for a ≡ o → Serves (request_on a)
      in_idle k i none y = subst Serves (sym (outcome.request_stale a ok e k i y)) (kept _ tt)
      in_idle k i (some x) y = of k x i y (parse a.message) refl

      by : (p : Phase) → a.board.phase ≡ p → Serves (request_on a)
      by Unmounted i = subst Serves (sym (outcome.request-in a ok e i)) (kept _ tt)
      by Idle i = on_test (of_read_kind a.message) (λ k. reading k i (parse a.message) refl) (λ k. in_idle k i (held_for a) refl)
      by (Busy g) i = subst Serves (sym (outcome.request-in a ok e i)) (kept _ tt)

  pub serves : Serves (request_on a)
  serves =
      on_test (allowed a.blocks (length a.image))
      (λ ok. on_test (leb a.host.0 host_max) (asked ok) (λ e. subst Serves (sym (outcome.request_host a ok e)) (kept _ tt)))
      (λ no. subst Serves (sym (outcome.request_length a no)) (kept _ tt))
