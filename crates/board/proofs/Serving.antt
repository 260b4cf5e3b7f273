-- A request keeps the invariant: its frame is begun, or nothing changes.
use mathlib.Core.Path.{◌≡◌, refl, sym, ap, subst, ◌∙◌}
use mathlib.Core.List.{List, [], ◌∷◌}
use mathlib.Core.Option.{Option, none, some}
use mathlib.Core.Bool.{true, false, ◌&&◌}
use Prim.Native.Nat.{ℕ, ◌≤◌, ◌<◌}
use native.Mathlib.Omega.{arith}
use lib.Dec.{eqb, ltb}
use lib.ListN.{length}
use borrow.Author.Tests.{eqb-false, ltb-false}
use Rattle.frame.specs.declared.Edition.{Edition}
use Rattle.frame.specs.declared.Edition.TheVariants as edition
use Rattle.flash.specs.Bytes.{Bytes}
use Rattle.flash.specs.Flash.{Step, apply_all, block, size_of}
use Rattle.flash.proofs.Cases.{on_test}
use Rattle.frame.specs.declared.Host.{Host}
use Rattle.frame.specs.Frame.{host_max, Change, put, delete, Frame, change, commit, abort, Tears, MayStand}
use Rattle.journal.specs.Replay.{State, lookup, next_state, is_open_of, Entry, state, settled_only, list_of, Object}
use Rattle.journal.specs.Block.{Journal, last_time}
use Rattle.journal.specs.Room.{used, no_room_of, host_full, counts_in}
use Rattle.journal.proofs.Places.{Standing}
use Rattle.journal.proofs.PerHost.{counts-none}
use Rattle.wire.specs.declared.Answer.{Answer}
use Rattle.wire.specs.declared.Answer.TheVariants.{Done, More, Refused}
use Rattle.wire.specs.declared.Refusal.{Refusal}
use Rattle.wire.specs.declared.Refusal.TheVariants as refusal
use Rattle.wire.specs.declared.Page.TheVariants.{Summary}
use Rattle.wire.specs.declared.Request.{Request}
use Rattle.wire.specs.declared.Request.TheVariants.{Put, Delete, Commit, Abort, Read, Log, Convert}
use Rattle.std.specs.Prelude.{Some}
use Rattle.wire.specs.Message.{value_in_of, page_len, log_page, with_page}
use Rattle.board.specs.Mount.{next_block, replay_of}
use Rattle.board.specs.declared.Record.{Record}
use Rattle.board.specs.declared.Phase.TheVariants.{Idle}
use Rattle.board.specs.Record.{no_stretch, Out, answer_of}
use Rattle.board.specs.Step.{enter_wipe, begin}
use Rattle.board.specs.Queue.{place_of, needs_room, append_job, append, serve, serve_end, serve_change, Asking, asking, refuse_to, done_at, counted}
use Rattle.board.specs.Queue.{convert, serve_convert, convert_job}
use Rattle.board.specs.Plan.{frame_work, convert_work}
use Rattle.board.specs.Book.{Book, book, with_list, join, accept, UnderWay, finishing}
use Rattle.board.specs.Claim.{Never, Track, track_parsed, track_step}
use Rattle.board.proofs.Images.{Sized, size-of}
use Rattle.board.proofs.Invariant.{IdleBook, InJob, Inv, Slack}
use Rattle.board.proofs.Outcomes.{append_worn, append_begins, change_refused, change_goes, end_goes, end_idle, log_short, log_done, change_over}
use Rattle.board.proofs.Outcomes.{serve_put, serve_delete, serve_commit, serve_abort, serve-log, read_none, read_some}
use Rattle.board.proofs.Outcomes.{serve-convert, convert_pending, convert_refused, convert_goes, convert_worn, convert_begins, convert_there}
use Rattle.board.proofs.Prefixes.{Each}
use Rattle.board.proofs.Current.{After, Keeps}
use Rattle.board.proofs.Jobs.{job-starts}
use Rattle.board.proofs.Keeping.{Working, inv_idle, inv_busy, ready-idle}
use Rattle.board.proofs.Replies.{standing-of}
use Rattle.board.proofs.Books.{Entered, idle-book, BookFits, entered_change, entered_commit, entered_abort, lists-none}
use Rattle.board.proofs.Accepted.{follows-frame}
use Rattle.board.proofs.Lengths.{frame-some}
use Rattle.board.proofs.Framing.{AsRecorded, ready-holds, Appendable, frame_guard, frame_ends}
use Rattle.board.proofs.Converting.{Convertible, convert_guard, convert_ends, convert_starts, convert_slack, slack_first, slack_again, converted-book}

-- ---- a frame job is begun

-- whatever holds of each step and of the end: the job of a frame is begun
pub frame-starts : {N : ℕ} {s : ℕ} {P : Step → List ℕ → Type 0} {Q : List ℕ → Record → Type 0} {img : List ℕ} (r : Record) (x : Journal) (f : Frame)
    → Sized N s img → AsRecorded N s img r x → Appendable N s img r x f → Each s P (frame_work N img r x f).steps img
    → Q (apply_all s (frame_work N img r x f).steps img) (frame_work N img r x f).last
    → (frame_work N img r x f).last.phase ≡ Idle
    → (answer_of (enter_wipe (append_job N img r x f)) ≡ More) × InJob N s P Q img (enter_wipe (append_job N img r x f))
frame-starts {N} {s} {P} {Q} {img} r x f z h y each ends idle =
    let j : Standing x.edition (block (size_of N img) r.rest.block img) x.frames =
    subst (λ (n : ℕ). Standing x.edition (block n r.rest.block img) x.frames) (sym (size-of z)) (standing-of h.alone.contents) in
    job-starts img (enter_wipe (append_job N img r x f)) (frame_work N img r x f).steps
    (frame_work N img r x f).last
    (follows-frame img r x f z.count h.long h.blocks h.alone.there j (sym h.ends) h.edition_is (omega (arith, y.fits, size-of z)) y.legal)
    (frame-some (size_of N img) (next_block N r.rest.block) (counted r.rest x f) x f) each ends idle

-- ---- serving one request on an idle record of a run

-- the book after a request that is no refusal, and after one
abbrev pub entered : Book → Host → List ℕ → Request → Answer → Book
entered b h m q Done = accept b h m q Done
entered b h m q More = accept b h m q More
entered b h m q (Refused n) = b

-- and what is then known of formats and converts
abbrev pub tracks : ℕ → Track → Book → Request → Answer → Track
tracks s u b q Done = track_parsed s u b (Some q)
tracks s u b q More = track_parsed s u b (Some q)
tracks s u b q (Refused n) = u

-- the invariant is kept and neither 4 nor 11 is answered
abbrev pub Served : ℕ → ℕ → Book → Track → Host → List ℕ → Request → Out → Type 0
Served N s b u h m q o =
    Inv N s o.image o.board (entered b h m q o.answer) (tracks s u b q o.answer) × Never refusal.ImageLength o × Never refusal.Stale o

-- a change that a request asks for is legal
abbrev pub Legal : Edition → Host → List ℕ → Request → Type 0
Legal ed h m (Put i) = MayStand ed 256 (change h (put i (value_in_of m)))
Legal ed h m (Delete i) = MayStand ed 256 (change h (delete i))
Legal ed h m Commit = Unit {0}
Legal ed h m Abort = Unit {0}
Legal ed h m (Read i) = Unit {0}
Legal ed h m (Log p) = Unit {0}
Legal ed h m Convert = Unit {0}

-- what is known of an idle record
pub found : {N : ℕ} {s : ℕ} {u : Track} {img : List ℕ} {r : Record} {b : Book} (y : IdleBook N s u img r b)
    → BookFits u.tight s y.ready.journal.edition (replay_of y.ready.journal) b
found y = record { room = y.ready.room; spare = y.spare; shares = y.shares; objects = y.objects; lists = y.lists; under = y.under }

module _ {N : ℕ} {s : ℕ} {img : List ℕ} {r : Record} {b : Book} (u : Track) (z : Sized N s img) (by : Bytes img) (y : IdleBook N s u img r b) (reply : List ℕ)
    (h : Host)
    (k : h.0 ≤ host_max) (m : List ℕ) where
  abbrev a : Asking
  a = asking N img r h m reply

  abbrev x : Journal
  x = y.ready.journal

  abbrev st : State
  st = replay_of y.ready.journal

  abbrev ed : Edition
  ed = x.edition

  -- only a convert is remembered
  abbrev Forgets : Request → Type 0
  Forgets q = (track_parsed s u b (Some q) ≡ u) × (track_step u (accept b h m q More).under Done ≡ u)

  same : Inv N s img r b u
  same = inv_idle r z by y

  no_refusal : {a : Answer} {n : Refusal} → a ≡ More → a ≡ Refused n → ⊥
  no_refusal p q = let w : ◌≡◌ {A = ℕ} 0 1 = cc in omega arith

  begun : (q : Request) (f : Frame) → Tears f → MayStand ed 256 f → Entered u.tight s ed st f (accept b h m q More)
      → (accept b h m q More).objects ≡ b.objects → Forgets q → (needs_room N img r x f && eqb y.ready.journal.time last_time) ≡ false
      → Served N s b u h m q (begin img reply (append_job N img r x f))
  begun q f o g e os w t =
      let b' : Book = accept b h m q More in
      let hold : AsRecorded N s img r x = ready-holds z y.ready refl in
      let fit : Appendable N s img r x f =
      record {
        host = o;
        legal = g;
        fits = e.fits;
        young = λ n. let v : eqb y.ready.journal.time last_time ≡ false = rw n at t in omega
            (arith, eqb-false y.ready.journal.time last_time v, y.ready.contents.layout.time_hi);
      } in
      let after : After N s ed (apply_all s (frame_work N img r x f).steps img)
      (frame_work N img r x f).last (next_state st f) = frame_ends hold fit e.room in
      let keeps : Keeps u.tight s ed st b'.objects = record { room = y.spare; same = y.objects ∙ sym os } in
      let j : (answer_of (enter_wipe (append_job N img r x f)) ≡ More) × Working N s img (enter_wipe (append_job N img r x f)) b' u =
      frame-starts r x f z hold fit (λ n l. let g = frame_guard hold fit u keeps n l in (g.0, λ d. g.1))
      (subst (λ (v : Track). IdleBook N s v (apply_all s (frame_work N img r x f).steps img) (frame_work N img r x f).last (finishing b' b'.under))
      (sym w.1) (idle-book u e after)) (ready-idle after.ready) in (
        subst (λ (a : Answer). Inv N s img (enter_wipe (append_job N img r x f)) (entered b h m q a) (tracks s u b q a)) (sym j.0)
            (subst (λ (v : Track). Inv N s img (enter_wipe (append_job N img r x f)) b' v) (sym w.0)
            (inv_busy (enter_wipe (append_job N img r x f)) z by j.0 j.1)),
        no_refusal j.0,
        no_refusal j.0,
      )

  -- a refusal changes nothing
  refused : (q : Request) (n : Refusal) → (Refused n ≡ Refused refusal.ImageLength → ⊥) → (Refused n ≡ Refused refusal.Stale → ⊥)
      → Served N s b u h m q (refuse_to a n)
  refused q n i c = (same, i, c)

  -- an answer of 0 on the record as it is, with another reply or a stretch
  done : (q : Request) (o : Out) → o.answer ≡ Done → o.image ≡ img → o.board ≡ r
      → IdleBook N s (track_parsed s u b (Some q)) img r (accept b h m q Done) → Served N s b u h m q o
  done q o e i p w =
      let v : Track = track_parsed s u b (Some q) in (
        subst (λ (a : Answer). Inv N s o.image o.board (entered b h m q a) (tracks s u b q a)) (sym e)
            (subst (λ (l : List ℕ). Inv N s l o.board (accept b h m q Done) v) (sym i)
            (subst (λ (c : Record). Inv N s img c (accept b h m q Done) v) (sym p) (inv_idle r z by w))),
        λ c. (let w : ◌≡◌ {A = ℕ} 0 1 = cc in omega arith),
        λ c. (let w : ◌≡◌ {A = ℕ} 0 1 = cc in omega arith),
      )

  appended : (q : Request) (f : Frame) → Tears f → MayStand ed 256 f → Entered u.tight s ed st f (accept b h m q More)
      → (accept b h m q More).objects ≡ b.objects → Forgets q → Served N s b u h m q (append a x f)
  appended q f o g e os w =
      on_test (needs_room N img r x f && eqb y.ready.journal.time last_time)
      (λ t. subst (Served N s b u h m q) (sym (append_worn a x f t))
      (refused q refusal.Worn (λ c. let w : ◌≡◌ {A = ℕ} 0 1 = cc in omega arith) (λ c. let w : ◌≡◌ {A = ℕ} 0 1 = cc in omega arith)))
      (λ t. subst (Served N s b u h m q) (sym (append_begins a x f t)) (begun q f o g e os w t))

  -- nothing is under way, or a commit
  rests : track_step u b.under Done ≡ u
  rests = ap (λ (w : UnderWay). track_step u w Done) y.under

  changed : (q : Request) (c : Change) → accept b h m q More ≡ join b h c → track_parsed s u b (Some q) ≡ u → MayStand ed 256 (change h c)
      → Served N s b u h m q (serve_change a x c)
  changed q c e w g =
      on_test (host_full ed (size_of N img) st h c)
      (λ d. subst (Served N s b u h m q) (sym (change_over a x c d))
      (refused q refusal.HostFull (λ c. let w : ◌≡◌ {A = ℕ} 0 1 = cc in omega arith) (λ c. let w : ◌≡◌ {A = ℕ} 0 1 = cc in omega arith)))
      (λ d. on_test (no_room_of ed (size_of N img) st h c)
      (λ t. subst (Served N s b u h m q) (sym (change_refused a x c d t))
      (refused q refusal.NoRoom (λ c. let w : ◌≡◌ {A = ℕ} 0 1 = cc in omega arith) (λ c. let w : ◌≡◌ {A = ℕ} 0 1 = cc in omega arith)))
      (λ t. subst (Served N s b u h m q) (sym (change_goes a x c d t))
      (appended q (change h c) tt g
      (subst (Entered u.tight s ed st (change h c)) (sym e)
      (entered_change (found y) h k c (subst (λ (n : ℕ). host_full ed n st h c ≡ false) (size-of z) d)
      (subst (λ (n : ℕ). no_room_of ed n st h c ≡ false) (size-of z) t)))
      (ap (λ (w : Book). w.objects) e) (w, ap (λ (c : Book). track_step u c.under Done) e ∙ rests))))

  ended : (q : Request) (f : Frame) → Tears f → MayStand ed 256 f → (is_open_of h st.pending ≡ true → Entered u.tight s ed st f (accept b h m q More))
      → (accept b h m q More).objects ≡ b.objects → Forgets q
      → (is_open_of h st.pending ≡ false → IdleBook N s (track_parsed s u b (Some q)) img r (accept b h m q Done)) → Served N s b u h m q (serve_end a x f)
  ended q f o g e os w n =
      on_test (is_open_of h st.pending)
      (λ t. subst (Served N s b u h m q) (sym (end_goes a x f t)) (appended q f o g (e t) os w))
      (λ t. subst (Served N s b u h m q) (sym (end_idle a x f t)) (done q (done_at a reply no_stretch) refl refl refl (n t)))

  -- an abort with nothing pending leaves the book as it is, but for an empty list
  abort_none : is_open_of h st.pending ≡ false → IdleBook N s u img r (book b.objects (with_list b.lists h []) b.under)
  abort_none t =
      record {
        ready = y.ready;
        spare = y.spare;
        shares = y.shares;
        objects = y.objects;
        lists = lists-none st.pending b h t y.lists;
        under = y.under;
      }

  pub served : (q : Request) → Legal ed h m q → Served N s b u h m q (serve a x q)
  served (Put i) g = subst (Served N s b u h m (Put i)) (sym (serve_put a x i)) (changed (Put i) (put i (value_in_of m)) refl refl g)
  served (Delete i) g = subst (Served N s b u h m (Delete i)) (sym (serve_delete a x i)) (changed (Delete i) (delete i) refl refl g)
  served Commit g =
      subst (Served N s b u h m Commit) (sym (serve_commit a x))
      (ended Commit (commit h) tt k (entered_commit (found y) h k) refl (refl, refl) (λ t. y))
  served Abort g =
      subst (Served N s b u h m Abort) (sym (serve_abort a x)) (ended Abort (abort h) tt k (entered_abort (found y) h k) refl (refl, rests) abort_none)
  served (Read i) g = go (lookup i st.objects) refl
    where
      go : (v : Option (List ℕ)) → lookup i st.objects ≡ v → Served N s b u h m (Read i) (serve a x (Read i))
      go none e =
          subst (Served N s b u h m (Read i)) (sym (read_none a x i e))
          (refused (Read i) refusal.NoObject (λ c. let w : ◌≡◌ {A = ℕ} 0 1 = cc in omega arith) (λ c. let w : ◌≡◌ {A = ℕ} 0 1 = cc in omega arith))
      go (some v) e =
          let o : Out = serve a x (Read i) in
          let f : o ≡ done_at a reply (place_of N img r x i) = read_some a x i v e in
          done (Read i) o (ap (λ (w : Out). w.answer) f) (ap (λ (w : Out). w.image) f) (ap (λ (w : Out). w.board) f) y
  served (Log Summary) g =
      on_test (ltb (length reply) page_len)
      (λ t. subst (Served N s b u h m (Log Summary)) (sym (serve-log a x ∙ log_short a x t))
      (refused (Log Summary) refusal.ShortReply (λ c. let w : ◌≡◌ {A = ℕ} 0 1 = cc in omega arith) (λ c. let w : ◌≡◌ {A = ℕ} 0 1 = cc in omega arith)))
      (λ t. subst (Served N s b u h m (Log Summary)) (sym (serve-log a x ∙ log_done a x t))
      (done (Log Summary) (done_at a (with_page (log_page y.ready.journal.time (length st.objects) (used ed st) (size_of N img)) reply) no_stretch)
      refl refl refl y))
  served Convert g = subst (Served N s b u h m Convert) (sym (serve-convert a x)) (convert_pended st.pending refl)
    where
      -- the track of a convert that is not refused
      u' : Track
      u' = track_parsed s u b (Some Convert)

      -- in edition 2 already: the store stays as tight as it is
      there : x.edition ≡ edition.Second → IdleBook N s u' img r b
      there e =
          record {
            ready = y.ready;
            spare = slack_again st b.objects y.objects y.spare;
            shares = y.shares;
            objects = y.objects;
            lists = y.lists;
            under = y.under;
          }

      convert_begun : x.edition ≡ edition.First → st.pending ≡ [] → used edition.Second st ≤ s → eqb x.time last_time ≡ false
          → Served N s b u h m Convert (begin img reply (convert_job N img r x))
      convert_begun e p l t =
          let hold : AsRecorded N s img r x = ready-holds z y.ready refl in
          let young : x.time < last_time = omega (arith, eqb-false x.time last_time t, y.ready.contents.layout.time_hi) in
          let fit : Convertible s r x =
          record {
            young = young;
            fits = l;
            none_pending =
                ap (λ (c : Record). c.rest.pending) y.ready.is ∙ y.ready.counts
                ∙ ap (λ (es : List Entry). counts_in ed (state st.objects es)) p ∙ counts-none ed st.objects;
          } in
          let after : After N s edition.Second (apply_all s (convert_work N img r x).steps img) (convert_work N img r x).last (settled_only st) =
          convert_ends hold fit in
          let slack : Slack u'.tight s edition.Second (settled_only st) =
          subst (λ (os : List Object). Slack u'.tight s edition.Second (state os [])) (sym y.objects) (convert_slack s b.objects) in
          let new : Keeps u'.tight s edition.Second (settled_only st) b.objects = record { room = slack; same = y.objects } in
          let old : Keeps u'.tight s ed st b.objects = record { room = slack_first u.tight u'.tight s ed st e y.spare; same = y.objects } in
          let ends : IdleBook N s (track_step u' b.under Done) (apply_all s (convert_work N img r x).steps img) (convert_work N img r x).last
          (finishing b b.under) =
          subst (λ (w : UnderWay). IdleBook N s (track_step u' w Done) (apply_all s (convert_work N img r x).steps img) (convert_work N img r x).last
          (finishing b w))
          (sym y.under) (converted-book u' b st after slack y.objects (λ g k. sym (ap (list_of g) p) ∙ y.lists g k) y.under) in
          let j : (answer_of (enter_wipe (convert_job N img r x)) ≡ More) × Working N s img (enter_wipe (convert_job N img r x)) b u' =
          convert_starts hold fit z (λ n q. let g = convert_guard hold fit u' old new n q in (g.0, λ d. g.1)) ends in (
            subst (λ (a : Answer). Inv N s img (enter_wipe (convert_job N img r x)) (entered b h m Convert a) (tracks s u b Convert a)) (sym j.0)
                (inv_busy (enter_wipe (convert_job N img r x)) z by j.0 j.1),
            no_refusal j.0,
            no_refusal j.0,
          )

      convert-in : (d : Edition) → x.edition ≡ d → st.pending ≡ [] → used edition.Second st ≤ s → Served N s b u h m Convert (convert a x d)
      convert-in edition.First e p l =
          on_test (eqb x.time last_time)
          (λ t. subst (Served N s b u h m Convert) (sym (convert_worn a x t))
          (refused Convert refusal.Worn (λ c. let w : ◌≡◌ {A = ℕ} 0 1 = cc in omega arith) (λ c. let w : ◌≡◌ {A = ℕ} 0 1 = cc in omega arith)))
          (λ t. subst (Served N s b u h m Convert) (sym (convert_begins a x t)) (convert_begun e p l t))
      convert-in edition.Second e p l =
          subst (Served N s b u h m Convert) (sym (convert_there a x)) (done Convert (done_at a reply no_stretch) refl refl refl (there e))

      convert_pended : (es : List Entry) → st.pending ≡ es → Served N s b u h m Convert (serve_convert a x)
      convert_pended (e ∷ es) p =
          subst (Served N s b u h m Convert) (sym (convert_pending a x e es p))
          (refused Convert refusal.Pending (λ c. let w : ◌≡◌ {A = ℕ} 0 1 = cc in omega arith) (λ c. let w : ◌≡◌ {A = ℕ} 0 1 = cc in omega arith))
      convert_pended [] p =
          on_test (ltb (size_of N img) (used edition.Second st))
          (λ t. subst (Served N s b u h m Convert) (sym (convert_refused a x p t))
          (refused Convert refusal.NoRoom (λ c. let w : ◌≡◌ {A = ℕ} 0 1 = cc in omega arith) (λ c. let w : ◌≡◌ {A = ℕ} 0 1 = cc in omega arith)))
          (λ t. subst (Served N s b u h m Convert) (sym (convert_goes a x p t))
          (convert-in x.edition refl p (omega (arith, size-of z, ltb-false (size_of N img) (used edition.Second st) t))))
