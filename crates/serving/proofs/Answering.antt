-- The requests by surveys and places are the definitions' requests.
use mathlib.Core.Path.{◌≡◌, refl, sym, ap, ap₂, subst, ◌∙◌}
use mathlib.Core.List.{List, [], ◌∷◌, ◌++◌}
use mathlib.Core.Option.{Option, none, some}
use mathlib.Core.Bool.{Bool, true, false, ◌&&◌, cond}
use Prim.Native.Nat.{ℕ, ◌≤◌, ◌<◌}
use native.Mathlib.Omega.{arith}
use lib.Dec.{eqb, ltb}
use lib.ListN.{length, get_or}
use lib.Seq.{take_all}
use borrow.Author.Tests.{lt-ltb}
use Rattle.flash.specs.Flash.{block, size_of}
use Rattle.flash.proofs.Cases.{on_test}
use Rattle.frame.specs.declared.Edition.{Edition}
use Rattle.frame.specs.declared.Edition.TheVariants as edition
use Rattle.frame.specs.declared.ObjectId.{ObjectId}
use Rattle.frame.specs.Frame.{host_max, value_max, Change, put, delete, Frame, change, commit, abort, map_frame, frame_len, end_len}
use Rattle.survey.specs.declared.Survey.{Survey}
use Rattle.journal.specs.Block.{Journal, valid, header_len, last_time}
use Rattle.journal.specs.Replay.{Entry, StateOf, State, lookup, is_open_of, next_state}
use Rattle.journal.specs.Room.{used, no_room_of, host_full, spare, pending_for, pending_of}
use Rattle.journal.specs.Index.{places_of}
use Rattle.survey.specs.Survey.{survey_of}
use Rattle.journal.proofs.PerHost.{per_at, open_bytes}
use Rattle.survey.proofs.Passing.{pending_grows, pending-ends, commit-survey}
use Rattle.journal.proofs.States.{Contents}
use Rattle.journal.proofs.Tables.{places-stay}
use Rattle.wire.specs.declared.Answer.{Answer}
use Rattle.wire.specs.declared.Answer.TheVariants.{Done, More}
use Rattle.wire.specs.declared.Refusal.{Refusal}
use Rattle.wire.specs.declared.Refusal.TheVariants as refusal
use Rattle.wire.specs.declared.Page.{Page}
use Rattle.wire.specs.declared.Page.TheVariants.{Summary}
use Rattle.wire.specs.declared.Request.{Request}
use Rattle.wire.specs.declared.Request.TheVariants.{Put, Delete, Commit, Abort, Read, Log, Convert}
use Rattle.wire.specs.Message.{value_in_of, page_len}
use Rattle.wire.specs.Code.{page_into}
use Rattle.wire.proofs.Parsing.{InRange}
use Rattle.board.specs.declared.Stage.TheVariants.{Wipe}
use Rattle.board.specs.declared.Phase.TheVariants.{Busy}
use Rattle.board.specs.declared.Job.{Job}
use Rattle.board.specs.declared.Cursor.{Cursor}
use Rattle.board.specs.declared.Rest.{Rest}
use Rattle.board.specs.declared.Record.{Record}
use Rattle.board.specs.Record.{no_frame, starting, counting, Out, out, refuse, answer_of}
use Rattle.board.specs.Mount.{replay_of}
use Rattle.board.specs.Step.{begin}
use Rattle.board.specs.Queue.{needs_room, append_job, append, serve_change, serve_end, places_for, convert, convert_with, serve_convert, serve_read, serve_log, serve}
use Rattle.board.specs.Queue.{Asking, asking, size_for, moves_for, refuse_to}
use Rattle.board.proofs.Replies.{standing-of}
use Rattle.job.specs.declared.records.Stepped.{Stepped}
use Rattle.job.specs.Code.{leaves_if, LeadsTo, go_append, go_close, go_open, go_wipe, begins}
use Rattle.job.proofs.Entering.{wipe_leaves}
use Rattle.looks.specs.Surveys.{sum_of}
use Rattle.looks.specs.Seen.{some_of}
use Rattle.looks.proofs.Transfers.{any_is}
use Rattle.serving.specs.Calls.{done, refused, kept_or, began, Asks, bytes_of, append_plan, append_in, change_in, end_in, committed, log_in}
use Rattle.serving.specs.Calls.{convert_plan, convert_by, convert_in, serve_in, places_by, frame_in, reply_in}
use Rattle.serving.proofs.Rooms.{no_room_is, full_is, second_is}

-- ---- what a request came to, put together

asks-by : (r : Record) (p : Stepped → List ℕ) (f : List ℕ) (t : Bool) {s u : Stepped} {o x : Out} → Asks r (p s) f s o → Asks r (p u) f u x
    → Asks r (p (cond t s u)) f (cond t s u) (cond t o x)
asks-by r p f true a b = a
asks-by r p f false a b = b

module _ (r : Record) (p f : List ℕ) where
  asks_if : (t : Bool) {s u : Stepped} {o x : Out} → Asks r p f s o → Asks r p f u x → Asks r p f (cond t s u) (cond t o x)
  asks_if t a b = asks-by r (λ s. p) f t a b

  refusing : (img reply : List ℕ) (why : Refusal) → Asks r p f (refused why r.rest) (refuse why img r reply)
  refusing img reply why = record { answers = refl; gives = refl; rests = refl }

  doing : (img reply : List ℕ) → Asks r p f (done r.rest) (out Done img r reply)
  doing img reply = record { answers = refl; gives = refl; rests = refl }

  begun : (img reply : List ℕ) (s : Stepped) (q : Record) → s.answer ≡ More → s.ended ≡ false → LeadsTo p no_frame f s q
      → Asks r p f s (out (answer_of q) img q reply)
  begun img reply s q a e l =
      record {
        answers = l.answers;
        gives = ap (λ (x : Answer). kept_or x r s.next p f) a ∙ sym (ap (λ (t : Bool). leaves_if t s.next p no_frame f) e) ∙ l.gives;
        rests =
            ap₂ (λ (x : Answer) (t : Bool). record { answer = x; next = s.next; ended = t }) a e
            ∙ ap (λ (x : Answer). began x r.rest s.next) (sym a ∙ l.answers);
      }

-- a read goes by its place
abbrev pub NoRead : Request → Type 0
NoRead (Put i) = Unit {0}
NoRead (Delete i) = Unit {0}
NoRead Commit = Unit {0}
NoRead Abort = Unit {0}
NoRead (Read i) = ⊥
NoRead (Log p) = Unit {0}
NoRead Convert = Unit {0}

-- a job that appends a frame has a step
goes : (y z : Rest) (s : Survey) (m : Bool) (n : ℕ) (c : Cursor) → 0 < n
    → let x : Stepped = begins y (append_plan z s m n) c in (x.answer ≡ More) × (x.ended ≡ false)
unfolding go_wipe go_open go_close go_append
goes y z s true n c l = (refl, refl)
goes y z s false n c l = rw (lt-ltb 0 n l) (refl, refl)

module _ (a : Asking) (x : Journal) (same : a.blocks ≡ a.board.rest.blocks)
    (w : Contents (block (size_for a) a.board.rest.block a.image) x) where
  abbrev r : Record
  r = a.board

  abbrev survey : Survey
  survey = survey_of (valid x)

  abbrev ed : Edition
  ed = x.edition

  abbrev places : List ℕ
  places = places_of ed x.frames

  no : (f : List ℕ) (why : Refusal) → Asks r places f (refused why r.rest) (refuse_to a why)
  no f why = refusing r places f a.image a.reply why

  -- the places of a job, by what began: those that the frames will have once one more is appended
  abbrev Placed : (Stepped → List ℕ) → Frame → Type 0
  Placed p f =
      (m : Bool) → p (begins (counting r.rest (pending_of ed (x.frames ++ (f ∷ [])))) (append_plan r.rest survey m (frame_len ed f)) (starting 0 header_len))
      ≡ places_for m x f

  append_is : (p : Stepped → List ℕ) (f : Frame) (ps : List ℕ) → pending_of ed (x.frames ++ (f ∷ [])) ≡ ps → Placed p f
      → let s : Stepped = append_in (size_for a) r.rest survey (frame_len ed f) ps in Asks r (p s) (bytes_of ed f) s (append a x f)
  unfolding append append_in survey_of
  append_is p f ps e d =
      let m : Bool = needs_room r.rest.blocks a.image r x f in
      let z : Rest = r.rest in
      let j : Job = append_plan z survey m (frame_len ed f) in
      let y : Rest = counting z (pending_of ed (x.frames ++ (f ∷ []))) in
      let c : Cursor = starting 0 header_len in
      let g = goes y z survey m (frame_len ed f) c (omega arith) in
      let In : ℕ → List ℕ → Stepped = λ k qs. append_in (size_of k a.image) z survey (frame_len ed f) qs in
      subst (λ (qs : List ℕ). Asks r (p (In a.blocks qs)) (bytes_of ed f) (In a.blocks qs) (append a x f)) e
      (subst (λ (k : ℕ). Asks r (p (In k y.pending)) (bytes_of ed f) (In k y.pending)
      (append (asking k a.image r a.host a.message a.reply) x f)) (sym same)
      (asks-by r p (bytes_of ed f) (m && eqb x.time last_time) (refusing r _ _ a.image a.reply refusal.Worn)
      (subst (λ (q : List ℕ). Asks r q (bytes_of ed f) (begins y j c) (begin a.image a.reply (append_job r.rest.blocks a.image r x f))) (sym (d m))
      (begun r _ _ a.image a.reply _ _ g.0 g.1
      (wipe_leaves (places_for m x f) no_frame (bytes_of ed f) (record { phase = Busy Wipe; rest = y; job = j; cursor = c }))))))

  -- a frame that leaves the objects leaves the places
  stays : (f : Frame) → ((s : StateOf ℕ) (o : ℕ) → (next_state s (map_frame (λ v. o) f)).objects ≡ s.objects) → Placed (λ s. places) f
  stays f n true = refl
  stays f n false = sym (places-stay ed x.frames f n)

  change_stays : (c : Change) → Placed (λ s. places) (change a.host c)
  change_stays (put i v) = stays (change a.host (put i v)) (λ s o. refl)
  change_stays (delete i) = stays (change a.host (delete i)) (λ s o. refl)

  change_is : (c : Change) → a.host.0 ≤ host_max → Asks r places (bytes_of ed (change a.host c))
      (change_in (size_for a) r.rest survey a.host (frame_len ed (change a.host c)) (spare ed c)) (serve_change a x c)
  unfolding serve_change change_in survey_of
  change_is c l =
      rw (← full_is w (size_for a) a.host c l, ← no_room_is w (size_for a) a.host c)
      (asks_if r _ _ (host_full ed (size_for a) (replay_of x) a.host c) (no _ refusal.HostFull)
      (asks_if r _ _ (no_room_of ed (size_for a) (replay_of x) a.host c) (no _ refusal.NoRoom)
      (append_is (λ s. places) (change a.host c) _ (pending_grows ed x.frames a.host c l) (change_stays c))))

  open_is : a.host.0 ≤ host_max → is_open_of a.host (replay_of x).pending ≡ ltb 0 (get_or survey.pending a.host.0 0)
  unfolding survey_of
  open_is l =
      open_bytes ed a.host (replay_of x).pending
      ∙ ap (ltb 0) (sym (per_at (λ g. pending_for ed g (replay_of x).pending) a.host l))

  end_is : (p : Stepped → List ℕ) (f : Frame) → frame_len ed f ≡ end_len ed → a.host.0 ≤ host_max
      → ((s : State) → (next_state s f).pending ≡ (next_state s (abort a.host)).pending) → Placed p f
      → let s : Stepped = end_in (size_for a) r.rest survey a.host in Asks r (p s) (bytes_of ed f) s (serve_end a x f)
  unfolding serve_end end_in survey_of
  end_is p f e l n d =
      rw (← open_is l, ← e)
      (asks-by r p _ (is_open_of a.host (replay_of x).pending) (append_is p f _ (pending-ends ed x.frames f a.host l n) d)
      (doing r _ _ a.image a.reply))

  abbrev commits : Stepped → List ℕ
  commits s = committed (block (size_for a) r.rest.block a.image) survey a.host s places

  -- a commit's list is applied where no transfer is needed
  commit-places : a.host.0 ≤ host_max → Placed commits (commit a.host)
  unfolding go_wipe go_open go_close go_append
  commit-places l true = refl
  commit-places l false =
      rw (lt-ltb 0 (end_len ed) (omega arith)) (commit-survey (block (size_for a) r.rest.block a.image) x a.host l (standing-of w))

  log_is : (f : List ℕ) (p : Page) → Asks r places f (log_in r.rest a.reply) (serve_log a x p)
  unfolding serve_log log_in
  log_is f Summary =
      asks_if r _ _ (ltb (length a.reply) page_len) (no f refusal.ShortReply) (record { answers = refl; gives = refl; rests = refl })

  -- K9: nothing is pending exactly if no host has pending bytes
  pending_is : (es : List Entry) → (replay_of x).pending ≡ es → ltb 0 (sum_of survey.pending) ≡ some_of es
  unfolding survey_of
  pending_is es e = sym (any_is w) ∙ ap some_of e

  converts : (e : Edition) → Asks r places no_frame (convert_by r.rest survey e) (convert a x e)
  unfolding convert convert_by survey_of no_frame go_wipe go_open
  converts edition.First =
      let z : Rest = r.rest in
      let j : Job = convert_plan z survey in
      let c : Cursor = starting 0 survey.end in
      subst (λ (k : ℕ). Asks r places no_frame (convert_by z survey edition.First)
      (convert (asking k a.image r a.host a.message a.reply) x edition.First)) (sym same)
      (asks_if r places no_frame (eqb x.time last_time) (no no_frame refusal.Worn)
      (begun r _ _ a.image a.reply (begins z j c) _ refl refl
      (wipe_leaves places no_frame no_frame (record { phase = Busy Wipe; rest = z; job = j; cursor = c }))))
  converts edition.Second = doing r _ _ a.image a.reply

  convert_is : Asks r places no_frame (convert_in (size_for a) r.rest survey) (serve_convert a x)
  unfolding serve_convert convert_in survey_of
  convert_is = go (replay_of x).pending refl
    where
      go : (es : List Entry) → (replay_of x).pending ≡ es → Asks r places no_frame (convert_in (size_for a) r.rest survey) (convert_with a x es)
      go [] e =
          rw (pending_is [] e, ← second_is w)
          (asks_if r _ _ (ltb (size_for a) (used edition.Second (replay_of x))) (no no_frame refusal.NoRoom) (converts ed))
      go (d ∷ es) e = rw (pending_is (d ∷ es) e) (no no_frame refusal.Pending)

  pub serve_is : (q : Request) (g : List ℕ) → InRange a.message q → NoRead q → a.host.0 ≤ host_max
      → let s : Stepped = serve_in (size_for a) r.rest a.reply a.host a.message survey q in
      Asks r (places_by (block (size_for a) r.rest.block a.image) survey a.host s q places) (frame_in ed a.host a.message q g) s (serve a x q)
  unfolding serve survey_of
  serve_is (Put i) g k n l = rw (take_all value_max (value_in_of a.message) k.1) (change_is (put i (value_in_of a.message)) l)
  serve_is (Delete i) g k n l = change_is (delete i) l
  serve_is Commit g k n l = end_is commits (commit a.host) refl l (λ s. refl) (commit-places l)
  serve_is Abort g k n l = end_is (λ s. places) (abort a.host) refl l (λ s. refl) (stays (abort a.host) (λ s o. refl))
  serve_is (Read i) g k n l = absurd n
  serve_is (Log p) g k n l = log_is g p
  serve_is Convert g k n l = convert_is

  -- ---- the reply

  cond_reply : (t : Bool) (o v : Out) → o.reply ≡ a.reply → v.reply ≡ a.reply → (cond t o v).reply ≡ a.reply
  cond_reply true o v p q = p
  cond_reply false o v p q = q

  append_reply : (f : Frame) → (append a x f).reply ≡ a.reply
  unfolding append
  append_reply f = cond_reply (moves_for a x f && eqb x.time last_time) _ _ refl refl

  change_reply : (c : Change) → (serve_change a x c).reply ≡ a.reply
  unfolding serve_change
  change_reply c =
      cond_reply (host_full ed (size_for a) (replay_of x) a.host c) _ _ refl
      (cond_reply (no_room_of ed (size_for a) (replay_of x) a.host c) _ _ refl (append_reply (change a.host c)))

  end_reply : (f : Frame) → (serve_end a x f).reply ≡ a.reply
  unfolding serve_end
  end_reply f = cond_reply (is_open_of a.host (replay_of x).pending) _ _ (append_reply f) refl

  read_reply : (i : ObjectId) (o : Option (List ℕ)) → (serve_read a x i o).reply ≡ a.reply
  read_reply i none = refl
  read_reply i (some v) = refl

  log_reply : (p : Page) → (serve_log a x p).reply ≡ reply_in (size_for a) survey a.reply (Log p)
  unfolding serve_log page_into survey_of
  log_reply Summary = on_test (ltb (length a.reply) page_len) (λ t. rw (t, page_into)) (λ t. rw (t, page_into))

  convert_reply : (e : Edition) → (convert a x e).reply ≡ a.reply
  unfolding convert
  convert_reply edition.First = cond_reply (eqb x.time last_time) _ _ refl refl
  convert_reply edition.Second = refl

  converted_reply : (es : List Entry) → (convert_with a x es).reply ≡ a.reply
  converted_reply [] = cond_reply (ltb (size_for a) (used edition.Second (replay_of x))) _ _ refl (convert_reply ed)
  converted_reply (d ∷ es) = refl

  pub reply_is : (q : Request) → (serve a x q).reply ≡ reply_in (size_for a) survey a.reply q
  unfolding serve serve_convert
  reply_is (Put i) = change_reply (put i (value_in_of a.message))
  reply_is (Delete i) = change_reply (delete i)
  reply_is Commit = end_reply (commit a.host)
  reply_is Abort = end_reply (abort a.host)
  reply_is (Read i) = read_reply i (lookup i (replay_of x).objects)
  reply_is (Log p) = log_reply p
  reply_is Convert = converted_reply (replay_of x).pending
