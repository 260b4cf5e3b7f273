-- Two machines that keep the promise show the same on every run. Nothing here looks into a machine.
use mathlib.Core.Path.{◌≡◌, refl, sym, ap, ap₂, subst, ◌∙◌}
use mathlib.Core.List.{List, [], ◌∷◌}
use mathlib.Core.Logic.{inl, inr}
use mathlib.Core.Option.{Option, none, some}
use mathlib.Core.Bool.{true}
use Prim.Native.Nat.{ℕ, ◌-◌, ◌<◌}
use native.Mathlib.Omega.{arith}
use lib.ListN.{length}
use Rattle.flash.specs.Bytes.{Bytes}
use Rattle.flash.specs.Flash.{apply, size_of, with_block}
use Rattle.flash.proofs.Image.{bytes-apply}
use Rattle.flash.proofs.Raising.{bytes_with_lem}
use Rattle.frame.specs.declared.Host.{Host}
use Rattle.journal.specs.Block.{Journal}
use Rattle.wire.specs.declared.Answer.{Answer}
use Rattle.wire.specs.declared.Answer.TheVariants.{Done, More, Refused}
use Rattle.wire.specs.declared.Request.{Request}
use Rattle.wire.specs.Message.{Parsed, parse, of_read_kind, id_in}
use Rattle.std.specs.Prelude.{Some, None}
use Rattle.wire.specs.Sentences.{Means, MessagesExact, MalformedExact, ReadKind, ReadKindExact}
use Rattle.wire.proofs.Sentences.{messages_exact, malformed-exact, read-kind-exact, read_asked}
use Rattle.wire.specs.declared.Request.TheVariants.{Read}
use Rattle.frame.specs.declared.ObjectId.{ObjectId}
use Rattle.board.proofs.ReadsLocal.{one-stretch}
use Rattle.flash.proofs.Cases.{on_test, clash}
use Rattle.board.specs.declared.Stage.{Stage}
use Rattle.board.specs.declared.Phase.{Phase}
use Rattle.board.specs.declared.Phase.TheVariants.{Unmounted, Idle, Busy}
use Rattle.board.specs.declared.Rest.{Rest}
use Rattle.board.specs.declared.Record.{Record}
use Rattle.board.specs.Record.{allowed, unmounted, no_stretch, Out, out, answer_of}
use Rattle.board.specs.Mount.{Store, Upkeep, rests, mends, moves, upkeep, mount_on, next_block, store_at, block_in}
use Rattle.board.specs.Queue.{held, Asking, asking, counted}
use Rattle.board.specs.Exec.{Call, request, step, mount, format}
use Rattle.board.specs.Plan.{Work, format_work, upkeep_work, mount_work, frame_work, convert_work}
use Rattle.board.specs.Table.{Task, idles, appends, converts, task_for, Line, line, Exactly, Allowed, InJob, Fresh, FreshExact, request_lines, mount_lines}
use Rattle.board.specs.Table.{lines_of}
use Rattle.board.specs.Demand1.{Rests}
use Rattle.board.specs.Demand2.{Accepted}
use Rattle.board.specs.Claim.{ByteCall, Begins, Event, call, cut_erase}
use Rattle.board.specs.Promise.{Machine, reply_for, Answers, Serves, Job, frame_job, mount-job, format-job, Calls, Shown}
use Rattle.board.specs.Promise.{shown, trace, ByteEvents, PromiseDetermines, PromiseDeterminesFrom, PromiseDeterminesCall, convert-job, HandsPlace}
use Rattle.board.proofs.Lengths.{frame_cases}
use Rattle.board.proofs.Answering.{number-done, number-accepted, Both, both_taken, both_refused, same-numbered, told-answer}
use Rattle.board.proofs.Answering.{whole_is, in_job, same-stretch}
use Rattle.board.proofs.Tabling.{allowed-not}
use Rattle.board.proofs.Alike.{Alike, resting, working, Agree, alike_answer, alike-plan, agree_whole, agree_by}
use Rattle.board.proofs.TablingMounts.{Mountable, mount-told, same-mounts, accepted-takes}
use Rattle.board.proofs.Freshness.{fresh-exact}

-- ---- what a machine that keeps the promise gives back

-- a plan's last record is idle
kept-idle : (u : Upkeep) (j : ℕ) (b : List ℕ) (z : Rest) (x : Store) → (upkeep_work u j b z x).last.phase ≡ Idle
kept-idle rests j b z x = refl
kept-idle mends j b z x = refl
kept-idle moves j b z x = refl

pub mounted-idle : (N : ℕ) (img : List ℕ) (x : Store) → (mount_work N img x).last.phase ≡ Idle
mounted-idle N img x = kept-idle (upkeep (size_of N img) x) (next_block N x.number) (block_in N img x) (store_at N (length img - 1) x) x

pub job-idle : {N : ℕ} {img : List ℕ} {r : Record} {c : Call} {w : Work} → Job N img r c w → w.last.phase ≡ Idle
job-idle {N} {img} {r} (frame_job h msg reply x q f v k g) =
    frame_cases (λ w. w.last.phase ≡ Idle) (size_of N img) (next_block N r.rest.block) (counted r.rest x f) x f (λ e. refl)
    (λ e. refl)
job-idle (convert-job h msg reply x q v k g) = refl
job-idle {N} {img} (mount-job x v) = mounted-idle N img x
job-idle format-job = refl

-- past the first lines a request has an image and a message that can be told
pub record Asked (N : ℕ) (img : List ℕ) (r : Record) (msg : List ℕ) : Type 0 where
  pub length_ok : allowed N (length img) ≡ true
  pub holding : Journal
  pub asked : Request
  pub is_held : Fresh N img r holding
  pub is_asked : Means msg asked

module _ {N : ℕ} {m : Machine} (p : Calls N m) (img : List ℕ) (by : Bytes img) where
  -- an accepted request's message means one
  pub request_means : (r : Record) (h : Host) (msg reply : List ℕ) → Accepted (m img r (request h msg reply)).answer → (q : Request) × Means msg q
  unfolding MessagesExact MalformedExact
  request_means r h msg reply a = go (p.table img r (request h msg reply) by)
    where
      ans : Answer
      ans = (m img r (request h msg reply)).answer

      parsed : (((q : Request) → Means msg q → ⊥) → ⊥) → (w : Parsed) → parse msg ≡ w → (q : Request) × Means msg q
      parsed g None w = absurd (g ((malformed-exact msg).0 w))
      parsed g (Some q) w = (q, (messages_exact msg q).0 w)

      go : Exactly (request_lines (asking N img r h msg reply)) ans → (q : Request) × Means msg q
      go (inl (_, e)) = absurd (number-accepted ans 3 e a)
      go (inr (_, inl (_, e))) = absurd (number-accepted ans 9 e a)
      go (inr (_, inr (_, inl (_, e)))) = absurd (number-accepted ans 4 e a)
      go (inr (_, inr (_, inr (_, inl (_, e))))) = absurd (number-accepted ans 1 e a)
      go (inr (_, inr (_, inr (_, inr (_, inl (_, e)))))) = absurd (number-accepted ans 10 e a)
      go (inr (_, inr (_, inr (_, inr (_, inr (_, inl (_, e))))))) = absurd (number-accepted ans 0 e a)
      go (inr (_, inr (_, inr (_, inr (_, inr (_, inr (g, _))))))) = parsed g (parse msg) refl

  -- and an image that can be told, but for a read
  pub request_asks : (r : Record) (h : Host) (msg reply : List ℕ) → (ReadKind msg → ⊥) → Accepted (m img r (request h msg reply)).answer → Asked N img r msg
  unfolding FreshExact
  request_asks r h msg reply k a = go (p.table img r (request h msg reply) by)
    where
      ans : Answer
      ans = (m img r (request h msg reply)).answer

      found : (ok : allowed N (length img) ≡ true) → ((ReadKind msg → ⊥) × ((x : Journal) → Fresh N img r x → ⊥) → ⊥)
          → (o : Option Journal) → held N img r ≡ o → (q : Request) × Means msg q → Asked N img r msg
      found ok f none e w =
          absurd (f (k, λ x y. let w : some x ≡ none = sym ((fresh-exact N img r x by ok).1 y) ∙ e in let z : ◌≡◌ {A = ℕ} 0 1 = cc in omega arith))
      found ok f (some x) e w =
          record { length_ok = ok; holding = x; asked = w.0; is_held = (fresh-exact N img r x by ok).0 e; is_asked = w.1 }

      go : Exactly (request_lines (asking N img r h msg reply)) ans → Asked N img r msg
      go (inl (_, e)) = absurd (number-accepted ans 3 e a)
      go (inr (_, inl (_, e))) = absurd (number-accepted ans 9 e a)
      go (inr (_, inr (_, inl (_, e)))) = absurd (number-accepted ans 4 e a)
      go (inr (_, inr (_, inr (_, inl (_, e))))) = absurd (number-accepted ans 1 e a)
      go (inr (_, inr (_, inr (_, inr (_, inl (_, e)))))) = absurd (number-accepted ans 10 e a)
      go (inr (l, inr (_, inr (_, inr (_, inr (f, _)))))) = found (allowed-not N (length img) l) f (held N img r) refl (request_means r h msg reply a)

  -- a read hands back the frame at its place
  pub read_hands : (r : Record) (h : Host) (msg reply : List ℕ) → Bytes msg → ReadKind msg → Accepted (m img r (request h msg reply)).answer
      → (i : ObjectId) × Means msg (Read i) × HandsPlace (asking N img r h msg reply) i (m img r (request h msg reply))
  read_hands r h msg reply bm k a =
      let w = request_means r h msg reply a in
      let means : Means msg (Read (id_in msg)) = subst (Means msg) (read_asked msg w.0 w.1 k) w.1 in
      (id_in msg, means, p.reads img r h msg reply (id_in msg) by bm means a)

  pub kind_cases : {P : Type 0} (msg : List ℕ) → (ReadKind msg → P) → ((ReadKind msg → ⊥) → P) → P
  unfolding ReadKindExact
  kind_cases msg f g =
      on_test (of_read_kind msg) (λ t. f ((read-kind-exact msg).0 t)) (λ t. g (λ k. clash (of_read_kind msg) ((read-kind-exact msg).1 k) t))

  -- where a job began
  pub more_asks : (r : Record) (h : Host) (msg reply : List ℕ) → Bytes msg → (m img r (request h msg reply)).answer ≡ More → Asked N img r msg
  more_asks r h msg reply bm e =
      let a : Accepted (m img r (request h msg reply)).answer = subst Accepted (sym e) tt in
      kind_cases msg
      (λ k.
      let y = read_hands r h msg reply bm k a in
      let w : Done ≡ More = sym (number-done (m img r (request h msg reply)).answer y.2.answers) ∙ e in
      let z : ◌≡◌ {A = ℕ} 0 1 = cc in
      absurd (omega arith))
      (λ k. request_asks r h msg reply k a)

  -- an accepted mount has a current half to take
  pub mount_takes : (r : Record) → Accepted (m img r mount).answer → Mountable N img
  mount_takes r a =
      go (same-mounts img by (m img r mount).answer (mount_on N img).answer (p.table img r mount by, λ k e. p.names img r k e by) (mount-told img by))
    where
      go : Both (m img r mount).answer (mount_on N img).answer → Mountable N img
      go (both_refused w e f) = absurd (subst Accepted e a)
      go (both_taken _ b) = accepted-takes img by b

  pub mount_allowed : (r : Record) → Accepted (m img r mount).answer → allowed N (length img) ≡ true
  mount_allowed r a = go (p.table img r mount by)
    where
      go : Exactly (mount_lines N img) (m img r mount).answer → allowed N (length img) ≡ true
      go (inl (_, e)) = absurd (number-accepted (m img r mount).answer 3 e a)
      go (inr (f, _)) = allowed-not N (length img) f

  -- an accepted mount or format touches nothing
  takes_mount : (r : Record) → Accepted (m img r mount).answer → m img r mount ≡ out (answer_of (m img r mount).board) img (m img r mount).board []
  takes_mount r a =
      let s = p.silent img r mount in
      whole_is (m img r mount) (told-answer (m img r mount) (p.told img r mount a (λ _. tt)) a) (p.one-step img r mount) refl s.0 s.1

  takes_format : (r : Record) → Accepted (m img r format).answer
      → m img r format ≡ out (answer_of (m img r format).board) img (m img r format).board []
  takes_format r a =
      let s = p.silent img r format in
      whole_is (m img r format) (told-answer (m img r format) (p.told img r format a (λ _. tt)) a) (p.one-step img r format) refl s.0 s.1

-- ---- each call

module _ {N : ℕ} {m n : Machine} (pm : Calls N m) (pn : Calls N n) (img : List ℕ) (by : Bytes img) where
  -- ---- a request

  does_agree : (a : Asking) (x : Journal) (q : Request) (f : Task) (o p : Out) → Rests a.board.phase → o.image ≡ img → p.image ≡ img
      → Answers f a.board o → Answers f a.board p → Serves a x q o → Serves a x q p
      → ((f ≡ idles → ⊥) → Alike N m n img o.board p.board) → Agree N m n o p
  does_agree a x q idles o p k i j (d, b) (e, c) s t v =
      agree_by (whole_is o (number-done o.answer d) i b s.writes refl)
      (whole_is p (number-done p.answer e) j c t.writes (same-stretch a x q p.stretch o.stretch t.hands_back s.hands_back))
      (agree_whole Done Done img a.board a.board (reply_for a x q) o.stretch refl by (resting k refl))
  does_agree a x q (appends f) o p k i j d e s t v =
      agree_by (whole_is o d i refl s.writes refl)
      (whole_is p e j refl t.writes (same-stretch a x q p.stretch o.stretch t.hands_back s.hands_back))
      (agree_whole More More img o.board p.board (reply_for a x q) o.stretch refl by (v not_idles))
    where
      not_idles : appends f ≡ idles → ⊥
      not_idles z = let w : ◌≡◌ {A = ℕ} 0 1 = cc in omega arith
  does_agree a x q converts o p k i j d e s t v =
      agree_by (whole_is o d i refl s.writes refl)
      (whole_is p e j refl t.writes (same-stretch a x q p.stretch o.stretch t.hands_back s.hands_back))
      (agree_whole More More img o.board p.board (reply_for a x q) o.stretch refl by (v not_idles))
    where
      not_idles : converts ≡ idles → ⊥
      not_idles z = let w : ◌≡◌ {A = ℕ} 0 1 = cc in omega arith

  -- the same job
  job_alike : (r q : Record) (c : Call) (w : Work) → ByteCall c → Job N img r c w → Job N img q c w
      → Accepted (m img r c).answer → Accepted (n img q c).answer → Alike N m n img (m img r c).board (n img q c).board
  job_alike r q c w bc j k a b = alike-plan w.steps w.last (job-idle j) (pm.jobs img r c w by bc j a).0 (pn.jobs img q c w by bc k b).0

  request_agrees : (r : Record) (h : Host) (msg reply : List ℕ) → Bytes msg → Rests r.phase
      → Agree N m n (m img r (request h msg reply)) (n img r (request h msg reply))
  request_agrees r h msg reply bm k =
      go (same-numbered (request_lines (asking N img r h msg reply)) o.answer p.answer (omega arith) (pm.table img r c by) (pn.table img r c by))
    where
      c : Call
      c = request h msg reply

      o : Out
      o = m img r c

      p : Out
      p = n img r c

      read : Accepted o.answer → Accepted p.answer → ReadKind msg → Agree N m n o p
      read a b g =
          let w : Asking = asking N img r h msg reply in
          let x = read_hands pm img by r h msg reply bm g a in
          let s : HandsPlace w x.0 o = x.2 in
          let t : HandsPlace w x.0 p = pn.reads img r h msg reply x.0 by bm x.1 b in
          agree_by (whole_is o (number-done o.answer s.answers) (pm.one-step img r c) s.board s.writes refl)
          (whole_is p (number-done p.answer t.answers) (pn.one-step img r c) t.board t.writes (one-stretch w x.0 p o t s))
          (agree_whole Done Done img r r reply o.stretch refl by (resting k refl))

      other : Accepted o.answer → Accepted p.answer → (ReadKind msg → ⊥) → Agree N m n o p
      other a b g =
          let y : Asked N img r msg = request_asks pm img by r h msg reply g a in
          let x : Journal = y.holding in
          let q : Request = y.asked in
          let w : Asking = asking N img r h msg reply in
          let s : Serves w x q o = pm.serves img r h msg reply x q by bm y.is_held y.is_asked a in
          let t : Serves w x q p = pn.serves img r h msg reply x q by bm y.is_held y.is_asked b in
          let job : (f : Task) → task_for h msg x q ≡ f → (f ≡ idles → ⊥) → (v : Work) × Job N img r c v =
          λ f. elim f as (λ (k : Task). task_for h msg x q ≡ k → (k ≡ idles → ⊥) → (v : Work) × Job N img r c v) [
            | idles ↦ λ e n. absurd (n refl)
            | appends g ↦ λ e n. (frame_work N img r x g, frame_job h msg reply x q g y.is_held y.is_asked e)
            | converts ↦ λ e n. (convert_work N img r x, convert-job h msg reply x q y.is_held y.is_asked e)
          ] in
          does_agree w x q (task_for h msg x q) o p k (pm.one-step img r c) (pn.one-step img r c) s.answers t.answers s t
          (λ n. let j = job (task_for h msg x q) refl n in job_alike r r c j.0 bm j.1 j.1 a b)

      go : Both o.answer p.answer → Agree N m n o p
      go (both_refused w e f) =
          agree_by (pm.untouched img r c w e) (pn.untouched img r c w f)
          (agree_whole (Refused w) (Refused w) img r r reply no_stretch refl by (resting k refl))
      go (both_taken a b) = kind_cases pm img by msg (read a b) (other a b)

  -- 4, 10 or 5, whatever the record holds
  abbrev pub busy_lines : Host → List Line
  busy_lines h = line 4 (Allowed N (length img) → ⊥) ∷ line 10 (3 < h.0) ∷ line 5 (Unit {0}) ∷ []

  pub while_busy : (r : Record) (h : Host) (msg reply : List ℕ) (a : Answer) → InJob r.phase → Exactly (request_lines (asking N img r h msg reply)) a
      → Exactly (busy_lines h) a
  while_busy r h msg reply a j (inl x) = inl x
  while_busy r h msg reply a j (inr (f, inl x)) = inr (f, inl x)
  while_busy r h msg reply a j (inr (f, inr (g, inl (_, e)))) = inr (f, inr (g, inl (tt, e)))
  while_busy r h msg reply a j (inr (f, inr (g, inr (w, _)))) = absurd (w j)

  pub busy_refuses : (h : Host) (a : Answer) → Exactly (busy_lines h) a → Accepted a → ⊥
  busy_refuses h a (inl (_, e)) y = number-accepted a 3 e y
  busy_refuses h a (inr (_, inl (_, e))) y = number-accepted a 9 e y
  busy_refuses h a (inr (_, inr (_, inl (_, e)))) y = number-accepted a 4 e y
  busy_refuses h a (inr (_, inr (_, inr (f, _)))) y = f tt

  request_busy : (r q : Record) (h : Host) (msg reply : List ℕ) → answer_of r ≡ More → answer_of q ≡ More → Alike N m n img r q
      → Agree N m n (m img r (request h msg reply)) (n img q (request h msg reply))
  request_busy r q h msg reply a b v = go (same-numbered (busy_lines h) (m img r c).answer (n img q c).answer (omega arith) mine its)
    where
      c : Call
      c = request h msg reply

      mine : Exactly (busy_lines h) (m img r c).answer
      mine = while_busy r h msg reply (m img r c).answer (in_job r.phase a) (pm.table img r c by)

      its : Exactly (busy_lines h) (n img q c).answer
      its = while_busy q h msg reply (n img q c).answer (in_job q.phase b) (pn.table img q c by)

      go : Both (m img r c).answer (n img q c).answer → Agree N m n (m img r c) (n img q c)
      go (both_taken x y) = absurd (busy_refuses h (m img r c).answer mine x)
      go (both_refused w e f) =
          agree_by (pm.untouched img r c w e) (pn.untouched img q c w f)
          (agree_whole (Refused w) (Refused w) img r q reply no_stretch refl by v)

  -- ---- a step

  step_agrees : (r q : Record) → Alike N m n img r q → Agree N m n (m img r step) (n img q step)
  step_agrees r q (resting h e) =
      agree_by (pm.rests img r (subst (λ (y : Record). Rests y.phase) (sym e) h)) (pn.rests img q h)
      (agree_whole Done Done img r q [] no_stretch refl by (resting h e))
  step_agrees r q (working x xs z h (a, (r', e, f)) (b, (q', d, g))) =
      let after : List ℕ = apply (size_of N img) x img in
      let v : Alike N m n after r' q' = alike-plan xs z h f g in
      agree_by e d
      (agree_whole (answer_of r') (answer_of q') after r' q' [] no_stretch (alike_answer v) (bytes-apply (size_of N img) x img by) v)

  -- ---- a mount

  -- both took the call, and have the same to do
  agree_takes : (o p : Out) → o ≡ out (answer_of o.board) img o.board [] → p ≡ out (answer_of p.board) img p.board []
      → Alike N m n img o.board p.board → Agree N m n o p
  agree_takes o p e f v =
      agree_by e f (agree_whole (answer_of o.board) (answer_of p.board) img o.board p.board [] no_stretch (alike_answer v) by v)

  pub mount_agrees : (r q : Record) → Agree N m n (m img r mount) (n img q mount)
  mount_agrees r q =
      go (same-mounts img by (m img r mount).answer (n img q mount).answer (pm.table img r mount by, λ k e. pm.names img r k e by)
      (pn.table img q mount by, λ k e. pn.names img q k e by))
    where
      go : Both (m img r mount).answer (n img q mount).answer → Agree N m n (m img r mount) (n img q mount)
      go (both_refused w e f) =
          agree_by (pm.untouched img r mount w e) (pn.untouched img q mount w f)
          (agree_whole (Refused w) (Refused w) img unmounted unmounted [] no_stretch refl by (resting tt refl))
      go (both_taken a b) =
          let y : Mountable N img = mount_takes pm img by r a in
          let x : Store = y.store in
          agree_takes (m img r mount) (n img q mount) (takes_mount pm img by r a) (takes_mount pn img by q b)
          (job_alike r q mount (mount_work N img x) tt (mount-job x y.current) (mount-job x y.current) a b)

  -- ---- a format

  pub format_agrees : (r q : Record) → Agree N m n (m img r format) (n img q format)
  format_agrees r q =
      go (same-numbered (lines_of N img r format) (m img r format).answer (n img q format).answer (omega arith) (pm.table img r format by)
      (pn.table img q format by))
    where
      go : Both (m img r format).answer (n img q format).answer → Agree N m n (m img r format) (n img q format)
      go (both_refused w e f) =
          agree_by (pm.untouched img r format w e) (pn.untouched img q format w f)
          (agree_whole (Refused w) (Refused w) img unmounted unmounted [] no_stretch refl by (resting tt refl))
      go (both_taken a b) =
          agree_takes (m img r format) (n img q format) (takes_format pm img by r a) (takes_format pn img by q b)
          (job_alike r q format (format_work N img) tt format-job format-job a b)

  pub call_agrees : (r q : Record) → Alike N m n img r q → (c : Call) → ByteCall c → Agree N m n (m img r c) (n img q c)
  call_agrees r q (resting h e) (request g msg reply) bm =
      subst (λ (x : Record). Agree N m n (m img x (request g msg reply)) (n img q (request g msg reply))) (sym e) (request_agrees q g msg reply bm h)
  call_agrees r q (working x xs z h f g) (request k msg reply) bm = request_busy r q k msg reply f.0 g.0 (working x xs z h f g)
  call_agrees r q v step bm = step_agrees r q v
  call_agrees r q v mount bm = mount_agrees r q
  call_agrees r q v format bm = format_agrees r q

-- ---- every run

module _ {N : ℕ} {m n : Machine} (pm : Calls N m) (pn : Calls N n) where
  agree_run : (o p : Out) → Agree N m n o p
      → (es : List Event) → trace N m o.image o.board es ≡ trace N n o.image p.board es
      → shown o ∷ trace N m o.image o.board es ≡ shown p ∷ trace N n p.image p.board es
  agree_run o p y es e =
      ap₂ (λ (x : Shown) (xs : List Shown). x ∷ xs) y.same (e ∙ ap (λ (i : List ℕ). trace N n i p.board es) y.image)

  pub begun_agrees : (img : List ℕ) (r q : Record) (c : Call) → Bytes img → Begins c → Agree N m n (m img r c) (n img q c)
  begun_agrees img r q (request h msg reply) by b = absurd b
  begun_agrees img r q step by b = absurd b
  begun_agrees img r q mount by b = mount_agrees pm pn img by r q
  begun_agrees img r q format by b = format_agrees pm pn img by r q

  run_agrees : (img : List ℕ) (r q : Record) → Bytes img → Alike N m n img r q → (es : List Event) → ByteEvents es → trace N m img r es ≡ trace N n img q es
  run_agrees img r q by v [] bs = refl
  run_agrees img r q by v (call c ∷ es) (bc, bs) =
      let y : Agree N m n (m img r c) (n img q c) = call_agrees pm pn img by r q v c bc in
      agree_run (m img r c) (n img q c) y es (run_agrees (m img r c).image (m img r c).board (n img q c).board y.bytes y.next es bs)
  run_agrees img r q by v (cut_erase k new g ∷ []) bs = refl
  run_agrees img r q by v (cut_erase k new g ∷ call c ∷ es) (bn, b, (bc, bs)) =
      let i : List ℕ = with_block (size_of N img) k new img in
      let y : Agree N m n (m i g c) (n i g c) = begun_agrees i g g c (bytes_with_lem (size_of N img) k new img bn by) b in
      agree_run (m i g c) (n i g c) y es (run_agrees (m i g c).image (m i g c).board (n i g c).board y.bytes y.next es bs)
  run_agrees img r q by v (cut_erase k new g ∷ cut_erase j more f ∷ es) (bn, b, bs) = absurd b

  -- on any record
  lone_request : (img : List ℕ) (r : Record) (h : Host) (msg reply : List ℕ) → Bytes img → Bytes msg
      → shown (m img r (request h msg reply)) ≡ shown (n img r (request h msg reply))
  lone_request img r h msg reply by bm = go r.phase refl
    where
      rested : Rests r.phase → shown (m img r (request h msg reply)) ≡ shown (n img r (request h msg reply))
      rested k = (request_agrees pm pn img by r h msg reply bm k).same

      busy : (s : Stage) → r.phase ≡ Busy s → Both (m img r (request h msg reply)).answer (n img r (request h msg reply)).answer
          → shown (m img r (request h msg reply)) ≡ shown (n img r (request h msg reply))
      busy s e (both_refused w a b) =
          ap shown (pm.untouched img r (request h msg reply) w a) ∙ sym (ap shown (pn.untouched img r (request h msg reply) w b))
      busy s e (both_taken a b) =
          let w : Answer = (m img r (request h msg reply)).answer in
          absurd (busy_refuses pm pn img by h w
          (while_busy pm pn img by r h msg reply w (subst InJob (sym e) tt) (pm.table img r (request h msg reply) by)) a)

      go : (p : Phase) → r.phase ≡ p → shown (m img r (request h msg reply)) ≡ shown (n img r (request h msg reply))
      go Unmounted e = rested (subst Rests (sym e) tt)
      go Idle e = rested (subst Rests (sym e) tt)
      go (Busy s) e =
          busy s e (same-numbered (request_lines (asking N img r h msg reply)) (m img r (request h msg reply)).answer (n img r (request h msg reply)).answer
          (omega arith)
          (pm.table img r (request h msg reply) by) (pn.table img r (request h msg reply) by))

pub promise_determines : PromiseDetermines
unfolding PromiseDetermines
promise_determines N m n pm pn img r q c es by b bs =
    let y : Agree N m n (m img r c) (n img q c) = begun_agrees pm.calls pn.calls img r q c by b in
    agree_run pm.calls pn.calls (m img r c) (n img q c) y es
    (run_agrees pm.calls pn.calls (m img r c).image (m img r c).board (n img q c).board y.bytes y.next es bs)

pub promise_determines_from : PromiseDeterminesFrom
unfolding PromiseDeterminesFrom
promise_determines_from N m n pm pn img r es by h bs = run_agrees pm.calls pn.calls img r r by (resting h refl) es bs

pub promise_determines_call : PromiseDeterminesCall
unfolding PromiseDeterminesCall
promise_determines_call N m n pm pn img r (request h msg reply) by bc w = lone_request pm.calls pn.calls img r h msg reply by bc
promise_determines_call N m n pm pn img r step by bc w = absurd w
promise_determines_call N m n pm pn img r mount by bc w = (mount_agrees pm.calls pn.calls img by r r).same
promise_determines_call N m n pm pn img r format by bc w = (format_agrees pm.calls pn.calls img by r r).same
