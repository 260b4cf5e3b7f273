-- Demand 1, refusals: each call is refused as the table says, a refusal changes nothing, and only a step changes the image.
use mathlib.Core.Path.{◌≡◌, refl, sym, ap, subst, ◌∙◌}
use mathlib.Core.List.{List, [], ◌∷◌}
use mathlib.Core.Logic.{inl, inr}
use mathlib.Core.Option.{Option, none, some}
use mathlib.Core.Bool.{Bool, true, false, ◌&&◌, ◌||◌, not}
use Prim.Native.Nat.{ℕ}
use native.Mathlib.Omega.{arith}
use lib.Dec.{eqb, ltb, leb}
use lib.ListN.{length}
use borrow.Author.Tests.{leb-true, leb-false, lt-ltb, le-ltb}
use Rattle.frame.specs.declared.Edition.{Edition}
use Rattle.frame.specs.declared.Edition.TheVariants as edition
use Rattle.flash.specs.Flash.{apply, size_of, within}
use Rattle.flash.proofs.Cases.{on_test, or_left, or_no-left, or_no_right}
use Rattle.frame.specs.declared.ObjectId.{ObjectId}
use Rattle.frame.specs.Frame.{host_max, Change, put, delete, Frame, change, commit, abort}
use Rattle.journal.specs.Replay.{is_open_of, Entry}
use Rattle.journal.specs.Block.{Journal, last_time, BlockState, blank, in_progress, valid, foreign}
use Rattle.journal.specs.Room.{no_room_of, host_full, used}
use Rattle.wire.specs.declared.Answer.{Answer}
use Rattle.wire.specs.declared.Answer.TheVariants.{Refused}
use Rattle.wire.specs.declared.Refusal.{Refusal}
use Rattle.wire.specs.declared.Refusal.TheVariants as refusal
use Rattle.wire.specs.declared.Page.TheVariants.{Summary}
use Rattle.wire.specs.declared.Request.{Request}
use Rattle.wire.specs.declared.Request.TheVariants.{Put, Delete, Commit, Abort, Read, Log, Convert}
use Rattle.wire.specs.Message.{Parsed, parse, value_in_of, page_len, of_read_kind, id_in}
use Rattle.std.specs.Prelude.{Some, None}
use Rattle.board.proofs.Reading.{no_read}
use Rattle.board.specs.declared.Phase.{Phase}
use Rattle.board.specs.declared.Phase.TheVariants.{Unmounted, Idle, Busy}
use Rattle.board.specs.declared.Record.{Record}
use Rattle.board.specs.Record.{allowed, unmounted, Out, refuse, answer_in}
use Rattle.board.specs.Step.{same_shape, enter_wipe, action, advance, step_on}
use Rattle.board.specs.Mount.{all_found, any_foreign, Found, Store, stores, equal_times, newest, wipe_list, upkeep, transfers, mount_job, replay_of, time_of}
use Rattle.board.specs.Mount.{is_foreign, or_foreign, none_valid, mount_at, mount_stores, mount_on, format_job, format_on}
use Rattle.board.specs.Queue.{append_job, append, serve_change, serve_end, serve, serve_parsed, serve_held, request_in, request_on, Asking, asking}
use Rattle.board.specs.Queue.{size_for, held_for, moves_for, convert_job, convert, serve_convert, read_at, read_parsed, request_by}
use Rattle.board.specs.Exec.{Call, request, step, mount, format, exec}
use Rattle.board.specs.Table.{is_busy, appends, end_task, convert_task, task_for}
use Rattle.board.specs.Demand1.{Unchanged, OneStep, ImageAfter, Rests}
use Rattle.board.proofs.Checks.{Check, check, first_of, is_unmounted, is_malformed, worn, held_checks, later_checks, request_checks, unclear}
use Rattle.board.proofs.Checks.{outside, no_store_of, worn_store, mount_checks, checks, refusal_in, is_some, pending_rule, host_full_for, no_room_for}
use Rattle.board.proofs.Checks.{read_checks, from_stale, short_reply}
use Rattle.board.proofs.Outcomes.{append_worn, append_begins, change_refused, change_goes, end_goes, end_idle, log_short, log_done, change_over}
use Rattle.board.proofs.Outcomes.{serve_put, serve_delete, serve_commit, serve_abort, serve-log}
use Rattle.board.proofs.Outcomes.{request_length, request_host, request-in, mount-length, mount-stores, mount_worn}
use Rattle.board.proofs.Outcomes.{mount-begins, format-length, format-begins, step-resting, step-outside, step-goes}
use Rattle.board.proofs.Outcomes.{serve-convert, convert_pending, convert_refused, convert_goes, convert_worn, convert_begins, convert_there}
use Rattle.board.proofs.Outcomes.{ReadCase, misshapen, absent, lost, found, read_case}

-- ---- what is claimed of a call's outcome, against the lines of the table that are left

-- K: what the call may do to the image; b, reply: what a refusal hands back
record Follows (K : List ℕ → Type 0) (img : List ℕ) (b : Record) (reply : List ℕ) (cs : List Check) (o : Out) : Type 0 where
  table : refusal_in o.answer ≡ first_of cs
  untouched : (n : Refusal) → o.answer ≡ Refused n → o ≡ refuse n img b reply
  kept : K o.image

no_refusal : (a : Answer) (n : Refusal) → refusal_in a ≡ none → a ≡ Refused n → ⊥
no_refusal a n e p = let z : ◌≡◌ {A = Option Refusal} none (some n) = sym e ∙ ap refusal_in p in let q : ◌≡◌ {A = ℕ} 0 1 = cc in absurd (omega arith)

begin-accepts : (p : Phase) → refusal_in (answer_in p) ≡ none
begin-accepts Unmounted = refl
begin-accepts Idle = refl
begin-accepts (Busy s) = refl

-- the first line that is left holds
stops : {K : List ℕ → Type 0} {img : List ℕ} {b : Record} {reply : List ℕ} {n : Refusal} {t : Bool} {cs : List Check} {o : Out}
    → K img → t ≡ true → o ≡ refuse n img b reply → Follows K img b reply (check n t ∷ cs) o
unfolding first_of
stops {K} {img} {b} {reply} {n} {t} {cs} k e z = subst (λ (x : Out). Follows K img b reply (check n t ∷ cs) x) (sym z) stopped
  where
    stopped : Follows K img b reply (check n t ∷ cs) (refuse n img b reply)
    stopped =
        record {
          table = rw (e, first_of);
          untouched = λ m p. let q : n ≡ m = cc in ap (λ (x : Refusal). refuse x img b reply) q;
          kept = k;
        }

-- the first line that is left does not hold
passes : {K : List ℕ → Type 0} {img : List ℕ} {b : Record} {reply : List ℕ} {n : Refusal} {t : Bool} {cs : List Check} {o : Out}
    → t ≡ false → Follows K img b reply cs o → Follows K img b reply (check n t ∷ cs) o
unfolding first_of
passes e f = record { table = rw (e, first_of) f.table; untouched = f.untouched; kept = f.kept }

-- no line is left
accepted : {K : List ℕ → Type 0} {img : List ℕ} {b : Record} {reply : List ℕ} {o : Out}
    → refusal_in o.answer ≡ none → K o.image → Follows K img b reply [] o
unfolding first_of
accepted {o} e k = record { table = e; untouched = λ n p. absurd (no_refusal o.answer n e p); kept = k }

over : {K : List ℕ → Type 0} {img : List ℕ} {b : Record} {reply : List ℕ} {cs : List Check} {o o' : Out}
    → o ≡ o' → Follows K img b reply cs o' → Follows K img b reply cs o
over {K} {img} {b} {reply} {cs} e f = subst (λ (x : Out). Follows K img b reply cs x) (sym e) f

-- ---- requests

abbrev Same : List ℕ → List ℕ → Type 0
Same img i = i ≡ img

module _ (a : Asking) where
  abbrev Asked : List Check → Out → Type 0
  Asked cs o = Follows (Same a.image) a.image a.board a.reply cs o

  append_asked : (x : Journal) (f : Frame) → Asked (check refusal.Worn (moves_for a x f && eqb x.time last_time) ∷ []) (append a x f)
  append_asked x f =
      on_test (moves_for a x f && eqb x.time last_time)
      (λ e. stops refl e (append_worn a x f e))
      (λ e. over (append_begins a x f e)
      (passes e (accepted (begin-accepts (enter_wipe (append_job a.blocks a.image a.board x f)).phase) refl)))

  change_asked : (x : Journal) (c : Change)
      → Asked (check refusal.HostFull (host_full x.edition (size_for a) (replay_of x) a.host c)
      ∷ check refusal.NoRoom (no_room_of x.edition (size_for a) (replay_of x) a.host c)
      ∷ check refusal.Worn (worn a x (appends (change a.host c))) ∷ []) (serve_change a x c)
  change_asked x c =
      on_test (host_full x.edition (size_for a) (replay_of x) a.host c)
      (λ d. stops refl d (change_over a x c d))
      (λ d. on_test (no_room_of x.edition (size_for a) (replay_of x) a.host c)
      (λ e. passes d (stops refl e (change_refused a x c d e)))
      (λ e. over (change_goes a x c d e) (passes d (passes e (append_asked x (change a.host c))))))

  end_asked : (x : Journal) (f : Frame)
      → Asked (check refusal.Worn (worn a x (end_task (is_open_of a.host (replay_of x).pending) f)) ∷ []) (serve_end a x f)
  end_asked x f =
      on_test (is_open_of a.host (replay_of x).pending)
      (λ e. over (end_goes a x f e) (rw e (append_asked x f)))
      (λ e. over (end_idle a x f e) (passes (rw e) (accepted refl refl)))

  -- a read by its place
  read_asked : (i : ObjectId) → Asked (read_checks a i) (read_at a i)
  read_asked i = go (read_case a i)
    where
      go : ReadCase a i → Asked (read_checks a i) (read_at a i)
      go (misshapen t e) = stops refl (rw t) e
      go (absent t z e) = passes (rw (t, z)) (stops refl z e)
      go (lost t z v e) = stops refl (rw (t, z, v)) e
      go (found x t z v e) =
          over e (passes (rw (t, z, v)) (passes z (passes refl (passes refl (passes refl (passes refl (passes refl (accepted refl refl))))))))

  read-parsed : (p : Parsed) → Asked (check refusal.Malformed (is_malformed p) ∷ later_checks a true (held_for a) p) (read_parsed a p)
  read-parsed None = stops refl refl refl
  read-parsed (Some q) = passes refl (read_asked (id_in a.message))

  log_asked : (x : Journal) → Asked (check refusal.ShortReply (short_reply a (Log Summary)) ∷ check refusal.Pending false ∷ check refusal.HostFull false
      ∷ check refusal.NoRoom false ∷ check refusal.Worn false ∷ []) (serve a x (Log Summary))
  log_asked x =
      over (serve-log a x)
      (on_test (ltb (length a.reply) page_len)
      (λ e. stops refl e (log_short a x e))
      (λ e. over (log_done a x e) (passes e (passes refl (passes refl (passes refl (passes refl (accepted refl refl))))))))

  convert-in : (x : Journal) (d : Edition) → Asked (check refusal.Worn (worn a x (convert_task d)) ∷ []) (convert a x d)
  convert-in x edition.First =
      on_test (eqb x.time last_time)
      (λ e. stops refl e (convert_worn a x e))
      (λ e. over (convert_begins a x e)
      (passes e (accepted (begin-accepts (enter_wipe (convert_job a.blocks a.image a.board x)).phase) refl)))
  convert-in x edition.Second = over (convert_there a x) (passes refl (accepted refl refl))

  convert_asked : (x : Journal) (es : List Entry) → (replay_of x).pending ≡ es
      → Asked (check refusal.Pending (pending_rule x Convert) ∷ check refusal.HostFull (host_full_for a x Convert) ∷ check refusal.NoRoom (no_room_for a x Convert)
      ∷ check refusal.Worn (worn a x (convert_task x.edition)) ∷ []) (serve_convert a x)
  convert_asked x (e ∷ es) p = stops refl (ap is_some p) (convert_pending a x e es p)
  convert_asked x [] p =
      passes (ap is_some p)
      (passes refl
      (on_test (ltb (size_for a) (used edition.Second (replay_of x)))
      (λ t. stops refl t (convert_refused a x p t))
      (λ t. over (convert_goes a x p t) (passes t (convert-in x x.edition)))))

  -- any other request
  serve_asked : of_read_kind a.message ≡ false → (x : Journal) (q : Request) → parse a.message ≡ Some q → Asked (held_checks a x q) (serve a x q)
  serve_asked k x q p = passes refl (passes refl (go q p))
    where
      Rest : Request → List Check
      Rest q =
          check refusal.ShortReply (short_reply a q) ∷ check refusal.Pending (pending_rule x q) ∷ check refusal.HostFull (host_full_for a x q)
          ∷ check refusal.NoRoom (no_room_for a x q) ∷ check refusal.Worn (worn a x (task_for a.host a.message x q)) ∷ []

      go : (q : Request) → parse a.message ≡ Some q → Asked (Rest q) (serve a x q)
      go (Put i) p = over (serve_put a x i) (passes refl (passes refl (change_asked x (put i (value_in_of a.message)))))
      go (Delete i) p = over (serve_delete a x i) (passes refl (passes refl (change_asked x (delete i))))
      go Commit p = over (serve_commit a x) (passes refl (passes refl (passes refl (passes refl (end_asked x (commit a.host))))))
      go Abort p = over (serve_abort a x) (passes refl (passes refl (passes refl (passes refl (end_asked x (abort a.host))))))
      go (Read i) p = absurd (no_read a.message k i p)
      go (Log Summary) p = log_asked x
      go Convert p = over (serve-convert a x) (passes refl (convert_asked x (replay_of x).pending refl))

  parsed_asked : of_read_kind a.message ≡ false → (x : Journal) (p : Parsed) → parse a.message ≡ p
      → Asked (check refusal.Malformed (is_malformed p) ∷ later_checks a false (some x) p) (serve_parsed a x p)
  parsed_asked k x None e = stops refl refl refl
  parsed_asked k x (Some q) e = passes refl (serve_asked k x q e)

  held_asked : of_read_kind a.message ≡ false → (x : Option Journal) → Asked (from_stale a false x (parse a.message)) (serve_held a x)
  held_asked k none = stops refl refl refl
  held_asked k (some x) = passes refl (parsed_asked k x (parse a.message) refl)

  kind_asked : (b : Bool) → of_read_kind a.message ≡ b → Asked (from_stale a b (held_for a) (parse a.message)) (request_by a b)
  kind_asked true k = passes refl (read-parsed (parse a.message))
  kind_asked false k = held_asked k (held_for a)

  phase_asked : (p : Phase) → Asked (check refusal.Busy (is_busy p) ∷ check refusal.NoStore (is_unmounted p)
      ∷ from_stale a (of_read_kind a.message) (held_for a) (parse a.message)) (request_in a p)
  phase_asked (Busy s) = stops refl refl refl
  phase_asked Unmounted = passes refl (stops refl refl refl)
  phase_asked Idle = passes refl (passes refl (kind_asked (of_read_kind a.message) refl))

  request_asked : Asked (request_checks a) (request_on a)
  request_asked =
      on_test (allowed a.blocks (length a.image))
      (λ ok. passes (ap not ok)
      (on_test (leb a.host.0 host_max)
      (λ e. over (request-in a ok e refl) (passes (le-ltb host_max a.host.0 (leb-true a.host.0 host_max e)) (phase_asked a.board.phase)))
      (λ e. stops refl (lt-ltb host_max a.host.0 (leb-false a.host.0 host_max e)) (request_host a ok e))))
      (λ no. stops refl (ap not no) (request_length a no))

-- ---- mount and format

abbrev Made : List ℕ → List Check → Out → Type 0
Made img cs o = Follows (Same img) img unmounted [] cs o

at-made : (N : ℕ) (img : List ℕ) (xs : List Found) (x : Store)
    → Made img (check refusal.Worn (transfers (upkeep (size_of N img) x) && eqb (time_of x) last_time) ∷ []) (mount_at N img xs x)
at-made N img xs x =
    on_test (transfers (upkeep (size_of N img) x) && eqb (time_of x) last_time)
    (λ e. stops refl e (mount_worn N img xs x e))
    (λ e. over (mount-begins N img xs x e)
    (passes e (accepted (begin-accepts (enter_wipe (mount_job N img x (wipe_list x.number xs) (upkeep (size_of N img) x))).phase) refl)))

none_foreign : (xs : List Found) → any_foreign xs ≡ false → none_valid xs ≡ refusal.NoStore
none_foreign [] e = refl
none_foreign (x ∷ xs) e =
    go x.state (or_no-left (is_foreign x.state) (any_foreign xs) e) (none_foreign xs (or_no_right (is_foreign x.state) (any_foreign xs) e))
  where
    go : (a : BlockState) → is_foreign a ≡ false → none_valid xs ≡ refusal.NoStore → or_foreign x.number a (none_valid xs) ≡ refusal.NoStore
    go blank f y = y
    go in_progress f y = y
    go (valid w) f y = y
    go (foreign w) f y = let z : ◌≡◌ {A = ℕ} 0 1 = cc in absurd (omega arith)

stores-made : (N : ℕ) (img : List ℕ) (xs : List Found) (ys : List Store)
    → Made img
    (check refusal.NoStore (no_store_of ys && not (any_foreign xs)) ∷ check (unclear xs ys) ((no_store_of ys && any_foreign xs) || equal_times ys)
    ∷ check refusal.Worn (worn_store (size_of N img) ys) ∷ [])
    (mount_stores N img xs ys)
stores-made N img xs [] =
    on_test (any_foreign xs)
    (λ e. passes (ap not e) (stops refl (or_left (any_foreign xs) false e) refl))
    (λ e. stops refl (ap not e) (ap (λ (w : Refusal). refuse w img unmounted []) (none_foreign xs e)))
stores-made N img xs (y ∷ ys) =
    passes refl
    (on_test (equal_times (y ∷ ys)) (λ e. stops refl e (rw e)) (λ e. passes e (over (rw e) (at-made N img xs (newest y ys)))))

mount-made : (N : ℕ) (img : List ℕ) → Made img (mount_checks N img) (mount_on N img)
mount-made N img =
    on_test (allowed N (length img))
    (λ a. passes (ap not a) (over (mount-stores N img a) (stores-made N img (all_found N img) (stores (all_found N img)))))
    (λ a. stops refl (ap not a) (mount-length N img a))

format-made : (N : ℕ) (img : List ℕ) → Made img (checks N img unmounted format) (format_on N img)
format-made N img =
    on_test (allowed N (length img))
    (λ a. over (format-begins N img a) (passes (ap not a) (accepted (begin-accepts (enter_wipe (format_job N img)).phase) refl)))
    (λ a. stops refl (ap not a) (format-length N img a))

-- ---- step

step_follows : (N : ℕ) (img : List ℕ) (r : Record) (p : Phase) → r.phase ≡ p
    → Follows (OneStep N img) img r [] (check refusal.Stale (outside N p img r) ∷ []) (step_on N img r)
step_follows N img r Unmounted e = over (step-resting N img r (subst Rests (sym e) tt)) (passes refl (accepted refl (inl refl)))
step_follows N img r Idle e = over (step-resting N img r (subst Rests (sym e) tt)) (passes refl (accepted refl (inl refl)))
step_follows N img r (Busy s) e =
    on_test (same_shape N (length img) r && within N (size_of N img) (action s r))
    (λ t. over (step-goes N img r s e t)
    (passes (ap not t) (accepted (begin-accepts (advance N s (apply (size_of N img) (action s r) img) r).phase) (inr (action s r, refl)))))
    (λ t. stops (inl refl) (ap not t) (step-outside N img r s e t))

-- ---- demand 1

pub refused-by-table : (N : ℕ) (img : List ℕ) (r : Record) (c : Call) → refusal_in (exec N img r c).answer ≡ first_of (checks N img r c)
refused-by-table N img r (request h m reply) = (request_asked (asking N img r h m reply)).table
refused-by-table N img r step = (step_follows N img r r.phase refl).table
refused-by-table N img r mount = (mount-made N img).table
refused-by-table N img r format = (format-made N img).table

pub refusals_untouched : (N : ℕ) (img : List ℕ) (r : Record) (c : Call) (n : Refusal) → (exec N img r c).answer ≡ Refused n
    → exec N img r c ≡ Unchanged img r c n
refusals_untouched N img r (request h m reply) n e = (request_asked (asking N img r h m reply)).untouched n e
refusals_untouched N img r step n e = (step_follows N img r r.phase refl).untouched n e
refusals_untouched N img r mount n e = (mount-made N img).untouched n e
refusals_untouched N img r format n e = (format-made N img).untouched n e

pub at-most-one-step : (N : ℕ) (img : List ℕ) (r : Record) (c : Call) → ImageAfter N (exec N) img r c
at-most-one-step N img r (request h m reply) = (request_asked (asking N img r h m reply)).kept
at-most-one-step N img r step = (step_follows N img r r.phase refl).kept
at-most-one-step N img r mount = (mount-made N img).kept
at-most-one-step N img r format = (format-made N img).kept
