-- The C library as a list of calls: one call, then all of them.
use mathlib.Core.Path.{◌≡◌, refl, sym, ap, ◌∙◌}
use mathlib.Core.List.{List, [], ◌∷◌}
use mathlib.Core.Bool.{Bool, true, true≢false, cond}
use Prim.Native.Nat.{ℕ}
use native.Mathlib.Omega.{arith}
use lib.Dec.{leb}
use lib.ListN.{length}
use borrow.Author.Tests.{eq-eqb}
use Rattle.flash.specs.Flash.{size_of, with_block}
use Rattle.flash.proofs.Cases.{on_test}
use Rattle.frame.specs.declared.Field.{Field}
use Rattle.frame.specs.declared.Field.TheVariants as field
use Rattle.frame.specs.declared.Host.{Host}
use Rattle.frame.specs.declared.ObjectId.{ObjectId}
use Rattle.frame.specs.Frame.{host_max}
use Rattle.frame.specs.Reader.{fault}
use Rattle.wire.specs.declared.Answer.{Answer}
use Rattle.wire.specs.declared.Answer.TheVariants.{Done, More, Refused}
use Rattle.wire.specs.declared.Refusal.TheVariants as refusal
use Rattle.wire.specs.Message.{Parsed, parse, of_read_kind, id_in}
use Rattle.std.specs.Prelude.{Some, None}
use Rattle.wire.specs.declared.Request.TheVariants.{Read}
use Rattle.wire.specs.Answer.{edge_number, refused_number, field_number, spot_of}
use Rattle.board.specs.Table.{place_for}
use Rattle.board.specs.declared.Phase.{Phase}
use Rattle.board.specs.declared.Phase.TheVariants.{Unmounted, Idle, Busy}
use Rattle.board.specs.declared.Record.{Record}
use Rattle.board.specs.Record.{allowed, Stretch, Out}
use Rattle.board.specs.Step.{step_on}
use Rattle.board.specs.Mount.{mount_on, format_on}
use Rattle.board.specs.Queue.{request_on, Asking, asking, read_at, read_found}
use Rattle.board.specs.Exec.{Call, request, step, mount, format, exec}
use Rattle.board.specs.Promise.{Shown, shown, trace, PromiseDetermines}
use Rattle.board.proofs.Outcomes as outcome
use Rattle.board.proofs.Reading.{no_read}
use Rattle.board.proofs.Refusals.{refusals_untouched, at-most-one-step}
use Rattle.board.proofs.Telling.{silent}
use Rattle.board.proofs.FollowingPlans.{kept}
use Rattle.board.proofs.Determining.{promise_determines}
use Rattle.lent.specs.Layout.{record_size, record_in, record_bytes}
use Rattle.lent.proofs.Inverse.{Sized, record_back, length_bytes_of}
use Rattle.lent.proofs.Own.{own-sized}
use Rattle.queue.specs.Calls.{no_id, read_as_of}
use Rattle.pack.specs.Code.{changes}
use Rattle.edge.specs.Edge.{Edge, edge, written, edge_request, edge_step, edge_mount, edge_format, edge_read}
use Rattle.edge.specs.Edge.{place, EdgeNextThenMade}
use Rattle.edge.specs.Edge.{Broken, broken, edge_fault}
use Rattle.edge.specs.Calls.{field_at, answer_at, Ask, plain, reads, drives, call_of}
use Rattle.edge.specs.Calls.{edge_call, stretch_in, plain_stretch, edge_stretch, edge_out, CallExact, CallSized}
use Rattle.edge.specs.Calls.{Happening, does, loses, cuts, Resumes, events_of, edge_trace, TraceExact, TracePromised}
use Rattle.edge.proofs.Kept.{Keeps, step_keeps}
use Rattle.edge.proofs.Arrays.{Plain, step-sized, mount-sized, format-sized}
use Rattle.edge.proofs.Asked.{reads_only, serves}
use Rattle.edge.proofs.Driving.{edge-next-then-made}

-- ---- numbers read back

field_back : (f : Field) → field_at (field_number f) ≡ f
field_back field.Length = refl
field_back field.Kind = refl
field_back field.Host = refl
field_back field.Id = refl
field_back field.Finish = refl
field_back field.Created = refl
field_back field.State = refl
field_back field.Spare = refl
field_back field.Crc = refl

plain_back : (a : Answer) (f : Broken) → Plain a → answer_at (edge_number a) f ≡ a
plain_back Done f h = refl
plain_back More f h = refl
plain_back (Refused refusal.Malformed) f h = refl
plain_back (Refused refusal.NoStore) f h = refl
plain_back (Refused (refusal.Foreign k e)) f h = absurd h
plain_back (Refused refusal.ImageLength) f h = refl
plain_back (Refused refusal.Busy) f h = refl
plain_back (Refused refusal.Worn) f h = refl
plain_back (Refused refusal.NoRoom) f h = refl
plain_back (Refused refusal.NoObject) f h = refl
plain_back (Refused refusal.ShortReply) f h = refl
plain_back (Refused refusal.HostRange) f h = refl
plain_back (Refused refusal.Stale) f h = refl
plain_back (Refused refusal.HostFull) f h = refl
plain_back (Refused refusal.Pending) f h = refl

-- what a mount's 3 names, told by its own numbers
abbrev named : Answer → Broken
named a = broken (refused_number a) (spot_of a).half (spot_of a).field (spot_of a).place

mount-back : (a : Answer) → answer_at (edge_number a) (named a) ≡ a
mount-back (Refused (refusal.Foreign k e)) = ap (λ (f : Field). Refused (refusal.Foreign k (fault f e.place))) (field_back e.field)
mount-back Done = refl
mount-back More = refl
mount-back (Refused refusal.Malformed) = refl
mount-back (Refused refusal.NoStore) = refl
mount-back (Refused refusal.ImageLength) = refl
mount-back (Refused refusal.Busy) = refl
mount-back (Refused refusal.Worn) = refl
mount-back (Refused refusal.NoRoom) = refl
mount-back (Refused refusal.NoObject) = refl
mount-back (Refused refusal.ShortReply) = refl
mount-back (Refused refusal.HostRange) = refl
mount-back (Refused refusal.Stale) = refl
mount-back (Refused refusal.HostFull) = refl
mount-back (Refused refusal.Pending) = refl

fault-is : (N : ℕ) (img : List ℕ) → edge_fault N img ≡ named (mount_on N img).answer
unfolding edge_fault
fault-is N img = refl

-- ---- where a value stands

-- it does not depend on the reply
module _ (N : ℕ) (img : List ℕ) (r : Record) (h : Host) (m : List ℕ) (k : of_read_kind m ≡ true) (p q : List ℕ) where
  abbrev c : Asking
  c = asking N img r h m p

  abbrev d : Asking
  d = asking N img r h m q

  abbrev Same : Type 0
  Same = (request_on c).stretch ≡ (request_on d).stretch

  both : {x y : Out} → request_on c ≡ x → request_on d ≡ y → x.stretch ≡ y.stretch → Same
  both e f s = ap (λ (o : Out). o.stretch) e ∙ s ∙ sym (ap (λ (o : Out). o.stretch) f)

  placed : (i : ObjectId) → outcome.ReadCase c i → (read_at c i).stretch ≡ (read_at d i).stretch
  placed i (outcome.misshapen t e) = ap (λ (o : Out). o.stretch) e ∙ sym (ap (λ (o : Out). o.stretch) (outcome.read_misshapen d i t))
  placed i (outcome.absent t z e) =
      ap (λ (o : Out). o.stretch) e ∙ sym (ap (λ (o : Out). o.stretch) (outcome.read_shaped d i t ∙ outcome.read_absent d i (place_for d i) z))
  placed i (outcome.lost t z v e) =
      ap (λ (o : Out). o.stretch) e
      ∙ sym (ap (λ (o : Out). o.stretch) (outcome.read_shaped d i t ∙ outcome.read_there d i (place_for d i) z ∙ ap (read_found d) v))
  placed i (outcome.found x t z v e) =
      ap (λ (o : Out). o.stretch) e
      ∙ sym (ap (λ (o : Out). o.stretch) (outcome.read_shaped d i t ∙ outcome.read_there d i (place_for d i) z ∙ ap (read_found d) v))

  same_asked : allowed N (length img) ≡ true → leb h.0 host_max ≡ true → Same
  same_asked a e = by r.phase refl
    where
      of : r.phase ≡ Idle → (x : Parsed) → parse m ≡ x → Same
      of i None z = both (outcome.read_malformed c a e k i z) (outcome.read_malformed d a e k i z) refl
      of i (Some s) z = both (outcome.read_placed c a e k i s z) (outcome.read_placed d a e k i s z) (placed (id_in m) (outcome.read_case c (id_in m)))

      by : (x : Phase) → r.phase ≡ x → Same
      by Unmounted i = both (outcome.request-in c a e i) (outcome.request-in d a e i) refl
      by Idle i = of i (parse m) refl
      by (Busy g) i = both (outcome.request-in c a e i) (outcome.request-in d a e i) refl

  same_place : Same
  same_place =
      on_test (allowed N (length img))
      (λ a. on_test (leb h.0 host_max) (same_asked a)
      (λ e. both (outcome.request_host c a e) (outcome.request_host d a e) refl))
      (λ a. both (outcome.request_length c a) (outcome.request_length d a) refl)

-- a message that is of no read's kind has none
module _ (N : ℕ) (img : List ℕ) (r : Record) (s : Sized r) (h : Host) (m reply : List ℕ) where
  abbrev read_by : Bool → Stretch
  read_by b = (request_on (asking N img r h (cond b m no_id) [])).stretch

  no-id : (i : ObjectId) → parse no_id ≡ Some (Read i) → ⊥
  unfolding parse
  no-id i e = let z : ◌≡◌ {A = ℕ} 0 1 = cc in absurd (omega arith)

  pub read-place : (request_on (asking N img r h (read_as_of m) [])).stretch ≡ (request_on (asking N img r h m reply)).stretch
  read-place =
      on_test (of_read_kind m)
      (λ k. ap read_by k ∙ same_place N img r h m k [] reply)
      (λ k. ap read_by k ∙ (serves (asking N img r h no_id []) s).place no-id ∙ sym ((serves (asking N img r h m reply) s).place (no_read m k)))

-- ---- one call

request_keeps : (N : ℕ) (img : List ℕ) (r : Record) → Sized r → (h : Host) (m reply : List ℕ) → Keeps r (request_on (asking N img r h m reply))
request_keeps N img r s h m reply = by (request_on (asking N img r h m reply)).answer refl
  where
    by : (a : Answer) → (request_on (asking N img r h m reply)).answer ≡ a → Keeps r (request_on (asking N img r h m reply))
    by Done e w = (serves (asking N img r h m reply) s).done e
    by More e w = absurd (true≢false (sym (ap (changes r.phase) e) ∙ w))
    by (Refused n) e w = ap (λ (o : Out). o.board) (refusals_untouched N img r (request h m reply) n e)

-- what a call left in the buffers, beside what `exec` gives back
pub record Meets (N : ℕ) (img b : List ℕ) (c : Ask) (o : Out) : Type 0 where
  pub after : List ℕ
  pub is : edge_call N img b c ≡ edge (edge_number o.answer) o.image after o.reply
  pub names : answer_at (edge_number o.answer) (edge_fault N img) ≡ o.answer
  pub back : record_in after ≡ o.board
  pub size : length after ≡ record_size
  pub place : edge_stretch N img b c ≡ o.stretch

module _ (N : ℕ) (img b : List ℕ) (l : length b ≡ record_size) where
  abbrev r : Record
  r = record_in b

  abbrev After : Out → List ℕ → Type 0
  After o a = (record_in a ≡ o.board) × (length a ≡ record_size)

  bytes_after : (o : Out) → Sized o.board → After o (record_bytes o.board)
  bytes_after o s = (record_back o.board s, length_bytes_of o.board s)

  written_after : (o : Out) → Sized o.board → Keeps r o → After o (written b o)
  written_after o s k =
      on_test (changes r.phase o.answer) (λ t. rw t (bytes_after o s)) (λ t. rw t (sym (k t), l))

  is_request : (h : Host) (m reply : List ℕ)
      → let o : Out = request_on (asking N img r h m reply) in
      edge_request N img b h.0 m reply ≡ edge (edge_number o.answer) o.image (written b o) o.reply
  unfolding edge_request
  is_request h m reply = rw (eq-eqb (length b) record_size l)

  is_place : (h : Host) (m reply : List ℕ) → plain_stretch N img b (request h m reply) ≡ (request_on (asking N img r h (read_as_of m) [])).stretch
  unfolding edge_read
  is_place h m reply = rw (eq-eqb (length b) record_size l)

  pub is_step : let o : Out = step_on N img r in edge_step N img b ≡ edge (edge_number o.answer) o.image (written b o) o.reply
  unfolding edge_step
  is_step = rw (eq-eqb (length b) record_size l)

  is_mount : let o : Out = mount_on N img in edge_mount N img b ≡ edge (edge_number o.answer) o.image (record_bytes o.board) o.reply
  unfolding edge_mount
  is_mount = rw (eq-eqb (length b) record_size l)

  is_format : let o : Out = format_on N img in edge_format N img b ≡ edge (edge_number o.answer) o.image (record_bytes o.board) o.reply
  unfolding edge_format
  is_format = rw (eq-eqb (length b) record_size l)

  meets_plain : (c : Call) → Meets N img b (plain c) (exec N img r c)
  meets_plain (request h m reply) =
      let o = request_on (asking N img r h m reply) in
      let s = (serves (asking N img r h m reply) (own-sized b)).leaves in
      let a = written_after o s.0 (request_keeps N img r (own-sized b) h m reply) in
      record {
        after = written b o;
        is = is_request h m reply;
        names = plain_back o.answer (edge_fault N img) s.1;
        back = a.0;
        size = a.1;
        place = is_place h m reply ∙ read-place N img r (own-sized b) h m reply;
      }
  meets_plain step =
      let o = step_on N img r in
      let s = step-sized N img r (own-sized b) in
      let a = written_after o s.0 (step_keeps N img r) in
      record {
        after = written b o;
        is = is_step;
        names = plain_back o.answer (edge_fault N img) s.1;
        back = a.0;
        size = a.1;
        place = sym (silent N img r step).1;
      }
  meets_plain mount =
      let o = mount_on N img in
      let a = bytes_after o (mount-sized N img) in
      record {
        after = record_bytes o.board;
        is = is_mount;
        names = ap (answer_at (edge_number o.answer)) (fault-is N img) ∙ mount-back o.answer;
        back = a.0;
        size = a.1;
        place = sym (silent N img r mount).1;
      }
  meets_plain format =
      let o = format_on N img in
      let s = format-sized N img in
      let a = bytes_after o s.0 in
      record {
        after = record_bytes o.board;
        is = is_format;
        names = plain_back o.answer (edge_fault N img) s.1;
        back = a.0;
        size = a.1;
        place = sym (silent N img r format).1;
      }

  -- a read changes nothing
  is_read : (h : ℕ) (m : List ℕ) (at size : ℕ)
      → let o : Out = request_on (asking N img r (record { 0 = h }) (read_as_of m) []) in
      edge_read N img b h m at size ≡ place (edge_number o.answer) o.stretch.at o.stretch.size
  unfolding edge_read
  is_read h m at size = rw (eq-eqb (length b) record_size l)

  meets_read : (h : ℕ) (m : List ℕ) (at size : ℕ)
      → Meets N img b (reads h m at size) (request_on (asking N img r (record { 0 = h }) (read_as_of m) []))
  meets_read h m at size =
      let g : Host = record { 0 = h } in
      let s = serves (asking N img r g (read_as_of m) []) (own-sized b) in
      let k = s.read (reads_only m) in
      let o = request_on (asking N img r g (read_as_of m) []) in
      let e = is_read h m at size in
      let i : o.image ≡ img = at-most-one-step N img r (request g (read_as_of m) []) in
      record {
        after = b;
        is = λ j. edge (e j).answer (sym i j) b (sym k.1 j);
        names = plain_back o.answer (edge_fault N img) s.leaves.1;
        back = sym k.0;
        size = l;
        place = ap stretch_in e;
      }

  meets_drive : (at size byte : ℕ) → Meets N img b (drives at size byte) (step_on N img r)
  unfolding EdgeNextThenMade
  meets_drive at size byte =
      let m = meets_plain step in
      record {
        after = m.after;
        is = edge-next-then-made N img b at size byte ∙ m.is;
        names = m.names;
        back = m.back;
        size = m.size;
        place = m.place;
      }

  pub meets : (c : Ask) → Meets N img b c (exec N img r (call_of c))
  meets (plain c) = meets_plain c
  meets (reads h m at size) = meets_read h m at size
  meets (drives at size byte) = meets_drive at size byte

  pub exact : (c : Ask) → edge_out N img b c ≡ exec N img r (call_of c)
  exact c =
      let m = meets c in
      λ i.
      record {
        answer = (ap (λ (x : Edge). answer_at x.answer (edge_fault N img)) m.is ∙ m.names) i;
        image = (m.is i).image;
        board = (ap (λ (x : Edge). record_in x.board) m.is ∙ m.back) i;
        reply = (m.is i).reply;
        stretch = m.place i;
      }

  pub still_sized : (c : Ask) → length (edge_call N img b c).board ≡ record_size
  still_sized c = ap (λ (x : Edge). length x.board) (meets c).is ∙ (meets c).size

pub call-exact : CallExact
unfolding CallExact
call-exact N img b c l = exact N img b l c

pub call-sized : CallSized
unfolding CallSized
call-sized N img b c l = still_sized N img b l c

-- ---- the list

-- a mount and a format take no record
pub any_record : (N : ℕ) (img : List ℕ) (q r : Record) (es : List Happening) → Resumes es
    → trace N (exec N) img q (events_of es) ≡ trace N (exec N) img r (events_of es)
any_record N img q r [] h = refl
any_record N img q r (does (plain (request x m reply)) ∷ es) h = absurd h
any_record N img q r (does (plain step) ∷ es) h = absurd h
any_record N img q r (does (plain mount) ∷ es) h = refl
any_record N img q r (does (plain format) ∷ es) h = refl
any_record N img q r (does (reads x m at size) ∷ es) h = absurd h
any_record N img q r (does (drives at size byte) ∷ es) h = absurd h
any_record N img q r (loses b ∷ es) h = absurd h
any_record N img q r (cuts k new b ∷ es) h = absurd h

pub trace-exact : TraceExact
unfolding TraceExact
trace-exact N img b [] l h = refl
trace-exact N img b (does c ∷ es) l h =
    let x = exact N img b l c in
    let e = edge_call N img b c in
    let t : edge_trace N e.image e.board es ≡ trace N (exec N) e.image (record_in e.board) (events_of es) =
    trace-exact N e.image e.board es (still_sized N img b l c) h in
    ap (λ (ss : List Shown). shown (edge_out N img b c) ∷ ss) t
    ∙ λ i. shown (x i) ∷ trace N (exec N) (x i).image (x i).board (events_of es)
trace-exact N img b (loses d ∷ es) l h = trace-exact N img d es h.0 h.2 ∙ any_record N img (record_in d) (record_in b) es h.1
trace-exact N img b (cuts k new d ∷ es) l h = trace-exact N (with_block (size_of N img) k new img) d es h.0 h.1

pub trace_promised : TracePromised
unfolding TracePromised TraceExact PromiseDetermines
trace_promised N m k img b q c es l h y begins bytes =
    trace-exact N img b (does (plain c) ∷ es) l h ∙ promise_determines N (exec N) m (kept N) k img (record_in b) q c (events_of es) y begins bytes
