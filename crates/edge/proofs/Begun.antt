-- What mount, format and requests leave in the buffers that they are lent.
use mathlib.Core.Path.{◌≡◌, refl, sym, ap, ◌∙◌}
use mathlib.Core.List.{List}
use mathlib.Core.Bool.{false}
use Prim.Native.Nat.{ℕ}
use native.Mathlib.Omega.{arith}
use lib.Dec.{leb}
use lib.ListN.{length}
use borrow.Author.Tests.{eq-eqb}
use Rattle.flash.proofs.Cases.{on_test}
use Rattle.frame.specs.Frame.{host_max}
use Rattle.wire.specs.declared.Answer.{Answer}
use Rattle.wire.specs.declared.Answer.TheVariants.{Done, More, Refused}
use Rattle.wire.specs.declared.Refusal.{Refusal}
use Rattle.wire.specs.declared.Refusal.TheVariants as refusal
use Rattle.wire.specs.Answer.{edge_number}
use Rattle.board.specs.declared.Phase.{Phase}
use Rattle.board.specs.declared.Phase.TheVariants.{Unmounted, Idle, Busy}
use Rattle.board.specs.Record.{allowed, no_frame, Out}
use Rattle.board.specs.Queue.{Asking, refuse_to, request_on}
use Rattle.board.specs.Table.{is_busy}
use Rattle.board.proofs.Outcomes.{request_length, request_host, request-in}
use Rattle.lent.specs.Layout.{record_size, record_in, record_bytes, record_into}
use Rattle.job.specs.declared.records.Stepped.{Stepped}
use Rattle.job.specs.Code.{assemble}
use Rattle.store.specs.Calls.{Gives}
use Rattle.serving.specs.Calls.{kept_or, Asks}
use Rattle.pack.specs.Code.{ReadsAs, into_if, ReadsAsIf}
use Rattle.edge.specs.Edge.{Edge, anew, written, ReadsBack}
use Rattle.edge.proofs.Buffers.{filled}

-- ---- mount and format write the record that they give back

abbrev pub Replaces : List ℕ → List ℕ → List ℕ → ℕ → Out → Type 0
Replaces img b after n o =
    let e : Edge = anew img b o in
    ((n ≡ e.answer) × (after ≡ e.board)) × ReadsBack b after o.board

pub replaced : (img b after p f : List ℕ) (n : ℕ) (s : Stepped) (o : Out) → length b ≡ record_size → Gives p f s o
    → ((n ≡ edge_number s.answer) × (after ≡ record_into (assemble s.next p no_frame f) b)) × ReadsAs b after (assemble s.next p no_frame f)
    → Replaces img b after n o
replaced img b after p f n s o l g h =
    let w : after ≡ record_bytes o.board = h.0.1 ∙ filled _ b l ∙ ap record_bytes g.gives in
    (rw (eq-eqb _ _ l) (h.0.0 ∙ ap edge_number g.answers, w), λ l. h.1 l ∙ g.gives)

-- ---- a request writes the record of the job that it begins

begun-by : (b after p f : List ℕ) (s : Stepped) (o : Out) → length b ≡ record_size → (a : Answer) → s.answer ≡ a → o.answer ≡ a
    → kept_or a (record_in b) s.next p f ≡ o.board → (a ≡ Done → is_busy (record_in b).phase ≡ false)
    → after ≡ into_if a (assemble s.next p no_frame f) b → ReadsAsIf a b after (assemble s.next p no_frame f)
    → (after ≡ written b o) × (record_in after ≡ o.board)
begun-by b after p f s o l Done e d g r w x = (w ∙ rw (d, r refl), ap record_in w ∙ g)
begun-by b after p f s o l More e d g r w x = (w ∙ filled _ b l ∙ ap record_bytes g ∙ rw d, x l ∙ g)
begun-by b after p f s o l (Refused n) e d g r w x = (w ∙ rw d, ap record_in w ∙ g)

pub begun-is : (b after p f : List ℕ) (n : ℕ) (s : Stepped) (o : Out) → length b ≡ record_size → Asks (record_in b) p f s o
    → (o.answer ≡ Done → is_busy (record_in b).phase ≡ false)
    → ((n ≡ edge_number s.answer) × (after ≡ into_if s.answer (assemble s.next p no_frame f) b))
    × ReadsAsIf s.answer b after (assemble s.next p no_frame f)
    → ((n ≡ edge_number o.answer) × (after ≡ written b o)) × (record_in after ≡ o.board)
begun-is b after p f n s o l q r h =
    let z = begun-by b after p f s o l s.answer refl (sym q.answers) q.gives (λ e. r (sym q.answers ∙ e)) h.0.1 h.1 in
    ((h.0.0 ∙ ap edge_number q.answers, z.0), z.1)

-- a record in a job is refused
pub done-rests : (a : Asking) → (request_on a).answer ≡ Done → is_busy a.board.phase ≡ false
done-rests a d = by a.board.phase refl
  where
    no : (why : Refusal) → request_on a ≡ refuse_to a why → is_busy a.board.phase ≡ false
    no why e = let w : Refused why ≡ Done = sym (ap (λ (o : Out). o.answer) e) ∙ d in let z : ◌≡◌ {A = ℕ} 0 1 = cc in absurd (omega arith)

    by : (p : Phase) → a.board.phase ≡ p → is_busy a.board.phase ≡ false
    by Unmounted e = ap is_busy e
    by Idle e = ap is_busy e
    by (Busy s) e =
        on_test (allowed a.blocks (length a.image))
        (λ ok. on_test (leb a.host.0 host_max)
        (λ k. no refusal.Busy (request-in a ok k e))
        (λ k. no refusal.HostRange (request_host a ok k)))
        (λ n. no refusal.ImageLength (request_length a n))
