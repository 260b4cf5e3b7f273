-- A refusal changes no buffer.
use mathlib.Core.Path.{◌≡◌, refl, ap}
use mathlib.Core.List.{List, []}
use Prim.Native.Nat.{ℕ}
use native.Mathlib.Omega.{arith}
use lib.ListN.{length}
use borrow.Author.Tests.{eq-eqb}
use Rattle.flash.proofs.Cases.{on_test}
use Rattle.wire.specs.declared.Answer.{Answer}
use Rattle.wire.specs.declared.Answer.TheVariants.{Done, More, Refused}
use Rattle.wire.specs.declared.Refusal.{Refusal}
use Rattle.wire.specs.Answer.{edge_number}
use Rattle.board.specs.declared.Record.{Record}
use Rattle.board.specs.declared.Phase.{Phase}
use Rattle.board.specs.declared.Phase.TheVariants.{Unmounted, Idle, Busy}
use Rattle.board.specs.Record.{Out, out, refuse, answer_in}
use Rattle.board.specs.Step.{advance}
use Rattle.board.specs.Drive.{made_on}
use Rattle.board.specs.Queue.{asking, request_on}
use Rattle.board.specs.Exec.{request, step}
use Rattle.board.proofs.Refusals.{refusals_untouched}
use Rattle.lent.specs.Layout.{record_size, record_in}
use Rattle.queue.specs.Calls.{read_as_of}
use Rattle.edge.proofs.Kept.{made_cases}
use Rattle.edge.specs.Edge.{holds_record, guarded, written, edge_request, edge_step, edge_made, edge_read}
use Rattle.edge.specs.Edge.{Refuses, Stays, RefusedStays, RefusedReadEmpty}

-- an answer that refuses is a refusal's
is-refused : (a : Answer) → Refuses (edge_number a) → (n : Refusal) × (a ≡ Refused n)
is-refused Done h = absurd (omega (arith, h.0))
is-refused More h = absurd (omega (arith, h.1))
is-refused (Refused n) h = (n, refl)

abbrev Untouched : List ℕ → Record → List ℕ → Out → Type 0
Untouched img r reply o = (n : Refusal) → o.answer ≡ Refused n → o ≡ refuse n img r reply

stays : (img b reply : List ℕ) (o : Out) → Untouched img (record_in b) reply o
    → Stays img b reply (guarded img b reply o (written b o))
stays img b reply o u =
    on_test (holds_record b)
    (λ t. rw t (λ h. let x = is-refused o.answer h in rw (u x.0 x.1)))
    (λ t. rw t (λ _. refl))

-- no answer of a record is a refusal
never-refused : (p : Phase) (n : Refusal) → answer_in p ≡ Refused n → ⊥
never-refused Unmounted n e = let z : ◌≡◌ {A = ℕ} 0 1 = cc in omega arith
never-refused Idle n e = let z : ◌≡◌ {A = ℕ} 0 1 = cc in omega arith
never-refused (Busy s) n e = let z : ◌≡◌ {A = ℕ} 0 1 = cc in omega arith

made-untouched : (N : ℕ) (img : List ℕ) (r : Record) → Untouched img r [] (made_on N img r)
made-untouched N img r =
    made_cases N (Untouched img r []) img r (λ n e. absurd (never-refused Idle n e))
    (λ s e n q. absurd (never-refused (advance N s img r).phase n q))
    (λ n e. ap (λ (a : Answer). out a img r []) e)

pub refused-stays : RefusedStays
unfolding edge_request edge_step edge_made
refused-stays =
    record {
      request = λ N img b h m reply. stays img b reply _ (λ n. refusals_untouched N img (record_in b) (request (record { 0 = h }) m reply) n);
      step = λ N img b. stays img b _ _ (λ n. refusals_untouched N img (record_in b) step n);
      made = λ N img b. stays img b _ _ (made-untouched N img (record_in b));
    }

-- ---- reads

pub refused-read-empty : RefusedReadEmpty
unfolding RefusedReadEmpty edge_read
refused-read-empty N img b h m at size l =
    rw (eq-eqb (length b) record_size l)
    (λ f.
    let x = is-refused (request_on (asking N img (record_in b) (record { 0 = h }) (read_as_of m) [])).answer f in
    rw (refusals_untouched N img (record_in b) (request (record { 0 = h }) (read_as_of m) []) x.0 x.1))
