-- The refusals before a request is served: the code's tests are the table's.
use mathlib.Core.Path.{◌≡◌, refl, sym, ap, ap₂, ◌∙◌}
use mathlib.Core.List.{List}
use mathlib.Core.Option.{Option, none, some}
use mathlib.Core.Bool.{Bool, true, false, ◌&&◌}
use Prim.Native.Nat.{ℕ, ◌+◌, ◌*◌, ◌≤◌}
use native.Mathlib.Omega.{arith}
use lib.Dec.{eqb, leb}
use lib.ListN.{length}
use borrow.Author.Tests.{ne_eqb}
use Rattle.std.specs.Prelude.{⊤, Some, None, Result, Ok, Err, ok_or}
use Rattle.flash.specs.Bytes.{Bytes, same_bytes_of}
use Rattle.flash.specs.Flash.{block, size_of}
use Rattle.flash.proofs.Blank.{bytes_of}
use Rattle.flash.proofs.Cases.{on_test, and_no-left}
use Rattle.flash.proofs.Image.{bytes-block}
use Rattle.frame.specs.declared.Host.{Host}
use Rattle.frame.specs.Frame.{host_max, end_len, edition_number}
use Rattle.frame.specs.Reader.{Tail, clean, cut, bad}
use Rattle.journal.specs.Block.{Journal, header_len, BlockState, blank, in_progress, valid, foreign, block_state, torn_len}
use Rattle.survey.specs.declared.Survey.{Survey}
use Rattle.survey.specs.Survey.{survey_of, places_in, state_of}
use Rattle.survey.proofs.Surveying.{half_fits}
use Rattle.journal.proofs.Blocks.{Okay}
use Rattle.journal.proofs.States.{Contents, valid_inv}
use Rattle.wire.specs.declared.Refusal.{Refusal}
use Rattle.wire.specs.declared.Refusal.TheVariants as refusal
use Rattle.wire.specs.declared.Request.{Request}
use Rattle.wire.specs.Message.{Parsed}
use Rattle.board.specs.declared.Phase.{Phase}
use Rattle.board.specs.declared.Phase.TheVariants.{Unmounted, Idle, Busy}
use Rattle.board.specs.declared.Record.{Record}
use Rattle.board.specs.Record.{allowed}
use Rattle.board.specs.Mount.{end_of, counts_of}
use Rattle.board.specs.Queue.{same_image, held, held_by_of, held_in_of, held_if, fits_record, request_on, Asking, refuse_to}
use Rattle.board.proofs.Outcomes.{request_length, request_host, request-in}
use Rattle.queue.specs.Calls.{gate_in, gate_of, as_recorded}
use Rattle.looks.specs.declared.image.Image.{Image}
use Rattle.looks.proofs.Images.{block_length, block_fits}
use Rattle.queue.proofs.Images.{same_inside}
use Rattle.looks.proofs.Transfers.{cut_not}
use Rattle.serving.specs.Calls.{open_in, claimed_in}
use Rattle.serving.proofs.Rooms.{claimed_is, open_is}

-- ---- a message that asks for nothing

pub malformed_is : (o : Parsed) (why : Refusal) → ◌≡◌ {A = Result Request Refusal} (Err why) (ok_or o refusal.Malformed)
    → (o ≡ None) × (why ≡ refusal.Malformed)
malformed_is None why e = (refl, cc)
malformed_is (Some q) why e = let z : ◌≡◌ {A = ℕ} 0 1 = cc in absurd (omega arith)

-- ---- the gate

-- what an open gate says
pub record Passed (N n : ℕ) (p : Phase) (h : Host) : Type 0 where
  pub ok : allowed N n ≡ true
  pub host : leb h.0 host_max ≡ true
  pub idle : p ≡ Idle

shut_not : {why : Refusal} {u : ⊤} → ◌≡◌ {A = Result ⊤ Refusal} (Err why) (Ok u) → ⊥
shut_not e = let z : ◌≡◌ {A = ℕ} 0 1 = cc in omega arith

phase_open : (p : Phase) (u : ⊤) → gate_in p ≡ Ok u → p ≡ Idle
phase_open (Busy s) u e = absurd (shut_not e)
phase_open Unmounted u e = absurd (shut_not e)
phase_open Idle u e = refl

pub passed : (N n : ℕ) (p : Phase) (h : Host) (u : ⊤) → gate_of N n p h ≡ Ok u → Passed N n p h
unfolding gate_of
passed N n p h u e =
    on_test (allowed N n)
    (λ a. on_test (leb h.0 host_max)
    (λ b. record { ok = a; host = b; idle = phase_open p u (rw (a, b, gate_of) at e) })
    (λ b. absurd (shut_not (rw (a, b, gate_of) at e))))
    (λ a. absurd (shut_not (rw (a, gate_of) at e)))

same-why : (a why : Refusal) → ◌≡◌ {A = Result ⊤ Refusal} (Err a) (Err why) → a ≡ why
same-why a why e = cc

module _ (a : Asking) (why : Refusal) where
  phase_shut : (p : Phase) → a.board.phase ≡ p → allowed a.blocks (length a.image) ≡ true → leb a.host.0 host_max ≡ true
      → gate_in p ≡ Err why → request_on a ≡ refuse_to a why
  phase_shut (Busy s) i t b e = rw (← same-why refusal.Busy why e) (request-in a t b i)
  phase_shut Unmounted i t b e = rw (← same-why refusal.NoStore why e) (request-in a t b i)
  phase_shut Idle i t b e = let z : ◌≡◌ {A = ℕ} 0 1 = cc in absurd (omega arith)

  pub shut : gate_of a.blocks (length a.image) a.board.phase a.host ≡ Err why → request_on a ≡ refuse_to a why
  unfolding gate_of
  shut e =
      on_test (allowed a.blocks (length a.image))
      (λ t. on_test (leb a.host.0 host_max)
      (λ b. phase_shut a.board.phase refl t b (rw (t, b, gate_of) at e))
      (λ b. rw (← same-why refusal.HostRange why (rw (t, b, gate_of) at e)) (request_host a t b)))
      (λ t. rw (← same-why refusal.ImageLength why (rw (t, gate_of) at e)) (request_length a t))

-- an image that the gate hands back
pub opened : {N : ℕ} {img : List ℕ} {p : Phase} {h : Host} (i : Image) → (i.bytes.now ≡ img) × (i.blocks ≡ N) × (gate_of N (length img) p h ≡ Ok tt)
    → Passed i.blocks (length i.bytes.now) p h
opened i (e, f, g) = passed i.blocks (length i.bytes.now) _ _ tt (rw (e, f) g)

-- ---- the block itself

-- by its state: what the tests of a survey and its places say
abbrev fresh : ℕ → Record → Survey → List ℕ → Bool
fresh size r s t = as_recorded size r.rest s && same_bytes_of t r.places

data Holding (size : ℕ) (r : Record) (s : BlockState) : Type 0 where
  holds_not : fresh size r (survey_of s) (places_in s) ≡ false → held_in_of size r s ≡ none → Holding size r s
  holds_so : (x : Journal) → fresh size r (survey_of s) (places_in s) ≡ true → held_in_of size r s ≡ some x → s ≡ valid x → Holding size r s

-- of a valid block
module _ {b : List ℕ} {w : Journal} (size : ℕ) (r : Record) (x : Contents b w) where
  abbrev survey : Survey
  survey = survey_of (valid w)

  -- its edition, end and counts are the record's
  abbrev ends : Bool
  ends = eqb (edition_number w.edition) r.rest.edition && (eqb (end_of w) r.rest.end && same_bytes_of (counts_of w) r.rest.pending)

  torn_is : (c : Tail) → w.tail ≡ c
      → as_recorded size r.rest survey ≡ (eqb (torn_len c) 0 && (ends && leb (claimed_in survey + end_len w.edition * open_in survey.pending) size))
  unfolding as_recorded survey_of
  torn_is c e = ap (λ (d : Tail). eqb (torn_len d) 0 && (ends && leb (claimed_in survey + end_len w.edition * open_in survey.pending) size)) e

  fits_is : w.tail ≡ clean → fresh size r survey (places_in (valid w)) ≡ fits_record size r w
  unfolding fits_record
  fits_is e =
      ap (λ (t : Bool). t && same_bytes_of (places_in (valid w)) r.places)
      (torn_is clean e ∙ ap₂ (λ (n o : ℕ). ends && leb (n + end_len w.edition * o) size) (sym (claimed_is x)) (sym (open_is x)))

  holding_valid : (c : Tail) → w.tail ≡ c → Okay c → Holding size r (valid w)
  holding_valid clean e o =
      on_test (fits_record size r w) (λ f. holds_so w (fits_is e ∙ f) (ap₂ (λ (t : Bool) (c : Tail). held_if t c w) f e) refl)
      (λ f. holds_not (fits_is e ∙ f) (ap₂ (λ (t : Bool) (c : Tail). held_if t c w) f e))
  holding_valid (cut n) e o =
      holds_not (and_no-left (as_recorded size r.rest survey) _ (torn_is (cut n) e ∙ rw (ne_eqb n 0 (cut_not x e))))
      (ap (λ (c : Tail). held_if (fits_record size r w) c w) e)
  holding_valid (bad f) e o = absurd o

holding : (size : ℕ) (r : Record) (b : List ℕ) (s : BlockState) → block_state b ≡ s → Bytes b → header_len ≤ length b → Holding size r s
unfolding as_recorded survey_of
holding size r b blank e y l = holds_not refl refl
holding size r b in_progress e y l = holds_not refl refl
holding size r b (valid w) e y l = let x : Contents b w = valid_inv b w y l e in holding_valid size r x w.tail refl x.okay
holding size r b (foreign w) e y l = holds_not refl refl

-- ---- 11

pub not_same : (N : ℕ) (img : List ℕ) (r : Record) → same_image N img r ≡ false → held N img r ≡ none
unfolding held
not_same N img r e = ap (λ (t : Bool). held_by_of N t img r) e

-- the image has the record's shape, and its block was surveyed
pub record Looked (i : Image) (r : Record) (b : List ℕ) (s : Survey) (t : List ℕ) : Type 0 where
  pub same : same_image i.blocks i.bytes.now r ≡ true
  pub block_is : b ≡ block (size_of i.blocks i.bytes.now) r.rest.block i.bytes.now
  pub survey : s ≡ survey_of (state_of b)
  pub places : t ≡ places_in (state_of b)

module _ {i : Image} {r : Record} {b : List ℕ} {s : Survey} {t : List ℕ} (l : Looked i r b s t) where
  abbrev N : ℕ
  N = i.blocks

  abbrev img : List ℕ
  img = i.bytes.now

  abbrev current : List ℕ
  current = block (size_of N img) r.rest.block img

  looks : (header_len ≤ length current) × (length current ≤ 32768)
  looks = block_fits N img r.rest.block i.is_allowed (same_inside N img r l.same)

  sized : length b ≡ size_of N img
  sized = ap length l.block_is ∙ block_length N img r.rest.block i.is_allowed (same_inside N img r l.same)

  state_is : state_of b ≡ block_state current
  state_is = half_fits b (rw l.block_is looks) ∙ ap block_state l.block_is

  held_is : (o : Option Journal) → held_in_of (size_of N img) r (block_state current) ≡ o → held N img r ≡ o
  unfolding held
  held_is o q = ap (λ (u : Bool). held_by_of N u img r) l.same ∙ q

  here_holds : Holding (size_of N img) r (block_state current)
  here_holds = holding (size_of N img) r current (block_state current) refl
      (bytes-block (size_of N img) r.rest.block img (bytes_of img i.are_bytes)) looks.0

  fresh_is : fresh (length b) r s t ≡ fresh (size_of N img) r (survey_of (block_state current)) (places_in (block_state current))
  fresh_is =
      ap₂ (λ (n : ℕ) (x : Survey). fresh n r x t) sized (l.survey ∙ ap survey_of state_is)
      ∙ ap (fresh (size_of N img) r (survey_of (block_state current))) (l.places ∙ ap places_in state_is)

  truth : true ≡ false → ⊥
  truth e = let z : ◌≡◌ {A = ℕ} 0 1 = cc in omega arith

  pub not_fresh : fresh (length b) r s t ≡ false → held N img r ≡ none
  not_fresh f = go here_holds
    where
      go : Holding (size_of N img) r (block_state current) → held N img r ≡ none
      go (holds_not _ n) = held_is none n
      go (holds_so x u _ _) = absurd (truth (sym u ∙ sym fresh_is ∙ f))

  pub was_fresh : fresh (length b) r s t ≡ true → (x : Journal) × (held N img r ≡ some x) × (s ≡ survey_of (valid x)) × (t ≡ places_in (valid x))
  was_fresh f = go here_holds
    where
      go : Holding (size_of N img) r (block_state current) → (x : Journal) × (held N img r ≡ some x) × (s ≡ survey_of (valid x)) × (t ≡ places_in (valid x))
      go (holds_not u _) = absurd (truth (sym f ∙ fresh_is ∙ u))
      go (holds_so x _ n v) = (x, held_is (some x) n, l.survey ∙ ap survey_of (state_is ∙ v), l.places ∙ ap places_in (state_is ∙ v))
