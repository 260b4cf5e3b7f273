-- A request as a whole: refused, or served by what is held.
use mathlib.Core.Path.{◌≡◌, refl, sym, ap, ap₂, subst₂, ◌∙◌}
use mathlib.Core.List.{List}
use mathlib.Core.Option.{some}
use mathlib.Core.Bool.{Bool, true, false}
use Prim.Native.Nat.{ℕ, ◌≤◌, ◌<◌}
use native.Mathlib.Omega.{arith}
use lib.Dec.{leb}
use lib.ListN.{length}
use borrow.Author.Tests.{leb-true}
use Rattle.flash.specs.Bytes.{Bytes}
use Rattle.flash.specs.Flash.{block, size_of}
use Rattle.frame.specs.Frame.{host_max}
use Rattle.survey.specs.declared.Survey.{Survey}
use Rattle.survey.specs.Survey.{survey_of}
use Rattle.journal.specs.Block.{Journal, BlockState, blank, in_progress, valid, foreign, block_state}
use Rattle.journal.proofs.States.{Contents}
use Rattle.wire.specs.declared.Refusal.{Refusal}
use Rattle.wire.specs.declared.Request.{Request}
use Rattle.wire.specs.declared.Request.TheVariants.{Put, Delete, Commit, Abort, Read, Log, Convert}
use Rattle.std.specs.Prelude.{Some}
use Rattle.wire.specs.Message.{parse, of_read_kind}
use Rattle.wire.proofs.Parsing.{in_range}
use Rattle.board.specs.declared.Rest.{Rest}
use Rattle.board.specs.declared.Record.{Record}
use Rattle.board.specs.declared.Phase.TheVariants.{Idle}
use Rattle.board.specs.Record.{allowed, idle, Out}
use Rattle.board.specs.Mount.{places_in}
use Rattle.board.specs.Queue.{same_image, held, held_by_of, held_in_of, fits_record, request_on, Asking, size_for, held_for, refuse_to}
use Rattle.board.proofs.Images.{sized_of}
use Rattle.board.proofs.Invariant.{Ready}
use Rattle.board.proofs.Holding.{held_inv}
use Rattle.board.proofs.Outcomes.{request_served}
use Rattle.board.proofs.Reading as reading
use Rattle.job.specs.declared.Outcome.{Outcome}
use Rattle.job.specs.declared.records.Stepped.{Stepped}
use Rattle.job.specs.Code.{outcome}
use Rattle.looks.proofs.Images.{block_length, block_fits}
use Rattle.queue.specs.Calls.{alike}
use Rattle.serving.specs.Calls.{refused, kept_or, Asks, serve_in, places_by, reply_in, frame_in}
use Rattle.serving.proofs.Answering.{NoRead, serve_is, reply_is}

-- a refused request
pub refused_all : (a : Asking) (p f : List ℕ) (why : Refusal) (s : Stepped) → request_on a ≡ refuse_to a why → s ≡ refused why a.board.rest
    → let o : Out = request_on a in Asks a.board p f s o × (a.reply ≡ o.reply)
refused_all a p f why s e q = rw (e, q) (record { answers = refl; gives = refl; rests = refl }, refl)

-- a request by value
pub by_value : {r : Record} {p f reply : List ℕ} {s : Stepped} (x : Outcome) (o : Out)
    → x ≡ outcome s.answer (kept_or s.answer r s.next p f) → Asks r p f s o × (reply ≡ o.reply)
    → (x.answer ≡ o.answer) × (x.board ≡ o.board) × (reply ≡ o.reply)
by_value x o e q = (ap (λ (y : Outcome). y.answer) e ∙ q.0.answers, ap (λ (y : Outcome). y.board) e ∙ q.0.gives, q.1)

-- what is held is the same for all records of one place and table
pub held-alike : (N : ℕ) (img : List ℕ) (r b : Record) → held N img (alike r b) ≡ held N img (idle r.places r.rest)
unfolding held fits_record
held-alike N img r b = go (same_image N img (alike r b))
  where
    by : (s : BlockState) → held_in_of (size_of N img) (alike r b) s ≡ held_in_of (size_of N img) (idle r.places r.rest) s
    by blank = refl
    by in_progress = refl
    by (valid x) = refl
    by (foreign e) = refl

    go : (t : Bool) → held_by_of N t img (alike r b) ≡ held_by_of N t img (idle r.places r.rest)
    go true = by (block_state (block (size_of N img) r.rest.block img))
    go false = refl

-- a message of another kind asks for no read
pub no_read : (m : List ℕ) (q : Request) → parse m ≡ Some q → of_read_kind m ≡ false → NoRead q
no_read m (Put i) e k = tt
no_read m (Delete i) e k = tt
no_read m Commit e k = tt
no_read m Abort e k = tt
no_read m (Read i) e k = reading.no_read m k i e
no_read m (Log p) e k = tt
no_read m Convert e k = tt

-- ---- a request that is served

module _ (a : Asking) (x : Journal) (y : Bytes a.image) (ok : allowed a.blocks (length a.image) ≡ true) (e : held_for a ≡ some x) where
  abbrev r : Record
  r = a.board

  abbrev current : List ℕ
  current = block (size_for a) r.rest.block a.image

  ready : (z : Ready a.blocks (size_for a) a.image (idle r.places r.rest)) × (z.journal ≡ x)
  ready = held_inv r (sized_of a.blocks a.image ok) y e

  stands_is : ready.0.stands ≡ r.rest
  stands_is = sym (ap (λ (q : Record). q.rest) ready.0.is)

  here : a.blocks ≡ r.rest.blocks
  here = sym ready.0.blocks ∙ ap (λ (z : Rest). z.blocks) stands_is

  pub contents : Contents current x
  contents = subst₂ (λ (z : Rest) (w : Journal). Contents (block (size_for a) z.block a.image) w) stands_is ready.1 ready.0.contents

  there : r.rest.block < a.blocks
  there = omega (arith, ready.0.there, ap (λ (z : Rest). z.block) stands_is)

  pub current_long : length current ≡ size_for a
  current_long = block_length a.blocks a.image r.rest.block ok there

  -- what serving asks of a block
  pub block_short : (b : List ℕ) → b ≡ current → length b ≤ 32768
  block_short b eb = rw eb (block_fits a.blocks a.image r.rest.block ok there).1

  module _ (h : leb a.host.0 host_max ≡ true) (k : of_read_kind a.message ≡ false) (p : r.phase ≡ Idle) (q : Request) (w : parse a.message ≡ Some q)
      (s : Survey) (b t : List ℕ) (es : s ≡ survey_of (valid x)) (eb : b ≡ current) (et : t ≡ places_in x) where
    pub served_reply : reply_in (length b) s a.reply q ≡ (request_on a).reply
    served_reply =
        ap₂ (λ (n : ℕ) (z : Survey). reply_in n z a.reply q) (ap length eb ∙ current_long) es
        ∙ sym (reply_is a x here contents q) ∙ sym (ap (λ (o : Out). o.reply) (request_served a ok h k p x q e w))

    pub served_asks : (g f u : List ℕ) (n : Stepped) → n ≡ serve_in (length b) r.rest a.reply a.host a.message s q
        → u ≡ places_by b s a.host n q t → f ≡ frame_in s.edition a.host a.message q g → Asks r u f n (request_on a)
    unfolding survey_of
    served_asks g f u n en eu ef =
        rw (eu, en, ef, es, eb, current_long, et, request_served a ok h k p x q e w)
        (serve_is a x here contents q g (in_range a.message q w) (no_read a.message q w k) (leb-true a.host.0 host_max h))
