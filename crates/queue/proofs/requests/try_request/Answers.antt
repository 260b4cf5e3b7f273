-- Each refusal in its place; a read by its place, any other request served by what is held.
use mathlib.Core.Path.{◌≡◌, refl, sym, ap, ◌∙◌}
use Rattle.std.proofs.Common.{rules, Err}
use Rattle.std.specs.Result.{result_ok}
use Rattle.flash.proofs.Blank.{bytes_of}
use Rattle.wire.specs.declared.Refusal.TheVariants as refusal
use Rattle.board.specs.declared.Record.{Record}
use Rattle.board.specs.Record.{resting, idle}
use Rattle.board.specs.Queue.{Asking, asking}
use Rattle.board.proofs.Outcomes.{request_stale, request_malformed}
use Rattle.serving.specs.Calls.{begun_or}
use Rattle.queue.specs.Calls.{alike, answering}
use Rattle.queue.proofs.Asking.{opened, malformed_is, shut, Looked, not_same, not_fresh, was_fresh}
use Rattle.queue.proofs.Handing.{refused_all, held-alike, block_short, served_reply, served_asks}
use Rattle.queue.proofs.Finding.{heard_by, read_asks}
use Rattle.queue.proofs.requests.try_request.Goals as goal
use Rattle.queue.proofs.requests.try_request.Goals.{After-survey_block-s}

-- the block was surveyed
looked : (c : After-survey_block-s)
    → Looked c.in_ok-image.image (idle c.args.recorded.now c.args.rest) c.block-block.result.now c.survey_block-s.result c.survey_block-s.new.places
looked c =
    record {
      same = sym c.if-not-same_image.ensures;
      block_is = c.block-block.ensures;
      survey = c.survey_block-s.ensures.0;
      places = c.survey_block-s.ensures.1;
    }

pub returns-in_err-image : goal.returns-in_err-image
returns-in_err-image c =
    let why = c.in_err-image.field-0.0 in
    λ b.
    let r : Record = resting c.args.phase c.args.recorded.now c.args.rest in
    let a : Asking = asking c.args.blocks c.args.image.now (alike r b) c.args.host c.args.message.now c.args.reply.now in
    refused_all a _ _ why _ (shut a why c.in_err-image.ensures)
    (search rules)

pub returns-in_err-hear : goal.returns-in_err-hear
returns-in_err-hear c =
    let i = c.in_ok-image.image in
    let r : c.from_residual-in_err-hear.result ≡ Err c.in_err-hear.field-0.0 = search rules in
    let h = heard_by _ _ c.args.message.now c.args.recorded.now c.args.rest c.hear.ensures.by_place c.place_of-place.ensures c.id_in.ensures in
    rw (sym c.in_ok-image.ensures.0, sym c.in_ok-image.ensures.1)
    (λ b. read_asks _ _ _ _ (opened i c.in_ok-image.ensures) (sym c.if-is_read_kind.ensures)
    (ap (begun_or c.args.rest) r
    ∙ ap (answering c.args.rest) (sym c.in_err-hear.was ∙ h)))

pub returns-then-is_read_kind : goal.returns-then-is_read_kind
returns-then-is_read_kind c =
    let i = c.in_ok-image.image in
    let h = heard_by _ _ c.args.message.now c.args.recorded.now c.args.rest c.hear.ensures.by_place c.place_of-place.ensures c.id_in.ensures in
    rw (sym c.in_ok-image.ensures.0, sym c.in_ok-image.ensures.1)
    (λ b. read_asks _ _ _ _ (opened i c.in_ok-image.ensures) (sym c.if-is_read_kind.ensures)
    (c.done.ensures ∙ ap (answering c.args.rest) (sym c.in_ok-hear.was ∙ h)))

pub returns-then-not-same_image : goal.returns-then-not-same_image
returns-then-not-same_image c =
    let i = c.in_ok-image.image in
    let g = opened i c.in_ok-image.ensures in
    let r : Record = resting c.args.phase c.args.recorded.now c.args.rest in
    rw (sym c.in_ok-image.ensures.0, sym c.in_ok-image.ensures.1)
    (λ b. refused_all _ _ _ refusal.Stale _ (request_stale _ g.ok g.host (sym c.if-is_read_kind.ensures) g.idle
    (held-alike _ _ r b
    ∙ not_same _ _ (idle c.args.recorded.now c.args.rest) (sym c.if-not-same_image.ensures))) refl)

pub returns-then-not-is_fresh : goal.returns-then-not-is_fresh
returns-then-not-is_fresh c =
    let i = c.in_ok-image.image in
    let g = opened i c.in_ok-image.ensures in
    let r : Record = resting c.args.phase c.args.recorded.now c.args.rest in
    rw (sym c.in_ok-image.ensures.0, sym c.in_ok-image.ensures.1)
    (λ b. refused_all _ _ _ refusal.Stale _ (request_stale _ g.ok g.host (sym c.if-is_read_kind.ensures) g.idle
    (held-alike _ _ r b ∙ not_fresh (looked (goal.at.returns-then-not-is_fresh c).After-survey_block-s) (sym c.if-not-is_fresh.ensures))) refl)

pub returns-in_err-ask : goal.returns-in_err-ask
returns-in_err-ask c =
    let i = c.in_ok-image.image in
    let g = opened i c.in_ok-image.ensures in
    let r : Record = resting c.args.phase c.args.recorded.now c.args.rest in
    -- the record fits
    let x = was_fresh (looked (goal.at.returns-in_err-ask c).After-survey_block-s) (sym c.if-not-is_fresh.ensures) in
    let why = c.in_err-ask.field-0.0 in
    let u : c.from_residual-in_err-ask.result ≡ Err why = search rules in
    let m = malformed_is c.parse.result why c.in_err-ask.ensures.value in
    rw (sym c.in_ok-image.ensures.0, sym c.in_ok-image.ensures.1)
    (λ b. refused_all _ _ _ refusal.Malformed _ (request_malformed _ g.ok g.host (sym c.if-is_read_kind.ensures) g.idle x.0
    (held-alike _ _ r b ∙ x.1) (sym c.parse.ensures ∙ m.0))
    (ap (begun_or c.args.rest) (u ∙ ap Err m.1)))

pub serve-requires : goal.serve-requires
serve-requires c =
    let i = c.in_ok-image.image in
    -- the record fits
    let x = was_fresh (looked (goal.at.serve-requires c).After-survey_block-s) (sym c.if-not-is_fresh.ensures) in
    let a : Asking = asking _ i.bytes.now (idle c.args.recorded.now c.args.rest) c.args.host c.args.message.now c.args.reply.now in (
      sym c.parse.ensures ∙ c.ok_or.ensures.ok_part ∙ ap result_ok c.in_ok-ask.was,
      block_short a x.0 (bytes_of i.bytes.now i.are_bytes) i.is_allowed x.1 _ c.block-block.ensures,
    )

pub returns : goal.returns
returns c =
    let i = c.in_ok-image.image in
    let g = opened i c.in_ok-image.ensures in
    let y = bytes_of i.bytes.now i.are_bytes in
    let r : Record = resting c.args.phase c.args.recorded.now c.args.rest in
    -- the record fits
    let x = was_fresh (looked (goal.at.returns c).After-survey_block-s) (sym c.if-not-is_fresh.ensures) in
    let k = sym c.if-is_read_kind.ensures in
    let w = sym c.parse.ensures ∙ c.ok_or.ensures.ok_part ∙ ap result_ok c.in_ok-ask.was in
    let ask = c.in_ok-ask.ask in
    rw (sym c.in_ok-image.ensures.0, sym c.in_ok-image.ensures.1)
    (λ b.
    let e = held-alike _ _ r b ∙ x.1 in (
      served_asks _ x.0 y g.ok e g.host k g.idle ask w _ _ _ x.2 c.block-block.ensures x.3 _ _ _ _
          c.serve.ensures.0 c.serve.ensures.2 c.serve.ensures.3,
      c.serve.ensures.1 ∙ served_reply _ x.0 y g.ok e g.host k g.idle ask w _ _ _ x.2 c.block-block.ensures x.3,
    ))
