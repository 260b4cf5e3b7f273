-- The job of a record in none.
use mathlib.Core.Path.{◌≡◌}
use Rattle.board.specs.Record.{no_wipes, zero_each, no_closes}
use Rattle.job.proofs.Blanks.{all_zero}
use Rattle.job.proofs.records.no_job.Goals as goal

pub returns : goal.returns
returns c =
    let h = c.default.ensures in
    let w : c.default.result.wipe ≡ no_wipes = all_zero 16 _ h.0.long (λ k l. h.0.at k 0 l) in
    let s : c.default.result.since ≡ zero_each = all_zero 4 _ h.1.1.1.1.1.1.0.long (λ k l. h.1.1.1.1.1.1.0.at k 0 l) in
    let t : c.default.result.close ≡ no_closes = all_zero 4 _ h.1.1.1.1.1.1.1.1.1.1.long (λ k l. h.1.1.1.1.1.1.1.1.1.1.at k 0 l) in
    λ i. record {
      wipe = w i;
      wipes = h.1.0 i;
      moves = h.1.1.0 i;
      drops = h.1.1.1.0 i;
      target = h.1.1.1.1.0 i;
      time = h.1.1.1.1.1.0 i;
      since = s i;
      size = h.1.1.1.1.1.1.1.0 i;
      edition = h.1.1.1.1.1.1.1.1.0 i;
      closes = h.1.1.1.1.1.1.1.1.1.0 i;
      close = t i;
    }
