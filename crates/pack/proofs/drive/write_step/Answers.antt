-- The numbers over what stands there, with frames cleared where the job ended.
use Rattle.pack.proofs.Numbering.{Lengths, other-size, went_on, ended}
use borrow.Author.Rules.{rules}
use Rattle.pack.proofs.drive.write_step.Goals as goal
use Rattle.pack.proofs.drive.write_step.Goals.{then-s, else-s}

pub returns-then-bytes-ne-RECORD_SIZE : goal.returns-then-bytes-ne-RECORD_SIZE
returns-then-bytes-ne-RECORD_SIZE c = other-size _ _ c.if-bytes-ne-RECORD_SIZE.true

pub returns : goal.returns
returns c =
    let n : Lengths c.args.s.next = record {
      pending = search (rules, c.well_formed.0.1.1.1.0.1.1.1.0.1.1.1.1.1.1.0);
      wipe = search (rules, c.well_formed.0.1.1.1.0.1.1.1.1.0.1.1.0);
      since = search (rules, c.well_formed.0.1.1.1.0.1.1.1.1.0.1.1.1.1.1.1.1.1.0);
      close = search (rules, c.well_formed.0.1.1.1.0.1.1.1.1.0.1.1.1.1.1.1.1.1.1.1.1.1.0);
    } in
    elim c.if-s.branch [
      | then-s w ↦ ended c.args.s c.args.bytes.now _ c.if-bytes-ne-RECORD_SIZE.false n (λ i. (c.slice_known-1.given i).fits) _ (w.fill.ensures.after (λ y e. e)) w.if-s.true (rw w.bytes-is at c.lay_numbers.ensures)
      | else-s w ↦ went_on c.args.s c.args.bytes.now _ c.if-bytes-ne-RECORD_SIZE.false n (λ i. (c.slice_known-1.given i).fits) w.if-s.false (rw w.bytes-is at c.lay_numbers.ensures)
    ]
