-- The record in a buffer of its size: its arrays, then its numbers.
use borrow.Author.Rules.{rules}
use Rattle.pack.proofs.Numbering.{other-size, encoded}
use Rattle.pack.proofs.encode_parts.Goals as goal

pub returns-then-bytes-ne-RECORD_SIZE : goal.returns-then-bytes-ne-RECORD_SIZE
returns-then-bytes-ne-RECORD_SIZE c = let h = other-size _ _ c.if-bytes-ne-RECORD_SIZE.true in record { bytes_after = h.bytes; back = h.back }

pub returns : goal.returns
returns c =
    let h = encoded c.args.n c.args.places.now c.args.unit.now c.args.frame.now c.args.bytes.now _ _ _ _
    (record {
      pending = search (rules, c.well_formed.0.1.1.1.0.1.1.1.1.1.1.0);
      wipe = search (rules, c.well_formed.0.1.1.1.1.0.1.1.0);
      since = search (rules, c.well_formed.0.1.1.1.1.0.1.1.1.1.1.1.1.1.0);
      close = search (rules, c.well_formed.0.1.1.1.1.0.1.1.1.1.1.1.1.1.1.1.1.1.0);
    }) c.if-bytes-ne-RECORD_SIZE.false (search rules) (search rules) (search rules)
    c.lay_words.ensures c.lay_at.ensures c.lay_at-2.ensures c.lay_numbers.ensures in
    record { bytes_after = h.bytes; back = h.back }
