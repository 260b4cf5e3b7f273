-- Places and frame first, then the numbers.
use Rattle.pack.proofs.Numbering.{other-size, loaded}
use borrow.Author.Rules.{rules}
use Rattle.pack.proofs.drive.write_loaded.Goals as goal

pub returns-then-bytes-ne-RECORD_SIZE : goal.returns-then-bytes-ne-RECORD_SIZE
returns-then-bytes-ne-RECORD_SIZE c = other-size _ _ c.if-bytes-ne-RECORD_SIZE.true

pub returns : goal.returns
returns c =
    loaded c.args.s c.args.places.now c.args.unit.now c.args.bytes.now _ _ _ c.if-bytes-ne-RECORD_SIZE.false (search rules) (search rules)
    c.lay_words.ensures c.lay_at.ensures
    c.write_step.ensures
