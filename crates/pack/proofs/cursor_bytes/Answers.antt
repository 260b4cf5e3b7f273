-- A cursor, field by field.
use Rattle.pack.proofs.Fields.{cursor-laid}
use Rattle.pack.proofs.cursor_bytes.Goals as goal

pub returns : goal.returns
returns c = rw (c.lay_words.ensures) (cursor-laid c.args.cursor)
