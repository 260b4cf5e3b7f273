-- A byte of a buffer of its own length, whatever the bytes' length is.
use mathlib.Core.Path.{◌∙◌}
use lib.ListN.{drop}
use Rattle.frame.specs.Frame.{buffer_len}
use Rattle.unpack.proofs.Parts.{front_byte}
use Rattle.unpack.proofs.drive.frame_byte.Goals as goal

pub returns : goal.returns
returns c =
    c.byte_at.ensures ∙ rw (c.front.ensures, c.rest.ensures) (front_byte buffer_len c.args.i (drop c.args.at c.args.bytes.now))
