-- The tests of a closed frame: what it ignores fits whatever it is.
use mathlib.Core.Path.{sym}
use Rattle.flash.proofs.Blank.{bytes_of}
use Rattle.frame.specs.declared.Edition.TheVariants as edition
use Rattle.reader.proofs.Misfits.{closed_is}
use Rattle.reader.proofs.front.Front.closed_misfit.Goals as goal

pub returns : goal.returns
returns c =
    rw (c.or.ensures, c.front_misfit.ensures, c.exact.ensures)
    (sym (closed_is edition.First c.args.self.now.len c.args.self.now.bytes.now c.args.self.now.first c.args.self.now.within
    (bytes_of c.args.self.now.bytes.now c.args.self.now.small) c.requires))
