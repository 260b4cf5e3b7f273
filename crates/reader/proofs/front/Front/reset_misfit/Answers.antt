-- The tests of a reset.
use mathlib.Core.Path.{sym}
use Rattle.flash.proofs.Blank.{bytes_of}
use Rattle.reader.proofs.Misfits.{reset_is}
use Rattle.reader.proofs.front.Front.reset_misfit.Goals as goal

pub returns : goal.returns
returns c =
    rw (c.or.ensures, c.front_misfit.ensures, c.seal_misfit.ensures)
    (sym (reset_is c.args.self.now.edition c.args.self.now.len c.args.self.now.bytes.now c.args.self.now.first c.args.self.now.within
    (bytes_of c.args.self.now.bytes.now c.args.self.now.small) c.requires))
