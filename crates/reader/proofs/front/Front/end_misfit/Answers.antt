-- The tests of a commit or an abort.
use mathlib.Core.Path.{sym}
use Rattle.flash.proofs.Blank.{bytes_of}
use Rattle.reader.proofs.Misfits.{end_is}
use Rattle.reader.proofs.front.Front.end_misfit.Goals as goal

pub returns : goal.returns
returns c =
    rw (c.or-2.ensures, c.or.ensures, c.front_misfit.ensures, c.test_host.ensures, c.seal_misfit.ensures)
    (sym (end_is c.args.self.now.edition c.args.self.now.len c.args.self.now.bytes.now c.args.self.now.first c.args.self.now.within
    (bytes_of c.args.self.now.bytes.now c.args.self.now.small) c.requires))
