-- The tests of a settled frame.
use mathlib.Core.Path.{sym}
use Rattle.flash.proofs.Blank.{bytes_of}
use Rattle.reader.proofs.Misfits.{settled_is}
use Rattle.reader.proofs.front.Front.settled_misfit.Goals as goal

pub returns : goal.returns
returns c =
    rw (
      c.or-3.ensures,
      c.or-2.ensures,
      c.or.ensures,
      c.front_misfit.ensures,
      c.test.ensures,
      c.exact.ensures,
      c.seal_misfit.ensures,
      c.check_len.ensures,
    ) (sym (settled_is c.args.self.now.edition c.args.self.now.len c.args.self.now.bytes.now c.args.self.now.first c.args.self.now.within
    (bytes_of c.args.self.now.bytes.now c.args.self.now.small) c.args.next c.requires))
