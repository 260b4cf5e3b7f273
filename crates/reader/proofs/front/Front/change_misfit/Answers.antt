-- The tests of a put or a delete: the low byte of the id and those of the value fit whatever they are.
use mathlib.Core.Path.{sym}
use Rattle.flash.proofs.Blank.{bytes_of}
use Rattle.reader.proofs.Misfits.{change_is}
use Rattle.reader.proofs.front.Front.change_misfit.Goals as goal

pub returns : goal.returns
returns c =
    rw (
      c.or-3.ensures,
      c.or-2.ensures,
      c.or.ensures,
      c.front_misfit.ensures,
      c.last_kind.ensures,
      c.test_host.ensures,
      c.exact.ensures,
      c.seal_misfit.ensures,
      c.check_len.ensures,
    ) (sym (change_is c.args.self.now.edition c.args.self.now.len c.args.self.now.bytes.now c.args.self.now.first c.args.self.now.within
    (bytes_of c.args.self.now.bytes.now c.args.self.now.small) c.requires))
