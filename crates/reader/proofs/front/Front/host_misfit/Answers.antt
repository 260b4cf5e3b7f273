-- The layout by the length.
use mathlib.Core.Path.{sym, ap, ◌∙◌}
use native.Mathlib.Omega.{arith}
use Rattle.reader.specs.Misfits.{laid_misfit}
use Rattle.frame.specs.Reader.{Layout}
use Rattle.frame.proofs.Own.{host-reset, host-end, host-change}
use Rattle.reader.proofs.Answers.{put-least}
use Rattle.reader.proofs.front.Front.host_misfit.Goals as goal

pub returns-then-self-check : goal.returns-then-self-check
returns-then-self-check c =
    c.reset_misfit.ensures
    ∙ ap (λ (l : Layout). laid_misfit c.args.self.now.len l c.args.self.now.bytes.now)
    (sym (host-reset c.args.self.now.edition c.args.self.now.len (omega (arith, c.check_len-check.ensures, c.if-self-check.true))))

pub returns-then-self-check-2 : goal.returns-then-self-check-2
returns-then-self-check-2 c =
    c.end_misfit.ensures
    ∙ ap (λ (l : Layout). laid_misfit c.args.self.now.len l c.args.self.now.bytes.now)
    (sym (host-end c.args.self.now.edition c.args.self.now.len (omega (arith, c.check_len-check.ensures, c.if-self-check-2.true))))

pub change_misfit-requires : goal.change_misfit-requires
change_misfit-requires c =
    put-least c.args.self.now.edition c.args.self.now.len c.check_len-check.result c.check_len-check.ensures
    c.if-self-check.false c.if-self-check-2.false c.requires

pub returns-else-self-check-2 : goal.returns-else-self-check-2
returns-else-self-check-2 c =
    c.change_misfit.ensures
    ∙ ap (λ (l : Layout). laid_misfit c.args.self.now.len l c.args.self.now.bytes.now)
    (sym (host-change c.args.self.now.edition c.args.self.now.len
    (put-least c.args.self.now.edition c.args.self.now.len c.check_len-check.result c.check_len-check.ensures
    c.if-self-check.false c.if-self-check-2.false c.requires)))
