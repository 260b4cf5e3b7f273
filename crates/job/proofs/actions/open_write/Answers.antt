-- The writes that open a block, one by one.
use Rattle.flash.specs.Flash.{writes}
use Rattle.job.proofs.Acting.{open_low, open_high, open_rest}
use Rattle.job.proofs.actions.open_write.Goals as goal

pub returns-in-1 : goal.returns-in-1
unfolding writes
returns-in-1 c = rw c.in-1.is

pub returns-in-2 : goal.returns-in-2
unfolding writes
returns-in-2 c = rw c.in-2.is

pub returns-in-3 : goal.returns-in-3
returns-in-3 c = rw (c.in-3.is, c.from.ensures) (open_low c.args.edition)

pub returns-in-4 : goal.returns-in-4
returns-in-4 c = rw c.in-4.is (open_high c.args.edition)

pub returns-in_default : goal.returns-in_default
returns-in_default c =
    open_rest c.args.edition c.args.i c.in_default.in_default-own.rest.0.0.0.1 c.in_default.in_default-own.rest.0.0.1 c.in_default.in_default-own.rest.0.1 c.in_default.in_default-own.rest.1
