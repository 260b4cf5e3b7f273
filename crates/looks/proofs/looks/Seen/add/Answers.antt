-- One block more, field by field.
use Rattle.flash.proofs.Cases.{on_test}
use Rattle.looks.specs.Seen.{same_above, seeing, newer, tying}
use Rattle.looks.proofs.looks.Seen.add.Goals as goal

pub returns : goal.returns
unfolding seeing tying newer
returns c = rw (c.is_blank.ensures, c.or_foreign-self.ensures, c.or-self.ensures, c.then_some.ensures, c.newer-self.ensures, c.shares_time-shared.ensures, c.from.ensures, c.from-2.ensures) (on_test (same_above c.args.number c.args.s c.args.self.now.times) (λ e. rw e) (λ e. rw e))
