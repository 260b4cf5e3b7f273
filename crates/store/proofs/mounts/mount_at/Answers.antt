-- The job of a mount, built from the answers of its parts.
use mathlib.Core.Path.{◌≡◌, sym, ◌∙◌}
use Rattle.std.proofs.Common.{rules, Err}
use Rattle.store.proofs.Outcomes.{mount_worn, mount_begun, mount_mended}
use Rattle.store.proofs.mounts.mount_at.Goals.{in-Transfer+in_ok-job-in-Transfer, in-Append}
use Rattle.store.proofs.mounts.mount_at.Goals as goal

pub returns-in_err-job-in-Transfer : goal.returns-in_err-job-in-Transfer
returns-in_err-job-in-Transfer c =
    let r : c.from_residual.result ≡ Err c.in_err-job-in-Transfer.field-0.0 = search rules in
    rw c.in-Transfer.is
    (r ∙ mount_worn c.args.blocks c.args.last c.args.w c.args.list _ (sym c.in_err-job-in-Transfer.ensures))

pub returns : goal.returns
returns c =
    rw (c.begin.ensures, c.standing-rest.ensures, c.starting.ensures)
    (elim c.match-m.branch [
      | in-Transfer+in_ok-job-in-Transfer w ↦
          rw (w.job-is, w.end-is, w.in-Transfer.is, c.next_block.ensures, c.from-edition.ensures, c.no_job.ensures)
          (mount_begun c.args.blocks c.args.last c.args.w c.args.list _ (sym w.in_ok-job-in-Transfer.ensures))
      | in-Append w ↦
          rw (w.job-is, w.end-is, w.in-Append.is, c.next_block.ensures, c.from-edition.ensures, c.no_job.ensures)
          (mount_mended c.args.blocks c.args.last c.args.w c.args.list _ _ _)
    ])
