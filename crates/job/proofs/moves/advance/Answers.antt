-- After a step, stage by stage.
use Rattle.job.proofs.Advancing.{still_moves}
use native.Mathlib.Omega.{arith}
use Rattle.job.proofs.moves.advance.Goals as goal

pub returns-in-Wipe : goal.returns-in-Wipe
returns-in-Wipe c = λ N i p u f. rw c.in-Wipe.is (still_moves N i p u f _ _ (c.after_wipe.ensures N i p u f))

pub returns-in-Open : goal.returns-in-Open
returns-in-Open c = rw c.in-Open.is c.after_open.ensures

pub after_copy-requires : goal.after_copy-requires
after_copy-requires c = rw c.in-Copy.is at c.requires

pub returns-in-Copy : goal.returns-in-Copy
returns-in-Copy c = rw c.in-Copy.is c.after_copy.ensures

pub returns-in-Seal : goal.returns-in-Seal
returns-in-Seal c = λ N i p u f. rw c.in-Seal.is (still_moves N i p u f _ _ (c.after_seal.ensures N i p u f))

pub returns-in-Drop : goal.returns-in-Drop
returns-in-Drop c = λ N i p u f. rw c.in-Drop.is (still_moves N i p u f _ _ (c.after_drop.ensures N i p u f))

pub after_append-requires : goal.after_append-requires
after_append-requires c = let h = rw c.in-Append.is at c.requires in omega arith

pub returns-in-Append : goal.returns-in-Append
returns-in-Append c = λ N i p u f. rw c.in-Append.is (still_moves N i p u f _ _ (c.after_append.ensures N i p u f))

pub returns-in-Close : goal.returns-in-Close
returns-in-Close c = λ N i p u f. rw c.in-Close.is (still_moves N i p u f _ _ (c.after_close.ensures N i p u f))
