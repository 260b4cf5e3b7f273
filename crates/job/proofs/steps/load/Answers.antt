-- A frame to copy, put into the buffer.
use Prim.Native.Nat.{ℕ, ◌+◌}
use Rattle.frame.proofs.Heads.{head-short}
use Rattle.frame.proofs.Encode.{length-shows}
use Rattle.job.proofs.Loading.{load-leaves}
use native.Mathlib.Omega.{arith}
use mathlib.Core.Path.{ap}
use Rattle.job.proofs.steps.load.Goals as goal

pub overflow_cast-next : goal.overflow_cast-next
overflow_cast-next c =
    omega (arith, c.frame_len.ensures, head-short c.from-edition.result c.args.fetch.head c.requires.1, length-shows c.from-edition.result)

pub returns : goal.returns
returns c =
    λ f a. rw c.going.ensures (load-leaves c.args.source.now c.args.fetch c.args.n c.requires.0 c.requires.1
    c.from-edition.result (c.args.fetch.value + c.value_len.result) c.frame_len.result c.encode_frame.result c.from-edition.ensures
    (ap (λ (k : ℕ). c.args.fetch.value + k) c.value_len.ensures) c.encode_frame.ensures c.frame_len.ensures
    c.args.committer c.args.places.now _ c.args.unit.now f a c.place_copied.ensures)
