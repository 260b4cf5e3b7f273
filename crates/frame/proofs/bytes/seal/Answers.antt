-- The check in one store, the finish byte in another.
use mathlib.Core.Path.{sym, ap, subst, ◌∙◌}
use Rattle.std.proofs.Common.{rules}
use Prim.Native.Nat.{◌+◌, ◌-◌, ◌<◌}
use native.Mathlib.Omega.{arith}
use lib.ListN.{length}
use Rattle.frame.specs.declared.Edition.{Edition}
use Rattle.frame.specs.Frame.{check_len}
use Rattle.frame.proofs.Stores.{seal_at, four_bytes, sealed-second}
use Rattle.frame.proofs.bytes.seal.Goals as goal

pub returns-in-Second : goal.returns-in-Second
returns-in-Second c =
    sealed-second c.args.g.now c.copy_from_slice.new.self c.args.m (c.args.m + 4 - c.args.m) c.crc32.result (omega arith)
    (c.copy_from_slice.ensures.after ∙ c.to_le_bytes-check.ensures ∙ four_bytes c.crc32.result (search rules))
    c.crc32.ensures
    (subst (λ (x : Edition). c.args.m + check_len x < length c.args.g.now) c.in-Second.is c.requires)
    ∙ ap (λ (x : Edition). seal_at x c.args.m c.args.g.now) (sym c.in-Second.is)
