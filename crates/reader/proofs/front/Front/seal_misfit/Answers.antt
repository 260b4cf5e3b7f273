-- The seal by the edition.
use mathlib.Core.Path.{◌≡◌, sym, subst, ◌∙◌}
use mathlib.Core.List.{List}
use Prim.Native.Nat.{ℕ, ◌+◌, ◌<◌}
use native.Mathlib.Omega.{arith}
use lib.ListN.{length}
use Rattle.std.proofs.Common.{rules}
use Rattle.frame.specs.Frame.{check_len}
use Rattle.frame.specs.declared.Edition.{Edition}
use Rattle.frame.proofs.Stores.{four_bytes}
use Rattle.reader.specs.Misfits.{seal_misfit}
use Rattle.reader.proofs.Misfits.{first-is, second_is}
use Rattle.reader.proofs.front.Front.seal_misfit.Goals as goal

pub returns-in-First : goal.returns-in-First
returns-in-First c =
    subst (λ (x : Edition). c.exact.result ≡ seal_misfit x c.args.m c.args.self.now.bytes.now) (sym c.in-First.is)
    (c.exact.ensures
    ∙ sym (first-is c.args.m c.args.self.now.bytes.now
    (omega (arith, (subst (λ (x : Edition). c.args.m + check_len x < length c.args.self.now.bytes.now) c.in-First.is c.requires)))))

pub returns-in-Second : goal.returns-in-Second
returns-in-Second c =
    let t : List ℕ = c.args.self.now.bytes.now in
    subst (λ (x : Edition). c.or-in-Second-3.result ≡ seal_misfit x c.args.m t) (sym c.in-Second.is)
    (rw (
      c.or-in-Second-3.ensures,
      c.or-in-Second-2.ensures,
      c.or-in-Second.ensures,
      c.or.ensures,
      c.exact-in-Second.ensures,
      c.exact-in-Second-2.ensures,
      c.exact-in-Second-3.ensures,
      c.exact-in-Second-4.ensures,
      c.exact-in-Second-5.ensures,
      c.to_le_bytes-check.ensures ∙ four_bytes c.crc32.result (search rules),
    ) (sym (second_is c.args.m c.crc32.result t c.crc32.ensures (subst (λ (x : Edition). c.args.m + check_len x < length t) c.in-Second.is c.requires))))
