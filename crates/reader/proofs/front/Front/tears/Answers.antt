-- By the kind's low byte and the length.
use mathlib.Core.Path.{sym, ap, ◌∙◌}
use mathlib.Core.Bool.{not}
use Prim.Native.Nat.{ℕ}
use lib.ListN.{get_or}
use borrow.Author.Tests.{eq-eqb}
use Rattle.frame.specs.Reader.{layout_of}
use Rattle.frame.proofs.Own.{tears-closed, tears-not}
use Rattle.reader.proofs.front.Front.tears.Goals as goal

pub returns-then-kind-ne-CLOSED_KIND : goal.returns-then-kind-ne-CLOSED_KIND
returns-then-kind-ne-CLOSED_KIND c =
    ap not c.only_settled.ensures
    ∙ sym (tears-not c.args.self.now.edition c.args.next c.args.self.now.len c.kind-kind.result c.if-kind-ne-CLOSED_KIND.true)
    ∙ ap (λ (k : ℕ). (layout_of c.args.self.now.edition c.args.next c.args.self.now.len k).tears) c.kind-kind.ensures

pub returns-else-kind-ne-CLOSED_KIND : goal.returns-else-kind-ne-CLOSED_KIND
returns-else-kind-ne-CLOSED_KIND c =
    ap not (eq-eqb c.kind-kind.result 0 c.if-kind-ne-CLOSED_KIND.false)
    ∙ sym (tears-closed c.args.self.now.edition c.args.next c.args.self.now.len (get_or c.args.self.now.bytes.now 2 0)
    (sym c.kind-kind.ensures ∙ c.if-kind-ne-CLOSED_KIND.false))
