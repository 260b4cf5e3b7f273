-- The layout by kind and length.
use mathlib.Core.Path.{sym, ap, ◌∙◌}
use Prim.Native.Nat.{ℕ}
use Rattle.reader.specs.Misfits.{laid_misfit}
use Rattle.frame.specs.Reader.{Layout, layout_of}
use Rattle.frame.proofs.Own.{only-size, layout-settled, layout-closed, layout-host, closed-least}
use Rattle.reader.proofs.Answers.{host-length}
use Rattle.reader.proofs.front.Front.layout_misfit.Goals as goal

pub settled_misfit-requires : goal.settled_misfit-requires
settled_misfit-requires c = (only-size c.args.self.now.edition c.args.next c.args.self.now.len c.kind-kind.result
    (sym c.only_settled.ensures ∙ c.if-only_settled.true)).0

pub returns-then-only_settled : goal.returns-then-only_settled
returns-then-only_settled c =
    c.settled_misfit.ensures
    ∙ ap (λ (l : Layout). laid_misfit c.args.self.now.len l c.args.self.now.bytes.now)
    (sym (layout-settled c.args.self.now.edition c.args.next c.args.self.now.len c.kind-kind.result
    (sym c.only_settled.ensures ∙ c.if-only_settled.true)))
    ∙ ap (λ (k : ℕ). laid_misfit c.args.self.now.len (layout_of c.args.self.now.edition c.args.next c.args.self.now.len k) c.args.self.now.bytes.now)
    c.kind-kind.ensures

pub closed_misfit-requires : goal.closed_misfit-requires
closed_misfit-requires c =
    closed-least c.args.self.now.edition c.args.self.now.len (host-length c.args.self.now.edition c.args.next c.args.self.now.len c.kind-kind.result
    (sym c.only_settled.ensures ∙ c.if-only_settled.false) c.requires)

pub returns-then-kind-eq-CLOSED_KIND : goal.returns-then-kind-eq-CLOSED_KIND
returns-then-kind-eq-CLOSED_KIND c =
    c.closed_misfit.ensures
    ∙ ap (λ (l : Layout). laid_misfit c.args.self.now.len l c.args.self.now.bytes.now)
    (sym (layout-closed c.args.self.now.edition c.args.next c.args.self.now.len c.kind-kind.result
    (sym c.only_settled.ensures ∙ c.if-only_settled.false) c.if-kind-eq-CLOSED_KIND.true))
    ∙ ap (λ (k : ℕ). laid_misfit c.args.self.now.len (layout_of c.args.self.now.edition c.args.next c.args.self.now.len k) c.args.self.now.bytes.now)
    c.kind-kind.ensures

pub host_misfit-requires : goal.host_misfit-requires
host_misfit-requires c = host-length c.args.self.now.edition c.args.next c.args.self.now.len c.kind-kind.result
    (sym c.only_settled.ensures ∙ c.if-only_settled.false) c.requires

pub returns-else-kind-eq-CLOSED_KIND : goal.returns-else-kind-eq-CLOSED_KIND
returns-else-kind-eq-CLOSED_KIND c =
    c.host_misfit.ensures
    ∙ ap (λ (l : Layout). laid_misfit c.args.self.now.len l c.args.self.now.bytes.now)
    (sym (layout-host c.args.self.now.edition c.args.next c.args.self.now.len c.kind-kind.result
    (sym c.only_settled.ensures ∙ c.if-only_settled.false) c.if-kind-eq-CLOSED_KIND.false))
    ∙ ap (λ (k : ℕ). laid_misfit c.args.self.now.len (layout_of c.args.self.now.edition c.args.next c.args.self.now.len k) c.args.self.now.bytes.now)
    c.kind-kind.ensures
