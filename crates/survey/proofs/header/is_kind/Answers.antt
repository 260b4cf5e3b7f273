-- Two bytes: the edition's number, and the high byte that both kinds have.
use mathlib.Core.Path.{sym, ap, ◌∙◌}
use mathlib.Core.List.{List, [], ◌∷◌}
use mathlib.Core.Bool.{Bool}
use Prim.Native.Nat.{ℕ}
use lib.ListN.{take, drop}
use Rattle.flash.specs.Bytes.{same_bytes_of}
use Rattle.survey.proofs.Headers.{kind-bytes}
use Rattle.survey.proofs.header.is_kind.Goals as goal

pub returns : goal.returns
returns c =
    let same : List ℕ → Bool = λ x. same_bytes_of (take 2 (drop 2 c.args.block.now)) x in
    c.stands.ensures ∙ ap (λ (n : ℕ). same (n ∷ 0x4A ∷ [])) c.from.ensures ∙ ap same (sym (kind-bytes c.args.edition))
