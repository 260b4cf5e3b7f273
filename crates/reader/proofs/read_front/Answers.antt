-- Blank, or a length that no frame has.
use mathlib.Core.Path.{refl, sym, ap, ◌∙◌}
use mathlib.Core.List.{List}
use Prim.Native.Nat.{ℕ}
use Rattle.std.proofs.lemmas.Option.{MatchOption-at_none}
use lib.ListN.{get_or}
use Rattle.frame.specs.Code.{read_of}
use Rattle.frame.proofs.Exact.{read_ff}
use Rattle.reader.proofs.Answers.{front_long, front_none}
use Rattle.reader.proofs.read_front.Goals as goal

pub returns-then-is_blank : goal.returns-then-is_blank
returns-then-is_blank c =
    sym (ap read_of (read_ff c.args.edition c.args.next 0 c.args.bytes.now (sym c.is_blank.ensures ∙ c.if-is_blank.true)))

pub returns-in_default : goal.returns-in_default
returns-in_default c =
    sym (front_none c.args.edition c.args.next c.in-Some.front.len c.args.bytes.now
    (c.in-Some.front.first ∙ ap (λ (x : List ℕ). get_or x 0 0) c.in-Some.ensures.0)
    (sym c.is_blank.ensures ∙ c.if-is_blank.false) (sym c.has_length.ensures ∙ c.if-has_length.false))

pub returns-in_default-2 : goal.returns-in_default-2
returns-in_default-2 c =
    sym (front_long c.args.edition c.args.next (get_or c.args.bytes.now 0 0) c.args.bytes.now refl
    (sym c.is_blank.ensures ∙ c.if-is_blank.false) (MatchOption-at_none _ _ c.in_default.is c.of.ensures))
