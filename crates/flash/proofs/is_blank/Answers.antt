-- Blank: the whole eights, and what is left after them.
use Rattle.std.proofs.Common.{true, false, sym, ap, ◌∙◌, rules, tests}
use Rattle.std.proofs.lemmas.Iterator.{YieldsList-from_slice}
use Rattle.std.proofs.lemmas.Iterator.Search.{all_from_yields_List}
use Rattle.std.specs.List.{list_all}
use Rattle.flash.specs.Bytes.{all_ff}
use Rattle.flash.proofs.Eights.{byte_ff, eight_ff, each_ff, blank_is}
use Rattle.flash.proofs.is_blank.Goals as goal

pub returns-then-all : goal.returns-then-all
returns-then-all c =
    let s = c.args.s.now in
    let eights = all_from_yields_List eight_ff _ _ _ c.all.ensures.ran (YieldsList-from_slice c.as_chunks.result.0.now cc) (λ x b q k. search (rules, tests)) in
    let rest = all_from_yields_List byte_ff _ _ _ c.all-then-all.ensures.ran (YieldsList-from_slice c.as_chunks.result.1.now cc) (λ x b q k. search (rules, tests)) in
    rest ∙ each_ff c.as_chunks.result.1.now ∙ ap all_ff c.as_chunks.ensures.back
    ∙ blank_is s true (sym c.if-all.true ∙ eights ∙ ap (list_all eight_ff) c.as_chunks.ensures.front)

pub returns-else-all : goal.returns-else-all
returns-else-all c =
    let s = c.args.s.now in
    let eights = all_from_yields_List eight_ff _ _ _ c.all.ensures.ran (YieldsList-from_slice c.as_chunks.result.0.now cc) (λ x b q k. search (rules, tests)) in
    c.if-all.false ∙ blank_is s false (sym c.if-all.false ∙ eights ∙ ap (list_all eight_ff) c.as_chunks.ensures.front)
