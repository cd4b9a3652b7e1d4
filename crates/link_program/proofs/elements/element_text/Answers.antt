use Rattle.std.proofs.Common.{sym, ap, ◌∙◌, rules}
use Rattle.link_program.specs.declared.elements.ElementText.{ElementText}
use Rattle.link_program.proofs.Arrays.{at_below, text_there}
use Rattle.link_program.proofs.elements.element_text.Goals as goal

pub bounds-elements-at : goal.bounds-elements-at
bounds-elements-at c = at_below c.args.elements.now c.args.index c.count_before-at.result c.count_before-at.ensures c.requires.there.0 c.requires.there.1

pub offset_bounds-elements-at : goal.offset_bounds-elements-at
offset_bounds-elements-at c =
    let below = at_below c.args.elements.now c.args.index c.count_before-at.result c.count_before-at.ensures c.requires.there.0 c.requires.there.1 in
    search rules

pub returns : goal.returns
returns c =
    text_there c.args.elements.now c.args.index c.count_before-at.result c.count_before-at.ensures c.requires.there.0 c.requires.there.1 c.requires.ordered c.index-elements-at.result c.as_str.result.now
    c.index-elements-at.is (c.as_str.ensures ∙ ap (λ (e : ElementText). e.text) (sym c.index-elements-at.is))
