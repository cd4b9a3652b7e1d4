use Rattle.std.proofs.Common.{List, map, subst}
use Rattle.link_rules.specs.Linked.{Element}
use Rattle.lists.specs.Lists.{AreIncreasing}
use Rattle.link_rules.specs.Accessed.{HasElementText}
use Rattle.link_program.proofs.Arrays.{makes_found, makes_ordered, ordered_pairs}
use Rattle.link_program.proofs.linked.Linked.element_text.Goals as goal

pub element_text-requires-clause-ordered : goal.element_text-requires-clause-ordered
element_text-requires-clause-ordered c =
    let ordered = makes_ordered _ c.args.method c.args.index c.head.ensures.form c.requires in
    let head = c.head.ensures.head c.requires.method c.requires.there in
    rw c.as_slice.ensures (ordered_pairs c.head.result.now.elements (subst (λ (es : List Element). AreIncreasing (map (λ (e : Element). e.index) es)) head.elements ordered))

pub element_text-requires-clause-there : goal.element_text-requires-clause-there
element_text-requires-clause-there c =
    let found = makes_found _ c.args.method c.args.index c.head.ensures.form c.requires in
    let head = c.head.ensures.head c.requires.method c.requires.there in
    rw c.as_slice.ensures (found.0, subst (λ (es : List Element). HasElementText es c.args.index found.0) head.elements found.1)
