use Rattle.std.proofs.Common.{ap, sym, ◌∙◌}
use Rattle.lists.specs.Filings.{items_under, row}
use Rattle.lists.specs.Groups.{items_with}
use Rattle.lists.proofs.Grouped.{found_in-exact}
use Rattle.lists.proofs.groups.Groups.of.Goals as goal

pub returns : goal.returns
returns g c = λ key.
    let all = c.in_ok-numbers.ensures in
    found_in-exact g.K.PartialEq.eq g.met.K.Eq.laws g.met.K.Key.same c.in_ok-numbers.field-0.numbers.keys (row c.in_ok-rows.rows) key (items_with g.K.PartialEq.eq c.args.items.now key)
    (λ i at. c.in_ok-rows.ensures i ∙ ap (λ ps. items_under ps i) c.deref.ensures.value ∙ all.there i key at) (λ missing. sym (all.none key missing))
