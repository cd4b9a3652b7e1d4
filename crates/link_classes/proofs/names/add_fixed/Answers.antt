use Rattle.std.proofs.Common.{◌≡◌, [], List, ℕ, sym, subst}
use Rattle.jim_ast.specs.declared.names.NameId.{NameId}
use Rattle.lists.specs.Lists.{FirstSeen}
use Rattle.link_classes.specs.Numbered.{AreNumbers}
use Rattle.link_classes.proofs.Numbering.{one_by_one}
use Rattle.link_classes.proofs.names.add_fixed.Goals as goal

none_numbered : (texts : List (List ℕ)) (ids : List NameId) → ids ≡ [] → AreNumbers texts [] ids
none_numbered texts ids e = subst (AreNumbers texts []) (sym e) (record { as_many = λ i. 0; each = λ i text id p q. cc (p) })

pub returns-clause-numbers : goal.returns-clause-numbers
returns-clause-numbers c =
    let none = none_numbered c.args.texts.now c.new-ids.result.items c.new-ids.ensures.items in
    let one = c.in_ok-add_name.ensures.numbers [] none in
    let two = c.in_ok-add_name-2.ensures.numbers _ one in
    let three = c.in_ok-add_name-3.ensures.numbers _ two in
    let four = c.in_ok-add_name-4.ensures.numbers _ three in
    let five = c.in_ok-add_name-5.ensures.numbers _ four in
    c.in_ok-add_name-6.ensures.numbers _ five

pub returns-clause-seen : goal.returns-clause-seen
returns-clause-seen c = λ seen before.
    let one = c.in_ok-add_name.ensures.seen seen before in
    let two = c.in_ok-add_name-2.ensures.seen _ one in
    let three = c.in_ok-add_name-3.ensures.seen _ two in
    let four = c.in_ok-add_name-4.ensures.seen _ three in
    let five = c.in_ok-add_name-5.ensures.seen _ four in
    let six = c.in_ok-add_name-6.ensures.seen _ five in
    subst (λ names. FirstSeen names c.add_name-6.new.texts) (one_by_one seen _ _ _ _ _ _) six
