use Rattle.std.proofs.Common.{[], subst}
use Rattle.std.proofs.lemmas.Option.{get_or_from_slice_get}
use Rattle.lists.proofs.Places.{slice_get-below}
use Rattle.link_classes.specs.Seen.{IsFirstNamed, seen_classes}
use Rattle.link_classes.proofs.Within.{named_has}
use Rattle.link_classes.proofs.order.ClassOrder.first_named.Goals as goal

pub first-requires-clause-name : goal.first-requires-clause-name
first-requires-clause-name c = slice_get-below c.args.self.now.all.now.texts c.in-Some.id.0 _ c.in-Some.ensures.found

pub returns-in-Some : goal.returns-in-Some
returns-in-Some c =
    subst (λ text. IsFirstNamed (seen_classes c.args.self.now.classes.items) text c.first.result)
    (get_or_from_slice_get c.args.self.now.all.now.texts c.in-Some.id.0 c.args.name.now [] c.in-Some.ensures.found) c.first.ensures

pub returns-in-None : goal.returns-in-None
returns-in-None c = λ declared. c.in-None.ensures.none (named_has c.args.self.now c.args.name.now declared.0 c.requires declared.1)
