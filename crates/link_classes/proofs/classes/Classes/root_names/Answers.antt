use Rattle.std.proofs.Common.{◌≡◌, ◌<◌, ◌++◌, All, List, length, map, subst, sym}
use Rattle.jim_ast.specs.declared.names.NameId.{NameId}
use Rattle.link_rules.specs.Classes.{class_name}
use Rattle.link_rules.specs.Root.{root_names}
use Rattle.link_classes.specs.Classes.{ClassTable, texts_at}
use Rattle.link_classes.specs.Numbered.{fixed_names}
use Rattle.link_classes.specs.Seen.{seen_classes}
use Rattle.link_classes.proofs.Known.{numbered_names, numbers_within}
use Rattle.link_classes.proofs.classes.Classes.root_names.Goals as goal

pub returns-clause-names : goal.returns-clause-names
returns-clause-names c =
    let order = c.self.inside.order in
    let names = fixed_names c.self.inside.entry.now ++ map class_name (seen_classes order.classes.items) in
    subst (λ (ids : List NameId). texts_at c.args.self.now.texts ids ≡ root_names c.args.self.now.world) (sym c.as_slice.ensures.value)
    (subst (λ (t : ClassTable). texts_at t.texts c.self.inside.root.items ≡ root_names t.world) c.self.view_is
    (numbered_names order.all.now.texts names c.self.inside.root.items c.self.invariant.root_names))

pub returns-clause-numbers : goal.returns-clause-numbers
returns-clause-numbers c =
    let order = c.self.inside.order in
    let names = fixed_names c.self.inside.entry.now ++ map class_name (seen_classes order.classes.items) in
    subst (λ (ids : List NameId). All (λ (id : NameId). id.0 < length c.args.self.now.texts) ids) (sym c.as_slice.ensures.value)
    (subst (λ (t : ClassTable). All (λ (id : NameId). id.0 < length t.texts) c.self.inside.root.items) c.self.view_is
    (numbers_within order.all.now.texts names c.self.inside.root.items c.self.invariant.root_names))
