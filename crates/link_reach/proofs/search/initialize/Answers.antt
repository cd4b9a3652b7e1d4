use Rattle.std.proofs.Common.{refl, ◌∷◌, []}
use Rattle.link_reach.proofs.Finding.{finds_no_initializer, finds_initializer_ok, none_of, some_of}
use Rattle.link_reach.proofs.search.initialize.Goals as goal

pub returns-then-is_none-clause-found : goal.returns-then-is_none-clause-found
returns-then-is_none-clause-found c =
    let declares = rw c.classes-classes.ensures at c.initializer.ensures in
    finds_no_initializer _ _ _ (λ row d. none_of c.initializer.result c.if-is_none.ensures row ((declares row).1 d))

pub returns-clause-found : goal.returns-clause-found
returns-clause-found c =
    let declares = rw c.classes-classes.ensures at c.initializer.ensures in
    let some = some_of c.initializer.result c.if-is_none.ensures in
    let by_classes = c.root_method.ensures.seen (c.args.number ∷ []) c.in_ok-root.ensures in
    let seen = rw c.classes-classes.ensures at by_classes in
    finds_initializer_ok c.args.targets.now.world c.args.number some.0 c.in_ok-examined.examined c.args.found.now
    (record { methods = c.add_all.new.set; classes = c.args.found.now.classes }) c.add_all.result ((declares some.0).0 some.1) (rw seen at c.in_ok-examined.ensures.examined)
    (rw c.deref.ensures.value at c.add_all.ensures) refl
