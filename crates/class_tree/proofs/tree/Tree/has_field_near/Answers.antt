use Rattle.class_tree.proofs.tree.Tree.has_field_near.Goals as goal

pub returns : goal.returns
returns c =
    let exact = c.requires.fields.exact c.args.class c.requires.class in
    (λ y. exact.0 (c.holds.ensures.0 y), λ n. c.holds.ensures.1 (exact.1 n))
