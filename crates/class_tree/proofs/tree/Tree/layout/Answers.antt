use Rattle.class_tree.proofs.tree.Tree.layout.Goals as goal

pub returns : goal.returns
returns c =
    let ix = rw c.self.view_is at c.self.invariant in
    rw c.as_slice.ensures.value (record { few = ix.few; placed = ix.placed; reached = ix.reached; methods = ix.along.methods })
