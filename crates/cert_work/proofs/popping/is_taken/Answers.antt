use Rattle.std.proofs.lemmas.Option.{slice_get-get_or}
use Rattle.spds_rules.specs.declared.edge.Edge.{Edge}
use Rattle.cert_rules.specs.Given.{Takes}
use Rattle.cert_work.proofs.Growing.{each_next}
use Rattle.cert_work.proofs.popping.is_taken.Goals as goal

pub loop-edge-preserved : goal.loop-edge-preserved
loop-edge-preserved c =
    each_next (λ (e : Edge). Takes c.args.held.now.side c.args.held.now.entry e.kind → ⊥) c.args.edges.now c.loop-edge.edge-index _
    (slice_get-get_or _ _ _ c.loop-edge-test.true) c.loop-edge.invariant (λ takes. let t = c.takes.ensures.1 takes in cc (t, c.if-takes.false))
