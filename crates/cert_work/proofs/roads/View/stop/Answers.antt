use Rattle.std.proofs.Common.{refl}
use Rattle.std.proofs.lemmas.Bool.{lt-ltb, ltb-true}
use Rattle.cert_work.proofs.Filed.{edges_under, end_under, no_edges, no_end}
use Rattle.cert_work.proofs.Growing.{second}
use Rattle.cert_work.proofs.roads.View.stop.Goals as goal

pub returns-in-Some-clause-edges : goal.returns-in-Some-clause-edges
returns-in-Some-clause-edges c = λ e.
    rw c.get.ensures (edges_under c.args.self.now.linked.now c.args.self.now.target c.args.self.now.roads.now c.requires c.args.node c.in-Some.number
    ((c.in-Some.ensures c.in-Some.number).0 refl) e)

pub returns-in-Some-clause-end : goal.returns-in-Some-clause-end
returns-in-Some-clause-end c =
    let there = (c.in-Some.ensures c.in-Some.number).0 refl in (
      (λ yes. (c.requires.ends c.args.node).0 (c.in-Some.number, ltb-true _ _ yes, there)),
      (λ end.
          let low = end_under c.args.self.now.linked.now c.args.self.now.target c.args.self.now.roads.now c.requires c.args.node c.in-Some.number
          (λ i at. let is = (c.in-Some.ensures i).1 at in cc) end in
          lt-ltb _ _ low),
    )

pub returns-in-None-clause-edges : goal.returns-in-None-clause-edges
returns-in-None-clause-edges c = λ e. (
  (λ has. let h = has.1 in cc),
  (λ at. absurd (no_edges c.args.self.now.linked.now c.args.self.now.target c.args.self.now.roads.now c.requires c.args.node
      (λ has. let a = (c.in-None.ensures has.0).1 has.1 in cc) e at.0 (second at))),
)

pub returns-in-None-clause-end : goal.returns-in-None-clause-end
returns-in-None-clause-end c = (
  (λ yes. cc),
  (λ end. absurd (no_end c.args.self.now.linked.now c.args.self.now.target c.args.self.now.roads.now c.requires c.args.node
      (λ has. let a = (c.in-None.ensures has.0).1 has.1 in cc) end)),
)
