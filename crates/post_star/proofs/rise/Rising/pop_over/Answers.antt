use Rattle.std.proofs.Common.{ap, sym, ◌∙◌, Some}
use Rattle.std.proofs.lemmas.Option.{slice_get-get_or}
use Rattle.post_star.proofs.Applies.{pushed_begins, pushed_goes, pushed_applied, decide_by}
use Rattle.post_star.proofs.rise.Rising.pop_over.Goals as goal

pub loop-linked-init : goal.loop-linked-init
loop-linked-init g c = pushed_begins g.met.W.Weight.laws _ c.requires.told c.requires.sound c.args.node c.args.pop.from c.args.pop.mark c.args.pop.to c.args.pop.weight c.requires.listed c.args.parents.now c.requires.parents c.args.self.now.items.items

pub loop-linked-preserved : goal.loop-linked-preserved
loop-linked-preserved g c = pushed_goes g.met.W.Weight.laws _ c.requires.told c.requires.sound c.args.node c.args.pop.from c.args.pop.mark c.args.pop.to c.args.pop.weight c.requires.listed c.args.parents.now c.requires.parents c.loop-linked.linked-index c.linked-item.result c.args.first _
    (slice_get-get_or c.args.parents.now c.loop-linked.linked-index c.linked-item.result c.loop-linked-test.true ∙ ap Some (sym c.linked-item.is)) c.requires.first
    (c.extend-reached.ensures ∙ ap (λ x. g.W.Weight.domain.extend x c.args.pop.weight) c.extend.ensures) c.loop-linked.invariant c.in_ok-rise.ensures

pub returns-clause-progress : goal.returns-clause-progress
returns-clause-progress g c = c.loop-linked.invariant.progress

pub returns-clause-applied : goal.returns-clause-applied
returns-clause-applied g c = pushed_applied g.met.W.Weight.laws _ c.requires.told c.requires.sound c.args.node c.args.pop.from c.args.pop.mark c.args.pop.to c.args.pop.weight c.requires.listed c.args.parents.now c.requires.parents c.loop-linked.linked-index c.loop-linked-test.false (decide_by g.W.Weight.domain g.W.PartialEq.eq g.met.W.Weight.same g.met.W.Eq.laws.refl) c.loop-linked.invariant
