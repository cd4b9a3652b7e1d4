use Rattle.std.proofs.Common.{ap, sym, ◌∙◌, Some, subst}
use Rattle.std.proofs.lemmas.Option.{slice_get-get_or}
use Rattle.auto_table.specs.declared.entry.Entry.TheVariants.{Pushed}
use Rattle.post_star.specs.Derivations.{Combines}
use Rattle.post_star.specs.Sweeps.{Climbs}
use Rattle.post_star.proofs.Applies.{decide_by}
use Rattle.post_star.proofs.Sweeping.{up_begins, up_goes, up_ends}
use Rattle.post_star.proofs.over_words.climb.Goals as goal

pub loop-linked-init : goal.loop-linked-init
loop-linked-init g c = up_begins g.met.W.Weight.laws c.args.table.now c.parents-parents.ensures.meant c.args.node c.args.pushed c.args.mark c.parents-parents.result.now c.parents-parents.ensures.each c.args.sums.now.items.items c.at-so_far.result c.at-so_far.ensures c.requires.sweeping c.requires.begun

pub loop-linked-preserved : goal.loop-linked-preserved
loop-linked-preserved g c = up_goes g.met.W.Weight.laws c.args.table.now c.parents-parents.ensures.meant c.args.node c.args.pushed c.args.mark c.parents-parents.result.now c.parents-parents.ensures.each c.at-so_far.result c.at-so_far.ensures
    (subst (λ x. Combines g.W.Weight.domain (Climbs g.W.Weight.domain c.args.table.now c.args.node (Pushed c.args.pushed c.args.mark)) x) (sym c.at-so_far.ensures) (c.requires.sweeping.swept.sound (Pushed c.args.pushed c.args.mark)))
    c.loop-linked.linked-index c.linked-item.result c.extend.result
    (slice_get-get_or c.parents-parents.result.now c.loop-linked.linked-index c.linked-item.result c.loop-linked-test.true ∙ ap Some (sym c.linked-item.is)) c.extend.ensures c.loop-linked.invariant c.in_ok-rise.ensures

pub returns : goal.returns
returns g c = record {
  sweeping = up_ends g.met.W.Weight.laws c.args.table.now c.parents-parents.ensures.meant c.args.node c.args.pushed c.args.mark c.parents-parents.result.now c.parents-parents.ensures.each c.at-so_far.result (subst (λ x. g.W.Weight.domain.IsMeant x) (sym c.at-so_far.ensures) (c.requires.sweeping.swept.meant.weights (Pushed c.args.pushed c.args.mark) c.args.node)) c.loop-linked.linked-index c.loop-linked-test.false (decide_by g.W.Weight.domain g.W.PartialEq.eq g.met.W.Weight.same g.met.W.Eq.laws.refl) c.loop-linked.invariant;
  begun = c.loop-linked.invariant.begun;
  spent = c.loop-linked.invariant.spent;
}
