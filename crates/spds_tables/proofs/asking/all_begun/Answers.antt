use Rattle.std.proofs.Common.{◌∙◌, refl, sym, true≢false, arith}
use Rattle.std.proofs.lemmas.Option.{slice_get-get_or}
use Rattle.lists.specs.Lists.{Has}
use Rattle.post_star.proofs.Loops.{each_all, each_more}
use Rattle.spds_tables.specs.declared.numbered.Jump.{Jump}
use Rattle.call_side.proofs.Lists.{has-read}
use Rattle.spds_tables.proofs.asking.all_begun.Goals as goal

pub loop-jump-init : goal.loop-jump-init
loop-jump-init c = λ i x h at. absurd (omega arith)

pub loop-jump-preserved : goal.loop-jump-preserved
loop-jump-preserved c =
    each_more (λ (j : Jump). Has c.args.tables.now.begun j.to) c.args.jumps.now c.loop-jump.jump-index _ (slice_get-get_or c.args.jumps.now c.loop-jump.jump-index _ (omega arith))
    (c.contains.ensures.0 c.if-not-contains.false) c.loop-jump.invariant

pub returns-then-not-contains : goal.returns-then-not-contains
returns-then-not-contains c = (
  (λ h. absurd (true≢false (sym h))),
  (λ all. absurd (true≢false (sym (c.contains.ensures.1 (all _ (has-read c.args.jumps.now c.loop-jump.jump-index _ (omega arith)))) ∙ c.if-not-contains.true))),
)

pub returns : goal.returns
returns c = (
  (λ _. each_all (λ (j : Jump). Has c.args.tables.now.begun j.to) c.args.jumps.now c.loop-jump.jump-index (omega arith) c.loop-jump.invariant),
  (λ _. refl),
)
