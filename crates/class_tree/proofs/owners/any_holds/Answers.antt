use Rattle.std.proofs.Common.{subst, sym, inl, inr, true≢false}
use Rattle.std.proofs.lemmas.List.{take_all}
use Rattle.class_order.specs.Spans.{Holds, HoldsAny}
use Rattle.lists.proofs.Elements.{Contains-nil}
use Rattle.class_tree.proofs.Owned.{any_more}
use Rattle.class_tree.proofs.owners.any_holds.Goals as goal

pub loop-class-init : goal.loop-class-init
loop-class-init c = λ (k, m, held). Contains-nil k m

pub holds-requires : goal.holds-requires
holds-requires c = rw c.get.ensures (c.requires.apart _)

pub loop-class-preserved : goal.loop-class-preserved
loop-class-preserved c = λ any. elim ((any_more c.args.table.now c.args.classes.now c.loop-class.class-index _ c.args.place c.loop-class-test.true).0 any) [
  | inl old ↦ c.loop-class.invariant old
  | inr new ↦ true≢false (sym (c.if-holds.ensures.1 (subst (λ spans. Holds spans c.args.place) (sym c.get.ensures) new)))
]

pub returns : goal.returns
returns c = (
  λ no. absurd (true≢false (sym no)),
  λ any. absurd (c.loop-class.invariant (subst (λ xs. HoldsAny c.args.table.now xs c.args.place) (sym (take_all c.loop-class.class-index c.args.classes.now c.loop-class-test.false)) any)),
)
