use Rattle.std.proofs.Common.{◌≡◌, ℕ, Some, slice_get, arith}
use Rattle.std.proofs.lemmas.List.{take_all}
use Rattle.lists.specs.Lists.{Has}
use Rattle.spds_rules.specs.declared.node.Node.{Node}
use Rattle.track_tables.proofs.Backward.{each_of_more}
use Rattle.track_tables.proofs.Growing.{kept_has}
use Rattle.track_tables.proofs.opening.bases_of.Goals as goal

pub loop-number-init : goal.loop-number-init
loop-number-init c = λ number has. cc has.1

pub loop-number-preserved : goal.loop-number-preserved
loop-number-preserved c =
    let old = c.loop-number.bases.keys in
    let new = c.add_base.new.bases.keys in
    each_of_more c.args.numbers.now c.loop-number.number-index 0 (omega arith)
    (λ (number : ℕ). (n : Node) → slice_get c.args.nodes.now number ≡ Some n → Has new n.place.method)
    (λ number has n there. kept_has old new n.place.method c.in_ok-add_base.ensures.kept (c.loop-number.invariant number has n there)) c.in_ok-add_base.ensures.has

pub returns : goal.returns
returns c = λ number n has there.
    let all = take_all c.loop-number.number-index c.args.numbers.now (omega arith) in
    (rw all at c.loop-number.invariant) number has n there
