use Rattle.path_query.proofs.Ends.{ends_more}
use Rattle.std.proofs.Common.{subst, List, ℕ}
use Rattle.std.proofs.lemmas.List.{take_all}
use Rattle.path_query.specs.Numbers.{AreNumbersOf}
use Rattle.path_query.specs.Paths.{IsAtPath}
use Rattle.path_query.proofs.answer.at_end.Goals as goal

pub loop-field-init : goal.loop-field-init
loop-field-init c = λ q n posed there. c.in_ok-numbers.ensures c.args.posed.now.linked.now q n posed there

pub loop-field-preserved : goal.loop-field-preserved
loop-field-preserved c = λ q n posed there.
    ends_more c.args.posed.now.linked.now q c.args.posed.now.demand.now posed.demand n c.args.fields.now c.loop-field.field-index _ c.loop-field-test.true c.loop-field.numbers.items _
    (c.loop-field.invariant q n posed there) (rw c.as_slice.ensures.value at (c.in_ok-numbers-2.ensures q posed))

pub returns : goal.returns
returns c = λ q n posed there.
    subst (λ (word : List ℕ). AreNumbersOf c.args.posed.now.demand.now.sites (IsAtPath c.args.posed.now.linked.now q n word) c.loop-field.numbers.items)
    (take_all c.loop-field.field-index c.args.fields.now c.loop-field-test.false) (c.loop-field.invariant q n posed there)
