use Rattle.std.proofs.Common.{ap, map}
use Rattle.lists.proofs.Found.{grouped_none, reads_none}
use Rattle.lists.proofs.by_key.ByKey.new.Goals as goal

pub invariant_of-result : goal.invariant_of-result
invariant_of-result g c = grouped_none _ _ c.new.ensures (ap (map (λ v. v.items)) c.new-2.ensures.items)

pub returns : goal.returns
returns g c = reads_none g.K.PartialEq.eq _ _ c.new.ensures
