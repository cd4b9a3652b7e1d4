use Rattle.std.proofs.Common.{ltb, arith, rules}
use Rattle.std.proofs.lemmas.Bool.{ltb-false, ltb-true}
use Rattle.std.proofs.lemmas.List.Sorted.{IsPartitionPoint-from_clause, IsPartitionedBy-ltb}
use Rattle.default_turns.specs.declared.holders.Holder.{Holder}
use Rattle.default_turns.proofs.stretches.first_from.Goals as goal

pub returns : goal.returns
returns c =
    let parted = IsPartitionedBy-ltb (λ (h : Holder). h.place) c.args.holders.now c.args.place c.requires in
    let point = IsPartitionPoint-from_clause (λ (h : Holder). ltb h.place c.args.place) _ _ c.partition_point.ensures.partitioned parted (λ a r q k. search rules) in
    record {
      bound = c.partition_point.ensures.bound;
      earlier = λ k d h. ltb-true _ _ (point.0 k d (omega arith) h);
      later = λ k d h l. ltb-false _ _ (point.1 k d h l);
    }
