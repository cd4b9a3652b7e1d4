use Rattle.std.proofs.Common.{leb, leb-true, arith, rules}
use Rattle.std.proofs.lemmas.Bool.{leb-false}
use Rattle.std.proofs.lemmas.List.Sorted.{IsPartitionPoint-from_clause, IsPartitionedBy-leb}
use Rattle.default_turns.specs.declared.holders.Holder.{Holder}
use Rattle.default_turns.proofs.stretches.first_behind.Goals as goal

pub returns : goal.returns
returns c =
    let parted = IsPartitionedBy-leb (λ (h : Holder). h.place) c.args.holders.now c.args.place c.requires in
    let point = IsPartitionPoint-from_clause (λ (h : Holder). leb h.place c.args.place) _ _ c.partition_point.ensures.partitioned parted (λ a r q k. search rules) in
    record {
      bound = c.partition_point.ensures.bound;
      earlier = λ k d h. let low = leb-true _ _ (point.0 k d (omega arith) h) in omega (arith, low);
      later = λ k d h l. let high = leb-false _ _ (point.1 k d h l) in omega (arith, high);
    }
