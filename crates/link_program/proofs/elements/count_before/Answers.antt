use Rattle.std.proofs.Common.{rules, of_calls, ltb}
use Rattle.std.proofs.lemmas.Fn.{always_returns_same}
use Rattle.std.proofs.lemmas.List.Sorted.{IsPartitionedBy-ltb}
use Rattle.link_program.specs.declared.elements.ElementText.{ElementText}
use Rattle.link_program.proofs.Arrays.{rising}
use Rattle.link_program.proofs.elements.count_before.Goals as goal

pub returns : goal.returns
returns c =
    c.partition_point.ensures.partitioned (λ (e : ElementText). ltb e.index c.args.index) (always_returns_same _ _ _ (λ a r f k. search (rules, of_calls)))
    (IsPartitionedBy-ltb (λ (e : ElementText). e.index) c.args.elements.now c.args.index (rising c.args.elements.now c.requires))
