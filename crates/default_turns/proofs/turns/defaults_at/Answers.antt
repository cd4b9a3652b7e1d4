use Rattle.std.proofs.Common.{leb, refl, sym, rules}
use Rattle.std.proofs.lemmas.List.Sorted.{IsPartitionPoint-from_clause, IsPartitionedBy-leb}
use Rattle.class_tree.specs.declared.tree.Defaults.{Defaults}
use Rattle.class_tree.specs.declared.tree.Defaults.TheVariants.{Nothing}
use Rattle.default_turns.specs.declared.turns.DefaultTurn.{DefaultTurn}
use Rattle.default_turns.specs.Turns.{defaults_from}
use Rattle.default_turns.proofs.Turning.{told_by, told_none}
use Rattle.default_turns.proofs.turns.defaults_at.Goals as goal

pub returns-then-after-gt0 : goal.returns-then-after-gt0
returns-then-after-gt0 c =
    let turns = c.args.turns.now in
    let after = c.partition_point-after.result in
    let bound = c.partition_point-after.ensures.bound in
    let parted = IsPartitionedBy-leb (λ (t : DefaultTurn). t.at) turns c.args.place c.requires in
    let point = IsPartitionPoint-from_clause (λ (t : DefaultTurn). leb t.at c.args.place) turns after c.partition_point-after.ensures.partitioned parted (λ a r q k. search rules) in
    sym (told_by DefaultTurn (Defaults) (λ (t : DefaultTurn). t.at) (λ (t : DefaultTurn). t.defaults) defaults_from (λ a n. refl) (λ a t ts n. refl) Nothing turns c.args.place after bound point _ c.if-after-gt0.true)

pub returns-else-after-gt0 : goal.returns-else-after-gt0
returns-else-after-gt0 c =
    let turns = c.args.turns.now in
    let after = c.partition_point-after.result in
    let bound = c.partition_point-after.ensures.bound in
    let parted = IsPartitionedBy-leb (λ (t : DefaultTurn). t.at) turns c.args.place c.requires in
    let point = IsPartitionPoint-from_clause (λ (t : DefaultTurn). leb t.at c.args.place) turns after c.partition_point-after.ensures.partitioned parted (λ a r q k. search rules) in
    sym (told_none DefaultTurn (Defaults) (λ (t : DefaultTurn). t.at) (λ (t : DefaultTurn). t.defaults) defaults_from (λ a n. refl) (λ a t ts n. refl) Nothing turns c.args.place after bound point c.if-after-gt0.false)
