use Rattle.std.proofs.Common.{leb, refl, sym, ◌∙◌, rules}
use Rattle.std.proofs.lemmas.List.Sorted.{IsPartitionPoint-from_clause, IsPartitionedBy-leb}
use Rattle.class_tree.specs.declared.tree.Defaults.{Defaults}
use Rattle.class_tree.specs.declared.tree.Defaults.TheVariants.{Nothing}
use Rattle.default_turns.specs.declared.turns.DefaultTurn.{DefaultTurn}
use Rattle.default_turns.specs.Turns.{defaults_from}
use Rattle.default_turns.proofs.Turning.{told_by, told_none}
use Rattle.object_ranges.proofs.Steady.{steady_end, steady_next}
use Rattle.object_ranges.proofs.parts.defaults_from.Goals as goal
use Rattle.object_ranges.proofs.parts.defaults_from.Goals.{then-after-gt0, else-after-gt0}

pub returns-then-after-turns : goal.returns-then-after-turns
returns-then-after-turns c =
    let turns = c.args.turns.now in
    let after = c.partition_point-after.result in
    let bound = c.partition_point-after.ensures.bound in
    let parted = IsPartitionedBy-leb (λ (t : DefaultTurn). t.at) turns c.args.place c.requires.rising in
    let point = IsPartitionPoint-from_clause (λ (t : DefaultTurn). leb t.at c.args.place) turns after c.partition_point-after.ensures.partitioned parted (λ a r q k. search rules) in
    record {
      defaults = elim c.if-after-gt0.branch [
        | then-after-gt0 w ↦ w.defaults-is ∙ sym (told_by DefaultTurn (Defaults) (λ (t : DefaultTurn). t.at) (λ (t : DefaultTurn). t.defaults) defaults_from (λ a n. refl) (λ a t ts n. refl) Nothing turns c.args.place after bound point _ w.if-after-gt0.true)
        | else-after-gt0 w ↦ w.defaults-is ∙ sym (told_none DefaultTurn (Defaults) (λ (t : DefaultTurn). t.at) (λ (t : DefaultTurn). t.defaults) defaults_from (λ a n. refl) (λ a t ts n. refl) Nothing turns c.args.place after bound point w.if-after-gt0.false)
      ];
      steady = steady_next DefaultTurn (Defaults) (λ (t : DefaultTurn). t.at) (λ (t : DefaultTurn). t.defaults) defaults_from (λ a n. refl) (λ a t ts n. refl) Nothing turns c.args.place after bound point c.args.end
          c.requires.before c.requires.rising _ c.if-after-turns.true _ c.min-until.ensures;
    }

pub returns-else-after-turns : goal.returns-else-after-turns
returns-else-after-turns c =
    let turns = c.args.turns.now in
    let after = c.partition_point-after.result in
    let bound = c.partition_point-after.ensures.bound in
    let parted = IsPartitionedBy-leb (λ (t : DefaultTurn). t.at) turns c.args.place c.requires.rising in
    let point = IsPartitionPoint-from_clause (λ (t : DefaultTurn). leb t.at c.args.place) turns after c.partition_point-after.ensures.partitioned parted (λ a r q k. search rules) in
    record {
      defaults = elim c.if-after-gt0.branch [
        | then-after-gt0 w ↦ w.defaults-is ∙ sym (told_by DefaultTurn (Defaults) (λ (t : DefaultTurn). t.at) (λ (t : DefaultTurn). t.defaults) defaults_from (λ a n. refl) (λ a t ts n. refl) Nothing turns c.args.place after bound point _ w.if-after-gt0.true)
        | else-after-gt0 w ↦ w.defaults-is ∙ sym (told_none DefaultTurn (Defaults) (λ (t : DefaultTurn). t.at) (λ (t : DefaultTurn). t.defaults) defaults_from (λ a n. refl) (λ a t ts n. refl) Nothing turns c.args.place after bound point w.if-after-gt0.false)
      ];
      steady = steady_end DefaultTurn (Defaults) (λ (t : DefaultTurn). t.at) (λ (t : DefaultTurn). t.defaults) defaults_from (λ a n. refl) (λ a t ts n. refl) Nothing turns c.args.place after bound point c.args.end
          c.requires.before c.if-after-turns.false;
    }
