use Rattle.std.proofs.Common.{ℕ, None, Option, leb, refl, sym, ◌∙◌, rules}
use Rattle.std.proofs.lemmas.List.Sorted.{IsPartitionPoint-from_clause, IsPartitionedBy-leb}
use Rattle.class_tree.specs.declared.turns.Turn.{Turn}
use Rattle.class_tree.specs.Turns.{turned}
use Rattle.default_turns.proofs.Turning.{told_by, told_none}
use Rattle.object_ranges.proofs.Steady.{steady_end, steady_next}
use Rattle.object_ranges.proofs.parts.row_from.Goals as goal
use Rattle.object_ranges.proofs.parts.row_from.Goals.{then-after-gt0, else-after-gt0}

pub returns-then-after-turns : goal.returns-then-after-turns
returns-then-after-turns c =
    let turns = c.args.turns.now in
    let after = c.partition_point-after.result in
    let bound = c.partition_point-after.ensures.bound in
    let parted = IsPartitionedBy-leb (λ (t : Turn). t.at) turns c.args.place c.requires.rising in
    let point = IsPartitionPoint-from_clause (λ (t : Turn). leb t.at c.args.place) turns after c.partition_point-after.ensures.partitioned parted (λ a r q k. search rules) in
    record {
      row = elim c.if-after-gt0.branch [
        | then-after-gt0 w ↦ w.row-is ∙ sym (told_by Turn (Option ℕ) (λ (t : Turn). t.at) (λ (t : Turn). t.row) turned (λ a n. refl) (λ a t ts n. refl) None turns c.args.place after bound point _ w.if-after-gt0.true)
        | else-after-gt0 w ↦ w.row-is ∙ sym (told_none Turn (Option ℕ) (λ (t : Turn). t.at) (λ (t : Turn). t.row) turned (λ a n. refl) (λ a t ts n. refl) None turns c.args.place after bound point w.if-after-gt0.false)
      ];
      steady = steady_next Turn (Option ℕ) (λ (t : Turn). t.at) (λ (t : Turn). t.row) turned (λ a n. refl) (λ a t ts n. refl) None turns c.args.place after bound point c.args.end c.requires.before
          c.requires.rising _ c.if-after-turns.true _ c.min-until.ensures;
    }

pub returns-else-after-turns : goal.returns-else-after-turns
returns-else-after-turns c =
    let turns = c.args.turns.now in
    let after = c.partition_point-after.result in
    let bound = c.partition_point-after.ensures.bound in
    let parted = IsPartitionedBy-leb (λ (t : Turn). t.at) turns c.args.place c.requires.rising in
    let point = IsPartitionPoint-from_clause (λ (t : Turn). leb t.at c.args.place) turns after c.partition_point-after.ensures.partitioned parted (λ a r q k. search rules) in
    record {
      row = elim c.if-after-gt0.branch [
        | then-after-gt0 w ↦ w.row-is ∙ sym (told_by Turn (Option ℕ) (λ (t : Turn). t.at) (λ (t : Turn). t.row) turned (λ a n. refl) (λ a t ts n. refl) None turns c.args.place after bound point _ w.if-after-gt0.true)
        | else-after-gt0 w ↦ w.row-is ∙ sym (told_none Turn (Option ℕ) (λ (t : Turn). t.at) (λ (t : Turn). t.row) turned (λ a n. refl) (λ a t ts n. refl) None turns c.args.place after bound point w.if-after-gt0.false)
      ];
      steady = steady_end Turn (Option ℕ) (λ (t : Turn). t.at) (λ (t : Turn). t.row) turned (λ a n. refl) (λ a t ts n. refl) None turns c.args.place after bound point c.args.end c.requires.before
          c.if-after-turns.false;
    }
