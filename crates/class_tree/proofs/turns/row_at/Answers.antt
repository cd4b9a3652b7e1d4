use Rattle.std.proofs.Common.{◌≡◌, ◌∙◌, ◌-◌, None, ap, suc, sym, leb, leb-true, arith, rules}
use Rattle.std.proofs.lemmas.Bool.{leb-false}
use Rattle.std.proofs.lemmas.List.Sorted.{IsPartitionPoint-from_clause, IsPartitionedBy-leb}
use Rattle.class_tree.specs.declared.turns.Turn.{Turn}
use Rattle.class_tree.proofs.Turning.{row_before, row_before-at, row_before-none, turned-parted}
use Rattle.class_tree.proofs.turns.row_at.Goals as goal

pub returns-then-after-eq0 : goal.returns-then-after-eq0
returns-then-after-eq0 c =
    let parted = IsPartitionedBy-leb (λ (t : Turn). t.at) c.args.turns.now c.args.number c.requires in
    let point = IsPartitionPoint-from_clause (λ (t : Turn). leb t.at c.args.number) _ _ c.partition_point-after.ensures.partitioned parted (λ a r q k. search rules) in
    let read = turned-parted None c.args.turns.now c.args.number c.partition_point-after.result c.partition_point-after.ensures.bound
    (λ k e h. leb-true _ _ (point.0 k e (omega (arith, h, c.partition_point-after.ensures.bound)) h)) (λ k e h l. leb-false _ _ (point.1 k e h l)) in
    sym (read ∙ ap (row_before None c.args.turns.now) c.if-after-eq0.true ∙ row_before-none c.args.turns.now)

pub returns : goal.returns
returns c =
    let parted = IsPartitionedBy-leb (λ (t : Turn). t.at) c.args.turns.now c.args.number c.requires in
    let point = IsPartitionPoint-from_clause (λ (t : Turn). leb t.at c.args.number) _ _ c.partition_point-after.ensures.partitioned parted (λ a r q k. search rules) in
    let read = turned-parted None c.args.turns.now c.args.number c.partition_point-after.result c.partition_point-after.ensures.bound
    (λ k e h. leb-true _ _ (point.0 k e (omega (arith, h, c.partition_point-after.ensures.bound)) h)) (λ k e h l. leb-false _ _ (point.1 k e h l)) in
    let next : c.partition_point-after.result ≡ suc (c.partition_point-after.result - 1) = omega (arith, c.if-after-eq0.false) in
    sym (read ∙ ap (row_before None c.args.turns.now) next
    ∙ row_before-at None c.args.turns.now (c.partition_point-after.result - 1) _ (omega (arith, c.if-after-eq0.false, c.partition_point-after.ensures.bound)))
