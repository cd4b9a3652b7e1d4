use Rattle.std.proofs.Common.{inl, inr, subst, sym}
use Rattle.auto_table.specs.declared.rule.Rule.{Rule}
use Rattle.lists.specs.Lists.{Adds, Has}
use Rattle.rule_cells.specs.declared.distinct.Shape.{Shape}
use Rattle.rule_cells.specs.Distinct.{shape_of}
use Rattle.rule_cells.proofs.Differing.{rule_pushed, rule_there, shapes_more, shapes_same}
use Rattle.rule_cells.proofs.distinct.add_new.Goals as goal

pub returns-in_ok-push-clause-shapes : goal.returns-in_ok-push-clause-shapes
returns-in_ok-push-clause-shapes g c =
    let d = g.W.Weight.domain in
    let r = c.args.rule.now in
    let old = c.args.shapes.now.keys in
    let new = c.add.new.self.keys in
    let adds : Adds old (shape_of r) new = subst (λ (s : Shape). Adds old s new) c.shape_of.ensures c.in_ok-is_new.ensures.keys in
    rw c.in_ok-push.ensures.items
    (shapes_more d old new c.args.few.now.items r c.requires.one adds c.requires.shapes (λ has.
    let seen = c.in_ok-is_new.ensures.there.1 (subst (Has old) (sym c.shape_of.ensures) has) in
    let yes = c.if-is_new.true in
    cc))

pub returns-in_ok-push-clause-rules : goal.returns-in_ok-push-clause-rules
returns-in_ok-push-clause-rules g c = rw c.in_ok-push.ensures.items (rule_pushed c.args.few.now.items c.args.rule.now)

pub returns-else-is_new-clause-shapes : goal.returns-else-is_new-clause-shapes
returns-else-is_new-clause-shapes g c =
    let d = g.W.Weight.domain in
    let r = c.args.rule.now in
    let old = c.args.shapes.now.keys in
    let new = c.add.new.self.keys in
    let adds : Adds old (shape_of r) new = subst (λ (s : Shape). Adds old s new) c.shape_of.ensures c.in_ok-is_new.ensures.keys in
    shapes_same d old new c.args.few.now.items r c.requires.one adds c.requires.shapes
    (subst (Has old) c.shape_of.ensures (c.in_ok-is_new.ensures.there.0 c.if-is_new.false))

pub returns-else-is_new-clause-rules : goal.returns-else-is_new-clause-rules
returns-else-is_new-clause-rules g c x =
    let d = g.W.Weight.domain in
    let r = c.args.rule.now in
    let old = c.args.shapes.now.keys in
    let new = c.add.new.self.keys in
    let adds : Adds old (shape_of r) new = subst (λ (s : Shape). Adds old s new) c.shape_of.ensures c.in_ok-is_new.ensures.keys in
    let there = rule_there d old new c.args.few.now.items r c.requires.one adds c.requires.shapes
    (subst (Has old) c.shape_of.ensures (c.in_ok-is_new.ensures.there.0 c.if-is_new.false)) in (
      (λ has. inl has),
      (λ either. elim either [ inl has ↦ has | inr is ↦ subst (λ (y : Rule g.row.W.Denot). Has c.args.few.now.items y) (sym is) there ]),
    )
