use Rattle.std.proofs.Common.{◌∷◌, ◌++◌, [], List, take, ap, ◌∙◌, sym, subst}
use Rattle.std.proofs.lemmas.List.{take_all, take_more}
use Rattle.auto_table.specs.declared.rule.Rule.{Rule}
use Rattle.rule_marks.specs.Making.{IsWriting, splits_by, splitting_of}
use Rattle.rule_marks.proofs.Writing.{writing_none}
use Rattle.rule_marks.proofs.making.write_all.Goals as goal

pub loop-i-init : goal.loop-i-init
loop-i-init g c = rw c.in_ok-made.ensures.items
    (writing_none g.W.Weight.domain (splitting_of (splits_by c.args.marks.now.are_split.now c.args.marks.now.common) c.args.marks.now.common c.args.marks.now.nodes c.args.marks.now.bases) c.args.entries.now c.args.exits.now
    c.requires.entries c.requires.exits)

pub loop-i-preserved : goal.loop-i-preserved
loop-i-preserved g c =
    subst
    (λ (rs : List (Rule g.row.W.Denot)). IsWriting g.W.Weight.domain (splitting_of (splits_by c.args.marks.now.are_split.now c.args.marks.now.common) c.args.marks.now.common c.args.marks.now.nodes c.args.marks.now.bases) rs
    c.write.new.rules.items c.write.new.entries c.write.new.exits)
    (ap (λ y. take c.loop-i.i c.args.rules.now ++ y ∷ []) c.index-rules-i.is ∙ sym (take_more c.args.rules.now c.loop-i.i c.index-rules-i.result c.loop-i-test.true))
    (c.in_ok-write.ensures _ (c.loop-i.invariant))

pub returns : goal.returns
returns g c = λ r.
    let s = splitting_of (splits_by c.args.marks.now.are_split.now c.args.marks.now.common) c.args.marks.now.common c.args.marks.now.nodes c.args.marks.now.bases in
    let all = subst (λ (rs : List (Rule g.row.W.Denot)). IsWriting g.W.Weight.domain s rs c.loop-i.made.items c.loop-i.entries c.loop-i.exits)
    (take_all c.loop-i.i c.args.rules.now c.loop-i-test.false) (c.loop-i.invariant) in
    all.rules_are r
