use Rattle.std.proofs.Common.{◌∙◌, IfOk, subst}
use Rattle.rule_marks.specs.Making.{AreSplitRules}
use Rattle.rule_marks.specs.Split.{Splitting}
use Rattle.weight_laws.specs.Reach.{reach_domain}
use Rattle.call_side.proofs.Coding.{marks_splitting}
use Rattle.call_side.proofs.split_bases.CallBases.split_rules.Goals as goal

pub returns : goal.returns
returns c =
    let marks = c.marks_of-marks.ensures in
    rw (← c.self.view_is)
    (subst (λ (s : Splitting). IfOk c.split_rules.result (λ made. AreSplitRules reach_domain s c.args.rules.now made.items))
    (marks_splitting c.marks_of-marks.result.are_split.now c.self.inside.crowds.items _ _ _ c.self.inside.steps.items (marks.crowds ∙ c.deref.ensures.value) marks.common marks.nodes marks.bases
    c.self.invariant.crowds_are)
    c.split_rules.ensures)
