use Rattle.std.proofs.Common.{IsTrue, ap, ◌∙◌, ◌++◌}
use Rattle.link_faults.specs.AtSite.{HasTargetHere}
use Rattle.link_faults.proofs.Growing.{grows, targets_by}
use Rattle.link_faults.proofs.examining.add_targets.Goals as goal

pub returns-in_ok-extend_from_slice : goal.returns-in_ok-extend_from_slice
returns-in_ok-extend_from_slice c =
    let x = c.args.site.now in
    let test : IsTrue c.keeps_targets.result = cc in
    let keeps = c.keeps_targets.ensures.0 test in
    grows c.args.rows.now.items c.in-Some.callee.rows.items c.extend_from_slice.new.self.items (HasTargetHere x)
    (c.in_ok-extend_from_slice.ensures.items ∙ ap (λ rows. c.args.rows.now.items ++ rows) c.as_slice.ensures.value) (targets_by x c.requires c.in-Some.callee c.in-Some.is keeps)
