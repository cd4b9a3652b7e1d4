use Rattle.link_faults.proofs.Steps.{site_further}
use Rattle.link_faults.proofs.examining.examine_stmt.Goals as goal

pub returns-clause-examined : goal.returns-clause-examined
returns-clause-examined c =
    site_further c.args.targets.now c.args.method.now c.args.body.now c.args.index c.in_ok-site.site c.in_ok-site.ensures.parts c.args.examined.now
    (record { fault = c.earlier-examined.result; rows = c.add_targets.new.rows; touched = c.add_touched.new.touched }) c.fault_at.result c.requires.so_far c.in_ok-add_targets.ensures c.in_ok-add_touched.ensures c.fault_at.ensures
    c.earlier-examined.ensures
