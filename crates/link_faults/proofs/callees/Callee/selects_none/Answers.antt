use Rattle.std.proofs.Common.{Bool, true, None, IsTrue, subst}
use Rattle.std.specs.Prelude.{◌↔◌}
use Rattle.class_rules.specs.Lookups.{OnPath}
use Rattle.link_faults.proofs.Unselected.{selects_none_by}
use Rattle.link_faults.proofs.callees.Callee.selects_none.Goals as goal

pub returns-then-is_off_path : goal.returns-then-is_off_path
returns-then-is_off_path c =
    let w = c.args.classes.now.world in
    let k = c.args.self.now in
    selects_none_by w.rows k.class k.key k.rows.items k.several c.requires.rows c.requires.several true c.is_nothing.result
    (subst (λ (b : Bool). IsTrue b ↔ OnPath w.rows k.class k.key None) c.if-is_off_path.true c.is_off_path.ensures) c.is_nothing.ensures
