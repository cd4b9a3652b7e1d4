use Rattle.std.proofs.Common.{◌∙◌, refl}
use Rattle.spds_nodes.specs.Positions.{var_of}
use Rattle.site_events.proofs.Holding.{settled_local, settled_other}
use Rattle.site_events.proofs.identities.is_settled.Goals as goal

pub returns-in-Some : goal.returns-in-Some
returns-in-Some c =
    c.comes_first.ensures ∙ settled_local c.args.code.now (var_of c.args.position) c.in-Some.field-0 ((c.in-Some.ensures c.in-Some.field-0).0 refl)

pub returns-in-None : goal.returns-in-None
returns-in-None c =
    settled_other c.args.code.now (var_of c.args.position) (λ x is. let none = (c.in-None.ensures x).1 is in cc (none))
