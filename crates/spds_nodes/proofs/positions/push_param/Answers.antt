use Rattle.std.proofs.Common.{sym, ◌∙◌}
use Rattle.std.proofs.lemmas.Option.{same_Some, slice_get-get_or}
use Rattle.link_rules.specs.declared.code.Arg.TheVariants.{Local}
use Rattle.spds_nodes.proofs.Joined.{IsAdded-none}
use Rattle.spds_nodes.proofs.positions.push_param.Goals as goal

pub returns-else-is_local : goal.returns-else-is_local
returns-else-is_local c =
    IsAdded-none _ _ (λ v at.
    let same = same_Some _ _ (sym (slice_get-get_or c.args.args.now c.args.number (Local 0) c.requires) ∙ at.0) in
    let holds = c.is_local.ensures.1 same in
    cc (holds, c.if-is_local.false))
