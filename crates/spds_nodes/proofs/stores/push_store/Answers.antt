use Rattle.std.proofs.Common.{sym, ◌∙◌}
use Rattle.spds_nodes.proofs.Filed.{IsFiled-local, IsFiled-none}
use Rattle.spds_nodes.proofs.stores.push_store.Goals as goal

pub returns-in_ok-push : goal.returns-in_ok-push
returns-in_ok-push c =
    IsFiled-local c.args.place c.args.field c.args.base c.args.arg _ _ c.in-Some.stored (sym c.arg_var.ensures ∙ c.in-Some.is) c.in_ok-push.ensures.items

pub returns-in_default : goal.returns-in_default
returns-in_default c = IsFiled-none c.args.place _ _ (λ s is. c.in_default.not-Some is.0 (c.arg_var.ensures ∙ is.1))
