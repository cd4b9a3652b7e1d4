use Rattle.std.proofs.Common.{◌∙◌, ap, ◌++◌, ◌∷◌, []}
use Rattle.spds_solve.specs.declared.ends.End.TheVariants.{Arg, Base}
use Rattle.spds_solve.proofs.Ending.{ends_more, keyed}
use Rattle.spds_solve.proofs.ends.list_ends.Goals as goal

pub returns : goal.returns
returns c was =
    ends_more c.args.parts.now c.args.store c.args.ends.now.items c.push.new.self.items c.push-2.new.self.items
    (c.in_ok-push.ensures.items ∙ ap (λ s. c.args.ends.now.items ++ keyed s.arg.calls (record { store = c.args.store; end = Arg }) ∷ []) c.stored-stored.ensures)
    (c.in_ok-push-2.ensures.items ∙ ap (λ s. c.push.new.self.items ++ keyed s.base.calls (record { store = c.args.store; end = Base }) ∷ []) c.stored-stored.ensures) was
