use Rattle.std.proofs.lemmas.Result.{IfOk-weaker}
use Rattle.default_turns.proofs.Hiders.{hidden_both}
use Rattle.default_turns.proofs.hiding.add_hidden.Goals as goal

pub returns-clause-added : goal.returns-clause-added
returns-clause-added c =
    IfOk-weaker c.add_stretch-2.result _ _ (λ _ behind. hidden_both c.args.line.placed.tree.now c.args.line.placed.layout c.requires.line.laid c.args.line.holders.now c.requires.line.placed c.args.interface
    c.requires.interface c.args.span c.first_from-from.result c.first_from-to.result c.first_from.result c.first_behind.result c.first_from-from.ensures c.first_from-to.ensures
    c.first_from.ensures c.first_behind.ensures c.args.hidden.now.items c.add_stretch.new.reached.items c.add_stretch-2.new.reached.items
    (rw (← c.min.ensures) c.in_ok-add_stretch.ensures.added) (rw (← c.max.ensures) behind)) c.add_stretch-2.ensures.added
