use Rattle.jim_link.proofs.linking.parts_of.Goals as goal

pub returns-then-not-has_entry-clause-err : goal.returns-then-not-has_entry-clause-err
returns-then-not-has_entry-clause-err c = c.no_entry.ensures c.args.classes.now.world (c.if-not-has_entry.ensures.refused (λ e. cc e))
