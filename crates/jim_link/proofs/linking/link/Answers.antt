use Rattle.jim_link.proofs.linking.link.Goals as goal

pub link_named-requires-clause-form : goal.link_named-requires-clause-form
link_named-requires-clause-form c = λ p links. (c.links_are_well.ensures c.args.input.now c.args.prelude.now c.args.entry.now p c.requires.input c.requires.prelude c.requires.nine links).form
