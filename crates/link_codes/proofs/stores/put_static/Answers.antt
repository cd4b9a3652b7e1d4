use Rattle.link_codes.proofs.stores.put_static.Goals as goal

pub returns-clause-code : goal.returns-clause-code
returns-clause-code c = λ later kept. (c.static_field.ensures later, c.in_ok-arg.ensures.arg later kept)
