use Rattle.link_codes.proofs.stores.put_field.Goals as goal

pub returns-clause-code : goal.returns-clause-code
returns-clause-code c = λ later kept. (c.local.ensures, c.instance_field.ensures later, c.in_ok-arg.ensures.arg later kept)
