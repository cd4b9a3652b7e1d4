use Rattle.jim_link.proofs.MethodFacts.{name_below, params_within, result_within}
use Rattle.jim_link.proofs.texts.method_text.Goals as goal

pub push_type-requires-clause-within : goal.push_type-requires-clause-within
push_type-requires-clause-within c = result_within c.args.method.now.all.now c.args.method.now c.requires

pub name_text-requires-clause-within : goal.name_text-requires-clause-within
name_text-requires-clause-within c = name_below c.args.method.now.all.now c.args.method.now c.requires

pub push_types-requires-clause-within : goal.push_types-requires-clause-within
push_types-requires-clause-within c = rw c.as_slice.ensures (params_within c.args.method.now.all.now c.args.method.now c.requires)
