use Rattle.std.specs.Prelude.{string_bytes}
use Rattle.jim_link.specs.Texts.{own_names}
use Rattle.jim_link.proofs.MethodFacts.{type_within}
use Rattle.jim_link.proofs.TextFacts.{types_all, types_more}
use Rattle.jim_link.proofs.texts.push_types.Goals as goal

pub push_type-requires-clause-within : goal.push_type-requires-clause-within
push_type-requires-clause-within c = type_within (own_names c.args.method.now) c.args.types.now c.loop-at.at _ c.loop-at-test.true c.requires.within

pub loop-at-preserved : goal.loop-at-preserved
loop-at-preserved c =
    types_more (own_names c.args.method.now) c.args.types.now c.loop-at.at _ (string_bytes c.args.text.now) (string_bytes c.loop-at.text) (string_bytes c.push_separator.new.text)
    (string_bytes c.push_type.new.text) c.loop-at-test.true c.loop-at.invariant c.in_ok-push_separator.ensures c.in_ok-push_type.ensures

pub returns : goal.returns
returns c =
    types_all (own_names c.args.method.now) c.args.types.now c.loop-at.at (string_bytes c.args.text.now) (string_bytes c.loop-at.text) c.loop-at-test.false c.loop-at.invariant
