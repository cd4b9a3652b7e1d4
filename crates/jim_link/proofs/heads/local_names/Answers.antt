use Rattle.std.proofs.Common.{List, map, ap, ◌∙◌}
use Rattle.jim_ast.specs.declared.names.NameId.{NameId}
use Rattle.link_rules.specs.Names.{text_of}
use Rattle.jim_link.specs.Texts.{own_names}
use Rattle.jim_link.proofs.MethodFacts.{local_within}
use Rattle.jim_link.proofs.TextFacts.{mapped_all, mapped_more}
use Rattle.jim_link.proofs.heads.local_names.Goals as goal

pub name_text-requires-clause-within : goal.name_text-requires-clause-within
name_text-requires-clause-within c =
    local_within c.args.method.now.all.now c.args.method.now c.args.body.now c.as_slice-local-items.result.now c.loop-local.local-index _ c.requires.known c.requires.body
    c.as_slice-local-items.ensures c.loop-local-test.true

pub loop-local-preserved : goal.loop-local-preserved
loop-local-preserved c =
    mapped_more (text_of (own_names c.args.method.now)) c.as_slice-local-items.result.now c.loop-local.local-index _ c.in_ok-owned.field-0 c.loop-local.names.items c.push.new.self.items
    c.loop-local-test.true (c.in_ok-owned.ensures ∙ c.name_text.ensures) c.loop-local.invariant c.in_ok-push.ensures.items

pub returns : goal.returns
returns c =
    let of = text_of (own_names c.args.method.now) in
    c.from_vec.ensures ∙ mapped_all of c.as_slice-local-items.result.now c.loop-local.local-index c.loop-local.names.items c.loop-local-test.false c.loop-local.invariant
    ∙ ap (λ (xs : List NameId). map of xs) c.as_slice-local-items.ensures
