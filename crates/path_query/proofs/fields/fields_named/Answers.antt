use Rattle.std.proofs.Common.{subst, sym, map, add-one}
use Rattle.std.specs.List.{AllZip}
use Rattle.std.proofs.lemmas.List.{take_all}
use Rattle.boom_words.specs.Fields.{AreFields, field_name}
use Rattle.boom_words.proofs.Elements.{zip_next}
use Rattle.path_query.proofs.Numbered.{Numbers, all_numbered}
use Rattle.path_query.proofs.fields.fields_named.Goals as goal

pub loop-word-preserved : goal.loop-word-preserved
loop-word-preserved c = rw (c.in_ok-push.ensures.items, add-one) (
    zip_next (Numbers c.args.linked.now) c.as_slice-word-items.result.now c.loop-word.fields.items c.loop-word.word-index _ c.in-Some-field_of.field
    c.loop-word-test.true c.loop-word.invariant c.in-Some-field_of.ensures.some)

pub returns-clause-some : goal.returns-clause-some
returns-clause-some c =
    let spelled = rw c.in-Some.is at c.in_ok-words.ensures.some in
    all_numbered c.args.linked.now c.args.word.now c.as_slice-word-items.result.now c.loop-word.fields.items
    (subst (λ items. AreFields c.args.word.now (map field_name items)) (sym c.as_slice-word-items.ensures.value) spelled)
    (subst (λ parts. AllZip (Numbers c.args.linked.now) parts c.loop-word.fields.items) (take_all c.loop-word.word-index _ c.loop-word-test.false) c.loop-word.invariant)
