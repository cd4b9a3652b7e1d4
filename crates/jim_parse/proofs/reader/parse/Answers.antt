use Rattle.std.proofs.Common.{◌≡◌, subst}
use Rattle.jim_grammar.specs.Refusals.{Least}
use Rattle.jim_parse.specs.Derives.{IsRefusedAt}
use Rattle.jim_parse.proofs.PlaceLemmas.{least_refuses}
use Rattle.jim_parse.proofs.reader.parse.Goals as goal

pub returns-in-Some-clause-refused : goal.returns-in-Some-clause-refused
returns-in-Some-clause-refused c = λ at is.
    let least : Least c.in_ok-names.field-0.signs.items c.in-Some.at = subst (λ w. Least w c.in-Some.at) c.deref.ensures.value (rw c.in-Some.is at c.in_ok-at.ensures.refused) in
    let same : c.in-Some.at ≡ at = cc in
    subst (λ n. IsRefusedAt c.args.bytes.now c.args.tokens.now n) same
    (least_refuses c.args.bytes.now c.args.tokens.now c.in_ok-names.field-0.signs.items c.in_ok-names.ensures.signs c.in-Some.at least)
