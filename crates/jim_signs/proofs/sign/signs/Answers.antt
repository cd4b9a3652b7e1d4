use Rattle.std.proofs.lemmas.Option.{slice_get-get_or}
use Rattle.jim_signs.proofs.SignLemmas.{all_named, next_signs, token_begins}
use Rattle.jim_signs.proofs.sign.signs.Goals as goal

pub lead-requires : goal.lead-requires
lead-requires c = token_begins c.requires c.loop-token.token-index _ (slice_get-get_or c.args.tokens.now c.loop-token.token-index _ c.loop-token-test.true)

pub sign-requires-clause-begins : goal.sign-requires-clause-begins
sign-requires-clause-begins c = token_begins c.requires c.loop-token.token-index _ (slice_get-get_or c.args.tokens.now c.loop-token.token-index _ c.loop-token-test.true)

pub loop-token-preserved : goal.loop-token-preserved
loop-token-preserved c =
    rw c.in_ok-push.ensures.items
    (next_signs c.args.bytes.now c.args.tokens.now c.loop-token.token-index _ c.loop-token.names c.sign.new.names c.loop-token.signs.items _ c.loop-token-test.true c.loop-token.invariant
    c.in_ok-sign.ensures.names c.in_ok-sign.ensures.sign c.in_ok-sign.ensures.below c.in_ok-sign.ensures.known)

pub returns-clause-named : goal.returns-clause-named
returns-clause-named c = all_named c.args.bytes.now c.args.tokens.now c.loop-token.token-index c.loop-token.names c.loop-token.signs.items c.loop-token-test.false c.loop-token.invariant
