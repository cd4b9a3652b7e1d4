use Rattle.std.proofs.Common.{inl, inr, arith}
use Rattle.cert_work.specs.Added.{AreAdded}
use Rattle.cert_work.proofs.Bettering.{bettered_at}
use Rattle.cert_work.proofs.Growing.{added_more, along_more, held_more, many_more, popped_more}
use Rattle.cert_work.proofs.Working.{below_kept, cites_above, cites_low, stored_kept}
use Rattle.cert_work.proofs.work.follow.Goals as goal

pub pop_links-requires-clause-held : goal.pop_links-requires-clause-held
pop_links-requires-clause-held c = held_more c.args.view.now.linked.now c.args.view.now.target c.in_ok-along_all.ensures.added c.args.held.now c.requires.held

pub pop_links-requires-clause-links : goal.pop_links-requires-clause-links
pop_links-requires-clause-links c = λ i has. below_kept c.args.view.now.linked.now c.args.view.now.target c.in_ok-along_all.ensures.added _ i (c.requires.links i has)

pub put_mets-requires-clause-held : goal.put_mets-requires-clause-held
put_mets-requires-clause-held c =
    held_more c.args.view.now.linked.now c.args.view.now.target (added_more c.args.view.now.linked.now c.args.view.now.target c.in_ok-along_all.ensures.added c.in_ok-pop_links.ensures.added) c.args.held.now c.requires.held

pub put_mets-requires-clause-mets : goal.put_mets-requires-clause-mets
put_mets-requires-clause-mets c = λ i has.
    stored_kept c.args.view.now.linked.now c.args.view.now.target (added_more c.args.view.now.linked.now c.args.view.now.target c.in_ok-along_all.ensures.added c.in_ok-pop_links.ensures.added) _ i (c.requires.mets i has)

pub returns-clause-added : goal.returns-clause-added
returns-clause-added c =
    added_more c.args.view.now.linked.now c.args.view.now.target (added_more c.args.view.now.linked.now c.args.view.now.target c.in_ok-along_all.ensures.added c.in_ok-pop_links.ensures.added) c.in_ok-put_mets.ensures.added

pub returns-clause-along : goal.returns-clause-along
returns-clause-along c = λ e along side o x at.
    let behind = added_more c.args.view.now.linked.now c.args.view.now.target c.in_ok-pop_links.ensures.added c.in_ok-put_mets.ensures.added in
    let low = cites_low c.args.written.now.given c.args.held.now.number _ c.requires.held.gives in
    let many = many_more c.args.view.now.linked.now c.args.view.now.target c.in_ok-along_all.ensures.added in
    inl (along_more c.args.view.now.linked.now c.args.view.now.target behind c.args.held.now.number e (omega arith) (c.in_ok-along_all.ensures.there e along) side o x at)

pub returns-clause-popped : goal.returns-clause-popped
returns-clause-popped c = λ i has e along side o x below at links takes.
    let low = cites_low c.args.written.now.given c.args.held.now.number _ c.requires.held.gives in
    let under = cites_low c.args.written.now.given i _ (c.requires.links i has).1 in
    let many = many_more c.args.view.now.linked.now c.args.view.now.target c.in_ok-along_all.ensures.added in
    let more = many_more c.args.view.now.linked.now c.args.view.now.target c.in_ok-pop_links.ensures.added in
    inl (popped_more c.args.view.now.linked.now c.args.view.now.target c.in_ok-put_mets.ensures.added c.args.held.now.number i e (omega arith) (omega arith) (c.in_ok-pop_links.ensures.there i has e along)
    side o x below at links takes)

pub returns-clause-put : goal.returns-clause-put
returns-clause-put c = λ i has base n start side o x s at meets. inl (c.in_ok-put_mets.ensures.there i has base n start side o x s at meets)

pub is_bettered-requires : goal.is_bettered-requires
is_bettered-requires c =
    let low = cites_low c.args.written.now.given c.args.held.now.number _ c.requires.held.gives in omega (arith, low, cites_above c.args.written.now.given c.args.held.now.number _ c.requires.held.gives, c.len-count.ensures.lines, c.len-count.ensures.given)

pub returns-then-is_bettered-clause-added : goal.returns-then-is_bettered-clause-added
returns-then-is_bettered-clause-added c = AreAdded.none

pub returns-then-is_bettered-clause-along : goal.returns-then-is_bettered-clause-along
returns-then-is_bettered-clause-along c = λ e along side o x at.
    inr (bettered_at c.args.written.now c.args.held.now.number (cites_above c.args.written.now.given c.args.held.now.number _ c.requires.held.gives) (c.is_bettered.ensures.0 c.if-is_bettered.true))

pub returns-then-is_bettered-clause-popped : goal.returns-then-is_bettered-clause-popped
returns-then-is_bettered-clause-popped c = λ i has e along side o x below at links takes.
    inr (bettered_at c.args.written.now c.args.held.now.number (cites_above c.args.written.now.given c.args.held.now.number _ c.requires.held.gives) (c.is_bettered.ensures.0 c.if-is_bettered.true))

pub returns-then-is_bettered-clause-put : goal.returns-then-is_bettered-clause-put
returns-then-is_bettered-clause-put c = λ i has base n start side o x s at meets.
    inr (bettered_at c.args.written.now c.args.held.now.number (cites_above c.args.written.now.given c.args.held.now.number _ c.requires.held.gives) (c.is_bettered.ensures.0 c.if-is_bettered.true))
