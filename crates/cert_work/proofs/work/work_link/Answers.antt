use Rattle.std.proofs.Common.{inl, ℕ, List, arith, subst, sym}
use Rattle.lists.specs.Lists.{Has}
use Rattle.cert_work.proofs.Growing.{cites_kept, many_more, second}
use Rattle.cert_work.proofs.Turns.{turn_link}
use Rattle.cert_work.proofs.Working.{cites_low}
use Rattle.cert_work.proofs.work.work_link.Goals as goal

pub pop_takers-requires-clause-takers : goal.pop_takers-requires-clause-takers
pop_takers-requires-clause-takers c = λ i has.
    let is = second ((c.requires.work.takers c.args.word i).0 (subst (λ (xs : List ℕ). Has xs i) c.at-takers.ensures has)) in (is.edge.from, is.put)

pub returns-clause-work : goal.returns-clause-work
returns-clause-work c =
    let low = cites_low c.args.work.now.written.given c.args.below.now.number _ c.requires.below in
    let many = many_more c.args.view.now.linked.now c.args.view.now.target c.in_ok-pop_takers.ensures.added in
    turn_link c.args.view.now.linked.now c.args.view.now.target c.args.view.now.wants.now c.args.work.now c.requires.work c.pop_takers.new.written c.in_ok-pop_takers.ensures.added c.args.below.now.number c.requires.number (omega arith)
    c.args.word c.args.below.now.entry (cites_kept c.args.view.now.linked.now c.args.view.now.target c.in_ok-pop_takers.ensures.added _ _ c.requires.below) c.add.new.self c.in_ok-add.ensures.has
    (λ i has f edge side o x below at links takes.
    inl (c.in_ok-pop_takers.ensures.there i (subst (λ (xs : List ℕ). Has xs i) (sym c.at-takers.ensures) has) f edge side o x below at links takes))
