use Rattle.std.proofs.Common.{ℕ, List, arith, subst, sym}
use Rattle.std.proofs.lemmas.List.{take_all}
use Rattle.std.proofs.lemmas.Option.{slice_get-get_or}
use Rattle.lists.specs.Lists.{Has}
use Rattle.lists.proofs.Joined.{slice_get-taken}
use Rattle.spds_rules.specs.declared.edge.Edge.{Edge}
use Rattle.cert_work.specs.Roads.{EdgeOf}
use Rattle.cert_work.specs.Rules.{IsPopped}
use Rattle.cert_work.specs.Added.{AreAdded}
use Rattle.cert_work.proofs.Growing.{added_more, each_next, held_more, many_more, popped_more}
use Rattle.cert_work.proofs.Working.{below_kept, cites_low}
use Rattle.cert_work.proofs.pairs.pop_links.Goals as goal

pub loop-link-init : goal.loop-link-init
loop-link-init c = record {
  added = AreAdded.none;
  there = λ i has. let h = has.1 in cc;
}

pub pop_link-requires-clause-link : goal.pop_link-requires-clause-link
pop_link-requires-clause-link c = below_kept c.args.view.now.linked.now c.args.view.now.target c.loop-link.invariant.added _ _ (c.requires.links _ (c.loop-link.link-index, slice_get-get_or _ _ _ c.loop-link-test.true))

pub pop_link-requires-clause-held : goal.pop_link-requires-clause-held
pop_link-requires-clause-held c = held_more c.args.view.now.linked.now c.args.view.now.target c.loop-link.invariant.added c.args.held.now c.requires.held

pub loop-link-preserved : goal.loop-link-preserved
loop-link-preserved c =
    let was = c.loop-link.invariant in
    let now = c.in_ok-pop_link.ensures in
    let mid = c.loop-link.written in
    let new = c.pop_link.new.written in
    record {
      added = added_more c.args.view.now.linked.now c.args.view.now.target was.added now.added;
      there = each_next (λ (i : ℕ). (e : Edge) → EdgeOf c.args.view.now e → IsPopped new c.args.held.now.number i e) c.args.links.now c.loop-link.link-index _
          (slice_get-get_or _ _ _ c.loop-link-test.true)
          (λ i has. λ e along. popped_more c.args.view.now.linked.now c.args.view.now.target now.added c.args.held.now.number i e (let a = cites_low c.args.written.now.given c.args.held.now.number _ (c.requires.held.gives) in let b = many_more c.args.view.now.linked.now c.args.view.now.target was.added in omega arith) (let a = cites_low c.args.written.now.given i _ ((c.requires.links i (has.0, slice_get-taken c.loop-link.link-index c.args.links.now has.0 i has.1)).1) in let b = many_more c.args.view.now.linked.now c.args.view.now.target was.added in omega arith) (was.there i has e along)) now.there;
    }

pub returns-clause-there : goal.returns-clause-there
returns-clause-there c =
    let all = take_all c.loop-link.link-index c.args.links.now (omega arith) in
    λ i has. c.loop-link.invariant.there i (subst (λ (xs : List ℕ). Has xs i) (sym all) has)
