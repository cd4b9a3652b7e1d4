use Rattle.std.proofs.Common.{ℕ, List, arith, ◌∙◌, subst, sym}
use Rattle.std.proofs.lemmas.List.{take_all}
use Rattle.std.proofs.lemmas.Option.{slice_get-get_or}
use Rattle.lists.specs.Lists.{Has}
use Rattle.lists.proofs.Joined.{slice_get-taken}
use Rattle.spds_rules.specs.declared.edge.Edge.{Edge}
use Rattle.cert_work.specs.Roads.{EdgeOf}
use Rattle.cert_work.specs.Rules.{IsPopped}
use Rattle.cert_work.specs.Added.{AreAdded}
use Rattle.cert_work.proofs.Growing.{added_more, cites_kept, cited_kept, each_next, many_more, popped_more}
use Rattle.cert_work.proofs.Working.{cites_low, word_kept}
use Rattle.cert_work.proofs.pairs.pop_takers.Goals as goal

pub loop-taker-init : goal.loop-taker-init
loop-taker-init c = record {
  added = AreAdded.none;
  there = λ i has. let h = has.1 in cc;
}

pub pop_taker-requires-clause-taker : goal.pop_taker-requires-clause-taker
pop_taker-requires-clause-taker c = word_kept c.args.view.now.linked.now c.args.view.now.target c.loop-taker.invariant.added _ _ (c.requires.takers _ (c.loop-taker.taker-index, slice_get-get_or _ _ _ c.loop-taker-test.true))

pub pop_taker-requires-clause-below : goal.pop_taker-requires-clause-below
pop_taker-requires-clause-below c = cites_kept c.args.view.now.linked.now c.args.view.now.target c.loop-taker.invariant.added _ _ c.requires.below

pub pop_taker-requires-clause-long : goal.pop_taker-requires-clause-long
pop_taker-requires-clause-long c = cited_kept c.args.view.now.linked.now c.args.view.now.target c.loop-taker.invariant.added _ _ c.requires.below ∙ c.requires.long

pub loop-taker-preserved : goal.loop-taker-preserved
loop-taker-preserved c =
    let was = c.loop-taker.invariant in
    let now = c.in_ok-pop_taker.ensures in
    let mid = c.loop-taker.written in
    let new = c.pop_taker.new.written in
    record {
      added = added_more c.args.view.now.linked.now c.args.view.now.target was.added now.added;
      there = each_next (λ (i : ℕ). (e : Edge) → EdgeOf c.args.view.now e → IsPopped new i c.args.below.now.number e) c.args.takers.now c.loop-taker.taker-index _
          (slice_get-get_or _ _ _ c.loop-taker-test.true)
          (λ i has. λ e along. popped_more c.args.view.now.linked.now c.args.view.now.target now.added i c.args.below.now.number e (let a = cites_low c.args.written.now.given i _ ((c.requires.takers i (has.0, slice_get-taken c.loop-taker.taker-index c.args.takers.now has.0 i has.1)).1) in let b = many_more c.args.view.now.linked.now c.args.view.now.target was.added in omega arith) (let a = cites_low c.args.written.now.given c.args.below.now.number _ (c.requires.below) in let b = many_more c.args.view.now.linked.now c.args.view.now.target was.added in omega arith) (was.there i has e along)) now.there;
    }

pub returns-clause-there : goal.returns-clause-there
returns-clause-there c =
    let all = take_all c.loop-taker.taker-index c.args.takers.now (omega arith) in
    λ i has. c.loop-taker.invariant.there i (subst (λ (xs : List ℕ). Has xs i) (sym all) has)
