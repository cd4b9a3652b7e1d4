use Rattle.std.proofs.Common.{ℕ, List, arith, subst, sym}
use Rattle.std.proofs.lemmas.List.{take_all}
use Rattle.std.proofs.lemmas.Option.{slice_get-get_or}
use Rattle.lists.specs.Lists.{Has}
use Rattle.lists.proofs.Joined.{slice_get-taken}
use Rattle.link_sites.specs.declared.site.Site.{Site}
use Rattle.spds_rules.specs.declared.node.Node.{Node}
use Rattle.cert_work.specs.Roads.{StartOf}
use Rattle.cert_work.specs.Rules.{IsPut}
use Rattle.cert_work.specs.Added.{AreAdded}
use Rattle.cert_work.proofs.Growing.{added_more, each_next, held_more, many_more, put_more}
use Rattle.cert_work.proofs.Working.{cites_low, stored_kept}
use Rattle.cert_work.proofs.pairs.put_mets.Goals as goal

pub loop-met-init : goal.loop-met-init
loop-met-init c = record {
  added = AreAdded.none;
  there = λ i has. let h = has.1 in cc;
}

pub put_met-requires-clause-met : goal.put_met-requires-clause-met
put_met-requires-clause-met c = stored_kept c.args.view.now.linked.now c.args.view.now.target c.loop-met.invariant.added _ _ (c.requires.mets _ (c.loop-met.met-index, slice_get-get_or _ _ _ c.loop-met-test.true))

pub put_met-requires-clause-held : goal.put_met-requires-clause-held
put_met-requires-clause-held c = held_more c.args.view.now.linked.now c.args.view.now.target c.loop-met.invariant.added c.args.held.now c.requires.held

pub loop-met-preserved : goal.loop-met-preserved
loop-met-preserved c =
    let was = c.loop-met.invariant in
    let now = c.in_ok-put_met.ensures in
    let mid = c.loop-met.written in
    let new = c.put_met.new.written in
    record {
      added = added_more c.args.view.now.linked.now c.args.view.now.target was.added now.added;
      there = each_next (λ (i : ℕ). (base : Site) (n : Node) → StartOf c.args.view.now base n → IsPut new c.args.held.now.number i base n) c.args.mets.now c.loop-met.met-index _
          (slice_get-get_or _ _ _ c.loop-met-test.true)
          (λ i has. λ base n start. put_more c.args.view.now.linked.now c.args.view.now.target now.added c.args.held.now.number i base n (let a = cites_low c.args.written.now.given c.args.held.now.number _ (c.requires.held.gives) in let b = many_more c.args.view.now.linked.now c.args.view.now.target was.added in omega arith) (let a = cites_low c.args.written.now.given i _ ((c.requires.mets i (has.0, slice_get-taken c.loop-met.met-index c.args.mets.now has.0 i has.1)).3) in let b = many_more c.args.view.now.linked.now c.args.view.now.target was.added in omega arith) (was.there i has base n start)) now.there;
    }

pub returns-clause-there : goal.returns-clause-there
returns-clause-there c =
    let all = take_all c.loop-met.met-index c.args.mets.now (omega arith) in
    λ i has. c.loop-met.invariant.there i (subst (λ (xs : List ℕ). Has xs i) (sym all) has)
