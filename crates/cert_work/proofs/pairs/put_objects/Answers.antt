use Rattle.std.proofs.Common.{ℕ, List, arith, subst, sym}
use Rattle.std.proofs.lemmas.List.{take_all}
use Rattle.std.proofs.lemmas.Option.{slice_get-get_or}
use Rattle.lists.specs.Lists.{Has}
use Rattle.lists.proofs.Joined.{slice_get-taken}
use Rattle.link_sites.specs.declared.site.Site.{Site}
use Rattle.spds_rules.specs.declared.node.Node.{Node}
use Rattle.cert_work.specs.Roads.{StartOf}
use Rattle.cert_work.specs.Rules.{IsPut}
use Rattle.cert_work.specs.Added.{AreAdded}
use Rattle.cert_work.proofs.Growing.{added_more, cites_kept, each_next, many_more, put_more}
use Rattle.cert_work.proofs.Working.{at_kept, cites_low}
use Rattle.cert_work.proofs.pairs.put_objects.Goals as goal

pub loop-object-init : goal.loop-object-init
loop-object-init c = record {
  added = AreAdded.none;
  there = λ i has. let h = has.1 in cc;
}

pub put_object-requires-clause-object : goal.put_object-requires-clause-object
put_object-requires-clause-object c = at_kept c.args.view.now.linked.now c.args.view.now.target c.loop-object.invariant.added _ _ (c.requires.objects _ (c.loop-object.object-index, slice_get-get_or _ _ _ c.loop-object-test.true))

pub put_object-requires-clause-meets : goal.put_object-requires-clause-meets
put_object-requires-clause-meets c = cites_kept c.args.view.now.linked.now c.args.view.now.target c.loop-object.invariant.added _ _ c.requires.meets

pub loop-object-preserved : goal.loop-object-preserved
loop-object-preserved c =
    let was = c.loop-object.invariant in
    let now = c.in_ok-put_object.ensures in
    let mid = c.loop-object.written in
    let new = c.put_object.new.written in
    record {
      added = added_more c.args.view.now.linked.now c.args.view.now.target was.added now.added;
      there = each_next (λ (i : ℕ). (base : Site) (n : Node) → StartOf c.args.view.now base n → IsPut new i c.args.meeting.now.number base n) c.args.objects.now c.loop-object.object-index _
          (slice_get-get_or _ _ _ c.loop-object-test.true)
          (λ i has. λ base n start. put_more c.args.view.now.linked.now c.args.view.now.target now.added i c.args.meeting.now.number base n (let a = cites_low c.args.written.now.given i _ ((c.requires.objects i (has.0, slice_get-taken c.loop-object.object-index c.args.objects.now has.0 i has.1)).2) in let b = many_more c.args.view.now.linked.now c.args.view.now.target was.added in omega arith) (let a = cites_low c.args.written.now.given c.args.meeting.now.number _ (c.requires.meets) in let b = many_more c.args.view.now.linked.now c.args.view.now.target was.added in omega arith) (was.there i has base n start)) now.there;
    }

pub returns-clause-there : goal.returns-clause-there
returns-clause-there c =
    let all = take_all c.loop-object.object-index c.args.objects.now (omega arith) in
    λ i has. c.loop-object.invariant.there i (subst (λ (xs : List ℕ). Has xs i) (sym all) has)
