use Rattle.std.proofs.Common.{List, arith, subst, sym}
use Rattle.std.proofs.lemmas.List.{take_all}
use Rattle.std.proofs.lemmas.Option.{slice_get-get_or}
use Rattle.lists.specs.Lists.{Has}
use Rattle.spds_rules.specs.declared.node.Node.{Node}
use Rattle.cert_work.specs.Rules.{GoesInto}
use Rattle.cert_work.specs.Added.{AreAdded}
use Rattle.cert_work.proofs.Growing.{added_more, each_next, goes_into_more, held_more, meeting_more}
use Rattle.cert_work.proofs.Working.{put_of}
use Rattle.link_sites.specs.declared.site.Site.{Site}
use Rattle.cert_work.specs.Roads.{StartOf}
use Rattle.cert_work.proofs.putting.put_all.Goals as goal

pub loop-start-init : goal.loop-start-init
loop-start-init c = record {
  added = AreAdded.none;
  there = λ y has. let h = has.1 in cc;
}

pub put-requires-clause-held : goal.put-requires-clause-held
put-requires-clause-held c = held_more c.args.view.now.linked.now c.args.view.now.target c.loop-start.invariant.added c.args.held.now c.requires.held

pub put-requires-clause-meeting : goal.put-requires-clause-meeting
put-requires-clause-meeting c = meeting_more c.args.view.now.linked.now c.args.view.now.target c.loop-start.invariant.added c.args.held.now c.args.meeting.now c.requires.meeting

pub put-requires-clause-start : goal.put-requires-clause-start
put-requires-clause-start c = (c.starts-starts.ensures _).0 (c.loop-start.start-index, slice_get-get_or _ _ _ c.loop-start-test.true)

pub loop-start-preserved : goal.loop-start-preserved
loop-start-preserved c =
    let was = c.loop-start.invariant in
    let now = c.in_ok-put.ensures in
    record {
      added = added_more c.args.view.now.linked.now c.args.view.now.target was.added now.added;
      there = each_next (λ (y : Node). GoesInto c.put.new.written c.args.held.now.length c.args.held.now.side c.args.held.now.site c.args.held.now.entry c.args.meeting.now.store.field y) c.starts-starts.result.now c.loop-start.start-index _ (slice_get-get_or _ _ _ c.loop-start-test.true)
          (λ y has. goes_into_more c.args.view.now.linked.now c.args.view.now.target now.added c.args.held.now.length c.args.held.now.side c.args.held.now.site c.args.held.now.entry c.args.meeting.now.store.field y (was.there y has)) now.there;
    }

pub returns-clause-there : goal.returns-clause-there
returns-clause-there c =
    let all = take_all c.loop-start.start-index c.starts-starts.result.now (omega arith) in
    let added = c.loop-start.invariant.added in
    λ base n start. put_of c.loop-start.written c.args.held.now (held_more c.args.view.now.linked.now c.args.view.now.target added c.args.held.now c.requires.held) c.args.meeting.now
    (meeting_more c.args.view.now.linked.now c.args.view.now.target added c.args.held.now c.args.meeting.now c.requires.meeting) base n
    (λ into. c.loop-start.invariant.there n (subst (λ (xs : List Node). Has xs n) (sym all)
    ((c.starts-starts.ensures n).1 (subst (λ (o : Site). StartOf c.args.view.now o n) (sym into) start))))
