use Rattle.std.proofs.Common.{List, arith, subst, sym}
use Rattle.std.proofs.lemmas.List.{take_all}
use Rattle.std.proofs.lemmas.Option.{slice_get-get_or}
use Rattle.lists.proofs.Grown.{longer_more, longer_none}
use Rattle.lists.specs.Lists.{Has}
use Rattle.spds_rules.specs.declared.edge.Edge.{Edge}
use Rattle.cert_work.proofs.Growing.{each_next}
use Rattle.cert_trace.specs.Ahead.{IsBefore}
use Rattle.cert_trace.proofs.FoundAhead.{before_more}
use Rattle.cert_trace.proofs.ahead.add_all_before.Goals as goal

pub loop-edge-init : goal.loop-edge-init
loop-edge-init c = record { longer = longer_none _; before = λ e has. let h = has.1 in cc }

pub loop-edge-preserved : goal.loop-edge-preserved
loop-edge-preserved c =
    let was = c.loop-edge.invariant in
    let now = c.in_ok-add_before.ensures in
    record {
      longer = longer_more _ _ _ was.longer now.longer;
      before = each_next (IsBefore c.add_before.new.found.keys c.args.args.now c.args.field) c.args.edges.now c.loop-edge.edge-index _ (slice_get-get_or _ _ _ c.loop-edge-test.true)
          (λ e has. before_more _ _ now.longer c.args.args.now c.args.field e (was.before e has)) now.before;
    }

pub returns-clause-before : goal.returns-clause-before
returns-clause-before c =
    let all = take_all c.loop-edge.edge-index c.args.edges.now (omega arith) in
    λ e has. c.loop-edge.invariant.before e (subst (λ (xs : List Edge). Has xs e) (sym all) has)
