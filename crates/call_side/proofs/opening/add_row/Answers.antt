use Rattle.std.proofs.Common.{arith}
use Rattle.std.proofs.lemmas.Option.{slice_get-get_or}
use Rattle.lists.specs.Lists.{Has}
use Rattle.lists.proofs.Joined.{Has-left}
use Rattle.call_side.specs.Openings.{opening_of}
use Rattle.post_star.proofs.Loops.{each_all, each_more}
use Rattle.post_star.proofs.Scopes.{has_last}
use Rattle.call_side.proofs.opening.add_row.Goals as goal

pub loop-reached-init : goal.loop-reached-init
loop-reached-init c = record { kept = λ o has. has; there = λ i x low at. absurd (omega arith) }

pub loop-reached-preserved : goal.loop-reached-preserved
loop-reached-preserved c =
    let was = c.loop-reached.invariant in
    let old = c.loop-reached.openings.items in
    rw c.in_ok-push.ensures.items (record {
      kept = λ o has. Has-left old _ o (was.kept o has);
      there = each_more _ c.args.row.now c.loop-reached.reached-index _ (slice_get-get_or c.args.row.now c.loop-reached.reached-index _ (omega arith))
          (has_last old _) (λ i x low at. Has-left old _ _ (was.there i x low at));
    })

pub returns-clause-kept : goal.returns-clause-kept
returns-clause-kept c = c.loop-reached.invariant.kept

pub returns-clause-there : goal.returns-clause-there
returns-clause-there c =
    each_all (λ x. Has c.loop-reached.openings.items (opening_of c.args.first x.node)) c.args.row.now c.loop-reached.reached-index (omega arith) c.loop-reached.invariant.there
