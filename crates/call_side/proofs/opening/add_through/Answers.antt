use Rattle.std.proofs.Common.{arith}
use Rattle.std.proofs.lemmas.Option.{slice_get-get_or}
use Rattle.lists.specs.Lists.{Has}
use Rattle.auto_table.specs.declared.row.Reached.{Reached}
use Rattle.call_side.specs.Openings.{first_of, opening_of}
use Rattle.post_star.proofs.Loops.{each_all, each_more}
use Rattle.weight_laws.specs.declared.reach.Reach.{Reach}
use Rattle.call_side.proofs.opening.add_through.Goals as goal

pub loop-linked-init : goal.loop-linked-init
loop-linked-init c = record { kept = λ o has. has; there = λ i p low at. absurd (omega arith) }

pub loop-linked-preserved : goal.loop-linked-preserved
loop-linked-preserved c =
    let was = c.loop-linked.invariant in
    let now = c.in_ok-add_row.ensures in
    record {
      kept = λ o has. now.kept o (was.kept o has);
      there = each_more (λ p. (x : Reached Reach) → Has c.args.row.now x → Has c.add_row.new.openings.items (opening_of (first_of p.parent) x.node)) c.args.links.now c.loop-linked.linked-index _
          (slice_get-get_or c.args.links.now c.loop-linked.linked-index _ (omega arith)) (rw c.first_of.ensures at now.there)
          (λ i p low at x has. now.kept _ (was.there i p low at x has));
    }

pub returns-clause-kept : goal.returns-clause-kept
returns-clause-kept c = c.loop-linked.invariant.kept

pub returns-clause-there : goal.returns-clause-there
returns-clause-there c =
    each_all (λ p. (x : Reached Reach) → Has c.args.row.now x → Has c.loop-linked.openings.items (opening_of (first_of p.parent) x.node)) c.args.links.now c.loop-linked.linked-index (omega arith)
    c.loop-linked.invariant.there
