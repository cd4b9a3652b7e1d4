use Rattle.std.proofs.Common.{◌<◌, length, get_or, inl, arith}
use Rattle.std.proofs.lemmas.List.{take_all}
use Rattle.std.proofs.lemmas.Option.{slice_get-get_or}
use Rattle.track_tables.specs.declared.returns.Return.{Return}
use Rattle.track_tables.specs.Making.{IsDue, IsTaken}
use Rattle.track_tables.proofs.Backward.{each_of_more, no_return, of_one}
use Rattle.track_tables.proofs.Growing.{due_kept, grown_more, grown_same}
use Rattle.track_tables.proofs.Taken.{taken_kept}
use Rattle.track_tables.proofs.coming.add_back.Goals as goal

pub loop-back-init : goal.loop-back-init
loop-back-init c = record { grown = grown_same c.args.growth.now; each = λ k q a events r has. inl has; taken = λ k q a events r has. cc has.1 }

pub loop-back-preserved : goal.loop-back-preserved
loop-back-preserved c =
    let p = c.args.given.now.linked.now in
    let nodes = c.args.given.now.demand.now.nodes in
    let calls = c.args.given.now.parts.now.calls in
    let returns = c.args.returns.now in
    let index = c.loop-back.back-index in
    let first = c.args.growth.now in
    let old = c.loop-back.growth in
    let new = c.add_due.new.growth in
    let was = c.loop-back.invariant in
    let now = c.in_ok-add_due.ensures in
    let below : index < length returns = omega arith in
    let it = get_or returns index no_return in
    let there = slice_get-get_or returns index no_return below in
    record {
      grown = grown_more first old new was.grown now.grown;
      each = λ k q a events. of_one p k q a nodes calls returns index it first.work.rules old.work.rules new.work.rules there (was.each k q a events) (now.each k q a events);
      taken = λ k q a events. each_of_more returns index no_return below (λ (r : Return). IsDue first c.args.due r → IsTaken p k q a nodes calls r.edge new.work.rules)
          (λ r has cond. taken_kept p k q a nodes calls r.edge old.work.rules new.work.rules now.grown.rules (was.taken k q a events r has cond))
          (λ cond. now.taken k q a events (c.has_due-is_due.ensures (due_kept first old c.args.due it was.grown cond)));
    }

pub returns-clause-taken : goal.returns-clause-taken
returns-clause-taken c = let all = take_all c.loop-back.back-index c.args.returns.now (omega arith) in rw all at c.loop-back.invariant.taken
