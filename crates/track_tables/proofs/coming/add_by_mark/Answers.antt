use Rattle.std.proofs.Common.{◌≡◌, Some, None, slice_get, sym, ◌∙◌, inl, arith}
use Rattle.track_tables.specs.Making.{IsBackAmong}
use Rattle.track_tables.proofs.Backward.{of_more, of_wider}
use Rattle.track_tables.proofs.Going.{crossed_more}
use Rattle.track_tables.proofs.Growing.{grown_more, grown_same, past_all}
use Rattle.track_tables.proofs.coming.add_by_mark.Goals as goal

pub loop-mark-init : goal.loop-mark-init
loop-mark-init c = record {
  grown = grown_same c.args.growth.now;
  each = λ k q a events r has. inl has;
  crossed = λ k q a events r has from is. absurd (let none = is.1 in omega arith);
}

pub loop-mark-preserved : goal.loop-mark-preserved
loop-mark-preserved c =
    let p = c.args.given.now.linked.now in
    let nodes = c.args.given.now.demand.now.nodes in
    let parts = c.args.given.now.parts.now in
    let was = c.loop-mark.invariant in
    let now = c.in_ok-add_back.ensures in
    let first = c.args.growth.now in
    let old = c.loop-mark.growth in
    let new = c.add_back.new.growth in
    let among = rw c.returns.ensures at c.crossing-returns.ensures in
    let there : slice_get old.marks.keys c.loop-mark.at ≡ Some c.in-Some.mark = sym c.in-Some.ensures.value in
    record {
      grown = grown_more first old new was.grown now.grown;
      each = λ k q a events. of_more p k q a nodes parts.calls (IsBackAmong parts.returns) first.work.rules old.work.rules new.work.rules (was.each k q a events)
          (of_wider p k q a nodes parts.calls (IsBackAmong c.crossing-returns.result.now) (IsBackAmong parts.returns) old.work.rules new.work.rules
          (λ e r. (r.0, ((among r.0).0 r.1).0, r.2)) (now.each k q a events));
      crossed = λ k q a events. crossed_more p k q a nodes parts old new c.args.node c.loop-mark.at c.in-Some.mark now.grown there
          (λ r has from over. now.taken k q a events r ((among r).1 (has, from, over)) tt) (was.crossed k q a events);
    }

pub returns-clause-taken : goal.returns-clause-taken
returns-clause-taken c k q a events r has from is =
    let keys = c.loop-mark.growth.marks.keys in
    let none : slice_get keys c.loop-mark.at ≡ None = sym c.mark_at.ensures.value ∙ c.in_default.is in
    c.loop-mark.invariant.crossed k q a events r has from (past_all keys c.loop-mark.at r.mark none is)
