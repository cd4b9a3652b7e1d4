use Rattle.std.proofs.Common.{◌≡◌, Some, None, slice_get, sym, ◌∙◌, inl, arith}
use Rattle.lists.proofs.Places.{slice_get-below}
use Rattle.track_tables.specs.Making.{IsBackAmong}
use Rattle.track_tables.proofs.Backward.{of_more, of_wider}
use Rattle.track_tables.proofs.Going.{come_more}
use Rattle.track_tables.proofs.Growing.{grown_more, grown_same, past}
use Rattle.track_tables.proofs.coming.come_back.Goals as goal

pub loop-mark-init : goal.loop-mark-init
loop-mark-init c = record {
  grown = grown_same c.args.growth.now;
  each = λ k q a events r has. inl has;
  come = λ k q a events r i has from low below is. absurd (omega (arith, low, below));
}

pub loop-mark-preserved : goal.loop-mark-preserved
loop-mark-preserved c =
    let p = c.args.given.now.linked.now in
    let nodes = c.args.given.now.demand.now.nodes in
    let parts = c.args.given.now.parts.now in
    let was = c.loop-mark.invariant in
    let now = c.in_ok-add_back.ensures in
    let first = c.args.growth.now in
    let old = c.loop-mark.growth in
    let new = c.add_back.new.growth in
    let among = rw c.returns.ensures at c.over-returns.ensures in
    let there : slice_get old.marks.keys c.loop-mark.number ≡ Some c.in-Some.mark = sym c.in-Some.ensures.value in
    record {
      grown = grown_more first old new was.grown now.grown;
      each = λ k q a events. of_more p k q a nodes parts.calls (IsBackAmong parts.returns) first.work.rules old.work.rules new.work.rules (was.each k q a events)
          (of_wider p k q a nodes parts.calls (IsBackAmong c.over-returns.result.now) (IsBackAmong parts.returns) old.work.rules new.work.rules
          (λ e r. (r.0, ((among r.0).0 r.1).0, r.2)) (now.each k q a events));
      come = λ k q a events. come_more p k q a nodes parts first old new c.args.at c.args.seen c.loop-mark.number c.in-Some.mark was.grown now.grown there
          (λ r has over from. now.taken k q a events r ((among r).1 (has, over)) from) (was.come k q a events);
    }

pub returns-clause-taken : goal.returns-clause-taken
returns-clause-taken c k q a events r i has from low is =
    let keys = c.loop-mark.growth.marks.keys in
    let none : slice_get keys c.loop-mark.number ≡ None = sym c.mark_at.ensures.value ∙ c.in_default.is in
    c.loop-mark.invariant.come k q a events r i has from low (omega (arith, slice_get-below keys i r.mark is, past keys c.loop-mark.number none)) is
