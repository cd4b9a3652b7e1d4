use Rattle.std.proofs.Common.{◌+◌, ◌-◌, None, ap, get_or, subst, ◌∙◌, arith}
use Rattle.object_ranges.specs.Marks.{IsLeastOf, StandsIn, earlier}
use Rattle.lists.proofs.Elements.{same_read}
use Rattle.object_ranges.proofs.Heaped.{least_further, least_nowhere, least_placed}
use Rattle.object_ranges.proofs.Leasts.{earlier_none}
use Rattle.object_ranges.proofs.minima.Minima.least.Goals as goal

pub loop-low-init : goal.loop-low-init
loop-low-init c = record {
  within = omega (arith, c.min-2.ensures);
  some = λ h. omega (arith, h, c.min.ensures, c.min-2.ensures);
  told = λ o is. subst (λ xs. IsLeastOf (StandsIn xs c.args.from c.args.to) o) c.self.view_is
      (least_placed c.self.inside.count c.self.inside.nodes.items c.args.from c.args.to _ _ c.self.invariant.len
      (ap (λ k. c.self.inside.count + k) c.min.ensures) (ap (λ k. c.self.inside.count + k) c.min-2.ensures) o is);
}

pub loop-low-preserved : goal.loop-low-preserved
loop-low-preserved c =
    let at = c.loop-low in
    let some = at.invariant.some c.loop-low-test.true in
    let nodes = c.self.inside.nodes.items in
    let first = c.index.ensures ∙ same_read nodes at.low _ None (omega (arith, c.loop-low-test.true, at.invariant.within, c.self.invariant.len)) in
    let last = c.index-in-loop-low.ensures ∙ same_read nodes (at.high - 1) _ None (omega (arith, c.loop-low-test.true, at.invariant.within, c.self.invariant.len)) in
    let ends = c.earlier.ensures ∙ ap (λ x. earlier x c.index-in-loop-low.result.now) first ∙ ap (earlier (get_or nodes at.low None)) last in
    record {
      within = omega (arith, at.invariant.within);
      some = λ h. omega (arith, some);
      told = least_further c.self.inside.count c.self.inside.nodes.items c.self.invariant.lesser at.low at.high some c.loop-low-test.true at.invariant.within
          at.least c.earlier-least.result (StandsIn c.args.self.now c.args.from c.args.to) (c.earlier-least.ensures ∙ ap (earlier at.least) ends) at.invariant.told;
    }

pub returns : goal.returns
returns c =
    let at = c.loop-low in
    subst (IsLeastOf (StandsIn c.args.self.now c.args.from c.args.to)) (earlier_none at.least) (at.invariant.told None (least_nowhere c.self.inside.nodes.items at.low at.high c.loop-low-test.false))
