use Rattle.std.proofs.Common.{◌≡◌, ◌<◌, false, true, refl, sym, ap, subst, ◌∙◌}
use Rattle.weight_laws.specs.declared.rel.Rel.{Rel}
use Rattle.weight_laws.specs.Rel.{rel_domain}
use Rattle.weight_laws.specs.RelLaws.{rel_lawful}
use Rattle.site_events.proofs.Closing.{IsWithin, closed, falls, within_more, within_one}
use Rattle.site_events.proofs.star.closure.Goals as goal

pub loop-step-init : goal.loop-step-init
loop-step-init c = record {
  within = subst (λ (r : Rel). IsWithin c.args.step r) (sym c.one-reach.ensures) (within_one c.args.step);
  next = subst (λ (r : Rel). c.args.step ≡ rel_domain.extend r c.args.step) (sym c.one-reach.ensures) (sym (rel_lawful.one_extend c.args.step c.told.ensures));
}

pub loop-step-smaller : goal.loop-step-smaller
loop-step-smaller c =
    let step = c.args.step in
    let reach = c.loop-step.reach in
    let next = c.loop-step.invariant.next in
    let is : c.combine-reach.result ≡ rel_domain.combine reach (rel_domain.extend reach step) = c.combine-reach.ensures ∙ ap (λ (f : Rel). rel_domain.combine reach f) next in
    subst (λ (r : Rel). rel_domain.height r < rel_domain.height reach) (sym is)
    (falls step c.told.ensures reach c.loop-step.invariant.within.meant
    (λ e. let no : false ≡ true = c.loop-step-test.ensures.1 (subst (λ (f : Rel). rel_domain.combine f reach ≡ reach) (sym next) e) in cc))

pub loop-step-preserved : goal.loop-step-preserved
loop-step-preserved c =
    let step = c.args.step in
    let reach = c.loop-step.reach in
    let is : c.combine-reach.result ≡ rel_domain.combine reach (rel_domain.extend reach step) =
    c.combine-reach.ensures ∙ ap (λ (f : Rel). rel_domain.combine reach f) c.loop-step.invariant.next in
    record {
      within = subst (λ (r : Rel). IsWithin step r) (sym is) (within_more step c.told.ensures reach c.loop-step.invariant.within);
      next = c.extend-further.ensures;
    }

pub returns : goal.returns
returns c =
    let step = c.args.step in
    let reach = c.loop-step.reach in
    let all : rel_domain.combine (rel_domain.extend reach step) reach ≡ reach =
    subst (λ (f : Rel). rel_domain.combine f reach ≡ reach) c.loop-step.invariant.next (c.loop-step-test.ensures.0 refl) in
    closed step c.told.ensures reach c.loop-step.invariant.within all
