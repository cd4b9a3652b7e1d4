use Rattle.std.proofs.Common.{ℕ, ◌+◌, ◌<◌, arith}
use Rattle.link_rules.specs.declared.code.Code.{Code}
use Rattle.link_rules.specs.declared.code.Code.TheVariants.{NewMulti}
use Rattle.link_rules.specs.Linked.{LinkedMethod, LinkedProgram}
use Rattle.link_rules.specs.WellLinked.{FitsCode, FitsMethod, IsInForm}
use Rattle.link_sites.specs.declared.place.Place.{Place}
use Rattle.link_sites.specs.Sites.{HasLevel, IsUnraised}
use Rattle.jim_step.proofs.Readies.{at_all}
use Rattle.jim_step.proofs.fields.level_within.Goals as goal

-- there are at most 255 levels
level_few : (p : LinkedProgram) (m : LinkedMethod) (level : ℕ) (code : Code) → FitsCode p m code → HasLevel level code → level < 256
level_few p m level (NewMulti to levels) fits has = omega (arith, fits.2, has.1)
level_few p m level _ fits has = absurd has

levels_few : (p : LinkedProgram) (place : Place) (level : ℕ) → IsInForm p → IsUnraised p place (HasLevel level) → level < 256
levels_few p place level form is =
    let at = is.1.at in
    let fits = at_all (FitsMethod p) p.methods place.method at.method form.methods at.there in
    level_few p at.method level is.1.code (at_all (FitsCode p at.method) at.method.code place.index is.1.code fits.codes at.here) is.1.is_so

pub returns-in_err-inner-clause-none : goal.returns-in_err-inner-clause-none
returns-in_err-inner-clause-none c =
    rw c.from_residual.ensures (λ is. let few = levels_few c.args.linked.now c.args.place (c.args.level + 1) c.tell_form.ensures is in c.in_err-inner.ensures (omega (arith, few)))
