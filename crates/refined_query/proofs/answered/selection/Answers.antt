use Rattle.refined_query.proofs.Chosen.{stays_is}
use Rattle.refined_query.proofs.answered.selection.Goals as goal

pub returns-in_ok-chosen-in-Some : goal.returns-in_ok-chosen-in-Some
returns-in_ok-chosen-in-Some g c = λ target.
    let p = c.args.linked.now in
    let some = rw c.in-Some.is at c.in_ok-sites.ensures.some in
    let within = rw c.in-Some.is at c.in_ok-sites.ensures.within in
    let found = c.in_ok-chosen-in-Some.ensures target in
    let is = rw c.deref.ensures.value at found in
    stays_is p c.args.budget c.args.node c.args.class c.args.key target c.in-Some.sites.items c.in_ok-chosen-in-Some.field-0.keys some within is
