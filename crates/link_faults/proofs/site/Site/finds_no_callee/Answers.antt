use Rattle.link_faults.specs.AtSite.{names_of, world_of}
use Rattle.link_faults.specs.Parts.{seen_call}
use Rattle.link_faults.specs.Sites.{IsUndeclaredCall}
use Rattle.link_faults.proofs.Placed.{of_call, site_callee, undeclared_call_by}
use Rattle.link_faults.proofs.site.Site.finds_no_callee.Goals as goal

pub finds_none-requires-clause-rows : goal.finds_none-requires-clause-rows
finds_none-requires-clause-rows c =
    (site_callee c.args.self.now c.requires c.in-Some-Some.call c.in-Some-Some.callee c.in-Some-Some.is-0 c.in-Some-Some.is-1).rows

pub finds_none-requires-clause-several : goal.finds_none-requires-clause-several
finds_none-requires-clause-several c =
    (site_callee c.args.self.now c.requires c.in-Some-Some.call c.in-Some-Some.callee c.in-Some-Some.is-0 c.in-Some-Some.is-1).is_several

pub returns-in-Some-Some : goal.returns-in-Some-Some
returns-in-Some-Some c =
    let x = c.args.self.now in
    let call = c.in-Some-Some.call in
    let callee = site_callee x c.requires call c.in-Some-Some.callee c.in-Some-Some.is-0 c.in-Some-Some.is-1 in
    of_call x c.requires call (IsUndeclaredCall (world_of x) (names_of x)) c.finds_none.result c.in-Some-Some.is-0
    (undeclared_call_by (world_of x) (names_of x) (seen_call call) c.in-Some-Some.callee callee c.finds_none.result c.finds_none.ensures)
