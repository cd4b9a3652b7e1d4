use Rattle.link_faults.specs.AtSite.{names_of, world_of}
use Rattle.link_faults.specs.Parts.{seen_call}
use Rattle.link_faults.specs.Sites.{IsAmbiguousCall}
use Rattle.link_faults.proofs.Placed.{ambiguous_by, of_call, site_callee}
use Rattle.link_faults.proofs.site.Site.finds_several.Goals as goal

pub returns-in-Some-Some : goal.returns-in-Some-Some
returns-in-Some-Some c =
    let x = c.args.self.now in
    let call = c.in-Some-Some.field-0-0 in
    let callee = site_callee x c.requires call c.in-Some-Some.callee c.in-Some-Some.is-0 c.in-Some-Some.is-1 in
    of_call x c.requires call (IsAmbiguousCall (world_of x) (names_of x)) c.in-Some-Some.callee.several c.in-Some-Some.is-0
    (ambiguous_by (world_of x) (names_of x) (seen_call call) c.in-Some-Some.callee callee)
