use Rattle.std.proofs.Common.{ℕ, List, IsTrue, subst}
use Rattle.std.specs.Prelude.{◌↔◌}
use Rattle.lists.specs.Lists.{Has}
use Rattle.link_faults.specs.AtSite.{names_of, world_of}
use Rattle.link_faults.specs.Parts.{seen_call}
use Rattle.link_faults.specs.Sites.{IsNativeRow, RunsNative}
use Rattle.link_faults.proofs.Placed.{native_by, of_call, site_callee}
use Rattle.link_faults.proofs.site.Site.runs_native.Goals as goal

pub returns-in-Some-Some : goal.returns-in-Some-Some
returns-in-Some-Some c =
    let x = c.args.self.now in
    let call = c.in-Some-Some.field-0-0 in
    let callee = site_callee x c.requires call c.in-Some-Some.callee c.in-Some-Some.is-0 c.in-Some-Some.is-1 in
    let found = subst (λ (rows : List ℕ). IsTrue c.has_native.result ↔ ((row : ℕ) × Has rows row × IsNativeRow (world_of x) row)) c.as_slice.ensures.value c.has_native.ensures in
    of_call x c.requires call (RunsNative (world_of x) (names_of x)) c.has_native.result c.in-Some-Some.is-0
    (native_by (world_of x) (names_of x) (seen_call call) c.in-Some-Some.callee callee c.has_native.result found)
