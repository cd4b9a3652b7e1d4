use Rattle.std.proofs.Common.{◌++◌, List, ℕ, OnOk, ap, subst, sym, ◌∙◌}
use Rattle.lists.specs.Grown.{IsGrownBy}
use Rattle.lists.specs.Lists.{Has}
use Rattle.cert_make.specs.Needs.{numbers_of}
use Rattle.cert_make.proofs.Found.{grown_on_both}
use Rattle.cert_make.proofs.needs.add_cited.Goals as goal

pub returns-in_ok-add_all-in-Shared : goal.returns-in_ok-add_all-in-Shared
returns-in_ok-add_all-in-Shared c =
    let old = c.args.found.now.keys in
    let now = c.add_all-in-Shared.new.found.keys in
    let new = c.add_all-in-Shared-2.new.found.keys in
    let first = c.as_slice.result.now in
    let second = c.as_slice-in-Shared.result.now in
    let cited =
    ap (λ (xs : List ℕ). xs ++ second) c.as_slice.ensures ∙ ap (λ (xs : List ℕ). c.in-Shared.first ++ xs) c.as_slice-in-Shared.ensures ∙ sym (ap numbers_of c.in-Shared.is) in
    subst (λ (xs : List ℕ). OnOk c.add_all-in-Shared-2.result (IsGrownBy (Has xs) old new)) cited
    (grown_on_both c.add_all-in-Shared-2.result first second old now new c.in_ok-add_all-in-Shared.ensures c.add_all-in-Shared-2.ensures)
