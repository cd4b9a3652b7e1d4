use Rattle.cert_make.proofs.Ascending.{sorted_copy, sorted_has}
use Rattle.cert_make.proofs.needs.needs_of.Goals as goal

pub invariant_of-result : goal.invariant_of-result
invariant_of-result c =
    sorted_copy _ _ _ _ c.keys.ensures.value c.in_ok-numbers.ensures.items c.sort_unstable.ensures.permutation c.keys.ensures.apart c.in_ok-found.ensures.few c.sort_unstable.ensures.sorted

pub returns-clause-exact : goal.returns-clause-exact
returns-clause-exact c = λ number.
    let same = sorted_has _ _ _ _ c.keys.ensures.value c.in_ok-numbers.ensures.items c.sort_unstable.ensures.permutation number in
    let is = c.in_ok-found.ensures.exact number in (
      λ has. is.0 (same.0 has),
      λ need. same.1 (is.1 need),
    )

pub returns-clause-ascending : goal.returns-clause-ascending
returns-clause-ascending c =
    sorted_copy _ _ _ _ c.keys.ensures.value c.in_ok-numbers.ensures.items c.sort_unstable.ensures.permutation c.keys.ensures.apart c.in_ok-found.ensures.few c.sort_unstable.ensures.sorted
