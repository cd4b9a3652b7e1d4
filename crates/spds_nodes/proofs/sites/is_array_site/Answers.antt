use Rattle.std.proofs.Common.{true≢false, sym}
use Rattle.spds_nodes.proofs.sites.is_array_site.Goals as goal

pub returns-in-None : goal.returns-in-None
returns-in-None c = rw c.in-New.is (
  (λ yes. absurd (true≢false (sym yes))),
  (λ is. absurd (c.in-None.ensures.none is.1.code is.0 is.1.at)),
)

pub returns-in-None-unraised_code : goal.returns-in-None-unraised_code
returns-in-None-unraised_code c = rw c.in-Nested.is (
  (λ yes. absurd (true≢false (sym yes))),
  (λ is. absurd (c.in-None-unraised_code.ensures.none is.1.code is.0 is.1.at)),
)
