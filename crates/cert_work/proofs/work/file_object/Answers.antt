use Rattle.std.proofs.Common.{inl, inr}
use Rattle.cert_work.proofs.work.file_object.Goals as goal

pub returns-in_ok-add : goal.returns-in_ok-add
returns-in_ok-add c = λ k i.
    let are = c.in_ok-add.ensures.has k i in (
      (λ has. elim (are.0 has) [ inl was ↦ inl was | inr e ↦ inr (c.if-at_end.true, e.0, e.1) ]),
      (λ is. elim is [ inl was ↦ are.1 (inl was) | inr e ↦ are.1 (inr (e.1, e.2)) ]),
    )
