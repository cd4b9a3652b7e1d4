use Rattle.std.proofs.Common.{inl, inr, refl}
use Rattle.cert_trace.proofs.filing.file_met.Goals as goal

pub returns-clause-settled : goal.returns-clause-settled
returns-clause-settled c =
    inr ((λ everywhere. c.in_default.not-Some everywhere.0 ((c.find.ensures everywhere.0).1 everywhere.1)), (c.in_ok-add-2.ensures.has c.args.pairing c.args.store).1 (inr (refl, refl)))

pub returns-clause-kept : goal.returns-clause-kept
returns-clause-kept c = λ o base s filed. (c.in_ok-add-2.ensures.has (record { object = o; base = base }) s).1 (inl filed)
