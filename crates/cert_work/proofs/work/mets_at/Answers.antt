use Rattle.cert_work.proofs.work.mets_at.Goals as goal

pub returns-else-at_end : goal.returns-else-at_end
returns-else-at_end c = λ i. ((λ has. let h = has.1 in cc), (λ has. let yes = c.requires i has in absurd (cc (yes, c.if-at_end.false))))
