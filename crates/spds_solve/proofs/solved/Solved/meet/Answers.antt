use Rattle.spds_solve.proofs.solved.Solved.meet.Goals as goal

pub returns : goal.returns
returns c =
    rw (← c.self.view_is) (λ p q d o b s solved object base store.
    let same = solved.numbered (record { object = c.args.object; base = c.args.base; store = c.args.store }) o b s object base store in
    ((λ h. same.0 (c.contains.ensures.0 h)), (λ h. c.contains.ensures.1 (same.1 h))))
