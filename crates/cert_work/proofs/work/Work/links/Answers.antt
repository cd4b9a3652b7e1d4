use Rattle.cert_work.proofs.work.Work.links.Goals as goal

pub returns : goal.returns
returns c = λ i. rw c.at.ensures (c.requires.links c.args.word i)
