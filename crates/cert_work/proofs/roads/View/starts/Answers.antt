use Rattle.cert_work.proofs.roads.View.starts.Goals as goal

pub returns : goal.returns
returns c = λ n. rw c.at.ensures (c.requires.starts c.args.site n)
