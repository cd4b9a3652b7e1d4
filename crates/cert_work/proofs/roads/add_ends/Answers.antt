use Rattle.lists.proofs.Places.{IsApart-adds}
use Rattle.cert_work.proofs.Filed.{ends_put}
use Rattle.cert_work.proofs.roads.add_ends.Goals as goal

pub returns-clause-has : goal.returns-clause-has
returns-clause-has c = ends_put c.args.ends.now.keys c.add.new.self.keys c.add-2.new.self.keys c.args.store c.in_ok-add.ensures.keys c.in_ok-add-2.ensures.keys

pub returns-clause-apart : goal.returns-clause-apart
returns-clause-apart c = λ apart. IsApart-adds _ _ _ (IsApart-adds _ _ _ apart c.in_ok-add.ensures.keys) c.in_ok-add-2.ensures.keys
