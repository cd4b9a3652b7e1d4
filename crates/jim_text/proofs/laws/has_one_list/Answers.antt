use Rattle.jim_text.proofs.ReadLemmas.{read_same, end_none, stop_no_list}
use Rattle.jim_text.proofs.laws.has_one_list.Goals as goal

pub returns-clause-list : goal.returns-clause-list
returns-clause-list c bytes one two a b = (read_same a (end_none bytes) b (end_none bytes)).1

pub returns-clause-stop : goal.returns-clause-stop
returns-clause-stop c bytes one two a b = (read_same a.reached a.stuck b.reached b.stuck).0

pub returns-clause-either : goal.returns-clause-either
returns-clause-either c bytes at stop = stop_no_list stop
