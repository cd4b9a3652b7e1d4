use Rattle.std.proofs.Common.{Some, false}
use Rattle.class_rules.specs.Lookups.{on_path}
use Rattle.link_calls.proofs.Selecting.{found_by_name, several_finds_none}
use Rattle.link_calls.proofs.finding.by_name.Goals as goal

pub returns-in-Some-clause-found : goal.returns-in-Some-clause-found
returns-in-Some-clause-found c =
    let w = c.args.classes.now.world in
    let is = on_path (rw c.tree.ensures.rows at c.in-Some.ensures) in
    found_by_name w c.args.class c.args.key (Some c.in-Some.row) false c.at_one.result is
    ((λ e. cc e), (λ several. absurd (several_finds_none w.rows c.args.class c.args.key c.in-Some.row several is))) c.at_one.ensures
