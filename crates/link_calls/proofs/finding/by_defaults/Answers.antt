use Rattle.std.proofs.Common.{Some, None, true, false, refl, subst}
use Rattle.class_rules.specs.Lookups.{ambiguous}
use Rattle.link_calls.specs.Selected.{IsSelection}
use Rattle.link_calls.proofs.Selecting.{found_by_name, several_finds_none, told_at}
use Rattle.link_calls.proofs.finding.by_defaults.Goals as goal

pub returns-in-Method : goal.returns-in-Method
returns-in-Method c = λ w key are told off.
    let is = subst (IsSelection w.rows c.args.class key) c.in-Method.is (told_at w c.args.receivers.now c.args.class key c.args.turns.now c.select.result are told c.requires.class off c.select.ensures) in
    found_by_name w c.args.class key (Some c.in-Method.row) false c.at_one.result is
    ((λ e. cc e), (λ several. absurd (several_finds_none w.rows c.args.class key c.in-Method.row several is))) c.at_one.ensures

pub returns-in-Several : goal.returns-in-Several
returns-in-Several c = λ w key are told off.
    let is = subst (IsSelection w.rows c.args.class key) c.in-Several.is (told_at w c.args.receivers.now c.args.class key c.args.turns.now c.select.result are told c.requires.class off c.select.ensures) in
    found_by_name w c.args.class key None true c.at_one-in-Several.result (ambiguous is) ((λ e. is), (λ several. refl)) c.at_one-in-Several.ensures

pub returns-in-Nothing : goal.returns-in-Nothing
returns-in-Nothing c = λ w key are told off.
    let is = subst (IsSelection w.rows c.args.class key) c.in-Nothing.is (told_at w c.args.receivers.now c.args.class key c.args.turns.now c.select.result are told c.requires.class off c.select.ensures) in
    found_by_name w c.args.class key None false c.at_one-in-Nothing.result is.0 ((λ e. cc e), (λ several. absurd (is.1 several))) c.at_one-in-Nothing.ensures
