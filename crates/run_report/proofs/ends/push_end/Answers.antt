use Rattle.std.proofs.Common.{codes, refl, sym, ◌∙◌}
use Rattle.std.proofs.lemmas.Result.{on_ok_weaker}
use Rattle.step_rules.specs.States.{ended, ill_typed, uncaught}
use Rattle.run_report.proofs.Ending.{ended_lines, told_ended, told_ill_typed, told_uncaught}
use Rattle.run_report.proofs.Tellable.{uncaught_there}
use Rattle.run_report.proofs.ends.push_end.Goals as goal

pub returns-in-Ended : goal.returns-in-Ended
returns-in-Ended c =
    let s = c.args.machine.now.state in
    on_ok_weaker c.push_line.result
    (ended_lines c.args.linked.now s ended (codes "end ended") _ _ (told_ended s.ending (sym c.in-Ended.is ∙ c.requires.told)) refl)
    c.push_line.ensures

pub push_uncaught-requires-clause-object : goal.push_uncaught-requires-clause-object
push_uncaught-requires-clause-object c =
    let s = c.args.machine.now.state in
    uncaught_there c.args.linked.now s c.in-Uncaught.object c.requires.tellable
    (told_uncaught s.ending c.in-Uncaught.object (sym c.in-Uncaught.is ∙ c.requires.told))

pub returns-in-Uncaught : goal.returns-in-Uncaught
returns-in-Uncaught c =
    let s = c.args.machine.now.state in
    on_ok_weaker c.push_uncaught.result
    (λ adds. ended_lines c.args.linked.now s (uncaught c.in-Uncaught.object) adds.line _ _
    (told_uncaught s.ending c.in-Uncaught.object (sym c.in-Uncaught.is ∙ c.requires.told)) (adds.line, adds.is_so, refl) adds.grown)
    c.push_uncaught.ensures

pub returns-in-IllTyped : goal.returns-in-IllTyped
returns-in-IllTyped c =
    let s = c.args.machine.now.state in
    on_ok_weaker c.push_line-in-IllTyped.result
    (ended_lines c.args.linked.now s ill_typed (codes "end ill-typed") _ _ (told_ill_typed s.ending (sym c.in-IllTyped.is ∙ c.requires.told)) refl)
    c.push_line-in-IllTyped.ensures
