use Rattle.std.proofs.Common.{◌≡◌, ◌-◌, ◌∷◌, drop, length, take, ap, sym, ◌∙◌, arith}
use Rattle.batch_lines.specs.Queries.{lines_in}
use Rattle.batch_lines.proofs.Spelled.{lines_last, lines_next}
use Rattle.batch_lines.proofs.queries.first_line.Goals as goal

pub returns-in-Some-clause-first : goal.returns-in-Some-clause-first
returns-in-Some-clause-first c = lines_next c.args.text.now c.in-Some.cut.0.now c.in-Some.cut.1.now c.in-Some.ensures.some c.in-Some.ensures.first

pub returns-in-None-clause-first : goal.returns-in-None-clause-first
returns-in-None-clause-first c =
    let none : length c.args.text.now - length c.args.text.now ≡ 0 = omega arith in
    lines_last c.args.text.now c.requires c.in-None.ensures.none
    ∙ ap (λ n. c.args.text.now ∷ lines_in (take n (drop (length c.args.text.now) c.args.text.now))) (sym none)
