use Rattle.std.proofs.lemmas.Result.{IfOk-weaker}
use Rattle.jim_link.specs.Rows.{AreCodes, IsCodeOf}
use Rattle.jim_link.proofs.Whole.{are_codes}
use Rattle.jim_link.proofs.rows.code_part.Goals as goal

pub returns : goal.returns
returns c =
    let w = c.args.targets.now.world in
    let made = c.in_ok-made.made in
    IfOk-weaker c.code_of.result (IsCodeOf c.args.rows made) (AreCodes w c.args.initialized.now)
    (λ part is. are_codes w c.args.rows c.args.initialized.now made part c.requires.reached c.in_ok-made.ensures is) c.code_of.ensures
