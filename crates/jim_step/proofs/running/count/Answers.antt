use Rattle.std.proofs.Common.{◌∙◌, arith, sym, vec_len}
use Rattle.jim_step.proofs.Founds.{some_length}
use Rattle.jim_step.proofs.Steadies.{choices_of, going}
use Rattle.jim_step.specs.Keeping.{state_in}
use Rattle.jim_step.proofs.running.count.Goals as goal

pub returns : goal.returns
returns c =
    let some = some_length (vec_len c.args.kept.now.frames) (sym c.is_empty.ensures ∙ c.if-is_empty.false) in
    let on = going c.args.linked.now c.args.kept.now c.requires.shape (omega (arith, some)) in
    choices_of c.args.linked.now (state_in c.args.kept.now) on.0 c.planned.result c.count.result on.1 (c.planned.ensures.row on.0 on.1)
    (c.count.ensures.listed c.args.linked.now on.0.top)
