use Rattle.std.proofs.Common.{◌+◌, ◌-◌, rules, arith}
use Rattle.batch_join.specs.Told.{AreTold}
use Rattle.batch_join.proofs.Joined.{told_both}
use Rattle.batch_join.proofs.asking.+parts.Goals as goal

pub returns : goal.returns
returns g t c =
    let tells = g.A.Ask.tells c.args.asked.now in
    let part = c.args.part in
    let half = c.div_ceil-half.result in
    let rest = part.count - half in
    let middle = part.first + half in
    let texts = c.in_ok-texts.texts.items in
    let behind = c.in_ok-behind.field-0.items in
    let front : AreTold tells part.first half texts = search rules in
    let back : AreTold tells middle rest behind = search rules in
    rw c.in_ok-append.ensures.items (told_both tells part.first half rest middle part.count texts behind (omega arith) (omega arith) front back)
