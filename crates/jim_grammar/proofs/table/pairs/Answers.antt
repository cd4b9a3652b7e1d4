use Rattle.std.proofs.Common.{◌≡◌, suc, ◌-◌, refl, ap, arith}
use Rattle.jim_grammar.specs.Expressions.{UpTo}
use Rattle.jim_grammar.specs.Grammar.{pair}
use Rattle.jim_grammar.proofs.table.pairs.Goals as goal

pub returns : goal.returns
returns c =
    let n : c.args.n ≡ suc (c.args.n - 1) = omega arith in
    (c.args.n - 1, ap (λ z. UpTo z pair) n, refl)
