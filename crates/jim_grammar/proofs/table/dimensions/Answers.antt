use Rattle.std.proofs.Common.{◌≡◌, suc, ◌-◌, refl, ap, arith}
use Rattle.jim_grammar.specs.Expressions.{UpTo, Shared}
use Rattle.jim_grammar.specs.Grammar.{pair, own, first_own}
use Rattle.jim_grammar.proofs.table.dimensions.Goals as goal

pub returns : goal.returns
returns c =
    let n : c.args.n ≡ suc (c.args.n - 1) = omega arith in
    (c.args.n - 1, ap (λ z. Shared z pair first_own own) n, ap (λ z. UpTo z own) n, refl, refl)
