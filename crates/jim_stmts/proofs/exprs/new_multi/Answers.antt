use Rattle.std.proofs.Common.{◌≡◌, ◌-◌, ◌≤◌, length, refl, arith}
use Rattle.jim_stmts.specs.Meanings.{owns_of, sized_of}
use Rattle.jim_stmts.proofs.exprs.new_multi.Goals as goal

pub returns-clause-expr : goal.returns-clause-expr
returns-clause-expr c = λ x r h n.
    let m = x.1.1.1.0 in
    let at_base = c.skip-2.ensures.rest _ _ (c.skip.ensures.rest _ _ h) in
    let at_pairs = c.base-base.ensures.rest x.1.1.0 _ at_base in
    let few : length m.before ≤ 254 = omega (arith, m.few) in
    let dims = c.pairs-dims.ensures.pairs m.before _ at_pairs (λ e. cc) few in
    let at_owns = c.skip-3.ensures.rest _ _ (c.pairs-dims.ensures.rest m.before _ at_pairs (λ e. cc) few) in
    let owns = owns_of m.middle m.after in
    let enough : length owns ≤ 255 - c.pairs-dims.result = omega (arith, m.few, dims) in
    let sizes = c.owns-sizes.ensures.owns owns r at_owns n enough in
    let others : c.owns-sizes.result.others ≡ length owns - sized_of owns = omega (arith, sizes.0, sizes.1) in
    rw (c.base-base.ensures.base x.1.1.0 _ at_base, dims, sizes.0, others) refl

pub returns-clause-rest : goal.returns-clause-rest
returns-clause-rest c = λ x r h n.
    let m = x.1.1.1.0 in
    let at_pairs = c.base-base.ensures.rest x.1.1.0 _ (c.skip-2.ensures.rest _ _ (c.skip.ensures.rest _ _ h)) in
    let few : length m.before ≤ 254 = omega (arith, m.few) in
    let dims = c.pairs-dims.ensures.pairs m.before _ at_pairs (λ e. cc) few in
    let at_owns = c.skip-3.ensures.rest _ _ (c.pairs-dims.ensures.rest m.before _ at_pairs (λ e. cc) few) in
    let owns = owns_of m.middle m.after in
    let enough : length owns ≤ 255 - c.pairs-dims.result = omega (arith, m.few, dims) in
    c.owns-sizes.ensures.rest owns r at_owns n enough
