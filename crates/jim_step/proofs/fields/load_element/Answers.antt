use Rattle.std.proofs.Common.{refl, inl}
use Rattle.jim_step.proofs.fields.load_element.Goals as goal

pub returns-in-Some-clause-row : goal.returns-in-Some-clause-row
returns-in-Some-clause-row c = λ p top.
    let array = rw c.site-site.ensures at (c.is_array.ensures.0 c.if-not-is_array.false) in
    let inner = rw c.site-site.ensures at c.in-Some.ensures.some in
    rw (← c.cells.ensures.cells) (inl (array, (_, inl (c.in-Some.inner, c.args.class, inner, c.requires.class, refl), refl)))
