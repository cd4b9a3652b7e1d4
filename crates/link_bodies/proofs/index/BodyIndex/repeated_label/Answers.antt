use Rattle.std.proofs.Common.{◌∙◌, ap, subst}
use Rattle.std.specs.Prelude.{ℕ, IfNone, IfSome}
use Rattle.lists.specs.Lists.{IsLeast}
use Rattle.jim_ast.specs.declared.syntax.Body.{Body}
use Rattle.link_bodies.specs.Places.{RepeatsName}
use Rattle.link_bodies.proofs.Again.{none_label, some_label}
use Rattle.link_bodies.proofs.index.BodyIndex.repeated_label.Goals as goal

pub returns-clause-some : goal.returns-clause-some
returns-clause-some c =
    some_label c.args.self.now c.least_repeated.result
    (subst (λ ls. IfSome c.least_repeated.result (IsLeast (RepeatsName ls))) (c.as_slice.ensures ∙ ap (λ (b : Body). b.labels) c.self.view_is) c.least_repeated.ensures.some)

pub returns-clause-none : goal.returns-clause-none
returns-clause-none c =
    none_label c.args.self.now c.least_repeated.result
    (subst (λ ls. IfNone c.least_repeated.result ((i : ℕ) → RepeatsName ls i → ⊥)) (c.as_slice.ensures ∙ ap (λ (b : Body). b.labels) c.self.view_is) c.least_repeated.ensures.none)
