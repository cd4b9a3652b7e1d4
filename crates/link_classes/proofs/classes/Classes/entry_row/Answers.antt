use Rattle.std.proofs.Common.{◌≡◌, ℕ, Some, refl, sym, ap, subst, ◌∙◌}
use Rattle.link_rules.specs.Reach.{DeclaresBody}
use Rattle.link_rules.specs.Refusals.{IsEntry}
use Rattle.link_rules.specs.Root.{main_key}
use Rattle.link_classes.specs.Held.{world_of}
use Rattle.link_classes.specs.Seen.{seen_methods}
use Rattle.link_classes.proofs.HeldFacts.{if_none, if_some, single_named}
use Rattle.link_classes.proofs.classes.Classes.entry_row.Goals as goal

pub returns-clause-some : goal.returns-clause-some
returns-clause-some c =
    let w = world_of c.self.inside.order c.self.inside.tree c.self.inside.entry.now in
    let of_order = sym c.self.invariant.methods ∙ ap seen_methods (sym c.as_slice.ensures.value) in
    let body = c.declared_body.ensures w main_key refl of_order c.self.invariant.main in
    rw (← c.self.view_is) (if_some c.declared_body.result (IsEntry w) (λ row e. record { class = c.in_ok-class.class; named = c.in_ok-class.ensures.holds; declares = (body row).0 e }))

pub returns-clause-none : goal.returns-clause-none
returns-clause-none c =
    let w = world_of c.self.inside.order c.self.inside.tree c.self.inside.entry.now in
    let of_order = sym c.self.invariant.methods ∙ ap seen_methods (sym c.as_slice.ensures.value) in
    let body = c.declared_body.ensures w main_key refl of_order c.self.invariant.main in
    rw (← c.self.view_is) (if_none c.declared_body.result ((row : ℕ) → IsEntry w row → ⊥) (λ e row entry.
    let named : Some c.in_ok-class.class ≡ Some entry.class = (single_named w c.self.invariant.sound c.self.inside.entry.now (Some c.in_ok-class.class) c.in_ok-class.ensures entry.class).1 entry.named in
    let same : entry.class ≡ c.in_ok-class.class = cc (named) in
    let found : c.declared_body.result ≡ Some row = (body row).1 (subst (λ k. DeclaresBody w k main_key row) same entry.declares) in
    cc (e, found)))
