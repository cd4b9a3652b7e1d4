use Rattle.std.proofs.Common.{◌≡◌, Some, ap, inl, inr, map, slice_get, string_bytes, subst, sym, ◌∙◌}
use Rattle.std.specs.BTreeMap.{get_by_text}
use Rattle.jim_ast.specs.Notes.{IsNoted}
use Rattle.jim_ast.proofs.names.Names.number.Goals as goal

pub returns-clause-value : goal.returns-clause-value
returns-clause-value c =
    let inside = c.self.inside in
    let looked : c.copied.result ≡ get_by_text inside.others c.args.text.now = c.copied.ensures ∙ c.get.ensures.value ∙ ap (get_by_text inside.others) c.as_text.ensures in
    λ i. rw (looked, ← c.self.view_is) (
      λ h. c.self.invariant.1.sound c.args.text.now i h,
      λ h. elim (c.self.invariant.1.each i c.args.text.now h) [
        | inl noted ↦ absurd (c.find.ensures.missed c.in_default.is i (subst (λ k. IsNoted inside.notes.slots.items k i) (sym c.hash_of.ensures) noted)
            (subst (λ ts. slice_get (map string_bytes ts) i ≡ Some c.args.text.now) (sym c.deref.ensures.value) h))
        | inr other ↦ other
      ],
    )
