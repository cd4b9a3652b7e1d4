use Rattle.std.proofs.Common.{◌≡◌, ℕ, Some, ap, ◌∙◌, sym, inl, inr}
use Rattle.lists.proofs.Places.{Has-push}
use Rattle.demand_set.specs.declared.numbered.EdgeAt.{EdgeAt}
use Rattle.track_tables.specs.declared.returns.Return.{Return}
use Rattle.track_tables.proofs.returns.add_return.Goals as goal

pub returns-in_ok-push : goal.returns-in_ok-push
returns-in_ok-push c =
    let edge = c.args.edge in
    let mark = c.in-Some.mark in
    let old = c.args.all.now.items in
    let it : Return = record { edge = edge; mark = mark } in
    rw c.in_ok-push.ensures.items (λ r. (
      (λ has. elim ((Has-push old it r).0 has) [
        | inl was ↦ inl was
        | inr is ↦ inr (ap (λ (x : Return). x.edge) is, (c.in-Some.ensures r.mark).0 (ap Some (sym (ap (λ (x : Return). x.mark) is))))
      ]),
      (λ h. (Has-push old it r).1 (elim h [
        | inl was ↦ inl was
        | inr is ↦
            let its : Some mark ≡ Some r.mark = (c.in-Some.ensures r.mark).1 is.1 in
            let same : r.mark ≡ mark = cc in
            inr (ap (λ (e : EdgeAt). record { edge = e; mark = r.mark }) is.0 ∙ ap (λ (m : ℕ). record { edge = edge; mark = m }) same)
      ])),
    ))

pub returns-in_default : goal.returns-in_default
returns-in_default c = λ r. (
  (λ has. inl has),
  (λ h. elim h [ inl was ↦ was | inr is ↦ absurd (c.in_default.not-Some r.mark ((c.mark_of.ensures r.mark).1 is.1)) ]),
)
