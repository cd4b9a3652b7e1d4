use Rattle.std.proofs.Common.{◌≡◌, ℕ, List, [], ◌∷◌, ◌++◌, Option, None, Some, sym, ap, ◌∙◌, arith}
use Rattle.lists.proofs.Places.{slice_get-below, slice_get-read}
use Rattle.site_events.specs.declared.statement.Statement.{Statement}
use Rattle.site_events.proofs.Told.{one_number, raised_as, raised_new, raised_old}
use Rattle.site_events.proofs.relations.Relations.raise.Goals as goal

pub index-requires : goal.index-requires
index-requires c =
    let at = (c.find.ensures c.in-Some.number).0 c.in-Some.is in
    let below = slice_get-below c.self.inside.statements.keys c.in-Some.number c.args.statement at in
    omega (arith, below, c.self.invariant)

pub index_mut-requires : goal.index_mut-requires
index_mut-requires c =
    let at = (c.find.ensures c.in-Some.number).0 c.in-Some.is in
    let below = slice_get-below c.self.inside.statements.keys c.in-Some.number c.args.statement at in
    omega (arith, below, c.self.invariant)

pub returns-in-Some : goal.returns-in-Some
returns-in-Some c =
    let number = c.in-Some.number in
    let keys = c.self.inside.statements.keys in
    let relations = c.self.inside.relations.items in
    let at = (c.find.ensures number).0 c.in-Some.is in
    let below = slice_get-below keys number c.args.statement at in
    rw (← c.self.view_is)
    (raised_old keys relations c.self.invariant c.args.statement c.args.relation number c.index.result.now c.combine-raised.result c.combine-raised.ensures at
    (λ j there. one_number c.find.result number j c.in-Some.is ((c.find.ensures j).1 there))
    (slice_get-read relations number c.index.result.now (omega (arith, below, c.self.invariant)) c.index.ensures) c.told-in-Some.ensures)

absent : (o : Option ℕ) (i : ℕ) → o ≡ None → o ≡ Some i → ⊥
absent o i a b = let no : None ≡ Some i = sym a ∙ b in cc

pub returns : goal.returns
returns c =
    let keys = c.self.inside.statements.keys in
    let relations = c.self.inside.relations.items in
    rw (← c.self.view_is)
    (raised_as (record { statements = keys; relations = relations }) (λ x. x ≡ c.args.statement) c.args.relation (c.put.ensures.keys ∙ ap (λ (xs : List Statement). xs ++ c.args.statement ∷ []) c.room.ensures.keys)
    c.in_ok-push.ensures.items
    (raised_new keys relations c.self.invariant c.args.statement c.args.relation c.told.ensures (λ j there. absent c.find.result j c.in_default.is ((c.find.ensures j).1 there))))
