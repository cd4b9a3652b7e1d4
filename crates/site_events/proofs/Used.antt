-- The event statements by event.
use Rattle.std.proofs.Common.{◌≡◌, ℕ, ◌↔◌, Bool, false, List, [], ◌∷◌, ◌++◌, Some, eqb, length, map, slice_get, inl, inr, refl, sym, ap, subst, ◌∙◌}
use Rattle.lists.specs.Lists.{Has}
use Rattle.lists.proofs.Places.{slice_get-pushed, Has-push}
use Rattle.link_program.proofs.Found.{at_map}
use Rattle.lists.specs.declared.groups.Keyed.{Keyed}
use Rattle.lists.specs.Groups.{items_with}
use Rattle.lists.proofs.Joined.{slice_get-mapped}
use Rattle.link_rules.specs.Linked.{LinkedProgram}
use Rattle.link_sites.specs.declared.place.Place.{Place}
use Rattle.link_sites.specs.declared.site.Site.{Site}
use Rattle.spds_rules.specs.declared.node.Node.{Node}
use Rattle.spds_rules.specs.declared.node.Var.{Var}
use Rattle.spds_rules.specs.declared.node.Var.TheVariants.{Local}
use Rattle.spds_rules.specs.Answers.{IsAnswered}
use Rattle.spds_rules.specs.Demand.{Asked}
use Rattle.spds_rules.specs.Nodes.{at}
use Rattle.track_rules.specs.Protocols.{HasRow, ProtocolParts}
use Rattle.site_events.specs.declared.event_statement.EventStatement.{EventStatement}
use Rattle.site_events.specs.EventStatements.{AreEventStatements, IsEventStatement, receiver_node}
use Rattle.site_events.proofs.Calling.{Has-items_with}
use Rattle.track_systems.specs.Events.{IsEventOn}
use Rattle.track_systems.specs.Values.{IsWeight}
use Rattle.weight_laws.specs.declared.rel.Rel.{Rel}
use Rattle.site_events.specs.declared.statement.Statement.{Statement}
use Rattle.site_events.specs.Events.{AreAtPlaces, AreHeldAmong, AreRelations, MayBe, use_of}
use Rattle.site_events.specs.Statements.{before_it, statement_at}

-- what each event does, one more
pub relations_more : (k : ProtocolParts) (relations : List Rel) (event : ℕ) (w : Rel) → length relations ≡ event → AreRelations k relations
    → IsWeight w (λ i j. HasRow k i event j) → AreRelations k (relations ++ w ∷ [])
relations_more k relations event w long old is e v there = elim (slice_get-pushed relations w e v there) [
  | inl a ↦ old e v a
  | inr b ↦ subst (λ (x : Rel). IsWeight x (λ i j. HasRow k i e j)) (sym b.1) (subst (λ (n : ℕ). IsWeight w (λ i j. HasRow k i n j)) (sym (b.0 ∙ long)) is)
]

-- an unraised place is the one before its statement
pub place_before : (c : Place) → c.raised ≡ false → before_it (statement_at c) ≡ c
place_before c unraised = ap (λ (b : Bool). record { method = c.method; index = c.index; raised = b }) (sym unraised)

module _ {X : Type 0} (xs : List X) where
  pub at_none : AreAtPlaces xs [] []
  at_none x = ((λ h. let no = h.1 in absurd cc), (λ h. let no = h.1.1 in absurd cc))

  -- at one place more, where there is one
  pub at_more : (places : List ℕ) (place : ℕ) (found : List X) (x : X) → slice_get xs place ≡ Some x → AreAtPlaces xs places found
      → AreAtPlaces xs (places ++ place ∷ []) (found ++ x ∷ [])
  at_more places place found x there old y = (
    (λ h. elim ((Has-push found x y).0 h) [
      | inl a ↦ let i = (old y).0 a in (i.0, (Has-push places place i.0).1 (inl i.1), i.2)
      | inr e ↦ (place, (Has-push places place place).1 (inr refl), there ∙ ap Some (sym e))
    ]),
    (λ h. (Has-push found x y).1 (elim ((Has-push places place h.0).0 h.1) [
      | inl a ↦ inl ((old y).1 (h.0, a, h.2))
      | inr e ↦ let read = subst (λ (n : ℕ). slice_get xs n ≡ Some y) e h.2 in let same : y ≡ x = cc in inr same
    ])),
  )

  -- and where there is none
  pub at_skip : (places : List ℕ) (place : ℕ) (found : List X) → ((x : X) → slice_get xs place ≡ Some x → ⊥) → AreAtPlaces xs places found
      → AreAtPlaces xs (places ++ place ∷ []) found
  at_skip places place found none old y = (
    (λ h. let i = (old y).0 h in (i.0, (Has-push places place i.0).1 (inl i.1), i.2)),
    (λ h. elim ((Has-push places place h.0).0 h.1) [
      | inl a ↦ (old y).1 (h.0, a, h.2)
      | inr e ↦ absurd (none y (subst (λ (n : ℕ). slice_get xs n ≡ Some y) e h.2))
    ]),
  )

-- those with an event
pub at_event : (uses : List (Keyed ℕ Statement)) (places : List ℕ) (found : List (Keyed ℕ Statement)) → AreAtPlaces uses places found → (event : ℕ) (s : Statement)
    → Has (items_with eqb found event) s ↔ ((i : ℕ) × Has places i × (slice_get uses i ≡ Some (record { key = event; item = s })))
at_event uses places found are event s = (
  (λ h. (are (record { key = event; item = s })).0 ((Has-items_with found event s).0 h)),
  (λ h. (Has-items_with found event s).1 ((are (record { key = event; item = s })).1 h)),
)

module _ (p : LinkedProgram) (k : ProtocolParts) (q : Asked) (a : Site) (statements : List EventStatement) (places : List ℕ)
    (exact : AreEventStatements p k statements) (held : AreHeldAmong p q a statements places) (event : ℕ) (s : Statement) where
  -- a statement at one of the places may be its event
  at_may : (i : ℕ) → Has places i → slice_get (map use_of statements) i ≡ Some (record { key = event; item = s }) → MayBe p k q a event s
  at_may i has there =
      let x = slice_get-mapped use_of statements i (record { key = event; item = s }) there in
      let y = (held i).0 has in
      let first = x.1 in
      let second = y.1 in
      let one : y.0 ≡ x.0 = cc in
      let on : IsEventStatement p k x.0 = (exact.each x.0).0 (i, x.1) in
      let key : x.0.event ≡ event = ap (λ (u : Keyed ℕ Statement). u.key) x.2 in
      let item : statement_at x.0.place ≡ s = ap (λ (u : Keyed ℕ Statement). u.item) x.2 in
      let same : x.0.place ≡ before_it s = sym (place_before x.0.place on.unraised) ∙ ap before_it item in
      let v : Var = Local x.0.receiver in (
        v,
        subst (λ (c : Place). IsEventOn p k c event v) same (subst (λ (e : ℕ). IsEventOn p k x.0.place e v) key on),
        subst (λ (c : Place). IsAnswered p q (at c v) a) same (subst (λ (z : EventStatement). IsAnswered p q (receiver_node z) a) one y.2),
      )

  -- and one that may be an event stands at one
  may_at : MayBe p k q a event s → (i : ℕ) × Has places i × (slice_get (map use_of statements) i ≡ Some (record { key = event; item = s }))
  may_at may =
      let on = may.1 in
      let x : EventStatement = record { place = before_it s; event = event; receiver = on.receiver.0 } in
      let v : may.0 ≡ Local x.receiver = on.receiver.2 in
      let has = (exact.each x).1 (subst (λ (w : Var). IsEventOn p k (before_it s) event w) v on) in
      let answered = subst (λ (w : Var). IsAnswered p q (at (before_it s) w) a) v may.2 in
      (has.0, (held has.0).1 (x, has.1, answered), at_map use_of statements has.0 x has.1)

  -- the statements under an event are those that may be it
  pub under_event : (uses : List (Keyed ℕ Statement)) (listed : List Statement) → uses ≡ map use_of statements
      → Has listed s ↔ ((i : ℕ) × Has places i × (slice_get uses i ≡ Some (record { key = event; item = s }))) → Has listed s ↔ MayBe p k q a event s
  under_event uses listed are found = (
    (λ h. let i = found.0 h in at_may i.0 i.1 (subst (λ (us : List (Keyed ℕ Statement)). slice_get us i.0 ≡ Some (record { key = event; item = s })) are i.2)),
    (λ may. let i = may_at may in found.1 (i.0, i.1, subst (λ (us : List (Keyed ℕ Statement)). slice_get us i.0 ≡ Some (record { key = event; item = s })) (sym are) i.2)),
  )
