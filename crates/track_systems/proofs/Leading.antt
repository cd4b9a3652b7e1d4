-- The values of a site's system lead exactly to the states in which objects of the site may be.
use Rattle.std.proofs.Common.{ℕ, ◌<◌, List, refl, sym, subst, inl, inr, arith}
use Rattle.std.specs.Int.{bit_at}
use Rattle.std.proofs.lemmas.Bool.{cases_eq}
use Rattle.link_rules.specs.Linked.{LinkedProgram}
use Rattle.link_sites.specs.declared.place.Place.{Place}
use Rattle.link_sites.specs.declared.site.Site.{Site}
use Rattle.post_star.specs.Derivations.{Combines, both, none, one}
use Rattle.spds_rules.specs.declared.node.Node.{Node}
use Rattle.spds_rules.specs.declared.node.Var.{Var}
use Rattle.spds_rules.specs.Demand.{Asked}
use Rattle.track_rules.specs.Protocols.{ProtocolParts}
use Rattle.track_systems.specs.Events.{Goes}
use Rattle.track_systems.specs.Laws.{AnyValuesLead, IsAmongSixteen, ValuesLead}
use Rattle.track_systems.specs.Track.{Tracks}
use Rattle.track_systems.specs.Track as track
use Rattle.track_systems.specs.Values.{Derives, DerivesAny}
use Rattle.track_systems.specs.Values as values
use Rattle.track_systems.specs.Weights.{Across, Anywhere, Changes, Owns, Sends}
use Rattle.track_systems.specs.Weights as weights
use Rattle.track_systems.proofs.Few.{changes_few, owns_few, sends_few, tracks_few}
use Rattle.track_systems.proofs.Weighing.{CanBe, weight_can_be}
use Rattle.weight_laws.specs.declared.rel.Rel.{Rel}
use Rattle.weight_laws.specs.Law.{Leq}
use Rattle.weight_laws.specs.Rel.{HasMeaning, Relates, rel_domain}

module _ (meaning : HasMeaning) where
  -- what a combination leads to, one of its weights does
  one_leads : (kind : Rel → Type 0) {v : Rel} → Combines rel_domain kind v → (i j : ℕ) → i < 16 → Relates v i j → (w : Rel) × kind w × Relates w i j
  one_leads kind none = λ i j low h. absurd (meaning.zero i j low h)
  one_leads kind (one {x} is) = λ i j low h. (x, is, h)
  one_leads kind (both {x} {y} first second) = λ i j low h. elim ((meaning.combine x y i j low).0 h) [
    | inl left ↦ one_leads kind first i j low left
    | inr right ↦ one_leads kind second i j low right
  ]

  -- and what a weight leads to, each above it does
  above_leads : (x v : Rel) → Leq rel_domain x v → (i j : ℕ) → i < 16 → Relates x i j → Relates v i j
  above_leads x v above i j low h = subst (λ (w : Rel). Relates w i j) above ((meaning.combine x v i j low).1 (inl h))

  -- where a weight that can be leads, a value above it does
  leads_at_last : (v : Rel) (i j : ℕ) → CanBe (Relates v i j) → Relates v i j
  leads_at_last v i j can = elim (cases_eq (bit_at _ j) 1) [ inl holds ↦ holds | inr fails ↦ absurd (can fails) ]

  module _ (p : LinkedProgram) (k : ProtocolParts) (q : Asked) (a : Site) where
    -- a derivation leads to states that are tracked
    pub derived : {n : Node} {string : List Place} {w : Rel} → Derives p k q a n string w → (i : ℕ) → i < 16 → Relates w 0 i → Tracks p k q a n string i
    derived (values.fresh {n} {string} start made is_string) = λ i low h.
        let is = (meaning.one 0 i (omega arith)).0 h in
        subst (λ (j : ℕ). Tracks p k q a n string j) (sym is) (track.fresh start made is_string)
    derived (values.constant start not_made is_string weight) = λ i low h.
        track.constant start not_made is_string ((weight.each 0 i (omega arith) low).0 h)
    derived (values.loaded edge is_loaded answered is_string weight) = λ i low h.
        track.loaded edge is_loaded answered is_string ((weight.each 0 i (omega arith) low).0 h)
    derived (values.flows {x} {w} edge d weight) = λ i low h.
        let over = (meaning.extend x w 0 i (omega arith)).0 h in
        track.flows edge (derived d over.0 over.1 over.2) ((weight.each over.0 i over.1 low).0 over.3)
    derived (values.enters {x} {w} edge d weight) = λ i low h.
        let over = (meaning.extend x w 0 i (omega arith)).0 h in
        track.enters edge (derived d over.0 over.1 over.2) ((weight.each over.0 i over.1 low).0 over.3)
    derived (values.leaves {b} {n} {call} {string} {x} edge d) = λ i low h.
        let over = (meaning.extend x rel_domain.one 0 i (omega arith)).0 h in
        let is = (meaning.one over.0 i over.1).0 over.3 in
        subst (λ (j : ℕ). Tracks p k q a n string j) (sym is) (track.leaves edge (derived d over.0 over.1 over.2))

    module _ (few : IsAmongSixteen k) where
      -- a derivation that leads there
      abbrev IsDerived : Node → List Place → ℕ → Type 0
      IsDerived n string i = (w : Rel) × Derives p k q a n string w × Relates w 0 i

      -- what is tracked can be derived
      pub tracked : {n : Node} {string : List Place} {i : ℕ} → Tracks p k q a n string i → CanBe (IsDerived n string i)
      tracked (track.fresh start made is) = λ fails.
          fails (rel_domain.one, values.fresh start made is, (meaning.one 0 0 (omega arith)).1 refl)
      tracked (track.constant {i} start made is sends) = λ fails. weight_can_be (Sends p k q a Anywhere) (λ w.
          fails (w.0, values.constant start made is w.1, (w.1.each 0 i (omega arith) (sends_few p k q a few (omega arith) sends)).1 sends))
      tracked (track.loaded {i} edge is_loaded answered is sends) = λ fails. weight_can_be (Sends p k q a Anywhere) (λ w.
          fails (w.0, values.loaded edge is_loaded answered is w.1, (w.1.each 0 i (omega arith) (sends_few p k q a few (omega arith) sends)).1 sends))
      tracked (track.flows {b} {n} {string} {i} {j} edge tracks changes) = λ fails. tracked tracks (λ d. weight_can_be (Changes p k q a b n) (λ w.
          let low = tracks_few p k q a few tracks in
          let step : Relates w.0 i j = (w.1.each i j low (changes_few p k q a few low changes)).1 changes in
          fails (rel_domain.extend d.0 w.0, values.flows edge d.1 w.1, (meaning.extend d.0 w.0 0 j (omega arith)).1 (i, low, d.2, step))))
      tracked (track.enters {b} {n} {call} {string} {i} {j} edge tracks owns) = λ fails. tracked tracks (λ d. weight_can_be (Owns p k q a call b.var) (λ w.
          let low = tracks_few p k q a few tracks in
          let step : Relates w.0 i j = (w.1.each i j low (owns_few p k q a few low owns)).1 owns in
          fails (rel_domain.extend d.0 w.0, values.enters edge d.1 w.1, (meaning.extend d.0 w.0 0 j (omega arith)).1 (i, low, d.2, step))))
      tracked (track.leaves {i} edge tracks) = λ fails. tracked tracks (λ d.
          let low = tracks_few p k q a few tracks in
          let step : Relates rel_domain.one i i = (meaning.one i i low).1 refl in
          fails (rel_domain.extend d.0 rel_domain.one, values.leaves edge d.1, (meaning.extend d.0 rel_domain.one 0 i (omega arith)).1 (i, low, d.2, step)))

  pub values_leading : ValuesLead
  values_leading p k q a n string v i few low is = (
    λ h. let found = one_leads (Derives p k q a n string) is.finite 0 i (omega arith) h in derived p k q a found.1 i low found.2,
    λ tracks. leads_at_last v 0 i (λ fails. tracked p k q a few tracks (λ d. fails (above_leads d.0 v (is.above d.0 d.1) 0 i (omega arith) d.2))),
  )

  pub any_values_leading : AnyValuesLead
  any_values_leading p k q a n v i few low is = (
    λ h.
        let found = one_leads (DerivesAny p k q a n) is.finite 0 i (omega arith) h in
        (found.1.0, derived p k q a found.1.1 i low found.2),
    λ tracks. leads_at_last v 0 i (λ fails. tracked p k q a few tracks.1
        (λ d. fails (above_leads d.0 v (is.above d.0 (tracks.0, d.1)) 0 i (omega arith) d.2))),
  )
