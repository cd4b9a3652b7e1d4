-- Of which weight what calls themselves do is, and what a flow does.
use Rattle.std.proofs.Common.{◌≡◌, ◌↔◌, ◌⊎◌, inl, inr, ℕ, ◌<◌, false, true, Some, slice_get, refl, sym, ap, subst, ◌∙◌}
use Rattle.link_rules.specs.declared.code.Code.TheVariants as code
use Rattle.link_rules.specs.Linked.{LinkedMethod, LinkedProgram}
use Rattle.link_sites.specs.declared.place.Place.{Place}
use Rattle.link_sites.specs.declared.site.Site.{Site}
use Rattle.spds_nodes.proofs.Statements.{CodeAt-one}
use Rattle.spds_rules.specs.declared.node.Node.{Node}
use Rattle.spds_rules.specs.declared.node.Var.{Var}
use Rattle.spds_rules.specs.Demand.{Asked}
use Rattle.spds_rules.specs.Edges.{Passes}
use Rattle.track_rules.specs.Protocols.{ProtocolParts}
use Rattle.track_systems.specs.Events.{Goes, IsReceiver}
use Rattle.track_systems.specs.Laws.{IsAmongSixteen}
use Rattle.track_systems.specs.Settled.{CallAt, IsKept, IsPassedTo, IsSettled, IsUnsettled, PassesAt, is_settled}
use Rattle.track_systems.specs.Values.{IsWeight}
use Rattle.track_systems.specs.Weights.{Across, Changes, InFlight, May, Owns, Sends, Within}
use Rattle.track_systems.specs.Weights as weights
use Rattle.track_systems.proofs.Few.{owns_few}
use Rattle.weight_laws.specs.declared.rel.Rel.{Rel}
use Rattle.weight_laws.specs.Rel.{rel_domain}
use Rattle.site_events.specs.Passed.{HasOtherReceiver}
use Rattle.site_events.proofs.Weighed.{weight_either, weight_one, weight_same, weight_then, weight_zero}

-- one call stands at a place, so what is passed there is the same
module _ {p : LinkedProgram} {c : Place} (x y : CallAt p c) (v : Var) where
  same_call : (x.receiver ≡ y.receiver) × (x.args ≡ y.args) × (x.targets ≡ y.targets)
  same_call =
      let same = CodeAt-one p c.method c.index (code.Call x.to x.mode x.class x.key x.receiver x.args x.targets)
      (code.Call y.to y.mode y.class y.key y.receiver y.args y.targets) x.here y.here in
      (cc (same), cc (same), cc (same))

  same_passes : (position : Var) → PassesAt x v position → PassesAt y v position
  same_passes position passes =
      let same = same_call in
      (passes.0, passes.1, subst (λ r. Passes r y.args v position) same.0 (subst (λ a. Passes x.receiver a v position) same.1 passes.2))

  same_passed : (position : Var) (method : LinkedMethod) → IsPassedTo x v position method → IsPassedTo y v position method
  same_passed position method is = record {
    passes = same_passes position is.passes;
    target = is.target;
    has = subst (λ ts. (i : ℕ) × (slice_get ts i ≡ Some is.target)) same_call.2 is.has;
    there = is.there;
  }

module _ {p : LinkedProgram} {c : Place} (x y : CallAt p c) (v : Var) where
  -- a variable is of one of the three kinds
  kept_unsettled : IsKept x v → IsUnsettled y v → ⊥
  kept_unsettled kept is = kept is.position (same_passes y x v is.position is.passed.passes)

  kept_settled : IsKept x v → IsSettled y v → ⊥
  kept_settled kept is = kept is.position (same_passes y x v is.position is.passes)

  settled_unsettled : IsSettled x v → IsUnsettled y v → ⊥
  settled_unsettled settled is =
      let holds = settled.all is.position is.method (same_passed y x v is.position is.method is.passed) in
      let fails = is.unsettled in
      cc (holds, fails)

module _ (p : LinkedProgram) (k : ProtocolParts) (q : Asked) (a : Site) where
  module _ (c : Place) (v : Var) where
    -- where no event may come, each state stays
    owns_stays : (May p k q a c → ⊥) → {i j : ℕ} → Owns p k q a c v i j → j ≡ i
    owns_stays not (weights.never h) = refl
    owns_stays not (weights.other h) = refl
    owns_stays not (weights.event may goes) = absurd (not may)

    pub owns_never : (May p k q a c → ⊥) → IsWeight rel_domain.one (Owns p k q a c v)
    owns_never not = weight_same weight_one (λ i j low small. (λ same. subst (Owns p k q a c v i) (sym same) (weights.never not), owns_stays not))

    -- on the receiver where one may come, it does
    owns_goes : May p k q a c → IsReceiver p c v → {i j : ℕ} → Owns p k q a c v i j → Goes p k c i j
    owns_goes may is (weights.never h) = absurd (h may)
    owns_goes may is (weights.other h) = absurd (h is)
    owns_goes may is (weights.event m goes) = goes

    pub owns_receiver : {w : Rel} → May p k q a c → IsReceiver p c v → IsWeight w (Goes p k c) → IsWeight w (Owns p k q a c v)
    owns_receiver may is weight = weight_same weight (λ i j low small. (λ goes. weights.event may goes, owns_goes may is))

    -- on another variable it does, or doesn't
    owns_either : May p k q a c → {i j : ℕ} → Owns p k q a c v i j → Goes p k c i j ⊎ (j ≡ i)
    owns_either may (weights.never h) = absurd (h may)
    owns_either may (weights.other h) = inr refl
    owns_either may (weights.event m goes) = inl goes

    pub owns_other : {w : Rel} → May p k q a c → (IsReceiver p c v → ⊥) → IsWeight w (Goes p k c)
        → IsWeight (rel_domain.combine w rel_domain.one) (Owns p k q a c v)
    owns_other may not weight = weight_same (weight_either weight weight_one) (λ i j low small. (
      λ e. elim e [ inl goes ↦ weights.event may goes | inr same ↦ subst (Owns p k q a c v i) (sym same) (weights.other not) ],
      owns_either may,
    ))

    pub across_weight : {x y : Rel} → IsAmongSixteen k → IsWeight x (Owns p k q a c v) → IsWeight y (Sends p k q a (Within p c))
        → IsWeight (rel_domain.extend x y) (Across p k q a c v)
    across_weight few first second = weight_same (weight_then first second) (λ i j low small. (
      λ h. record { between = h.0; owns = h.2; inside = h.3 },
      λ h. (h.between, owns_few p k q a few low h.owns, h.owns, h.inside),
    ))

  module _ (b n : Node) where
    changes_elsewhere : (CallAt p b.place → ⊥) → {i j : ℕ} → Changes p k q a b n i j → j ≡ i
    changes_elsewhere not (weights.elsewhere h) = refl
    changes_elsewhere not (weights.kept call h over) = absurd (not call)
    changes_elsewhere not (weights.unsettled call h over) = absurd (not call)
    changes_elsewhere not (weights.unsettled_null call h flies) = absurd (not call)
    changes_elsewhere not (weights.settled_null call h flies is apart) = absurd (not call)

    pub elsewhere_weight : (CallAt p b.place → ⊥) → IsWeight rel_domain.one (Changes p k q a b n)
    elsewhere_weight not = weight_same weight_one (λ i j low small. (
      λ same. subst (Changes p k q a b n i) (sym same) (weights.elsewhere not),
      changes_elsewhere not,
    ))

    module _ (call : CallAt p b.place) where
      changes_kept : IsKept call b.var → {i j : ℕ} → Changes p k q a b n i j → Across p k q a b.place b.var i j
      changes_kept is (weights.elsewhere h) = absurd (h call)
      changes_kept is (weights.kept other h over) = over
      changes_kept is (weights.unsettled other h over) = over
      changes_kept is (weights.unsettled_null other h flies) = absurd (kept_unsettled call other b.var is h)
      changes_kept is (weights.settled_null other h flies of apart) = absurd (kept_settled call other b.var is h)

      pub kept_weight : {w : Rel} → IsKept call b.var → IsWeight w (Across p k q a b.place b.var) → IsWeight w (Changes p k q a b n)
      kept_weight is weight = weight_same weight (λ i j low small. (λ over. weights.kept call is over, changes_kept is))

      changes_unsettled : IsUnsettled call b.var → {i j : ℕ} → Changes p k q a b n i j → Across p k q a b.place b.var i j ⊎ (InFlight b n × (j ≡ i))
      changes_unsettled is (weights.elsewhere h) = absurd (h call)
      changes_unsettled is (weights.kept other h over) = inl over
      changes_unsettled is (weights.unsettled other h over) = inl over
      changes_unsettled is (weights.unsettled_null other h flies) = inr (flies, refl)
      changes_unsettled is (weights.settled_null other h flies of apart) = absurd (settled_unsettled other call b.var h is)

      pub unsettled_weight : {w : Rel} → IsUnsettled call b.var → (InFlight b n → ⊥) → IsWeight w (Across p k q a b.place b.var)
          → IsWeight w (Changes p k q a b n)
      unsettled_weight is not weight = weight_same weight (λ i j low small. (
        λ over. weights.unsettled call is over,
        λ changes. elim (changes_unsettled is changes) [ inl over ↦ over | inr flight ↦ absurd (not flight.0) ],
      ))

      pub unsettled_flight_weight : {w : Rel} → IsUnsettled call b.var → InFlight b n → IsWeight w (Across p k q a b.place b.var)
          → IsWeight (rel_domain.combine w rel_domain.one) (Changes p k q a b n)
      unsettled_flight_weight is flies weight = weight_same (weight_either weight weight_one) (λ i j low small. (
        λ e. elim e [
          | inl over ↦ weights.unsettled call is over
          | inr same ↦ subst (Changes p k q a b n i) (sym same) (weights.unsettled_null call is flies)
        ],
        λ changes. elim (changes_unsettled is changes) [ inl over ↦ inl over | inr flight ↦ inr flight.1 ],
      ))

      changes_settled : IsSettled call b.var → {i j : ℕ} → Changes p k q a b n i j → InFlight b n × HasOtherReceiver p b.place b.var × (j ≡ i)
      changes_settled is (weights.elsewhere h) = absurd (h call)
      changes_settled is (weights.kept other h over) = absurd (kept_settled other call b.var h is)
      changes_settled is (weights.unsettled other h over) = absurd (settled_unsettled call other b.var is h)
      changes_settled is (weights.unsettled_null other h flies) = absurd (settled_unsettled call other b.var is h)
      changes_settled is (weights.settled_null {receiver} other h flies of apart) = (flies, (receiver, of, apart), refl)

      pub settled_flight_weight : IsSettled call b.var → InFlight b n → HasOtherReceiver p b.place b.var → IsWeight rel_domain.one (Changes p k q a b n)
      settled_flight_weight is flies has = weight_same weight_one (λ i j low small. (
        λ same. subst (Changes p k q a b n i) (sym same) (weights.settled_null call is flies has.1 has.2),
        λ changes. (changes_settled is changes).2,
      ))

      pub settled_weight : IsSettled call b.var → (InFlight b n → HasOtherReceiver p b.place b.var → ⊥) → IsWeight rel_domain.zero (Changes p k q a b n)
      settled_weight is not = weight_same weight_zero (λ i j low small. (
        λ none. absurd none,
        λ changes. let h = changes_settled is changes in not h.0 h.1,
      ))
