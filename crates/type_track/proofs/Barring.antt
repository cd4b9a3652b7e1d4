-- The findings at an event statement, state by state.
use Rattle.std.proofs.Common.{◌≡◌, ◌↔◌, ◌⊎◌, ℕ, ◌+◌, ◌<◌, ◌≤◌, List, [], ◌∷◌, ◌++◌, length, inl, inr, refl, sym, ap, subst, arith}
use Rattle.std.proofs.lemmas.Bool.{cases_lt}
use Rattle.link_rules.specs.Linked.{LinkedProgram}
use Rattle.link_sites.specs.declared.place.Place.{Place}
use Rattle.link_sites.specs.declared.site.Site.{Site}
use Rattle.site_events.specs.declared.event_statement.EventStatement.{EventStatement}
use Rattle.track_rules.specs.Protocols.{HasRow, ProtocolParts}
use Rattle.track_verdicts.specs.declared.verdict.Finding.{Finding}
use Rattle.weight_laws.specs.declared.rel.Rel.{Rel}
use Rattle.weight_laws.specs.Rel.{Relates}
use Rattle.type_track.specs.Growing.{GrowsBy}
use Rattle.type_track.specs.Findings.{IsBarred, IsKeptBefore}
use Rattle.type_track.proofs.Growing.{grows_more, grows_none, grows_one, grows_same}

-- a finding by its parts
finding_is : (f : Finding) (a : Site) (place : Place) (state event : ℕ) → f.site ≡ a → f.place ≡ place → f.state ≡ state → f.event ≡ event
    → f ≡ record { site = a; place = place; state = state; event = event }
finding_is f a place state event of_site at_place in_state by_event =
    subst (λ (x : Site). f ≡ record { site = x; place = place; state = state; event = event }) of_site
    (subst (λ (x : Place). f ≡ record { site = f.site; place = x; state = state; event = event }) at_place
    (subst (λ (x : ℕ). f ≡ record { site = f.site; place = f.place; state = x; event = event }) in_state
    (subst (λ (x : ℕ). f ≡ record { site = f.site; place = f.place; state = f.state; event = x }) by_event refl)))

module _ (k : ProtocolParts) (a : Site) (s : EventStatement) (relation : Rel) where
  -- those in the states before this one
  abbrev pub IsBarredBelow : ℕ → Finding → Type 0
  IsBarredBelow state f = IsBarred k a s relation f × (f.state < state)

  -- the relation leads to the state, and no row allows the event there
  abbrev pub Bars : ℕ → Type 0
  Bars state = Relates relation 0 state × ((to : ℕ) → HasRow k state s.event to → ⊥)

  -- so it is in the state of a finding
  bars : (f : Finding) (state : ℕ) → IsBarred k a s relation f → f.state ≡ state → Bars state
  bars f state is same = (
    subst (λ (i : ℕ). Relates relation 0 i) same is.leads,
    λ to row. is.no_row to (subst (λ (e : ℕ). HasRow k f.state e to) (sym is.event) (subst (λ (i : ℕ). HasRow k i s.event to) (sym same) row)),
  )

  module _ (p : LinkedProgram) (old : List Finding) where
    pub barred_none : GrowsBy (IsKeptBefore p) (IsBarredBelow 0) old old
    barred_none = grows_none (IsKeptBefore p) old (λ f h. let less = h.1 in omega arith)

    module _ (state : ℕ) (now : List Finding) (grown : GrowsBy (IsKeptBefore p) (IsBarredBelow state) old now) where
      pub barred_skip : (Bars state → ⊥) → GrowsBy (IsKeptBefore p) (IsBarredBelow (state + 1)) old now
      barred_skip not = grows_same (IsKeptBefore p) grown (λ f. (
        (λ h. elim (cases_lt f.state state) [
          | inl less ↦ (h.0, less)
          | inr more ↦ let less = h.1 in absurd (not (bars f state h.0 (omega arith)))
        ]),
        (λ h. let less = h.1 in (h.0, omega arith)),
      ))

      pub barred_more : state < length k.states → Bars state
          → GrowsBy (IsKeptBefore p) (IsBarredBelow (state + 1)) old (now ++ record { site = a; place = s.place; state = state; event = s.event } ∷ [])
      barred_more below is = grows_more (IsKeptBefore p) grown (grows_one (IsKeptBefore p) (λ f. f ≡ new) now new refl (λ f e. e)) before either
        where
          new : Finding
          new = record { site = a; place = s.place; state = state; event = s.event }

          before : (f g : Finding) → IsBarredBelow state f → g ≡ new → IsKeptBefore p f g
          before f g h e =
              subst (IsKeptBefore p f) (sym e) (inr (h.0.site, inr ((ap (λ (x : Place). x.method) h.0.place, ap (λ (x : Place). x.index) h.0.place), h.1)))

          is_new : IsBarred k a s relation new
          is_new = record { site = refl; place = refl; event = refl; below = below; leads = is.0; no_row = is.1 }

          either : (f : Finding) → IsBarredBelow (state + 1) f ↔ (IsBarredBelow state f ⊎ (f ≡ new))
          either f = (
            (λ h. elim (cases_lt f.state state) [
              | inl less ↦ inl (h.0, less)
              | inr more ↦ let less = h.1 in inr (finding_is f a s.place state s.event h.0.site h.0.place (omega arith) h.0.event)
            ]),
            (λ h. elim h [
              | inl was ↦ let less = was.1 in (was.0, omega arith)
              | inr e ↦ subst (IsBarredBelow (state + 1)) (sym e) (is_new, omega arith)
            ]),
          )

      pub barred_all : length k.states ≤ state → GrowsBy (IsKeptBefore p) (IsBarred k a s relation) old now
      barred_all past = grows_same (IsKeptBefore p) grown (λ f. ((λ h. let below = h.below in (h, omega arith)), (λ h. h.0)))
