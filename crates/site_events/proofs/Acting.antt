-- What a statement does, by the class and the key that it calls by.
use Rattle.std.proofs.Common.{◌≡◌, ℕ, ◌<◌, Some, length, slice_get, sym, ap, subst}
use Rattle.lists.specs.Lists.{Has}
use Rattle.link_rules.specs.declared.code.Code.{Code}
use Rattle.link_rules.specs.Linked.{LinkedKey, LinkedMethod, LinkedProgram}
use Rattle.link_rules.specs.WellLinked.{FitsCode}
use Rattle.track_rules.specs.Protocols.{IsProtocol, ProtocolParts}
use Rattle.track_runs.specs.Events.{CallsEvent, HasBelow, IsEventCall}
use Rattle.track_systems.specs.Events.{receiver_of}
use Rattle.site_events.specs.declared.call.CallOn.{CallOn}
use Rattle.site_events.specs.EventStatements.{IsCallOn, IsTheAct}

module _ (p : LinkedProgram) (k : ProtocolParts) (code : Code) (call : CallOn) (on : IsCallOn code call) where
  -- the event of the call
  pub calls_event : (event : ℕ) → IsEventCall p k event code → CallsEvent p k event call.class call.key
  calls_event event is = subst (λ (d : Code). IsEventCall p k event d) on.is is

  pub not_below : (HasBelow p k.class call.class → ⊥) → (event : ℕ) → IsEventCall p k event code → ⊥
  not_below none event is = none (calls_event event is).below

  -- its key and its class are there
  pub key_there : (m : LinkedMethod) → FitsCode p m code → (key : LinkedKey) × (slice_get p.keys call.key ≡ Some key)
  key_there m fits = let of_call = subst (λ (d : Code). FitsCode p m d) on.is fits in (of_call.3.1, of_call.3.2)

  pub class_there : (m : LinkedMethod) → FitsCode p m code → call.class < length p.classes
  class_there m fits = let of_call = subst (λ (d : Code). FitsCode p m d) on.is fits in of_call.1

  module _ (key : LinkedKey) (there : slice_get p.keys call.key ≡ Some key) where
    -- its name
    named : (event : ℕ) → IsEventCall p k event code → slice_get k.events event ≡ Some key.name
    named event is =
        let calls = calls_event event is in
        let other = calls.there in
        let same : calls.methods ≡ key = cc in
        subst (λ (m : LinkedKey). slice_get k.events event ≡ Some m.name) same calls.named

    pub not_named : (Has k.events key.name → ⊥) → (event : ℕ) → IsEventCall p k event code → ⊥
    not_named none event is = none (event, named event is)

    pub is_the_act : (event : ℕ) → IsProtocol k → slice_get k.events event ≡ Some key.name → HasBelow p k.class call.class
        → IsTheAct p k code (record { event = event; receiver = call.receiver })
    is_the_act event form at below = record {
      is = (
        subst (λ (d : Code). IsEventCall p k event d) (sym on.is) (record { methods = key; there = there; named = at; below = below }),
        ap receiver_of on.is,
      );
      one = λ other receiver act. (
        form.events other event key.name (named other act.0) at,
        let first = act.1 in let second : receiver_of code ≡ Some call.receiver = ap receiver_of on.is in let e : receiver ≡ call.receiver = cc in e,
      );
    }
