-- A word is one protocol, or it is none for one reason.
use Rattle.std.proofs.Common.{◌≡◌, ℕ, ◌<◌, List, length, refl, sym, ap, ◌∙◌, subst, arith}
use Rattle.std.proofs.lemmas.List.{length-map}
use Rattle.lists.proofs.Places.{slice_get-below}
use Rattle.link_rules.specs.Accessed.{linked_class_names}
use Rattle.link_rules.specs.Linked.{LinkedProgram}
use Rattle.protocol_words.specs.declared.error.ProtocolError.{ProtocolError}
use Rattle.protocol_words.specs.declared.error.ProtocolError.TheVariants as protocol
use Rattle.protocol_words.specs.Laws.{IsOutcome, Outcome, breaks_at, crowds_at, is_protocol, lacks_class}
use Rattle.protocol_words.proofs.Outcomes.{outcome_one}
use Rattle.track_rules.specs.Protocols.{IsProtocolOf, ProtocolParts}
use Rattle.boom_top.specs.Typestates.{IsNoProtocolFor}

-- what a word is that is no protocol
abbrev outcome_of : ProtocolError → Outcome
outcome_of (protocol.NotProtocol at) = breaks_at at
outcome_of (protocol.TooManyStates at) = crowds_at at
outcome_of protocol.UnknownClass = lacks_class
outcome_of protocol.NoMemory = lacks_class

-- and why it is none
abbrev error_of : Outcome → ProtocolError
error_of (is_protocol k) = protocol.NoMemory
error_of (breaks_at at) = protocol.NotProtocol at
error_of (crowds_at at) = protocol.TooManyStates at
error_of lacks_class = protocol.UnknownClass

module _ (p : LinkedProgram) (word : List ℕ) where
  is_outcome : (e : ProtocolError) → IsNoProtocolFor p word e → IsOutcome p word (outcome_of e)
  is_outcome (protocol.NotProtocol at) x = x
  is_outcome (protocol.TooManyStates at) x = x
  is_outcome protocol.UnknownClass x = x
  is_outcome protocol.NoMemory x = absurd x

  is_error : (e : ProtocolError) → IsNoProtocolFor p word e → error_of (outcome_of e) ≡ e
  is_error (protocol.NotProtocol at) x = refl
  is_error (protocol.TooManyStates at) x = refl
  is_error protocol.UnknownClass x = refl
  is_error protocol.NoMemory x = absurd x

  -- a word that is no protocol is so for one reason
  pub no_protocol_one : (e f : ProtocolError) → IsNoProtocolFor p word e → IsNoProtocolFor p word f → e ≡ f
  no_protocol_one e f x y =
      sym (is_error e x) ∙ ap error_of (outcome_one p word (outcome_of e) (outcome_of f) (is_outcome e x) (is_outcome f y)) ∙ is_error f y

  -- a word that is a protocol isn't none
  pub protocol_there : (k : ProtocolParts) (e : ProtocolError) → IsProtocolOf p word k → IsNoProtocolFor p word e → ⊥
  protocol_there k e x y =
      let same : protocol.NoMemory ≡ e = ap error_of (outcome_one p word (is_protocol k) (outcome_of e) x (is_outcome e y)) ∙ is_error e y in
      subst (IsNoProtocolFor p word) (sym same) y

  -- and is one
  pub protocol_one : (j k : ProtocolParts) → IsProtocolOf p word j → IsProtocolOf p word k → j ≡ k
  protocol_one j k x y = let same = outcome_one p word (is_protocol j) (is_protocol k) x y in cc

  -- its class is one of the program
  pub protocol_class : (k : ProtocolParts) → IsProtocolOf p word k → k.class < length p.classes
  protocol_class k x =
      let below = slice_get-below (linked_class_names p.classes) k.class x.named.class x.class.holds in
      omega (arith, below, length-map p.classes (λ c. c.name))
