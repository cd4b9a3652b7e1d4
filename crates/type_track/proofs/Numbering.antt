-- Event statements with the numbers of their receivers.
use Rattle.std.proofs.Common.{◌≡◌, ◌<◌, ℕ, false, List, [], ◌∷◌, ◌++◌, Some, length, slice_get, inl, inr, refl, sym, ap, ◌∙◌, subst}
use Rattle.std.proofs.lemmas.List.{map-append}
use Rattle.lists.specs.Lists.{Has}
use Rattle.lists.proofs.Places.{slice_get-below, Has-push}
use Rattle.lists.proofs.Joined.{slice_get-mapped}
use Rattle.spds_rules.specs.declared.node.Node.{Node}
use Rattle.site_events.specs.declared.event_statement.EventStatement.{EventStatement}
use Rattle.site_events.specs.EventStatements.{receiver_node}
use Rattle.type_track.specs.declared.receivers.Receiver.{Receiver}
use Rattle.type_track.specs.Receivers.{AreReceivers, IsNumbered, numbers_of}

module _ (nodes : List Node) where
  pub receivers_none : AreReceivers nodes [] []
  receivers_none = record { in_order = refl; numbered = λ r has. cc has.1 }

  -- one more
  pub receivers_more : (statements : List EventStatement) (receivers : List Receiver) (r : Receiver) → AreReceivers nodes statements receivers → IsNumbered nodes r
      → AreReceivers nodes (statements ++ r.statement ∷ []) (receivers ++ r ∷ [])
  receivers_more statements receivers r are is = record {
    in_order = map-append (λ (x : Receiver). x.statement) receivers (r ∷ []) ∙ ap (λ (ss : List EventStatement). ss ++ r.statement ∷ []) are.in_order;
    numbered = λ x has. elim ((Has-push receivers r x).0 has) [ inl was ↦ are.numbered x was | inr e ↦ subst (IsNumbered nodes) (sym e) is ];
  }

  -- their numbers are those of nodes
  pub receivers_below : (statements : List EventStatement) (receivers : List Receiver) → AreReceivers nodes statements receivers → (number : ℕ) → Has (numbers_of receivers) number
      → number < length nodes
  receivers_below statements receivers are number has =
      let r = slice_get-mapped (λ (x : Receiver). x.node) receivers has.0 number has.1 in
      slice_get-below nodes number (receiver_node r.0.statement) (subst (λ (n : ℕ). slice_get nodes n ≡ Some (receiver_node r.0.statement)) r.2 (are.numbered r.0 (has.0, r.1)))

-- what is read where no receiver is
abbrev pub no_receiver : Receiver
no_receiver = record { statement = record { place = record { method = 0; index = 0; raised = false }; event = 0; receiver = 0 }; node = 0 }
