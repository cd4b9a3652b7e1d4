-- A word names one list of fields, or lacks one; and a path is either within a budget or over it.
use Rattle.std.proofs.Common.{◌≡◌, ℕ, zero, suc, ◌<◌, List, [], ◌∷◌, Some, slice_get, sym, ◌∙◌, subst, inl, inr}
use Rattle.std.specs.List.{AllZip}
use Rattle.lists.specs.Lists.{IsLeast}
use Rattle.link_rules.specs.Linked.{LinkedProgram}
use Rattle.link_rules.specs.Accessed.{IsFieldNamed}
use Rattle.link_sites.specs.declared.site.Site.{Site}
use Rattle.spds_rules.specs.declared.node.Node.{Node}
use Rattle.demand_set.proofs.Counts.{HasMore-not}
use Rattle.query_core.proofs.Determined.{counts_more}
use Rattle.query_core.proofs.NamedPlaces.{least_one}
use Rattle.boom_words.specs.Fields.{FieldName, cells, named}
use Rattle.boom_words.proofs.Elements.{zip_one}
use Rattle.boom_words.proofs.Parts.{fields_one}
use Rattle.path_query.specs.Fields.{ArePathFields, IsFieldAt, IsNoField, LacksField}
use Rattle.path_query.specs.Paths.{IsPathAffordable, IsPathAnswer, IsPathOver}
use Rattle.path_query.proofs.Asking.{more_too}

module _ (p : LinkedProgram) where
  -- a field has one number
  field_at_one : (name : FieldName) (a b : ℕ) → IsFieldAt p name a → IsFieldAt p name b → a ≡ b
  field_at_one cells a b x y = x ∙ sym y
  field_at_one (named class name) a b x y =
      let same = least_one x.0 y.0 x.1 y.1 in
      least_one a b (subst (λ c. IsLeast (IsFieldNamed p c name) a) same x.2) y.2

  -- a field that has a number is there
  no_field : (name : FieldName) (field : ℕ) → IsFieldAt p name field → IsNoField p name → ⊥
  no_field cells field x y = y
  no_field (named class name) field x (inl none) = none (x.0, x.1.holds)
  no_field (named class name) field x (inr (c, is, none)) =
      let same = least_one x.0 c x.1 is in
      none field (subst (λ k. IsFieldNamed p k name field) same x.2.holds)

  -- each of the names has a number
  number_of : (names : List FieldName) (fields : List ℕ) (i : ℕ) (name : FieldName) → AllZip (IsFieldAt p) names fields → slice_get names i ≡ Some name
      → (field : ℕ) × IsFieldAt p name field
  number_of [] fields i name zip e = cc
  number_of (x ∷ xs) [] i name zip e = absurd zip
  number_of (x ∷ xs) (f ∷ fs) zero name zip e = let same : x ≡ name = cc in (f, subst (λ n. IsFieldAt p n f) same zip.0)
  number_of (x ∷ xs) (f ∷ fs) (suc i) name zip e = number_of xs fs i name zip.1 e

  module _ (word : List ℕ) where
    -- a word names one list of fields
    pub path_fields_one : (a b : List ℕ) → ArePathFields p word a → ArePathFields p word b → a ≡ b
    path_fields_one a b x y =
        let same = fields_one word x.names y.names x.spelled y.spelled in
        zip_one (IsFieldAt p) field_at_one y.names a b (subst (λ names. AllZip (IsFieldAt p) names a) same x.numbers) y.numbers

    -- and then lacks none
    pub fields_there : (fields : List ℕ) → ArePathFields p word fields → LacksField p word → ⊥
    fields_there fields x lacks =
        let same = fields_one word x.names lacks.names x.spelled lacks.spelled in
        let at = number_of lacks.names fields lacks.among.0 lacks.name (subst (λ names. AllZip (IsFieldAt p) names fields) same x.numbers) lacks.among.1 in
        no_field lacks.name at.0 at.1 lacks.none

  module _ (n : Node) (fields : List ℕ) where
    -- the size of an answer's demand is above a budget that the path is over
    pub path_over : (sites : List Site) (demanded budget : ℕ) → IsPathAnswer p n fields sites demanded → IsPathOver p n fields budget → budget < demanded
    path_over sites demanded budget answer over =
        counts_more _ demanded budget answer.size (more_too p n fields over.0 answer.query over.1 answer.asks budget over.2)

    -- a budget that is enough isn't exceeded
    pub path_within : (budget : ℕ) → IsPathAffordable p n fields budget → IsPathOver p n fields budget → ⊥
    path_within budget affordable over =
        HasMore-not budget (more_too p n fields over.0 affordable.0 over.1 affordable.1 budget over.2) affordable.2
