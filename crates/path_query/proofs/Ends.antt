-- The ends of fields, field by field.
use Rattle.std.proofs.Common.{◌≡◌, ◌↔◌, ℕ, ◌+◌, ◌<◌, List, [], ◌∷◌, ◌++◌, length, take, get_or, sym, subst}
use Rattle.std.proofs.lemmas.List.{take_more}
use Rattle.link_rules.specs.Linked.{LinkedProgram}
use Rattle.link_sites.specs.declared.site.Site.{Site}
use Rattle.spds_rules.specs.declared.node.Node.{Node}
use Rattle.spds_rules.specs.Answers.{IsAnswered}
use Rattle.spds_rules.specs.Demand.{Asked, SiteIn}
use Rattle.spds_rules.specs.Systems.{Meets}
use Rattle.spds_laws.proofs.Within.{fields_site}
use Rattle.demand_set.specs.Demands.{DemandParts, IsDemandOf}
use Rattle.path_query.specs.Numbers.{AreNumbersOf, IsAmong}
use Rattle.path_query.specs.Paths.{IsAtPath, IsBehind, IsBehindAll}
use Rattle.path_query.proofs.Numbering.{numbers_as}

module _ (p : LinkedProgram) (q : Asked) where
  -- what is answered is a site of the demand
  pub answered_site : (n : Node) (o : Site) → IsAnswered p q n o → SiteIn p q o
  answered_site n o answered = fields_site p q (Meets p q) o answered.0

  -- a site behind those with a fact is behind those with what follows from it
  pub behind_as : (P Q : Site → Type 0) → ((o : Site) → P o → Q o) → (field : ℕ) (o : Site) → IsBehind p q P field o → IsBehind p q Q field o
  behind_as P Q to field o h = record { base = h.base; from = to h.base h.from; store = h.store; of_field = h.of_field; hops = h.hops }

  -- the end of one field more is behind the end of those before it
  pub at_end_last : (P : Site → Type 0) (word : List ℕ) (field : ℕ) (o : Site) → IsBehindAll p q P (word ++ field ∷ []) o ↔ IsBehind p q (IsBehindAll p q P word) field o
  at_end_last P [] field o = ((λ h. h), (λ h. h))
  at_end_last P (first ∷ word) field o = at_end_last (IsBehind p q P first) word field o

  -- what is at an end is a site of the demand
  at_end_site : (P : Site → Type 0) → ((o : Site) → P o → SiteIn p q o) → (word : List ℕ) (o : Site) → IsBehindAll p q P word o → SiteIn p q o
  at_end_site P to [] o h = to o h
  at_end_site P to (first ∷ word) o h = at_end_site (IsBehind p q P first) (λ x b. answered_site b.store.arg x b.hops.arg) word o h

  pub path_site : (n : Node) (word : List ℕ) (o : Site) → IsAtPath p q n word o → SiteIn p q o
  path_site n word o h = at_end_site (IsAnswered p q n) (λ x a. answered_site n x a) word o h

  -- the numbers of the sites at the end of one field more
  pub ends_more : (d : DemandParts) → IsDemandOf p q d → (n : Node) (fields : List ℕ) (i x : ℕ) → i < length fields → (numbers new : List ℕ)
      → AreNumbersOf d.sites (IsAtPath p q n (take i fields)) numbers → AreNumbersOf d.sites (IsBehind p q (IsAmong d.sites numbers) (get_or fields i x)) new
      → AreNumbersOf d.sites (IsAtPath p q n (take (i + 1) fields)) new
  ends_more d demand n fields i x below numbers new before behind =
      numbers_as d.sites (IsBehind p q (IsAmong d.sites numbers) (get_or fields i x)) (IsAtPath p q n (take (i + 1) fields)) new
      (λ o h. subst (λ (word : List ℕ). IsAtPath p q n word o) (sym (take_more fields i x below))
      ((at_end_last (IsAnswered p q n) (take i fields) (get_or fields i x) o).1 (behind_as (IsAmong d.sites numbers) (IsAtPath p q n (take i fields)) among (get_or fields i x) o h)))
      (λ o h. behind_as (IsAtPath p q n (take i fields)) (IsAmong d.sites numbers) numbered (get_or fields i x) o
      ((at_end_last (IsAnswered p q n) (take i fields) (get_or fields i x) o).0 (subst (λ (word : List ℕ). IsAtPath p q n word o) (take_more fields i x below) h))) behind
    where
      among : (o : Site) → IsAmong d.sites numbers o → IsAtPath p q n (take i fields) o
      among o h =
          let was = (before.each h.0).0 h.1 in
          let same : was.0 ≡ o = cc (was.1, h.2) in
          subst (IsAtPath p q n (take i fields)) same was.2

      numbered : (o : Site) → IsAtPath p q n (take i fields) o → IsAmong d.sites numbers o
      numbered o h =
          let there = (demand.sites.each o).1 (path_site n (take i fields) o h) in
          (there.0, (before.each there.0).1 (o, there.1, h), there.1)
