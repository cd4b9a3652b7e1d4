-- The turns of the search.
use Rattle.std.proofs.Common.{◌≡◌, ℕ, zero, suc, ◌<◌, ◌≤◌, ◌++◌, All, List, [], ◌∷◌, length, map, take, Some, sym, ap, ◌∙◌, subst, inl, inr, length-append, arith}
use Rattle.std.specs.List.{flat_map}
use Rattle.std.proofs.lemmas.Bool.{cases_eq}
use Rattle.std.proofs.Math.Seq.{take-append_seam}
use Rattle.std.proofs.lemmas.List.{append-nil, length-map, map-append, take-append-le}
use Rattle.demand_set.proofs.Counts.{length-IsApart}
use Rattle.lists.specs.Lists.{Has, IsApart}
use Rattle.link_laws.proofs.Lists.{all_at, at_all, map_at}
use Rattle.link_rules.specs.Linked.{LinkedProgram}
use Rattle.link_sites.specs.declared.site.Site.{Site}
use Rattle.spds_solve.specs.declared.met.Met.{Met}
use Rattle.spds_solve.specs.Mets.{numbers, numbers_of}
use Rattle.spds_solve.specs.Searches.{AllSettled, AreFoundBy, IsCandidate, IsComplete, IsGrown}
use Rattle.spds_solve.proofs.Numbering.{has_numbers, numbered}
use Rattle.spds_solve.proofs.Whole.{found_inside}
use Rattle.spds_tables.proofs.Lists.{Has-flat_map}
use Rattle.spds_tables.specs.declared.numbered.Met.{Met as Numbers}
use Rattle.spds_tables.specs.declared.parts.Parts.{Parts}
use Rattle.spds_tables.specs.declared.tables.SiteTables.{SiteTables}
use Rattle.spds_tables.specs.Parts.{IsInParts}
use Rattle.lists.proofs.Joined.{Has-either}

module _ (p : LinkedProgram) (sites : List Site) (parts : Parts) (old new : List Met) (tables : List SiteTables) (settled : AllSettled parts (numbers_of old) tables)
    (grown : IsGrown p sites parts tables old new) where
  -- what is found in a turn is in range
  pub turn_inside : All (IsInParts parts) (numbers_of old) → All (IsInParts parts) (numbers_of new)
  turn_inside all = all_at (IsInParts parts) (numbers_of new) (λ i m there.
      let met = numbered new m (i, there) in
      let inside : IsInParts parts (numbers met.0) = elim (Has-either old grown.behind met.0 (subst (λ (xs : List Met). Has xs met.0) grown.are met.1)) [
        | inl a ↦ let has = has_numbers old met.0 a in at_all (IsInParts parts) (numbers_of old) has.0 (numbers met.0) all has.1
        | inr b ↦ found_inside p sites parts (numbers_of old) tables settled met.0 (grown.each met.0 b)
      ] in
      subst (IsInParts parts) (sym met.2) inside)

  -- and is found over what was there before
  pub turn_found : AreFoundBy p sites parts old → AreFoundBy p sites parts new
  turn_found found = AreFoundBy.more old tables found settled grown

  -- where nothing is, nothing is missing
  pub turn_complete : ((m : Numbers) → m.store < length parts.stores.items → IsCandidate p sites parts tables m → Has (numbers_of new) m)
      → length new ≤ length old → AreFoundBy p sites parts old → IsComplete p sites parts tables new
  turn_complete all short found =
      let same = nothing grown.behind grown.are short in
      record {
        settled = subst (λ (xs : List Met). AllSettled parts (numbers_of xs) tables) (sym same) settled;
        found = turn_found found;
        closed = all;
      }
    where
      nothing : (behind : List Met) → new ≡ old ++ behind → length new ≤ length old → new ≡ old
      nothing [] e short = e ∙ append-nil old
      nothing (m ∷ behind) e short = absurd (let l = ap length e in omega (arith, l, length-append old (m ∷ behind)))

-- the numbers below one
abbrev pub below : ℕ → List ℕ
below zero = []
below (suc n) = n ∷ below n

has_below : (n k : ℕ) → k < n → Has (below n) k
has_below zero k low = absurd (omega arith)
has_below (suc n) k low = elim (cases_eq k n) [ inl e ↦ (0, ap Some (sym e)) | inr ne ↦ (let h = has_below n k (omega arith) in (suc h.0, h.1)) ]

-- all meets that there may be
abbrev pub all_mets : ℕ → ℕ → List Numbers
all_mets sites stores =
    flat_map (λ o. flat_map (λ b. map (λ s. record { object = o; base = b; store = s }) (below stores)) (below sites)) (below sites)

met_among : (sites stores : ℕ) (m : Numbers) → m.object < sites → m.base < sites → m.store < stores → Has (all_mets sites stores) m
met_among sites stores m object base store =
    let s = has_below stores m.store store in
    Has-flat_map (λ o. flat_map (λ b. map (λ s. record { object = o; base = b; store = s }) (below stores)) (below sites)) (below sites) m.object m
    (has_below sites m.object object)
    (Has-flat_map (λ b. map (λ s. record { object = m.object; base = b; store = s }) (below stores)) (below sites) m.base m (has_below sites m.base base)
    (s.0, map_at (λ (s : ℕ). record { object = m.object; base = m.base; store = s }) (below stores) s.0 m.store s.1))

-- there are no more meets than these
pub mets_few : (parts : Parts) (mets : List Met) → IsApart (numbers_of mets) → All (IsInParts parts) (numbers_of mets)
    → length mets ≤ length (all_mets (length parts.starts.items) (length parts.stores.items))
mets_few parts mets apart all =
    let few = length-IsApart (numbers_of mets) (all_mets (length parts.starts.items) (length parts.stores.items)) apart
    (λ m has. let h = at_all (IsInParts parts) (numbers_of mets) has.0 m all has.1 in
    met_among (length parts.starts.items) (length parts.stores.items) m h.object h.base h.store) in
    omega (arith, few, length-map mets numbers)

-- the meets before a turn are the front of those after it
pub front_before : (old new : List Met) → (behind : List Met) × (new ≡ old ++ behind) → take (length old) (numbers_of new) ≡ numbers_of old
front_before old new behind =
    ap (λ (xs : List Met). take (length old) (numbers_of xs)) behind.1 ∙ ap (take (length old)) (map-append numbers old behind.0)
    ∙ ap (λ (n : ℕ). take n (numbers_of old ++ numbers_of behind.0)) (sym (length-map old numbers)) ∙ take-append_seam (numbers_of old) (numbers_of behind.0)

-- a front of the meets stays where they grow
pub front_kept : (old new : List Met) → (behind : List Met) × (new ≡ old ++ behind) → (n : ℕ) → n ≤ length old → take n (numbers_of new) ≡ take n (numbers_of old)
front_kept old new behind n low =
    ap (λ (xs : List Met). take n (numbers_of xs)) behind.1 ∙ ap (take n) (map-append numbers old behind.0)
    ∙ take-append-le n (numbers_of old) (numbers_of behind.0) (omega (arith, length-map old numbers))
