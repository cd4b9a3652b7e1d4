-- Meets that rest on those before them.
use Rattle.std.proofs.Common.{◌≡◌, ℕ, zero, suc, ◌<◌, ◌≤◌, List, [], ◌∷◌, ◌++◌, length, take, Some, slice_get, sym, ap, ◌∙◌, subst, arith}
use Rattle.std.proofs.lemmas.List.{take-map}
use Rattle.lists.specs.Lists.{Has}
use Rattle.lists.proofs.Places.{slice_get-append_left, slice_get-below}
use Rattle.link_laws.proofs.Lists.{at_map, map_at}
use Rattle.link_rules.specs.Linked.{LinkedProgram}
use Rattle.link_sites.specs.declared.site.Site.{Site}
use Rattle.spds_laws.proofs.Found.{slice_get-taken}
use Rattle.spds_laws.proofs.More.{stores_more}
use Rattle.spds_laws.specs.Found.{AreFound, Listed, Triple}
use Rattle.spds_rules.specs.declared.node.Node.{Node}
use Rattle.spds_rules.specs.declared.store.StoreAt.{StoreAt}
use Rattle.spds_rules.specs.Demand.{Asked}
use Rattle.spds_rules.specs.Systems.{InCalls, MayStore, StoresUnder}
use Rattle.spds_solve.specs.declared.met.Met.{Met}
use Rattle.spds_solve.specs.Mets.{numbers, numbers_of, string_of}
use Rattle.spds_solve.proofs.Numbering.{numbered_within, string_of-marks}
use Rattle.spds_tables.proofs.Exact.{strings_are, words_spelt}
use Rattle.spds_tables.specs.declared.numbered.Met.{Met as Numbers}
use Rattle.spds_tables.specs.declared.parts.Parts.{Parts}
use Rattle.spds_tables.specs.declared.tables.SiteTables.{SiteTables}
use Rattle.spds_tables.specs.Names.{AreNames, Names}
use Rattle.spds_tables.specs.Parts.{call_cell}
use Rattle.spds_tables.specs.PartsOf.{AreParts}
use Rattle.spds_tables.specs.Systems.{Reaches}
use Rattle.spds_tables.specs.Tables.{AreSettled}
use Rattle.spds_tables.specs.Triples.{IsInRange, MetIn, triple_of, triples_of}

-- a word that the tables of a site derive has the marks of a string of the site
pub calls_spelt : (p : LinkedProgram) (q : Asked) (names : Names) → (are : AreNames p q names) → (parts : Parts) → (of : AreParts p q names parts) → (site : ℕ) (o : Site)
    → (here : slice_get names.sites site ≡ Some o) → (mets : List Numbers) → (inside : (m : Numbers) → Has mets m → IsInRange names m) → (t : SiteTables)
    → (settled : AreSettled parts site mets t) → (number : ℕ) (n : Node) (word : List ℕ) → slice_get names.nodes number ≡ Some n
    → Reaches t.calls (call_cell parts number) word → InCalls p q (MetIn names mets) o n (string_of names.calls word)
calls_spelt p q names are parts of site o here mets inside t settled number n word there reaches =
    let string = words_spelt p q names are parts of site o here mets inside t settled number word reaches in
    subst (InCalls p q (MetIn names mets) o n) (sym (string_of-marks names.calls word string.0 string.1))
    ((strings_are p q names are parts of site o here mets inside t settled number n word string.0 there string.1).0 reaches)

-- what stands in the front of a list
pub slice_get-front : {X : Type 0} (n : ℕ) (xs : List X) (i : ℕ) (x : X) → i < n → slice_get xs i ≡ Some x → slice_get (take n xs) i ≡ Some x
slice_get-front zero xs i x low there = absurd (omega arith)
slice_get-front (suc n) [] i x low there = cc
slice_get-front (suc n) (y ∷ xs) zero x low there = there
slice_get-front (suc n) (y ∷ xs) (suc i) x low there = slice_get-front n xs i x (omega arith) there

-- a front of a list that grows
pub front_kept : {X : Type 0} (xs behind : List X) (n : ℕ) (x : X) → Has (take n xs) x → Has (take n (xs ++ behind)) x
front_kept xs behind n x has =
    let t = slice_get-taken n xs has.0 x has.1 in
    (has.0, slice_get-front n (xs ++ behind) has.0 x t.0 (slice_get-append_left xs behind has.0 x t.1))

-- the old list is in the front of the new one
pub old_front : {X : Type 0} (xs behind : List X) (n : ℕ) (x : X) → length xs ≤ n → Has xs x → Has (take n (xs ++ behind)) x
old_front xs behind n x low has =
    (has.0, slice_get-front n (xs ++ behind) has.0 x (let below = slice_get-below xs has.0 x has.1 in omega arith) (slice_get-append_left xs behind has.0 x has.1))

module _ (p : LinkedProgram) (q : Asked) where
  module _ (names : Names) where
    -- the triples of a list are among those of one that has its meets
    pub listed_within : (few more : List Met) → ((met : Met) → Has few met → Has more met) → (o base : Site) (s : StoreAt)
        → MetIn names (numbers_of few) o base s → MetIn names (numbers_of more) o base s
    listed_within few more within o base s has =
        let t : Triple = record { object = o; base = base; store = s } in
        let at = at_map (triple_of names) (numbers_of few) has.0 t has.1 in
        let there = numbered_within few more within at.0 (has.0, at.1) in
        subst (Has (triples_of names (numbers_of more))) (sym at.2) (there.0, map_at (triple_of names) (numbers_of more) there.0 at.0 there.1)

    -- the meet may be stored under its string, over some meets
    abbrev pub StoresOver : List Met → Met → Type 0
    StoresOver mets met =
        StoresUnder p q (MetIn names (numbers_of mets)) (triple_of names (numbers met)).object (triple_of names (numbers met)).base
        (triple_of names (numbers met)).store met.string

    -- over a list that has those meets
    pub stores_within : (few more : List Met) → ((met : Met) → Has few met → Has more met) → (met : Met) → StoresOver few met → StoresOver more met
    stores_within few more within met =
        let t = triple_of names (numbers met) in
        stores_more p q (MetIn names (numbers_of few)) (MetIn names (numbers_of more)) (listed_within few more within) t.object t.base t.store met.string

    -- each meet of the list may, over those before it
    abbrev pub AreStored : List Met → Type 0
    AreStored mets = (i : ℕ) (met : Met) → slice_get mets i ≡ Some met → StoresOver (take i mets) met

    -- so the triples are found
    pub stored_found : (mets : List Met) → AreStored mets → AreFound p q (triples_of names (numbers_of mets))
    stored_found mets stored i t there =
        let m = at_map (triple_of names) (numbers_of mets) i t there in
        let met = at_map numbers mets i m.0 m.1 in
        let x = triple_of names (numbers met.0) in
        let may : MayStore p q (MetIn names (numbers_of (take i mets))) x.object x.base x.store = (met.0.string, stored i met.0 met.1) in
        let same : t ≡ x = m.2 ∙ ap (triple_of names) met.2 in
        let front : triples_of names (numbers_of (take i mets)) ≡ take i (triples_of names (numbers_of mets)) =
        ap (triples_of names) (sym (take-map numbers i mets)) ∙ sym (take-map (triple_of names) i (numbers_of mets)) in
        subst (λ (ts : List Triple). MayStore p q (Listed ts) t.object t.base t.store) front
        (subst (λ (y : Triple). MayStore p q (MetIn names (numbers_of (take i mets))) y.object y.base y.store) (sym same) may)
