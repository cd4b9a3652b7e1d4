-- What the search ends with is what is defined.
use Rattle.std.proofs.Common.{◌≡◌, ℕ, ◌<◌, ◌↔◌, All, List, [], ◌∷◌, length, map, take, Some, slice_get, slice_index_or, refl, sym, ap, ◌∙◌, subst, inl, inr, arith}
use Rattle.std.proofs.lemmas.Option.{get_or_from_slice_get}
use Rattle.call_side.specs.Bases.{AreMarks}
use Rattle.demand_set.specs.Demands.{DemandParts, IsDemandOf}
use Rattle.demand_set.proofs.Appended.{Has-take}
use Rattle.lists.specs.Lists.{Has, IsApart}
use Rattle.lists.proofs.Places.{slice_get-below, slice_get-pushed, slice_get-there, Has-push}
use Rattle.lists.proofs.Joined.{Has-either, slice_get-appended}
use Rattle.link_laws.proofs.Lists.{all_at, at_all, map_at}
use Rattle.link_rules.specs.Linked.{LinkedProgram}
use Rattle.link_sites.specs.declared.place.Place.{Place}
use Rattle.link_sites.specs.declared.site.Site.{Site}
use Rattle.link_sites.specs.Sites.{HasField}
use Rattle.spds_laws.proofs.Compose.{calls_within}
use Rattle.spds_laws.proofs.Found.{closed_holds, found_met, slice_get-taken}
use Rattle.spds_laws.proofs.More.{calls_more, fields_more, may_store_more, stores_more}
use Rattle.spds_laws.proofs.Rounds.{meets_stored}
use Rattle.spds_laws.proofs.Within.{may_store_within}
use Rattle.spds_laws.specs.Found.{IsClosed, Triple}
use Rattle.spds_rules.specs.declared.node.Node.{Node}
use Rattle.spds_rules.specs.declared.store.StoreAt.{StoreAt}
use Rattle.spds_rules.specs.Demand.{Asked, StartIn}
use Rattle.spds_rules.specs.Systems.{Calls, Fields, InCalls, IsString, MayStore, Meets, StoresUnder}
use Rattle.spds_solve.specs.declared.arrivals.Arrival.{Arrival}
use Rattle.spds_solve.specs.declared.met.Met.{Met}
use Rattle.spds_solve.specs.Composing.{AreJoined, IsReady, joined}
use Rattle.spds_solve.specs.Mets.{numbers, numbers_of, string_of}
use Rattle.spds_solve.specs.Searches.{AllSettled, AreFoundBy, IsCandidate, IsComplete, IsFound}
use Rattle.spds_solve.specs.Solved.{AreMeets, IsListed, IsSolved, StandsForMeet}
use Rattle.spds_solve.proofs.Numbering.{has_numbers, numbered}
use Rattle.spds_solve.proofs.Resting.{AreStored, StoresOver, calls_spelt, front_kept, listed_within, old_front, stored_found, stores_within}
use Rattle.spds_tables.proofs.Exact.{base_is, calls_arrive, fields_are, listed_met, met_listed, may_store_exact, object_is, store_is, strings_are, strings_marked, words_spelt}
use Rattle.spds_tables.proofs.Made.{demand_names}
use Rattle.spds_tables.specs.declared.numbered.Met.{Met as Numbers}
use Rattle.spds_tables.specs.declared.parts.Parts.{Parts}
use Rattle.spds_tables.specs.declared.tables.SiteTables.{SiteTables}
use Rattle.spds_tables.specs.Names.{AreNames, Names}
use Rattle.spds_tables.specs.Parts.{IsInParts, call_cell, field_cell, store_at, store_nodes_at}
use Rattle.spds_tables.specs.PartsOf.{AreParts, ArePartsOf, names_of}
use Rattle.spds_tables.specs.Systems.{Reaches}
use Rattle.spds_tables.specs.Tables.{AreSettled, ArrivesAt}
use Rattle.spds_tables.specs.Triples.{IsInRange, MetIn, no_site, no_store_at, triple_of, triples_of}

module _ (p : LinkedProgram) (sites : List Site) (parts : Parts) where
  -- a candidate is in range
  candidate_range : (mets : List Numbers) (tables : List SiteTables) → AllSettled parts mets tables → (m : Numbers) → m.store < length parts.stores.items
      → IsCandidate p sites parts tables m → IsInParts parts m
  candidate_range mets tables settled m store c =
      let shared = c.1.1 in
      let object = slice_get-below tables m.object shared.object shared.object_is in
      let base = slice_get-below tables m.base shared.base shared.base_is in
      let count = settled.count in
      record { object = omega arith; base = omega arith; store = store }

  -- so is what was found
  pub found_inside : (mets : List Numbers) (tables : List SiteTables) → AllSettled parts mets tables → (met : Met) → IsFound p sites parts tables met
      → IsInParts parts (numbers met)
  found_inside mets tables settled met found = candidate_range mets tables settled (numbers met) found.store (found.base, (met.string, found.shared))

  -- and what others give
  joined_range : {old new : List Met} → ((met : Met) → Has old met → IsInParts parts (numbers met)) → AreJoined old new → (met : Met) → Has new met
      → IsInParts parts (numbers met)
  joined_range all AreJoined.none met has = all met has
  joined_range all (AreJoined.more {mid} {new} a b rest ready e) met has =
      let inside = joined_range all rest in
      elim ((Has-push mid (joined ready.first ready.next) met).0 (subst (λ (xs : List Met). Has xs met) e has)) [
        | inl old ↦ inside met old
        | inr last ↦
            let one = inside ready.first (a, ready.first_is) in
            let two = inside ready.next (b, ready.next_is) in
            let here : IsInParts parts (numbers (joined ready.first ready.next)) = record { object = one.object; base = two.base; store = two.store } in
            subst (λ (x : Met). IsInParts parts (numbers x)) (sym last) here
      ]

  pub found_range : {mets : List Met} → AreFoundBy p sites parts mets → (met : Met) → Has mets met → IsInParts parts (numbers met)
  found_range AreFoundBy.none met has = cc has.1
  found_range (AreFoundBy.more first tables found settled grown) met has =
      elim (Has-either first grown.behind met (subst (λ (xs : List Met). Has xs met) grown.are has)) [
        | inl a ↦ found_range found met a
        | inr b ↦ found_inside (numbers_of first) tables settled met (grown.each met b)
      ]
  found_range (AreFoundBy.composed first found joins) met has = joined_range (found_range found) joins met has

  pub joined_inside : (old new : List Met) → AreJoined old new → All (IsInParts parts) (numbers_of old) → All (IsInParts parts) (numbers_of new)
  joined_inside old new joins all = all_at (IsInParts parts) (numbers_of new) (λ i m there.
      let met = numbered new m (i, there) in
      let was : (x : Met) → Has old x → IsInParts parts (numbers x) =
      λ x has. let at = has_numbers old x has in at_all (IsInParts parts) (numbers_of old) at.0 (numbers x) all at.1 in
      subst (IsInParts parts) (sym met.2) (joined_range was joins met.0 met.1))

module _ (p : LinkedProgram) (q : Asked) (names : Names) (are : AreNames p q names) (parts : Parts) (of : AreParts p q names parts) where
  in_range : (m : Numbers) → IsInParts parts m → IsInRange names m
  in_range m h =
      let starts = of.start_count in
      let stores = of.store_count in
      let object = h.object in
      let base = h.base in
      let store = h.store in
      record { object = omega arith; base = omega arith; store = omega arith }

  all_in_range : (mets : List Met) → AreFoundBy p names.sites parts mets → (m : Numbers) → Has (numbers_of mets) m → IsInRange names m
  all_in_range mets found m has =
      let at = numbered mets m has in
      subst (IsInRange names) (sym at.2) (in_range (numbers at.0) (found_range p names.sites parts found at.0 at.1))

  module _ (mets : List Numbers) (tables : List SiteTables) (settled : AllSettled parts mets tables) (inside : (m : Numbers) → Has mets m → IsInRange names m) where
    -- what is found may be stored under its string
    found_stores : (met : Met) → IsFound p names.sites parts tables met
        → StoresUnder p q (MetIn names mets) (triple_of names (numbers met)).object (triple_of names (numbers met)).base (triple_of names (numbers met)).store met.string
    found_stores met found =
        let m = numbers met in
        let range = in_range m (found_inside p names.sites parts mets tables settled met found) in
        let t = triple_of names m in
        let object = object_is names m range in
        let base = base_is names m range in
        let there = store_is names m range in
        let stored = of.stores m.store t.store there in
        let shared = found.shared in
        let site : found.base.site ≡ t.base = cc (found.base.site_is, base) in
        let table : found.base.table ≡ shared.base = cc (found.base.table_is, shared.base_is) in
        let one = settled.each m.object shared.object shared.object_is in
        let two = settled.each m.base shared.base shared.base_is in
        let spelt : string_of names.calls shared.word ≡ met.string =
        ap (λ (calls : List Place). string_of calls shared.word) (sym of.places) ∙ sym shared.string_is in
        record {
          store = are.stores.each t.store (m.store, there);
          at_arg = subst (InCalls p q (MetIn names mets) t.object t.store.arg) spelt
              (calls_spelt p q names are parts of m.object t.object object mets inside shared.object one (store_nodes_at parts m.store).arg t.store.arg shared.word
              stored.arg_is shared.at_arg);
          at_base = subst (InCalls p q (MetIn names mets) t.base t.store.base) spelt
              (calls_spelt p q names are parts of m.base t.base base mets inside shared.base two (store_nodes_at parts m.store).base t.store.base shared.word
              stored.base_is shared.at_base);
          is_base = (fields_are p q names are parts of m.base t.base base mets inside shared.base two (store_nodes_at parts m.store).base t.store.base [] stored.base_is).0
              (subst (λ (x : SiteTables). Reaches x.fields (store_at parts m.store).base.fields []) table found.base.itself);
          has = subst (HasField p t.base) stored.field_is (subst (λ (x : Site). HasField p x (store_at parts m.store).field) site found.base.has);
        }

    -- what may be stored is a candidate
    stores_candidate : (m : Numbers) (o base : Site) (s : StoreAt) → slice_get names.sites m.object ≡ Some o → slice_get names.sites m.base ≡ Some base
        → slice_get names.stores m.store ≡ Some s → MayStore p q (MetIn names mets) o base s
        → (m.store < length parts.stores.items) × IsCandidate p names.sites parts tables m
    stores_candidate m o base s object_there base_there store_there may =
        let object_low = slice_get-below names.sites m.object o object_there in
        let base_low = slice_get-below names.sites m.base base base_there in
        let store_low = slice_get-below names.stores m.store s store_there in
        let count = settled.count in
        let starts = of.start_count in
        let stores = of.store_count in
        let one = slice_get-there tables m.object (omega arith) in
        let two = slice_get-there tables m.base (omega arith) in
        let found = (may_store_exact p q names are parts of mets inside m.object o object_there one.0 (settled.each m.object one.0 one.1)
        m.base base base_there two.0 (settled.each m.base two.0 two.1) m.store s store_there).1 may in (
          omega arith,
          (
            record { table = two.0; table_is = two.1; site = base; site_is = base_there; itself = found.0; has = found.2 },
            (
              string_of parts.places found.1.0,
              record {
                object = one.0;
                object_is = one.1;
                base = two.0;
                base_is = two.1;
                word = found.1.0;
                at_arg = found.1.1;
                at_base = found.1.2;
                string_is = refl;
              },
            ),
          ),
        )

  module _ (mets : List Met) (stored : AreStored p q names mets) (inside : (met : Met) → Has mets met → IsInRange names (numbers met)) (a b : ℕ)
      (ready : IsReady mets a b) where
    abbrev left : Met
    left = ready.first

    abbrev right : Met
    right = ready.next

    abbrev Over : Site → Site → StoreAt → Type 0
    Over = MetIn names (numbers_of mets)

    abbrev object : Site
    object = (triple_of names (numbers left)).object

    abbrev base : Site
    base = (triple_of names (numbers left)).base

    -- the object is where the base is, under each string of the base's start nodes
    first_opens : (n : Node) (string : List Place) → StartIn p q base n → IsString p n.place.method string → InCalls p q Over object n string
    first_opens n string start is =
        let t = triple_of names (numbers left) in
        let met : Over object base t.store =
        met_listed names (numbers_of mets) (numbers left) t.object t.base t.store (has_numbers mets left (a, ready.first_is)) refl refl refl in
        let arg = calls_more p q (MetIn names (numbers_of (take a mets))) Over (listed_within p q names (take a mets) mets (Has-take a mets)) object
        (stored a left ready.first_is).at_arg in
        InCalls.store met start arg is

    -- what the base meets before the second meet, the object meets
    first_meets : (further : Site) (later : StoreAt) → MetIn names (numbers_of (take b mets)) base further later → Over object further later
    first_meets further later has =
        let listed = listed_met names (numbers_of (take b mets)) base further later has in
        let at = numbered (take b mets) listed.0 listed.1 in
        let x = at.0 in
        let there = slice_get-taken b mets at.1.0 x at.1.1 in
        let same : triple_of names (numbers x) ≡ record { object = base; base = further; store = later } = ap (triple_of names) (sym at.2) ∙ sym listed.2 in
        let range = inside x (at.1.0, there.1) in
        let one = object_is names (numbers x) range ∙ ap (λ (t : Triple). Some t.object) same in
        let two = base_is names (numbers left) (inside left (a, ready.first_is)) in
        let joins : x.object ≡ left.base = are.sites.apart x.object left.base base one two in
        met_listed names (numbers_of mets) (numbers (joined left x)) object further later (ready.before at.1.0 x there.0 there.1 joins) refl
        (ap (λ (t : Triple). t.base) same) (ap (λ (t : Triple). t.store) same)

    -- what they give may be stored under the string of the second
    joined_stores : StoresOver p q names mets (joined left right)
    joined_stores =
        let few = MetIn names (numbers_of (take b mets)) in
        let was = stored b right ready.next_is in
        let t = triple_of names (numbers right) in
        let more = listed_within p q names (take b mets) mets (Has-take b mets) in
        let same : t.object ≡ base = ap (λ (n : ℕ). slice_index_or names.sites n no_site) ready.joins in
        record {
          store = was.store;
          at_arg = calls_within p q few Over object base first_opens first_meets (subst (λ (o : Site). InCalls p q few o t.store.arg right.string) same was.at_arg);
          at_base = calls_more p q few Over more t.base was.at_base;
          is_base = fields_more p q few Over more t.base was.is_base;
          has = was.has;
        }

  -- lists that grow by what others give
  joined_stored : {old new : List Met} → AreStored p q names old → ((met : Met) → Has old met → IsInParts parts (numbers met)) → AreJoined old new
      → AreStored p q names new
  joined_stored stored inside AreJoined.none = stored
  joined_stored stored inside (AreJoined.more {mid} {new} a b rest ready e) =
      let was = joined_stored stored inside rest in
      let range : (met : Met) → Has mid met → IsInRange names (numbers met) =
      λ met has. in_range (numbers met) (joined_range p names.sites parts inside rest met has) in
      let last = joined ready.first ready.next in
      λ i met there. elim (slice_get-pushed mid last i met (subst (λ (xs : List Met). slice_get xs i ≡ Some met) e there)) [
        | inl old ↦
            stores_within p q names (take i mid) (take i new) (λ x has. subst (λ (xs : List Met). Has (take i xs) x) (sym e) (front_kept mid (last ∷ []) i x has)) met
            (was i met old)
        | inr push ↦
            stores_within p q names mid (take i new)
            (λ x has. subst (λ (xs : List Met). Has (take i xs) x) (sym e) (old_front mid (last ∷ []) i x (let at = push.0 in omega arith) has)) met
            (subst (StoresOver p q names mid) (sym push.1) (joined_stores mid was range a b ready))
      ]

  -- each meet may be stored under its string over those before it
  pub found_are : {mets : List Met} → AreFoundBy p names.sites parts mets → AreStored p q names mets
  found_are AreFoundBy.none i met there = cc
  found_are (AreFoundBy.more {mets} first tables found settled grown) i met there =
      let behind = grown.behind in
      elim (slice_get-appended first behind i met (subst (λ (xs : List Met). slice_get xs i ≡ Some met) grown.are there)) [
        | inl old ↦
            stores_within p q names (take i first) (take i mets)
            (λ x has. subst (λ (xs : List Met). Has (take i xs) x) (sym grown.are) (front_kept first behind i x has)) met (found_are found i met old)
        | inr new ↦
            stores_within p q names first (take i mets)
            (λ x has. subst (λ (xs : List Met). Has (take i xs) x) (sym grown.are) (old_front first behind i x (let at = new.1 in omega arith) has)) met
            (found_stores (numbers_of first) tables settled (all_in_range first found) met (grown.each met (new.0, new.2)))
      ]
  found_are (AreFoundBy.composed first found joins) i met there = joined_stored (found_are found) (found_range p names.sites parts found) joins i met there

  module _ (tables : List SiteTables) (mets : List Met) (complete : IsComplete p names.sites parts tables mets) where
    abbrev all : List Numbers
    all = numbers_of mets

    inside : (m : Numbers) → Has all m → IsInRange names m
    inside = all_in_range mets complete.found

    closed_at : (m : Numbers) (o base : Site) (s : StoreAt) → slice_get names.sites m.object ≡ Some o → slice_get names.sites m.base ≡ Some base
        → slice_get names.stores m.store ≡ Some s → MayStore p q (MetIn names all) o base s → Has all m
    closed_at m o base s a b c may =
        let h = stores_candidate all tables complete.settled inside m o base s a b c may in
        complete.closed m h.0 h.1

    all_closed : IsClosed p q (triples_of names all)
    all_closed o base s may =
        let within = may_store_within p q (MetIn names all) o base s may in
        let i = are.sites.all o within.0 in
        let j = are.sites.all base within.1 in
        let k = are.stores.all s within.2 in
        let m : Numbers = record { object = i.0; base = j.0; store = k.0 } in
        met_listed names all m o base s (closed_at m o base s i.1 j.1 k.1 may)
        (get_or_from_slice_get names.sites i.0 o no_site i.1) (get_or_from_slice_get names.sites j.0 base no_site j.1) (get_or_from_slice_get names.stores k.0 s no_store_at k.1)

    met_in : (o base : Site) (s : StoreAt) → MetIn names all o base s → Meets p q o base s
    met_in = found_met p q (triples_of names all) (stored_found p q names mets (found_are complete.found))

    in_met : (o base : Site) (s : StoreAt) → Meets p q o base s → MetIn names all o base s
    in_met = closed_holds p q (triples_of names all) all_closed

    -- the list has the meets
    pub mets_are : (m : Numbers) (o base : Site) (s : StoreAt) → slice_get names.sites m.object ≡ Some o → slice_get names.sites m.base ≡ Some base
        → slice_get names.stores m.store ≡ Some s → Has all m ↔ Meets p q o base s
    mets_are m o base s a b c = (
      (λ has. met_in o base s (met_listed names all m o base s has
          (get_or_from_slice_get names.sites m.object o no_site a) (get_or_from_slice_get names.sites m.base base no_site b) (get_or_from_slice_get names.stores m.store s no_store_at c))),
      (λ met. closed_at m o base s a b c (may_store_more p q (Meets p q) (MetIn names all) in_met o base s (meets_stored p q o base s met))),
    )

    module _ (site : ℕ) (o : Site) (there : slice_get names.sites site ≡ Some o) (t : SiteTables) (at : slice_get tables site ≡ Some t) where
      settled_at : AreSettled parts site all t
      settled_at = complete.settled.each site t at

      -- both systems of the tables are those over all meets
      pub fields_whole : (number : ℕ) (n : Node) (word : List ℕ) → slice_get names.nodes number ≡ Some n
          → Reaches t.fields (field_cell parts number) word ↔ Fields p q o n word
      fields_whole number n word here =
          let same = fields_are p q names are parts of site o there all inside t settled_at number n word here in (
            (λ h. fields_more p q (MetIn names all) (Meets p q) met_in o (same.0 h)),
            (λ h. same.1 (fields_more p q (Meets p q) (MetIn names all) in_met o h)),
          )

      pub arrived_whole : (number : ℕ) (n : Node) → slice_get names.nodes number ≡ Some n
          → ArrivesAt t.calls (call_cell parts number) ↔ ((string : List Place) × Calls p q o n string)
      arrived_whole number n here =
          let same = calls_arrive p q names are parts of site o there all inside t settled_at number n here in (
            (λ h. let c = same.0 h in (c.0, calls_more p q (MetIn names all) (Meets p q) met_in o c.1)),
            (λ h. same.1 (h.0, calls_more p q (Meets p q) (MetIn names all) in_met o h.1)),
          )

      pub strings_whole : (number : ℕ) (n : Node) (word : List ℕ) (string : List Place) → slice_get names.nodes number ≡ Some n → AreMarks names.calls word string
          → Reaches t.calls (call_cell parts number) word ↔ Calls p q o n string
      strings_whole number n word string here marks =
          let same = strings_are p q names are parts of site o there all inside t settled_at number n word string here marks in (
            (λ h. calls_more p q (MetIn names all) (Meets p q) met_in o (same.0 h)),
            (λ h. same.1 (calls_more p q (Meets p q) (MetIn names all) in_met o h)),
          )

      pub marked_whole : (n : Node) (string : List Place) → Calls p q o n string → (word : List ℕ) × AreMarks names.calls word string
      marked_whole n string h =
          strings_marked p q names are parts of site o there all inside t settled_at n string (calls_more p q (Meets p q) (MetIn names all) in_met o h)

      pub spelt_whole : (number : ℕ) (word : List ℕ) → Reaches t.calls (call_cell parts number) word → (string : List Place) × AreMarks names.calls word string
      spelt_whole number word h = words_spelt p q names are parts of site o there all inside t settled_at number word h

module _ (p : LinkedProgram) (q : Asked) (d : DemandParts) (calls : List Place) where
  abbrev names : Names
  names = names_of d calls

  -- a meet in range stands for its triple
  stands_in : (met : Met) → IsInRange names (numbers met)
      → StandsForMeet d met (triple_of names (numbers met)).object (triple_of names (numbers met)).base (triple_of names (numbers met)).store
  stands_in met range = record {
    object_is = object_is names (numbers met) range;
    base_is = base_is names (numbers met) range;
    store_is = store_is names (numbers met) range;
  }

  -- a listed triple is that of a meet of the list
  listed_stands : (mets : List Met) → ((met : Met) → Has mets met → IsInRange names (numbers met)) → (o base : Site) (s : StoreAt)
      → MetIn names (numbers_of mets) o base s → IsListed d mets o base s
  listed_stands mets range o base s has =
      let listed = listed_met names (numbers_of mets) o base s has in
      let at = numbered mets listed.0 listed.1 in
      let same : triple_of names (numbers at.0) ≡ record { object = o; base = base; store = s } = ap (triple_of names) (sym at.2) ∙ sym listed.2 in
      (at.0, at.1, subst (λ (t : Triple). StandsForMeet d at.0 t.object t.base t.store) same (stands_in at.0 (range at.0 at.1)))

  -- the list that is published
  module _ (are : AreNames p q names) (parts : Parts) (of : AreParts p q names parts) (tables : List SiteTables) (mets : List Met)
      (complete : IsComplete p d.sites parts tables mets) (once : IsApart (numbers_of mets)) where
    range : (met : Met) → Has mets met → IsInRange names (numbers met)
    range met has = in_range p q names are parts of (numbers met) (found_range p d.sites parts complete.found met has)

    pub meets_listed : AreMeets p q d mets
    meets_listed = record {
      exact = λ o base s. (
        (λ listed.
            let met = listed.0 in
            let stands = listed.2 in
            (mets_are p q names are parts of tables mets complete (numbers met) o base s stands.object_is stands.base_is stands.store_is).0
            (has_numbers mets met listed.1)),
        (λ meets. listed_stands mets range o base s (in_met p q names are parts of tables mets complete o base s meets)),
      );
      once = once;
      rests = λ i met there.
          let t = triple_of names (numbers met) in
          let before = take i mets in
          record {
            object = t.object;
            base = t.base;
            store = t.store;
            stands = stands_in met (range met (i, there));
            stores = stores_more p q (MetIn names (numbers_of before)) (IsListed d before)
                (listed_stands before (λ x has. range x (Has-take i mets x has))) t.object t.base t.store met.string
                (found_are p q names are parts of complete.found i met there);
          };
    }

-- all of it
pub solved_whole : (p : LinkedProgram) (q : Asked) (d : DemandParts) → IsDemandOf p q d → (parts : Parts) → ArePartsOf p q d parts → (tables : List SiteTables) (mets : List Met)
    → IsComplete p d.sites parts tables mets → IsApart (numbers_of mets) → (arrivals : List Arrival)
    → ((a : Arrival) → Has arrivals a ↔ ((t : SiteTables) × (slice_get tables a.site ≡ Some t) × ArrivesAt t.calls a.cell))
    → IsSolved p q d (record {
      field_cells = parts.field_cells.items;
      call_cells = parts.call_cells.items;
      places = parts.places;
      fields = map (λ t. t.fields) tables;
      calls = map (λ t. t.calls) tables;
      mets = mets;
      arrivals = arrivals;
    })
solved_whole p q d is parts of tables mets complete once arrivals arrived =
    let names = names_of d of.calls in
    let are = demand_names p q d is of.calls of.are_calls in
    record {
      mets = meets_listed p q d of.calls are parts of.are_parts tables mets complete once;
      numbered = mets_are p q names are parts of.are_parts tables mets complete;
      fields = λ site o there.
          let t = table site o there in (
            t.0.fields,
            map_at (λ (x : SiteTables). x.fields) tables site t.0 t.1,
            fields_whole p q names are parts of.are_parts tables mets complete site o there t.0 t.1,
          );
      calls = λ site o there.
          let t = table site o there in
          let same = of.are_parts.places in (
            t.0.calls,
            map_at (λ (x : SiteTables). x.calls) tables site t.0 t.1,
            record {
              strings = λ number n word string at marks.
                  strings_whole p q names are parts of.are_parts tables mets complete site o there t.0 t.1 number n word string at
                  (subst (λ (calls : List Place). AreMarks calls word string) same marks);
              marked = λ n string h.
                  let m = marked_whole p q names are parts of.are_parts tables mets complete site o there t.0 t.1 n string h in
                  (m.0, subst (λ (calls : List Place). AreMarks calls m.0 string) (sym same) m.1);
              spelt = λ number word h.
                  let m = spelt_whole p q names are parts of.are_parts tables mets complete site o there t.0 t.1 number word h in
                  (m.0, subst (λ (calls : List Place). AreMarks calls word m.0) (sym same) m.1);
            },
          );
      arrived = λ a o number n site at cell.
          let t = table a.site o site in
          let same = arrived_whole p q names are parts of.are_parts tables mets complete a.site o site t.0 t.1 number n at in (
            (λ has.
                let h = (arrived a).0 has in
                let one : h.0 ≡ t.0 = cc (h.1, t.1) in
                same.0 (subst (λ (c : ℕ). ArrivesAt t.0.calls c) cell (subst (λ (x : SiteTables). ArrivesAt x.calls a.cell) one h.2))),
            (λ h. (arrived a).1 (t.0, t.1, subst (λ (c : ℕ). ArrivesAt t.0.calls c) (sym cell) (same.1 h))),
          );
    }
  where
    -- each site has tables
    table : (site : ℕ) (o : Site) → slice_get d.sites site ≡ Some o → (t : SiteTables) × (slice_get tables site ≡ Some t)
    table site o there =
        let low = slice_get-below d.sites site o there in
        let count = complete.settled.count in
        let starts = of.are_parts.start_count in
        slice_get-there tables site (omega arith)
