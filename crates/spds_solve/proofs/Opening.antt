-- The start nodes of the base of each meet that was found open for its object.
use Rattle.std.proofs.Common.{◌≡◌, ℕ, zero, suc, ◌⊎◌, ◌++◌, List, [], ◌∷◌, Some, slice_get, take, refl, sym, ap, ◌∙◌, subst, inl, inr}
use Rattle.lists.specs.Lists.{Has}
use Rattle.link_laws.proofs.Lists.{at_map, map_at}
use Rattle.link_rules.specs.Linked.{LinkedProgram}
use Rattle.link_sites.specs.declared.site.Site.{Site}
use Rattle.post_star.specs.Jobs.{Job}
use Rattle.spds_solve.specs.declared.met.Met.{Met as Stored}
use Rattle.spds_laws.proofs.Found.{slice_get-taken}
use Rattle.spds_solve.specs.Composing.{AreJoined, joined as joined_of}
use Rattle.spds_solve.specs.Mets.{numbers, numbers_of}
use Rattle.spds_solve.specs.Searches.{AllSettled, AreFoundBy, IsFound}
use Rattle.std.proofs.lemmas.List.{map-append}
use Rattle.spds_tables.proofs.Built.{opens_more}
use Rattle.spds_tables.proofs.Questions.{has_one}
use Rattle.spds_tables.specs.declared.numbered.Met.{Met}
use Rattle.spds_tables.specs.declared.numbered.StartAt.{StartAt}
use Rattle.spds_tables.specs.declared.parts.Parts.{Parts}
use Rattle.spds_tables.specs.declared.tables.SiteTables.{SiteTables}
use Rattle.spds_tables.specs.Parts.{starts_at, store_at}
use Rattle.spds_tables.specs.Tables.{AreOpenFor, ArrivesAt, IsCallJob, Opens}
use Rattle.weight_laws.specs.declared.reach.Reach.{Reach}
use Rattle.lists.proofs.Joined.{Has-left, Has-right}

-- a list has a front, an element and a rest
abbrev pub IsCut : List Met → List Met → Met → List Met → Type 0
IsCut mets before m rest = mets ≡ before ++ m ∷ rest

-- each element is somewhere
pub has_cut : (mets : List Met) (m : Met) → Has mets m → (before : List Met) × (rest : List Met) × IsCut mets before m rest
has_cut [] m has = cc has.1
has_cut (x ∷ xs) m has = by has.0 has.1 (has_cut xs m)
  where
    by : (i : ℕ) → slice_get (x ∷ xs) i ≡ Some m → (Has xs m → (before : List Met) × (rest : List Met) × IsCut xs before m rest)
        → (before : List Met) × (rest : List Met) × IsCut (x ∷ xs) before m rest
    by zero h further = let same : x ≡ m = cc in ([], xs, ap (λ (y : Met). y ∷ xs) same)
    by (suc i) h further = let at = further (i, h) in (x ∷ at.0, at.1, ap (λ (ys : List Met). x ∷ ys) at.2)

-- a cut of two joined lists is in the one or the other
record IsBehind (first behind before : List Met) (m : Met) (rest : List Met) : Type 0 where
  pub more : List Met
  pub before_is : before ≡ first ++ more
  pub cut : IsCut behind more m rest

cut_joined : (first behind before : List Met) (m : Met) (rest : List Met) → IsCut (first ++ behind) before m rest
    → ((shorter : List Met) × IsCut first before m shorter) ⊎ IsBehind first behind before m rest
cut_joined [] behind before m rest e = inr (record { more = before; before_is = refl; cut = e })
cut_joined (x ∷ xs) behind [] m rest e = let same : x ≡ m = cc in inl (xs, ap (λ (y : Met). y ∷ xs) same)
cut_joined (x ∷ xs) behind (y ∷ ys) m rest e =
    let same : x ≡ y = cc in
    let tail : IsCut (xs ++ behind) ys m rest = cc in
    elim (cut_joined xs behind ys m rest tail) [
      | inl a ↦ inl (a.0, ap (λ (z : Met). z ∷ xs) same ∙ ap (λ (zs : List Met). y ∷ zs) a.1)
      | inr b ↦ inr (record { more = b.more; before_is = ap (λ (z : Met). z ∷ ys) (sym same) ∙ ap (λ (zs : List Met). x ∷ zs) b.before_is; cut = b.cut })
    ]

-- at each place a list is cut
cut_at : (mets : List Met) (i : ℕ) (m : Met) → slice_get mets i ≡ Some m → (rest : List Met) × IsCut mets (take i mets) m rest
cut_at [] i m h = cc
cut_at (x ∷ xs) zero m h = let same : x ≡ m = cc in (xs, ap (λ (y : Met). y ∷ xs) same)
cut_at (x ∷ xs) (suc i) m h = let at = cut_at xs i m h in (at.0, ap (λ (ys : List Met). x ∷ ys) at.1)

-- what stands at a cut is in the list, and so is what stands before it
cut_has : (mets before : List Met) (m : Met) (rest : List Met) → IsCut mets before m rest → Has mets m
cut_has mets before m rest e = subst (λ (xs : List Met). Has xs m) (sym e) (at before)
  where
    at : (before : List Met) → Has (before ++ m ∷ rest) m
    at [] = (0, refl)
    at (x ∷ xs) = let h = at xs in (suc h.0, h.1)

cut_front : (mets before : List Met) (m : Met) (rest : List Met) → IsCut mets before m rest → (x : Met) → Has before x → Has mets x
cut_front mets before m rest e x has = subst (λ (xs : List Met). Has xs x) (sym e) (Has-left before (m ∷ rest) x has)

module _ (parts : Parts) where
  -- what opens for one site opens for another, where its start nodes do and its meets are meets of the other
  pub opens_within : (base object : ℕ) (few more : List Met) → ((s : StartAt) → Has (starts_at parts base) s → Opens parts object more s)
      → ((m : Met) → Has few m → m.object ≡ base → Has more (record { object = object; base = m.base; store = m.store }))
      → {s : StartAt} → Opens parts base few s → Opens parts object more s
  opens_within base object few more own met (Opens.own {s} has) = own s has
  opens_within base object few more own met (Opens.asked begun job is all (inl jump)) =
      Opens.asked begun job is (λ x has. opens_within base object few more own met (all x has)) (inl jump)
  opens_within base object few more own met (Opens.asked begun job is all (inr store)) =
      Opens.asked begun job is (λ x has. opens_within base object few more own met (all x has))
      (inr (record {
        met = record { object = object; base = store.met.base; store = store.met.store };
        has = met store.met store.has store.object;
        object = refl;
        arrives = store.arrives;
        among = store.among;
      }))

  -- the object of a meet comes to its store from start nodes that open over these meets
  pub record IsBrought (mets : List Met) (m : Met) : Type 0 where
    pub begun : List StartAt
    pub job : Job Reach
    pub is : IsCallJob parts begun job
    pub opened : (s : StartAt) → Has begun s → Opens parts m.object mets s
    pub arrives : ArrivesAt job (store_at parts m.store).arg.calls

  -- each meet of a list over those before it
  abbrev pub AreBrought : List Met → Type 0
  AreBrought mets = (before : List Met) (m : Met) (rest : List Met) → IsCut mets before m rest → IsBrought before m

  pub brought_more : (few more : List Met) (m : Met) → ((x : Met) → Has few x → Has more x) → IsBrought few m → IsBrought more m
  brought_more few more m f b = record {
    begun = b.begun;
    job = b.job;
    is = b.is;
    opened = λ s has. opens_more parts m.object few more f (b.opened s has);
    arrives = b.arrives;
  }

  -- so the start nodes of the base open
  pub brought_opens : (mets : List Met) (m : Met) → Has mets m → IsBrought mets m → (s : StartAt) → Has (starts_at parts m.base) s → Opens parts m.object mets s
  brought_opens mets m has b s among =
      Opens.asked b.begun b.job b.is b.opened (inr (record { met = m; has = has; object = refl; arrives = b.arrives; among = among }))

  -- each meet of the list over the whole list
  brought_whole : (mets : List Met) → AreBrought mets → (m : Met) → Has mets m → IsBrought mets m
  brought_whole mets all m has =
      let at = has_cut mets m has in
      brought_more at.0 mets m (cut_front mets at.0 m at.1 at.2) (all at.0 m at.1 at.2)

  -- those behind come over those that were there, or over what is before them
  pub brought_behind : (first behind : List Met) → AreBrought first → ((m : Met) → Has behind m → IsBrought first m) → AreBrought (first ++ behind)
  brought_behind first behind was now before m rest e = elim (cut_joined first behind before m rest e) [
    | inl a ↦ was before m a.0 a.1
    | inr b ↦
        subst (λ (xs : List Met). IsBrought xs m) (sym b.before_is)
        (brought_more first (first ++ b.more) m (λ x has. Has-left first b.more x has) (now m (cut_has behind b.more m rest b.cut)))
  ]

  -- an object that meets the base of another meet, and all that the base met before it, comes to its store as the base does
  pub brought_composed : (mets : List Met) → AreBrought mets → (outer inner : Met) (before rest : List Met) → Has mets outer → IsCut mets before inner rest
      → inner.object ≡ outer.base
      → ((m : Met) → Has before m → m.object ≡ inner.object → Has mets (record { object = outer.object; base = m.base; store = m.store }))
      → IsBrought mets (record { object = outer.object; base = inner.base; store = inner.store })
  brought_composed mets all outer inner before rest has e same met =
      let b = all before inner rest e in
      let own = brought_opens mets outer has (brought_whole mets all outer has) in
      let own_inner : (s : StartAt) → Has (starts_at parts inner.object) s → Opens parts outer.object mets s =
      λ s among. own s (subst (λ (n : ℕ). Has (starts_at parts n) s) same among) in
      record {
        begun = b.begun;
        job = b.job;
        is = b.is;
        opened = λ s h. opens_within inner.object outer.object before mets own_inner met (b.opened s h);
        arrives = b.arrives;
      }

  -- so that meet may be put behind
  pub composed_behind : (mets : List Met) → AreBrought mets → (outer inner : Met) (before rest : List Met) → Has mets outer → IsCut mets before inner rest
      → inner.object ≡ outer.base
      → ((m : Met) → Has before m → m.object ≡ inner.object → Has mets (record { object = outer.object; base = m.base; store = m.store }))
      → AreBrought (mets ++ (record { object = outer.object; base = inner.base; store = inner.store }) ∷ [])
  composed_behind mets all outer inner before rest has e same met =
      let m : Met = record { object = outer.object; base = inner.base; store = inner.store } in
      brought_behind mets (m ∷ []) all
      (λ x last. subst (λ (y : Met). IsBrought mets y) (sym (has_one m x last)) (brought_composed mets all outer inner before rest has e same met))

  -- the bases of all meets of a list open
  pub brought_open : (mets : List Met) → AreBrought mets → (site : ℕ) → AreOpenFor parts site mets mets
  brought_open mets all site m has e s among =
      subst (λ (n : ℕ). Opens parts n mets s) e (brought_opens mets m has (brought_whole mets all m has) s among)

  -- that of the next meet opens over those up to it
  brought_next : (mets : List Met) → AreBrought mets → (i : ℕ) (m : Met) → slice_get mets i ≡ Some m → AreOpenFor parts m.object (m ∷ []) (take i mets ++ m ∷ [])
  brought_next mets all i m there x has e s among =
      let cut = cut_at mets i m there in
      let front = take i mets ++ m ∷ [] in
      let b = brought_more (take i mets) front m (λ y h. Has-left (take i mets) (m ∷ []) y h) (all (take i mets) m cut.0 cut.1) in
      brought_opens front m (Has-right (take i mets) (m ∷ []) m (0, refl)) b s (subst (λ (y : Met). Has (starts_at parts y.base) s) (has_one m x has) among)

  module _ (p : LinkedProgram) (sites : List Site) where
    -- the object of what was found over settled tables comes to its store
    candidate_brought : (first : List Met) (tables : List SiteTables) → AllSettled parts first tables → (m : Stored) → IsFound p sites parts tables m
        → IsBrought first (numbers m)
    candidate_brought first tables settled m found =
        let shared = found.shared in
        let built = (settled.each m.object shared.object shared.object_is).built in
        record { begun = shared.object.begun; job = shared.object.calls; is = built.calls; opened = built.opened; arrives = (shared.word, shared.at_arg) }

    -- that of each meet that others give does as well
    joined_brought : {first new : List Stored} → AreBrought (numbers_of first) → AreJoined first new → AreBrought (numbers_of new)
    joined_brought was AreJoined.none = was
    joined_brought was (AreJoined.more {mid} {new} a b joined ready e) =
        let all = numbers_of mid in
        let inner = numbers ready.next in
        let cut = cut_at all b inner (map_at numbers mid b ready.next ready.next_is) in
        let put = composed_behind all (joined_brought was joined) (numbers ready.first) inner (take b all) cut.0
        (a, map_at numbers mid a ready.first ready.first_is) cut.1 ready.joins
        (λ m has same.
        let taken = slice_get-taken b all has.0 m has.1 in
        let x = at_map numbers mid has.0 m taken.1 in
        let object : x.0.object ≡ ready.first.base = ap (λ (y : Met). y.object) (sym x.2) ∙ same ∙ ready.joins in
        let there = ready.before has.0 x.0 taken.0 x.1 object in
        subst (λ (y : Met). Has all (record { object = ready.first.object; base = y.base; store = y.store })) (sym x.2) there) in
        let grown : numbers_of new ≡ all ++ numbers (joined_of ready.first ready.next) ∷ [] = ap numbers_of e ∙ map-append numbers mid (joined_of ready.first ready.next ∷ []) in
        subst AreBrought (sym grown) put

    -- that of each meet that was found comes to its store
    pub found_brought : {mets : List Stored} → AreFoundBy p sites parts mets → AreBrought (numbers_of mets)
    found_brought AreFoundBy.none before m rest e = let has = cut_has [] before m rest e in cc has.1
    found_brought (AreFoundBy.composed first found joined) before m rest e = joined_brought (found_brought found) joined before m rest e
    found_brought (AreFoundBy.more {mets} first tables found settled grown) before m rest e =
        let was = found_brought found in
        let joined : numbers_of mets ≡ numbers_of first ++ numbers_of grown.behind = ap numbers_of grown.are ∙ map-append numbers first grown.behind in
        brought_behind (numbers_of first) (numbers_of grown.behind) was
        (λ x has.
        let at = at_map numbers grown.behind has.0 x has.1 in
        subst (λ (y : Met). IsBrought (numbers_of first) y) (sym at.2)
        (candidate_brought (numbers_of first) tables settled at.0 (grown.each at.0 (has.0, at.1)))) before m rest (sym joined ∙ e)

    pub found_next : (mets : List Stored) → AreFoundBy p sites parts mets → (i : ℕ) (m : Met) → slice_get (numbers_of mets) i ≡ Some m
        → AreOpenFor parts m.object (m ∷ []) (take i (numbers_of mets) ++ m ∷ [])
    found_next mets found = brought_next (numbers_of mets) (found_brought found)

    pub found_open : (mets : List Stored) → AreFoundBy p sites parts mets → (site : ℕ) → AreOpenFor parts site (numbers_of mets) (numbers_of mets)
    found_open mets found = brought_open (numbers_of mets) (found_brought found)
