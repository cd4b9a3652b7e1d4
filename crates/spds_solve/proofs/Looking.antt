-- Looks at the tables of all sites.
use Rattle.std.proofs.Common.{◌≡◌, ℕ, ◌+◌, ◌<◌, ◌↔◌, ◌∷◌, Bool, true, IsTrue, List, Option, Some, None, get_or, length, slice_get, refl, sym, ap, ◌∙◌, subst}
use Rattle.call_side.specs.declared.opening.Opening.{Opening}
use Rattle.call_side.specs.Openings.{AreOpenings, BeginsBy, opening_of}
use Rattle.lists.specs.Lists.{Has}
use Rattle.link_rules.specs.Linked.{LinkedProgram}
use Rattle.link_sites.specs.declared.site.Site.{Site}
use Rattle.post_star.proofs.Loops.{EachBefore, each_more}
use Rattle.call_side.proofs.Lists.{has-read}
use Rattle.spds_solve.specs.declared.ends.End.TheVariants.{Arg, Base}
use Rattle.spds_solve.specs.declared.ends.StoreEnd.{StoreEnd}
use Rattle.spds_solve.specs.declared.heads.Head.{Head}
use Rattle.spds_solve.specs.declared.heads.Head.TheVariants.{Any, Mark}
use Rattle.spds_solve.specs.declared.known.Known.{Known}
use Rattle.spds_solve.specs.declared.met.Met.{Met}
use Rattle.spds_solve.specs.declared.refresh.Tables.{Tables}
use Rattle.spds_solve.specs.declared.scan.View.{View}
use Rattle.spds_solve.specs.Ends.{cell_of, ends_in}
use Rattle.spds_solve.specs.Heads.{Begins, Fit, head_of}
use Rattle.spds_solve.specs.Known.{IsKnown, IsSeen, Keeps}
use Rattle.spds_solve.specs.Looks.{AreLooked, CountsAt, IsBaseAt, IsNoted, IsNotedAt, IsNotedCell, IsNotedEnd, IsNotedOpening, IsView}
use Rattle.spds_solve.specs.Mets.{numbers_of}
use Rattle.spds_solve.specs.Posts.{post_of}
use Rattle.spds_solve.specs.Searches.{AllSettled, AreStill, AreTaken, IsBaseOf, IsCandidate, IsStill}
use Rattle.spds_solve.proofs.Noting.{known_more}
use Rattle.spds_tables.specs.declared.numbered.Met.{Met as Numbers}
use Rattle.spds_tables.specs.declared.parts.Parts.{Parts}
use Rattle.spds_tables.specs.declared.tables.SiteTables.{SiteTables}
use Rattle.spds_tables.specs.Parts.{store_at}
use Rattle.spds_tables.specs.Systems.{Reaches}

-- words begin with the head of their first mark, where it is told
first_begin : (first : Option ℕ) (word : List ℕ) → BeginsBy first word → Begins (head_of first) word
first_begin None word b = tt
first_begin (Some mark) word b = b

-- heads of one word fit
pub begins_fit : (a b : Head) (word : List ℕ) → Begins a word → Begins b word → Fit a b
begins_fit Any b word x y = tt
begins_fit (Mark m) Any word x y = tt
begins_fit (Mark m) (Mark k) word x y = let same : m ∷ x.0 ≡ k ∷ y.0 = sym x.1 ∙ y.1 in cc

-- each site counts at what is stored, and a base at what it is stored into
pub counts_arg : (v : View) (site : ℕ) (at : StoreEnd) → at.end ≡ Arg → IsTrue true ↔ CountsAt v site at
counts_arg v site at is = ((λ _ e. let same : Arg ≡ Base = sym is ∙ e in cc), (λ _. refl))

pub counts_base : (v : View) (site : ℕ) (at : StoreEnd) → at.end ≡ Base → (b : Bool) → (IsTrue b ↔ IsBaseAt v site at.store) → IsTrue b ↔ CountsAt v site at
counts_base v site at is b same = ((λ h e. same.0 h), (λ counts. same.1 (counts is)))

-- each end that is listed at a cell is one of a store
pub end_read : (v : View) → IsView v → (cell : ℕ) (xs : List StoreEnd) (i : ℕ) (d : StoreEnd) → i < length xs → xs ≡ ends_in v.ends.now cell
    → (get_or xs i d).store < length v.parts.now.stores.items
end_read v is cell xs i d low e =
    let has : Has (ends_in v.ends.now cell) (get_or xs i d) = subst (λ (ys : List StoreEnd). Has ys (get_or xs i d)) e (has-read xs i d low) in
    ((is.ends cell (get_or xs i d)).0 has).store

-- what is noted stays so
module _ (v : View) (old new : Known) (keeps : Keeps old new) (site : ℕ) where
  pub end_kept : (head : Head) (at : StoreEnd) → IsNotedEnd v old site head at → IsNotedEnd v new site head at
  end_kept head at noted counts = keeps at.end (post_of at.store head site) (noted counts)

  pub cell_kept : (head : Head) (cell : ℕ) → IsNotedCell v old site head cell → IsNotedCell v new site head cell
  cell_kept head cell noted at is = end_kept head at (noted at is)

  pub opening_kept : (o : Opening) → IsNotedOpening v old site o → IsNotedOpening v new site o
  opening_kept o noted = cell_kept (head_of o.first) o.node noted

pub noted_kept : (p : LinkedProgram) (sites : List Site) (parts : Parts) (tables : List SiteTables) (old new : Known) → Keeps old new → (site : ℕ)
    → IsNoted p sites parts tables old site → IsNoted p sites parts tables new site
noted_kept p sites parts tables old new keeps site noted t at word there low counts reaches =
    let h = noted t at word there low counts reaches in
    (h.0, keeps at.end (post_of at.store h.0 site) h.1, h.2)

-- one more element has what the others before it have
pub each_next : {X : Type 0} (P Q : X → Type 0) (xs : List X) (i : ℕ) (x : X) → slice_get xs i ≡ Some x → ((y : X) → P y → Q y) → Q x → EachBefore P xs i → EachBefore Q xs (i + 1)
each_next P Q xs i x there more now was = each_more Q xs i x there now (λ j y low at. more y (was j y low at))

-- where the heads of all openings are noted, the site is
pub site_noted : (v : View) (known : Known) (site : ℕ) (t : SiteTables) (openings : List Opening) → slice_get v.tables.now.each.items site ≡ Some t
    → AreOpenings t.calls openings → ((o : Opening) → Has openings o → IsNotedOpening v known site o) → IsNotedAt v known site
site_noted v known site t openings here opened noted x at word there low counts reaches =
    let same : x ≡ t = cc (here, there) in
    let cell = cell_of at.end (store_at v.parts.now at.store) in
    let arrives : Reaches t.calls cell word = subst (λ (y : SiteTables). Reaches y.calls cell word) same reaches in
    let o = opened cell word arrives in
    let known_at = noted (opening_of o.0 cell) o.1 at (record { store = low; cell_is = refl {a = cell} }) counts in
    (head_of o.0, known_at, first_begin o.0 word o.2)

module _ (p : LinkedProgram) (sites : List Site) (parts : Parts) (old new : List SiteTables) where
  base_same : (base store : ℕ) → slice_get new base ≡ slice_get old base → IsBaseOf p sites parts new base store → IsBaseOf p sites parts old base store
  base_same base store same h = record { table = h.table; table_is = sym same ∙ h.table_is; site = h.site; site_is = h.site_is; itself = h.itself; has = h.has }

  -- what was noted of a site whose tables are the same
  pub noted_same : (known : Known) (site : ℕ) → slice_get new site ≡ slice_get old site → IsNoted p sites parts old known site → IsNoted p sites parts new known site
  noted_same known site same noted t at word there low counts reaches =
      noted t at word (sym same ∙ there) low (λ e. base_same site at.store same (counts e)) reaches

  -- what tables that are the same say may be stored
  pub candidate_same : (m : Numbers) → slice_get new m.object ≡ slice_get old m.object → slice_get new m.base ≡ slice_get old m.base
      → IsCandidate p sites parts new m → IsCandidate p sites parts old m
  candidate_same m object base candidate =
      let s = candidate.1.1 in (
        base_same m.base m.store base candidate.0,
        (
          candidate.1.0,
          record {
            object = s.object;
            object_is = sym object ∙ s.object_is;
            base = s.base;
            base_is = sym base ∙ s.base_is;
            word = s.word;
            at_arg = s.at_arg;
            at_base = s.at_base;
            string_is = s.string_is;
          },
        ),
      )

module _ (p : LinkedProgram) (sites : List Site) (parts : Parts) (tables : List SiteTables) (known : Known) (mets : List Met)
    (is : IsKnown parts mets known) (noted : (site : ℕ) → IsNoted p sites parts tables known site) where
  -- what may be stored is met or waits
  pub candidate_seen : (m : Numbers) → m.store < length parts.stores.items → IsCandidate p sites parts tables m → IsSeen mets known.pending.keys m
  candidate_seen m low candidate =
      let s = candidate.1.1 in
      let a = noted m.object s.object (record { store = m.store; end = Arg }) s.word s.object_is low (λ e. cc) s.at_arg in
      let b = noted m.base s.base (record { store = m.store; end = Base }) s.word s.base_is low (λ e. candidate.0) s.at_base in
      is.seen m.store m.object m.base a.0 b.0 a.1 b.1 (begins_fit a.0 b.0 s.word a.2 b.2)

-- what was looked at stays so, where more meets are found
pub looked_more : (p : LinkedProgram) (sites : List Site) (parts : Parts) (taken : List Numbers) (few more : List Met) (tables : Tables) (known : Known)
    → ((m : Numbers) → Has (numbers_of few) m → Has (numbers_of more) m) → AreLooked p sites parts taken few tables known → AreLooked p sites parts taken more tables known
looked_more p sites parts taken few more tables known within was = record {
  taken = was.taken;
  noted = was.noted;
  known = known_more parts few more known within was.known;
  met = λ m low object base candidate. within m (was.met m low object base candidate);
}

-- tables of which none was looked at
pub looked_none : (p : LinkedProgram) (sites : List Site) (parts : Parts) (taken : List Numbers) (mets : List Met) (tables : Tables) (known : Known)
    → ((site : ℕ) → IsStill tables site → ⊥) → AreTaken parts taken tables → IsKnown parts mets known → AreLooked p sites parts taken mets tables known
looked_none p sites parts taken mets tables known none are is = record {
  taken = are;
  noted = λ site still. absurd (none site still);
  known = is;
  met = λ m low object base candidate. absurd (none m.object object);
}

module _ (p : LinkedProgram) (sites : List Site) (parts : Parts) (taken : List Numbers) (mets : List Met) (old new : Tables) (known : Known)
    (was : AreLooked p sites parts taken mets old known) (still : AreStill old new) where
  -- sites that are still were looked at
  pub still_noted : (site : ℕ) → IsStill new site → IsNoted p sites parts new.each.items known site
  still_noted site is = let h = still.each site is in noted_same p sites parts old.each.items new.each.items known site h.1 (was.noted site h.0)

  pub still_met : (m : Numbers) → m.store < length parts.stores.items → IsStill new m.object → IsStill new m.base → IsCandidate p sites parts new.each.items m
      → Has (numbers_of mets) m
  still_met m low object base candidate =
      let a = still.each m.object object in
      let b = still.each m.base base in
      was.met m low a.0 b.0 (candidate_same p sites parts old.each.items new.each.items m a.1 b.1 candidate)

-- all sites were looked at
pub looked_all : (p : LinkedProgram) (sites : List Site) (parts : Parts) (taken : List Numbers) (mets : List Met) (old new : Tables) (known : Known)
    → AreTaken parts taken old → AllSettled parts taken old.each.items → new.each ≡ old.each → length new.changed.items ≡ length old.changed.items
    → IsKnown parts mets known → ((site : ℕ) → IsNoted p sites parts old.each.items known site)
    → ((m : Numbers) → m.store < length parts.stores.items → IsCandidate p sites parts old.each.items m → Has (numbers_of mets) m)
    → AreLooked p sites parts taken mets new known
looked_all p sites parts taken mets old new known are settled each count is noted closed = record {
  taken = record {
    count = ap (λ v. length v.items) each ∙ are.count;
    flags = count ∙ are.flags;
    built = λ site x there. are.built site x (subst (λ v. slice_get v.items site ≡ Some x) each there);
    still = λ site x there _. settled.each site x (subst (λ v. slice_get v.items site ≡ Some x) each there);
  };
  noted = λ site _. subst (λ v. IsNoted p sites parts v.items known site) (sym each) (noted site);
  known = is;
  met = λ m low _ _ candidate. closed m low (subst (λ v. IsCandidate p sites parts v.items m) each candidate);
}
