-- A look at the tables of all sites: what is noted of a site, and what a look goes over.
use Rattle.std.specs.Prelude.{◌≡◌, ◌<◌, ℕ, List, Some, length, slice_get}
use Rattle.call_side.specs.declared.opening.Opening.{Opening}
use Rattle.lists.specs.Lists.{Has}
use Rattle.link_rules.specs.Linked.{LinkedProgram}
use Rattle.link_sites.specs.declared.site.Site.{Site}
use Rattle.spds_solve.specs.declared.ends.End.TheVariants.{Base}
use Rattle.spds_solve.specs.declared.ends.StoreEnd.{StoreEnd}
use Rattle.spds_solve.specs.declared.heads.Head.{Head}
use Rattle.spds_solve.specs.declared.known.Known.{Known}
use Rattle.spds_solve.specs.declared.met.Met.{Met}
use Rattle.spds_solve.specs.declared.refresh.Tables.{Tables}
use Rattle.spds_solve.specs.declared.scan.View.{View}
use Rattle.spds_solve.specs.Ends.{AreEnds, cell_of, IsEndAt}
use Rattle.spds_solve.specs.Heads.{Begins, head_of}
use Rattle.spds_solve.specs.Known.{IsKnown, posts_at}
use Rattle.spds_solve.specs.Mets.{numbers_of}
use Rattle.spds_solve.specs.Posts.{Knows, post_of}
use Rattle.spds_solve.specs.Searches.{AllSettled, AreTaken, IsBaseOf, IsCandidate, IsGrown, IsStill}
use Rattle.spds_tables.specs.declared.numbered.Met.{Met as Numbers}
use Rattle.spds_tables.specs.declared.parts.Parts.{Parts}
use Rattle.spds_tables.specs.declared.tables.SiteTables.{SiteTables}
use Rattle.spds_tables.specs.Parts.{store_at}
use Rattle.spds_tables.specs.Systems.{Reaches}

-- the site counts at the end of the store: at the base only where it is one
abbrev pub Counts : LinkedProgram → List Site → Parts → List SiteTables → ℕ → StoreEnd → Type 0
Counts p sites parts tables site at = at.end ≡ Base → IsBaseOf p sites parts tables site at.store

-- with what each call string of the site begins, at each end of a store where the site counts, is known
abbrev pub IsNoted : LinkedProgram → List Site → Parts → List SiteTables → Known → ℕ → Type 0
IsNoted p sites parts tables known site = (t : SiteTables) (at : StoreEnd) (word : List ℕ) → slice_get tables site ≡ Some t → at.store < length parts.stores.items
    → Counts p sites parts tables site at → Reaches t.calls (cell_of at.end (store_at parts at.store)) word
    → (head : Head) × Knows (posts_at known at.end) (post_of at.store head site) × Begins head word

-- the tables over these meets were looked at, but for those that changed since: with what call strings of the other sites begin is known, and what may be
-- stored of two of these is met
pub record AreLooked (p : LinkedProgram) (sites : List Site) (parts : Parts) (over : List Numbers) (mets : List Met) (tables : Tables) (k : Known) : Type 0 where
  pub taken : AreTaken parts over tables
  pub noted : (site : ℕ) → IsStill tables site → IsNoted p sites parts tables.each.items k site
  pub known : IsKnown parts mets k
  pub met : (m : Numbers) → m.store < length parts.stores.items → IsStill tables m.object → IsStill tables m.base → IsCandidate p sites parts tables.each.items m
      → Has (numbers_of mets) m

-- what a look goes over: tables that have come to the end, and the ends of the stores
pub record IsView (v : View) : Type 0 where
  pub mets : List Numbers
  pub settled : AllSettled v.parts.now mets v.tables.now.each.items
  pub sites : length v.sites.now ≡ length v.parts.now.starts.items
  pub ends : AreEnds v.parts.now v.ends.now

abbrev pub IsBaseAt : View → ℕ → ℕ → Type 0
IsBaseAt v base store = IsBaseOf v.linked.now v.sites.now v.parts.now v.tables.now.each.items base store

abbrev pub IsCandidateAt : View → Numbers → Type 0
IsCandidateAt v m = IsCandidate v.linked.now v.sites.now v.parts.now v.tables.now.each.items m

abbrev pub IsGrownAt : View → List Met → List Met → Type 0
IsGrownAt v old new = IsGrown v.linked.now v.sites.now v.parts.now v.tables.now.each.items old new

abbrev pub CountsAt : View → ℕ → StoreEnd → Type 0
CountsAt v site at = Counts v.linked.now v.sites.now v.parts.now v.tables.now.each.items site at

abbrev pub IsNotedAt : View → Known → ℕ → Type 0
IsNotedAt v known site = IsNoted v.linked.now v.sites.now v.parts.now v.tables.now.each.items known site

-- the head of the site is known at the end of the store, where the site counts
abbrev pub IsNotedEnd : View → Known → ℕ → Head → StoreEnd → Type 0
IsNotedEnd v known site head at = CountsAt v site at → Knows (posts_at known at.end) (post_of at.store head site)

-- it is at each end of a store that is at the cell
abbrev pub IsNotedCell : View → Known → ℕ → Head → ℕ → Type 0
IsNotedCell v known site head cell = (at : StoreEnd) → IsEndAt v.parts.now cell at → IsNotedEnd v known site head at

-- that of the opening is at its cell
abbrev pub IsNotedOpening : View → Known → ℕ → Opening → Type 0
IsNotedOpening v known site o = IsNotedCell v known site (head_of o.first) o.node
