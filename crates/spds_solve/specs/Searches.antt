-- The search for meets, over settled tables.
use Rattle.std.specs.Prelude.{◌≡◌, ◌<◌, ◌^◌, ◌++◌, ℕ, Bool, List, [], OnOk, Result, Some, false, length, slice_get, true}
use Rattle.lists.specs.Lists.{Has}
use Rattle.link_rules.specs.Linked.{LinkedProgram}
use Rattle.link_sites.specs.declared.place.Place.{Place}
use Rattle.link_sites.specs.declared.site.Site.{Site}
use Rattle.link_sites.specs.Sites.{HasField}
use Rattle.piece_join.specs.Brought.{AllBecome}
use Rattle.spds_solve.specs.declared.met.Met.{Met}
use Rattle.spds_solve.specs.declared.refresh.Tables.{Tables}
use Rattle.spds_solve.specs.Composing.{AreJoined}
use Rattle.spds_solve.specs.Mets.{numbers, numbers_of, string_of}
use Rattle.spds_tables.specs.declared.numbered.Met.{Met as Numbers}
use Rattle.spds_tables.specs.declared.parts.Parts.{Parts}
use Rattle.spds_tables.specs.declared.tables.SiteTables.{SiteTables}
use Rattle.spds_tables.specs.Parts.{AreLedIn, store_at}
use Rattle.spds_tables.specs.Systems.{Reaches}
use Rattle.spds_tables.specs.Tables.{AreBuilt, AreSettled}
use denote.Ref.{Bor, MutBor}

-- the base's own object is at the base of the store, and has the field
pub record IsBaseOf (p : LinkedProgram) (sites : List Site) (parts : Parts) (tables : List SiteTables) (base store : ℕ) : Type 0 where
  pub table : SiteTables
  pub table_is : slice_get tables base ≡ Some table
  pub site : Site
  pub site_is : slice_get sites base ≡ Some site
  pub itself : Reaches table.fields (store_at parts store).base.fields []
  pub has : HasField p site (store_at parts store).field

-- the call string is at the argument and at the base
pub record IsShared (parts : Parts) (tables : List SiteTables) (m : Numbers) (string : List Place) : Type 0 where
  pub object : SiteTables
  pub object_is : slice_get tables m.object ≡ Some object
  pub base : SiteTables
  pub base_is : slice_get tables m.base ≡ Some base
  pub word : List ℕ
  pub at_arg : Reaches object.calls (store_at parts m.store).arg.calls word
  pub at_base : Reaches base.calls (store_at parts m.store).base.calls word
  pub string_is : string ≡ string_of parts.places word

-- one call string is
abbrev pub HaveShared : Parts → List SiteTables → Numbers → Type 0
HaveShared parts tables m = (string : List Place) × IsShared parts tables m string

-- what the tables say may be stored
abbrev pub IsCandidate : LinkedProgram → List Site → Parts → List SiteTables → Numbers → Type 0
IsCandidate p sites parts tables m = IsBaseOf p sites parts tables m.base m.store × HaveShared parts tables m

-- what they say may be stored under the string
pub record IsFound (p : LinkedProgram) (sites : List Site) (parts : Parts) (tables : List SiteTables) (met : Met) : Type 0 where
  pub store : met.store < length parts.stores.items
  pub base : IsBaseOf p sites parts tables met.base met.store
  pub shared : IsShared parts tables (numbers met) met.string

-- meets that they say may be stored were put last
pub record IsGrown (p : LinkedProgram) (sites : List Site) (parts : Parts) (tables : List SiteTables) (old new : List Met) : Type 0 where
  pub behind : List Met
  pub are : new ≡ old ++ behind
  pub each : (met : Met) → Has behind met → IsFound p sites parts tables met

-- the tables of all sites over these meets
pub record AllBuilt (parts : Parts) (mets : List Numbers) (tables : List SiteTables) : Type 0 where
  pub count : length tables ≡ length parts.starts.items
  pub each : (site : ℕ) (t : SiteTables) → slice_get tables site ≡ Some t → AreBuilt parts site mets t

-- and they have come to the end
pub record AllSettled (parts : Parts) (mets : List Numbers) (tables : List SiteTables) : Type 0 where
  pub count : length tables ≡ length parts.starts.items
  pub each : (site : ℕ) (t : SiteTables) → slice_get tables site ≡ Some t → AreSettled parts site mets t

-- the tables of a site are as they were when they were looked at
abbrev pub IsStill : Tables → ℕ → Type 0
IsStill t site = slice_get t.changed.items site ≡ Some false

-- the tables of all sites over these meets; those of sites that are still have come to the end
pub record AreTaken (parts : Parts) (mets : List Numbers) (t : Tables) : Type 0 where
  pub count : length t.each.items ≡ length parts.starts.items
  pub flags : length t.changed.items ≡ length parts.starts.items
  pub built : (site : ℕ) (x : SiteTables) → slice_get t.each.items site ≡ Some x → AreBuilt parts site mets x
  pub still : (site : ℕ) (x : SiteTables) → slice_get t.each.items site ≡ Some x → IsStill t site → AreSettled parts site mets x

-- the tables of a site are over some meets, and it has a flag
pub record MayComplete (parts : Parts) (changed : List Bool) (site : ℕ) (t : SiteTables) : Type 0 where
  pub led : AreLedIn parts
  pub flagged : site < length changed
  pub mets : List Numbers
  pub built : AreBuilt parts site mets t

-- the tables of a site that is still stayed, and others have come to the end over whatever meets they were over
pub record IsCompleted (parts : Parts) (changed : List Bool) (site : ℕ) (old new : SiteTables) : Type 0 where
  pub kept : slice_get changed site ≡ Some false → new ≡ old
  pub settled : slice_get changed site ≡ Some true → (mets : List Numbers) → AreBuilt parts site mets old → AreSettled parts site mets new

-- the tables of all sites are over some meets, and each site has a flag
pub record MayCompleteAll (parts : Parts) (changed : List Bool) (tables : List SiteTables) : Type 0 where
  pub led : AreLedIn parts
  pub few : length tables < 2 ^ 32
  pub flags : length changed ≡ length tables
  pub mets : List Numbers
  pub built : (site : ℕ) (t : SiteTables) → slice_get tables site ≡ Some t → AreBuilt parts site mets t

-- those of all sites that changed have come to the end
pub record AreCompleted (parts : Parts) (changed : List Bool) (old new : List SiteTables) : Type 0 where
  pub count : length new ≡ length old
  pub each : AllBecome (IsCompleted parts changed) 0 old new

-- tables that may be brought to the end are taken
abbrev pub TakesTables : (Bor Parts → Bor (List Bool) → MutBor (List SiteTables) → Type 0) → Type 0
TakesTables pre = (parts : Bor Parts) (changed : Bor (List Bool)) (tables : MutBor (List SiteTables)) → MayCompleteAll parts.now changed.now tables.now
    → pre parts changed tables

-- and those that changed are brought there
abbrev pub CompletesTables : {E : Type 0} → (Bor Parts → Bor (List Bool) → MutBor (List SiteTables) → Result (Unit {0}) E → MutBor (List SiteTables) → Type 0) → Type 0
CompletesTables {E} post = (parts : Bor Parts) (changed : Bor (List Bool)) (old new : MutBor (List SiteTables)) (result : Result (Unit {0}) E)
    → MayCompleteAll parts.now changed.now old.now → post parts changed old result new → OnOk result (AreCompleted parts.now changed.now old.now new.now)

-- each site that is still was so, and has the tables that it had
pub record AreStill (old new : Tables) : Type 0 where
  pub each : (site : ℕ) → IsStill new site → IsStill old site × (slice_get new.each.items site ≡ slice_get old.each.items site)

-- meets that were found in turns: those of a turn over tables that are settled over those before, and those that others give
pub data AreFoundBy (p : LinkedProgram) (sites : List Site) (parts : Parts) : List Met → Type 0 where
  none : AreFoundBy p sites parts []
  more : {mets : List Met} (first : List Met) (tables : List SiteTables) → AreFoundBy p sites parts first → AllSettled parts (numbers_of first) tables
      → IsGrown p sites parts tables first mets → AreFoundBy p sites parts mets
  composed : {mets : List Met} (first : List Met) → AreFoundBy p sites parts first → AreJoined first mets → AreFoundBy p sites parts mets

-- tables over all meets, which no further turn adds to
pub record IsComplete (p : LinkedProgram) (sites : List Site) (parts : Parts) (tables : List SiteTables) (mets : List Met) : Type 0 where
  pub settled : AllSettled parts (numbers_of mets) tables
  pub found : AreFoundBy p sites parts mets
  pub closed : (m : Numbers) → m.store < length parts.stores.items → IsCandidate p sites parts tables m → Has (numbers_of mets) m
