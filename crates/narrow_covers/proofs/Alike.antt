-- Programs that are alike in the methods that stay: these have the same statements but for the targets of calls.
use Rattle.std.proofs.Common.{◌≡◌, ℕ, ◌+◌, List, Option, Some, length, slice_get, sym, subst}
use Rattle.link_rules.specs.declared.code.Code.{Code}
use Rattle.link_rules.specs.declared.code.Code.TheVariants as code
use Rattle.link_rules.specs.Linked.{LinkedMethod, LinkedProgram}
use Rattle.link_rules.specs.WellLinked.{MakesArrays}
use Rattle.link_sites.specs.declared.site.Site.{Site}
use Rattle.link_sites.specs.declared.site.Site.TheVariants as site
use Rattle.link_sites.specs.Places.{CodeAt, HasCode}
use Rattle.link_sites.specs.Sites.{HasLevel, IsArraySite, IsInnerSite}
use Rattle.narrow_rules.proofs.Well.{over}
use Rattle.step_rules.specs.declared.parts.Value.{Value}
use Rattle.step_rules.specs.Effects.{Effect}
use Rattle.step_rules.specs.Offers.{Row}
use Rattle.step_rules.specs.States.{Point, State}
use Rattle.step_rules.specs.Steps.{ReceivesAt}

-- the same statement, but for the targets of a call
abbrev pub IsSameCode : Code → Code → Type 0
IsSameCode (code.Call to mode class key receiver args targets) d =
    (others : List ℕ) × (d ≡ code.Call to mode class key receiver args others)
IsSameCode c d = d ≡ c

-- the targets of a call don't matter to a step, to what a caller gets, or to sites
pub row_same : (p : LinkedProgram) (at : Point) (offered : List Effect) (c d : Code) → IsSameCode c d → Row p at c offered → Row p at d offered
row_same p at offered (code.Call to mode class key receiver args targets) d same h = subst (λ e. Row p at e offered) (sym same.1) h
row_same p at offered c d same h = subst (λ e. Row p at e offered) (sym same) h

pub received_same : (value : Option Value) (caller : Point) (new : State) (c d : Code) → IsSameCode c d → ReceivesAt c value caller new
    → ReceivesAt d value caller new
received_same value caller new (code.Call to mode class key receiver args targets) d same h = subst (λ e. ReceivesAt e value caller new) (sym same.1) h
received_same value caller new c d same h = subst (λ e. ReceivesAt e value caller new) (sym same) h

pub arrays_same : (c d : Code) → IsSameCode c d → MakesArrays c → MakesArrays d
arrays_same (code.Call to mode class key receiver args targets) d same h = subst MakesArrays (sym same.1) h
arrays_same c d same h = subst MakesArrays (sym same) h

pub level_same : (level : ℕ) (c d : Code) → IsSameCode c d → HasLevel level c → HasLevel level d
level_same level (code.Call to mode class key receiver args targets) d same h = subst (HasLevel level) (sym same.1) h
level_same level c d same h = subst (HasLevel level) (sym same) h

-- a method with the same statements and handlers, and as many locals
pub record IsAlike (old new : LinkedMethod) : Type 0 where
  pub locals : new.locals ≡ old.locals
  pub catches : new.catches ≡ old.catches
  pub as_many : length new.code ≡ length old.code
  pub codes : (index : ℕ) (c : Code) → slice_get old.code index ≡ Some c → (d : Code) × (slice_get new.code index ≡ Some d) × IsSameCode c d

-- so is each method that stays
abbrev pub AreAlike : (ℕ → Type 0) → LinkedProgram → List LinkedMethod → Type 0
AreAlike Stays p ms = (number : ℕ) → Stays number → (old : LinkedMethod) → slice_get p.methods number ≡ Some old
    → (new : LinkedMethod) × (slice_get ms number ≡ Some new) × IsAlike old new

-- a site in a method that stays, or one that no array has
abbrev pub SiteStays : (ℕ → Type 0) → Site → Type 0
SiteStays Stays (site.New place) = Stays place.method
SiteStays Stays (site.Nested place level) = Stays place.method
SiteStays Stays (site.Raised place kind) = Unit {0}
SiteStays Stays (site.Text number) = Unit {0}
SiteStays Stays (site.Class number) = Unit {0}

module _ (Stays : ℕ → Type 0) (p : LinkedProgram) (ms : List LinkedMethod) (alike : AreAlike Stays p ms) where
  -- a statement of a method that stays
  pub code_moves : (number index : ℕ) (c : Code) → Stays number → CodeAt p number index c → (d : Code) × CodeAt (over p ms) number index d × IsSameCode c d
  code_moves number index c stays here =
      let m = alike number stays here.method here.there in
      let d = m.2.codes index c here.here in
      (d.0, record { method = m.0; there = m.1; here = d.1 }, d.2)

  -- and what is so of it whatever its targets
  pub fact_moves : (number index : ℕ) (Fact : Code → Type 0) → ((c d : Code) → IsSameCode c d → Fact c → Fact d) → Stays number
      → HasCode p number index Fact → HasCode (over p ms) number index Fact
  fact_moves number index Fact same stays h =
      let d = code_moves number index h.code stays h.at in
      record { code = d.0; at = d.1; is_so = same h.code d.0 d.2 h.is_so }

  -- a site of arrays
  pub arrays_move : (s : Site) → SiteStays Stays s → IsArraySite p s → IsArraySite (over p ms) s
  arrays_move (site.New place) stays h = (h.0, fact_moves place.method place.index MakesArrays arrays_same stays h.1)
  arrays_move (site.Nested place level) stays h = (h.0, fact_moves place.method place.index (HasLevel level) (level_same level) stays h.1)
  arrays_move (site.Raised place kind) stays h = h
  arrays_move (site.Text number) stays h = h
  arrays_move (site.Class number) stays h = h

  -- and the site of the arrays that they hold
  pub inner_moves : (s inner : Site) → SiteStays Stays s → IsInnerSite p s inner → IsInnerSite (over p ms) s inner
  inner_moves (site.New place) inner stays h = ((h.0.0, fact_moves place.method place.index (HasLevel 1) (level_same 1) stays h.0.1), h.1)
  inner_moves (site.Nested place level) inner stays h =
      ((h.0.0, fact_moves place.method place.index (HasLevel (level + 1)) (level_same (level + 1)) stays h.0.1), h.1)
  inner_moves (site.Raised place kind) inner stays h = h
  inner_moves (site.Text number) inner stays h = h
  inner_moves (site.Class number) inner stays h = h

-- the arrays that those of a site that stays hold have one that stays
pub inner_stays : (Stays : ℕ → Type 0) (p : LinkedProgram) (s inner : Site) → SiteStays Stays s → IsInnerSite p s inner → SiteStays Stays inner
inner_stays Stays p (site.New place) inner stays h = subst (SiteStays Stays) (sym h.1) stays
inner_stays Stays p (site.Nested place level) inner stays h = subst (SiteStays Stays) (sym h.1) stays
inner_stays Stays p (site.Raised place kind) inner stays h = elim h [ ]
inner_stays Stays p (site.Text number) inner stays h = elim h [ ]
inner_stays Stays p (site.Class number) inner stays h = elim h [ ]
