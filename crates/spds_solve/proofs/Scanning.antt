-- Meets that are looked for one by one.
use Rattle.std.proofs.Common.{◌≡◌, ◌+◌, ◌<◌, ◌↔◌, ◌++◌, ◌∷◌, [], ℕ, zero, suc, Bool, true, false, true≢false, IsTrue, List, Some, slice_get, inl, inr, refl, sym, ap, ◌∙◌, subst, append_assoc, arith}
use Rattle.std.proofs.lemmas.Bool.{cases_lt}
use Rattle.std.proofs.lemmas.List.{append-nil}
use Rattle.lists.specs.Lists.{Has}
use Rattle.link_rules.specs.Linked.{LinkedProgram}
use Rattle.link_sites.specs.declared.site.Site.{Site}
use Rattle.link_sites.specs.Sites.{HasField}
use Rattle.spds_solve.specs.declared.met.Met.{Met}
use Rattle.spds_solve.specs.Mets.{numbers, numbers_of}
use Rattle.spds_solve.specs.Searches.{HaveShared, IsBaseOf, IsFound, IsGrown}
use Rattle.spds_solve.proofs.Numbering.{has_numbers, numbered_within}
use Rattle.spds_tables.specs.declared.numbered.Met.{Met as Numbers}
use Rattle.spds_tables.specs.declared.parts.Parts.{Parts}
use Rattle.spds_tables.specs.declared.tables.SiteTables.{SiteTables}
use Rattle.spds_tables.specs.Parts.{store_at}
use Rattle.spds_tables.specs.Systems.{Reaches}
use Rattle.lists.proofs.Joined.{Has-either, Has-left, Has-right}

-- numbers that are the same
pub is_met : (x y : Numbers) → x.object ≡ y.object → x.base ≡ y.base → x.store ≡ y.store → x ≡ y
is_met x y a b c =
    ap (λ (n : ℕ). record { object = n; base = x.base; store = x.store }) a ∙ ap (λ (n : ℕ). record { object = y.object; base = n; store = x.store }) b
    ∙ ap (λ (n : ℕ). record { object = y.object; base = y.base; store = n }) c

-- lists that grow at their end
module _ (p : LinkedProgram) (sites : List Site) (parts : Parts) (tables : List SiteTables) where
  pub grown_none : (mets : List Met) → IsGrown p sites parts tables mets mets
  grown_none mets = record { behind = []; are = sym (append-nil mets); each = λ met has. cc has.1 }

  pub grown_one : (old new : List Met) (met : Met) → new ≡ old ++ met ∷ [] → IsFound p sites parts tables met → IsGrown p sites parts tables old new
  grown_one old new met e found = record { behind = met ∷ []; are = e; each = λ x has. by x has.0 has.1 }
    where
      by : (x : Met) (i : ℕ) → slice_get (met ∷ []) i ≡ Some x → IsFound p sites parts tables x
      by x zero at = let same : met ≡ x = cc in subst (IsFound p sites parts tables) same found
      by x (suc i) at = cc

  pub grown_more : (first mid last : List Met) → IsGrown p sites parts tables first mid → IsGrown p sites parts tables mid last → IsGrown p sites parts tables first last
  grown_more first mid last a b = record {
    behind = a.behind ++ b.behind;
    are = b.are ∙ ap (λ (xs : List Met). xs ++ b.behind) a.are ∙ append_assoc first a.behind b.behind;
    each = λ met has. elim (Has-either a.behind b.behind met has) [ inl x ↦ a.each met x | inr y ↦ b.each met y ];
  }

  -- what was there is there
  pub grown_keeps : (old new : List Met) → IsGrown p sites parts tables old new → (m : Numbers) → Has (numbers_of old) m → Has (numbers_of new) m
  grown_keeps old new g = numbered_within old new (λ met has. subst (λ (xs : List Met). Has xs met) (sym g.are) (Has-left old g.behind met has))

-- what was put last is there
pub last_there : (old new : List Met) (met : Met) → new ≡ old ++ met ∷ [] → Has (numbers_of new) (numbers met)
last_there old new met e = has_numbers new met (subst (λ (xs : List Met). Has xs met) (sym e) (Has-right old (met ∷ []) met (0, refl)))

-- a number below the next one is below the last one or is it
pub below_more : {P : Type 0} (i n : ℕ) → n < i + 1 → (n < i → P) → (n ≡ i → P) → P
below_more i n low below last = elim (cases_lt n i) [ inl less ↦ below less | inr more ↦ last (omega arith) ]

-- what tables say of a base and of a store, as they are read
module _ (p : LinkedProgram) (sites : List Site) (parts : Parts) (tables : List SiteTables) (base store : ℕ) (table : SiteTables)
    (table_is : slice_get tables base ≡ Some table) where
  pub base_then : (site : Site) → slice_get sites base ≡ Some site → (a b : Bool) → a ≡ true → (IsTrue a ↔ Reaches table.fields (store_at parts store).base.fields [])
      → (IsTrue b ↔ HasField p site (store_at parts store).field) → IsTrue b ↔ IsBaseOf p sites parts tables base store
  base_then site site_is a b first fields has = (
    (λ h. record { table = table; table_is = table_is; site = site; site_is = site_is; itself = fields.0 first; has = has.0 h }),
    (λ h. has.1 (let same : h.site ≡ site = cc (h.site_is, site_is) in subst (λ (x : Site). HasField p x (store_at parts store).field) same h.has)),
  )

  pub base_else : (a : Bool) → a ≡ false → (IsTrue a ↔ Reaches table.fields (store_at parts store).base.fields []) → IsTrue a ↔ IsBaseOf p sites parts tables base store
  base_else a first fields = (
    (λ h. absurd (true≢false (sym h ∙ first))),
    (λ h. fields.1 (let same : h.table ≡ table = cc (h.table_is, table_is) in subst (λ (x : SiteTables). Reaches x.fields (store_at parts store).base.fields []) same h.itself)),
  )

-- a base by numbers that are the same
pub base_moved : (p : LinkedProgram) (sites : List Site) (parts : Parts) (tables : List SiteTables) (b base s store : ℕ) → b ≡ base → s ≡ store
    → IsBaseOf p sites parts tables b s → IsBaseOf p sites parts tables base store
base_moved p sites parts tables b base s store x y h =
    subst (λ (n : ℕ). IsBaseOf p sites parts tables n store) x (subst (λ (n : ℕ). IsBaseOf p sites parts tables b n) y h)

module _ (parts : Parts) (tables : List SiteTables) (m : Numbers) (one two : SiteTables) (one_is : slice_get tables m.object ≡ Some one)
    (two_is : slice_get tables m.base ≡ Some two) where
  -- where no word is common, no string is
  pub none_shared : ((word : List ℕ) → Reaches one.calls (store_at parts m.store).arg.calls word → Reaches two.calls (store_at parts m.store).base.calls word → ⊥)
      → HaveShared parts tables m → ⊥
  none_shared none h =
      let s = h.1 in
      let x : s.object ≡ one = cc (s.object_is, one_is) in
      let y : s.base ≡ two = cc (s.base_is, two_is) in
      none s.word (subst (λ (z : SiteTables). Reaches z.calls (store_at parts m.store).arg.calls s.word) x s.at_arg)
      (subst (λ (z : SiteTables). Reaches z.calls (store_at parts m.store).base.calls s.word) y s.at_base)
