-- What the machine's table asks is decided.
use Rattle.std.proofs.Common.{◌≡◌, ℕ, zero, suc, ◌+◌, ◌<◌, ◌≤◌, ◌⊎◌, Option, Some, None, Bool, true, false, List, [], ◌∷◌, length, slice_get, refl, subst, inl, inr, arith}
use Rattle.std.proofs.lemmas.Bool.{cases_eq, cases_lt}
use Rattle.class_rules.proofs.Decided.{IsDecided, anywhere_decided, both_decided, resolve_decided, same_decided, sub_decided, there_decided}
use Rattle.class_rules.specs.Lookups.{Resolve}
use Rattle.lists.specs.Lists.{IsLeast}
use Rattle.class_rules.specs.Rows.{Sub}
use Rattle.lists.proofs.Places.{slice_get-below}
use Rattle.link_rules.specs.Accessed.{field_class}
use Rattle.link_rules.specs.declared.code.Catch.{Catch}
use Rattle.link_rules.specs.declared.code.Code.{Code}
use Rattle.link_rules.specs.declared.code.Code.TheVariants.{NewArray, NewMulti}
use Rattle.link_rules.specs.Flow.{CoversPlace}
use Rattle.link_rules.specs.Linked.{LinkedMethod, LinkedProgram}
use Rattle.link_rules.specs.WellLinked.{MakesArrays}
use Rattle.link_sites.specs.declared.site.Site.{Site}
use Rattle.link_sites.specs.declared.site.Site.TheVariants as site
use Rattle.link_sites.specs.Places.{HasCode}
use Rattle.link_sites.specs.Sites.{HasDeclared, HasLevel, IsArraySite, IsInnerSite}
use Rattle.step_rules.specs.Offers.{Finds, MayCatch}

-- the least number with a decided fact, or none of those below a bound
least_below : (P : ℕ → Type 0) → ((i : ℕ) → IsDecided (P i)) → (n : ℕ) → ((k : ℕ) × IsLeast P k) ⊎ ((i : ℕ) → i < n → P i → ⊥)
least_below P decide zero = inr (λ i below p. omega (arith, below))
least_below P decide (suc n) = elim (least_below P decide n) [
  | inl least ↦ inl least
  | inr none ↦ elim (decide n) [
    | inl p ↦ inl (n, record { holds = p; first = none })
    | inr not_there ↦ inr (λ i below p. elim (cases_eq i n) [
      | inl e ↦ not_there (subst P e p)
      | inr other ↦ none i (omega (arith, below, other)) p
    ])
  ]
]

-- a fact that some number has, has a least one
pub least_of : (P : ℕ → Type 0) → ((i : ℕ) → IsDecided (P i)) → (n : ℕ) → P n → (k : ℕ) × IsLeast P k
least_of P decide n p = elim (least_below P decide (suc n)) [ inl least ↦ least | inr none ↦ absurd (none n (omega arith) p) ]

pub same_text_decided : (xs ys : List ℕ) → IsDecided (xs ≡ ys)
same_text_decided [] [] = inl refl
same_text_decided [] (y ∷ ys) = inr (λ e. cc)
same_text_decided (x ∷ xs) [] = inr (λ e. cc)
same_text_decided (x ∷ xs) (y ∷ ys) = same_decided joined split (both_decided (cases_eq x y) (same_text_decided xs ys)) where
  joined : (x ≡ y) × (xs ≡ ys) → x ∷ xs ≡ y ∷ ys
  joined e = let head = e.0 in let tail = e.1 in cc

  split : x ∷ xs ≡ y ∷ ys → (x ≡ y) × (xs ≡ ys)
  split e = (cc, cc)

less_decided : (a b : ℕ) → IsDecided (a < b)
less_decided a b = elim (cases_lt a b) [ inl less ↦ inl less | inr more ↦ inr (λ h. omega (arith, more, h)) ]

at_most_decided : (a b : ℕ) → IsDecided (a ≤ b)
at_most_decided a b = elim (cases_lt b a) [ inl less ↦ inr (λ h. omega (arith, less, h)) | inr more ↦ inl more ]

raised_decided : (raised : Bool) → IsDecided (raised ≡ false)
raised_decided true = inr (λ e. cc)
raised_decided false = inl refl

makes_array_decided : (c : Code) → IsDecided (MakesArrays c)
makes_array_decided (NewArray to) = inl tt
makes_array_decided (NewMulti to levels) = inl tt
makes_array_decided c = inr (λ h. h)

pub level_decided : (level : ℕ) (c : Code) → IsDecided (HasLevel level c)
level_decided level (NewMulti to levels) = both_decided (less_decided 0 level) (less_decided level levels)
level_decided level c = inr (λ h. h)

module _ (p : LinkedProgram) where
  -- whether a statement with the fact stands at an index of a method
  code_decided : (Fact : Code → Type 0) → ((c : Code) → IsDecided (Fact c)) → (method index : ℕ) → IsDecided (HasCode p method index Fact)
  code_decided Fact decide method index =
      same_decided (λ h. record { code = h.2.0; at = record { method = h.0; there = h.1; here = h.2.1 }; is_so = h.2.2 })
      (λ h. (h.at.method, h.at.there, (h.code, h.at.here, h.is_so)))
      (there_decided (λ (m : LinkedMethod). (c : Code) × (slice_get m.code index ≡ Some c) × Fact c) (λ m. there_decided Fact decide m.code index) p.methods method)

  -- whether the objects of a site are arrays
  pub array_decided : (s : Site) → IsDecided (IsArraySite p s)
  array_decided (site.New place) = both_decided (raised_decided place.raised) (code_decided MakesArrays makes_array_decided place.method place.index)
  array_decided (site.Nested place level) =
      both_decided (raised_decided place.raised) (code_decided (HasLevel level) (level_decided level) place.method place.index)
  array_decided (site.Raised place kind) = inr (λ h. h)
  array_decided (site.Text i) = inr (λ h. h)
  array_decided (site.Class i) = inr (λ h. h)

  -- whether arrays of a site hold arrays of another
  pub inner_decided : (outer : Site) → IsDecided ((inner : Site) × IsInnerSite p outer inner)
  inner_decided (site.New place) = same_decided (λ h. (site.Nested place 1, (h, refl))) (λ h. h.1.0)
      (both_decided (raised_decided place.raised) (code_decided (HasLevel 1) (level_decided 1) place.method place.index))
  inner_decided (site.Nested place level) = same_decided (λ h. (site.Nested place (level + 1), (h, refl))) (λ h. h.1.0)
      (both_decided (raised_decided place.raised) (code_decided (HasLevel (level + 1)) (level_decided (level + 1)) place.method place.index))
  inner_decided (site.Raised place kind) = inr (λ h. h.1)
  inner_decided (site.Text i) = inr (λ h. h.1)
  inner_decided (site.Class i) = inr (λ h. h.1)

  -- whether objects of a class have a field
  pub declared_decided : (class field : ℕ) → IsDecided (HasDeclared p class field)
  declared_decided class field = by (field_class p field) refl where
    by : (o : Option ℕ) → field_class p field ≡ o → IsDecided (HasDeclared p class field)
    by None e = inr (λ h. let there = h.1 in cc)
    by (Some declaring) e =
        same_decided (λ below. (declaring, e, below))
        (λ h. let there = h.1 in let same : h.0 ≡ declaring = cc in subst (λ c. Sub p.rows class c) same h.2)
        (sub_decided p.rows class declaring)

  -- whether look-up from a class finds a method that has statements
  pub finds_decided : (class key : ℕ) → IsDecided ((number : ℕ) × (m : LinkedMethod) × Finds p class key number m)
  finds_decided class key =
      same_decided (λ h. (h.0, h.3.1.0, record { row = h.1; resolved = h.3.0; numbered = h.2; there = h.3.1.1; has_statements = h.3.1.2 }))
      (λ h. (h.0, h.2.row, h.2.numbered, (h.2.resolved, (h.1, h.2.there, h.2.has_statements))))
      (anywhere_decided
      (λ number row. Resolve p.rows class key (Some row) × ((m : LinkedMethod) × (slice_get p.methods number ≡ Some m) × (0 < length m.code)))
      (λ number row. both_decided (resolve_decided p.rows class key row)
      (there_decided (λ (m : LinkedMethod). 0 < length m.code) (λ m. less_decided 0 (length m.code)) p.methods number)) p.method_rows)

  -- whether a handler may catch exceptions of a class
  pub catch_decided : (handlers : List Catch) (t class number : ℕ) → IsDecided (MayCatch p handlers t class number)
  catch_decided handlers t class number =
      same_decided (λ h. (h.0, h.1, h.2.0, h.2.1)) (λ h. (h.0, h.1, (h.2, h.3)))
      (there_decided (λ (catch : Catch). CoversPlace catch t × Sub p.rows class catch.class)
      (λ catch. both_decided (both_decided (at_most_decided catch.from t) (less_decided t catch.to)) (sub_decided p.rows class catch.class)) handlers number)

-- the first handler that may catch, if one may
pub first_handler : (p : LinkedProgram) (handlers : List Catch) (t class : ℕ)
    → ((number : ℕ) × IsLeast (MayCatch p handlers t class) number) ⊎ ((number : ℕ) → MayCatch p handlers t class number → ⊥)
first_handler p handlers t class = elim (least_below (MayCatch p handlers t class) (catch_decided p handlers t class) (length handlers)) [
  | inl least ↦ inl least
  | inr none ↦ inr (λ number may. none number (slice_get-below handlers number may.0 may.1) may)
]
