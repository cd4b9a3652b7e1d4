-- Classes by name.
use Rattle.std.proofs.Common.{◌≡◌, ℕ, Bool, true, false, not, ◌<◌, ◌⊎◌, List, [], Option, Some, None, IsTrue, is_some, length, map, get_or, refl, sym, subst, slice_get, true≢false}
use Rattle.std.specs.Prelude.{◌↔◌}
use Rattle.std.proofs.lemmas.Bool.{false≢true}
use Rattle.std.proofs.lemmas.List.{get_or-map}
use Rattle.class_rules.specs.Lookups.{FieldOf, OnPath}
use Rattle.class_rules.specs.Rows.{Rows, Sub}
use Rattle.class_rules.proofs.LawFacts.{look_up_one, path_one}
use Rattle.jim_ast.specs.declared.names.NameId.{NameId}
use Rattle.lists.proofs.Places.{slice_get-below}
use Rattle.lists.proofs.Joined.{first_one}
use Rattle.link_rules.specs.Classes.{DeclaredClass, IsDeclared, IsNamed, fields_of}
use Rattle.link_rules.specs.Faults.{IsBelowName}
use Rattle.link_rules.specs.Keys.{HasFieldKey, IsFieldKeyNumber, accessed_key}
use Rattle.link_rules.specs.Names.{text_of}
use Rattle.link_rules.specs.Statements.{Access}
use Rattle.link_rules.specs.World.{World}
use Rattle.link_faults.specs.Sites.{FindsNo, IsNotConcrete}
use Rattle.link_faults.proofs.Scans.{no, yes}

-- the text of a name by its number among all names
pub text_of-map : (texts : List (List ℕ)) (ids : List NameId) (all : List (List ℕ)) (name d : NameId) → all ≡ texts → name.0 < length ids
    → text_of texts (get_or ids name.0 d) ≡ text_of (map (text_of all) ids) name
text_of-map texts ids all name d same below = subst (λ xs. text_of xs (get_or ids name.0 d) ≡ text_of (map (text_of all) ids) name) same (sym (get_or-map (text_of all) ids name.0 d [] below))

-- a look-up that finds a class exactly where one has the name
abbrev pub LooksUp : List DeclaredClass → List ℕ → Option ℕ → Type 0
LooksUp classes text o = (n : ℕ) → (o ≡ Some n) ↔ IsNamed classes text n

-- it finds none where no class has the name
pub none_named : (classes : List DeclaredClass) (text : List ℕ) → LooksUp classes text None → IsDeclared classes text → ⊥
none_named classes text says declared = let e = (says declared.0).1 declared.1 in cc

pub undeclared_by : (classes : List DeclaredClass) (text : List ℕ) (o : Option ℕ) (b : Bool) → LooksUp classes text o → is_some o ≡ not b → IsTrue b ↔ (IsDeclared classes text → ⊥)
undeclared_by classes text None true says e = yes (none_named classes text says)
undeclared_by classes text (Some n) false says e = no (λ none. none (n, (says n).0 refl))
undeclared_by classes text None false says e = absurd (false≢true e)
undeclared_by classes text (Some n) true says e = absurd (true≢false e)

module _ (classes : List DeclaredClass) (text : List ℕ) (n : ℕ) (says : LooksUp classes text (Some n)) where
  -- the class that it finds, the only one of that name
  pub named : IsNamed classes text n
  named = (says n).0 refl

  pub only_named : (k : ℕ) → IsNamed classes text k → n ≡ k
  only_named k h = let e = (says k).1 h in cc

  pub named_below : n < length classes
  named_below = slice_get-below classes n named.class named.there

-- a class below another, by their numbers
pub below_by : (w : World) (name above : List ℕ) (lower upper : ℕ) (b : Bool) → LooksUp w.classes name (Some lower) → LooksUp w.classes above (Some upper)
    → IsTrue b ↔ Sub w.rows lower upper → IsTrue b ↔ IsBelowName w name above
below_by w name above lower upper b lowers uppers sub = (
  λ e. record { lower = lower; is_lower = named w.classes name lower lowers; upper = upper; is_upper = named w.classes above upper uppers; below = sub.0 e },
  λ (h : IsBelowName w name above).
      let one = sym (only_named w.classes name lower lowers h.lower h.is_lower) in
      let two = sym (only_named w.classes above upper uppers h.upper h.is_upper) in
      sub.1 (subst (λ k. Sub w.rows k upper) one (subst (λ k. Sub w.rows h.lower k) two h.below)),
)

pub not_below_none : (w : World) (name above : List ℕ) → LooksUp w.classes name None → IsTrue false ↔ IsBelowName w name above
not_below_none w name above none = no (λ (h : IsBelowName w name above). none_named w.classes name none (h.lower, h.is_lower))

pub not_below_nothing : (w : World) (name above : List ℕ) → LooksUp w.classes above None → IsTrue false ↔ IsBelowName w name above
not_below_nothing w name above none = no (λ (h : IsBelowName w name above). none_named w.classes above none (h.upper, h.is_upper))

-- whether the class with this number can have objects
module _ (w : World) (name : List ℕ) (n : ℕ) (c : DeclaredClass) (says : LooksUp w.classes name (Some n)) (there : slice_get w.classes n ≡ Some c) where
  is_class : (k : ℕ) (h : IsNamed w.classes name k) → h.class ≡ c
  is_class k h = let at : slice_get w.classes n ≡ Some h.class = subst (λ i. slice_get w.classes i ≡ Some h.class) (sym (only_named w.classes name n says k h)) h.there in cc

  pub not_concrete_by : (b : Bool) → IsTrue b ↔ ((c.class.interface ≡ true) ⊎ (c.class.is_abstract ≡ true)) → IsTrue b ↔ IsNotConcrete w name
  not_concrete_by b is =
      let here = named w.classes name n says in (
        λ e. record { number = n; named = here; not_concrete = subst (λ (k : DeclaredClass). (k.class.interface ≡ true) ⊎ (k.class.is_abstract ≡ true)) (sym (is_class n here)) (is.0 e) },
        λ (h : IsNotConcrete w name). is.1 (subst (λ (k : DeclaredClass). (k.class.interface ≡ true) ⊎ (k.class.is_abstract ≡ true)) (is_class h.number h.named) h.not_concrete),
      )

pub concrete_none : (w : World) (name : List ℕ) → LooksUp w.classes name None → IsTrue false ↔ IsNotConcrete w name
concrete_none w name none = no (λ (h : IsNotConcrete w name). none_named w.classes name none (h.number, h.named))

-- whether field look-up finds none
pub finds_no_by : (w : World) (names : List (List ℕ)) (a : Access) (class : ℕ) (o : Option ℕ) (b : Bool) → LooksUp w.classes (text_of names a.sig.class) (Some class)
    → (key : ℕ) × IsFieldKeyNumber (fields_of w.classes) (accessed_key names a.is_static a.sig) key × FieldOf w.rows class key o → is_some o ≡ not b → IsTrue b ↔ FindsNo w names a
finds_no_by w names a class None true says (key, is_key, finds) e = yes (record { class = class; is_class = named w.classes (text_of names a.sig.class) class says; key = key; is_key = is_key; none = finds })
finds_no_by w names a class (Some row) false says (key, is_key, finds) e = no (λ (h : FindsNo w names a).
    let one = sym (only_named w.classes (text_of names a.sig.class) class says h.class h.is_class) in
    let fields = fields_of w.classes in
    let keys = first_one (length fields) (HasFieldKey fields (accessed_key names a.is_static a.sig)) h.key key h.is_key is_key in
    let none : FieldOf w.rows class key None = subst (λ k. FieldOf w.rows class k None) keys (subst (λ k. FieldOf w.rows k h.key None) one h.none) in
    let same = look_up_one w.rows class key None (Some row) none finds in
    cc (same))
finds_no_by w names a class None false says found e = absurd (false≢true e)
finds_no_by w names a class (Some row) true says found e = absurd (true≢false e)

pub finds_no_none : (w : World) (names : List (List ℕ)) (a : Access) → LooksUp w.classes (text_of names a.sig.class) None → IsTrue false ↔ FindsNo w names a
finds_no_none w names a none = no (λ (h : FindsNo w names a). none_named w.classes (text_of names a.sig.class) none (h.class, h.is_class))

-- whether method look-up finds none
none_found : (Finds : Option ℕ → Type 0) → ((r s : Option ℕ) → Finds r → Finds s → r ≡ s) → (o : Option ℕ) (b : Bool) → Finds o → is_some o ≡ not b → IsTrue b ↔ Finds None
none_found Finds one None true finds e = yes finds
none_found Finds one (Some row) false finds e = no (λ none. let same = one None (Some row) none finds in cc (same))
none_found Finds one None false finds e = absurd (false≢true e)
none_found Finds one (Some row) true finds e = absurd (true≢false e)

pub path_none : (rows : Rows) (class key : ℕ) (o : Option ℕ) (b : Bool) → OnPath rows class key o → is_some o ≡ not b → IsTrue b ↔ OnPath rows class key None
path_none rows class key o b finds e = none_found (OnPath rows class key) (λ r s p q. path_one rows class key r s p q) o b finds e
