-- The objects of a run have instantiable classes.
use Rattle.std.proofs.Common.{◌≡◌, ℕ, suc, ◌++◌, List, [], ◌∷◌, Some, map, slice_get, slice_set, refl, sym, ap, ◌∙◌, subst, inl, inr}
use Rattle.std.specs.List.{range_with_len}
use Rattle.std.proofs.lemmas.Bool.{cases_eq}
use Rattle.lists.proofs.Places.{slice_get-below, slice_get-pushed, slice_get-set_other, slice_get-set_same}
use Rattle.lists.specs.Lists.{Has}
use Rattle.lists.proofs.Joined.{slice_get-appended}
use Rattle.link_rules.specs.Linked.{LinkedClass, LinkedProgram}
use Rattle.link_rules.specs.Classes.{object_name}
use Rattle.link_rules.specs.Targets.{nine_names}
use Rattle.link_rules.specs.WellLinked.{IsInstantiableIn, IsInstantiableWhereNamed, IsWellLinked}
use Rattle.link_laws.proofs.Lists.{at_all, at_map}
use Rattle.link_sites.specs.Sites.{IsClassOfRaised, IsNamedClass}
use Rattle.link_sites.specs.declared.site.Site.{Site}
use Rattle.step_rules.specs.States.{HeapObject, new_object}

-- each object has an instantiable class
abbrev pub IsReal : LinkedProgram → List HeapObject → Type 0
IsReal p heap = (i : ℕ) (object : HeapObject) → slice_get heap i ≡ Some object → IsInstantiableIn p object.class

module _ (p : LinkedProgram) (well : IsWellLinked p) where
  -- a class of one of the nine names is instantiable
  pub named_real : (name : List ℕ) (class : ℕ) → Has nine_names name → IsNamedClass p name class → IsInstantiableIn p class
  named_real name class h named =
      let c = at_map (λ (c : LinkedClass). c.name) p.classes class name named.holds in
      let all = at_all (IsInstantiableWhereNamed p) nine_names h.0 name well.nine h.1 in
      (c.0, c.1, all class c.0 c.1 (sym c.2))

  -- so is that of an implicit exception
  pub raised_real : (kind class : ℕ) → IsClassOfRaised p kind class → IsInstantiableIn p class
  raised_real kind class of = named_real of.0 class (suc (suc (suc kind)), of.1) of.2

  -- so is that of arrays
  pub object_real : (class : ℕ) → IsNamedClass p object_name class → IsInstantiableIn p class
  object_real class named = named_real object_name class (0, refl) named

  -- one more object
  pub pushed_real : (heap : List HeapObject) (object : HeapObject) → IsReal p heap → IsInstantiableIn p object.class → IsReal p (heap ++ object ∷ [])
  pushed_real heap object real new i o e = elim (slice_get-pushed heap object i o e) [
    | inl old ↦ real i o old
    | inr last ↦ subst (λ (x : HeapObject). IsInstantiableIn p x.class) (sym last.1) new
  ]

  -- an object of the same class in the place of another
  pub replaced_real : (heap : List HeapObject) (number : ℕ) (old object : HeapObject) → IsReal p heap → slice_get heap number ≡ Some old
      → object.class ≡ old.class → IsReal p (slice_set heap number object)
  replaced_real heap number old object real there same i o e = elim (cases_eq i number) [
    | inl here ↦
        let put = slice_get-set_same heap number object (slice_get-below heap number old there) in
        let is : object ≡ o = cc (put, e, here) in
        subst (λ class. IsInstantiableIn p class) (sym same ∙ ap (λ (x : HeapObject). x.class) is) (real number old there)
    | inr other ↦ real i o (sym (slice_get-set_other heap number i object other) ∙ e)
  ]

  -- the objects of so many constants
  pub constants_real : (site_of : ℕ → Site) (class from count : ℕ) → IsInstantiableIn p class
      → IsReal p (map (λ i. new_object (site_of i) class) (range_with_len from count))
  constants_real site_of class from count is i o e =
      let x = at_map (λ i. new_object (site_of i) class) (range_with_len from count) i o e in
      subst (λ (x : HeapObject). IsInstantiableIn p x.class) (sym x.2) is

  -- two heaps behind one another
  pub joined_real : (a b : List HeapObject) → IsReal p a → IsReal p b → IsReal p (a ++ b)
  joined_real a b first second i o e = elim (slice_get-appended a b i o e) [ inl h ↦ first i o h | inr h ↦ second h.0 o h.2 ]
