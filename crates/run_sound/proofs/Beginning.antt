-- What the first state of a run keeps.
use Rattle.std.proofs.Common.{◌≡◌, ℕ, zero, suc, ◌+◌, ◌<◌, ◌++◌, Some, None, List, [], length, map, replicate, slice_get, refl, sym, ◌∙◌, subst, inl, inr, arith}
use Rattle.std.specs.List.{range_with_len}
use Rattle.std.proofs.lemmas.List.{length-replicate}
use Rattle.std.proofs.lemmas.List.FromFn.{get_or-map-range_with_len, length-map-range_with_len}
use Rattle.std.proofs.lemmas.Option.{slice_get_read}
use Rattle.lists.proofs.Places.{slice_get-append_left, slice_get-below, slice_get-there}
use Rattle.lists.proofs.Joined.{slice_get-append_right, slice_get-appended}
use Rattle.link_rules.specs.declared.code.Code.{Code}
use Rattle.link_rules.specs.Linked.{LinkedProgram}
use Rattle.link_laws.proofs.Lists.{map_at}
use Rattle.link_sites.specs.declared.site.Site.{Site}
use Rattle.link_sites.specs.declared.site.Site.TheVariants as site
use Rattle.link_sites.specs.Sites.{IsSiteClass}
use Rattle.spds_rules.specs.Demand.{Asked}
use Rattle.step_rules.specs.declared.parts.Slot.TheVariants.{Local, This, Param, Caught, Thrown}
use Rattle.step_rules.specs.declared.parts.Value.TheVariants.{Null, Object}
use Rattle.step_rules.specs.Runs.{IsFirstState, constants}
use Rattle.step_rules.specs.States.{HeapObject, State, new_frame, new_object}
use Rattle.run_sound.proofs.Calling.{unset}
use Rattle.run_sound.proofs.Invariant.{AreSlots, IsKept, IsMemory, IsObject, IsShaped, none, sites_of}

-- a constant's object
constant_there : (site : ℕ → Site) (class count i : ℕ) → i < count → slice_get (constants site class count) i ≡ Some (new_object (site i) class)
constant_there site class count i below =
    let f = λ (i : ℕ). new_object (site i) class in
    slice_get_read (map f (range_with_len 0 count)) count i (f i) (sym (length-map-range_with_len f 0 count)) below
    (sym (get_or-map-range_with_len f 0 count i i (f i) below (omega arith)))

-- each object of constants is one of them
at_constants : (site : ℕ → Site) (class count i : ℕ) (object : HeapObject) → slice_get (constants site class count) i ≡ Some object
    → (i < count) × (object ≡ new_object (site i) class)
at_constants site class count i object e =
    let f = λ (i : ℕ). new_object (site i) class in
    let below : i < count = omega (arith, slice_get-below (constants site class count) i object e, length-map-range_with_len f 0 count) in
    let is = constant_there site class count i below in
    (below, cc)

-- nothing is in a list of nulls
pub no_object : (n field x : ℕ) → slice_get (replicate n Null) field ≡ Some (Object x) → ⊥
no_object zero field x e = cc
no_object (suc n) zero x e = cc
no_object (suc n) (suc field) x e = no_object n field x e

module _ (p : LinkedProgram) (q : Asked) (s : State) (first : IsFirstState p s) where
  -- the objects of texts, and of class constants
  abbrev texts : List HeapObject
  texts = constants (λ i. site.Text i) first.string (length p.texts)

  abbrev classes : List HeapObject
  classes = constants (λ i. site.Class i) first.class (length p.class_texts)

  -- as many as there are texts
  many_texts : length texts ≡ length p.texts
  many_texts = length-map-range_with_len (λ i. new_object (site.Text i) first.string) 0 (length p.texts)

  -- the object of a text has its site
  text_there : (i : ℕ) → i < length p.texts → slice_get (sites_of (texts ++ classes)) i ≡ Some (site.Text i)
  text_there i below =
      let is = constant_there (λ i. site.Text i) first.string (length p.texts) i below in
      map_at (λ (h : HeapObject). h.site) (texts ++ classes) i (new_object (site.Text i) first.string) (slice_get-append_left texts classes i _ is)

  -- so has that of a class constant
  class_there : (i : ℕ) → i < length p.class_texts → slice_get (sites_of (texts ++ classes)) (length p.texts + i) ≡ Some (site.Class i)
  class_there i below =
      let is = constant_there (λ i. site.Class i) first.class (length p.class_texts) i below in
      let there : slice_get (texts ++ classes) (length texts + i) ≡ Some (new_object (site.Class i) first.class) = slice_get-append_right texts classes i ∙ is in
      let at : slice_get (texts ++ classes) (length p.texts + i) ≡ Some (new_object (site.Class i) first.class) = subst (λ n. slice_get (texts ++ classes) (n + i) ≡ Some (new_object (site.Class i) first.class)) many_texts there in
      map_at (λ (h : HeapObject). h.site) (texts ++ classes) (length p.texts + i) (new_object (site.Class i) first.class) at

  -- an object into which nothing was written
  fresh : (sites : List Site) (is_site : Site) (class : ℕ) → IsSiteClass p is_site class → IsObject p q sites (new_object is_site class)
  fresh sites is_site class is =
      record { class = is; fields = λ w has. let none = has.1 in cc; stored = λ w x has e. let none = has.1 in cc }

  -- each object is one of these
  objects : (x : ℕ) (object : HeapObject) → slice_get (texts ++ classes) x ≡ Some object → IsObject p q (sites_of (texts ++ classes)) object
  objects x object e = elim (slice_get-appended texts classes x object e) [
    | inl a ↦
        let at = at_constants (λ i. site.Text i) first.string (length p.texts) x object a in
        subst (IsObject p q (sites_of (texts ++ classes))) (sym at.1) (fresh (sites_of (texts ++ classes)) (site.Text x) first.string (at.0, first.is_string))
    | inr b ↦
        let at = at_constants (λ i. site.Class i) first.class (length p.class_texts) b.0 object b.2 in
        subst (IsObject p q (sites_of (texts ++ classes))) (sym at.1) (fresh (sites_of (texts ++ classes)) (site.Class b.0) first.class (at.0, first.is_class))
  ]

  -- the heap and the static fields
  memory : IsMemory p q (texts ++ classes) (replicate p.static_count Null)
  memory = record {
    constants = record { texts = text_there; classes = class_there };
    objects = objects;
    static_fields = λ field x n string e d load is. absurd (no_object p.static_count field x e);
  }

  -- the statement at which the root begins
  code_there : (c : Code) × (slice_get first.root.code 0 ≡ Some c)
  code_there = slice_get-there first.root.code 0 first.is_root.has_statements

  -- the frame of the root
  shaped : IsShaped p (new_frame first.number first.root None [])
  shaped = record {
    method = first.root;
    there = first.is_root.there;
    code = code_there.0;
    here = code_there.1;
    stands = tt;
    locals = length-replicate (length first.root.locals) None;
    params = sym first.is_root.no_params;
    this = sym first.is_root.no_receiver;
    thrown = λ e. refl;
    flies = λ e. cc;
  }

  -- none of its slots holds an object
  slots : AreSlots p q (sites_of (texts ++ classes)) (new_frame first.number first.root None []) []
  slots (Local y) x e d = absurd (unset (length first.root.locals) y (Object x) e)
  slots This x e d = cc
  slots (Param i) x e d = cc
  slots Caught x e d = cc
  slots Thrown x e d = cc

  -- the first state is kept
  pub kept_first : IsKept p q s
  kept_first = subst (IsKept p q) (sym first.is_state) (record {
    frames = inr ([], new_frame first.number first.root None [], refl, record { string = []; waits = none first.is_root.last; tracked = record { shaped = shaped; slots = slots } });
    memory = memory;
  })
