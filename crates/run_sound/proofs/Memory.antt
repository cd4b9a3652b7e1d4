-- The heap and the static fields, as steps change them.
use Rattle.std.proofs.Common.{◌≡◌, ℕ, ◌++◌, List, [], ◌∷◌, Some, slice_get, refl, sym, subst, inl, inr}
use Rattle.std.specs.List.{slice_set}
use Rattle.lists.proofs.Places.{slice_get-pushed}
use Rattle.link_rules.specs.Linked.{LinkedProgram}
use Rattle.link_sites.specs.declared.place.Place.{Place}
use Rattle.link_sites.specs.declared.site.Site.{Site}
use Rattle.link_sites.specs.Sites.{HasField, IsSiteClass}
use Rattle.spds_rules.specs.declared.node.Node.{Node}
use Rattle.spds_rules.specs.Demand.{Asked, Demand}
use Rattle.spds_rules.specs.Systems.{IsString}
use Rattle.step_rules.specs.declared.parts.Value.{Value}
use Rattle.step_rules.specs.declared.parts.Value.TheVariants.{Object}
use Rattle.step_rules.specs.States.{HeapObject, Write, new_object, written}
use Rattle.run_sound.specs.Simulated.{IsLoadedFrom}
use Rattle.run_sound.proofs.Growing.{Extends, constants_more, extends_more, extends_same, object_more, statics_more}
use Rattle.run_sound.proofs.Invariant.{IsMemory, IsObject, IsReached, IsStored, sites_of}
use Rattle.run_sound.proofs.Lists.{map-slice_set, slice_get-slice_set}

module _ (p : LinkedProgram) (q : Asked) where
  -- one more object, into which nothing was written
  pub memory_allocated : (heap : List HeapObject) (statics : List Value) → IsMemory p q heap statics → (site : Site) (class : ℕ) → IsSiteClass p site class
      → IsMemory p q (heap ++ new_object site class ∷ []) statics
  memory_allocated heap statics is site class is_class = record {
    constants = constants_more p q old all grows is.constants;
    objects = λ x object e. elim (slice_get-pushed heap (new_object site class) x object e) [
      | inl there ↦ object_more p q old all grows object (is.objects x object there)
      | inr last ↦ subst (IsObject p q all) (sym last.1) anew
    ];
    static_fields = statics_more p q old all grows statics is.static_fields;
  }
    where
      old : List Site
      old = sites_of heap

      all : List Site
      all = sites_of (heap ++ new_object site class ∷ [])

      grows : Extends old all
      grows = extends_more heap (new_object site class)

      anew : IsObject p q all (new_object site class)
      anew = record { class = is_class; fields = λ w has. let none = has.1 in cc; stored = λ w x has e. let none = has.1 in cc }

  -- one more write
  pub memory_written : (heap : List HeapObject) (statics : List Value) → IsMemory p q heap statics
      → (o field : ℕ) (value : Value) (object : HeapObject) → slice_get heap o ≡ Some object → HasField p object.site field
      → ((x : ℕ) → value ≡ Object x → IsStored p q (sites_of heap) object.site field x)
      → IsMemory p q (slice_set heap o (written object field value)) statics
  memory_written heap statics is o field value object there has stored = record {
    constants = constants_more p q old all grows is.constants;
    objects = λ x other e. object_more p q old all grows other (elim (slice_get-slice_set heap o x (written object field value) other e) [
      | inl replaced ↦ subst (IsObject p q old) (sym replaced.1) now
      | inr kept ↦ is.objects x other kept
    ]);
    static_fields = statics_more p q old all grows statics is.static_fields;
  }
    where
      old : List Site
      old = sites_of heap

      all : List Site
      all = sites_of (slice_set heap o (written object field value))

      same : all ≡ old
      same = map-slice_set (λ (h : HeapObject). h.site) heap o (written object field value) object there refl

      grows : Extends old all
      grows = extends_same old all same

      before_it : IsObject p q old object
      before_it = is.objects o object there

      last : Write
      last = record { field = field; value = value }

      now : IsObject p q old (written object field value)
      now = record {
        class = before_it.class;
        fields = λ w h. elim (slice_get-pushed object.writes last h.0 w h.1) [
          | inl was ↦ before_it.fields w (h.0, was)
          | inr is ↦ subst (λ (w : Write). HasField p object.site w.field) (sym is.1) has
        ];
        stored = λ w x h e. elim (slice_get-pushed object.writes last h.0 w h.1) [
          | inl was ↦ before_it.stored w x (h.0, was) e
          | inr is ↦ subst (λ (w : Write). w.value ≡ Object x → IsStored p q old object.site w.field x) (sym is.1) (stored x) e
        ];
      }

  -- a static field gets another value
  pub memory_set : (heap : List HeapObject) (statics : List Value) → IsMemory p q heap statics → (field : ℕ) (value : Value)
      → ((x : ℕ) (n : Node) (string : List Place) → value ≡ Object x → Demand p q n → IsLoadedFrom p field n → IsString p n.place.method string
      → IsReached p q (sites_of heap) n string x)
      → IsMemory p q heap (slice_set statics field value)
  memory_set heap statics is field value loads = record {
    constants = is.constants;
    objects = is.objects;
    static_fields = λ f x n string e d load is_string. elim (slice_get-slice_set statics field f value (Object x) e) [
      | inl set ↦ loads x n string (sym set.1) d (subst (λ f. IsLoadedFrom p f n) set.0 load) is_string
      | inr kept ↦ is.static_fields f x n string kept d load is_string
    ];
  }
