-- Words of fields, from what is held directly and from single writes.
use Rattle.std.proofs.Common.{◌≡◌, ℕ, zero, suc, ◌++◌, ◌==◌, Option, Some, None, List, [], ◌∷◌, slice_get, refl, sym, ap, ◌∙◌, subst, append_assoc, inl, inr}
use Rattle.std.specs.List.{last_or}
use Rattle.std.proofs.lemmas.Bool.{eqb-true}
use Rattle.std.proofs.lemmas.List.{append-nil}
use Rattle.lists.specs.Lists.{Has}
use Rattle.link_rules.specs.Linked.{LinkedProgram}
use Rattle.link_laws.proofs.Lists.{at_map, map_at}
use Rattle.link_sites.specs.declared.place.Place.{Place}
use Rattle.link_sites.specs.declared.site.Site.{Site}
use Rattle.link_sites.specs.Sites.{HasField}
use Rattle.spds_rules.specs.declared.node.Node.{Node}
use Rattle.spds_rules.specs.declared.store.StoreAt.{StoreAt}
use Rattle.spds_rules.specs.Demand.{Asked, Demand, Demanded, FieldIn}
use Rattle.spds_rules.specs.Systems.{Calls, Fields, Meets}
use Rattle.spds_laws.proofs.Compose.{strings_within, words_composed}
use Rattle.spds_laws.proofs.Rounds.{meets_closed}
use Rattle.step_rules.specs.declared.parts.Value.{Value}
use Rattle.step_rules.specs.declared.parts.Value.TheVariants.{Object}
use Rattle.step_rules.specs.Slots.{Follows, LeadsTo, field_of, here, or_null, through, values_of}
use Rattle.step_rules.specs.States.{HeapObject, Write}
use Rattle.run_sound.specs.Simulated.{AreDemanded, IsFound}
use Rattle.run_sound.proofs.Invariant.{IsObject, IsStored, sites_of}
use Rattle.run_sound.proofs.Lists.{in_filter, last_there}

-- the value was written into the field
abbrev pub WasWritten : HeapObject → ℕ → Value → Type 0
WasWritten object field value = (w : Write) × Has object.writes w × (w.field ≡ field) × (w.value ≡ value)

-- the values of a field were written into it
pub values_written : (object : HeapObject) (field : ℕ) (value : Value) → Has (values_of object field) value → WasWritten object field value
values_written object field value has =
    let from = at_map (λ (w : Write). w.value) _ has.0 value has.1 in
    let there = in_filter (λ (w : Write). w.field == field) object.writes has.0 from.0 from.1 in
    (from.0, there.0, eqb-true from.0.field field there.1, sym from.2)

-- an object that is a field's value was written into it
pub field_written : (object : HeapObject) (field x : ℕ) → field_of object field ≡ Object x → WasWritten object field (Object x)
field_written object field x e = by (last_or None (values_of object field)) refl e
  where
    by : (o : Option Value) → last_or None (values_of object field) ≡ o → or_null o ≡ Object x → WasWritten object field (Object x)
    by None is e = cc
    by (Some v) is e = elim (last_there None (values_of object field) (Object x) (is ∙ ap Some e)) [
      | inl none ↦ cc
      | inr has ↦ values_written object field (Object x) has
    ]

-- what a field leads to was written into it
pub led_written : (object : HeapObject) (field x : ℕ) → LeadsTo object field (Object x) → WasWritten object field (Object x)
led_written object zero x leads = values_written object zero (Object x) leads
led_written object (suc field) x leads = field_written object (suc field) x leads

-- the site of an object
pub site_there : (heap : List HeapObject) (x : ℕ) (object : HeapObject) → slice_get heap x ≡ Some object → slice_get (sites_of heap) x ≡ Some object.site
site_there heap x object e = map_at (λ (object : HeapObject). object.site) heap x object e

-- and the object of a site
pub object_there : (heap : List HeapObject) (x : ℕ) (site : Site) → slice_get (sites_of heap) x ≡ Some site
    → (object : HeapObject) × (slice_get heap x ≡ Some object) × (site ≡ object.site)
object_there heap x site e = at_map (λ (object : HeapObject). object.site) heap x site e

module _ (p : LinkedProgram) (q : Asked) where
  -- what was stored into a demanded field meets the base
  pub record IsMet (sites : List Site) (base : Site) (s : StoreAt) (x : ℕ) : Type 0 where
    pub site : Site
    pub of_site : slice_get sites x ≡ Some site
    pub meets : Meets p q site base s
    pub at_arg : Fields p q site s.arg []

  -- it does, as the two nodes of the store are demanded
  pub met : (sites : List Site) (base : Site) (field x : ℕ) (stored : IsStored p q sites base field x) → HasField p base field → FieldIn p q field
      → IsMet sites base stored.store x
  met sites base field x stored has field_in =
      let demanded_base : Demand p q stored.store.base = Demanded.base field_in.edge field_in.demanded stored.is_store stored.is_field in
      let demanded_arg : Demand p q stored.store.arg = Demanded.arg field_in.edge field_in.demanded stored.is_store stored.is_field in
      let r = stored.at_arg demanded_arg in
      let b = stored.at_base demanded_base in
      record {
        site = r.site;
        of_site = r.of_site;
        meets = meets_closed p q r.site base stored.store (
          stored.string,
          record {
            store = (stored.is_store, subst (FieldIn p q) (sym stored.is_field) field_in);
            at_arg = r.by_calls;
            at_base = b.1;
            is_base = b.0;
            has = subst (HasField p base) (sym stored.is_field) has;
          },
        );
        at_arg = r.by_fields;
      }

  -- a word from an object goes on behind a word to it
  pub words_go_on : (heap : List HeapObject) (objects : (x : ℕ) (object : HeapObject) → slice_get heap x ≡ Some object → IsObject p q (sites_of heap) object)
      → {x o : ℕ} {word : List ℕ} → Follows heap x word o
      → (n : Node) (front : List ℕ) (string : List Place) (object : HeapObject) → slice_get heap x ≡ Some object → Fields p q object.site n front
      → Calls p q object.site n string → AreDemanded p q word
      → IsFound p q heap n (front ++ word) string o
  words_go_on heap objects here = λ n front string object there fields calls demanded.
      record { object = object; there = there; by_fields = rw append-nil fields; by_calls = calls }
  words_go_on heap objects (through {o} {field} {next} {last} {word} {object = owner} at leads rest) = λ n front string object there fields calls demanded.
      let same : owner ≡ object = cc in
      let w = led_written owner field next leads in
      let is = objects o owner at in
      let stored = subst (λ f. IsStored p q (sites_of heap) owner.site f next) w.2 (is.stored w.0 next w.1 w.3) in
      let has = subst (HasField p owner.site) w.2 (is.fields w.0 w.1) in
      let m = met (sites_of heap) owner.site field next stored has (demanded field (0, refl)) in
      let there_too = object_there heap next m.site m.of_site in
      let to = subst (λ s. Meets p q s owner.site stored.store) there_too.2 m.meets in
      let at_arg = subst (λ s. Fields p q s stored.store.arg []) there_too.2 m.at_arg in
      let longer = words_composed p q there_too.0.site owner.site stored.store to n front [] (subst (λ (h : HeapObject). Fields p q h.site n front) (sym same) fields) at_arg in
      let longer_too = subst (λ f. Fields p q there_too.0.site n (front ++ f ∷ [])) stored.is_field longer in
      let string_too = strings_within p q there_too.0.site owner.site stored.store to n string (subst (λ (h : HeapObject). Calls p q h.site n string) (sym same) calls) in
      let whole = words_go_on heap objects rest n (front ++ field ∷ []) string there_too.0 there_too.1 longer_too string_too (λ f h. demanded f (suc h.0, h.1)) in
      rw (← append_assoc front (field ∷ []) word) whole
