-- The instance fields by their class and name.
use Rattle.std.proofs.Common.{◌≡◌, ℕ, zero, suc, ◌+◌, ◌<◌, ◌≤◌, List, Some, length, map, slice_get, get_or, sym, ap, ◌∙◌, subst, inl, inr, arith}
use Rattle.std.specs.Option.{option_map}
use Rattle.std.proofs.lemmas.Bool.{cases_order}
use Rattle.std.proofs.lemmas.Option.{same_Some, slice_get-get_or, slice_get-map}
use Rattle.std.proofs.lemmas.List.{length-map}
use Rattle.lists.proofs.Places.{slice_get-below}
use Rattle.lists.specs.Lists.{IsLeast}
use Rattle.link_program.specs.declared.parts.FieldEntry.{FieldEntry}
use Rattle.link_rules.specs.Linked.{LinkedField, LinkedProgram}
use Rattle.link_rules.specs.Accessed.{IsEntryNamed, field_class}
use Rattle.link_program.specs.Parts.{linked_field}

module _ (fs : List FieldEntry) (class : ℕ) (name : List ℕ) where
  -- no entry up to the number is of this class and this name
  abbrev pub AreOthers : ℕ → Type 0
  AreOthers number = (field : ℕ) → field ≤ number → IsEntryNamed (map linked_field fs) class name field → ⊥

  module _ (i : ℕ) (f : FieldEntry) (below : i < length fs) (read : f ≡ get_or fs i f) where
    -- the entry there
    entry_there : slice_get (map linked_field fs) i ≡ Some (linked_field f)
    entry_there = slice_get-map linked_field fs i ∙ ap (option_map linked_field) (slice_get-get_or fs i f below ∙ ap Some (sym read))

    -- it is the first where none before it is one
    pub is_found : f.class ≡ class → f.name ≡ name → AreOthers i → IsLeast (IsEntryNamed (map linked_field fs) class name) (i + 1)
    is_found of_class of_name others = subst (IsLeast (IsEntryNamed (map linked_field fs) class name)) (omega arith) first_there where
      first_there : IsLeast (IsEntryNamed (map linked_field fs) class name) (suc i)
      first_there = record {
        holds = entry_there ∙ ap Some (λ j. record { class = of_class j; name = of_name j });
        first = λ m before. others m (omega (arith, before));
      }

    -- one more that isn't
    pub others_more : (f.class ≡ class → f.name ≡ name → ⊥) → AreOthers i → AreOthers (i + 1)
    others_more not others zero within named = absurd named
    others_more not others (suc k) within named = elim (cases_order k i) [
      | inl same ↦
          let there : slice_get (map linked_field fs) i ≡ Some (record { class = class; name = name }) = ap (slice_get (map linked_field fs)) (sym same) ∙ named in
          let is = same_Some (linked_field f) (record { class = class; name = name }) (sym entry_there ∙ there) in
          absurd (not (ap (λ (l : LinkedField). l.class) is) (ap (λ (l : LinkedField). l.name) is))
      | inr apart ↦ elim apart [
        | inl less ↦ others (suc k) (omega (arith, less)) named
        | inr more ↦ absurd (omega (arith, more, within))
      ]
    ]

  -- none is
  pub no_entry : (i : ℕ) → length fs ≤ i → AreOthers i → (field : ℕ) → IsEntryNamed (map linked_field fs) class name field → ⊥
  no_entry i past others zero named = absurd named
  no_entry i past others (suc k) named = elim (cases_order (suc k) i) [
    | inl same ↦ others (suc k) (omega (arith, same)) named
    | inr apart ↦ elim apart [
      | inl less ↦ others (suc k) (omega (arith, less)) named
      | inr more ↦ absurd (omega (arith, slice_get-below (map linked_field fs) k (record { class = class; name = name }) named, length-map fs linked_field, past, more))
    ]
  ]

-- the class of the field behind an entry
pub class_at : (p : LinkedProgram) (fs : List FieldEntry) (at field : ℕ) (f : FieldEntry) → p.fields ≡ map linked_field fs → at < length fs → f ≡ get_or fs at f → field ≡ at + 1
    → Some f.class ≡ field_class p field
class_at p fs at field f are below read is = let same : suc at ≡ field = omega (arith, is) in subst (λ n. Some f.class ≡ field_class p n) same there
  where
    there : Some f.class ≡ field_class p (suc at)
    there = sym (
        ap (λ (fields : List LinkedField). slice_get (map (λ (l : LinkedField). l.class) fields) at) are ∙ slice_get-map (λ (l : LinkedField). l.class) (map linked_field fs) at
        ∙ ap (option_map (λ (l : LinkedField). l.class)) (slice_get-map linked_field fs at ∙ ap (option_map linked_field) (slice_get-get_or fs at f below ∙ ap Some (sym read)))
        )
