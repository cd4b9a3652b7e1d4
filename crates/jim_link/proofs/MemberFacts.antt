-- The classes, the keys and the fields, one after another.
use Rattle.std.proofs.Common.{◌≡◌, ℕ, ◌+◌, ◌<◌, ◌++◌, Bool, true, false, cond, List, [], ◌∷◌, Some, length, map, take, slice_get, sym, ap, subst, ◌∙◌}
use Rattle.std.specs.Prelude.{filter, not}
use Rattle.std.proofs.lemmas.List.{append-nil, map-append, take_more}
use Rattle.std.proofs.lemmas.List.Elements.{filter_more}
use Rattle.std.proofs.lemmas.Option.{get_or_from_slice_get}
use Rattle.lists.proofs.Places.{slice_get-below, slice_get-there}
use Rattle.lists.proofs.SideBySide.{Each-more}
use Rattle.link_program.specs.Parts.{linked_field}
use Rattle.link_program.specs.declared.parts.FieldEntry.{FieldEntry}
use Rattle.link_rules.specs.Linked.{IsLinkedClass, LinkedClass, LinkedField, instance_fields, linked_field_of}
use Rattle.lists.specs.Lists.{Each}
use Rattle.link_rules.specs.Classes.{DeclaredClass, DeclaredField}

-- one field more
module _ (fields : List DeclaredField) (row : ℕ) (f : DeclaredField) (there : slice_get fields row ≡ Some f) where
  -- the instance fields with it
  kept : filter (λ g. not g.decl.is_static) (take (row + 1) fields) ≡ filter (λ g. not g.decl.is_static) (take row fields) ++ cond (not f.decl.is_static) (f ∷ []) []
  kept = subst (λ (g : DeclaredField). filter (λ h. not h.decl.is_static) (take (row + 1) fields) ≡ filter (λ h. not h.decl.is_static) (take row fields) ++ cond (not g.decl.is_static) (g ∷ []) [])
      (get_or_from_slice_get fields row f f there) (filter_more (λ g. not g.decl.is_static) fields row f (slice_get-below fields row f there))

  -- the same, by its flag
  kept_by : (b : Bool) → f.decl.is_static ≡ b
      → filter (λ g. not g.decl.is_static) (take (row + 1) fields) ≡ filter (λ g. not g.decl.is_static) (take row fields) ++ cond (not b) (f ∷ []) []
  kept_by b is = kept ∙ ap (λ s. filter (λ g. not g.decl.is_static) (take row fields) ++ cond (not s) (f ∷ []) []) is

  -- an instance field comes last
  instance_last : f.decl.is_static ≡ false → instance_fields (take (row + 1) fields) ≡ instance_fields (take row fields) ++ linked_field_of f ∷ []
  instance_last is = ap (map linked_field_of) (kept_by false is) ∙ map-append linked_field_of (filter (λ g. not g.decl.is_static) (take row fields)) (f ∷ [])

  -- so does its entry
  pub field_last : f.decl.is_static ≡ false → (entries : List FieldEntry) (e : FieldEntry) → map linked_field entries ≡ instance_fields (take row fields)
      → linked_field e ≡ linked_field_of f → map linked_field (entries ++ e ∷ []) ≡ instance_fields (take (row + 1) fields)
  field_last is entries e before same =
      map-append linked_field entries (e ∷ []) ∙ ap (λ (ls : List LinkedField). ls ++ linked_field e ∷ []) before
      ∙ ap (λ (l : LinkedField). instance_fields (take row fields) ++ l ∷ []) same ∙ sym (instance_last is)

  -- a static field has no part in them
  pub no_instance : f.decl.is_static ≡ true → instance_fields (take (row + 1) fields) ≡ instance_fields (take row fields)
  no_instance is = ap (map linked_field_of) (kept_by true is ∙ append-nil (filter (λ g. not g.decl.is_static) (take row fields)))

-- one element more
pub taken_more : {X : Type 0} (xs : List X) (i : ℕ) (x : X) → slice_get xs i ≡ Some x → take (i + 1) xs ≡ take i xs ++ x ∷ []
taken_more xs i x there = take_more xs i x (slice_get-below xs i x there) ∙ ap (λ z. take i xs ++ z ∷ []) (get_or_from_slice_get xs i x x there)

-- one key more
pub mapped_taken : {X Y : Type 0} (f : X → Y) (ys : List Y) (i : ℕ) (x : X) (old now : List X) → slice_get ys i ≡ Some (f x) → map f old ≡ take i ys → now ≡ old ++ x ∷ []
    → map f now ≡ take (i + 1) ys
mapped_taken f ys i x old now there before put =
    ap (map f) put ∙ map-append f old (x ∷ []) ∙ ap (λ zs. zs ++ f x ∷ []) before ∙ sym (taken_more ys i (f x) there)

-- one class more
pub class_more : (cs : List DeclaredClass) (i : ℕ) (l : LinkedClass) (ls now : List LinkedClass) → i < length cs
    → ((c : DeclaredClass) → slice_get cs i ≡ Some c → IsLinkedClass c l) → now ≡ ls ++ l ∷ [] → Each IsLinkedClass (take i cs) ls → Each IsLinkedClass (take (i + 1) cs) now
class_more cs i l ls now below made put before =
    let t = slice_get-there cs i below in
    Each-more IsLinkedClass cs ls now i t.0 l below put before (subst (λ (c : DeclaredClass). IsLinkedClass c l) (sym (get_or_from_slice_get cs i t.0 t.0 t.1)) (made t.0 t.1))
