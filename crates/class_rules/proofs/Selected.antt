-- The method that a call on an object runs: what is found, and that there is one answer.
use Rattle.std.proofs.Common.{◌≡◌, ℕ, ◌==◌, ◌&&◌, Option, Some, None, slice_get, refl, sym, subst, ◌∙◌, inl, eqb-true}
use Rattle.std.proofs.lemmas.Bool.{and_parts}
use Rattle.class_rules.specs.declared.rows.MethodRow.{MethodRow}
use Rattle.class_rules.specs.Laws.{IsMethodOver, SelectionFindsMethods, SelectionGivesOneAnswer}
use Rattle.class_rules.specs.Lookups.{IsDefault, OnPath, Resolve, ambiguous, by_default, nowhere, on_path, own_row}
use Rattle.class_rules.specs.Paths.{Path, here, step}
use Rattle.class_rules.specs.Rows.{HasParent, Rows, Sub}
use Rattle.class_rules.proofs.LawFacts.{path_finds, path_one, position_first}

some_or_none : (row : ℕ) → Some row ≡ None → ⊥
some_or_none row e = cc

pub selection_one : SelectionGivesOneAnswer
selection_one rows class key r s (on_path {row = a} p) (on_path {row = b} q) = path_one rows class key (Some a) (Some b) p q
selection_one rows class key r s (on_path {row = a} p) (by_default {row = b} off d only) = absurd (some_or_none a (path_one rows class key (Some a) None p off))
selection_one rows class key r s (on_path {row = a} p) (nowhere off none) = absurd (some_or_none a (path_one rows class key (Some a) None p off))
selection_one rows class key r s (on_path {row = a} p) (ambiguous two) = absurd (some_or_none a (path_one rows class key (Some a) None p two.off_path))
selection_one rows class key r s (by_default {row = a} off d only) (on_path {row = b} p) = absurd (some_or_none b (path_one rows class key (Some b) None p off))
selection_one rows class key r s (by_default {row = a} off d only) (by_default {row = b} off_too e only_too) = let same = only_too a d in cc
selection_one rows class key r s (by_default {row = a} off d only) (nowhere off_too none) = absurd (none a d)
selection_one rows class key r s (by_default {row = a} off d only) (ambiguous two) =
    absurd (two.apart (only two.one two.is_one ∙ sym (only two.other two.is_other)))
selection_one rows class key r s (nowhere off none) (on_path {row = b} p) = absurd (some_or_none b (path_one rows class key (Some b) None p off))
selection_one rows class key r s (nowhere off none) (by_default {row = b} off_too d only) = absurd (none b d)
selection_one rows class key r s (nowhere off none) (nowhere off_too none_too) = refl
selection_one rows class key r s (nowhere off none) (ambiguous two) = refl
selection_one rows class key r s (ambiguous two) (on_path {row = b} p) = absurd (some_or_none b (path_one rows class key (Some b) None p two.off_path))
selection_one rows class key r s (ambiguous two) (by_default {row = b} off d only) =
    absurd (two.apart (only two.one two.is_one ∙ sym (only two.other two.is_other)))
selection_one rows class key r s (ambiguous two) (nowhere off none) = refl
selection_one rows class key r s (ambiguous two) (ambiguous two_too) = refl

parents_below : (rows : Rows) {a b : ℕ} → Path (HasParent rows.classes) a b → Sub rows a b
parents_below rows here = here
parents_below rows (step h p) = step (inl h) (parents_below rows p)

-- the first row of a class with a key is of this class and has this key
pub owned_row : (rows : Rows) (class key row : ℕ) → own_row rows.methods class key ≡ Some row
    → (m : MethodRow) × (slice_get rows.methods row ≡ Some m) × (m.class ≡ class) × (m.key ≡ key)
owned_row rows class key row e =
    let m = position_first (λ (m : MethodRow). (m.class == class) && (m.key == key)) rows.methods row (sym e) in
    let names = and_parts (m.0.class == class) (m.0.key == key) m.2 in
    (m.0, m.1, eqb-true m.0.class class names.0, eqb-true m.0.key key names.1)

pub default_over : (rows : Rows) (class key row : ℕ) → IsDefault rows class key row → IsMethodOver rows class key row
default_over rows class key row d =
    let m = owned_row rows d.interface key row d.first in
    let same : m.0 ≡ d.method = cc (m.1, d.there) in
    record {
      method = d.method;
      there = d.there;
      has_key = subst (λ (x : MethodRow). x.key ≡ key) same m.3;
      bodied = d.bodied;
      above = subst (λ c. Sub rows class c) (sym (subst (λ (x : MethodRow). x.class ≡ d.interface) same m.2)) d.lowest.holder.reached;
    }

found_over : (rows : Rows) (class key : ℕ) (r : Option ℕ) → Resolve rows class key r → (row : ℕ) → r ≡ Some row → IsMethodOver rows class key row
found_over rows class key r (on_path {row = a} p) row e =
    let same : a ≡ row = cc in
    let m = path_finds rows class key row (subst (λ x. OnPath rows class key (Some x)) same p) in
    record { method = m.method; there = m.there; has_key = m.has_key; bodied = m.bodied; above = parents_below rows m.above }
found_over rows class key r (by_default {row = a} off d only) row e =
    let same : a ≡ row = cc in
    default_over rows class key row (subst (IsDefault rows class key) same d)
found_over rows class key r (nowhere off none) row e = cc
found_over rows class key r (ambiguous two) row e = cc

pub selection_finds : SelectionFindsMethods
selection_finds rows class key row p = found_over rows class key (Some row) p row refl
