-- The derived orders of keys say `Equal` exactly of what is equal.
use Rattle.std.proofs.Common.{◌≡◌, List, Bool, true, false, Ordering, Less, Equal, Greater, refl, sym, ap, subst, rules, true≢false}
use Rattle.std.specs.Bool.{Decides}
use Rattle.std.specs.Cmp.Lexicographic.{lists_ties, slice_cmp}
use Rattle.std.specs.Ordering.{bool_cmp, eq_by_cmp, is_eq, nat_cmp, ordering_then}
use Rattle.std.proofs.lemmas.Cmp.{eq_by_cmp_equiv, nat_cmp_total}
use Rattle.std.proofs.lemmas.Map.Lookups.{exact_unsigned}
use Rattle.std.proofs.lemmas.Map.Views.{tells_apart}
use Rattle.std.proofs.lemmas.Slice.Eq.{slice_eq-Decides}
use Rattle.jim_ast.specs.declared.names.NameId.{NameId}
use Rattle.link_classes.specs.contracts.keys.TypeInOrd.TheImpl as type_ord
use Rattle.link_classes.specs.contracts.keys.FieldKeyInOrd.TheImpl as field_key_ord
use Rattle.link_classes.specs.contracts.keys.MethodKeyInOrd.TheImpl as method_key_ord
use Rattle.link_classes.specs.declared.keys.FieldKeyIn.{FieldKeyIn}
use Rattle.link_classes.specs.declared.keys.MethodKeyIn.{MethodKeyIn}
use Rattle.link_classes.specs.declared.keys.TypeIn.{TypeIn}

-- two orders in turn, and the order of lists
module _ {P Q : Type 0} where
  then_decides : (a b : Ordering) → Decides (is_eq a) P → Decides (is_eq b) Q → Decides (is_eq (ordering_then a b)) (P × Q)
  then_decides Less b first second = (λ h. absurd (true≢false (sym h)), λ h. first.1 h.0)
  then_decides Equal b first second = (λ h. (first.0 refl, second.0 h), λ h. second.1 h.1)
  then_decides Greater b first second = (λ h. absurd (true≢false (sym h)), λ h. first.1 h.0)

lists_decide : {K : Type 0} (R : K → K → Ordering) → ((x y : K) → Decides (eq_by_cmp R x y) (x ≡ y)) → (xs ys : List K) → Decides (eq_by_cmp (slice_cmp R) xs ys) (xs ≡ ys)
lists_decide R each xs ys = slice_eq-Decides each xs ys (eq_by_cmp (slice_cmp R) xs ys) (sym (lists_ties R (λ x y. refl) xs ys))

name_decides : (m n : NameId) → Decides (is_eq (nat_cmp m.0 n.0)) (m ≡ n)
name_decides m n = (
  λ h. let e = tells_apart exact_unsigned m.0 n.0 h in λ i. record { 0 = e i },
  λ e. subst (λ (q : NameId). is_eq (nat_cmp m.0 q.0) ≡ true) e ((eq_by_cmp_equiv nat_cmp_total).refl m.0),
)

bool_decides : (a b : Bool) → Decides (is_eq (bool_cmp a b)) (a ≡ b)
bool_decides true true = (λ h. refl, λ e. refl)
bool_decides true false = (λ h. cc (h), λ e. cc (e))
bool_decides false true = (λ h. cc (h), λ e. cc (e))
bool_decides false false = (λ h. refl, λ e. refl)

type_decides : (x y : TypeIn) → Decides (eq_by_cmp (type_ord.ghosts).cmp x y) (x ≡ y)
type_decides x y = (same x y, λ e. subst (λ z. eq_by_cmp (type_ord.ghosts).cmp x z ≡ true) e (itself x))
  where
    same : (x y : TypeIn) → eq_by_cmp (type_ord.ghosts).cmp x y ≡ true → x ≡ y
    same x y h = search rules

    itself : (x : TypeIn) → eq_by_cmp (type_ord.ghosts).cmp x x ≡ true
    itself x = search rules

-- the parts of two keys of methods
pub record AreAlike (k q : MethodKeyIn) : Type 0 where
  pub name : k.name ≡ q.name
  pub params : k.params.items ≡ q.params.items
  pub result : k.result ≡ q.result
  pub is_static : k.is_static ≡ q.is_static

pub method_decides : (k q : MethodKeyIn) → Decides (eq_by_cmp (method_key_ord.ghosts).cmp k q) (AreAlike k q)
method_decides k q = (
  λ h. let parts = each.0 h in record { name = parts.0; params = parts.1.0; result = parts.1.1.0; is_static = parts.1.1.1 },
  λ same. each.1 (same.name, (same.params, (same.result, same.is_static))),
)
  where
    each : Decides (eq_by_cmp (method_key_ord.ghosts).cmp k q) ((k.name ≡ q.name) × ((k.params.items ≡ q.params.items) × ((k.result ≡ q.result) × (k.is_static ≡ q.is_static))))
    each =
        then_decides (nat_cmp k.name.0 q.name.0) _ (name_decides k.name q.name)
        (then_decides (slice_cmp (type_ord.ghosts).cmp k.params.items q.params.items) _ (lists_decide (type_ord.ghosts).cmp type_decides k.params.items q.params.items)
        (then_decides ((type_ord.ghosts).cmp k.result q.result) _ (type_decides k.result q.result) (bool_decides k.is_static q.is_static)))

pub field_decides : (k q : FieldKeyIn) → Decides (eq_by_cmp (field_key_ord.ghosts).cmp k q) (k ≡ q)
field_decides k q = (
  λ h. let parts = each.0 h in λ i. record { name = parts.0 i; ty = parts.1.0 i; is_static = parts.1.1 i },
  λ e. each.1 (ap (λ (z : FieldKeyIn). z.name) e, (ap (λ (z : FieldKeyIn). z.ty) e, ap (λ (z : FieldKeyIn). z.is_static) e)),
)
  where
    each : Decides (eq_by_cmp (field_key_ord.ghosts).cmp k q) ((k.name ≡ q.name) × ((k.ty ≡ q.ty) × (k.is_static ≡ q.is_static)))
    each = then_decides (nat_cmp k.name.0 q.name.0) _ (name_decides k.name q.name)
        (then_decides ((type_ord.ghosts).cmp k.ty q.ty) _ (type_decides k.ty q.ty) (bool_decides k.is_static q.is_static))
