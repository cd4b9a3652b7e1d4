-- What follows from what is kept of the classes.
use Rattle.std.proofs.Common.{◌≡◌, ℕ, ◌<◌, ◌≤◌, ◌⊎◌, List, Option, Some, None, IfNone, IfSome, Err, length, refl, sym, ap, subst, inl, inr, arith}
use Rattle.std.specs.declared.result.Result.{Result}
use Rattle.std.proofs.lemmas.Bool.{cases_order}
use Rattle.class_rules.specs.Rows.{Step}
use Rattle.link_rules.specs.Classes.{IsNamed}
use Rattle.link_rules.specs.World.{AreRows, World}
use Rattle.link_classes.specs.RowTables.{IsSound}
use Rattle.link_classes.specs.Seen.{IsFirstNamed}

-- the first class of a name is the only one
pub single_named : (w : World) → IsSound w → (text : List ℕ) (o : Option ℕ) → IsFirstNamed w.classes text o
    → (n : ℕ) → (o ≡ Some n → IsNamed w.classes text n) × (IsNamed w.classes text n → o ≡ Some n)
single_named w sound text None first n = (λ e. cc (e), λ h. absurd (first (n, h)))
single_named w sound text (Some m) first n = (
  λ e. (let same : m ≡ n = cc (e) in subst (IsNamed w.classes text) same first.holds),
  λ h. elim (cases_order m n) [
    | inl same ↦ ap Some same
    | inr apart ↦ elim apart [
      | inl below ↦ absurd (sound.single n (record {
        class = h.class;
        there = h.there;
        earlier = m;
        before = below;
        same = subst (λ t. IsNamed w.classes t m) (sym h.named) first.holds;
      }))
      | inr above ↦ absurd (first.first n above h)
    ]
  ],
)

below_or_not : (b n : ℕ) → (b < n) ⊎ (n ≤ b)
below_or_not b n = grind arith

-- a parent or an interface is a class
pub step_to : (w : World) → IsSound w → AreRows w.classes w.rows → (a b : ℕ) → Step w.rows.classes w.rows.implements a b → b < length w.classes
step_to w sound rows a b step = elim (below_or_not b (length w.rows.classes)) [
  | inl below ↦ omega (arith, below, rows.class_rows.as_many)
  | inr beyond ↦ absurd (sound.known a (b, step, beyond))
]

-- a fact of an option's value, and of its lack
pub if_some : {X : Type 0} (o : Option X) (P : X → Type 0) → ((x : X) → o ≡ Some x → P x) → IfSome o P
if_some None P h = tt
if_some (Some x) P h = h x refl

pub if_none : {X : Type 0} (o : Option X) (Q : Type 0) → (o ≡ None → Q) → IfNone o Q
if_none None Q h = h refl
if_none (Some x) Q h = tt

-- errors that are given alike are one
pub same_error : {T E : Type 0} (x y : E) → ◌≡◌ {A = Result T E} (Err x) (Err y) → x ≡ y
same_error x y e = cc (e)
