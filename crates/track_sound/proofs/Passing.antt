-- Whether a call passes a variable, and whether all of its formals are settled.
use Rattle.std.proofs.Common.{◌≡◌, ℕ, ◌⊎◌, Bool, true, false, true≢false, Some, slice_get, refl, sym, ap, ◌∙◌, subst, inl, inr}
use Rattle.std.proofs.lemmas.Bool.{cases_eq}
use Rattle.class_rules.proofs.Decided.{IsDecided, anywhere_decided, both_decided, same_decided, some_decided, there_decided}
use Rattle.link_rules.specs.declared.code.Arg.{Arg}
use Rattle.link_rules.specs.declared.code.Arg.TheVariants as arg
use Rattle.link_rules.specs.Linked.{LinkedMethod, LinkedProgram}
use Rattle.link_sites.specs.declared.place.Place.{Place}
use Rattle.spds_rules.specs.declared.node.Var.{Var}
use Rattle.spds_rules.specs.declared.node.Var.TheVariants.{Local, This, Param, Caught, Thrown, Made, Nested, Raised, Text, Class}
use Rattle.spds_rules.specs.Edges.{Passes}
use Rattle.spds_rules.specs.Nodes.{arg_var}
use Rattle.track_systems.specs.Settled.{CallAt, IsKept, IsPassedTo, IsSettled, IsUnsettled, PassesAt, is_settled}

-- whether an operand is this local
arg_decided : (a : Arg) (x : ℕ) → IsDecided (arg_var a ≡ Some (Local x))
arg_decided (arg.Local y) x = same_decided (λ e. ap (λ (n : ℕ). Some (Local n)) e) (λ e. cc (e)) (cases_eq y x)
arg_decided arg.Number x = inr (λ e. cc (e))
arg_decided arg.Null x = inr (λ e. cc (e))
arg_decided (arg.Text i) x = inr (λ e. cc (e))
arg_decided (arg.Class i) x = inr (λ e. cc (e))

false_not_true : (b : Bool) → (b ≡ true) ⊎ (b ≡ false)
false_not_true true = inl refl
false_not_true false = inr refl

module _ {p : LinkedProgram} {c : Place} (call : CallAt p c) (x : ℕ) where
  -- a formal that isn't settled, at the position
  abbrev Unsettled : Var → Type 0
  Unsettled position = (number : ℕ) × (target : ℕ) × (slice_get call.targets number ≡ Some target)
      × ((method : LinkedMethod) × (slice_get p.methods target ≡ Some method) × (is_settled method.code position ≡ false))

  unsettled_decided : (position : Var) → IsDecided (Unsettled position)
  unsettled_decided position = anywhere_decided
      (λ (number target : ℕ). (method : LinkedMethod) × (slice_get p.methods target ≡ Some method) × (is_settled method.code position ≡ false))
      (λ number target. there_decided (λ (method : LinkedMethod). is_settled method.code position ≡ false)
      (λ method. elim (false_not_true (is_settled method.code position)) [ inl so ↦ inr (λ other. true≢false (sym so ∙ other)) | inr fails ↦ inl fails ]) p.methods target) call.targets

  -- it passes the local as its receiver
  this_decided : IsDecided (call.receiver ≡ Some x)
  this_decided = some_decided call.receiver x

  -- it passes it as a parameter
  param_decided : IsDecided ((i : ℕ) × (a : Arg) × (slice_get call.args i ≡ Some a) × (arg_var a ≡ Some (Local x)))
  param_decided = anywhere_decided (λ (i : ℕ) (a : Arg). arg_var a ≡ Some (Local x)) (λ i a. arg_decided a x) call.args

  -- it passes it as a parameter of which a formal isn't settled
  param_unsettled : IsDecided ((i : ℕ) × (a : Arg) × (slice_get call.args i ≡ Some a) × ((arg_var a ≡ Some (Local x)) × Unsettled (Param i)))
  param_unsettled = anywhere_decided (λ (i : ℕ) (a : Arg). (arg_var a ≡ Some (Local x)) × Unsettled (Param i))
      (λ i a. both_decided (arg_decided a x) (unsettled_decided (Param i))) call.args

  this_unsettled : IsDecided ((call.receiver ≡ Some x) × Unsettled This)
  this_unsettled = both_decided this_decided (unsettled_decided This)

  passed_as : (position : Var) → PassesAt call (Local x) position → ((position ≡ This) × (call.receiver ≡ Some x))
      ⊎ ((i : ℕ) × (position ≡ Param i) × ((a : Arg) × (slice_get call.args i ≡ Some a) × (arg_var a ≡ Some (Local x))))
  passed_as This h = let y = h.2.0 in let one = h.1 in let two = h.2.2 in let same : x ≡ y = cc in inl (refl, h.2.1 ∙ ap Some (sym same))
  passed_as (Param i) h = let one = h.1 in inr (i, refl, (h.2.0, h.2.1, h.2.2))
  passed_as (Local y) h = absurd h.2
  passed_as Caught h = absurd h.2
  passed_as Thrown h = absurd h.2
  passed_as Made h = absurd h.2
  passed_as (Nested level) h = absurd h.2
  passed_as (Raised kind) h = absurd h.2
  passed_as (Text number) h = absurd h.2
  passed_as (Class number) h = absurd h.2

  -- where no formal is unsettled, each is settled
  all_settled : ((call.receiver ≡ Some x) × Unsettled This → ⊥)
      → ((i : ℕ) × (a : Arg) × (slice_get call.args i ≡ Some a) × ((arg_var a ≡ Some (Local x)) × Unsettled (Param i)) → ⊥)
      → (other : Var) (method : LinkedMethod) → IsPassedTo call (Local x) other method → is_settled method.code other ≡ true
  all_settled not_this not_param other method to = elim (false_not_true (is_settled method.code other)) [
    | inl so ↦ so
    | inr fails ↦
        let found : Unsettled other = (to.has.0, to.target, to.has.1, (method, to.there, fails)) in
        elim (passed_as other to.passes) [
          | inl this ↦ absurd (not_this (this.1, subst Unsettled this.0 found))
          | inr param ↦ absurd (not_param (param.0, param.2.0, param.2.1, (param.2.2, subst Unsettled param.1 found)))
        ]
  ]

  -- an unsettled formal, as it is defined
  unsettled_at : (position : Var) → Passes call.receiver call.args (Local x) position → Unsettled position → IsUnsettled call (Local x)
  unsettled_at position passes u = record {
    position = position;
    method = u.3.0;
    passed = record { passes = (x, refl, passes); target = u.1; has = (u.0, u.2); there = u.3.1 };
    unsettled = u.3.2;
  }

  local_passed : IsKept call (Local x) ⊎ (IsSettled call (Local x) ⊎ IsUnsettled call (Local x))
  local_passed = elim this_unsettled [
    | inl this ↦ inr (inr (unsettled_at This (x, this.0, refl) this.1))
    | inr not_this ↦ elim param_unsettled [
      | inl param ↦ inr (inr (unsettled_at (Param param.0) (param.1, param.2, param.3.0) param.3.1))
      | inr not_param ↦ elim this_decided [
        | inl receiver ↦ inr (inl (record { position = This; passes = (x, refl, (x, receiver, refl)); all = all_settled not_this not_param }))
        | inr no_receiver ↦ elim param_decided [
          | inl param ↦ inr (inl (record { position = Param param.0; passes = (x, refl, (param.1, param.2, param.3)); all = all_settled not_this not_param }))
          | inr no_param ↦ inl (λ position h. elim (passed_as position h) [ inl this ↦ no_receiver this.1 | inr param ↦ no_param (param.0, param.2.0, param.2.1, param.2.2) ])
        ]
      ]
    ]
  ]

-- a variable that is no local isn't passed
pub not_passed : {p : LinkedProgram} {c : Place} (call : CallAt p c) (v : Var) → ((x : ℕ) → v ≡ Local x → ⊥) → IsKept call v
not_passed call v not_local position h = not_local h.0 h.1

-- a call passes a variable, with settled formals or with some other, or it doesn't
pub passed_or_not : {p : LinkedProgram} {c : Place} (call : CallAt p c) (v : Var) → IsKept call v ⊎ (IsSettled call v ⊎ IsUnsettled call v)
passed_or_not call (Local x) = local_passed call x
passed_or_not call This = inl (λ position h. let e = h.1 in cc (e))
passed_or_not call (Param i) = inl (λ position h. let e = h.1 in cc (e))
passed_or_not call Caught = inl (λ position h. let e = h.1 in cc (e))
passed_or_not call Thrown = inl (λ position h. let e = h.1 in cc (e))
passed_or_not call Made = inl (λ position h. let e = h.1 in cc (e))
passed_or_not call (Nested level) = inl (λ position h. let e = h.1 in cc (e))
passed_or_not call (Raised kind) = inl (λ position h. let e = h.1 in cc (e))
passed_or_not call (Text number) = inl (λ position h. let e = h.1 in cc (e))
passed_or_not call (Class number) = inl (λ position h. let e = h.1 in cc (e))
