-- What a call does at some positions, and at others.
use Rattle.std.proofs.Common.{◌≡◌, ◌↔◌, ◌⊎◌, inl, inr, ℕ, ◌+◌, ◌<◌, ◌≤◌, List, Option, Some, false, true, length, slice_get, refl, sym, ap, subst, ◌∙◌, arith}
use Rattle.std.proofs.lemmas.Bool.{cases_order}
use Rattle.std.proofs.lemmas.Option.{same_Some}
use Rattle.lists.specs.Lists.{Has}
use Rattle.lists.proofs.Places.{slice_get-below}
use Rattle.spds_nodes.proofs.ComingBack.{is_local_arg}
use Rattle.jim_ast.specs.declared.syntax.Mode.{Mode}
use Rattle.link_rules.specs.declared.code.Arg.{Arg}
use Rattle.link_rules.specs.declared.code.Arg.TheVariants as arg
use Rattle.link_rules.specs.declared.code.Code.{Code}
use Rattle.link_rules.specs.declared.code.Code.TheVariants as code
use Rattle.link_rules.specs.Linked.{LinkedMethod, LinkedProgram}
use Rattle.link_sites.specs.declared.place.Place.{Place}
use Rattle.link_sites.specs.Places.{CodeAt}
use Rattle.spds_rules.specs.declared.node.Var.{Var}
use Rattle.spds_rules.specs.declared.node.Var.TheVariants.{Local, This, Param}
use Rattle.spds_rules.specs.Edges.{Passes}
use Rattle.spds_rules.specs.Nodes.{arg_var}
use Rattle.track_systems.specs.Settled.{CallAt, PassesAt}
use Rattle.site_events.specs.declared.passed.Passing.{Passing}
use Rattle.site_events.specs.declared.passed.Passing.TheVariants.{Kept, Settled, Unsettled}
use Rattle.site_events.specs.Passed.{IsPassedLocal, IsPassing, IsPassingAt, joined}

module _ (p : LinkedProgram) (targets : List ℕ) where
  -- at the same positions
  pub at_same : (A B : Var → Type 0) → ((v : Var) → A v ↔ B v) → (r : Passing) → IsPassingAt p targets A r → IsPassingAt p targets B r
  at_same A B same Kept is = λ v b. is v ((same v).1 b)
  at_same A B same Settled is = ((is.0.0, (same is.0.0).0 is.0.1), λ v b. is.1 v ((same v).1 b))
  at_same A B same Unsettled is = (is.0, (same is.0).0 is.1, is.2)

  -- at some and others
  pub at_joined : (A B : Var → Type 0) (x y : Passing) → IsPassingAt p targets A x → IsPassingAt p targets B y → IsPassingAt p targets (λ v. A v ⊎ B v) (joined x y)
  at_joined A B Kept Kept a b = λ v e. elim e [ inl h ↦ a v h | inr h ↦ b v h ]
  at_joined A B Kept Settled a b = ((b.0.0, inr b.0.1), λ v e. elim e [ inl h ↦ absurd (a v h) | inr h ↦ b.1 v h ])
  at_joined A B Kept Unsettled a b = (b.0, inr b.1, b.2)
  at_joined A B Settled Kept a b = ((a.0.0, inl a.0.1), λ v e. elim e [ inl h ↦ a.1 v h | inr h ↦ absurd (b v h) ])
  at_joined A B Settled Settled a b = ((a.0.0, inl a.0.1), λ v e. elim e [ inl h ↦ a.1 v h | inr h ↦ b.1 v h ])
  at_joined A B Settled Unsettled a b = (b.0, inr b.1, b.2)
  at_joined A B Unsettled y a b = (a.0, inl a.1, a.2)

module _ (receiver : Option ℕ) (args : List Arg) (x : ℕ) where
  -- the local is the receiver
  abbrev pub IsThisPassed : Var → Type 0
  IsThisPassed v = (receiver ≡ Some x) × (v ≡ This)

  -- or one of the first n arguments
  abbrev pub IsParamPassed : ℕ → Var → Type 0
  IsParamPassed n v = (number : ℕ) × (number < n) × (slice_get args number ≡ Some (arg.Local x)) × (v ≡ Param number)

  abbrev pub IsPassedUpTo : ℕ → Var → Type 0
  IsPassedUpTo n v = IsThisPassed v ⊎ IsParamPassed n v

  -- of no argument
  pub none_passed : (receiver ≡ Some x → ⊥) → (v : Var) → IsPassedUpTo 0 v → ⊥
  none_passed not v (inl this) = not this.0
  none_passed not v (inr param) = absurd (omega (arith, param.1))

  pub this_passed : receiver ≡ Some x → (v : Var) → (v ≡ This) ↔ IsPassedUpTo 0 v
  this_passed is v = (λ e. inl (is, e), λ e. elim e [ inl this ↦ this.1 | inr param ↦ absurd (omega (arith, param.1)) ])

  -- one argument more
  pub skips : (n : ℕ) → (slice_get args n ≡ Some (arg.Local x) → ⊥) → (v : Var) → IsPassedUpTo n v ↔ IsPassedUpTo (n + 1) v
  skips n not v = (
    λ e. elim e [ inl this ↦ inl this | inr param ↦ inr (param.0, omega (arith, param.1), param.2, param.3) ],
    λ e. elim e [
      | inl this ↦ inl this
      | inr param ↦ elim (cases_order param.0 n) [
        | inl same ↦ absurd (not (subst (λ i. slice_get args i ≡ Some (arg.Local x)) same param.2))
        | inr apart ↦ elim apart [ inl less ↦ inr (param.0, less, param.2, param.3) | inr more ↦ absurd (omega (arith, param.1, more)) ]
      ]
    ],
  )

  pub takes : (n : ℕ) → slice_get args n ≡ Some (arg.Local x) → (v : Var) → (IsPassedUpTo n v ⊎ (v ≡ Param n)) ↔ IsPassedUpTo (n + 1) v
  takes n is v = (
    λ e. elim e [
      | inl old ↦ elim old [ inl this ↦ inl this | inr param ↦ inr (param.0, omega (arith, param.1), param.2, param.3) ]
      | inr last ↦ inr (n, omega arith, is, last)
    ],
    λ e. elim e [
      | inl this ↦ inl (inl this)
      | inr param ↦ elim (cases_order param.0 n) [
        | inl same ↦ inr (param.3 ∙ ap Param same)
        | inr apart ↦ elim apart [ inl less ↦ inl (inr (param.0, less, param.2, param.3)) | inr more ↦ absurd (omega (arith, param.1, more)) ]
      ]
    ],
  )

  -- all of them
  passes_from : (n : ℕ) (v : Var) → IsPassedUpTo n v → Passes receiver args (Local x) v
  passes_from n v (inl this) = subst (Passes receiver args (Local x)) (sym this.1) (x, this.0, refl)
  passes_from n v (inr param) = subst (Passes receiver args (Local x)) (sym param.3) (arg.Local x, param.2, refl)

  passes_up_to : (v : Var) → Passes receiver args (Local x) v → IsPassedUpTo (length args) v
  passes_up_to This h = let locals = h.2 in let same : h.0 ≡ x = cc (locals) in inl (h.1 ∙ ap Some same, refl)
  passes_up_to (Param number) h =
      let there : slice_get args number ≡ Some (arg.Local x) = h.1 ∙ ap Some (is_local_arg h.0 x h.2) in
      inr (number, slice_get-below args number (arg.Local x) there, there, refl)
  passes_up_to _ h = absurd h

  pub passes_all : (n : ℕ) → length args ≤ n → (v : Var) → IsPassedUpTo n v ↔ Passes receiver args (Local x) v
  passes_all n all v = (
    passes_from n v,
    λ h. elim (passes_up_to v h) [ inl this ↦ inl this | inr param ↦ inr (param.0, omega (arith, param.1), param.2, param.3) ],
  )

  -- as a local
  pub passed_local : (v : Var) → Passes receiver args (Local x) v ↔ IsPassedLocal receiver args (Local x) v
  passed_local v = (λ h. (x, refl, h), λ h. h.2)

-- what is found by the positions is what the call does with the variable
pub passing_of : {p : LinkedProgram} {c : Place} (call : CallAt p c) (v : Var) (r : Passing) → IsPassingAt p call.targets (PassesAt call v) r → IsPassing call v r
passing_of call v Kept is = is
passing_of call v Settled is = record {
  position = is.0.0;
  passes = is.0.1;
  all = λ other method passed. is.1 other passed.passes passed.target method passed.has passed.there;
}
passing_of call v Unsettled is = record {
  position = is.0;
  method = is.2.2.method;
  passed = record { passes = is.1; target = is.2.0; has = is.2.1; there = is.2.2.there };
  unsettled = is.2.2.unsettled;
}

-- of a call that stands at the place
pub found_call : (p : LinkedProgram) (place : Place) (v : Var) (r : Passing) (statement : Code) (to : Option ℕ) (mode : Mode) (class key : ℕ) (receiver : Option ℕ)
    (args : List Arg) (targets : List ℕ) → place.raised ≡ false → statement ≡ code.Call to mode class key receiver args targets
    → CodeAt p place.method place.index statement → IsPassingAt p targets (IsPassedLocal receiver args v) r → (call : CallAt p place) × IsPassing call v r
found_call p place v r statement to mode class key receiver args targets unraised is at passing =
    let call : CallAt p place = record {
      unraised = unraised;
      to = to;
      mode = mode;
      class = class;
      key = key;
      receiver = receiver;
      args = args;
      targets = targets;
      here = subst (CodeAt p place.method place.index) is at;
    } in (call, passing_of call v r passing)
