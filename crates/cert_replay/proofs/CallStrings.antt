-- Call strings, call by call.
use Rattle.std.proofs.Common.{IsTrue, eqb, eqb-true, eq-eqb, true, true≢false, ◌≡◌, ◌↔◌, ℕ, ◌+◌, List, [], ◌∷◌, Bool, false, Option, Some, length, refl, sym, ap, subst, ◌∙◌, arith}
use Rattle.std.specs.List.{list_any}
use Rattle.jim_ast.specs.declared.syntax.Mode.{Mode}
use Rattle.lists.specs.Lists.{Has}
use Rattle.link_rules.specs.declared.code.Arg.{Arg}
use Rattle.link_rules.specs.declared.code.Code.{Code}
use Rattle.link_rules.specs.declared.code.Code.TheVariants.{Call}
use Rattle.link_rules.specs.Linked.{LinkedProgram}
use Rattle.link_rules.specs.WellLinked.{HasTarget}
use Rattle.link_sites.specs.declared.place.Place.{Place}
use Rattle.link_sites.specs.Places.{CodeAt}
use Rattle.spds_rules.specs.Systems.{IsString}
use Rattle.spds_laws.proofs.Strings.{call_string, string_called}
use Rattle.demand_set.proofs.Selected.{has-found, not-found}
use Rattle.cert_laws.proofs.Stores.{one_code}

module _ (p : LinkedProgram) (method : ℕ) where
  -- a call string goes on behind its first call
  pub string_next : (call : Place) (string : List Place) → IsString p method (call ∷ string) → (call.raised ≡ false) × HasTarget p call.method call.index method × IsString p call.method string
  string_next call string is = let called = string_called p is in (ap (λ (c : Place). c.raised) called.is_before, called.target, called.below)

  pub next_string : (call : Place) (string : List Place) → call.raised ≡ false → HasTarget p call.method call.index method → IsString p call.method string → IsString p method (call ∷ string)
  next_string call string e target below = call_string p call method string (λ j. record { method = call.method; index = call.index; raised = e j }) target below

  -- the empty one is the root's
  pub string_root : IsString p method [] → method + 1 ≡ length p.methods
  string_root (IsString.root last) = last

  -- so a string of a call that may run the method is one where its rest is one of the call's method
  pub string_step : (call : Place) (string : List Place) → (call.raised ≡ false) × HasTarget p call.method call.index method → IsString p method (call ∷ string) ↔ IsString p call.method string
  string_step call string runs = ((λ is. (string_next call string is).2), λ below. next_string call string runs.0 runs.1 below)

  -- and none where it may not run it
  pub string_stops : (call : Place) (string : List Place) → ((call.raised ≡ false) × HasTarget p call.method call.index method → ⊥) → IsString p method (call ∷ string) → ⊥
  string_stops call string not is = let next = string_next call string is in not (next.0, next.1)

  pub string_ends : (root : ℕ) → root + 1 ≡ length p.methods → (method ≡ root) ↔ IsString p method []
  string_ends root last = ((λ e. IsString.root (ap (λ m. m + 1) e ∙ last)), λ is. let own = string_root is in omega arith)

  -- an empty one is a call string of the root
  pub string_over : (root : ℕ) → root + 1 ≡ length p.methods → (string : List Place) → length string ≡ 0 → IsTrue (eqb method root) ↔ IsString p method string
  string_over root last [] e = let ends = string_ends root last in ((λ t. ends.0 (eqb-true method root t)), λ is. eq-eqb method root (ends.1 is))
  string_over root last (call ∷ string) e = absurd (omega arith)

-- what is looked for among the targets of a call
pub listed : (targets : List ℕ) (target : ℕ) (r : Bool) → r ≡ list_any (λ y. eqb y target) targets → IsTrue r ↔ Has targets target
listed targets target true e = ((λ t. has-found eqb eqb-true (λ x. eq-eqb x x refl) targets target (sym e)), λ has. refl)
listed targets target false e = ((λ t. absurd (true≢false (sym t))), λ has. absurd (not-found eqb eqb-true (λ x. eq-eqb x x refl) targets target (sym e) has))

module _ (p : LinkedProgram) (number index target : ℕ) where
  -- where no statement stands, no call has a target
  pub target_nowhere : ((code : Code) → CodeAt p number index code → ⊥) → HasTarget p number index target → ⊥
  target_nowhere none t = none _ (record { method = t.method; there = t.there; here = t.call })

  -- nor has a statement that is no call
  pub target_other : (code : Code) → CodeAt p number index code
      → ((to : Option ℕ) (mode : Mode) (class key : ℕ) (receiver : Option ℕ) (args : List Arg) (targets : List ℕ) → code ≡ Call to mode class key receiver args targets → ⊥)
      → HasTarget p number index target → ⊥
  target_other code at not t =
      not t.to t.mode t.class t.key t.receiver t.args t.targets
      (one_code p number index code (Call t.to t.mode t.class t.key t.receiver t.args t.targets) at (record { method = t.method; there = t.there; here = t.call }))

  -- a call has those of its list
  pub target_listed : (code : Code) → CodeAt p number index code → (to : Option ℕ) (mode : Mode) (class key : ℕ) (receiver : Option ℕ) (args : List Arg) (targets : List ℕ)
      → code ≡ Call to mode class key receiver args targets → Has targets target ↔ HasTarget p number index target
  target_listed code at to mode class key receiver args targets is = (
    (λ has. record {
      method = at.method;
      there = at.there;
      to = to;
      mode = mode;
      class = class;
      key = key;
      receiver = receiver;
      args = args;
      targets = targets;
      call = at.here ∙ ap Some is;
      has = has;
    }),
    λ t.
        let e = one_code p number index code (Call t.to t.mode t.class t.key t.receiver t.args t.targets) at (record { method = t.method; there = t.there; here = t.call }) in
        let same : t.targets ≡ targets = cc in
        subst (λ (l : List ℕ). Has l target) same t.has,
  )
