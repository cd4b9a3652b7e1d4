-- What a call keeps.
use Rattle.std.proofs.Common.{◌≡◌, ℕ, ◌+◌, ◌<◌, ◌↔◌, List, Option, Some, None, length, sym, ◌∙◌, subst}
use Rattle.std.specs.Option.{IfSome}
use Rattle.lists.specs.Lists.{Has}
use Rattle.lists.proofs.Places.{slice_get-below}
use Rattle.jim_ast.specs.declared.syntax.Mode.{Mode}
use Rattle.link_laws.proofs.Lists.{at_all}
use Rattle.link_rules.specs.declared.code.Arg.{Arg}
use Rattle.link_rules.specs.declared.code.Code.{Code}
use Rattle.link_rules.specs.declared.code.Code.TheVariants as code
use Rattle.link_rules.specs.Linked.{LinkedProgram}
use Rattle.link_rules.specs.WellLinked.{FitsCode, FitsMethod, HasTarget, IsLocalOf, IsWellLinked}
use Rattle.link_sites.specs.Places.{CodeAt}
use Rattle.lists.specs.Numbers.{Numbers}
use Rattle.narrow_rules.specs.declared.kept.Kept.{Kept}
use Rattle.refine_rules.specs.Refined.{GoesByObject, IsToKeep, receiver_at}
use Rattle.spds_rules.specs.Nodes.{IsNode}
use Rattle.refined_query.specs.Keeping.{AreAdded, AreKeptBefore, IsKeptAmong}
use Rattle.refined_query.specs.Selecting.{IsAmong, StaysFor}
use Rattle.refined_query.proofs.Selection.{kept_more, kept_same}

module _ (p : LinkedProgram) (budget number index : ℕ) where
  -- the statement of a target is the one that stands there
  same_code : (c : Code) → CodeAt p number index c → (target : ℕ) (t : HasTarget p number index target)
      → c ≡ code.Call t.to t.mode t.class t.key t.receiver t.args t.targets
  same_code c here target t =
      let method : here.method ≡ t.method = let a = here.there in let b = t.there in cc (a, b) in
      let a = here.here in let b = t.call in cc (a, b, method)

  -- a statement that is no call keeps none
  pub other_keeps : (c : Code) → CodeAt p number index c
      → ((to : Option ℕ) (mode : Mode) (class key : ℕ) (receiver : Option ℕ) (args : List Arg) (targets : List ℕ)
      → c ≡ code.Call to mode class key receiver args targets → ⊥)
      → (kept : List Kept) → AreKeptBefore p budget number index kept → AreKeptBefore p budget number (index + 1) kept
  other_keeps c here never kept = kept_same p budget number index kept
      (λ target k. let t = k.has in never t.to t.mode t.class t.key t.receiver t.args t.targets (same_code c here target t))

  module _ (to : Option ℕ) (mode : Mode) (class key : ℕ) (receiver : Option ℕ) (args : List Arg) (targets : List ℕ)
      (here : CodeAt p number index (code.Call to mode class key receiver args targets)) (decides : Option ℕ)
      (decided : (x : ℕ) → (decides ≡ Some x) ↔ (GoesByObject mode × (receiver ≡ Some x))) where
    -- a target that is kept is one of the call's, on its receiver
    kept_here : (target : ℕ) (k : IsToKeep p budget number index target) → (decides ≡ Some k.x) × Has targets target × StaysFor p budget (receiver_at number index k.x) class key target
    kept_here target k =
        let same = same_code (code.Call to mode class key receiver args targets) here target k.has in
        let modes : k.has.mode ≡ mode = cc (same) in
        let receivers : k.has.receiver ≡ receiver = cc (same) in
        let classes : k.has.class ≡ class = cc (same) in
        let keys : k.has.key ≡ key = cc (same) in
        let all : k.has.targets ≡ targets = cc (same) in (
          (decided k.x).1 (subst GoesByObject modes k.goes, sym receivers ∙ k.receiver),
          subst (λ ts. Has ts target) all k.has.has,
          subst (λ c. StaysFor p budget (receiver_at number index k.x) c key target) classes
              (subst (λ j. StaysFor p budget (receiver_at number index k.x) k.has.class j target) keys k.stays),
        )

    -- where no object decides, none
    pub call_keeps_none : decides ≡ None → (kept : List Kept) → AreKeptBefore p budget number index kept → AreKeptBefore p budget number (index + 1) kept
    call_keeps_none is kept = kept_same p budget number index kept (λ target k. let some = (kept_here target k).0 in cc (some, is))

    module _ (x : ℕ) (is : decides ≡ Some x) where
      -- the receiver is a local of the method
      pub receiver_node : IsWellLinked p → IsNode p (receiver_at number index x)
      receiver_node well =
          let m = at_all (FitsMethod p) p.methods number here.method well.form.methods here.there in
          let c = at_all (FitsCode p here.method) here.method.code index (code.Call to mode class key receiver args targets) m.codes here.here in
          record {
            method = here.method;
            there = here.there;
            code = code.Call to mode class key receiver args targets;
            here = here.here;
            stands = tt;
            has = subst (λ (r : Option ℕ). IfSome r (IsLocalOf here.method)) ((decided x).0 is).1 c.2;
          }

      -- else the targets that stay for it
      pub call_keeps : (found : Option (Numbers ℕ)) → ((target : ℕ) → IsAmong found target ↔ StaysFor p budget (receiver_at number index x) class key target)
          → (old new : List Kept) → AreAdded (IsKeptAmong (record { method = number; index = index }) targets (length targets) found) old new
          → AreKeptBefore p budget number index old → AreKeptBefore p budget number (index + 1) new
      call_keeps found finds old new adds = kept_more p budget number index _ old new adds (λ k. (
        (λ h. (
          h.stands,
          record {
            has = record {
              method = here.method;
              there = here.there;
              to = to;
              mode = mode;
              class = class;
              key = key;
              receiver = receiver;
              args = args;
              targets = targets;
              call = here.here;
              has = (h.at, h.there);
            };
            goes = ((decided x).0 is).0;
            x = x;
            receiver = ((decided x).0 is).1;
            stays = (finds k.target).0 h.among;
          },
        )),
        λ both.
            let h = kept_here k.target both.1 in
            let same : both.1.x ≡ x = let some = h.0 in cc (some, is) in
            record {
              at = h.1.0;
              within = slice_get-below targets h.1.0 k.target h.1.1;
              there = h.1.1;
              stands = both.0;
              among = (finds k.target).1 (subst (λ y. StaysFor p budget (receiver_at number index y) class key k.target) same h.2);
            },
      ))

  -- the class of a call is one of the program's
  pub call_class : (to : Option ℕ) (mode : Mode) (class key : ℕ) (receiver : Option ℕ) (args : List Arg) (targets : List ℕ)
      → CodeAt p number index (code.Call to mode class key receiver args targets) → IsWellLinked p → class < length p.classes
  call_class to mode class key receiver args targets here well =
      let m = at_all (FitsMethod p) p.methods number here.method well.form.methods here.there in
      let c = at_all (FitsCode p here.method) here.method.code index (code.Call to mode class key receiver args targets) m.codes here.here in
      c.1
