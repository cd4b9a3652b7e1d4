-- What becomes of nodes and sites where a program is narrowed.
use Rattle.std.proofs.Common.{◌≡◌, ℕ, ◌<◌, List, [], ◌∷◌, Some, Bool, true, false, length, slice_get, refl, sym, ap, ◌∙◌, subst, inl, inr, arith}
use Rattle.lists.proofs.Places.{slice_get-below, slice_get-there}
use Rattle.link_rules.specs.declared.code.Code.{Code}
use Rattle.link_rules.specs.declared.code.Code.TheVariants as code
use Rattle.link_rules.specs.Flow.{MayRaise}
use Rattle.link_rules.specs.Linked.{LinkedMethod, LinkedProgram}
use Rattle.link_sites.specs.declared.site.Site.{Site}
use Rattle.link_sites.specs.declared.site.Site.TheVariants as site
use Rattle.link_sites.specs.Places.{HasCode}
use Rattle.link_sites.specs.Sites.{HasLevel, IsSite, Makes}
use Rattle.narrow_rules.specs.declared.kept.Kept.{Kept}
use Rattle.narrow_rules.specs.Narrowed.{IsNarrowed, IsNarrowedCode, IsNarrowedMethod}
use Rattle.narrow_rules.proofs.Bodies.{code_after, code_before}
use Rattle.spds_rules.specs.declared.node.Node.{Node}
use Rattle.spds_rules.specs.declared.node.Var.{Var}
use Rattle.spds_rules.specs.declared.node.Var.TheVariants.{Local, This, Param, Caught, Thrown, Made, Nested, Raised, Text, Class}
use Rattle.spds_rules.specs.Nodes.{HasVar, IsNode, MayStand}
use Rattle.refined_query.specs.Rounds.{IsLost, StandsOrIsLost}

-- where a statement has the fact, it stands still; a variable of it is one still
module _ (kept : List Kept) (number index : ℕ) where
  stands_after : (c d : Code) → IsNarrowedCode kept number index c d → (raised : Bool) → MayStand c raised → MayStand d raised
  stands_after (code.Call to mode class key receiver args targets) d n raised h = subst (λ e. MayStand e raised) (sym n.2) (call raised h) where
    call : (raised : Bool) → MayStand (code.Call to mode class key receiver args targets) raised → MayStand (code.Call to mode class key receiver args n.0) raised
    call true h = tt
    call false h = tt
  stands_after c d n raised h = subst (λ e. MayStand e raised) (sym n) h

  makes_before : (c d : Code) → IsNarrowedCode kept number index c d → Makes d → Makes c
  makes_before (code.Call to mode class key receiver args targets) d n h = subst Makes n.2 h
  makes_before c d n h = subst Makes n h

  level_before : (level : ℕ) (c d : Code) → IsNarrowedCode kept number index c d → HasLevel level d → HasLevel level c
  level_before level (code.Call to mode class key receiver args targets) d n h = subst (HasLevel level) n.2 h
  level_before level c d n h = subst (HasLevel level) n h

  raises_before : (kind : ℕ) (c d : Code) → IsNarrowedCode kept number index c d → MayRaise d kind → MayRaise c kind
  raises_before kind (code.Call to mode class key receiver args targets) d n h = subst (λ e. MayRaise e kind) n.2 h
  raises_before kind c d n h = subst (λ e. MayRaise e kind) n h

-- the variables of a call don't go by its targets
call_has : (m : LinkedMethod) (c d : Code) → (HasVar m c false Made → HasVar m d false Made)
    → ((level : ℕ) → HasVar m c false (Nested level) → HasVar m d false (Nested level))
    → ((kind : ℕ) → HasVar m c false (Raised kind) → HasVar m d false (Raised kind))
    → ((text : ℕ) → HasVar m c false (Text text) → HasVar m d false (Text text))
    → ((text : ℕ) → HasVar m c false (Class text) → HasVar m d false (Class text))
    → (raised : Bool) (v : Var) → HasVar m c raised v → HasVar m d raised v
call_has m c d made nested raises text class raised (Local x) h = h
call_has m c d made nested raises text class raised This h = h
call_has m c d made nested raises text class raised (Param k) h = h
call_has m c d made nested raises text class raised Caught h = h
call_has m c d made nested raises text class true Thrown h = h
call_has m c d made nested raises text class false Made h = made h
call_has m c d made nested raises text class false (Nested level) h = nested level h
call_has m c d made nested raises text class false (Raised kind) h = raises kind h
call_has m c d made nested raises text class false (Text k) h = text k h
call_has m c d made nested raises text class false (Class k) h = class k h
call_has m c d made nested raises text class false Thrown h = absurd h
call_has m c d made nested raises text class true Made h = absurd h
call_has m c d made nested raises text class true (Nested level) h = absurd h
call_has m c d made nested raises text class true (Raised kind) h = absurd h
call_has m c d made nested raises text class true (Text k) h = absurd h
call_has m c d made nested raises text class true (Class k) h = absurd h

has_after : (m : LinkedMethod) (kept : List Kept) (number index : ℕ) (c d : Code) → IsNarrowedCode kept number index c d → (raised : Bool) (v : Var)
    → HasVar m c raised v → HasVar m d raised v
has_after m kept number index (code.Call to mode class key receiver args targets) d n raised v h =
    subst (λ e. HasVar m e raised v) (sym n.2)
    (call_has m (code.Call to mode class key receiver args targets) (code.Call to mode class key receiver args n.0) (λ x. x) (λ k x. x) (λ k x. x) (λ k x. x)
    (λ k x. x) raised v h)
has_after m kept number index c d n raised v h = subst (λ e. HasVar m e raised v) (sym n) h

-- nor by the statements of the method
method_has : (old new : LinkedMethod) → new ≡ record old { code = new.code; catches = new.catches } → (c : Code) (raised : Bool) (v : Var)
    → HasVar old c raised v → HasVar new c raised v
method_has old new same c raised (Local x) h = subst (λ (ls : List (List ℕ)). x < length ls) (sym (ap (λ (m : LinkedMethod). m.locals) same)) h
method_has old new same c raised This h = ap (λ (m : LinkedMethod). m.has_this) same ∙ h
method_has old new same c raised (Param k) h = subst (λ (n : ℕ). k < n) (sym (ap (λ (m : LinkedMethod). m.params) same)) h
method_has old new same c raised Caught h = h
method_has old new same c true Thrown h = h
method_has old new same c false Made h = h
method_has old new same c false (Nested level) h = h
method_has old new same c false (Raised kind) h = h
method_has old new same c false (Text k) h = h
method_has old new same c false (Class k) h = h
method_has old new same c false Thrown h = absurd h
method_has old new same c true Made h = absurd h
method_has old new same c true (Nested level) h = absurd h
method_has old new same c true (Raised kind) h = absurd h
method_has old new same c true (Text k) h = absurd h
method_has old new same c true (Class k) h = absurd h

module _ (p q : LinkedProgram) (kept : List Kept) (n : IsNarrowed p kept q) where
  -- what is left of a method
  method_after : (number : ℕ) (old : LinkedMethod) → slice_get p.methods number ≡ Some old
      → (new : LinkedMethod) × (slice_get q.methods number ≡ Some new) × IsNarrowedMethod p kept n.root number old new
  method_after number old e =
      let new = slice_get-there q.methods number (subst (λ k. number < k) n.as_many (slice_get-below p.methods number old e)) in
      (new.0, new.1, n.each number old new.0 e new.1)

  -- a node stands still, or its method has lost its statements
  pub narrowed_node : (m : Node) → IsNode p m → StandsOrIsLost q m
  narrowed_node m is =
      let number = m.place.method in
      let new = method_after number is.method is.there in
      elim new.2.becomes [
        | inl goes ↦
            let d = code_after kept number is.method.code new.0.code goes.code m.place.index is.code is.here in
            inl (record {
              method = new.0;
              there = new.1;
              code = d.0;
              here = d.1;
              stands = stands_after kept number m.place.index is.code d.0 d.2 m.place.raised is.stands;
              has = method_has is.method new.0 new.2.same d.0 m.place.raised m.var
                  (has_after is.method kept number m.place.index is.code d.0 d.2 m.place.raised m.var is.has);
            })
        | inr lost ↦ inr (record { method = new.0; there = new.1; none = lost.code })
      ]

  -- what was lost is lost
  pub narrowed_lost : (m : Node) → IsLost p m → IsLost q m
  narrowed_lost m lost =
      let new = method_after m.place.method lost.method lost.there in
      elim new.2.becomes [
        | inl goes ↦ record { method = new.0; there = new.1; none = is_empty lost.method.code new.0.code goes.code.as_many lost.none }
        | inr again ↦ record { method = new.0; there = new.1; none = again.code }
      ]
    where
      is_empty : (old new : List Code) → length old ≡ length new → old ≡ [] → new ≡ []
      is_empty old [] e none = refl
      is_empty old (c ∷ cs) e none = absurd (let len : length old ≡ 0 = ap length none in omega (arith, e, len))

  -- a statement of the program that is left is one of the first
  code_was : (number index : ℕ) (Old New : Code → Type 0) → ((c d : Code) → IsNarrowedCode kept number index c d → New d → Old c)
      → HasCode q number index New → HasCode p number index Old
  code_was number index Old New was has =
      let old = slice_get-there p.methods number (subst (λ k. number < k) (sym n.as_many) (slice_get-below q.methods number has.at.method has.at.there)) in
      let m = n.each number old.0 has.at.method old.1 has.at.there in
      elim m.becomes [
        | inl goes ↦
            let c = code_before kept number old.0.code has.at.method.code goes.code index has.code has.at.here in
            record { code = c.0; at = record { method = old.0; there = old.1; here = c.1 }; is_so = was c.0 has.code c.2 has.is_so }
        | inr lost ↦ absurd (let here = subst (λ (cs : List Code). slice_get cs index ≡ Some has.code) lost.code has.at.here in cc)
      ]

  -- so is a site
  pub site_was : (s : Site) → IsSite q s → IsSite p s
  site_was (site.New place) is = (is.0, code_was place.method place.index Makes Makes (makes_before kept place.method place.index) is.1)
  site_was (site.Nested place level) is =
      (is.0, code_was place.method place.index (HasLevel level) (HasLevel level) (level_before kept place.method place.index level) is.1)
  site_was (site.Raised place kind) is =
      (is.0, code_was place.method place.index (λ c. MayRaise c kind) (λ c. MayRaise c kind) (raises_before kept place.method place.index kind) is.1)
  site_was (site.Text number) is = subst (λ (ts : List (List ℕ)). number < length ts) (ap (λ (r : LinkedProgram). r.texts) n.same) is
  site_was (site.Class number) is = subst (λ (ts : List (List ℕ)). number < length ts) (ap (λ (r : LinkedProgram). r.class_texts) n.same) is
