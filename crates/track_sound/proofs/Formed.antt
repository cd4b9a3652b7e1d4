-- Formals hold what was passed: what each state of a run keeps of its frames.
use Rattle.std.proofs.Common.{if◌then◌else◌, ◌≡◌, ℕ, ◌+◌, ◌≤◌, ◌⊎◌, ◌++◌, ◌==◌, Option, Some, None, Bool, true, false, List, [], ◌∷◌, slice_get, refl, sym, ap, ◌∙◌, subst, inl, inr, arith}
use Rattle.std.proofs.lemmas.Bool.{cases_order, eqb-true}
use Rattle.std.proofs.lemmas.Option.{same_Some}
use Rattle.lists.proofs.Joined.{last_one}
use Rattle.link_rules.specs.declared.code.Arg.{Arg}
use Rattle.link_rules.specs.declared.code.Code.{Code}
use Rattle.link_rules.specs.declared.code.Code.TheVariants as code
use Rattle.link_rules.specs.Linked.{LinkedMethod, LinkedProgram}
use Rattle.link_rules.specs.WellLinked.{HasTarget}
use Rattle.link_sites.specs.declared.place.Place.{Place}
use Rattle.link_sites.specs.Places.{CodeAt, before}
use Rattle.spds_rules.specs.declared.node.Var.{Var}
use Rattle.spds_rules.specs.declared.node.Var.TheVariants as var
use Rattle.spds_rules.specs.Edges.{Passes}
use Rattle.spds_rules.specs.Formals.{IsPosition, formal, identity_of}
use Rattle.spds_rules.proofs.Formals.{IsTakenAt, formal_is}
use Rattle.step_rules.specs.declared.parts.Slot.{Slot}
use Rattle.step_rules.specs.declared.parts.Slot.TheVariants.{Local, This, Param, Caught, Thrown}
use Rattle.step_rules.specs.declared.parts.Value.{Value}
use Rattle.step_rules.specs.Slots.{local_of, slot_of}
use Rattle.step_rules.specs.States.{Frame, place_of}
use Rattle.run_sound.specs.Frames.{var_of}
use Rattle.run_sound.proofs.Lists.{not_empty}
use Rattle.run_origins.specs.Origins.{GoesOnAs, TakesBy}
use Rattle.track_systems.specs.Settled.{is_identity, is_settled}
use Rattle.track_sound.specs.Formals.{IsBehind}
use Rattle.track_sound.proofs.Identities.{IsEarly, settled_early}
use Rattle.spds_rules.proofs.Passing.{passed_at_position}

module _ (p : LinkedProgram) where
  -- a local formal of the frame holds what its position does, or the frame still stands at or before its identity
  abbrev pub IsFormal : Frame → Type 0
  IsFormal g = (m : LinkedMethod) → slice_get p.methods g.method ≡ Some m → (w : Slot) (x k : ℕ) → IsPosition (var_of w) → IsTakenAt m.code (var_of w) x k
      → IsEarly m.code k
      → ((g.raised ≡ false) × (g.index ≤ k)) ⊎ (local_of g x ≡ slot_of g w)

  -- the frame has what the one below it passes
  abbrev pub IsPassing : Frame → Frame → Type 0
  IsPassing f g = (target : HasTarget p f.method f.index g.method) (x : ℕ) (w : Slot) (value : Value) → Passes target.receiver target.args (var.Local x) (var_of w)
      → local_of f x ≡ Some value → slot_of g w ≡ Some value

  -- the frames below one, and it
  pub data Formed : List Frame → Frame → Type 0 where
    bottom : {g : Frame} → IsFormal g → Formed [] g
    above : {below : List Frame} {f g : Frame} → Formed below f → IsPassing f g → IsFormal g → Formed (below ++ f ∷ []) g

  -- ---- a frame goes on

  -- an identity leads to the next statement
  behind : (c : Code) (f g : Frame) → is_identity c ≡ true → TakesBy c f g → place_of g ≡ before f.method (f.index + 1)
  behind (code.This to) f g is takes = takes.behind
  behind (code.Param to number) f g is takes = takes.behind
  behind (code.Caught to) f g is takes = takes.behind
  behind _ f g is takes = cc (is)

  -- the identity of a position gives what is there
  same_number : (b : Bool) (to x : ℕ) → (if b then Some to else None) ≡ Some x → (b ≡ true) × (to ≡ x)
  same_number true to x is = (refl, same_Some to x is)
  same_number false to x is = cc (is)

  taken : (c : Code) (f g : Frame) (w : Slot) (x : ℕ) → identity_of c (var_of w) ≡ Some x → TakesBy c f g → local_of g x ≡ slot_of f w
  taken (code.This to) f g This x is takes = subst (λ (n : ℕ). local_of g n ≡ f.this) (same_Some to x is) takes.holds
  taken (code.Param to number) f g (Param i) x is takes =
      let both = same_number (number == i) to x is in
      subst (λ (n : ℕ). local_of g n ≡ slice_get f.params i) both.1
      (subst (λ (n : ℕ). local_of g to ≡ slice_get f.params n) (eqb-true number i both.0) takes.holds)
  taken _ f g w x is takes = cc (is)

  -- it is one
  pub an_identity : (c : Code) (v : Var) (x : ℕ) → identity_of c v ≡ Some x → is_identity c ≡ true
  an_identity (code.This to) v x is = refl
  an_identity (code.Param to number) v x is = refl
  an_identity (code.Caught to) v x is = refl
  an_identity _ v x is = cc (is)

  -- what is at a position stays
  position_kept : (f g : Frame) → GoesOnAs p f g → (w : Slot) → IsPosition (var_of w) → slot_of g w ≡ slot_of f w
  position_kept f g goes This position = goes.this
  position_kept f g goes (Param i) position = ap (λ (ps : List Value). slice_get ps i) goes.params
  position_kept f g goes (Local y) position = elim position [ ]
  position_kept f g goes Caught position = elim position [ ]
  position_kept f g goes Thrown position = elim position [ ]

  pub formal_kept : (f g : Frame) → GoesOnAs p f g → (c : Code) → CodeAt p f.method f.index c → (f.raised ≡ false → TakesBy c f g) → IsFormal f → IsFormal g
  formal_kept f g goes c code_at takes is m there w x k position at_k early = elim (is m there_f w x k position at_k early) [
    | inl before_it ↦ elim (cases_order f.index k) [
      | inl same ↦ inr (got same (takes before_it.0))
      | inr apart ↦ elim apart [
        | inl less ↦
            let stands = behind c f g (early f.index c less here) (takes before_it.0) in
            let at : g.index ≡ f.index + 1 = ap (λ (q : Place). q.index) stands in
            inl (ap (λ (q : Place). q.raised) stands, omega (arith, at, less))
        | inr more ↦ absurd (omega (arith, more, before_it.1))
      ]
    ]
    | inr holds ↦ elim (goes.locals x) [
      | inl same ↦ inr (same ∙ holds ∙ sym (position_kept f g goes w position))
      | inr assigned ↦
          let code_too = assigned.1.at in
          let one = code_too.there in
          let two = there_f in
          let same_method : code_too.method ≡ m = cc in
          let here_too : slice_get m.code f.index ≡ Some assigned.1.code = subst (λ (m : LinkedMethod). slice_get m.code f.index ≡ Some assigned.1.code) same_method code_too.here in
          inr (got (at_k.alone f.index assigned.1.code here_too assigned.1.is_so) (takes assigned.0))
    ]
  ] where
    there_f : slice_get p.methods f.method ≡ Some m
    there_f = subst (λ (n : ℕ). slice_get p.methods n ≡ Some m) goes.method there

    here : slice_get m.code f.index ≡ Some c
    here =
        let one = code_at.there in
        let two = there_f in
        let same : code_at.method ≡ m = cc in
        subst (λ (m : LinkedMethod). slice_get m.code f.index ≡ Some c) same code_at.here

    got : f.index ≡ k → TakesBy c f g → local_of g x ≡ slot_of g w
    got same t =
        let one = at_k.there in
        let two : slice_get m.code k ≡ Some c = subst (λ (n : ℕ). slice_get m.code n ≡ Some c) same here in
        let is_c : at_k.statement ≡ c = cc in
        taken c f g w x (subst (λ (c : Code). identity_of c (var_of w) ≡ Some x) is_c at_k.identity) t ∙ sym (position_kept f g goes w position)

  -- ---- frames

  -- two targets of a call
  pub same_passed : (method index target : ℕ) (a b : HasTarget p method index target) → (a.receiver ≡ b.receiver) × (a.args ≡ b.args)
  same_passed method index target a b =
      let one = a.there in
      let two = b.there in
      let same : a.method ≡ b.method = cc in
      let first = subst (λ (m : LinkedMethod). slice_get m.code index ≡ Some (code.Call a.to a.mode a.class a.key a.receiver a.args a.targets)) same a.call in
      let second = b.call in
      let r : a.receiver ≡ b.receiver = cc in
      let s : a.args ≡ b.args = cc in
      (r, s)

  -- the frame on top goes on
  pub formed_on : {below : List Frame} {f : Frame} → Formed below f → (g : Frame) → GoesOnAs p f g → IsFormal g → Formed below g
  formed_on (bottom {g = f} is) = λ g goes formal. bottom formal
  formed_on (above {below} {f = caller} {g = f} formed passing is) = λ g goes formal. above formed (λ target x w value passes holds.
      let fields = parts caller g.method f.method goes.method target in
      let position = passed_at_position target.receiver target.args (var.Local x) (var_of w) passes in
      position_kept f g goes w position
      ∙ passing fields.0 x w value
      (subst (λ (r : Option ℕ). Passes r fields.0.args (var.Local x) (var_of w)) fields.1
      (subst (λ (given : List Arg). Passes target.receiver given (var.Local x) (var_of w)) fields.2 passes)) holds) formal
    where
      parts : (caller : Frame) (a b : ℕ) → a ≡ b → (target : HasTarget p caller.method caller.index a)
          → (other : HasTarget p caller.method caller.index b) × (target.receiver ≡ other.receiver) × (target.args ≡ other.args)
      parts caller a b same target = (
        record {
          method = target.method;
          there = target.there;
          to = target.to;
          mode = target.mode;
          class = target.class;
          key = target.key;
          receiver = target.receiver;
          args = target.args;
          targets = target.targets;
          call = target.call;
          has = (target.has.0, target.has.1 ∙ ap Some same);
        },
        refl,
        refl,
      )

  -- what is known of a frame and the one above it
  pub record IsCalled (below : List Frame) (caller g : Frame) : Type 0 where
    pub formed : Formed below caller
    pub passing : IsPassing caller g
    pub formal : IsFormal g

  pub called_by : {all : List Frame} {g : Frame} → Formed all g → (below : List Frame) (caller : Frame) → all ≡ below ++ caller ∷ [] → IsCalled below caller g
  called_by (bottom is) = λ below caller e. absurd (not_empty below caller (sym e))
  called_by (above {below = rest} {f = last} {g} formed passing is) = λ below caller e.
      let parts = last_one rest below last caller e in
      record {
        formed = subst (λ (c : Frame). Formed below c) parts.1 (subst (λ (fs : List Frame). Formed fs last) parts.0 formed);
        passing = subst (λ (c : Frame). IsPassing c g) parts.1 passing;
        formal = is;
      }

  -- the frame on top
  pub formal_of : {below : List Frame} {g : Frame} → Formed below g → IsFormal g
  formal_of (bottom is) = is
  formal_of (above formed passing is) = is

  -- ---- where a method may be left

  pub held : (below : List Frame) (caller g : Frame) → IsCalled below caller g → (method : LinkedMethod) → slice_get p.methods g.method ≡ Some method
      → IsBehind p g → (target : HasTarget p caller.method caller.index g.method) → (x : ℕ) (position : Slot) (value : Value)
      → Passes target.receiver target.args (var.Local x) (var_of position) → is_settled method.code (var_of position) ≡ true
      → local_of caller x ≡ Some value
      → (held : Slot) × (var_of held ≡ formal method.code (var_of position)) × (slot_of g held ≡ Some value)
  held below caller g called method there is_behind target x position value passes settled holds = elim (formal_is method.code (var_of position)) [
    | inl itself ↦ (position, sym itself, passed)
    | inr local ↦
        let k = local.2.0 in
        let at_k = local.2.1 in
        let early = settled_early (var_of position) local.0 k at_k.statement local.0 method.code is_position local.1 settled at_k.there at_k.identity in
        elim (called.formal method there position local.0 k is_position at_k early) [
          | inl before_it ↦ absurd (not_before k at_k early before_it.0 before_it.1 is_behind)
          | inr same ↦ (Local local.0, sym local.1, same ∙ passed)
        ]
  ] where
    is_position : IsPosition (var_of position)
    is_position = passed_at_position target.receiver target.args (var.Local x) (var_of position) passes

    passed : slot_of g position ≡ Some value
    passed = called.passing target x position value passes holds

    not_before : (k : ℕ) {y : ℕ} → IsTakenAt method.code (var_of position) y k → IsEarly method.code k → g.raised ≡ false → g.index ≤ k → IsBehind p g → ⊥
    not_before k at_k early unraised below (inl raised) = cc (unraised, raised)
    not_before k {y} at_k early unraised below (inr other) =
        let one = other.1.there in
        let two = there in
        let same : other.1.method ≡ method = cc in
        let here : slice_get method.code g.index ≡ Some other.0 = subst (λ (m : LinkedMethod). slice_get m.code g.index ≡ Some other.0) same other.1.here in
        let is_not = other.2 in
        elim (cases_order g.index k) [
          | inl equal ↦
              let first = at_k.there in
              let second : slice_get method.code k ≡ Some other.0 = subst (λ (n : ℕ). slice_get method.code n ≡ Some other.0) equal here in
              let is_c : at_k.statement ≡ other.0 = cc in
              let is = an_identity other.0 (var_of position) y (subst (λ (c : Code). identity_of c (var_of position) ≡ Some y) is_c at_k.identity) in
              cc (is, is_not)
          | inr apart ↦ elim apart [
            | inl less ↦ let is = early g.index other.0 less here in cc (is, is_not)
            | inr more ↦ omega (arith, more, below)
          ]
        ]
