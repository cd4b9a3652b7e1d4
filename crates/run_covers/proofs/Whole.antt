-- Each run enters targets of its calls.
use Rattle.std.proofs.Common.{◌≡◌, ℕ, List, [], ◌∷◌, ◌++◌, Option, Some, None, All, length, slice_get, refl, sym, subst, inl, inr, arith}
use Rattle.class_rules.proofs.LawFacts.{path_one}
use Rattle.class_rules.specs.Lookups.{OnPath, Resolve, ambiguous, by_default, nowhere, on_path}
use Rattle.class_rules.specs.Rows.{Sub}
use Rattle.jim_ast.specs.declared.syntax.Expr.TheVariants as expr
use Rattle.jim_ast.specs.declared.syntax.Imm.{Imm}
use Rattle.jim_ast.specs.declared.syntax.Invoke.TheVariants.{Plain}
use Rattle.jim_ast.specs.declared.syntax.MethodSig.{MethodSig}
use Rattle.jim_ast.specs.declared.syntax.Mode.{Mode}
use Rattle.jim_ast.specs.declared.syntax.Mode.TheVariants.{Special, Virtual, Interface, Static}
use Rattle.jim_ast.specs.declared.syntax.Stmt.{Stmt}
use Rattle.jim_ast.specs.declared.syntax.Stmt.TheVariants as stmt
use Rattle.link_rules.specs.declared.code.Arg.{Arg}
use Rattle.link_rules.specs.declared.code.Code.{Code}
use Rattle.link_rules.specs.declared.code.Code.TheVariants as code
use Rattle.lists.proofs.Places.{slice_get-append_left, slice_get-there}
use Rattle.lists.specs.Lists.{Has}
use Rattle.jim_ast.specs.declared.syntax.Program.{Program}
use Rattle.link_rules.specs.Conditions.{IsRead}
use Rattle.link_rules.specs.Codes.{IsCall, IsCode, IsMethodNumber, Scope}
use Rattle.link_rules.specs.Linked.{IsLinkedClass, LinkedMethod, LinkedProgram, Links, scope_of}
use Rattle.link_rules.specs.Targets.{AreTargetRows, IsInstantiableAt, MayRun, Selects}
use Rattle.link_rules.specs.WellLinked.{HasOneTarget, HasTarget, IsInstantiableIn, IsWellLinked, IsWellLinkedCode, SuitsCall}
use Rattle.link_rules.specs.World.{World}
use Rattle.link_laws.proofs.Lists.{at_all, each_left, each_right, increasing_apart}
use Rattle.link_laws.proofs.Read.{read_method}
use Rattle.link_laws.proofs.Stands.{IsMade, stands_at}
use Rattle.link_laws.proofs.Whole.{links_well}
use Rattle.link_sites.specs.Places.{CodeAt}
use Rattle.link_sites.specs.declared.site.Site.TheVariants as site
use Rattle.step_rules.specs.declared.parts.Value.{Value}
use Rattle.step_rules.specs.declared.parts.Value.TheVariants.{Object}
use Rattle.step_rules.specs.Effects.{Effect, is_ill_typed, raises, throws, goes, gets, makes, nests, writes, sets, calls, returns, handles, leaves}
use Rattle.step_rules.specs.Runs.{Run, begins, steps}
use Rattle.step_rules.specs.States.{Frame, Point, State, new_object, place_of, written}
use Rattle.step_rules.specs.Steps.{Becomes, Receives, ReceivesAt}
use Rattle.run_covers.specs.Covers.{LinksAreCovered}
use Rattle.run_covers.specs.Found.{HasFoundFor, HasObjectOf, LinksHaveAllFound, LooksFrom}
use Rattle.run_covers.proofs.Heap.{IsReal, constants_real, joined_real, named_real, pushed_real, raised_real, replaced_real}
use Rattle.run_covers.proofs.Rows.{IsCalled, IsSound, offers_sound}

module _ (p : LinkedProgram) (well : IsWellLinked p) where
  -- a state with these objects has instantiable classes
  same_heap : (at : Point) (new made : State) → new ≡ made → IsReal p made.heap → IsReal p new.heap
  same_heap at new made e real = subst (λ (s : State). IsReal p s.heap) (sym e) real

  -- a caller goes on over the same objects
  receives_real : (to : Option ℕ) (value : Option Value) (caller : Point) (new : State) → Receives to value caller new → IsReal p caller.heap
      → IsReal p new.heap
  receives_real None value caller new h real = same_heap caller new _ h real
  receives_real (Some to) (Some value) caller new h real = same_heap caller new _ h real
  receives_real (Some to) None caller new h real = same_heap caller new _ h real

  received_real : (c : Code) (value : Option Value) (caller : Point) (new : State) → ReceivesAt c value caller new → IsReal p caller.heap
      → IsReal p new.heap
  received_real (code.Call to mode class key receiver args targets) value caller new h real = receives_real to value caller new h real
  received_real c value caller new h real = elim h [ ]

  -- what an effect leads to has objects of instantiable classes
  becomes_real : (at : Point) (e : Effect) (new : State) → IsSound p at e → IsReal p at.heap → Becomes p at e new → IsReal p new.heap
  becomes_real at is_ill_typed new sound real h = same_heap at new _ h real
  becomes_real at (raises kind) new sound real h =
      same_heap at new _ h.2 (pushed_real p well at.heap (new_object (site.Raised (place_of at.top) kind) h.0) real (raised_real p well kind h.0 h.1))
  becomes_real at (throws o) new sound real h = same_heap at new _ h real
  becomes_real at (goes index) new sound real h = same_heap at new _ h real
  becomes_real at (gets to value) new sound real h = same_heap at new _ h real
  becomes_real at (makes to class) new sound real h = same_heap at new _ h (pushed_real p well at.heap (new_object (site.New (place_of at.top)) class) real sound)
  becomes_real at (nests to o inner class) new sound real h =
      same_heap at new _ h.2
      (replaced_real p well (at.heap ++ new_object inner class ∷ []) o h.0 (written h.0 0 (Object (length at.heap)))
      (pushed_real p well at.heap (new_object inner class) real sound) (slice_get-append_left at.heap (new_object inner class ∷ []) o h.0 h.1) refl)
  becomes_real at (writes o field value) new sound real h =
      same_heap at new _ h.2 (replaced_real p well at.heap o h.0 (written h.0 field value) real h.1 refl)
  becomes_real at (sets field value) new sound real h = same_heap at new _ h real
  becomes_real at (calls frame) new sound real h = same_heap at new _ h real
  becomes_real at (returns value) new sound real h = elim h [
    | inl root ↦ same_heap at new _ root.1 real
    | inr under ↦ received_real under.3.code value _ new under.3.is_so real
  ]
  becomes_real at (handles handler o) new sound real h = same_heap at new _ h real
  becomes_real at (leaves o) new sound real h = elim h [
    | inl root ↦ same_heap at new _ root.1 real
    | inr under ↦ same_heap at new _ under.3 real
  ]

  -- so it is along each run
  pub run_real : (count : ℕ) (s : State) → Run p count s → IsReal p s.heap
  run_real count s (begins first) = subst (λ (s : State). IsReal p s.heap) (sym first.is_state)
      (joined_real p well _ _ (constants_real p well (λ i. site.Text i) first.string 0 (length p.texts) (named_real p well _ first.string (1, refl) first.is_string))
      (constants_real p well (λ i. site.Class i) first.class 0 (length p.class_texts) (named_real p well _ first.class (2, refl) first.is_class)))
  run_real count s (steps {count = before} {choice = choice} {s = old} run step) =
      let real = subst (λ (s : State). IsReal p s.heap) step.stands (run_real before old run) in
      becomes_real step.at step.effect s (offers_sound p well step.at step.offered step.effect step.offers (choice, step.chosen)) real step.becomes

-- the call whose code this is
in_call : (in_scope : Scope) (s : Stmt) (to : Option ℕ) (mode : Mode) (class key : ℕ) (receiver : Option ℕ) (codes : List Arg) (targets : List ℕ)
    → IsCode in_scope s (code.Call to mode class key receiver codes targets)
    → (sig : MethodSig) × (args : List Imm) × IsCall in_scope mode sig args class key codes targets
in_call in_scope (stmt.Assign x (expr.Invoke (Plain called y sig args))) (Some to) mode class key receiver codes targets h =
    (sig, args, subst (λ m. IsCall in_scope m sig args class key codes targets) (sym h.1) h.3)
in_call in_scope (stmt.Call (Plain called y sig args)) None mode class key receiver codes targets h =
    (sig, args, subst (λ m. IsCall in_scope m sig args class key codes targets) (sym h.0) h.2)
in_call in_scope s to mode class key receiver codes targets h = elim h [ ]

module _ (w : World) (p : LinkedProgram) (made : IsMade w p) where
  -- an instantiable class is one of the world
  instantiable : (class : ℕ) → IsInstantiableIn p class → IsInstantiableAt w class
  instantiable class h =
      let c = each_right IsLinkedClass w.classes p.classes class h.0 made.link.classes h.1 in
      record { class = c.0; there = c.1; instantiable = c.2.instantiable.0 h.2 }

  -- what look-up along the parents finds, where it finds something, is all that selection finds
  up_path : (class key up row : ℕ) → OnPath w.rows class key (Some up) → Resolve w.rows class key (Some row) → OnPath w.rows class key (Some row)
  up_path class key up row path finds = by (Some row) finds row refl where
    by : (r : Option ℕ) → Resolve w.rows class key r → (row : ℕ) → r ≡ Some row → OnPath w.rows class key (Some row)
    by r (on_path {row = a} p) row e = let same : a ≡ row = cc in subst (λ n. OnPath w.rows class key (Some n)) same p
    by r (by_default off d only) row e = let same = path_one w.rows class key (Some up) None path off in cc
    by r (nowhere off none) row e = cc
    by r (ambiguous two) row e = cc

  -- in static mode the parents lead to a method
  abbrev HasSome : Mode → ℕ → ℕ → Type 0
  HasSome Static class key = (row : ℕ) × OnPath w.rows class key (Some row)
  HasSome Special class key = Unit {0}
  HasSome Virtual class key = Unit {0}
  HasSome Interface class key = Unit {0}

  -- a method that the class of an object selects
  selects : (at : Point) → IsReal p at.heap → (class from key row : ℕ) → (Sub p.rows from class × HasObjectOf at.heap from)
      → Resolve p.rows from key (Some row) → Selects w class key from row
  selects at real class from key row looks finds =
      let o = looks.1 in
      record {
        instantiable = instantiable from (subst (λ c. IsInstantiableIn p c) o.of_class (real o.number o.object o.there));
        below = subst (λ rows. Sub rows from class) made.link.rows looks.0;
        finds = subst (λ rows. Resolve rows from key (Some row)) made.link.rows finds;
      }

  -- what look-up finds may be run. A static call that no rule refuses finds a method along the parents, and so no default method
  may_run : (at : Point) → IsReal p at.heap → (mode : Mode) (class from key row : ℕ) → LooksFrom p at.heap mode class from
      → HasSome mode class key → Resolve p.rows from key (Some row) → MayRun w mode class key row
  may_run at real Static class from key row looks some finds =
      up_path class key some.0 row some.1 (subst (λ c. Resolve w.rows c key (Some row)) looks (subst (λ rows. Resolve rows from key (Some row)) made.link.rows finds))
  may_run at real Special class from key row looks some finds =
      subst (λ c. Resolve w.rows c key (Some row)) looks (subst (λ rows. Resolve rows from key (Some row)) made.link.rows finds)
  may_run at real Virtual class from key row looks some finds = (from, selects at real class from key row looks finds)
  may_run at real Interface class from key row looks some finds = (from, selects at real class from key row looks finds)

  -- where a static call has a target, its rows have a row
  some_row : (mode : Mode) (class key : ℕ) (rows targets : List ℕ) → AreTargetRows w mode class key rows → length rows ≡ length targets
      → HasOneTarget mode targets → HasSome mode class key
  some_row Static class key rows targets are many one =
      let row = slice_get-there rows 0 (omega (arith, many, one)) in (row.0, (are.each row.0).0 (0, row.1))
  some_row Special class key rows targets are many one = tt
  some_row Virtual class key rows targets are many one = tt
  some_row Interface class key rows targets are many one = tt

  -- a row that look-up finds is that of a target of the call
  found_target : IsWellLinked p → (at : Point) → IsReal p at.heap → (to : Option ℕ) (mode : Mode) (class key : ℕ) (receiver : Option ℕ) (args : List Arg) (targets : List ℕ)
      → CodeAt p at.top.method at.top.index (code.Call to mode class key receiver args targets) → (from row : ℕ) → LooksFrom p at.heap mode class from
      → Resolve p.rows from key (Some row) → (target : ℕ) × Has targets target × (slice_get p.method_rows target ≡ Some row)
  found_target well at real to mode class key receiver args targets here from row looks finds =
      let m = stands_at w p made at.top.method here.method here.there in
      let in_scope = scope_of w p m.0 m.1.linked.body in
      let s = each_right (IsCode in_scope) m.1.linked.body.stmts here.method.code at.top.index
      (code.Call to mode class key receiver args targets) m.1.linked.code here.here in
      let call = in_call in_scope s.0 to mode class key receiver args targets s.2 in
      let codes = at_all (λ (m : LinkedMethod). All (IsWellLinkedCode p) m.code) p.methods at.top.method here.method well.codes here.there in
      let suits = at_all (IsWellLinkedCode p) here.method.code at.top.index (code.Call to mode class key receiver args targets) codes here.here in
      let some = some_row mode class key call.2.rows targets call.2.are_rows call.2.numbered.as_many suits.1 in
      let listed = (call.2.are_rows.each row).1 (may_run at real mode class from key row looks some finds) in
      let target = each_left (IsMethodNumber in_scope) call.2.rows targets listed.0 row call.2.numbered listed.1 in
      (target.0, (listed.0, target.1), target.2)

  -- the method of a frame that is called is a target
  is_target : IsWellLinked p → (at : Point) (frame : Frame) → IsReal p at.heap → IsCalled p at frame → HasTarget p at.top.method at.top.index frame.method
  is_target well at frame real c =
      let target = found_target well at real c.to c.mode c.class c.key c.receiver c.args c.targets c.here c.from c.finds.row c.looks c.finds.resolved in
      let same : target.0 ≡ frame.method = increasing_apart p.method_rows made.link.methods.ordered target.0 frame.method c.finds.row target.2 c.finds.numbered in
      record {
        method = c.here.method;
        there = c.here.there;
        to = c.to;
        mode = c.mode;
        class = c.class;
        key = c.key;
        receiver = c.receiver;
        args = c.args;
        targets = c.targets;
        call = c.here.here;
        has = subst (λ n. Has c.targets n) {x = target.0} same target.1;
      }

  -- what look-up finds is there
  is_found : IsWellLinked p → (at : Point) → IsReal p at.heap → (c : Code) → CodeAt p at.top.method at.top.index c → HasFoundFor p at.heap c
  is_found well at real (code.Call to mode class key receiver args targets) here = λ from looks row finds.
      let target = found_target well at real to mode class key receiver args targets here from row looks finds in
      let codes = at_all (λ (m : LinkedMethod). All (IsWellLinkedCode p) m.code) p.methods at.top.method here.method well.codes here.there in
      let suits = at_all (IsWellLinkedCode p) here.method.code at.top.index (code.Call to mode class key receiver args targets) codes here.here in
      let callee = at_all (SuitsCall p receiver (length args)) targets target.1.0 target.0 suits.0 target.1.1 in (
        target.0,
        callee.method,
        record { row = row; resolved = finds; numbered = target.2; there = callee.there; has_statements = callee.has_statements },
      )
  is_found well at real c here = tt

-- a linked program is made of its world
made_of : (input prelude : Program) (entry : List ℕ) (p : LinkedProgram) → IsRead input → IsRead prelude → (links : Links input prelude entry p)
    → IsMade links.world p
made_of input prelude entry p read read_prelude links = record {
  link = links.linked;
  rows = links.is_world.rows;
  reads = read_method input prelude entry links.world links.is_world read read_prelude;
}

-- the laws
pub links_covered : LinksAreCovered
links_covered input prelude entry p read read_prelude nine links count at offered frame run offers has =
    let well = links_well input prelude entry p read read_prelude nine links in
    is_target links.world p (made_of input prelude entry p read read_prelude links) well at frame (run_real p well count _ run)
    (offers_sound p well at offered (calls frame) offers has)

pub links_found : LinksHaveAllFound
links_found input prelude entry p read read_prelude nine links count at c run here =
    let well = links_well input prelude entry p read read_prelude nine links in
    is_found links.world p (made_of input prelude entry p read read_prelude links) well at (run_real p well count _ run) c here
