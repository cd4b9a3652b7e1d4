-- What a program in form has: the operands of its statements, the nodes of its stores, and the sites of its nodes.
use Rattle.std.proofs.Common.{◌≡◌, ◌∙◌, ℕ, zero, suc, ◌<◌, arith, Bool, true, false, List, [], slice_get, Some, None, All, refl, sym, ap, subst}
use Rattle.std.proofs.lemmas.Option.{get_or_from_slice_get}
use Rattle.lists.specs.Lists.{Has}
use Rattle.lists.proofs.Places.{slice_get-below}
use Rattle.link_rules.specs.declared.code.Arg.{Arg}
use Rattle.link_rules.specs.declared.code.Arg.TheVariants as arg
use Rattle.link_rules.specs.declared.code.Code.{Code}
use Rattle.link_rules.specs.declared.code.Code.TheVariants as code
use Rattle.link_rules.specs.Linked.{LinkedMethod, LinkedProgram}
use Rattle.link_rules.specs.WellLinked.{FitsArg, FitsCode, FitsMethod, IsInForm}
use Rattle.link_sites.specs.declared.place.Place.{Place}
use Rattle.link_sites.specs.declared.site.Site.{Site}
use Rattle.link_sites.specs.declared.site.Site.TheVariants as site
use Rattle.link_sites.specs.Sites.{IsSite}
use Rattle.spds_rules.specs.declared.node.Node.{Node}
use Rattle.spds_rules.specs.declared.node.Var.{Var}
use Rattle.spds_rules.specs.declared.node.Var.TheVariants.{Local, This, Param, Caught, Thrown, Made, Nested, Raised, Text, Class}
use Rattle.spds_rules.specs.declared.store.StoreAt.{StoreAt}
use Rattle.spds_rules.specs.Demand.{Asked, Demand, target, source, base, arg as argument}
use Rattle.spds_rules.specs.Nodes.{HasVar, IsNode, MayStand, arg_var, handed, site_at, site_of}
use Rattle.spds_rules.specs.Stores.{IsStore, StoresInto, level_var}
use Rattle.demand_set.proofs.Appended.{Has-one}

-- the fact of the element at a place
all_at : {X : Type 0} (P : X → Type 0) (xs : List X) (i : ℕ) (x : X) → All P xs → slice_get xs i ≡ Some x → P x
all_at P xs i x all e = subst P (get_or_from_slice_get xs i x x e) (all i x (slice_get-below xs i x e))

-- nothing stands in a list of nothing
nothing : {X : Type 0} (x : X) → Has [] x → ⊥
nothing x h = cc (h.1)

module _ (p : LinkedProgram) (form : IsInForm p) where
  -- each statement fits its method
  fits : (number index : ℕ) (m : LinkedMethod) (c : Code) → slice_get p.methods number ≡ Some m → slice_get m.code index ≡ Some c → FitsCode p m c
  fits number index m c there here = all_at (FitsCode p m) m.code index c (all_at (FitsMethod p) p.methods number m form.methods there).codes here

  -- so does each operand that it hands on
  handed_fits : (m : LinkedMethod) (c : Code) (a : Arg) → FitsCode p m c → Has (handed c) a → FitsArg p m a
  handed_fits m (code.Copy to x) a f h = rw (Has-one x a h) (f.1)
  handed_fits m (code.Cast to x) a f h = rw (Has-one x a h) (f.1)
  handed_fits m (code.Store w field x) a f h = rw (Has-one x a h) (f.2)
  handed_fits m (code.StoreCell w x) a f h = rw (Has-one x a h) (f.1)
  handed_fits m (code.StoreStatic field x) a f h = rw (Has-one x a h) (f.1)
  handed_fits m (code.Call to mode class key receiver args targets) a f h = all_at (FitsArg p m) args h.0 a (f.4) (h.1)
  handed_fits m (code.Return (Some x)) a f h = rw (Has-one x a h) f
  handed_fits m (code.Return None) a f h = absurd (nothing a h)
  handed_fits m (code.Throw x) a f h = rw (Has-one x a h) f
  handed_fits m (code.This to) a f h = absurd (nothing a h)
  handed_fits m (code.Param to number) a f h = absurd (nothing a h)
  handed_fits m (code.Caught to) a f h = absurd (nothing a h)
  handed_fits m (code.New to class) a f h = absurd (nothing a h)
  handed_fits m (code.NewArray to) a f h = absurd (nothing a h)
  handed_fits m (code.NewMulti to levels) a f h = absurd (nothing a h)
  handed_fits m (code.Numeric to divides) a f h = absurd (nothing a h)
  handed_fits m (code.Length to x) a f h = absurd (nothing a h)
  handed_fits m (code.Load to w field) a f h = absurd (nothing a h)
  handed_fits m (code.LoadCell to w) a f h = absurd (nothing a h)
  handed_fits m (code.LoadStatic to field) a f h = absurd (nothing a h)
  handed_fits m (code.If jump) a f h = absurd (nothing a h)
  handed_fits m (code.Goto jump) a f h = absurd (nothing a h)
  handed_fits m (code.Switch jumps) a f h = absurd (nothing a h)
  handed_fits m (code.Monitor x) a f h = absurd (nothing a h)
  handed_fits m code.Skip a f h = absurd (nothing a h)

  -- ---- the nodes of a store

  -- an operand that is handed on stands there
  arg_stands : (m : LinkedMethod) (c : Code) (a : Arg) (v : Var) → FitsArg p m a → Has (handed c) a → arg_var a ≡ Some v → HasVar m c false v
  arg_stands m c (arg.Local x) v f h e = let is : v ≡ Local x = cc in rw is f
  arg_stands m c (arg.Text i) v f h e = let is : v ≡ Text i = cc in rw is h
  arg_stands m c (arg.Class i) v f h e = let is : v ≡ Class i = cc in rw is h
  arg_stands m c arg.Number v f h e = cc
  arg_stands m c arg.Null v f h e = cc

  -- both variables of a store do
  level_stands : (m : LinkedMethod) (to levels outer : ℕ) → outer < levels → HasVar m (code.NewMulti to levels) false (level_var outer)
  level_stands m to levels zero less = tt
  level_stands m to levels (suc outer) less = (omega arith, less)

  stores_stand : (m : LinkedMethod) (c : Code) (f : ℕ) (w v : Var) → FitsCode p m c → StoresInto c f w v → HasVar m c false w × HasVar m c false v
  stores_stand m (code.Store x field a) f w v fit s = (rw (s.1) (fit.0), arg_stands m (code.Store x field a) a v (fit.2) (0, refl) (s.2))
  stores_stand m (code.StoreCell x a) f w v fit s = (rw (s.1) (fit.0), arg_stands m (code.StoreCell x a) a v (fit.1) (0, refl) (s.2))
  stores_stand m (code.NewMulti to levels) f w v fit s = (rw (s.3) (level_stands m to levels s.1 (omega (arith, s.2))), rw (s.4) (omega arith, s.2))
  stores_stand m (code.Copy to x) f w v fit s = absurd s
  stores_stand m (code.Cast to x) f w v fit s = absurd s
  stores_stand m (code.StoreStatic field x) f w v fit s = absurd s
  stores_stand m (code.Call to mode class key receiver args targets) f w v fit s = absurd s
  stores_stand m (code.Return x) f w v fit s = absurd s
  stores_stand m (code.Throw x) f w v fit s = absurd s
  stores_stand m (code.This to) f w v fit s = absurd s
  stores_stand m (code.Param to number) f w v fit s = absurd s
  stores_stand m (code.Caught to) f w v fit s = absurd s
  stores_stand m (code.New to class) f w v fit s = absurd s
  stores_stand m (code.NewArray to) f w v fit s = absurd s
  stores_stand m (code.Numeric to divides) f w v fit s = absurd s
  stores_stand m (code.Length to x) f w v fit s = absurd s
  stores_stand m (code.Load to x field) f w v fit s = absurd s
  stores_stand m (code.LoadCell to x) f w v fit s = absurd s
  stores_stand m (code.LoadStatic to field) f w v fit s = absurd s
  stores_stand m (code.If jump) f w v fit s = absurd s
  stores_stand m (code.Goto jump) f w v fit s = absurd s
  stores_stand m (code.Switch jumps) f w v fit s = absurd s
  stores_stand m (code.Monitor x) f w v fit s = absurd s
  stores_stand m code.Skip f w v fit s = absurd s

  -- a variable that stands at an unraised place is a node there
  node_at : (n : Node) (place : Place) (m : LinkedMethod) (c : Code) → n.place ≡ place → place.raised ≡ false → slice_get p.methods place.method ≡ Some m
      → slice_get m.code place.index ≡ Some c → HasVar m c false n.var → IsNode p n
  node_at n place m c at unraised there here has =
      let raised : n.place.raised ≡ false = ap (λ (x : Place). x.raised) at ∙ unraised in
      record {
        method = m;
        there = ap (λ (x : Place). slice_get p.methods x.method) at ∙ there;
        code = c;
        here = ap (λ (x : Place). slice_get m.code x.index) at ∙ here;
        stands = subst (MayStand c) (sym raised) tt;
        has = subst (λ r. HasVar m c r n.var) (sym raised) has;
      }

  pub store_base : (s : StoreAt) → IsStore p s → IsNode p s.base
  store_base s is =
      let m = is.stores.at.method in
      let c = is.stores.code in
      let fit = fits s.place.method s.place.index m c is.stores.at.there is.stores.at.here in
      node_at s.base s.place m c is.base_there is.unraised is.stores.at.there is.stores.at.here (stores_stand m c s.field s.base.var s.arg.var fit is.stores.is_so).0

  pub store_arg : (s : StoreAt) → IsStore p s → IsNode p s.arg
  store_arg s is =
      let m = is.stores.at.method in
      let c = is.stores.code in
      let fit = fits s.place.method s.place.index m c is.stores.at.there is.stores.at.here in
      node_at s.arg s.place m c is.arg_there is.unraised is.stores.at.there is.stores.at.here (stores_stand m c s.field s.base.var s.arg.var fit is.stores.is_so).1

  -- what nodes demand are nodes
  pub demanded_nodes : (q : Asked) → ((n : Node) → Has q.targets n → IsNode p n) → {n : Node} → Demand p q n → IsNode p n
  demanded_nodes q nodes (target h) = nodes _ h
  demanded_nodes q nodes (source edge d) = edge.from
  demanded_nodes q nodes (base {s = s} edge d is e) = store_base s is
  demanded_nodes q nodes (argument {s = s} edge d is e) = store_arg s is

  -- ---- the site of a node

  site_stands : (place : Place) (v : Var) (s : Site) (m : LinkedMethod) (c : Code) (raised : Bool) → slice_get p.methods place.method ≡ Some m
      → slice_get m.code place.index ≡ Some c → place.raised ≡ raised → HasVar m c raised v → site_at place v ≡ Some s → IsSite p s
  site_stands place Made s m c false there here un has e =
      let is : s ≡ site.New place = cc in rw is (un, record { code = c; at = record { method = m; there = there; here = here }; is_so = has })
  site_stands place (Nested level) s m c false there here un has e =
      let is : s ≡ site.Nested place level = cc in rw is (un, record { code = c; at = record { method = m; there = there; here = here }; is_so = has })
  site_stands place (Raised kind) s m c false there here un has e =
      let is : s ≡ site.Raised place kind = cc in rw is (un, record { code = c; at = record { method = m; there = there; here = here }; is_so = has })
  site_stands place (Text i) s m c false there here un has e =
      let is : s ≡ site.Text i = cc in rw is (handed_fits m c (arg.Text i) (fits place.method place.index m c there here) has)
  site_stands place (Class i) s m c false there here un has e =
      let is : s ≡ site.Class i = cc in rw is (handed_fits m c (arg.Class i) (fits place.method place.index m c there here) has)
  site_stands place Made s m c true there here un has e = absurd has
  site_stands place (Nested level) s m c true there here un has e = absurd has
  site_stands place (Raised kind) s m c true there here un has e = absurd has
  site_stands place (Text i) s m c true there here un has e = absurd has
  site_stands place (Class i) s m c true there here un has e = absurd has
  site_stands place (Local x) s m c raised there here un has e = cc
  site_stands place This s m c raised there here un has e = cc
  site_stands place (Param x) s m c raised there here un has e = cc
  site_stands place Caught s m c raised there here un has e = cc
  site_stands place Thrown s m c raised there here un has e = cc

  -- it is one of the program
  pub node_site : (n : Node) (s : Site) → IsNode p n → site_of n ≡ Some s → IsSite p s
  node_site n s is e = site_stands n.place n.var s is.method is.code n.place.raised is.there is.here refl is.has e
