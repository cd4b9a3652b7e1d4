-- What edges come from are nodes, and where the parts of a program stand in its indexes.
use Rattle.std.proofs.Common.{◌≡◌, ℕ, ◌+◌, Some, None, true, false, slice_get, refl, sym, subst, ◌∙◌}
use Rattle.std.proofs.lemmas.Option.{same_Some}
use Rattle.lists.specs.Lists.{Has}
use Rattle.lists.proofs.Joined.{slice_get-mapped}
use Rattle.link_rules.specs.declared.code.Arg.{Arg}
use Rattle.link_rules.specs.declared.code.Arg.TheVariants as arg
use Rattle.link_rules.specs.declared.code.Code.{Code}
use Rattle.link_rules.specs.declared.code.Code.TheVariants as code
use Rattle.link_rules.specs.Flow.{Next, IsReturn}
use Rattle.link_rules.specs.Linked.{LinkedMethod, LinkedProgram}
use Rattle.link_rules.specs.WellLinked.{FitsArg, FitsCode, HasTarget, IsLocalOf}
use Rattle.link_indexes.specs.Facts.{Calls, StoresStatic as StoresInto}
use Rattle.link_indexes.specs.Tables.{IsInMethod}
use Rattle.link_rules.specs.Accessed.{codes_in}
use Rattle.link_program.proofs.Found.{at_map}
use Rattle.link_sites.specs.Places.{CodeAt, HasCode}
use Rattle.spds_rules.specs.declared.node.Var.{Var}
use Rattle.spds_rules.specs.declared.node.Var.TheVariants.{Local, This, Param, Caught, Thrown, Made, Nested, Raised, Text, Class}
use Rattle.spds_rules.specs.Edges.{Assigns, IsCaughtAs, IsOfFrame, IsThrownBy, Leaves, LoadsInto, LoadsStatic, Passes, Returns, StoresStatic}
use Rattle.spds_rules.specs.Nodes.{HasVar, arg_var, handed}
use Rattle.spds_nodes.specs.Codes.{PassesAs, TakesFrom}
use Rattle.spds_nodes.proofs.Named.{All-at}
use Rattle.spds_nodes.proofs.Statements.{CodeAt-one}

module _ (p : LinkedProgram) (Fact : Code → Type 0) (number index : ℕ) where
  -- a statement that an index lists is one of the program
  pub in_code : IsInMethod Fact (codes_in p) number index → HasCode p number index Fact
  in_code there =
      let method = slice_get-mapped (λ (m : LinkedMethod). m.code) p.methods number there.0 there.1 in
      record {
        code = there.2.0;
        at = record { method = method.0; there = method.1; here = subst (λ c. slice_get c index ≡ Some there.2.0) (sym method.2) there.2.1 };
        is_so = there.2.2;
      }

  -- and is listed where it has the fact
  pub code_in : HasCode p number index Fact → IsInMethod Fact (codes_in p) number index
  code_in has = (has.at.method.code, at_map (λ (m : LinkedMethod). m.code) p.methods number has.at.method has.at.there, (has.code, has.at.here, has.is_so))

-- two facts of one statement
pub HasCode-and : (p : LinkedProgram) (number index : ℕ) (F G : Code → Type 0) → HasCode p number index F → HasCode p number index G
    → HasCode p number index (λ c. F c × G c)
HasCode-and p number index F G f g =
    record { code = f.code; at = f.at; is_so = (f.is_so, subst G (CodeAt-one p number index g.code f.code g.at f.at) g.is_so) }

-- the fact of a statement of which another follows
pub HasCode-weaker : (p : LinkedProgram) (number index : ℕ) (F G : Code → Type 0) → ((c : Code) → F c → G c) → HasCode p number index F → HasCode p number index G
HasCode-weaker p number index F G then has = record { code = has.code; at = has.at; is_so = then has.code has.is_so }

-- one method has a number
pub one_numbered : (p : LinkedProgram) (number : ℕ) (a b : LinkedMethod) → slice_get p.methods number ≡ Some a → slice_get p.methods number ≡ Some b → a ≡ b
one_numbered p number a b x y = same_Some a b (sym x ∙ y)

module _ (p : LinkedProgram) (m : LinkedMethod) where
  -- an operand that is handed on is a variable there
  arg_has : (c : Code) (a : Arg) (v : Var) → Has (handed c) a → FitsArg p m a → arg_var a ≡ Some v → HasVar m c false v
  arg_has c (arg.Local x) v has fits is = subst (HasVar m c false) (same_Some (Local x) v is) fits
  arg_has c arg.Number v has fits is = absurd (cc (is))
  arg_has c arg.Null v has fits is = absurd (cc (is))
  arg_has c (arg.Text number) v has fits is = subst (HasVar m c false) (same_Some (Text number) v is) has
  arg_has c (arg.Class number) v has fits is = subst (HasVar m c false) (same_Some (Class number) v is) has

  -- what is assigned
  pub assigned_has : (c : Code) (v w : Var) → FitsCode p m c → Assigns c v w → HasVar m c false v
  assigned_has (code.This to) v w fits h = subst (HasVar m (code.This to) false) (sym h.0) fits.1
  assigned_has (code.Param to number) v w fits h = subst (HasVar m (code.Param to number) false) (sym h.0) fits.1
  assigned_has (code.Caught to) v w fits h = subst (HasVar m (code.Caught to) false) (sym h.0) tt
  assigned_has (code.Copy to a) v w fits h = arg_has (code.Copy to a) a v (0, refl) fits.1 h.0
  assigned_has (code.Cast to a) v w fits h = arg_has (code.Cast to a) a v (0, refl) fits.1 h.0
  assigned_has (code.New to class) v w fits h = subst (HasVar m (code.New to class) false) (sym h.0) tt
  assigned_has (code.NewArray to) v w fits h = subst (HasVar m (code.NewArray to) false) (sym h.0) tt
  assigned_has (code.NewMulti to levels) v w fits h = subst (HasVar m (code.NewMulti to levels) false) (sym h.0) tt
  assigned_has _ v w fits h = absurd h

  -- what is loaded from
  pub loaded_has : (c : Code) (v : Var) (field : ℕ) (w : Var) → FitsCode p m c → LoadsInto c v field w → HasVar m c false v
  loaded_has (code.Load to base number) v field w fits h = subst (HasVar m (code.Load to base number) false) (sym h.0) fits.1
  loaded_has (code.LoadCell to base) v field w fits h = subst (HasVar m (code.LoadCell to base) false) (sym h.0) fits.1
  loaded_has _ v field w fits h = absurd h

  -- what is stored into a static field
  pub stored_has : (c : Code) (v : Var) (field : ℕ) → FitsCode p m c → StoresStatic c v field → HasVar m c false v
  stored_has (code.StoreStatic number a) v field fits h = arg_has (code.StoreStatic number a) a v (0, refl) fits.1 h.1
  stored_has _ v field fits h = absurd h

  -- what is returned
  pub returned_has : (c : Code) (v : Var) → FitsCode p m c → Returns c v → HasVar m c false v
  returned_has (code.Return (Some a)) v fits h = arg_has (code.Return (Some a)) a v (0, refl) fits h
  returned_has _ v fits h = absurd h

  -- what is passed
  pub passed_has : (c : Code) (v w : Var) → FitsCode p m c → PassesAs c v w → HasVar m c false v
  passed_has (code.Call to mode class key (Some receiver) args targets) v This fits h =
      let local : IsLocalOf m receiver = fits.2 in
      let same : receiver ≡ h.0 = same_Some receiver h.0 h.1 in
      subst (HasVar m (code.Call to mode class key (Some receiver) args targets) false) (sym h.2) (subst (IsLocalOf m) same local)
  passed_has (code.Call to mode class key None args targets) v This fits h = absurd (cc (h.1))
  passed_has (code.Call to mode class key receiver args targets) v (Param number) fits h =
      arg_has (code.Call to mode class key receiver args targets) h.0 v (number, h.1) (All-at (FitsArg p m) args number h.0 h.1 fits.4) h.2
  passed_has (code.Call to mode class key receiver args targets) v _ fits h = absurd h
  passed_has _ v w fits h = absurd h

  -- what is thrown
  pub thrown_has : (c : Code) (v : Var) → FitsCode p m c → IsThrownBy c v → HasVar m c false v
  thrown_has c (Raised kind) fits h = h
  thrown_has (code.Throw a) (Local x) fits h = arg_has (code.Throw a) a (Local x) (0, refl) fits h
  thrown_has (code.Throw a) This fits h = arg_has (code.Throw a) a This (0, refl) fits h
  thrown_has (code.Throw a) (Param x) fits h = arg_has (code.Throw a) a (Param x) (0, refl) fits h
  thrown_has (code.Throw a) Caught fits h = arg_has (code.Throw a) a Caught (0, refl) fits h
  thrown_has (code.Throw a) Thrown fits h = arg_has (code.Throw a) a Thrown (0, refl) fits h
  thrown_has (code.Throw a) Made fits h = arg_has (code.Throw a) a Made (0, refl) fits h
  thrown_has (code.Throw a) (Nested x) fits h = arg_has (code.Throw a) a (Nested x) (0, refl) fits h
  thrown_has (code.Throw a) (Text x) fits h = arg_has (code.Throw a) a (Text x) (0, refl) fits h
  thrown_has (code.Throw a) (Class x) fits h = arg_has (code.Throw a) a (Class x) (0, refl) fits h
  thrown_has _ (Local x) fits h = absurd h
  thrown_has _ This fits h = absurd h
  thrown_has _ (Param x) fits h = absurd h
  thrown_has _ Caught fits h = absurd h
  thrown_has _ Thrown fits h = absurd h
  thrown_has _ Made fits h = absurd h
  thrown_has _ (Nested x) fits h = absurd h
  thrown_has _ (Text x) fits h = absurd h
  thrown_has _ (Class x) fits h = absurd h

-- a variable of a frame is there at each statement of the method
pub frame_has : (m : LinkedMethod) (c d : Code) (v : Var) → IsOfFrame v → HasVar m c false v → HasVar m d false v
frame_has m c d (Local x) of has = has
frame_has m c d This of has = has
frame_has m c d (Param number) of has = has
frame_has m c d Caught of has = tt
frame_has m c d _ of has = absurd of

-- and with an exception in flight, as without one
pub frame_raised : (m : LinkedMethod) (c d : Code) (v : Var) → IsOfFrame v → HasVar m c true v → HasVar m d false v
frame_raised m c d (Local x) of has = has
frame_raised m c d This of has = has
frame_raised m c d (Param number) of has = has
frame_raised m c d Caught of has = tt
frame_raised m c d _ of has = absurd of

-- what a handler finds is there in flight
pub caught_has : (m : LinkedMethod) (c d : Code) (v w : Var) → IsCaughtAs v w → HasVar m c false w → HasVar m d true v
caught_has m c d (Local x) w is has = subst (HasVar m c false) is has
caught_has m c d This w is has = subst (HasVar m c false) is has
caught_has m c d (Param number) w is has = subst (HasVar m c false) is has
caught_has m c d Thrown w is has = tt
caught_has m c d _ w is has = absurd is

-- behind a statement that assigns stands the next one alone
pub assigned_next : (c : Code) (v w : Var) (t : ℕ) → Assigns c v w → Next c t (t + 1)
assigned_next (code.This to) v w t h = refl
assigned_next (code.Param to number) v w t h = refl
assigned_next (code.Caught to) v w t h = refl
assigned_next (code.Copy to a) v w t h = refl
assigned_next (code.Cast to a) v w t h = refl
assigned_next (code.New to class) v w t h = refl
assigned_next (code.NewArray to) v w t h = refl
assigned_next (code.NewMulti to levels) v w t h = refl
assigned_next _ v w t h = absurd h

pub loaded_next : (c : Code) (v : Var) (field : ℕ) (w : Var) (t : ℕ) → LoadsInto c v field w → Next c t (t + 1)
loaded_next (code.Load to base number) v field w t h = refl
loaded_next (code.LoadCell to base) v field w t h = refl
loaded_next _ v field w t h = absurd h

pub static_next : (c : Code) (field : ℕ) (w : Var) (t : ℕ) → LoadsStatic c field w → Next c t (t + 1)
static_next (code.LoadStatic to number) field w t h = refl
static_next _ field w t h = absurd h

-- what is assigned is assigned to a local, at the next statement
pub assigned_at : (c : Code) (v w : Var) (t s : ℕ) → Assigns c v w → Next c t s → (x : ℕ) × (w ≡ Local x) × (t + 1 ≡ s)
assigned_at (code.This to) v w t s h next = (to, h.1, sym next)
assigned_at (code.Param to number) v w t s h next = (to, h.1, sym next)
assigned_at (code.Caught to) v w t s h next = (to, h.1, sym next)
assigned_at (code.Copy to a) v w t s h next = (to, h.1, sym next)
assigned_at (code.Cast to a) v w t s h next = (to, h.1, sym next)
assigned_at (code.New to class) v w t s h next = (to, h.1, sym next)
assigned_at (code.NewArray to) v w t s h next = (to, h.1, sym next)
assigned_at (code.NewMulti to levels) v w t s h next = (to, h.1, sym next)
assigned_at _ v w t s h next = absurd h

pub loaded_at : (c : Code) (v : Var) (field : ℕ) (w : Var) (t s : ℕ) → LoadsInto c v field w → Next c t s → (x : ℕ) × (w ≡ Local x) × (t + 1 ≡ s)
loaded_at (code.Load to base number) v field w t s h next = (to, h.2, sym next)
loaded_at (code.LoadCell to base) v field w t s h next = (to, h.2, sym next)
loaded_at _ v field w t s h next = absurd h

pub static_at : (c : Code) (field : ℕ) (w : Var) (t s : ℕ) → LoadsStatic c field w → Next c t s → (x : ℕ) × (w ≡ Local x) × (t + 1 ≡ s)
static_at (code.LoadStatic to number) field w t s h next = (to, h.1, sym next)
static_at _ field w t s h next = absurd h

-- the indexes list what stores into a static field and what returns
pub stored_listed : (c : Code) (v : Var) (field : ℕ) → StoresStatic c v field → StoresInto field c
stored_listed (code.StoreStatic number a) v field h = h.0
stored_listed _ v field h = absurd h

pub returned_listed : (c : Code) (v : Var) → Returns c v → IsReturn c
returned_listed (code.Return (Some a)) v h = tt
returned_listed _ v h = absurd h

-- a call whose result is taken from the method
pub taken_target : (p : LinkedProgram) (number index x target : ℕ) (c : Code) → CodeAt p number index c → TakesFrom c x target
    → (found : HasTarget p number index target) × (found.to ≡ Some x)
taken_target p number index x target (code.Call to mode class key receiver args targets) at h =
    (record { method = at.method; there = at.there; to = to; mode = mode; class = class; key = key; receiver = receiver; args = args; targets = targets; call = at.here; has = h.1 }, h.0)
taken_target p number index x target _ at h = absurd h

-- a call that passes v to the method
pub passed_target : (p : LinkedProgram) (number index target : ℕ) (v w : Var) (c : Code) → CodeAt p number index c → Calls target c → PassesAs c v w
    → (found : HasTarget p number index target) × Passes found.receiver found.args v w
passed_target p number index target v w (code.Call to mode class key receiver args targets) at calls h =
    (record { method = at.method; there = at.there; to = to; mode = mode; class = class; key = key; receiver = receiver; args = args; targets = targets; call = at.here; has = calls }, h)
passed_target p number index target v w _ at calls h = absurd calls

-- a call that may run the method
pub called_target : (p : LinkedProgram) (number index target : ℕ) (c : Code) → CodeAt p number index c → Calls target c → HasTarget p number index target
called_target p number index target (code.Call to mode class key receiver args targets) at calls =
    record { method = at.method; there = at.there; to = to; mode = mode; class = class; key = key; receiver = receiver; args = args; targets = targets; call = at.here; has = calls }
called_target p number index target _ at calls = absurd calls

-- a statement leaves variables of a frame alone
pub left_of_frame : (c : Code) (v : Var) → Leaves c v → IsOfFrame v
left_of_frame c (Local x) leaves = tt
left_of_frame c This leaves = leaves
left_of_frame c (Param number) leaves = leaves
left_of_frame c Caught leaves = leaves
left_of_frame c Thrown leaves = leaves
left_of_frame c Made leaves = leaves
left_of_frame c (Nested level) leaves = leaves
left_of_frame c (Raised kind) leaves = leaves
left_of_frame c (Text number) leaves = leaves
left_of_frame c (Class number) leaves = leaves

-- what a statement leaves is there before it
pub left_has : (m : LinkedMethod) (c d : Code) (v : Var) → Leaves d v → HasVar m c false v → HasVar m d false v
left_has m c d v leaves has = frame_has m c d v (left_of_frame d v leaves) has
