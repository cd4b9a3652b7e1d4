-- The rows of the machine's table, each once: what explains the effects of each statement.
use Rattle.std.proofs.Common.{◌≡◌, ℕ, ◌+◌, ◌++◌, Some, None, true, false, List, [], ◌∷◌, map, slice_get, refl, ap, ◌∙◌, subst, inl, inr, arith}
use Rattle.std.proofs.lemmas.List.{append-nil}
use Rattle.link_rules.specs.declared.code.Arg.{Arg}
use Rattle.link_rules.specs.declared.code.Arg.TheVariants as arg
use Rattle.link_rules.specs.declared.code.Code.{Code}
use Rattle.link_rules.specs.declared.code.Code.TheVariants.{This, Param, Caught, Copy, Cast, New, NewArray, NewMulti, Numeric, Length, Load, Store, LoadCell, StoreCell, LoadStatic, StoreStatic, Call, If, Goto, Switch, Return, Throw, Monitor, Skip}
use Rattle.link_rules.specs.Linked.{LinkedMethod, LinkedProgram}
use Rattle.link_rules.specs.WellLinked.{FitsCode, IsWellLinked}
use Rattle.link_sites.specs.Sites.{HasDeclared, IsArraySite}
use Rattle.run_covers.proofs.Offered.{AllOf, only}
use Rattle.spds_rules.specs.declared.node.Var.{Var}
use Rattle.spds_rules.specs.declared.node.Var.TheVariants as var
use Rattle.spds_rules.specs.Edges.{Assigns, IsThrownBy, Returns, StoresStatic}
use Rattle.spds_rules.specs.Nodes.{arg_var}
use Rattle.spds_rules.specs.Stores.{StoresInto}
use Rattle.step_rules.specs.declared.parts.Slot.TheVariants as slots
use Rattle.step_rules.specs.declared.parts.Value.TheVariants.{Null, Number, Object}
use Rattle.step_rules.specs.Effects.{Effect, gets, goes, makes, nests, raises, returns, sets, throws, writes}
use Rattle.step_rules.specs.Offers.{FindsElement, Nests, Row}
use Rattle.step_rules.specs.Slots.{cells, field_of, local_of, operand_of}
use Rattle.step_rules.specs.States.{HeapObject, Point}
use Rattle.run_sound.proofs.Calling.{call_row}
use Rattle.run_sound.proofs.Explained.{IsExplained, assigned, by_slot, loaded, operand, static}
use Rattle.run_sound.proofs.Offered.{by_access, by_object, by_value, each_mapped, not_typed, of_object, of_value}
use Rattle.run_sound.proofs.Words.{field_written, values_written}

-- the variable of a thrown operand is put in flight
thrown_by : (a : Arg) (v : Var) → arg_var a ≡ Some v → IsThrownBy (Throw a) v
thrown_by (arg.Local x) v e = let is : var.Local x ≡ v = cc in subst (IsThrownBy (Throw (arg.Local x))) is refl
thrown_by (arg.Text i) v e = let is : var.Text i ≡ v = cc in subst (IsThrownBy (Throw (arg.Text i))) is refl
thrown_by (arg.Class i) v e = let is : var.Class i ≡ v = cc in subst (IsThrownBy (Throw (arg.Class i))) is refl
thrown_by arg.Number v e = cc
thrown_by arg.Null v e = cc

module _ (p : LinkedProgram) (well : IsWellLinked p) (point : Point) (m : LinkedMethod) (there : slice_get p.methods point.top.method ≡ Some m)
    (offered : List Effect) where
  -- the effects of the statement are explained
  abbrev J : Code → Effect → Type 0
  J c = IsExplained p point m c

  abbrev Fine : Code → Type 0
  Fine c = FitsCode p m c → Row p point c offered → AllOf (J c) offered

  load_row : (to base field : ℕ) → Fine (Load to base field)
  load_row to base field fits h = by_access (J (Load to base field)) tt (refl, tt) point.heap (local_of point.top base)
      (λ object. HasDeclared p object.class field) (λ o object. gets to (field_of object field) ∷ []) offered h (λ o object e there has. (
        record {
          sets = (refl, refl, fits.0);
          gives = tt;
          from = λ x is. loaded base field o object e there (field_written object field x is) (refl, refl, refl);
        },
        tt,
      ))

  load_cell_row : (to base : ℕ) → Fine (LoadCell to base)
  load_cell_row to base fits h = of_value Cell tt (local_of point.top base) _ offered
      (λ v held r. of_object Cell tt (omega arith, tt) v _ offered (λ o is at. found o (held ∙ ap Some is) at.0 at.1 at.2) r) h
    where
      Cell : Effect → Type 0
      Cell = J (LoadCell to base)

      -- an array of an inner level
      nested : (o : ℕ) → local_of point.top base ≡ Some (Object o) → (object : HeapObject) → slice_get point.heap o ≡ Some object
          → IsArraySite p object.site → (more : List Effect) → Nests p to o object.site more → AllOf Cell more
      nested o held object there is_array more n = elim n [
        | inl one ↦ only Cell (nests to o one.0 one.1 ∷ []) more one.4 (
          record {
            sets = (refl, refl, fits.0);
            plain = tt;
            base = base;
            holds = held;
            loads = (refl, refl, refl);
            outer = object;
            there = there;
            is_array = is_array;
            is_inner = one.2;
            class_named = one.3;
          },
          tt,
        )
        | inr none ↦ only Cell [] more none.1 tt
      ]

      found : (o : ℕ) → local_of point.top base ≡ Some (Object o) → (object : HeapObject) → slice_get point.heap o ≡ Some object
          → FindsElement p to o object offered → AllOf Cell offered
      found o held object there finds = elim finds [
        | inl a ↦
            let cell = a.1 in
            only Cell (gets to Null ∷ map (λ cell. gets to cell) (cells object) ++ raises 1 ∷ cell.0) offered cell.2 (
              record { sets = (refl, refl, fits.0); gives = tt; from = λ x is. cc (is) },
              each_mapped Cell (λ cell. gets to cell) (cells object) (raises 1 ∷ cell.0) (λ value has. record {
                sets = (refl, refl, fits.0);
                gives = tt;
                from = λ x is. loaded base 0 o object held there (values_written object 0 (Object x) (has.0, has.1 ∙ ap Some is)) (refl, refl, refl);
              }) ((omega arith, tt), nested o held object there a.0 cell.0 cell.1),
            )
        | inr b ↦ not_typed Cell tt offered b.1
      ]

  store_row : (base field : ℕ) (a : Arg) → Fine (Store base field a)
  store_row base field a fits h = of_value (J (Store base field a)) tt (operand_of p point.top a) _ offered (λ value is r.
      by_access (J (Store base field a)) tt (refl, tt) point.heap (local_of point.top base) (λ object. HasDeclared p object.class field)
      (λ o object. writes o field value ∷ []) offered r (λ o object e there has. (
        record {
          goes = (refl, refl, tt);
          base = base;
          holds = e;
          object = object;
          there = there;
          has = inr has;
          from = λ x of. operand p point m (Store base field a) a x (λ v. StoresInto (Store base field a) field (var.Local base) v) fits.2 (0, refl)
              (is ∙ ap Some of) (λ v is_var. (refl, refl, is_var));
        },
        tt,
      ))) h

  store_cell_row : (base : ℕ) (a : Arg) → Fine (StoreCell base a)
  store_cell_row base a fits h = of_value (J (StoreCell base a)) tt (operand_of p point.top a) _ offered (λ value is r.
      by_access (J (StoreCell base a)) tt (omega arith, tt) point.heap (local_of point.top base) (λ object. IsArraySite p object.site)
      (λ o object. writes o 0 value ∷ raises 1 ∷ raises 2 ∷ []) offered r (λ o object e there has. (
        record {
          goes = (refl, refl, tt);
          base = base;
          holds = e;
          object = object;
          there = there;
          has = inl (refl, has);
          from = λ x of. operand p point m (StoreCell base a) a x (λ v. StoresInto (StoreCell base a) 0 (var.Local base) v) fits.1 (0, refl)
              (is ∙ ap Some of) (λ v is_var. (refl, refl, is_var));
        },
        ((omega arith, tt), ((omega arith, tt), tt)),
      ))) h

  -- each statement
  pub row : (c : Code) → slice_get m.code point.top.index ≡ Some c → Fine c
  row (This to) here fits h = by_value (J (This to)) tt point.top.this (λ v. gets to v ∷ []) offered h (λ v e. (
    record {
      sets = (refl, refl, fits.0);
      gives = e;
      from = λ x is. assigned (record { var = var.This; has = fits.1; stands = by_slot slots.This (e ∙ ap Some is); fact = (refl, refl) });
    },
    tt,
  ))
  row (Param to number) here fits h = by_value (J (Param to number)) tt (slice_get point.top.params number) (λ v. gets to v ∷ []) offered h (λ v e. (
    record {
      sets = (refl, refl, fits.0);
      gives = e;
      from = λ x is. assigned (record { var = var.Param number; has = fits.1; stands = by_slot (slots.Param number) (e ∙ ap Some is); fact = (refl, refl) });
    },
    tt,
  ))
  row (Caught to) here fits h = by_value (J (Caught to)) tt point.top.caught (λ v. gets to v ∷ []) offered h (λ v e. (
    record {
      sets = (refl, refl, fits);
      gives = e;
      from = λ x is. assigned (record { var = var.Caught; has = tt; stands = by_slot slots.Caught (e ∙ ap Some is); fact = (refl, refl) });
    },
    tt,
  ))
  row (Copy to a) here fits h = by_value (J (Copy to a)) tt (operand_of p point.top a) (λ v. gets to v ∷ []) offered h (λ v e. (
    record {
      sets = (refl, refl, fits.0);
      gives = tt;
      from = λ x is. assigned (operand p point m (Copy to a) a x (λ v. Assigns (Copy to a) v (var.Local to)) fits.1 (0, refl) (e ∙ ap Some is)
          (λ v is_var. (is_var, refl)));
    },
    tt,
  ))
  row (Cast to a) here fits h = by_value (J (Cast to a)) tt (operand_of p point.top a) (λ v. gets to v ∷ raises 4 ∷ []) offered h (λ v e. (
    record {
      sets = (refl, refl, fits.0);
      gives = tt;
      from = λ x is. assigned (operand p point m (Cast to a) a x (λ v. Assigns (Cast to a) v (var.Local to)) fits.1 (0, refl) (e ∙ ap Some is)
          (λ v is_var. (is_var, refl)));
    },
    ((refl, tt), tt),
  ))
  row (New to class) here fits h = only (J (New to class)) (makes to class ∷ []) offered h
      (record { sets = (refl, refl, fits.0); plain = tt; assigns = (refl, refl); makes = tt; class_made = refl }, tt)
  row (NewArray to) here fits h = only (J (NewArray to)) (makes to h.0 ∷ raises 3 ∷ []) offered h.2
      (record { sets = (refl, refl, fits); plain = tt; assigns = (refl, refl); makes = tt; class_made = h.1 }, ((refl, tt), tt))
  row (NewMulti to levels) here fits h = only (J (NewMulti to levels)) (makes to h.0 ∷ raises 3 ∷ []) offered h.2
      (record { sets = (refl, refl, fits.0); plain = tt; assigns = (refl, refl); makes = tt; class_made = h.1 }, ((refl, tt), tt))
  row (Numeric to true) here fits h = only (J (Numeric to true)) (gets to Number ∷ raises 5 ∷ []) offered h
      (record { sets = (refl, refl, fits); gives = tt; from = λ x is. cc (is) }, (((refl, refl), tt), tt))
  row (Numeric to false) here fits h = only (J (Numeric to false)) (gets to Number ∷ []) offered h
      (record { sets = (refl, refl, fits); gives = tt; from = λ x is. cc (is) }, tt)
  row (Length to a) here fits h = by_object (J (Length to a)) tt (refl, tt) (operand_of p point.top a) (λ o. gets to Number ∷ []) offered h
      (λ o e. (record { sets = (refl, refl, fits.0); gives = tt; from = λ x is. cc (is) }, tt))
  row (Load to base field) here fits h = load_row to base field fits h
  row (Store base field a) here fits h = store_row base field a fits h
  row (LoadCell to base) here fits h = load_cell_row to base fits h
  row (StoreCell base a) here fits h = store_cell_row base a fits h
  row (LoadStatic to field) here fits h = only (J (LoadStatic to field)) (gets to h.0 ∷ []) offered h.2
      (record { sets = (refl, refl, fits.0); gives = tt; from = λ x is. static field (h.1 ∙ ap Some is) (refl, refl) }, tt)
  row (StoreStatic field a) here fits h = by_value (J (StoreStatic field a)) tt (operand_of p point.top a) (λ v. sets field v ∷ []) offered h (λ v e. (
    record {
      goes = (refl, refl, tt);
      from = λ x is. operand p point m (StoreStatic field a) a x (λ v. StoresStatic (StoreStatic field a) v field) fits.1 (0, refl) (e ∙ ap Some is)
          (λ v is_var. (refl, is_var));
    },
    tt,
  ))
  row (Call to mode class key receiver args targets) here fits h = call_row p well point m there to mode class key args targets offered receiver here fits h
  row (If jump) here fits h = only (J (If jump)) (goes (point.top.index + 1) ∷ goes jump ∷ []) offered h ((inl refl, refl, tt), ((inr refl, refl, tt), tt))
  row (Goto jump) here fits h = only (J (Goto jump)) (goes jump ∷ []) offered h ((refl, refl, tt), tt)
  row (Switch jumps) here fits h =
      let all : AllOf (J (Switch jumps)) (map (λ jump. goes jump) jumps ++ []) =
      each_mapped (J (Switch jumps)) (λ jump. goes jump) jumps [] (λ jump has. (has, refl, tt)) tt in
      only (J (Switch jumps)) (map (λ jump. goes jump) jumps) offered h (subst (AllOf (J (Switch jumps))) (append-nil (map (λ jump. goes jump) jumps)) all)
  row (Return None) here fits h = only (J (Return None)) (returns None ∷ []) offered h (record { is_return = tt; from = λ x e. cc (e) }, tt)
  row (Return (Some a)) here fits h = by_value (J (Return (Some a))) tt (operand_of p point.top a) (λ v. returns (Some v) ∷ []) offered h (λ v e. (
    record {
      is_return = tt;
      from = λ x is. operand p point m (Return (Some a)) a x (λ v. Returns (Return (Some a)) v) fits (0, refl) (e ∙ is) (λ v is_var. is_var);
    },
    tt,
  ))
  row (Throw a) here fits h = by_object (J (Throw a)) tt (refl, tt) (operand_of p point.top a) (λ o. throws o ∷ []) offered h (λ o e. (
    record {
      raises = tt;
      plain = tt;
      from = operand p point m (Throw a) a o (λ v. IsThrownBy (Throw a) v) fits (0, refl) e (λ v is_var. thrown_by a v is_var);
    },
    tt,
  ))
  row (Monitor a) here fits h = by_object (J (Monitor a)) tt (refl, tt) (operand_of p point.top a) (λ o. goes (point.top.index + 1) ∷ []) offered h
      (λ o e. ((refl, refl, tt), tt))
  row Skip here fits h = only (J Skip) (goes (point.top.index + 1) ∷ []) offered h ((refl, refl, tt), tt)
