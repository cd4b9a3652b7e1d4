-- The targets of a call, and its code.
use Rattle.std.proofs.Common.{◌≡◌, ℕ, List, Some, All, slice_get, get_or, subst}
use Rattle.std.proofs.lemmas.Option.{slice_get-get_or}
use Rattle.lists.specs.Lists.{Has, Each}
use Rattle.jim_ast.specs.declared.syntax.Imm.{Imm}
use Rattle.jim_ast.specs.declared.syntax.MethodSig.{MethodSig}
use Rattle.jim_ast.specs.declared.syntax.Mode.{Mode}
use Rattle.link_rules.specs.declared.code.Arg.{Arg}
use Rattle.link_rules.specs.Classes.{IsNamed, methods_of}
use Rattle.link_rules.specs.Codes.{IsArg, IsCall}
use Rattle.link_rules.specs.Keys.{IsMethodKeyNumber, called_key}
use Rattle.link_rules.specs.Names.{text_of}
use Rattle.link_rules.specs.Targets.{AreTargetRows}
use Rattle.link_rules.specs.World.{World}
use Rattle.link_codes.specs.declared.constants.Constants.{Constants}
use Rattle.link_codes.specs.Contexts.{Context, scope_with}
use Rattle.link_codes.specs.Needs.{HasTargets}

module _ (b : Context) (w : World) (mode : Mode) (sig : MethodSig) (class key : ℕ) (rows : List ℕ) (same : w ≡ b.world)
    (named : IsNamed b.world.classes (text_of b.names sig.class) class) (is_key : IsMethodKeyNumber (methods_of b.world.classes) (called_key b.names mode sig) key)
    (are : AreTargetRows w mode class key rows) where
  are_rows : AreTargetRows b.world mode class key rows
  are_rows = subst (λ v. AreTargetRows v mode class key rows) same are

  -- each row of a target has a number
  pub rows_numbered : HasTargets b mode sig → All (Has b.method_rows) rows
  rows_numbered has = λ k d below. has.numbered class key (get_or rows k d) named is_key ((are_rows.each (get_or rows k d)).0 (k, slice_get-get_or rows k d below))

  -- the code of the call
  pub call_made : (later : Constants) (operands : List Imm) (args : List Arg) (targets : List ℕ) → Each (IsArg (scope_with b later)) operands args
      → Each (λ row n. slice_get b.method_rows n ≡ Some row) rows targets → IsCall (scope_with b later) mode sig operands class key args targets
  call_made later operands args targets are_args numbered =
      record { is_class = named; is_key = is_key; are_args = are_args; rows = rows; are_rows = are_rows; numbered = numbered }
