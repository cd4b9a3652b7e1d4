-- Where no rule refuses a method, all that its code needs is there: a lemma a rule, and then part by part.
use Rattle.std.proofs.Common.{◌≡◌, ℕ, suc, ◌++◌, List, [], ◌∷◌, Some, None, Bool, true, false, length, get_or, slice_get, flat_map, refl, sym, subst, inl, inr, arith}
use Rattle.std.specs.List.{filter_map}
use Rattle.std.specs.Option.{option_to_list}
use Rattle.std.proofs.lemmas.Option.{slice_get-get_or}
use Rattle.lists.specs.Lists.{Has}
use Rattle.lists.proofs.Joined.{Has-left, Has-right}
use Rattle.jim_ast.specs.declared.names.NameId.{NameId}
use Rattle.jim_ast.specs.declared.syntax.Body.{Body}
use Rattle.jim_ast.specs.declared.syntax.Expr.{Expr}
use Rattle.jim_ast.specs.declared.syntax.Expr.TheVariants as expr
use Rattle.jim_ast.specs.declared.syntax.FieldSig.{FieldSig}
use Rattle.jim_ast.specs.declared.syntax.Imm.{Imm}
use Rattle.jim_ast.specs.declared.syntax.Imm.TheVariants as imm
use Rattle.jim_ast.specs.declared.syntax.Invoke.{Invoke}
use Rattle.jim_ast.specs.declared.syntax.Invoke.TheVariants.{Plain, Dynamic}
use Rattle.jim_ast.specs.declared.syntax.Stmt.{Stmt}
use Rattle.jim_ast.specs.declared.syntax.Stmt.TheVariants as stmt
use Rattle.jim_ast.specs.declared.syntax.Trap.{Trap}
use Rattle.link_rules.specs.declared.refusal.LinkKind.{LinkKind}
use Rattle.link_rules.specs.declared.refusal.LinkKind.TheVariants as rule
use Rattle.link_rules.specs.Bodies.{trap_labels}
use Rattle.link_rules.specs.Classes.{DeclaredMethod}
use Rattle.link_rules.specs.Conditions.{AreWithin, call_names, expr_names, field_sig_names, method_sig_names, operand_names, stmt_names, trap_names, type_names}
use Rattle.link_rules.specs.Faults.{NamesClass}
use Rattle.link_rules.specs.Names.{text_of}
use Rattle.link_rules.specs.Reach.{IsTarget, RefusesAt}
use Rattle.link_rules.specs.Statements.{HasBody, IsCallOf, PlainCall, StmtAt, access_of, call_of, labels_of, locals_of, new_of, call_args, call_base, operand_local}
use Rattle.link_rules.specs.World.{World}
use Rattle.link_codes.specs.Contexts.{Context, context_in}
use Rattle.link_codes.specs.Needs.{HasCall, HasClass, HasExpr, HasField, HasJump, HasLocal, HasOperand, HasParts, HasTargets, HasText, HasTrap}
use Rattle.link_codes.proofs.Contained.{Has-filter_map, Has-flat_map, Has-operand, within_part}
use Rattle.link_codes.proofs.Decided.{declared_or_not, has_or_not, label_or_not}

module _ (w : World) (method_rows : List ℕ) (m : DeclaredMethod) (body : Body) (is : HasBody m body)
    (accepted : (index : ℕ) (kind : LinkKind) → RefusesAt w m index kind → ⊥)
    (numbered : (index row : ℕ) → IsTarget w m index row → Has method_rows row) where
  abbrev context : Context
  context = context_in w method_rows m body

  -- the statement where it stands
  abbrev at : (i : ℕ) (s : Stmt) → slice_get body.stmts i ≡ Some s → StmtAt m i s
  at i s there = record { body = body; in_body = is; there = there }

  module _ (i : ℕ) (s : Stmt) (there : slice_get body.stmts i ≡ Some s) where
    -- a local that it keeps is declared
    pub local_there : (x : NameId) → Has (locals_of s) x → HasLocal context x
    local_there x named = elim (has_or_not body.locals x) [
      | inl h ↦ h
      | inr none ↦ absurd (accepted i rule.UnknownLocal (record { stmt = s; here = at i s there; local = x; named = named; missing = none }))
    ]

    -- a label that it names is there
    pub label_there : (label : NameId) → Has (labels_of s) label → HasJump context label
    label_there label named = elim (label_or_not body.labels label) [
      | inl h ↦ h
      | inr none ↦ absurd (accepted i rule.UnknownLabel (inl (record { stmt = s; here = at i s there; label = label; named = named; missing = none })))
    ]

    -- a class that it names is declared
    pub class_there : (name : NameId) → HasText context name → NamesClass m i (text_of m.names name) → HasClass context name
    class_there name text named = record {
      text = text;
      declared = elim (declared_or_not w.classes (text_of m.names name)) [
        | inl h ↦ h
        | inr none ↦ absurd (accepted i rule.UnknownClass (inl (text_of m.names name, named, none)))
      ];
    }

    -- the class that it makes an object of is declared
    pub new_there : (class : NameId) → HasText context class → new_of s ≡ Some class → HasClass context class
    new_there class text makes = class_there class text (inl (record { stmt = s; here = at i s there; class = class; makes = makes; named = refl }))

    -- a field that it names is found
    pub field_there : (sig : FieldSig) (is_static : Bool) → access_of s ≡ Some (record { sig = sig; is_static = is_static }) → AreWithin m.names (field_sig_names sig) → HasField context is_static sig
    field_there sig is_static accesses within = record {
      class = class_there sig.class (within 0 sig.class (omega arith))
          (inr (inr (record { stmt = s; here = at i s there; access = record { sig = sig; is_static = is_static }; accesses = accesses }, refl)));
      within = within;
      found = λ class key named is_key none. accepted i rule.UnknownField (record {
        at = record { stmt = s; here = at i s there; access = record { sig = sig; is_static = is_static }; accesses = accesses };
        class = class;
        is_class = named;
        key = key;
        is_key = is_key;
        none = none;
      });
    }

    -- each method that it may run has a number
    pub targets_there : (c : PlainCall) → IsCallOf s c → AreWithin m.names (method_sig_names c.sig) → HasTargets context c.mode c.sig
    targets_there c is_call within = record {
      class = class_there c.sig.class (within 0 c.sig.class (omega arith))
          (inr (inl (record { at = record { stmt = s; here = at i s there; call = c; is_call = is_call }; named = refl })));
      within = within;
      numbered = λ class key row named is_key runs. numbered i row (record {
        calls = record {
          names = record { at = record { stmt = s; here = at i s there; call = c; is_call = is_call }; class = class; is_class = named; key = key; is_key = is_key };
          runs = runs;
        };
        allowed = λ kind takes refuses. accepted i kind refuses;
      });
    }

  -- an operand that it keeps
  operand_there : (i : ℕ) (s : Stmt) → slice_get body.stmts i ≡ Some s → (a : Imm) → AreWithin m.names (operand_names a)
      → ((x : NameId) → operand_local a ≡ Some x → Has (locals_of s) x) → HasOperand context a
  operand_there i s there (imm.Local x) within named = local_there i s there x (named x refl)
  operand_there i s there imm.Number within named = tt
  operand_there i s there imm.Null within named = tt
  operand_there i s there (imm.Text name) within named = within 0 name (omega arith)
  operand_there i s there (imm.ClassConst name) within named = within 0 name (omega arith)

  -- its call
  call_there : (i : ℕ) (s : Stmt) → slice_get body.stmts i ≡ Some s → (call : Invoke) → call_of s ≡ Some call → AreWithin m.names (call_names call)
      → ((x : NameId) → Has (call_base call) x → Has (locals_of s) x) → ((x : NameId) → Has (filter_map operand_local (call_args call)) x → Has (locals_of s) x) → HasCall context call
  call_there i s there (Plain mode receiver sig args) is_call within on operands_named = (
    λ x e. local_there i s there x (on x (subst (λ o. Has (option_to_list o) x) (sym e) (0, refl))),
    targets_there i s there (record { mode = mode; receiver = receiver; sig = sig; args = args }) is_call
        (within_part m.names (call_names (Plain mode receiver sig args)) (method_sig_names sig) within
        (λ x h. Has-left (option_to_list receiver ++ method_sig_names sig) (flat_map operand_names args) x (Has-right (option_to_list receiver) (method_sig_names sig) x h))),
    λ k d below. operand_there i s there (get_or args k d)
        (within_part m.names (call_names (Plain mode receiver sig args)) (operand_names (get_or args k d)) within
        (λ x h. Has-right (option_to_list receiver ++ method_sig_names sig) (flat_map operand_names args) x
        (Has-flat_map operand_names args k (get_or args k d) x (slice_get-get_or args k d below) h)))
        (λ x e. operands_named x (Has-filter_map operand_local args k (get_or args k d) x (slice_get-get_or args k d below) e)),
  )
  call_there i s there Dynamic is_call within on operands_named = absurd (accepted i rule.DynamicInvoke (s, at i s there, is_call))

  -- what is assigned
  expr_there : (i : ℕ) (x : NameId) (e : Expr) → slice_get body.stmts i ≡ Some (stmt.Assign x e) → AreWithin m.names (expr_names e) → HasExpr context e
  expr_there i x (expr.Use a) there within = operand_there i (stmt.Assign x (expr.Use a)) there a within (Has-operand (x ∷ []) a)
  expr_there i x (expr.New class) there within = new_there i (stmt.Assign x (expr.New class)) there class (within 0 class (omega arith)) refl
  expr_there i x (expr.NewArray ty) there within = within
  expr_there i x (expr.NewMulti ty sized) there within = within
  expr_there i x (expr.Cast ty a) there within =
      operand_there i (stmt.Assign x (expr.Cast ty a)) there a
      (within_part m.names (type_names ty ++ operand_names a) (operand_names a) within (λ y h. Has-right (type_names ty) (operand_names a) y h)) (Has-operand (x ∷ []) a)
  expr_there i x (expr.Length a) there within = operand_there i (stmt.Assign x (expr.Length a)) there a within (Has-operand (x ∷ []) a)
  expr_there i x (expr.Numeric divides) there within = tt
  expr_there i x (expr.Field y sig) there within = (
    local_there i (stmt.Assign x (expr.Field y sig)) there y (1, refl),
    field_there i (stmt.Assign x (expr.Field y sig)) there sig false refl
        (within_part m.names (y ∷ field_sig_names sig) (field_sig_names sig) within (λ z h. (suc h.0, h.1))),
  )
  expr_there i x (expr.Static sig) there within = field_there i (stmt.Assign x (expr.Static sig)) there sig true refl within
  expr_there i x (expr.Cell y) there within = local_there i (stmt.Assign x (expr.Cell y)) there y (1, refl)
  expr_there i x (expr.Invoke call) there within =
      call_there i (stmt.Assign x (expr.Invoke call)) there call refl within
      (λ y h. Has-left (x ∷ call_base call) (filter_map operand_local (call_args call)) y (suc h.0, h.1))
      (λ y h. Has-right (x ∷ call_base call) (filter_map operand_local (call_args call)) y h)

  -- all parts of a statement
  pub parts_there : (i : ℕ) (s : Stmt) → slice_get body.stmts i ≡ Some s → AreWithin m.names (stmt_names s) → HasParts context s
  parts_there i (stmt.This x) there within = local_there i (stmt.This x) there x (0, refl)
  parts_there i (stmt.Param x number) there within = local_there i (stmt.Param x number) there x (0, refl)
  parts_there i (stmt.Caught x) there within = local_there i (stmt.Caught x) there x (0, refl)
  parts_there i (stmt.Assign x e) there within =
      (local_there i (stmt.Assign x e) there x (0, refl), expr_there i x e there (within_part m.names (x ∷ expr_names e) (expr_names e) within (λ y h. (suc h.0, h.1))))
  parts_there i (stmt.PutField y sig a) there within = (
    local_there i (stmt.PutField y sig a) there y (0, refl),
    field_there i (stmt.PutField y sig a) there sig false refl
        (within_part m.names (stmt_names (stmt.PutField y sig a)) (field_sig_names sig) within
        (λ x h. Has-right (y ∷ []) (field_sig_names sig ++ operand_names a) x (Has-left (field_sig_names sig) (operand_names a) x h))),
    operand_there i (stmt.PutField y sig a) there a
        (within_part m.names (stmt_names (stmt.PutField y sig a)) (operand_names a) within
        (λ x h. Has-right (y ∷ field_sig_names sig) (operand_names a) x h))
        (Has-operand (y ∷ []) a),
  )
  parts_there i (stmt.PutStatic sig a) there within = (
    field_there i (stmt.PutStatic sig a) there sig true refl
        (within_part m.names (field_sig_names sig ++ operand_names a) (field_sig_names sig) within (λ x h. Has-left (field_sig_names sig) (operand_names a) x h)),
    operand_there i (stmt.PutStatic sig a) there a
        (within_part m.names (field_sig_names sig ++ operand_names a) (operand_names a) within (λ x h. Has-right (field_sig_names sig) (operand_names a) x h))
        (Has-operand [] a),
  )
  parts_there i (stmt.PutCell y a) there within = (
    local_there i (stmt.PutCell y a) there y (0, refl),
    operand_there i (stmt.PutCell y a) there a (within_part m.names (y ∷ operand_names a) (operand_names a) within (λ x h. (suc h.0, h.1))) (Has-operand (y ∷ []) a),
  )
  parts_there i (stmt.Call call) there within =
      call_there i (stmt.Call call) there call refl within (λ y h. Has-left (call_base call) (filter_map operand_local (call_args call)) y h)
      (λ y h. Has-right (call_base call) (filter_map operand_local (call_args call)) y h)
  parts_there i (stmt.If label) there within = label_there i (stmt.If label) there label (0, refl)
  parts_there i (stmt.Goto label) there within = label_there i (stmt.Goto label) there label (0, refl)
  parts_there i (stmt.Switch labels) there within = λ k d below. label_there i (stmt.Switch labels) there (get_or labels k d) (k, slice_get-get_or labels k d below)
  parts_there i (stmt.Return (Some a)) there within = λ b e.
      let same : a ≡ b = cc in
      subst (HasOperand context) same
      (operand_there i (stmt.Return (Some a)) there a (within_part m.names (operand_names a ++ []) (operand_names a) within (λ x h. Has-left (operand_names a) [] x h)) (Has-operand [] a))
  parts_there i (stmt.Return None) there within = λ b e. absurd (cc (e))
  parts_there i (stmt.Throw a) there within = operand_there i (stmt.Throw a) there a within (Has-operand [] a)
  parts_there i (stmt.Monitor a) there within = operand_there i (stmt.Monitor a) there a within (Has-operand [] a)
  parts_there i stmt.Skip there within = tt
  parts_there i stmt.Ret there within = absurd (accepted i rule.RetStatement (at i stmt.Ret there))

  -- a label that a trap names is there
  trap_label : (k : ℕ) (trap : Trap) → slice_get body.traps k ≡ Some trap → (label : NameId) → Has (trap_labels trap) label → HasJump context label
  trap_label k trap there label named = elim (label_or_not body.labels label) [
    | inl h ↦ h
    | inr none ↦ absurd (accepted (length body.stmts) rule.UnknownLabel (inr (record {
      body = body;
      in_body = is;
      trap = trap;
      there = (k, there);
      label = label;
      named = named;
      missing = none;
      at_end = refl;
    })))
  ]

  -- all parts of a trap
  pub trap_there : (k : ℕ) (trap : Trap) → slice_get body.traps k ≡ Some trap → AreWithin m.names (trap_names trap) → HasTrap context trap
  trap_there k trap there within = record {
    class = record {
      text = within 0 trap.class (omega arith);
      declared = elim (declared_or_not w.classes (text_of m.names trap.class)) [
        | inl h ↦ h
        | inr none ↦ absurd (accepted (length body.stmts) rule.UnknownClass (inr (record { body = body; in_body = is; trap = trap; there = (k, there); missing = none; at_end = refl })))
      ];
    };
    from = trap_label k trap there trap.from (0, refl);
    to = trap_label k trap there trap.to (1, refl);
    handler = trap_label k trap there trap.with (2, refl);
  }
