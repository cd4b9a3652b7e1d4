-- The names of calls, expressions and statements are low where their trees are.
use Rattle.std.proofs.Common.{ℕ, List, [], ◌∷◌, flat_map, map, Some, None, refl, inl}
use Rattle.jim_grammar.specs.Forms.{UseExpr, NewExpr, ArrayExpr, MultiExpr, CastExpr, InstanceExpr, LengthExpr, NegExpr, BinaryExpr, FieldExpr, StaticExpr, CellExpr, InvokeExpr, OnReceiver, OnClass, Dynamic, ThisStmt, ParamStmt, CaughtStmt, AssignStmt, PutFieldStmt, PutStaticStmt, PutCellStmt, CallStmt, IfStmt, GotoStmt, SwitchStmt, ReturnStmt, RetStmt, ThrowStmt, MonitorStmt, SkipStmt}
use Rattle.jim_grammar.specs.Expressions.{Star, Tree}
use Rattle.jim_grammar.specs.Grammar.{invoke, expr, case_line, stmt}
use Rattle.jim_stmts.specs.Meanings.{id, ty_of, imm_of, args_of, fsig_of, msig_of, invoke_of, expr_of, case_of, stmt_of}
use Rattle.link_rules.specs.Conditions.{type_names, field_sig_names, method_sig_names, operand_names, call_names, expr_names, stmt_names}
use Rattle.read_laws.proofs.LowTrees.{IsLow}
use Rattle.read_laws.proofs.LowOperands.{Low, low_append, base_low, type_low, imm_low, args_low, fsig_low, msig_low}

module _ (n : ℕ) where
  -- a call
  pub call_low : (t : Tree invoke) → IsLow n invoke t → Low n (call_names (invoke_of t))
  call_low (OnReceiver, (_, (_, (_, (m, (_, (is, _))))))) (_, (x, (_, (p, (_, (ps, _)))))) =
      (x (inl refl), low_append n (method_sig_names (msig_of m)) (flat_map operand_names (args_of is)) (msig_low n m p) (args_low n is ps))
  call_low (OnClass, (_, (m, (_, (is, _))))) (_, (p, (_, (ps, _)))) =
      low_append n (method_sig_names (msig_of m)) (flat_map operand_names (args_of is)) (msig_low n m p) (args_low n is ps)
  call_low (Dynamic, _) h = tt

  -- an expression
  pub expr_low : (t : Tree expr) → IsLow n expr t → Low n (expr_names (expr_of t))
  expr_low (UseExpr, (i, _)) (p, _) = imm_low n i p
  expr_low (NewExpr, _) (_, (x, _)) = (x (inl refl), tt)
  expr_low (ArrayExpr, (_, (_, (t, _)))) (_, (_, (p, _))) = type_low n t p
  expr_low (MultiExpr, (_, (_, (b, _)))) (_, (_, (p, _))) = base_low n b.lead b.text b.is_in_set p
  expr_low (CastExpr, (_, (t, (_, (i, _))))) (_, (p, (_, (q, _)))) = low_append n (type_names (ty_of t)) (operand_names (imm_of i)) (type_low n t p) (imm_low n i q)
  expr_low (InstanceExpr, _) h = tt
  expr_low (LengthExpr, (_, (i, _))) (_, (p, _)) = imm_low n i p
  expr_low (NegExpr, _) h = tt
  expr_low (BinaryExpr, _) h = tt
  expr_low (FieldExpr, (_, (_, (s, _)))) (x, (_, (p, _))) = (x (inl refl), fsig_low n s p)
  expr_low (StaticExpr, (s, _)) (p, _) = fsig_low n s p
  expr_low (CellExpr, _) (x, _) = (x (inl refl), tt)
  expr_low (InvokeExpr, (v, _)) (p, _) = call_low v p

  -- the labels of the cases of a switch
  cases_low : (xs : List (Tree case_line)) → IsLow n (Star case_line) xs → Low n (map case_of xs)
  cases_low [] h = tt
  cases_low (_ ∷ xs) ((_, (_, (_, (_, (_, (l, _)))))), h) = (l (inl refl), cases_low xs h)

  -- a statement
  pub stmt_low : (t : Tree stmt) → IsLow n stmt t → Low n (stmt_names (stmt_of t))
  stmt_low (ThisStmt, _) (x, _) = (x (inl refl), tt)
  stmt_low (ParamStmt, _) (x, _) = (x (inl refl), tt)
  stmt_low (CaughtStmt, _) (x, _) = (x (inl refl), tt)
  stmt_low (AssignStmt, (_, (_, (e, _)))) (x, (_, (p, _))) = (x (inl refl), expr_low e p)
  stmt_low (PutFieldStmt, (_, (_, (s, (_, (i, _)))))) (x, (_, (p, (_, (q, _))))) =
      (x (inl refl), low_append n (field_sig_names (fsig_of s)) (operand_names (imm_of i)) (fsig_low n s p) (imm_low n i q))
  stmt_low (PutStaticStmt, (s, (_, (i, _)))) (p, (_, (q, _))) = low_append n (field_sig_names (fsig_of s)) (operand_names (imm_of i)) (fsig_low n s p) (imm_low n i q)
  stmt_low (PutCellStmt, (_, (_, (_, (_, (_, (i, _))))))) (x, (_, (_, (_, (_, (q, _)))))) = (x (inl refl), imm_low n i q)
  stmt_low (CallStmt, (v, _)) (p, _) = call_low v p
  stmt_low (IfStmt, _) (_, (_, (_, (_, (_, (l, _)))))) = (l (inl refl), tt)
  stmt_low (GotoStmt, _) (_, (l, _)) = (l (inl refl), tt)
  stmt_low (SwitchStmt, (_, (_, (_, (_, (_, (xs, (_, (_, (_, (l, _))))))))))) (_, (_, (_, (_, (_, (ps, (_, (_, (_, (p, _)))))))))) =
      low_append n (map case_of xs) (id l ∷ []) (cases_low xs ps) (p (inl refl), tt)
  stmt_low (ReturnStmt, (_, (None, _))) h = tt
  stmt_low (ReturnStmt, (_, (Some i, _))) (_, (p, _)) = low_append n (operand_names (imm_of i)) [] (imm_low n i p) tt
  stmt_low (RetStmt, _) h = tt
  stmt_low (ThrowStmt, (_, (i, _))) (_, (p, _)) = imm_low n i p
  stmt_low (MonitorStmt, (_, (i, _))) (_, (p, _)) = imm_low n i p
  stmt_low (SkipStmt, _) h = tt
