-- Which production of an expression the next tokens begin.
use Rattle.std.proofs.Common.{◌≡◌, ◌≢◌, ℕ, false, true, List, ◌∷◌, Some, None, refl, sym, ap, ◌∙◌, subst}
use Rattle.jim_ast.specs.declared.syntax.Imm.{Imm}
use Rattle.jim_ast.specs.declared.syntax.Expr.TheVariants as exprs
use Rattle.jim_text.specs.declared.lead.Lead.{Lead}
use Rattle.jim_text.specs.declared.lead.Lead.TheVariants as lead
use Rattle.jim_signs.specs.declared.seen.Sign.{Sign}
use Rattle.jim_grammar.specs.declared.set.LeadSet.TheVariants.{Operators}
use Rattle.jim_grammar.specs.Sets.{is_operator, is_plain_invoke}
use Rattle.jim_grammar.specs.Forms.{Exprs, ExprForm, UseExpr, NewExpr, ArrayExpr, MultiExpr, CastExpr, InstanceExpr, LengthExpr, NegExpr, BinaryExpr, FieldExpr, StaticExpr, CellExpr, InvokeExpr, OnReceiver, OnClass, Dynamic, LocalImm, NumberImm, TextImm, ClassImm, NullImm}
use Rattle.jim_grammar.specs.Expressions.{One, Tree, spell, sign}
use Rattle.jim_grammar.specs.Grammar.{ty, imm, expr, by_expr}
use Rattle.jim_stmts.specs.Leads.{lead_at, second_at}
use Rattle.jim_stmts.specs.Meanings.{imm_of, expr_of, is_division}
use Rattle.jim_stmts.specs.Productions.{IsOperandFirst}
use Rattle.jim_stmts.proofs.Choices.{of_form}

-- an operator is no other token
pub no_operator : (o : Tree (One Operators)) (l : Lead) → is_operator l ≡ false → o.lead ≢ l
no_operator o l f e = let t : is_operator l ≡ true = subst (λ l. is_operator l ≡ true) e o.is_in_set in cc

module _ (x : Tree expr) (w r now : List Sign) (value : Imm) (spelled : w ≡ spell expr x r) (first : IsOperandFirst x.0) (ends : lead_at r ≡ lead.Semicolon)
    (value_is : (i : Tree imm) (s : List Sign) → w ≡ spell imm i s → value ≡ imm_of i) (now_is : (i : Tree imm) (s : List Sign) → w ≡ spell imm i s → now ≡ s) where
  -- nothing behind the operand
  pub operand_alone : lead_at now ≡ lead.Semicolon → (exprs.Use value ≡ expr_of x) × (now ≡ r)
  operand_alone l = go x spelled first
    where
      go : (x : Tree expr) → w ≡ spell expr x r → IsOperandFirst x.0 → (exprs.Use value ≡ expr_of x) × (now ≡ r)
      go (UseExpr, (i, z)) h k = (ap exprs.Use (value_is i _ h), now_is i _ h)
      go (InstanceExpr, (i, z)) h k = let e = ap lead_at (now_is i _ h) in absurd (cc (e, l))
      go (BinaryExpr, (i, (o, z))) h k = absurd (no_operator o lead.Semicolon refl (sym (ap lead_at (now_is i _ h)) ∙ l))
      go (_, z) h k = absurd k

  -- `instanceof` behind the operand
  pub operand_instance : lead_at now ≡ lead.InstanceOf → (n : ℕ) × (t : Tree ty) × (now ≡ sign lead.InstanceOf n ∷ spell ty t r) × (exprs.Numeric false ≡ expr_of x)
  operand_instance l = go x spelled first
    where
      go : (x : Tree expr) → w ≡ spell expr x r → IsOperandFirst x.0 → (n : ℕ) × (t : Tree ty) × (now ≡ sign lead.InstanceOf n ∷ spell ty t r) × (exprs.Numeric false ≡ expr_of x)
      go (UseExpr, (i, z)) h k = let e = ap lead_at (now_is i _ h) in absurd (cc (e, l, ends))
      go (InstanceExpr, (i, (n, (t, z)))) h k = (n, t, now_is i _ h, refl)
      go (BinaryExpr, (i, (o, z))) h k = absurd (no_operator o lead.InstanceOf refl (sym (ap lead_at (now_is i _ h)) ∙ l))
      go (_, z) h k = absurd k

  -- an operator behind the operand
  pub operand_operator : lead_at now ≢ lead.Semicolon → lead_at now ≢ lead.InstanceOf → (o : Tree (One Operators)) × (j : Tree imm) × (now ≡ spell (One Operators) o (spell imm j r)) × (exprs.Numeric (is_division o.lead) ≡ expr_of x)
  operand_operator m n = go x spelled first
    where
      go : (x : Tree expr) → w ≡ spell expr x r → IsOperandFirst x.0 → (o : Tree (One Operators)) × (j : Tree imm) × (now ≡ spell (One Operators) o (spell imm j r)) × (exprs.Numeric (is_division o.lead) ≡ expr_of x)
      go (UseExpr, (i, z)) h k = absurd (m (ap lead_at (now_is i _ h) ∙ ends))
      go (InstanceExpr, (i, z)) h k = absurd (n (ap lead_at (now_is i _ h)))
      go (BinaryExpr, (i, (o, (j, z)))) h k = (o, j, now_is i _ h, refl)
      go (_, z) h k = absurd k

-- behind an operand that begins with a name comes the rest
pub behind_local : (i : Tree imm) (w s : List Sign) → w ≡ spell imm i s → lead_at w ≡ lead.Name → second_at w ≡ lead_at s
behind_local (LocalImm, y) w s h l = ap second_at h
behind_local (NumberImm, (None, y)) w s h l = cc
behind_local (NumberImm, (Some m, y)) w s h l = cc
behind_local (TextImm, y) w s h l = cc
behind_local (ClassImm, y) w s h l = cc
behind_local (NullImm, y) w s h l = cc

-- an expression that a name begins, by the class of its second token
pub data NameFirst (f : ExprForm) (l : Lead) : Type 0 where
  is_field : f ≡ FieldExpr → l ≡ lead.Dot → NameFirst f l
  is_cell : f ≡ CellExpr → l ≡ lead.OpenBracket → NameFirst f l
  is_operand : IsOperandFirst f → l ≢ lead.Dot → l ≢ lead.OpenBracket → NameFirst f l

pub name_first : (x : Tree expr) (w r : List Sign) → w ≡ spell expr x r → lead_at r ≡ lead.Semicolon → lead_at w ≡ lead.Name → NameFirst x.0 (second_at w)
name_first (UseExpr, (i, z)) w r h p l = let e = behind_local i w _ h l in is_operand tt (λ d. cc (e, d, p)) (λ d. cc (e, d, p))
name_first (InstanceExpr, (i, z)) w r h p l = let e = behind_local i w _ h l in is_operand tt (λ d. cc (e, d)) (λ d. cc (e, d))
name_first (BinaryExpr, (i, (o, z))) w r h p l = let e = behind_local i w _ h l in is_operand tt (λ d. no_operator o lead.Dot refl (sym e ∙ d)) (λ d. no_operator o lead.OpenBracket refl (sym e ∙ d))
name_first (FieldExpr, y) w r h p l = is_field refl (ap second_at h)
name_first (CellExpr, y) w r h p l = is_cell refl (ap second_at h)
name_first (NewExpr, y) w r h p l = cc
name_first (ArrayExpr, y) w r h p l = cc
name_first (MultiExpr, y) w r h p l = cc
name_first (CastExpr, y) w r h p l = cc
name_first (LengthExpr, y) w r h p l = cc
name_first (NegExpr, y) w r h p l = cc
name_first (StaticExpr, y) w r h p l = cc
name_first (InvokeExpr, ((OnReceiver, (b, y)), z)) w r h p l = let t : is_plain_invoke lead.Name ≡ true = subst (λ l. is_plain_invoke l ≡ true) (sym (ap lead_at h) ∙ l) b.is_in_set in absurd (cc t)
name_first (InvokeExpr, ((OnClass, y), z)) w r h p l = cc
name_first (InvokeExpr, ((Dynamic, y), z)) w r h p l = cc

-- a name and `.` begin a field
pub name_dot : (f : ExprForm) (l : Lead) → NameFirst f l → l ≡ lead.Dot → f ≡ FieldExpr
name_dot f l (is_field e d) h = e
name_dot f l (is_cell e d) h = absurd (cc (d, h))
name_dot f l (is_operand k d b) h = absurd (d h)

-- a name and `[` begin a cell
pub name_bracket : (f : ExprForm) (l : Lead) → NameFirst f l → l ≡ lead.OpenBracket → f ≡ CellExpr
name_bracket f l (is_field e d) h = absurd (cc (d, h))
name_bracket f l (is_cell e d) h = e
name_bracket f l (is_operand k d b) h = absurd (b h)

-- the production of an expression, by the class of its first token; those that begin with an operand or a name stand together
abbrev pub expr_form : Lead → ExprForm
expr_form lead.New = NewExpr
expr_form lead.NewArray = ArrayExpr
expr_form lead.NewMultiArray = MultiExpr
expr_form lead.OpenParen = CastExpr
expr_form lead.LengthOf = LengthExpr
expr_form lead.Neg = NegExpr
expr_form lead.Less = StaticExpr
expr_form lead.Name = UseExpr
expr_form lead.Number = UseExpr
expr_form lead.Minus = UseExpr
expr_form lead.Text = UseExpr
expr_form lead.Class = UseExpr
expr_form lead.Null = UseExpr
expr_form _ = InvokeExpr

-- a production, those that begin with an operand or a name together
abbrev pub begun : ExprForm → ExprForm
begun InstanceExpr = UseExpr
begun BinaryExpr = UseExpr
begun FieldExpr = UseExpr
begun CellExpr = UseExpr
begun f = f

pub begun_is : (f i : ExprForm) → i ≡ begun f → i ≢ UseExpr → f ≡ i
begun_is InstanceExpr i e n = absurd (n e)
begun_is BinaryExpr i e n = absurd (n e)
begun_is FieldExpr i e n = absurd (n e)
begun_is CellExpr i e n = absurd (n e)
begun_is _ i e n = sym e

-- the words of plain calls begin calls
pub expr_form-plain : (l : Lead) → is_plain_invoke l ≡ true → expr_form l ≡ InvokeExpr
expr_form-plain lead.SpecialInvoke h = refl
expr_form-plain lead.VirtualInvoke h = refl
expr_form-plain lead.InterfaceInvoke h = refl
expr_form-plain _ h = absurd (cc h)

pub expr_form-operand : (i : Tree imm) (s : List Sign) → expr_form (lead_at (spell imm i s)) ≡ UseExpr
expr_form-operand (LocalImm, y) s = refl
expr_form-operand (NumberImm, (None, y)) s = refl
expr_form-operand (NumberImm, (Some m, y)) s = refl
expr_form-operand (TextImm, y) s = refl
expr_form-operand (ClassImm, y) s = refl
expr_form-operand (NullImm, y) s = refl

pub expr_form-spell : (x : Tree expr) (r : List Sign) → expr_form (lead_at (spell expr x r)) ≡ begun x.0
expr_form-spell (UseExpr, (i, z)) r = expr_form-operand i r
expr_form-spell (InstanceExpr, (i, z)) r = expr_form-operand i _
expr_form-spell (BinaryExpr, (i, z)) r = expr_form-operand i _
expr_form-spell (InvokeExpr, ((OnReceiver, (b, y)), z)) r = expr_form-plain b.lead b.is_in_set
expr_form-spell (InvokeExpr, ((OnClass, y), z)) r = refl
expr_form-spell (InvokeExpr, ((Dynamic, y), z)) r = refl
expr_form-spell (_, y) r = refl

-- an expression whose first token has a class that tells its production
pub expr_at : (l : Lead) (x : Tree expr) (w r : List Sign) → w ≡ spell expr x r → lead_at w ≡ l → expr_form l ≢ UseExpr → (y : Tree (by_expr (expr_form l))) × (w ≡ spell (by_expr (expr_form l)) y r) × (expr_of (expr_form l, y) ≡ expr_of x)
expr_at l x w r h e n =
    let same : expr_form l ≡ begun x.0 = ap expr_form (sym e) ∙ (ap (λ v. expr_form (lead_at v)) h ∙ expr_form-spell x r) in
    of_form Exprs by_expr expr_of (expr_form l) x w r h (begun_is x.0 (expr_form l) same n)

-- a token of another class begins a call
pub expr_form-other : (l : Lead) → l ≢ lead.New → l ≢ lead.NewArray → l ≢ lead.NewMultiArray → l ≢ lead.OpenParen → l ≢ lead.LengthOf → l ≢ lead.Neg → l ≢ lead.Less → l ≢ lead.Name → l ≢ lead.Number → l ≢ lead.Minus → l ≢ lead.Text → l ≢ lead.Class → l ≢ lead.Null → expr_form l ≡ InvokeExpr
expr_form-other lead.New n _ _ _ _ _ _ _ _ _ _ _ _ = absurd (n refl)
expr_form-other lead.NewArray _ n _ _ _ _ _ _ _ _ _ _ _ = absurd (n refl)
expr_form-other lead.NewMultiArray _ _ n _ _ _ _ _ _ _ _ _ _ = absurd (n refl)
expr_form-other lead.OpenParen _ _ _ n _ _ _ _ _ _ _ _ _ = absurd (n refl)
expr_form-other lead.LengthOf _ _ _ _ n _ _ _ _ _ _ _ _ = absurd (n refl)
expr_form-other lead.Neg _ _ _ _ _ n _ _ _ _ _ _ _ = absurd (n refl)
expr_form-other lead.Less _ _ _ _ _ _ n _ _ _ _ _ _ = absurd (n refl)
expr_form-other lead.Name _ _ _ _ _ _ _ n _ _ _ _ _ = absurd (n refl)
expr_form-other lead.Number _ _ _ _ _ _ _ _ n _ _ _ _ = absurd (n refl)
expr_form-other lead.Minus _ _ _ _ _ _ _ _ _ n _ _ _ = absurd (n refl)
expr_form-other lead.Text _ _ _ _ _ _ _ _ _ _ n _ _ = absurd (n refl)
expr_form-other lead.Class _ _ _ _ _ _ _ _ _ _ _ n _ = absurd (n refl)
expr_form-other lead.Null _ _ _ _ _ _ _ _ _ _ _ _ n = absurd (n refl)
expr_form-other _ _ _ _ _ _ _ _ _ _ _ _ _ _ = refl
