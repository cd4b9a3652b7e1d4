-- Types, operands, calls, expressions and statements are read in one way only.
--
-- For a rule X: X_form or X_at is the production that the next tokens tell, X_picks says that it is the one that was spelled, X_each that each
-- production is read in one way, and X_apart that the rule is.
use Rattle.std.proofs.Common.{◌≡◌, ◌≢◌, Bool, true, false, List, [], ◌∷◌, Some, None, refl, sym, ap, ◌∙◌}
use Rattle.std.proofs.lemmas.Bool.{false≢true}
use Rattle.jim_text.specs.declared.lead.Lead.{Lead}
use Rattle.jim_text.specs.declared.lead.Lead.TheVariants as lead
use Rattle.jim_signs.specs.declared.seen.Sign.{Sign}
use Rattle.jim_grammar.specs.Sets.{is_base, is_operator, is_plain_invoke, is_switch_word, is_monitor_word, is_skip_word, is_not_end}
use Rattle.jim_grammar.specs.Forms.{ImmForm, LocalImm, NumberImm, TextImm, ClassImm, NullImm, ExprForm, UseExpr, NewExpr, ArrayExpr, MultiExpr, CastExpr, InstanceExpr, LengthExpr, NegExpr, BinaryExpr, FieldExpr, StaticExpr, CellExpr, InvokeExpr, InvokeForm, OnReceiver, OnClass, Dynamic, StmtForm, ThisStmt, ParamStmt, CaughtStmt, AssignStmt, PutFieldStmt, PutStaticStmt, PutCellStmt, CallStmt, IfStmt, GotoStmt, SwitchStmt, ReturnStmt, RetStmt, ThrowStmt, MonitorStmt, SkipStmt, ResultForm, VoidResult, TypeResult}
use Rattle.jim_grammar.specs.Expressions.{Tok, Opt, Tree, spell, spell_each}
use Rattle.jim_grammar.specs.Grammar.{names, comma_more, pair, ty, types, imm, by_imm, imms, fsig, outcome, by_result, msig, invoke, by_invoke, own, first_own, expr, by_expr, case_line, stmt, by_stmt}
use Rattle.jim_stmts.specs.Leads.{lead_at, second_at, third_at}
use Rattle.jim_build.proofs.Apart.{Apart, apart_end, apart_tok, apart_one, apart_seq, free_then, tok_then, apart_any, free_star, apart_star, apart_opt, apart_up_to, apart_shared}
use Rattle.jim_stmts.proofs.Choices.{invoke_form-plain}

-- what stands behind: no comma, no bracket, a closed parenthesis, a semicolon

abbrev pub NoComma : List Sign → Type 0
NoComma r = lead_at r ≢ lead.Comma

abbrev pub NoPair : List Sign → Type 0
NoPair r = lead_at r ≢ lead.OpenBracket

abbrev Closed : List Sign → Type 0
Closed r = lead_at r ≡ lead.CloseParen

abbrev Ended : List Sign → Type 0
Ended r = lead_at r ≡ lead.Semicolon

-- names and types

pub names_apart : Apart names NoComma
names_apart = tok_then (apart_seq (free_star {P = NoComma} (tok_then (tok_then apart_end)) (λ y w r p e. p (ap lead_at e))) apart_end (λ y r p. p))

pair_apart : {P : List Sign → Type 0} → Apart pair P
pair_apart = tok_then (tok_then apart_end)

pub ty_apart : Apart ty NoPair
ty_apart = free_then apart_one (apart_seq (apart_up_to {P = NoPair} pair_apart (λ y w r p e. p (ap lead_at e))) apart_end (λ y r p. p))

-- behind a type of a list stands no bracket
more_types_no_pair : (ys : List (Tree (comma_more ty))) (r : List Sign) → Closed r → NoPair (spell_each (spell (comma_more ty)) ys r)
more_types_no_pair [] r p e = cc
more_types_no_pair (y ∷ ys) r p e = cc

types_apart : Apart types Closed
types_apart =
    apart_seq ty_apart
    (apart_seq (apart_star {P = Closed} {Q = NoPair} (tok_then (apart_seq ty_apart apart_end (λ y r p. p))) (λ y w e. cc) (λ r p e. cc) (λ y w r p e. let f = ap lead_at e in cc)) apart_end (λ y r p. p))
    (λ y r p. more_types_no_pair y.0 r p)

pub maybe_types_apart : Apart (Opt types) Closed
maybe_types_apart = apart_opt types_apart (λ y w r p e. false≢true (ap is_base (sym p ∙ ap lead_at e) ∙ y.0.0.is_in_set))

-- operands

abbrev imm_form : Lead → ImmForm
imm_form lead.Name = LocalImm
imm_form lead.Text = TextImm
imm_form lead.Class = ClassImm
imm_form lead.Null = NullImm
imm_form _ = NumberImm

imm_picks : (i : ImmForm) (x : Tree (by_imm i)) (r : List Sign) → imm_form (lead_at (spell (by_imm i) x r)) ≡ i
imm_picks NumberImm (None, x) r = refl
imm_picks NumberImm (Some m, x) r = refl
imm_picks LocalImm x r = refl
imm_picks TextImm x r = refl
imm_picks ClassImm x r = refl
imm_picks NullImm x r = refl

-- a minus or none, in front of something else
abbrev NoMinus : List Sign → Type 0
NoMinus r = lead_at r ≢ lead.Minus

minus_apart : Apart (Opt (Tok lead.Minus)) NoMinus
minus_apart = apart_opt apart_tok (λ y w r p e. p (ap lead_at e))

imm_each : {P : List Sign → Type 0} (i : ImmForm) → Apart (by_imm i) P
imm_each LocalImm = tok_then apart_end
imm_each NumberImm = apart_seq minus_apart (tok_then apart_end) (λ y r p e. cc)
imm_each TextImm = tok_then apart_end
imm_each ClassImm = tok_then (tok_then apart_end)
imm_each NullImm = tok_then apart_end

pub imm_apart : {P : List Sign → Type 0} → Apart imm P
imm_apart = apart_any (λ w. imm_form (lead_at w)) (λ i x r p. imm_picks i x r) imm_each

-- whether an operand begins with this token
abbrev begins_imm : Lead → Bool
begins_imm lead.Semicolon = false
begins_imm lead.CloseParen = false
begins_imm lead.CloseBracket = false
begins_imm _ = true

-- an operand begins as one
imm_begins : (x : Tree imm) (w : List Sign) → begins_imm (lead_at (spell imm x w)) ≡ true
imm_begins (NumberImm, (None, x)) w = refl
imm_begins (NumberImm, (Some m, x)) w = refl
imm_begins (LocalImm, x) w = refl
imm_begins (TextImm, x) w = refl
imm_begins (ClassImm, x) w = refl
imm_begins (NullImm, x) w = refl

-- an operand or none, in front of what begins with none
abbrev NoImm : List Sign → Type 0
NoImm r = begins_imm (lead_at r) ≡ false

maybe_imm_apart : Apart (Opt imm) NoImm
maybe_imm_apart = apart_opt imm_apart (λ y w r p e. false≢true (sym p ∙ (ap (λ w. begins_imm (lead_at w)) e ∙ imm_begins y w)))

imms_apart : Apart imms Closed
imms_apart = free_then imm_apart (apart_seq (free_star {P = Closed} (tok_then (free_then imm_apart apart_end)) (λ y w r p e. let f = ap lead_at e in cc)) apart_end (λ y r p. p))

maybe_imms_apart : Apart (Opt imms) Closed
maybe_imms_apart = apart_opt imms_apart (λ y w r p e. false≢true (ap begins_imm (sym p) ∙ (ap (λ w. begins_imm (lead_at w)) e ∙ imm_begins y.0 _)))

-- signatures and calls

fsig_apart : {P : List Sign → Type 0} → Apart fsig P
fsig_apart = tok_then (tok_then (tok_then (apart_seq ty_apart (tok_then (tok_then apart_end)) (λ y r p e. cc))))

abbrev result_form : Lead → ResultForm
result_form lead.Void = VoidResult
result_form _ = TypeResult

result_form-base : (l : Lead) → is_base l ≡ true → result_form l ≡ TypeResult
result_form-base lead.Void h = absurd (false≢true h)
result_form-base l h = refl

result_picks : (i : ResultForm) (x : Tree (by_result i)) (r : List Sign) → result_form (lead_at (spell (by_result i) x r)) ≡ i
result_picks VoidResult x r = refl
result_picks TypeResult x r = result_form-base x.0.0.lead x.0.0.is_in_set

result_each : (i : ResultForm) → Apart (by_result i) NoPair
result_each VoidResult = tok_then apart_end
result_each TypeResult = apart_seq ty_apart apart_end (λ y r p. p)

pub outcome_apart : Apart outcome NoPair
outcome_apart = apart_any (λ w. result_form (lead_at w)) (λ i x r p. result_picks i x r) result_each

msig_apart : {P : List Sign → Type 0} → Apart msig P
msig_apart =
    tok_then (tok_then (tok_then (apart_seq outcome_apart
    (tok_then (tok_then (apart_seq maybe_types_apart (tok_then (tok_then apart_end)) (λ y r p. refl))))
    (λ y r p e. cc))))

abbrev invoke_form : Lead → InvokeForm
invoke_form lead.StaticInvoke = OnClass
invoke_form lead.DynamicInvoke = Dynamic
invoke_form _ = OnReceiver

invoke_picks : (i : InvokeForm) (x : Tree (by_invoke i)) (r : List Sign) → invoke_form (lead_at (spell (by_invoke i) x r)) ≡ i
invoke_picks OnReceiver x r = invoke_form-plain x.0.lead x.0.is_in_set
invoke_picks OnClass x r = refl
invoke_picks Dynamic x r = refl

invoke_each : (i : InvokeForm) → Apart (by_invoke i) Ended
invoke_each OnReceiver =
    free_then apart_one (tok_then (tok_then (free_then msig_apart (tok_then (apart_seq maybe_imms_apart (tok_then apart_end) (λ y r p. refl))))))
invoke_each OnClass = tok_then (free_then msig_apart (tok_then (apart_seq maybe_imms_apart (tok_then apart_end) (λ y r p. refl))))
invoke_each Dynamic =
    tok_then (apart_seq (free_star {P = Ended} apart_one (λ y w r p e. false≢true (ap is_not_end (sym p ∙ ap lead_at e) ∙ y.is_in_set))) apart_end (λ y r p. p))

invoke_apart : Apart invoke Ended
invoke_apart = apart_any (λ w. invoke_form (lead_at w)) (λ i x r p. invoke_picks i x r) invoke_each

-- expressions

own_apart : {P : List Sign → Type 0} → Apart own P
own_apart = tok_then (apart_seq maybe_imm_apart (tok_then apart_end) (λ y r p. refl))

first_own_apart : {P : List Sign → Type 0} → Apart first_own P
first_own_apart = tok_then (free_then own_apart apart_end)

-- the token behind an operand tells an expression that begins with one
abbrev operand_form : Lead → ExprForm
operand_form lead.InstanceOf = InstanceExpr
operand_form lead.Semicolon = UseExpr
operand_form _ = BinaryExpr

abbrev name_form : Lead → ExprForm
name_form lead.Dot = FieldExpr
name_form lead.OpenBracket = CellExpr
name_form l = operand_form l

-- the first three tokens tell an expression
abbrev expr_form : Lead → Lead → Lead → ExprForm
expr_form lead.Name l m = name_form l
expr_form lead.Number l m = operand_form l
expr_form lead.Text l m = operand_form l
expr_form lead.Null l m = operand_form l
expr_form lead.Minus l m = operand_form m
expr_form lead.Class l m = operand_form m
expr_form lead.New l m = NewExpr
expr_form lead.NewArray l m = ArrayExpr
expr_form lead.NewMultiArray l m = MultiExpr
expr_form lead.OpenParen l m = CastExpr
expr_form lead.LengthOf l m = LengthExpr
expr_form lead.Neg l m = NegExpr
expr_form lead.Less l m = StaticExpr
expr_form _ l m = InvokeExpr

abbrev expr_at : List Sign → ExprForm
expr_at w = expr_form (lead_at w) (second_at w) (third_at w)

operand_form-operator : (l : Lead) → is_operator l ≡ true → operand_form l ≡ BinaryExpr
operand_form-operator lead.InstanceOf h = absurd (false≢true h)
operand_form-operator lead.Semicolon h = absurd (false≢true h)
operand_form-operator l h = refl

name_form-operator : (l : Lead) → is_operator l ≡ true → name_form l ≡ BinaryExpr
name_form-operator lead.Dot h = absurd (false≢true h)
name_form-operator lead.OpenBracket h = absurd (false≢true h)
name_form-operator lead.InstanceOf h = absurd (false≢true h)
name_form-operator lead.Semicolon h = absurd (false≢true h)
name_form-operator l h = refl

expr_form-plain_invoke : (l m n : Lead) → is_plain_invoke l ≡ true → expr_form l m n ≡ InvokeExpr
expr_form-plain_invoke lead.SpecialInvoke m n h = refl
expr_form-plain_invoke lead.VirtualInvoke m n h = refl
expr_form-plain_invoke lead.InterfaceInvoke m n h = refl
expr_form-plain_invoke l m n h = absurd (false≢true h)

use_picks : (x : Tree imm) (r : List Sign) → lead_at r ≡ lead.Semicolon → expr_at (spell imm x r) ≡ UseExpr
use_picks (LocalImm, x) r p = ap name_form p
use_picks (NumberImm, (None, x)) r p = ap operand_form p
use_picks (NumberImm, (Some m, x)) r p = ap operand_form p
use_picks (TextImm, x) r p = ap operand_form p
use_picks (ClassImm, x) r p = ap operand_form p
use_picks (NullImm, x) r p = ap operand_form p

instance_picks : (x : Tree imm) (r : List Sign) → lead_at r ≡ lead.InstanceOf → expr_at (spell imm x r) ≡ InstanceExpr
instance_picks (LocalImm, x) r p = ap name_form p
instance_picks (NumberImm, (None, x)) r p = ap operand_form p
instance_picks (NumberImm, (Some m, x)) r p = ap operand_form p
instance_picks (TextImm, x) r p = ap operand_form p
instance_picks (ClassImm, x) r p = ap operand_form p
instance_picks (NullImm, x) r p = ap operand_form p

binary_picks : (x : Tree imm) (r : List Sign) → is_operator (lead_at r) ≡ true → expr_at (spell imm x r) ≡ BinaryExpr
binary_picks (LocalImm, x) r p = name_form-operator (lead_at r) p
binary_picks (NumberImm, (None, x)) r p = operand_form-operator (lead_at r) p
binary_picks (NumberImm, (Some m, x)) r p = operand_form-operator (lead_at r) p
binary_picks (TextImm, x) r p = operand_form-operator (lead_at r) p
binary_picks (ClassImm, x) r p = operand_form-operator (lead_at r) p
binary_picks (NullImm, x) r p = operand_form-operator (lead_at r) p

call_picks : (x : Tree invoke) (r : List Sign) → expr_at (spell invoke x r) ≡ InvokeExpr
call_picks (OnReceiver, x) r = expr_form-plain_invoke x.0.lead _ _ x.0.is_in_set
call_picks (OnClass, x) r = refl
call_picks (Dynamic, x) r = refl

expr_picks : (i : ExprForm) (x : Tree (by_expr i)) (r : List Sign) → lead_at r ≡ lead.Semicolon → expr_at (spell (by_expr i) x r) ≡ i
expr_picks UseExpr x r p = use_picks x.0 r p
expr_picks InstanceExpr x r p = instance_picks x.0 _ refl
expr_picks BinaryExpr x r p = binary_picks x.0 _ x.1.0.is_in_set
expr_picks InvokeExpr x r p = call_picks x.0 r
expr_picks NewExpr x r p = refl
expr_picks ArrayExpr x r p = refl
expr_picks MultiExpr x r p = refl
expr_picks CastExpr x r p = refl
expr_picks LengthExpr x r p = refl
expr_picks NegExpr x r p = refl
expr_picks FieldExpr x r p = refl
expr_picks StaticExpr x r p = refl
expr_picks CellExpr x r p = refl

expr_each : (i : ExprForm) → Apart (by_expr i) Ended
expr_each UseExpr = free_then imm_apart apart_end
expr_each NewExpr = tok_then (tok_then apart_end)
expr_each ArrayExpr = tok_then (tok_then (apart_seq ty_apart (tok_then (tok_then (free_then imm_apart (tok_then apart_end)))) (λ y r p e. cc)))
expr_each MultiExpr =
    tok_then (tok_then (free_then apart_one (apart_seq
    (apart_shared {P = Ended} pair_apart first_own_apart own_apart (λ y w z v e. let f = ap lead_at e in cc) (λ y w r p e. let f = ap lead_at e in cc))
    apart_end (λ y r p. p))))
expr_each CastExpr = tok_then (apart_seq ty_apart (tok_then (free_then imm_apart apart_end)) (λ y r p e. cc))
expr_each InstanceExpr = free_then imm_apart (tok_then (apart_seq ty_apart apart_end (λ y r p e. cc)))
expr_each LengthExpr = tok_then (free_then imm_apart apart_end)
expr_each NegExpr = tok_then (free_then imm_apart apart_end)
expr_each BinaryExpr = free_then imm_apart (free_then apart_one (free_then imm_apart apart_end))
expr_each FieldExpr = tok_then (tok_then (free_then fsig_apart apart_end))
expr_each StaticExpr = free_then fsig_apart apart_end
expr_each CellExpr = tok_then (tok_then (free_then imm_apart (tok_then apart_end)))
expr_each InvokeExpr = apart_seq invoke_apart apart_end (λ y r p. p)

expr_apart : Apart expr Ended
expr_apart = apart_any expr_at expr_picks expr_each

-- statements

case_apart : {P : List Sign → Type 0} → Apart case_line P
case_apart = tok_then (apart_seq minus_apart (tok_then (tok_then (tok_then (tok_then (tok_then apart_end))))) (λ y r p e. cc))

abbrev identity_form : Lead → StmtForm
identity_form lead.This = ThisStmt
identity_form lead.Parameter = ParamStmt
identity_form _ = CaughtStmt

abbrev named_form : Lead → Lead → StmtForm
named_form lead.Define m = identity_form m
named_form lead.Assign m = AssignStmt
named_form lead.Dot m = PutFieldStmt
named_form _ m = PutCellStmt

-- the first three tokens tell a statement
abbrev stmt_form : Lead → Lead → Lead → StmtForm
stmt_form lead.Name l m = named_form l m
stmt_form lead.Less l m = PutStaticStmt
stmt_form lead.If l m = IfStmt
stmt_form lead.Goto l m = GotoStmt
stmt_form lead.TableSwitch l m = SwitchStmt
stmt_form lead.LookupSwitch l m = SwitchStmt
stmt_form lead.Return l m = ReturnStmt
stmt_form lead.Ret l m = RetStmt
stmt_form lead.Throw l m = ThrowStmt
stmt_form lead.EnterMonitor l m = MonitorStmt
stmt_form lead.ExitMonitor l m = MonitorStmt
stmt_form lead.Nop l m = SkipStmt
stmt_form lead.Breakpoint l m = SkipStmt
stmt_form _ l m = CallStmt

abbrev stmt_at : List Sign → StmtForm
stmt_at w = stmt_form (lead_at w) (second_at w) (third_at w)

stmt_form-plain_invoke : (l m n : Lead) → is_plain_invoke l ≡ true → stmt_form l m n ≡ CallStmt
stmt_form-plain_invoke lead.SpecialInvoke m n h = refl
stmt_form-plain_invoke lead.VirtualInvoke m n h = refl
stmt_form-plain_invoke lead.InterfaceInvoke m n h = refl
stmt_form-plain_invoke l m n h = absurd (false≢true h)

stmt_form-switch_word : (l m n : Lead) → is_switch_word l ≡ true → stmt_form l m n ≡ SwitchStmt
stmt_form-switch_word lead.TableSwitch m n h = refl
stmt_form-switch_word lead.LookupSwitch m n h = refl
stmt_form-switch_word l m n h = absurd (false≢true h)

stmt_form-monitor_word : (l m n : Lead) → is_monitor_word l ≡ true → stmt_form l m n ≡ MonitorStmt
stmt_form-monitor_word lead.EnterMonitor m n h = refl
stmt_form-monitor_word lead.ExitMonitor m n h = refl
stmt_form-monitor_word l m n h = absurd (false≢true h)

stmt_form-skip_word : (l m n : Lead) → is_skip_word l ≡ true → stmt_form l m n ≡ SkipStmt
stmt_form-skip_word lead.Nop m n h = refl
stmt_form-skip_word lead.Breakpoint m n h = refl
stmt_form-skip_word l m n h = absurd (false≢true h)

call_stmt_picks : (x : Tree invoke) (r : List Sign) → stmt_at (spell invoke x r) ≡ CallStmt
call_stmt_picks (OnReceiver, x) r = stmt_form-plain_invoke x.0.lead _ _ x.0.is_in_set
call_stmt_picks (OnClass, x) r = refl
call_stmt_picks (Dynamic, x) r = refl

stmt_picks : (i : StmtForm) (x : Tree (by_stmt i)) (r : List Sign) → stmt_at (spell (by_stmt i) x r) ≡ i
stmt_picks CallStmt x r = call_stmt_picks x.0 _
stmt_picks SwitchStmt x r = stmt_form-switch_word x.0.lead _ _ x.0.is_in_set
stmt_picks MonitorStmt x r = stmt_form-monitor_word x.0.lead _ _ x.0.is_in_set
stmt_picks SkipStmt x r = stmt_form-skip_word x.0.lead _ _ x.0.is_in_set
stmt_picks ThisStmt x r = refl
stmt_picks ParamStmt x r = refl
stmt_picks CaughtStmt x r = refl
stmt_picks AssignStmt x r = refl
stmt_picks PutFieldStmt x r = refl
stmt_picks PutStaticStmt x r = refl
stmt_picks PutCellStmt x r = refl
stmt_picks IfStmt x r = refl
stmt_picks GotoStmt x r = refl
stmt_picks ReturnStmt x r = refl
stmt_picks RetStmt x r = refl
stmt_picks ThrowStmt x r = refl

stmt_each : {P : List Sign → Type 0} (i : StmtForm) → Apart (by_stmt i) P
stmt_each ThisStmt = tok_then (tok_then (tok_then (tok_then (apart_seq ty_apart (tok_then apart_end) (λ y r p e. cc)))))
stmt_each ParamStmt = tok_then (tok_then (tok_then (tok_then (apart_seq ty_apart (tok_then apart_end) (λ y r p e. cc)))))
stmt_each CaughtStmt = tok_then (tok_then (tok_then (tok_then apart_end)))
stmt_each AssignStmt = tok_then (tok_then (apart_seq expr_apart (tok_then apart_end) (λ y r p. refl)))
stmt_each PutFieldStmt = tok_then (tok_then (free_then fsig_apart (tok_then (free_then imm_apart (tok_then apart_end)))))
stmt_each PutStaticStmt = free_then fsig_apart (tok_then (free_then imm_apart (tok_then apart_end)))
stmt_each PutCellStmt = tok_then (tok_then (free_then imm_apart (tok_then (tok_then (free_then imm_apart (tok_then apart_end))))))
stmt_each CallStmt = apart_seq invoke_apart (tok_then apart_end) (λ y r p. refl)
stmt_each IfStmt = tok_then (free_then imm_apart (free_then apart_one (free_then imm_apart (tok_then (tok_then (tok_then apart_end))))))
stmt_each GotoStmt = tok_then (tok_then (tok_then apart_end))
stmt_each SwitchStmt =
    free_then apart_one (tok_then (free_then imm_apart (tok_then (tok_then (apart_seq
    (free_star {P = λ r. lead_at r ≡ lead.Default} case_apart (λ y w r p e. let f = ap lead_at e in cc))
    (tok_then (tok_then (tok_then (tok_then (tok_then (tok_then (tok_then apart_end)))))))
    (λ y r p. refl))))))
stmt_each ReturnStmt = tok_then (apart_seq maybe_imm_apart (tok_then apart_end) (λ y r p. refl))
stmt_each RetStmt = tok_then (apart_seq maybe_imm_apart (tok_then apart_end) (λ y r p. refl))
stmt_each ThrowStmt = tok_then (free_then imm_apart (tok_then apart_end))
stmt_each MonitorStmt = free_then apart_one (free_then imm_apart (tok_then apart_end))
stmt_each SkipStmt = free_then apart_one (tok_then apart_end)

pub stmt_apart : {P : List Sign → Type 0} → Apart stmt P
stmt_apart = apart_any stmt_at (λ i x r p. stmt_picks i x r) stmt_each
