-- What the parts of the table stand for, and what their rules say. No clause of a public function speaks of these, and the grammar's meaning doesn't stand on them.
use Rattle.std.specs.Prelude.{◌≡◌, ℕ, suc, map}
use Rattle.jim_text.specs.declared.lead.Lead.TheVariants as lead
use Rattle.jim_grammar.specs.declared.set.LeadSet.TheVariants.{NotEnds}
use Rattle.jim_grammar.specs.declared.set.LeadSet.TheVariants as sets
use Rattle.jim_grammar.specs.declared.item.Item.{Item}
use Rattle.jim_grammar.specs.declared.item.Item.TheVariants as item
use Rattle.jim_grammar.specs.declared.item.TypePiece.{TypePiece}
use Rattle.jim_grammar.specs.declared.item.TypePiece.TheVariants as type_piece
use Rattle.jim_grammar.specs.declared.item.ImmPiece.{ImmPiece}
use Rattle.jim_grammar.specs.declared.item.ImmPiece.TheVariants as imm_piece
use Rattle.jim_grammar.specs.declared.item.SigPiece.{SigPiece}
use Rattle.jim_grammar.specs.declared.item.SigPiece.TheVariants as sig_piece
use Rattle.jim_grammar.specs.declared.item.CallPiece.{CallPiece}
use Rattle.jim_grammar.specs.declared.item.CallPiece.TheVariants as call_piece
use Rattle.jim_grammar.specs.declared.item.ExprPiece.{ExprPiece}
use Rattle.jim_grammar.specs.declared.item.ExprPiece.TheVariants as expr_piece
use Rattle.jim_grammar.specs.declared.item.MovePiece.{MovePiece}
use Rattle.jim_grammar.specs.declared.item.MovePiece.TheVariants as move_piece
use Rattle.jim_grammar.specs.declared.item.JumpPiece.{JumpPiece}
use Rattle.jim_grammar.specs.declared.item.JumpPiece.TheVariants as jump_piece
use Rattle.jim_grammar.specs.declared.item.StmtPiece.{StmtPiece}
use Rattle.jim_grammar.specs.declared.item.StmtPiece.TheVariants as stmt_piece
use Rattle.jim_grammar.specs.declared.item.BodyPiece.{BodyPiece}
use Rattle.jim_grammar.specs.declared.item.BodyPiece.TheVariants as body_piece
use Rattle.jim_grammar.specs.declared.item.ClassPiece.{ClassPiece}
use Rattle.jim_grammar.specs.declared.item.ClassPiece.TheVariants as class_piece
use Rattle.jim_grammar.specs.declared.item.Rule.{Rule}
use Rattle.jim_grammar.specs.declared.item.Rule.TheVariants as rule
use Rattle.jim_grammar.specs.Forms as form
use Rattle.jim_grammar.specs.Forms.{Kind, Form, forms}
use Rattle.jim_grammar.specs.Expressions.{Re, Tok, One, Any, Star, Opt, UpTo, Shared}
use Rattle.jim_grammar.specs.Grammar.{name, seq, comma_more, names, pair, ty, types, imm, imms, fsig, outcome, msig, invoke, own, first_own, expr, case_line, stmt, line, decl, trap, body, ending, throws, member, extends, implements, class, program, by_imm, by_result, by_invoke, by_expr, by_stmt, by_line, by_decl, by_end, by_member}

-- the expressions of the pieces
abbrev pub re_type : TypePiece → Re
re_type type_piece.Names = names
re_type type_piece.MoreNames = Star (comma_more name)
re_type type_piece.CommaName = comma_more name
re_type type_piece.Pair = pair
re_type type_piece.Type = ty
re_type type_piece.Types = types
re_type type_piece.MoreTypes = Star (comma_more ty)
re_type type_piece.CommaType = comma_more ty
re_type type_piece.MaybeTypes = Opt types

abbrev pub re_imm : ImmPiece → Re
re_imm imm_piece.LocalImm = by_imm form.LocalImm
re_imm imm_piece.NumberImm = by_imm form.NumberImm
re_imm imm_piece.TextImm = by_imm form.TextImm
re_imm imm_piece.ClassImm = by_imm form.ClassImm
re_imm imm_piece.NullImm = by_imm form.NullImm
re_imm imm_piece.MaybeMinus = Opt (Tok lead.Minus)
re_imm imm_piece.Imm = imm
re_imm imm_piece.Imms = imms
re_imm imm_piece.MoreImms = Star (comma_more imm)
re_imm imm_piece.CommaImm = comma_more imm
re_imm imm_piece.MaybeImm = Opt imm
re_imm imm_piece.MaybeImms = Opt imms

abbrev pub re_sig : SigPiece → Re
re_sig sig_piece.FieldSig = fsig
re_sig sig_piece.VoidResult = by_result form.VoidResult
re_sig sig_piece.TypeResult = by_result form.TypeResult
re_sig sig_piece.Outcome = outcome
re_sig sig_piece.MethodSig = msig

abbrev pub re_call : CallPiece → Re
re_call call_piece.OnReceiver = by_invoke form.OnReceiver
re_call call_piece.OnClass = by_invoke form.OnClass
re_call call_piece.Dynamic = by_invoke form.Dynamic
re_call call_piece.Others = Star (One NotEnds)
re_call call_piece.Invoke = invoke

abbrev pub re_expr : ExprPiece → Re
re_expr expr_piece.Own = own
re_expr expr_piece.FirstOwn = first_own
re_expr expr_piece.UseExpr = by_expr form.UseExpr
re_expr expr_piece.NewExpr = by_expr form.NewExpr
re_expr expr_piece.ArrayExpr = by_expr form.ArrayExpr
re_expr expr_piece.MultiExpr = by_expr form.MultiExpr
re_expr expr_piece.CastExpr = by_expr form.CastExpr
re_expr expr_piece.InstanceExpr = by_expr form.InstanceExpr
re_expr expr_piece.LengthExpr = by_expr form.LengthExpr
re_expr expr_piece.NegExpr = by_expr form.NegExpr
re_expr expr_piece.BinaryExpr = by_expr form.BinaryExpr
re_expr expr_piece.FieldExpr = by_expr form.FieldExpr
re_expr expr_piece.StaticExpr = by_expr form.StaticExpr
re_expr expr_piece.CellExpr = by_expr form.CellExpr
re_expr expr_piece.InvokeExpr = by_expr form.InvokeExpr
re_expr expr_piece.Expr = expr

abbrev pub re_move : MovePiece → Re
re_move move_piece.ThisStmt = by_stmt form.ThisStmt
re_move move_piece.ParamStmt = by_stmt form.ParamStmt
re_move move_piece.CaughtStmt = by_stmt form.CaughtStmt
re_move move_piece.AssignStmt = by_stmt form.AssignStmt
re_move move_piece.PutFieldStmt = by_stmt form.PutFieldStmt
re_move move_piece.PutStaticStmt = by_stmt form.PutStaticStmt
re_move move_piece.PutCellStmt = by_stmt form.PutCellStmt

abbrev pub re_jump : JumpPiece → Re
re_jump jump_piece.CaseLine = case_line
re_jump jump_piece.Cases = Star case_line
re_jump jump_piece.IfStmt = by_stmt form.IfStmt
re_jump jump_piece.GotoStmt = by_stmt form.GotoStmt
re_jump jump_piece.SwitchStmt = by_stmt form.SwitchStmt
re_jump jump_piece.ReturnStmt = by_stmt form.ReturnStmt
re_jump jump_piece.RetStmt = by_stmt form.RetStmt
re_jump jump_piece.ThrowStmt = by_stmt form.ThrowStmt

abbrev pub re_stmt : StmtPiece → Re
re_stmt stmt_piece.CallStmt = by_stmt form.CallStmt
re_stmt stmt_piece.MonitorStmt = by_stmt form.MonitorStmt
re_stmt stmt_piece.SkipStmt = by_stmt form.SkipStmt
re_stmt stmt_piece.Stmt = stmt
re_stmt stmt_piece.LabelLine = by_line form.LabelLine
re_stmt stmt_piece.StmtLine = by_line form.StmtLine
re_stmt stmt_piece.Line = line

abbrev pub re_body : BodyPiece → Re
re_body body_piece.TypeDecl = by_decl form.TypeDecl
re_body body_piece.OddDecl = by_decl form.OddDecl
re_body body_piece.Decl = decl
re_body body_piece.Trap = trap
re_body body_piece.DeclLines = Star decl
re_body body_piece.LineList = Star line
re_body body_piece.TrapLines = Star trap
re_body body_piece.Body = body
re_body body_piece.NoBody = by_end form.NoBody
re_body body_piece.WithBody = by_end form.WithBody
re_body body_piece.Ending = ending

abbrev pub re_class : ClassPiece → Re
re_class class_piece.ThrowsPart = throws
re_class class_piece.MaybeThrows = Opt throws
re_class class_piece.Modifiers = Star (One sets.Modifiers)
re_class class_piece.FieldMember = by_member form.FieldMember
re_class class_piece.MethodMember = by_member form.MethodMember
re_class class_piece.Member = member
re_class class_piece.MemberList = Star member
re_class class_piece.ExtendsPart = extends
re_class class_piece.MaybeExtends = Opt extends
re_class class_piece.ImplementsPart = implements
re_class class_piece.MaybeImplements = Opt implements
re_class class_piece.ClassText = class
re_class class_piece.Program = program

-- the expression of a part
abbrev pub re : Item → Re
re (item.Tok l) = Tok l
re (item.One set) = One set
re (item.Pairs n) = UpTo n pair
re (item.Dimensions n) = Shared n pair first_own own
re (item.Owns n) = UpTo n own
re (item.OfType p) = re_type p
re (item.OfImm p) = re_imm p
re (item.OfSig p) = re_sig p
re (item.OfCall p) = re_call p
re (item.OfExpr p) = re_expr p
re (item.OfMove p) = re_move p
re (item.OfJump p) = re_jump p
re (item.OfStmt p) = re_stmt p
re (item.OfBody p) = re_body p
re (item.OfClass p) = re_class p

-- the rule takes the expression of the part to pieces
abbrev pub IsRule : Item → Rule → Type 0
IsRule i (rule.Tok l) = re i ≡ Tok l
IsRule i (rule.One set) = re i ≡ One set
IsRule i (rule.Seq items) = re i ≡ seq (map re items.now)
IsRule i (rule.Any items) = (k : Kind) × (f : Form k → Re) × (re i ≡ Any k f) × (map re items.now ≡ map f (forms k))
IsRule i (rule.Star a) = re i ≡ Star (re a)
IsRule i (rule.Opt a) = re i ≡ Opt (re a)
IsRule i (rule.Full a) = re i ≡ UpTo 0 (re a)
IsRule i (rule.UpTo a b) = (n : ℕ) × (re i ≡ UpTo (suc n) (re a)) × (re b ≡ UpTo n (re a))
IsRule i (rule.FullShared a b c d) = (re i ≡ Shared 0 (re a) (re b) (re c)) × (re d ≡ UpTo 0 (re c))
IsRule i (rule.Shared a b c d f o) = (n : ℕ) × (re i ≡ Shared (suc n) (re a) (re b) (re c)) × (re d ≡ UpTo (suc n) (re c)) × (re f ≡ Shared n (re a) (re b) (re c)) × (re o ≡ UpTo n (re c))
