-- The grammar of the profile: Soot's Jimple (Vallée-Rai), with the JVM specification's limit of 255 dimensions, counted in the grammar.
-- It reads beside the written grammar, whose lines stand here as comments, but for the sets of words, which stand in Sets: `*` is any number, `[ ]` at most one, a bar is a choice, and words and marks in
-- quotes stand for themselves. Each definition is a rule, and each line of a `by_` definition is an alternative of its rule.
-- The grammar has no recursion, so its whole is one expression, `program`.
use Rattle.std.specs.Prelude.{List, [], ◌∷◌}
use Rattle.jim_text.specs.declared.lead.Lead.TheVariants as lead
use Rattle.jim_grammar.specs.declared.set.LeadSet.TheVariants.{Modifiers, Bases, ClassWords, Relations, Operators, PlainInvokes, SwitchWords, MonitorWords, SkipWords, OddTypes, NotEnds}
use Rattle.jim_grammar.specs.Forms.{ImmForm, LocalImm, NumberImm, TextImm, ClassImm, NullImm, ExprForm, UseExpr, NewExpr, ArrayExpr, MultiExpr, CastExpr, InstanceExpr, LengthExpr, NegExpr, BinaryExpr, FieldExpr, StaticExpr, CellExpr, InvokeExpr, InvokeForm, OnReceiver, OnClass, Dynamic, StmtForm, ThisStmt, ParamStmt, CaughtStmt, AssignStmt, PutFieldStmt, PutStaticStmt, PutCellStmt, CallStmt, IfStmt, GotoStmt, SwitchStmt, ReturnStmt, RetStmt, ThrowStmt, MonitorStmt, SkipStmt, LineForm, LabelLine, StmtLine, ResultForm, VoidResult, TypeResult, MemberForm, FieldMember, MethodMember, EndForm, NoBody, WithBody, DeclForm, TypeDecl, OddDecl, Imms, Exprs, Invokes, Stmts, Lines, Results, Members, Ends, Decls}
use Rattle.jim_grammar.specs.Expressions.{Re, Eps, Tok, One, ◌·◌, Any, Star, Opt, UpTo, Shared}

-- a name
abbrev pub name : Re
name = Tok lead.Name

-- one after the other
abbrev pub seq : List Re → Re
seq [] = Eps
seq (a ∷ more) = a · seq more

-- an element, and more of them, each behind a comma
abbrev pub comma_more : Re → Re
comma_more a = seq (Tok lead.Comma ∷ a ∷ [])

-- one or more, with a comma between each two
abbrev pub commas : Re → Re
commas a = seq (a ∷ Star (comma_more a) ∷ [])

-- names = NAME ("," NAME)*
abbrev pub names : Re
names = commas name

-- a pair of brackets: "[" "]"
abbrev pub pair : Re
pair = seq (Tok lead.OpenBracket ∷ Tok lead.CloseBracket ∷ [])

-- type = (boolean | byte | short | char | int | long | float | double | NAME) ("[" "]")*, with at most 255 pairs
abbrev pub ty : Re
ty = seq (One Bases ∷ UpTo 255 pair ∷ [])

-- types = type ("," type)*
abbrev pub types : Re
types = commas ty

-- imm = NAME | ["-"] NUMBER | TEXT | "class" TEXT | "null"
abbrev pub by_imm : ImmForm → Re
by_imm LocalImm = seq (name ∷ [])
by_imm NumberImm = seq (Opt (Tok lead.Minus) ∷ Tok lead.Number ∷ [])
by_imm TextImm = seq (Tok lead.Text ∷ [])
by_imm ClassImm = seq (Tok lead.Class ∷ Tok lead.Text ∷ [])
by_imm NullImm = seq (Tok lead.Null ∷ [])

-- an operand
abbrev pub imm : Re
imm = Any Imms by_imm

-- imms = imm ("," imm)*
abbrev pub imms : Re
imms = commas imm

-- fsig = "<" NAME ":" type NAME ">"
abbrev pub fsig : Re
fsig = seq (Tok lead.Less ∷ name ∷ Tok lead.Colon ∷ ty ∷ name ∷ Tok lead.Greater ∷ [])

-- outcome = "void" | type
abbrev pub by_result : ResultForm → Re
by_result VoidResult = seq (Tok lead.Void ∷ [])
by_result TypeResult = seq (ty ∷ [])

-- `void`, or a type
abbrev pub outcome : Re
outcome = Any Results by_result

-- msig = "<" NAME ":" outcome NAME "(" [types] ")" ">"
abbrev pub msig : Re
msig = seq (Tok lead.Less ∷ name ∷ Tok lead.Colon ∷ outcome ∷ name ∷ Tok lead.OpenParen ∷ Opt types ∷ Tok lead.CloseParen ∷ Tok lead.Greater ∷ [])

-- invoke = ("specialinvoke" | "virtualinvoke" | "interfaceinvoke") NAME "." msig "(" [imms] ")"
--        | "staticinvoke" msig "(" [imms] ")"
--        | "dynamicinvoke" and any tokens but ";" "{" "}"
abbrev pub by_invoke : InvokeForm → Re
by_invoke OnReceiver = seq (One PlainInvokes ∷ name ∷ Tok lead.Dot ∷ msig ∷ Tok lead.OpenParen ∷ Opt imms ∷ Tok lead.CloseParen ∷ [])
by_invoke OnClass = seq (Tok lead.StaticInvoke ∷ msig ∷ Tok lead.OpenParen ∷ Opt imms ∷ Tok lead.CloseParen ∷ [])
by_invoke Dynamic = seq (Tok lead.DynamicInvoke ∷ Star (One NotEnds) ∷ [])

-- a call
abbrev pub invoke : Re
invoke = Any Invokes by_invoke

-- a length in brackets, or none
abbrev pub own : Re
own = seq (Tok lead.OpenBracket ∷ Opt imm ∷ Tok lead.CloseBracket ∷ [])

-- the end of a type in brackets, and the first length
abbrev pub first_own : Re
first_own = seq (Tok lead.CloseParen ∷ own ∷ [])

-- expr = imm | "new" NAME | "newarray" "(" type ")" "[" imm "]"
--      | "newmultiarray" "(" type ")" "[" [imm] "]" ("[" [imm] "]")*, with at most 255 dimensions in all
--      | "(" type ")" imm | imm "instanceof" type | ("lengthof" | "neg") imm | imm op imm
--      | NAME "." fsig | fsig | NAME "[" imm "]" | invoke
-- Of the dimensions one is the first length, and the others stand in the type and behind that length: at most 254.
abbrev pub by_expr : ExprForm → Re
by_expr UseExpr = seq (imm ∷ [])
by_expr NewExpr = seq (Tok lead.New ∷ name ∷ [])
by_expr ArrayExpr = seq (Tok lead.NewArray ∷ Tok lead.OpenParen ∷ ty ∷ Tok lead.CloseParen ∷ Tok lead.OpenBracket ∷ imm ∷ Tok lead.CloseBracket ∷ [])
by_expr MultiExpr = seq (Tok lead.NewMultiArray ∷ Tok lead.OpenParen ∷ One Bases ∷ Shared 254 pair first_own own ∷ [])
by_expr CastExpr = seq (Tok lead.OpenParen ∷ ty ∷ Tok lead.CloseParen ∷ imm ∷ [])
by_expr InstanceExpr = seq (imm ∷ Tok lead.InstanceOf ∷ ty ∷ [])
by_expr LengthExpr = seq (Tok lead.LengthOf ∷ imm ∷ [])
by_expr NegExpr = seq (Tok lead.Neg ∷ imm ∷ [])
by_expr BinaryExpr = seq (imm ∷ One Operators ∷ imm ∷ [])
by_expr FieldExpr = seq (name ∷ Tok lead.Dot ∷ fsig ∷ [])
by_expr StaticExpr = seq (fsig ∷ [])
by_expr CellExpr = seq (name ∷ Tok lead.OpenBracket ∷ imm ∷ Tok lead.CloseBracket ∷ [])
by_expr InvokeExpr = seq (invoke ∷ [])

-- an expression
abbrev pub expr : Re
expr = Any Exprs by_expr

-- case = "case" ["-"] NUMBER ":" "goto" NAME ";"
abbrev pub case_line : Re
case_line = seq (Tok lead.Case ∷ Opt (Tok lead.Minus) ∷ Tok lead.Number ∷ Tok lead.Colon ∷ Tok lead.Goto ∷ name ∷ Tok lead.Semicolon ∷ [])

-- stmt = NAME ":=" "@this" ":" type ";" | NAME ":=" "@parameterN" ":" type ";" | NAME ":=" "@caughtexception" ";"
--      | NAME "=" expr ";" | NAME "." fsig "=" imm ";" | fsig "=" imm ";"
--      | NAME "[" imm "]" "=" imm ";" | invoke ";"
--      | "if" imm rel imm "goto" NAME ";" | "goto" NAME ";"
--      | ("tableswitch" | "lookupswitch") "(" imm ")" "{" case* "default" ":" "goto" NAME ";" "}" ";"
--      | "return" [imm] ";" | "ret" [imm] ";" | "throw" imm ";"
--      | ("entermonitor" | "exitmonitor") imm ";" | "nop" ";" | "breakpoint" ";"
abbrev pub by_stmt : StmtForm → Re
by_stmt ThisStmt = seq (name ∷ Tok lead.Define ∷ Tok lead.This ∷ Tok lead.Colon ∷ ty ∷ Tok lead.Semicolon ∷ [])
by_stmt ParamStmt = seq (name ∷ Tok lead.Define ∷ Tok lead.Parameter ∷ Tok lead.Colon ∷ ty ∷ Tok lead.Semicolon ∷ [])
by_stmt CaughtStmt = seq (name ∷ Tok lead.Define ∷ Tok lead.Caught ∷ Tok lead.Semicolon ∷ [])
by_stmt AssignStmt = seq (name ∷ Tok lead.Assign ∷ expr ∷ Tok lead.Semicolon ∷ [])
by_stmt PutFieldStmt = seq (name ∷ Tok lead.Dot ∷ fsig ∷ Tok lead.Assign ∷ imm ∷ Tok lead.Semicolon ∷ [])
by_stmt PutStaticStmt = seq (fsig ∷ Tok lead.Assign ∷ imm ∷ Tok lead.Semicolon ∷ [])
by_stmt PutCellStmt = seq (name ∷ Tok lead.OpenBracket ∷ imm ∷ Tok lead.CloseBracket ∷ Tok lead.Assign ∷ imm ∷ Tok lead.Semicolon ∷ [])
by_stmt CallStmt = seq (invoke ∷ Tok lead.Semicolon ∷ [])
by_stmt IfStmt = seq (Tok lead.If ∷ imm ∷ One Relations ∷ imm ∷ Tok lead.Goto ∷ name ∷ Tok lead.Semicolon ∷ [])
by_stmt GotoStmt = seq (Tok lead.Goto ∷ name ∷ Tok lead.Semicolon ∷ [])
by_stmt SwitchStmt = seq (One SwitchWords ∷ Tok lead.OpenParen ∷ imm ∷ Tok lead.CloseParen ∷ Tok lead.OpenBrace ∷ Star case_line ∷ Tok lead.Default ∷ Tok lead.Colon ∷ Tok lead.Goto ∷ name ∷ Tok lead.Semicolon ∷ Tok lead.CloseBrace ∷ Tok lead.Semicolon ∷ [])
by_stmt ReturnStmt = seq (Tok lead.Return ∷ Opt imm ∷ Tok lead.Semicolon ∷ [])
by_stmt RetStmt = seq (Tok lead.Ret ∷ Opt imm ∷ Tok lead.Semicolon ∷ [])
by_stmt ThrowStmt = seq (Tok lead.Throw ∷ imm ∷ Tok lead.Semicolon ∷ [])
by_stmt MonitorStmt = seq (One MonitorWords ∷ imm ∷ Tok lead.Semicolon ∷ [])
by_stmt SkipStmt = seq (One SkipWords ∷ Tok lead.Semicolon ∷ [])

-- a statement
abbrev pub stmt : Re
stmt = Any Stmts by_stmt

-- line = label | stmt, where label = NAME ":"
abbrev pub by_line : LineForm → Re
by_line LabelLine = seq (name ∷ Tok lead.Colon ∷ [])
by_line StmtLine = seq (stmt ∷ [])

-- a label or a statement
abbrev pub line : Re
line = Any Lines by_line

-- decl = (type | "unknown" | "null_type") names ";"
abbrev pub by_decl : DeclForm → Re
by_decl TypeDecl = seq (ty ∷ names ∷ Tok lead.Semicolon ∷ [])
by_decl OddDecl = seq (One OddTypes ∷ names ∷ Tok lead.Semicolon ∷ [])

-- a declaration of locals
abbrev pub decl : Re
decl = Any Decls by_decl

-- trap = "catch" NAME "from" NAME "to" NAME "with" NAME ";"
abbrev pub trap : Re
trap = seq (Tok lead.Catch ∷ name ∷ Tok lead.From ∷ name ∷ Tok lead.To ∷ name ∷ Tok lead.With ∷ name ∷ Tok lead.Semicolon ∷ [])

-- body = "{" decl* (label | stmt)* trap* "}"
abbrev pub body : Re
body = seq (Tok lead.OpenBrace ∷ Star decl ∷ Star line ∷ Star trap ∷ Tok lead.CloseBrace ∷ [])

-- ending = ";" | body
abbrev pub by_end : EndForm → Re
by_end NoBody = seq (Tok lead.Semicolon ∷ [])
by_end WithBody = seq (body ∷ [])

-- a semicolon, or a body
abbrev pub ending : Re
ending = Any Ends by_end

-- throws = "throws" names
abbrev pub throws : Re
throws = seq (Tok lead.Throws ∷ names ∷ [])

-- member = mod* type NAME ";"
--        | mod* outcome NAME "(" [types] ")" [throws] ending
abbrev pub by_member : MemberForm → Re
by_member FieldMember = seq (Star (One Modifiers) ∷ ty ∷ name ∷ Tok lead.Semicolon ∷ [])
by_member MethodMember = seq (Star (One Modifiers) ∷ outcome ∷ name ∷ Tok lead.OpenParen ∷ Opt types ∷ Tok lead.CloseParen ∷ Opt throws ∷ ending ∷ [])

-- a field or a method
abbrev pub member : Re
member = Any Members by_member

-- "extends" NAME, and "implements" names
abbrev pub extends : Re
extends = seq (Tok lead.Extends ∷ name ∷ [])

-- the interfaces of a class
abbrev pub implements : Re
implements = seq (Tok lead.Implements ∷ names ∷ [])

-- class = mod* ("class" | "interface") NAME ["extends" NAME] ["implements" names] "{" member* "}"
abbrev pub class : Re
class = seq (Star (One Modifiers) ∷ One ClassWords ∷ name ∷ Opt extends ∷ Opt implements ∷ Tok lead.OpenBrace ∷ Star member ∷ Tok lead.CloseBrace ∷ [])

-- program = class*
abbrev pub program : Re
program = Star class
