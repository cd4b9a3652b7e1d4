-- Bodies as they are read.
use Rattle.std.proofs.Common.{◌≡◌, ◌≢◌, ℕ, zero, suc, ◌+◌, ◌≤◌, false, List, [], ◌∷◌, length, Some, None, refl, ap, ◌∙◌, subst, arith}
use Rattle.std.specs.List.{AllByRecursion}
use Rattle.std.proofs.lemmas.Bool.{true≢false, false≢true}
use Rattle.std.proofs.lemmas.List.Elements.{All-from_recursion}
use Rattle.lists.specs.Lists.{Has}
use Rattle.jim_ast.specs.declared.syntax.Base.{Base}
use Rattle.jim_ast.specs.declared.syntax.Body.{Body}
use Rattle.jim_ast.specs.declared.syntax.Class.{Class}
use Rattle.jim_ast.specs.declared.syntax.Label.{Label}
use Rattle.jim_ast.specs.declared.syntax.MethodDecl.{MethodDecl}
use Rattle.jim_text.specs.declared.lead.Lead.{Lead}
use Rattle.jim_text.specs.declared.lead.Lead.TheVariants as lead
use Rattle.jim_grammar.specs.Forms.{LabelLine, StmtLine, FieldMember, MethodMember, NoBody, WithBody, InvokeExpr, MultiExpr, OnReceiver, OnClass, Dynamic, AssignStmt, CallStmt, SwitchStmt}
use Rattle.jim_grammar.specs.Expressions.{Between, Tree}
use Rattle.jim_grammar.specs.Grammar.{invoke, expr, own, first_own, pair, case_line, stmt, line, body, ending, member, class, program}
use Rattle.jim_stmts.specs.Meanings.{base_by, mode_by, invoke_of, expr_of, multi_of, owns_of, sized_of, switch_of, stmt_of}
use Rattle.jim_build.specs.Bodies.{stmts_of, labels_from, body_of}
use Rattle.jim_build.specs.Members.{ending_of, methods_of}
use Rattle.jim_build.specs.Classes.{classes_of}
use Rattle.link_rules.specs.Keys.{is_static_mode}
use Rattle.link_rules.specs.Conditions.{IsReadCall, IsReadExpr, IsReadStmt, IsReadBody}

-- a call on a receiver has another mode than static
receiver_mode : (l : Lead) → is_static_mode (mode_by l) ≡ false
receiver_mode lead.SpecialInvoke = refl
receiver_mode lead.VirtualInvoke = refl
receiver_mode l = refl

-- a call has a receiver exactly where its mode isn't static
call_read : (t : Tree invoke) → IsReadCall (invoke_of t)
call_read (OnReceiver, (w, _)) = λ e. true≢false (e ∙ receiver_mode w.lead)
call_read (OnClass, _) = false≢true
call_read (Dynamic, _) = tt

-- no more sizes are given than there are pairs of brackets
sized_most : (owns : List (Tree own)) → sized_of owns ≤ length owns
sized_most [] = omega arith
sized_most ((_, (None, _)) ∷ more) = omega arith
sized_most ((_, (Some _, _)) ∷ more) = let most = sized_most more in omega (arith, most)

-- of an array of arrays no more than 255
multi_read : (b : Base) (m : Between 254 (Tree pair) (Tree first_own) (Tree own)) → IsReadExpr (multi_of b m)
multi_read b m = by m.middle refl
  where
    by : (first : Tree first_own) → m.middle ≡ first → IsReadExpr (multi_of b m)
    by (_, (o, _)) e =
        let most = sized_most (owns_of m.middle m.after) in
        let many : length (owns_of m.middle m.after) ≡ suc (length m.after) = ap (λ x. length (owns_of x m.after)) e in
        let few = m.few in
        omega (arith, most, many, few)

-- an expression is as it is read
expr_read : (t : Tree expr) → IsReadExpr (expr_of t)
expr_read (InvokeExpr, (v, _)) = call_read v
expr_read (MultiExpr, (_, (_, (b, (m, _))))) = multi_read (base_by b.lead b.text) m
expr_read (_, _) = tt

-- a switch has a label, since it has its default
labels_some : (xs : List (Tree case_line)) (l : ℕ) → switch_of xs l ≢ []
labels_some [] l e = cc
labels_some (x ∷ xs) l e = cc

-- each statement is as it is read
stmt_read : (t : Tree stmt) → IsReadStmt (stmt_of t)
stmt_read (AssignStmt, (_, (_, (e, _)))) = expr_read e
stmt_read (CallStmt, (v, _)) = call_read v
stmt_read (SwitchStmt, (_, (_, (_, (_, (_, (xs, (_, (_, (_, (l, _))))))))))) = labels_some xs l
stmt_read (_, _) = tt

-- and so are those among lines
stmts_read : (xs : List (Tree line)) → AllByRecursion IsReadStmt (stmts_of xs)
stmts_read [] = tt
stmts_read ((LabelLine, _) ∷ xs) = stmts_read xs
stmts_read ((StmtLine, (s, _)) ∷ xs) = (stmt_read s, stmts_read xs)

-- a label stands before or at the end
abbrev IsUpTo : ℕ → Label → Type 0
IsUpTo end label = label.index ≤ end

-- where so many statements stand before the lines, no label among them stands behind the end
labels_read : (from end : ℕ) (xs : List (Tree line)) → from + length (stmts_of xs) ≤ end → AllByRecursion (IsUpTo end) (labels_from from xs)
labels_read from end [] h = tt
labels_read from end ((LabelLine, _) ∷ xs) h = (omega (arith, h), labels_read from end xs h)
labels_read from end ((StmtLine, _) ∷ xs) h = labels_read (from + 1) end xs (omega (arith, h))

-- each body is as it is read
body_read : (t : Tree body) → IsReadBody (body_of t)
body_read (_, (_, (lines, _))) = record {
  stmts = All-from_recursion IsReadStmt (stmts_of lines) (stmts_read lines);
  labels = All-from_recursion (IsUpTo (length (stmts_of lines))) (labels_from 0 lines) (labels_read 0 (length (stmts_of lines)) lines (omega arith));
}

-- a method whose body, if it has one, is as it is read
abbrev IsReadMethod : MethodDecl → Type 0
IsReadMethod m = (body : Body) → m.body ≡ Some body → IsReadBody body

-- a class whose methods are
abbrev IsReadClass : Class → Type 0
IsReadClass c = AllByRecursion IsReadMethod c.methods

-- what a method's tree ends in gives such a body, or none
ending_read : (t : Tree ending) (body : Body) → ending_of t ≡ Some body → IsReadBody body
ending_read (NoBody, _) body e = absurd (cc e)
ending_read (WithBody, (b, _)) body e = let same : body_of b ≡ body = cc in subst IsReadBody same (body_read b)

-- the methods among members
methods_read : (xs : List (Tree member)) → AllByRecursion IsReadMethod (methods_of xs)
methods_read [] = tt
methods_read ((FieldMember, _) ∷ xs) = methods_read xs
methods_read ((MethodMember, (_, (_, (_, (_, (_, (_, (_, (end, _))))))))) ∷ xs) = (ending_read end, methods_read xs)

-- the classes of a program
classes_read : (t : Tree program) → AllByRecursion IsReadClass (classes_of t)
classes_read [] = tt
classes_read ((_, (_, (_, (_, (_, (_, (members, _))))))) ∷ xs) = (methods_read members, classes_read xs)

-- what holds of each element holds of one that the list has
each_has : {X : Type 0} (P : X → Type 0) (xs : List X) (x : X) → AllByRecursion P xs → Has xs x → P x
each_has P [] x all (i, there) = absurd (cc there)
each_has P (y ∷ xs) x all (zero, there) = let same : y ≡ x = cc in subst P same all.0
each_has P (y ∷ xs) x all (suc i, there) = each_has P xs x all.1 (i, there)

-- each body of the classes that a tree means is as it is read
pub bodies_read : (t : Tree program) (c : Class) (m : MethodDecl) (body : Body) → Has (classes_of t) c → Has c.methods m → m.body ≡ Some body → IsReadBody body
bodies_read t c m body class method is = each_has IsReadMethod c.methods m (each_has IsReadClass (classes_of t) c (classes_read t) class) method body is
