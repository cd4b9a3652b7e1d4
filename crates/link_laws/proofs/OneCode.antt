-- The code of a statement is one.
use Rattle.std.proofs.Common.{◌≡◌, ℕ, Bool, true, false, Some, None, Option, List, length, refl, sym, ap, ◌∙◌, slice_get}
use Rattle.class_rules.proofs.LawFacts.{look_up_one}
use Rattle.lists.specs.Lists.{IsApart, BothOrNone}
use Rattle.lists.proofs.Joined.{first_one}
use Rattle.jim_ast.specs.declared.names.NameId.{NameId}
use Rattle.jim_ast.specs.declared.syntax.Expr.{Expr}
use Rattle.jim_ast.specs.declared.syntax.Expr.TheVariants as expr
use Rattle.jim_ast.specs.declared.syntax.FieldSig.{FieldSig}
use Rattle.jim_ast.specs.declared.syntax.Imm.{Imm}
use Rattle.jim_ast.specs.declared.syntax.Imm.TheVariants as imm
use Rattle.jim_ast.specs.declared.syntax.Invoke.TheVariants.{Plain}
use Rattle.jim_ast.specs.declared.syntax.Label.{Label}
use Rattle.jim_ast.specs.declared.syntax.MethodSig.{MethodSig}
use Rattle.jim_ast.specs.declared.syntax.Mode.{Mode}
use Rattle.jim_ast.specs.declared.syntax.Stmt.{Stmt}
use Rattle.jim_ast.specs.declared.syntax.Stmt.TheVariants as stmt
use Rattle.jim_ast.specs.declared.syntax.Trap.{Trap}
use Rattle.link_rules.specs.declared.code.Arg.{Arg}
use Rattle.link_rules.specs.declared.code.Arg.TheVariants as arg
use Rattle.link_rules.specs.declared.code.Catch.{Catch}
use Rattle.link_rules.specs.declared.code.Code.{Code}
use Rattle.link_rules.specs.declared.code.Code.TheVariants as code
use Rattle.link_rules.specs.Classes.{IsNamed, fields_of, methods_of}
use Rattle.link_rules.specs.Codes.{FindsField, IsArg, IsAssignment, IsCall, IsCatch, IsCode, IsField, IsJump, IsLocal, IsMethodNumber, IsStatic, Scope, instance_number, static_number}
use Rattle.link_rules.specs.Keys.{HasFieldKey, HasMethodKey, accessed_key, called_key}
use Rattle.link_rules.specs.Names.{text_of}
use Rattle.link_rules.proofs.Runs.{order_one}
use Rattle.link_laws.proofs.OneList.{each_one, number_one}

-- what a scope numbers it numbers in one way
pub record HasOneEach (s : Scope) : Type 0 where
  pub locals : IsApart s.body.locals
  pub classes : (name : List ℕ) (a b : ℕ) → IsNamed s.world.classes name a → IsNamed s.world.classes name b → a ≡ b
  pub texts : IsApart s.texts
  pub class_texts : IsApart s.class_texts
  pub rows : IsApart s.method_rows

-- beside an option by a relation that has one answer is one option
both_one : {X Y : Type 0} (R : X → Y → Type 0) (x : Option X) (y z : Option Y) → ((a : X) (b c : Y) → R a b → R a c → b ≡ c) → BothOrNone R x y → BothOrNone R x z
    → y ≡ z
both_one R (Some x) (Some y) (Some z) one p q = ap Some (one x y z p q)
both_one R None None None one p q = refl
both_one R (Some x) None z one p q = elim p [ ]
both_one R (Some x) (Some y) None one p q = elim q [ ]
both_one R None (Some y) z one p q = elim p [ ]
both_one R None None (Some z) one p q = elim q [ ]

-- the label of this name and index
abbrev labelled : NameId → ℕ → Label
labelled name index = record { name = name; index = index }

module _ (s : Scope) (one : HasOneEach s) where
  local_one : (x : NameId) (a b : ℕ) → IsLocal s x a → IsLocal s x b → a ≡ b
  local_one x a b p q = one.locals a b x p q

  jump_one : (label : NameId) (a b : ℕ) → IsJump s label a → IsJump s label b → a ≡ b
  jump_one label a b p q =
      let place = number_one p.place q.place (λ below. q.first p.place _ below p.there refl) (λ below. p.first q.place _ below q.there refl) in
      let same : labelled label a ≡ labelled label b = cc (p.there, q.there, ap (slice_get s.body.labels) place) in
      ap (λ (l : Label). l.index) same

  arg_one : (a : Imm) (b c : Arg) → IsArg s a b → IsArg s a c → b ≡ c
  arg_one (imm.Local x) (arg.Local m) (arg.Local n) p q = ap arg.Local (local_one x m n p q)
  arg_one (imm.Local x) (arg.Local m) _ p q = absurd q
  arg_one (imm.Local x) _ c p q = absurd p
  arg_one imm.Number arg.Number arg.Number p q = refl
  arg_one imm.Number arg.Number _ p q = absurd q
  arg_one imm.Number _ c p q = absurd p
  arg_one imm.Null arg.Null arg.Null p q = refl
  arg_one imm.Null arg.Null _ p q = absurd q
  arg_one imm.Null _ c p q = absurd p
  arg_one (imm.Text name) (arg.Text m) (arg.Text n) p q = ap arg.Text (one.texts m n (text_of s.names name) p q)
  arg_one (imm.Text name) (arg.Text m) _ p q = absurd q
  arg_one (imm.Text name) _ c p q = absurd p
  arg_one (imm.ClassConst name) (arg.Class m) (arg.Class n) p q = ap arg.Class (one.class_texts m n (text_of s.names name) p q)
  arg_one (imm.ClassConst name) (arg.Class m) _ p q = absurd q
  arg_one (imm.ClassConst name) _ c p q = absurd p

  -- one field is found
  finds_one : (flag : Bool) (sig : FieldSig) (a b : ℕ) → FindsField s flag sig a → FindsField s flag sig b → a ≡ b
  finds_one flag sig a b p q =
      let class = one.classes (text_of s.names sig.class) p.class q.class p.is_class q.is_class in
      let key = first_one (length (fields_of s.world.classes)) (HasFieldKey (fields_of s.world.classes) (accessed_key s.names flag sig)) p.key q.key p.is_key q.is_key in
      let there = look_up_one s.world.rows p.class p.key (Some a) (Some b) p.finds (rw (class, key) q.finds) in
      cc there

  field_one : (sig : FieldSig) (a b : ℕ) → IsField s sig a → IsField s sig b → a ≡ b
  field_one sig a b p q = p.2 ∙ ap (instance_number (fields_of s.world.classes)) (finds_one false sig p.0 q.0 p.1 q.1) ∙ sym q.2

  static_one : (sig : FieldSig) (a b : ℕ) → IsStatic s sig a → IsStatic s sig b → a ≡ b
  static_one sig a b p q = p.2 ∙ ap (static_number (fields_of s.world.classes)) (finds_one true sig p.0 q.0 p.1 q.1) ∙ sym q.2

  -- the parts of a call
  pub record IsSameCall (class class' key key' : ℕ) (args args' : List Arg) (targets targets' : List ℕ) : Type 0 where
    pub class_is : class ≡ class'
    pub key_is : key ≡ key'
    pub args_are : args ≡ args'
    pub targets_are : targets ≡ targets'

  call_one : (mode : Mode) (sig : MethodSig) (args : List Imm) (c d k l : ℕ) (bs cs : List Arg) (ts us : List ℕ) → IsCall s mode sig args c k bs ts
      → IsCall s mode sig args d l cs us → IsSameCall c d k l bs cs ts us
  call_one mode sig args c d k l bs cs ts us p q =
      let class = one.classes (text_of s.names sig.class) c d p.is_class q.is_class in
      let key = first_one (length (methods_of s.world.classes)) (HasMethodKey (methods_of s.world.classes) (called_key s.names mode sig)) k l p.is_key q.is_key in
      let rows = order_one s.world mode c k p.rows q.rows p.are_rows (rw (class, key) q.are_rows) in
      record {
        class_is = class;
        key_is = key;
        args_are = each_one (IsArg s) args bs cs arg_one p.are_args q.are_args;
        targets_are = each_one (IsMethodNumber s) p.rows ts us (λ row a b x y. one.rows a b row x y) p.numbered (rw rows q.numbered);
      }

  -- the code of an assignment is one
  assignment_one : (x : NameId) (e : Expr) (c d : Code) → IsAssignment s x e c → IsAssignment s x e d → c ≡ d
  assignment_one x (expr.Use a) (code.Copy to b) (code.Copy to' b') p q = let to_is = local_one x to to' p.0 q.0 in let b_is = arg_one a b b' p.1 q.1 in λ j. code.Copy (to_is j) (b_is j)
  assignment_one x (expr.Use a) (code.Copy to b) _ p q = absurd q
  assignment_one x (expr.Use a) _ d p q = absurd p
  assignment_one x (expr.New class) (code.New to n) (code.New to' n') p q =
      let to_is = local_one x to to' p.0 q.0 in let n_is = one.classes (text_of s.names class) n n' p.1 q.1 in λ j. code.New (to_is j) (n_is j)
  assignment_one x (expr.New class) (code.New to n) _ p q = absurd q
  assignment_one x (expr.New class) _ d p q = absurd p
  assignment_one x (expr.NewArray ty) (code.NewArray to) (code.NewArray to') p q = ap code.NewArray (local_one x to to' p q)
  assignment_one x (expr.NewArray ty) (code.NewArray to) _ p q = absurd q
  assignment_one x (expr.NewArray ty) _ d p q = absurd p
  assignment_one x (expr.NewMulti ty sized) (code.NewMulti to n) (code.NewMulti to' n') p q =
      let to_is = local_one x to to' p.0 q.0 in let n_is = p.1 ∙ sym q.1 in λ j. code.NewMulti (to_is j) (n_is j)
  assignment_one x (expr.NewMulti ty sized) (code.NewMulti to n) _ p q = absurd q
  assignment_one x (expr.NewMulti ty sized) _ d p q = absurd p
  assignment_one x (expr.Cast ty a) (code.Cast to b) (code.Cast to' b') p q = let to_is = local_one x to to' p.0 q.0 in let b_is = arg_one a b b' p.1 q.1 in λ j. code.Cast (to_is j) (b_is j)
  assignment_one x (expr.Cast ty a) (code.Cast to b) (code.Copy to' b') p q = absurd (p.2 q.2)
  assignment_one x (expr.Cast ty a) (code.Copy to b) (code.Cast to' b') p q = absurd (q.2 p.2)
  assignment_one x (expr.Cast ty a) (code.Copy to b) (code.Copy to' b') p q = let to_is = local_one x to to' p.0 q.0 in let b_is = arg_one a b b' p.1 q.1 in λ j. code.Copy (to_is j) (b_is j)
  assignment_one x (expr.Cast ty a) (code.Cast to b) _ p q = absurd q
  assignment_one x (expr.Cast ty a) (code.Copy to b) _ p q = absurd q
  assignment_one x (expr.Cast ty a) _ d p q = absurd p
  assignment_one x (expr.Length a) (code.Length to b) (code.Length to' b') p q = let to_is = local_one x to to' p.0 q.0 in let b_is = arg_one a b b' p.1 q.1 in λ j. code.Length (to_is j) (b_is j)
  assignment_one x (expr.Length a) (code.Length to b) _ p q = absurd q
  assignment_one x (expr.Length a) _ d p q = absurd p
  assignment_one x (expr.Numeric divides) (code.Numeric to f) (code.Numeric to' f') p q = let to_is = local_one x to to' p.0 q.0 in let f_is = p.1 ∙ sym q.1 in λ j. code.Numeric (to_is j) (f_is j)
  assignment_one x (expr.Numeric divides) (code.Numeric to f) _ p q = absurd q
  assignment_one x (expr.Numeric divides) _ d p q = absurd p
  assignment_one x (expr.Field y sig) (code.Load to base n) (code.Load to' base' n') p q =
      let to_is = local_one x to to' p.0 q.0 in let base_is = local_one y base base' p.1 q.1 in let n_is = field_one sig n n' p.2 q.2 in
      λ j. code.Load (to_is j) (base_is j) (n_is j)
  assignment_one x (expr.Field y sig) (code.Load to base n) _ p q = absurd q
  assignment_one x (expr.Field y sig) _ d p q = absurd p
  assignment_one x (expr.Static sig) (code.LoadStatic to n) (code.LoadStatic to' n') p q = let to_is = local_one x to to' p.0 q.0 in let n_is = static_one sig n n' p.1 q.1 in λ j. code.LoadStatic (to_is j) (n_is j)
  assignment_one x (expr.Static sig) (code.LoadStatic to n) _ p q = absurd q
  assignment_one x (expr.Static sig) _ d p q = absurd p
  assignment_one x (expr.Cell y) (code.LoadCell to base) (code.LoadCell to' base') p q =
      let to_is = local_one x to to' p.0 q.0 in let base_is = local_one y base base' p.1 q.1 in λ j. code.LoadCell (to_is j) (base_is j)
  assignment_one x (expr.Cell y) (code.LoadCell to base) _ p q = absurd q
  assignment_one x (expr.Cell y) _ d p q = absurd p
  assignment_one x (expr.Invoke (Plain mode y sig args)) (code.Call (Some to) m c k r bs ts) (code.Call (Some to') m' c' k' r' cs us) p q =
      let to_is = local_one x to to' p.0 q.0 in
      let m_is = p.1 ∙ sym q.1 in
      let r_is = both_one (IsLocal s) y r r' local_one p.2 q.2 in
      let same = call_one mode sig args c c' k k' bs cs ts us p.3 q.3 in
      λ j. code.Call (Some (to_is j)) (m_is j) (same.class_is j) (same.key_is j) (r_is j) (same.args_are j) (same.targets_are j)
  assignment_one x (expr.Invoke (Plain mode y sig args)) (code.Call (Some to) m c k r bs ts) _ p q = absurd q
  assignment_one x (expr.Invoke (Plain mode y sig args)) _ d p q = absurd p
  assignment_one x _ c d p q = absurd p

  -- the code of a statement is one
  pub code_one : (t : Stmt) (c d : Code) → IsCode s t c → IsCode s t d → c ≡ d
  code_one (stmt.This x) (code.This a) (code.This b) p q = ap code.This (local_one x a b p q)
  code_one (stmt.This x) (code.This a) _ p q = absurd q
  code_one (stmt.This x) _ d p q = absurd p
  code_one (stmt.Param x number) (code.Param a m) (code.Param b n) p q = let to_is = local_one x a b p.0 q.0 in let n_is = p.1 ∙ sym q.1 in λ j. code.Param (to_is j) (n_is j)
  code_one (stmt.Param x number) (code.Param a m) _ p q = absurd q
  code_one (stmt.Param x number) _ d p q = absurd p
  code_one (stmt.Caught x) (code.Caught a) (code.Caught b) p q = ap code.Caught (local_one x a b p q)
  code_one (stmt.Caught x) (code.Caught a) _ p q = absurd q
  code_one (stmt.Caught x) _ d p q = absurd p
  code_one (stmt.Assign x e) c d p q = assignment_one x e c d p q
  code_one (stmt.PutField y sig a) (code.Store base n b) (code.Store base' n' b') p q =
      let base_is = local_one y base base' p.0 q.0 in let n_is = field_one sig n n' p.1 q.1 in let b_is = arg_one a b b' p.2 q.2 in
      λ j. code.Store (base_is j) (n_is j) (b_is j)
  code_one (stmt.PutField y sig a) (code.Store base n b) _ p q = absurd q
  code_one (stmt.PutField y sig a) _ d p q = absurd p
  code_one (stmt.PutStatic sig a) (code.StoreStatic n b) (code.StoreStatic n' b') p q =
      let n_is = static_one sig n n' p.0 q.0 in let b_is = arg_one a b b' p.1 q.1 in λ j. code.StoreStatic (n_is j) (b_is j)
  code_one (stmt.PutStatic sig a) (code.StoreStatic n b) _ p q = absurd q
  code_one (stmt.PutStatic sig a) _ d p q = absurd p
  code_one (stmt.PutCell y a) (code.StoreCell base b) (code.StoreCell base' b') p q =
      let base_is = local_one y base base' p.0 q.0 in let b_is = arg_one a b b' p.1 q.1 in λ j. code.StoreCell (base_is j) (b_is j)
  code_one (stmt.PutCell y a) (code.StoreCell base b) _ p q = absurd q
  code_one (stmt.PutCell y a) _ d p q = absurd p
  code_one (stmt.Call (Plain mode y sig args)) (code.Call None m c k r bs ts) (code.Call None m' c' k' r' cs us) p q =
      let m_is = p.0 ∙ sym q.0 in
      let r_is = both_one (IsLocal s) y r r' local_one p.1 q.1 in
      let same = call_one mode sig args c c' k k' bs cs ts us p.2 q.2 in
      λ j. code.Call None (m_is j) (same.class_is j) (same.key_is j) (r_is j) (same.args_are j) (same.targets_are j)
  code_one (stmt.Call (Plain mode y sig args)) (code.Call None m c k r bs ts) _ p q = absurd q
  code_one (stmt.Call (Plain mode y sig args)) _ d p q = absurd p
  code_one (stmt.If label) (code.If a) (code.If b) p q = ap code.If (jump_one label a b p q)
  code_one (stmt.If label) (code.If a) _ p q = absurd q
  code_one (stmt.If label) _ d p q = absurd p
  code_one (stmt.Goto label) (code.Goto a) (code.Goto b) p q = ap code.Goto (jump_one label a b p q)
  code_one (stmt.Goto label) (code.Goto a) _ p q = absurd q
  code_one (stmt.Goto label) _ d p q = absurd p
  code_one (stmt.Switch labels) (code.Switch a) (code.Switch b) p q = ap code.Switch (each_one (IsJump s) labels a b jump_one p q)
  code_one (stmt.Switch labels) (code.Switch a) _ p q = absurd q
  code_one (stmt.Switch labels) _ d p q = absurd p
  code_one (stmt.Return a) (code.Return b) (code.Return c) p q = ap code.Return (both_one (IsArg s) a b c arg_one p q)
  code_one (stmt.Return a) (code.Return b) _ p q = absurd q
  code_one (stmt.Return a) _ d p q = absurd p
  code_one (stmt.Throw a) (code.Throw b) (code.Throw c) p q = ap code.Throw (arg_one a b c p q)
  code_one (stmt.Throw a) (code.Throw b) _ p q = absurd q
  code_one (stmt.Throw a) _ d p q = absurd p
  code_one (stmt.Monitor a) (code.Monitor b) (code.Monitor c) p q = ap code.Monitor (arg_one a b c p q)
  code_one (stmt.Monitor a) (code.Monitor b) _ p q = absurd q
  code_one (stmt.Monitor a) _ d p q = absurd p
  code_one stmt.Skip code.Skip code.Skip p q = refl
  code_one stmt.Skip code.Skip _ p q = absurd q
  code_one stmt.Skip _ d p q = absurd p
  code_one _ c d p q = absurd p

  -- the handler of a trap is one
  pub catch_one : (trap : Trap) (c d : Catch) → IsCatch s trap c → IsCatch s trap d → c ≡ d
  catch_one trap c d p q =
      let class = one.classes (text_of s.names trap.class) c.class d.class p.class q.class in
      let from = jump_one trap.from c.from d.from p.from q.from in
      let to = jump_one trap.to c.to d.to p.to q.to in
      let handler = jump_one trap.with c.handler d.handler p.handler q.handler in
      λ j. record { class = class j; from = from j; to = to j; handler = handler j }
