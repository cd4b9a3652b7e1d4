-- The methods of the linked program, one after another.
use Rattle.std.proofs.Common.{◌≡◌, ℕ, ◌++◌, Option, None, List, [], ◌∷◌, map, refl, sym, ap, subst, ◌∙◌, Result, Ok, Err}
use Rattle.std.specs.Prelude.{codes, flat_map}
use Rattle.std.specs.List.{filter_map}
use Rattle.std.specs.Result.{OnOk}
use Rattle.std.proofs.lemmas.List.{append-nil}
use Rattle.std.proofs.lemmas.List.Concat.{flat_map-append}
use Rattle.std.proofs.lemmas.Option.{same_Some}
use Rattle.jim_ast.specs.declared.syntax.Body.{Body}
use Rattle.jim_ast.specs.declared.syntax.Imm.{Imm}
use Rattle.jim_ast.specs.declared.syntax.Imm.TheVariants as imm
use Rattle.jim_ast.specs.declared.syntax.Stmt.{Stmt}
use Rattle.jim_ast.specs.declared.syntax.Stmt.TheVariants as stmt
use Rattle.lists.proofs.SideBySide.{Each-nil, Each-push}
use Rattle.link_codes.proofs.Used.{extends_then}
use Rattle.link_codes.specs.Constants.{Extends}
use Rattle.link_codes.specs.Contexts.{context_in}
use Rattle.link_codes.specs.Made.{MakesCatches, MakesCodes}
use Rattle.link_codes.specs.Methods.{IsMethodCode, UsesMethod}
use Rattle.link_codes.specs.declared.constants.Constants.{Constants}
use Rattle.link_codes.specs.declared.method.MethodCode.{MethodCode}
use Rattle.link_program.specs.Methods.{AreMethods, methods_in}
use Rattle.link_rules.specs.Classes.{DeclaredMethod, method_text}
use Rattle.link_rules.specs.Linked.{LinkedMethod, class_text_in, text_in, used_by}
use Rattle.lists.specs.Lists.{none}
use Rattle.lists.specs.Lists.{Each, FirstSeen}
use Rattle.link_rules.specs.Names.{text_of}
use Rattle.link_rules.specs.Root.{initializer_call, main_call, root_of, root_stmts}
use Rattle.link_rules.specs.Statements.{operands}
use Rattle.link_rules.specs.World.{World}
use Rattle.jim_link.specs.Made.{AddsMethod, AreAllMade, AreMade, AreUsed, IsMadeRow, IsMethodOf, PutsMethod}
use Rattle.jim_link.specs.declared.made.Made.{Made}

-- what is made stays, while each constant keeps its number
kept_row : (w : World) (rows : List ℕ) (old new : Constants) (row : ℕ) (l : LinkedMethod) → Extends old new → IsMadeRow w rows old row l → IsMadeRow w rows new row l
kept_row w rows old new row l more is = record {
  method = is.method;
  there = is.there;
  made = record {
    body = is.made.body;
    in_body = is.made.in_body;
    named = is.made.named;
    has_this = is.made.has_this;
    params = is.made.params;
    locals = is.made.locals;
    code = λ later e. is.made.code later (extends_then old new later more e);
    catches = is.made.catches;
    elements = is.made.elements;
  };
}

-- so do the methods of several rows
kept_rows : (w : World) (rows done : List ℕ) (old new : Constants) (ls : List LinkedMethod) → Extends old new → Each (IsMadeRow w rows old) done ls → Each (IsMadeRow w rows new) done ls
kept_rows w rows done old new ls more is = record { as_many = is.as_many; each = λ i row l p q. kept_row w rows old new row l more (is.each i row l p q) }

-- one list more at the end
flat_map-push : {X Y : Type 0} (f : X → List Y) (xs : List X) (x : X) → flat_map f (xs ++ x ∷ []) ≡ flat_map f xs ++ f x
flat_map-push f xs x = flat_map-append f xs (x ∷ []) ∙ ap (λ zs. flat_map f xs ++ zs) (append-nil (f x))

-- the constants that one method more uses
used_more : (w : World) (done : List ℕ) (row : ℕ) (m : DeclaredMethod) (old new : Constants) → IsMethodOf w row m
    → ((uses : List (List ℕ)) → FirstSeen uses old.texts → FirstSeen (uses ++ used_by text_in m) new.texts)
    → ((uses : List (List ℕ)) → FirstSeen uses old.class_texts → FirstSeen (uses ++ used_by class_text_in m) new.class_texts)
    → AreUsed w done old → AreUsed w (done ++ row ∷ []) new
used_more w done row m old new is texts class_texts used = record {
  users = used.users ++ m ∷ [];
  each = Each-push (IsMethodOf w) done used.users row m used.each is;
  texts = subst (λ uses. FirstSeen uses new.texts) (sym (flat_map-push (used_by text_in) used.users m)) (texts _ used.texts);
  class_texts = subst (λ uses. FirstSeen uses new.class_texts) (sym (flat_map-push (used_by class_text_in) used.users m)) (class_texts _ used.class_texts);
}

-- the method of one row more
pub made_more : (w : World) (rows done : List ℕ) (row : ℕ) (m : DeclaredMethod) (old new : Made) → IsMethodOf w row m → AddsMethod w rows (method_text m) m old new
    → AreMade w rows done old → AreMade w rows (done ++ row ∷ []) new
made_more w rows done row m old new is adds made = record {
  methods = adds.methods;
  each = subst (Each (IsMadeRow w rows new.constants) (done ++ row ∷ [])) (sym adds.put)
      (Each-push (IsMadeRow w rows new.constants) done (methods_in old.methods) row adds.linked (kept_rows w rows done old.constants new.constants _ adds.uses.kept made.each)
      (record { method = m; there = is; made = adds.made }));
  used = used_more w done row m old.constants new.constants is adds.uses.texts adds.uses.class_texts made.used;
}

-- the root uses no constant
module _ (kind : Imm → Option (List ℕ)) (no_local : (name : _) → kind (imm.Local name) ≡ None) where
  -- what a statement uses
  abbrev uses_of : Stmt → List (List ℕ)
  uses_of s = filter_map kind (operands s)

  -- a local is no constant
  local_unused : (name : _) → filter_map kind (imm.Local name ∷ []) ≡ []
  local_unused name = rw (no_local name) refl

  -- initializers' calls and the last two statements use none
  calls_unused : (initialized : List ℕ) → flat_map uses_of (map initializer_call initialized ++ main_call ∷ stmt.Return None ∷ []) ≡ []
  calls_unused [] = rw (local_unused _) refl
  calls_unused (c ∷ cs) = calls_unused cs

  -- nor do the statements as a whole
  stmts_unused : (initialized : List ℕ) → flat_map uses_of (root_stmts initialized) ≡ []
  stmts_unused initialized = rw (local_unused _) (calls_unused initialized)

-- so the root uses no text
root_texts : (w : World) (initialized : List ℕ) → used_by text_in (root_of w initialized) ≡ []
root_texts w initialized = rw (stmts_unused (text_in (root_of w initialized).names) (λ name. refl) initialized) refl

-- and no class constant
root_class_texts : (w : World) (initialized : List ℕ) → used_by class_text_in (root_of w initialized) ≡ []
root_class_texts w initialized = rw (stmts_unused (class_text_in (root_of w initialized).names) (λ name. refl) initialized) refl

-- a list with none behind it
append_none : {X : Type 0} (xs ys : List X) → ys ≡ [] → xs ++ ys ≡ xs
append_none xs ys e = ap (λ zs. xs ++ zs) e ∙ append-nil xs

-- the root comes last
pub made_whole : (w : World) (rows initialized : List ℕ) (old new : Made) → AddsMethod w rows (codes "root") (root_of w initialized) old new
    → AreMade w rows rows old → AreAllMade w rows initialized new
made_whole w rows initialized old new adds made = record {
  methods = adds.methods;
  before = methods_in old.methods;
  each = kept_rows w rows rows old.constants new.constants _ adds.uses.kept made.each;
  root = adds.linked;
  is_root = adds.made;
  all = adds.put;
  used = record {
    users = made.used.users;
    each = made.used.each;
    texts = subst (λ uses. FirstSeen uses new.constants.texts) (append_none _ (used_by text_in (root_of w initialized)) (root_texts w initialized)) (adds.uses.texts _ made.used.texts);
    class_texts = subst (λ uses. FirstSeen uses new.constants.class_texts) (append_none _ (used_by class_text_in (root_of w initialized)) (root_class_texts w initialized))
        (adds.uses.class_texts _ made.used.class_texts);
  };
}

-- nothing is made
pub made_none : (w : World) (rows : List ℕ) (made : Made) → AreMethods made.methods → methods_in made.methods ≡ [] → made.constants.texts ≡ [] → made.constants.class_texts ≡ []
    → AreMade w rows [] made
made_none w rows made are empty no_texts no_class_texts = record {
  methods = are;
  each = subst (Each (IsMadeRow w rows made.constants) []) (sym empty) (Each-nil (IsMadeRow w rows made.constants));
  used = record {
    users = [];
    each = Each-nil (IsMethodOf w);
    texts = subst (FirstSeen []) (sym no_texts) none_seen;
    class_texts = subst (FirstSeen []) (sym no_class_texts) none_seen;
  };
}
  where
    none_seen : {X : Type 0} → FirstSeen {X = X} [] []
    none_seen = none

-- a method that is made and put last
pub adds_made : (w : World) (rows text : List ℕ) (m : DeclaredMethod) (c : MethodCode) (old new : Made) → IsMethodCode w rows m new.constants c → UsesMethod m old.constants new.constants
    → AreMethods new.methods → PutsMethod m text c old.methods new.methods → AddsMethod w rows text m old new
adds_made w rows text m c old new is uses are puts = record {
  methods = are;
  linked = puts.linked;
  made = record {
    body = is.body;
    in_body = is.in_body;
    named = puts.made.named;
    has_this = puts.made.has_this;
    params = puts.made.params;
    locals = puts.made.locals ∙ ap (λ (b : Body). map (text_of m.names) b.locals) (same_Some puts.made.body is.body (sym puts.made.in_body ∙ is.in_body));
    code = subst (MakesCodes (context_in w rows m is.body) new.constants is.body.stmts) (sym puts.made.code) is.code;
    catches = subst (MakesCatches (context_in w rows m is.body) is.body.traps) (sym puts.made.catches) is.catches;
    elements = puts.made.elements ∙ is.elements;
  };
  put = puts.put;
  uses = uses;
}

-- what two clauses give together
pub both_ok : {T E P Q S : Type 0} (r : Result T E) → (P → Q → S) → OnOk r P → OnOk r Q → OnOk r S
both_ok (Ok x) f p q = f p q
both_ok (Err e) f p q = tt
