-- The arrays that statements make, one statement more.
use Rattle.std.proofs.Common.{◌≡◌, ℕ, ◌+◌, ◌<◌, ◌++◌, List, [], ◌∷◌, length, take, get_or, sym, ap, subst, ◌∙◌}
use Rattle.std.proofs.lemmas.List.{append-nil, map-append}
use Rattle.jim_ast.specs.declared.syntax.Expr.{Expr}
use Rattle.jim_ast.specs.declared.syntax.Expr.TheVariants as expr
use Rattle.jim_ast.specs.declared.syntax.Stmt.{Stmt}
use Rattle.jim_ast.specs.declared.syntax.Stmt.TheVariants.{Assign}
use Rattle.jim_ast.specs.declared.syntax.Ty.{Ty}
use Rattle.link_rules.specs.Conditions.{AreWithin, type_names}
use Rattle.link_rules.specs.Linked.{element_at, elements_of}
use Rattle.link_rules.specs.Names.{type_text}
use Rattle.link_program.specs.declared.elements.ElementText.{ElementText}
use Rattle.link_codes.specs.Contexts.{Context}
use Rattle.link_codes.specs.Elements.{NamesType}
use Rattle.link_program.specs.Elements.{element_of, elements_in}
use Rattle.link_codes.specs.Needs.{HasExpr, HasParts}
use Rattle.link_codes.proofs.Texts.{numbered_more}

-- the element of a statement that names a type
names_element : (names : List (List ℕ)) (n : ℕ) (s : Stmt) (ty : Ty) → NamesType s ty
    → element_at names n s ≡ record { index = n; text = type_text names ty } ∷ []
names_element names n (Assign x e) ty h = of_expr e h
  where
    of_expr : (e : Expr) → NamesType (Assign x e) ty → element_at names n (Assign x e) ≡ record { index = n; text = type_text names ty } ∷ []
    of_expr (expr.NewArray named) h = ap (λ t. record { index = n; text = type_text names t } ∷ []) (sym h)
    of_expr (expr.NewMulti named sized) h = ap (λ t. record { index = n; text = type_text names t } ∷ []) (sym h)
    of_expr _ h = absurd h
names_element names n _ ty h = absurd h

-- the names of the type are names
pub names_within : (c : Context) (s : Stmt) (ty : Ty) → NamesType s ty → HasParts c s → AreWithin c.names (type_names ty)
names_within c (Assign x e) ty h parts = of_expr e h parts.1
  where
    of_expr : (e : Expr) → NamesType (Assign x e) ty → HasExpr c e → AreWithin c.names (type_names ty)
    of_expr (expr.NewArray named) h within = subst (λ t. AreWithin c.names (type_names t)) (sym h) within
    of_expr (expr.NewMulti named sized) h within = subst (λ t. AreWithin c.names (type_names t)) (sym h) within
    of_expr _ h within = absurd h
names_within c _ ty h parts = absurd h

module _ (names : List (List ℕ)) (stmts : List Stmt) (at : ℕ) (s : Stmt) (below : at < length stmts) (is : s ≡ get_or stmts at s)
    (before : List ElementText) (so_far : elements_in before ≡ elements_of names (take at stmts)) where
  -- the next statement makes an array
  pub element_more : (now : List ElementText) (e : ElementText) (ty : Ty) → now ≡ before ++ e ∷ [] → NamesType s ty → e.index ≡ at
      → e.text ≡ type_text names ty → elements_in now ≡ elements_of names (take (at + 1) stmts)
  element_more now e ty pushed makes index text =
      let same : element_of e ≡ record { index = at; text = type_text names ty } = (λ i. record { index = index i; text = text i }) in
      ap elements_in pushed ∙ map-append element_of before (e ∷ []) ∙ ap (λ l. l ++ element_of e ∷ []) so_far
      ∙ ap (λ f. elements_of names (take at stmts) ++ f ∷ []) same ∙ ap (λ f. elements_of names (take at stmts) ++ f) (sym (names_element names at s ty makes))
      ∙ sym (numbered_more (λ t. element_at names t.0 t.1) stmts at s below is)

  -- it makes none
  pub element_none : element_at names at s ≡ [] → elements_in before ≡ elements_of names (take (at + 1) stmts)
  element_none none =
      so_far ∙ sym (append-nil (elements_of names (take at stmts))) ∙ ap (λ l. elements_of names (take at stmts) ++ l) (sym none)
      ∙ sym (numbered_more (λ t. element_at names t.0 t.1) stmts at s below is)
