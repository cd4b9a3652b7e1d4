-- A method that no rule refuses, as a whole.
use Rattle.std.proofs.Common.{◌≡◌, ℕ, ◌++◌, List, [], ◌∷◌, Option, Some, All, get_or, slice_get, flat_map, refl, sym, ap, subst, ◌∙◌}
use Rattle.std.specs.List.{filter_map}
use Rattle.std.specs.Option.{option_to_list}
use Rattle.std.proofs.lemmas.List.{append-nil}
use Rattle.std.proofs.lemmas.List.Elements.{filter_map-append}
use Rattle.std.proofs.lemmas.Option.{slice_get-get_or}
use Rattle.lists.specs.Lists.{Has, FirstSeen}
use Rattle.lists.proofs.Joined.{Has-left, Has-right}
use Rattle.jim_ast.specs.declared.syntax.Body.{Body}
use Rattle.jim_ast.specs.declared.syntax.Imm.{Imm}
use Rattle.jim_ast.specs.declared.syntax.MethodDecl.{MethodDecl}
use Rattle.jim_ast.specs.declared.syntax.Stmt.{Stmt}
use Rattle.jim_ast.specs.declared.syntax.Trap.{Trap}
use Rattle.link_classes.specs.declared.seen.MethodIn.{MethodIn}
use Rattle.link_classes.specs.Classes.{ClassTable, IsKnown, texts_at}
use Rattle.link_classes.specs.Seen.{seen_method}
use Rattle.link_rules.specs.declared.code.Catch.{Catch}
use Rattle.link_rules.specs.declared.code.Code.{Code}
use Rattle.link_rules.specs.declared.refusal.LinkKind.{LinkKind}
use Rattle.link_rules.specs.Classes.{DeclaredMethod}
use Rattle.link_rules.specs.Conditions.{AreWithin, body_names, label_names, method_names, stmt_names, trap_names, type_names}
use Rattle.link_rules.specs.Linked.{class_text_in, elements_of, text_in, used_by}
use Rattle.link_rules.specs.Reach.{IsTarget, RefusesAt}
use Rattle.link_rules.specs.Statements.{HasBody, operands}
use Rattle.link_codes.specs.declared.constants.Constants.{Constants}
use Rattle.link_codes.specs.Contexts.{Context, context_in}
use Rattle.link_codes.specs.Constants.{Uses}
use Rattle.link_codes.specs.Made.{MakesCatches, MakesCodes}
use Rattle.link_codes.specs.Methods.{UsesMethod}
use Rattle.link_codes.specs.Needs.{HasParts, HasTrap}
use Rattle.link_codes.proofs.Accepted.{parts_there, trap_there}
use Rattle.link_codes.proofs.Contained.{Has-flat_map, within_part}

-- the names of a body are among those of its method
module _ (names : List (List ℕ)) (decl : MethodDecl) (body : Body) (is : decl.body ≡ Some body) (within : AreWithin names (method_names decl)) where
  -- all of them
  body_within : AreWithin names (body_names body)
  body_within = within_part names (method_names decl) (body_names body) within (λ x h.
      Has-right (decl.name ∷ type_names decl.result ++ flat_map type_names decl.params) (flat_map body_names (option_to_list decl.body)) x
      (subst (λ b. Has (flat_map body_names (option_to_list b)) x) (sym is) (Has-left (body_names body) [] x h)))

  -- those of a statement
  pub stmt_within : (i : ℕ) (s : Stmt) → slice_get body.stmts i ≡ Some s → AreWithin names (stmt_names s)
  stmt_within i s there = within_part names (body_names body) (stmt_names s) body_within (λ x h.
      Has-left (body.locals ++ flat_map stmt_names body.stmts ++ flat_map label_names body.labels) (flat_map trap_names body.traps) x
      (Has-left (body.locals ++ flat_map stmt_names body.stmts) (flat_map label_names body.labels) x
      (Has-right body.locals (flat_map stmt_names body.stmts) x (Has-flat_map stmt_names body.stmts i s x there h))))

  -- those of a trap
  pub trap_within : (k : ℕ) (trap : Trap) → slice_get body.traps k ≡ Some trap → AreWithin names (trap_names trap)
  trap_within k trap there = within_part names (body_names body) (trap_names trap) body_within (λ x h.
      Has-right (body.locals ++ flat_map stmt_names body.stmts ++ flat_map label_names body.labels) (flat_map trap_names body.traps) x
      (Has-flat_map trap_names body.traps k trap x there h))

-- what is given of all that is made
filter_map-flat_map : {X Y Z : Type 0} (f : Y → Option Z) (g : X → List Y) (xs : List X) → filter_map f (flat_map g xs) ≡ flat_map (λ x. filter_map f (g x)) xs
filter_map-flat_map f g [] = refl
filter_map-flat_map f g (x ∷ xs) = filter_map-append f (g x) (flat_map g xs) ∙ ap (λ l. filter_map f (g x) ++ l) (filter_map-flat_map f g xs)

-- the constants of a method's operands are those that it uses
used_same : (kind : List (List ℕ) → Imm → Option (List ℕ)) (m : DeclaredMethod) (body : Body) → HasBody m body → filter_map (kind m.names) (flat_map operands body.stmts) ≡ used_by kind m
used_same kind m body is =
    filter_map-flat_map (kind m.names) operands body.stmts ∙ sym (append-nil (flat_map (λ s. filter_map (kind m.names) (operands s)) body.stmts))
    ∙ ap (λ b. flat_map (λ (b : Body). flat_map (λ s. filter_map (kind m.names) (operands s)) b.stmts) (option_to_list b)) (sym is)

-- so the method uses them
uses_method : (m : DeclaredMethod) (body : Body) (old new : Constants) → HasBody m body → Uses m.names (flat_map operands body.stmts) old new → UsesMethod m old new
uses_method m body old new is uses = record {
  kept = uses.kept;
  texts = λ us h. subst (λ l. FirstSeen (us ++ l) new.texts) (used_same text_in m body is) (uses.texts us h);
  class_texts = λ us h. subst (λ l. FirstSeen (us ++ l) new.class_texts) (used_same class_text_in m body is) (uses.class_texts us h);
}

module _ (t : ClassTable) (method_rows : List ℕ) (method : MethodIn) (body : Body) (is : method.decl.now.body ≡ Some body) (known : IsKnown t.texts method) where
  -- what is kept for the method is what its code is made over
  abbrev kept_context : ClassTable → Body → Context
  kept_context u kept = record { world = u.world; method_rows = method_rows; names = texts_at u.texts method.ids.now; body = kept }

  -- what the code of the method is made over
  abbrev context : Context
  context = context_in t.world method_rows (seen_method method) body

  -- both are one
  pub context_same : (u : ClassTable) (kept : Body) → u ≡ t → kept ≡ body → kept_context u kept ≡ context
  context_same u kept same_table same_body =
      ap (λ v. kept_context v kept) same_table ∙ ap (kept_context t) same_body
      ∙ ap (λ ts. record { world = t.world; method_rows = method_rows; names = texts_at ts method.ids.now; body = body }) (sym known.all)

  -- what is made over what is kept is made over the method
  module _ (u : ClassTable) (kept : Body) (same_table : u ≡ t) (same_body : kept ≡ body) where
    -- the code of its statements
    pub codes_same : (stmts : List Stmt) (now : Constants) (codes : List Code) → stmts ≡ body.stmts → MakesCodes (kept_context u kept) now stmts codes → MakesCodes context now body.stmts codes
    codes_same stmts now codes same_stmts made =
        subst (λ ss. MakesCodes context now ss codes) same_stmts (subst (λ b. MakesCodes b now stmts codes) (context_same u kept same_table same_body) made)

    -- its handlers
    pub catches_same : (traps : List Trap) (catches : List Catch) → traps ≡ body.traps → MakesCatches (kept_context u kept) traps catches → MakesCatches context body.traps catches
    catches_same traps catches same_traps made =
        subst (λ ts. MakesCatches context ts catches) same_traps (subst (λ b. MakesCatches b traps catches) (context_same u kept same_table same_body) made)

    -- the arrays that it makes
    pub elements_same : (stmts : List Stmt) → stmts ≡ body.stmts → elements_of (kept_context u kept).names stmts ≡ elements_of (seen_method method).names body.stmts
    elements_same stmts same_stmts =
        ap (elements_of (kept_context u kept).names) same_stmts ∙ ap (λ (b : Context). elements_of b.names body.stmts) (context_same u kept same_table same_body)

    -- the constants that it uses
    pub uses_same : (stmts : List Stmt) (old new : Constants) → stmts ≡ body.stmts → Uses (kept_context u kept).names (flat_map operands stmts) old new → UsesMethod (seen_method method) old new
    uses_same stmts old new same_stmts uses =
        uses_method (seen_method method) body old new is
        (subst (λ ss. Uses (seen_method method).names (flat_map operands ss) old new) same_stmts
        (subst (λ (b : Context). Uses b.names (flat_map operands stmts) old new) (context_same u kept same_table same_body) uses))

  -- the method's names are among those that are kept for it
  names_within : AreWithin (seen_method method).names (method_names method.decl.now)
  names_within = subst (λ ts. AreWithin (texts_at ts method.ids.now) (method_names method.decl.now)) (sym known.all) known.within

  module _ (accepted : (index : ℕ) (kind : LinkKind) → RefusesAt t.world (seen_method method) index kind → ⊥)
      (numbered : (index row : ℕ) → IsTarget t.world (seen_method method) index row → Has method_rows row) where
    -- all parts of its statements are there
    pub all_parts : (u : ClassTable) (kept : Body) (stmts : List Stmt) → u ≡ t → kept ≡ body → stmts ≡ body.stmts → All (HasParts (kept_context u kept)) stmts
    all_parts u kept stmts same_table same_body same_stmts =
        subst (λ b. All (HasParts b) stmts) (sym (context_same u kept same_table same_body)) (subst (All (HasParts context)) (sym same_stmts) parts)
      where
        parts : All (HasParts context) body.stmts
        parts k d below =
            let there = slice_get-get_or body.stmts k d below in
            parts_there t.world method_rows (seen_method method) body is accepted numbered k (get_or body.stmts k d) there
            (stmt_within (seen_method method).names method.decl.now body is names_within k (get_or body.stmts k d) there)

    -- and all parts of its traps
    pub all_traps : (u : ClassTable) (kept : Body) (traps : List Trap) → u ≡ t → kept ≡ body → traps ≡ body.traps → All (HasTrap (kept_context u kept)) traps
    all_traps u kept traps same_table same_body same_traps =
        subst (λ b. All (HasTrap b) traps) (sym (context_same u kept same_table same_body)) (subst (All (HasTrap context)) (sym same_traps) parts)
      where
        parts : All (HasTrap context) body.traps
        parts k d below =
            let there = slice_get-get_or body.traps k d below in
            trap_there t.world method_rows (seen_method method) body is accepted numbered k (get_or body.traps k d) there
            (trap_within (seen_method method).names method.decl.now body is names_within k (get_or body.traps k d) there)
