-- The names of a method are among all names.
use Rattle.std.proofs.Common.{◌≡◌, ℕ, ◌<◌, ◌++◌, List, [], ◌∷◌, All, length, get_or, flat_map, sym, subst}
use Rattle.std.specs.Option.{option_to_list}
use Rattle.std.proofs.lemmas.Option.{slice_get-get_or}
use Rattle.jim_ast.specs.declared.names.NameId.{NameId}
use Rattle.jim_ast.specs.declared.syntax.Body.{Body}
use Rattle.jim_ast.specs.declared.syntax.Ty.{Ty}
use Rattle.link_classes.proofs.Parts.{method_name, method_params, method_result, within_numbers}
use Rattle.link_classes.proofs.Within.{All-left, All-right, part_within}
use Rattle.link_classes.specs.Classes.{IsKnown, texts_at}
use Rattle.link_classes.specs.Seen.{seen_method}
use Rattle.link_classes.specs.declared.seen.MethodIn.{MethodIn}
use Rattle.link_rules.specs.Conditions.{AreWithin, body_names, label_names, method_names, stmt_names, trap_names, type_names}
use Rattle.link_rules.specs.Statements.{HasBody}

module _ (texts : List (List ℕ)) (m : MethodIn) (known : IsKnown texts m) where
  -- its names have numbers
  numbered : All (λ (id : NameId). id.0 < length m.ids.now) (method_names m.decl.now)
  numbered = within_numbers texts m.ids.now (method_names m.decl.now) known.within

  -- its own name has one
  pub name_below : m.decl.now.name.0 < length m.ids.now
  name_below = method_name (λ (id : NameId). id.0 < length m.ids.now) m.decl.now numbered

  -- the names of its result are among all names
  pub result_within : AreWithin (texts_at texts m.ids.now) (type_names m.decl.now.result)
  result_within = method_result (λ (id : NameId). id.0 < length (texts_at texts m.ids.now)) m.decl.now known.within

  -- and those of its parameters
  pub params_within : AreWithin (texts_at texts m.ids.now) (flat_map type_names m.decl.now.params)
  params_within = method_params (λ (id : NameId). id.0 < length (texts_at texts m.ids.now)) m.decl.now known.within

-- a local of the body has a number
pub local_within : (texts : List (List ℕ)) (m : MethodIn) (body : Body) (locals : List NameId) (i : ℕ) (d : NameId) → IsKnown texts m → HasBody (seen_method m) body → locals ≡ body.locals
    → i < length locals → (get_or locals i d).0 < length m.ids.now
local_within texts m body locals i d known is same below =
    let P = λ (id : NameId). id.0 < length m.ids.now in
    let decl = m.decl.now in
    let bodies : All P (flat_map body_names (option_to_list decl.body)) =
    All-right P (decl.name ∷ type_names decl.result ++ flat_map type_names decl.params) (flat_map body_names (option_to_list decl.body)) (numbered texts m known) in
    let one : All P (body_names body ++ []) = subst (λ b. All P (flat_map body_names (option_to_list b))) is bodies in
    let labels = flat_map label_names body.labels in
    let traps = flat_map trap_names body.traps in
    let stmts = flat_map stmt_names body.stmts in
    let of_locals : All P body.locals =
    All-left P body.locals stmts (All-left P (body.locals ++ stmts) labels (All-left P (body.locals ++ stmts ++ labels) traps (All-left P (body_names body) [] one))) in
    subst (λ (xs : List NameId). All P xs) (sym same) of_locals i d below

-- a type among some
pub type_within : (names : List (List ℕ)) (types : List Ty) (i : ℕ) (d : Ty) → i < length types → AreWithin names (flat_map type_names types) → AreWithin names (type_names (get_or types i d))
type_within names types i d below within = part_within type_names names types i (get_or types i d) within (slice_get-get_or types i d below)
