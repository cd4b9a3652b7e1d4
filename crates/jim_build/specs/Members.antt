-- What modifiers, fields and methods mean.
use Rattle.std.specs.Prelude.{Bool, true, false, ◌||◌, ◌&&◌, List, [], ◌∷◌, Option, Some, None, is_none}
use Rattle.jim_ast.specs.declared.syntax.Body.{Body}
use Rattle.jim_ast.specs.declared.syntax.FieldDecl.{FieldDecl}
use Rattle.jim_ast.specs.declared.syntax.MethodDecl.{MethodDecl}
use Rattle.jim_text.specs.declared.lead.Lead.{Lead}
use Rattle.jim_text.specs.declared.lead.Lead.TheVariants as lead
use Rattle.jim_grammar.specs.declared.set.LeadSet.TheVariants.{Modifiers}
use Rattle.jim_grammar.specs.Forms.{FieldMember, MethodMember, NoBody, WithBody}
use Rattle.jim_grammar.specs.Expressions.{Tree, Chosen}
use Rattle.jim_grammar.specs.Grammar.{ending, member, by_member}
use Rattle.jim_stmts.specs.Meanings.{id, ty_of, outcome_of, maybe_types_of}
use Rattle.jim_build.specs.Bodies.{body_of}

-- the modifiers that count

-- the modifier `static`
abbrev pub is_static : Lead → Bool
is_static lead.Static = true
is_static _ = false

-- the modifier `native`
abbrev pub is_native : Lead → Bool
is_native lead.Native = true
is_native _ = false

-- the modifier `abstract`
abbrev pub is_abstract : Lead → Bool
is_abstract lead.Abstract = true
is_abstract _ = false

-- whether one of the modifiers passes a test
abbrev pub has : (Lead → Bool) → List (Chosen Modifiers) → Bool
has test [] = false
has test (m ∷ more) = test m.lead || has test more

-- a field
abbrev pub field_of : Tree (by_member FieldMember) → FieldDecl
field_of (mods, (t, (f, _))) = record { name = id f; ty = ty_of t; is_static = has is_static mods }

-- the body that a method has
abbrev pub ending_of : Tree ending → Option Body
ending_of (NoBody, _) = None
ending_of (WithBody, (b, _)) = Some (body_of b)

-- a method; one with a body is never native
abbrev pub method_of : Tree (by_member MethodMember) → MethodDecl
method_of (mods, (t, (m, (_, (params, (_, (_, (end, _)))))))) = record {
  name = id m;
  result = outcome_of t;
  params = maybe_types_of params;
  is_static = has is_static mods;
  is_native = has is_native mods && is_none (ending_of end);
  body = ending_of end;
}

-- the fields among the members, in order
abbrev pub fields_of : List (Tree member) → List FieldDecl
fields_of [] = []
fields_of ((FieldMember, f) ∷ more) = field_of f ∷ fields_of more
fields_of ((MethodMember, _) ∷ more) = fields_of more

-- the methods among the members, in order
abbrev pub methods_of : List (Tree member) → List MethodDecl
methods_of [] = []
methods_of ((FieldMember, _) ∷ more) = methods_of more
methods_of ((MethodMember, m) ∷ more) = method_of m ∷ methods_of more
