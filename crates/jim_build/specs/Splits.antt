-- How the builder tells what is next, and where it splits declarations and members. No clause of a public function speaks of these, and no meaning stands on
-- them.
use Rattle.std.specs.Prelude.{Bool, true, false, ◌||◌, ◌&&◌, List, [], ◌∷◌, is_none}
use Rattle.jim_ast.specs.declared.syntax.FieldDecl.{FieldDecl}
use Rattle.jim_ast.specs.declared.syntax.MethodDecl.{MethodDecl}
use Rattle.jim_text.specs.declared.lead.Lead.{Lead}
use Rattle.jim_text.specs.declared.lead.Lead.TheVariants as lead
use Rattle.jim_signs.specs.declared.seen.Sign.{Sign}
use Rattle.jim_grammar.specs.declared.set.LeadSet.TheVariants.{Modifiers}
use Rattle.jim_grammar.specs.Sets.{is_base, is_odd_type}
use Rattle.jim_grammar.specs.Forms.{TypeDecl, OddDecl}
use Rattle.jim_grammar.specs.Expressions.{Re, Tok, Star, One, Opt, Tree, Chosen}
use Rattle.jim_grammar.specs.Grammar.{seq, name, names, decl, types, outcome, throws, ending}
use Rattle.jim_stmts.specs.Leads.{lead_at, second_at, third_at}
use Rattle.jim_stmts.specs.Meanings.{id, outcome_of, maybe_types_of}
use Rattle.jim_build.specs.declared.modifiers.Flags.{Flags}
use Rattle.jim_build.specs.declared.members.Head.{Head}
use Rattle.jim_build.specs.Members.{has, is_static, is_native, is_abstract, ending_of}

-- whether a name with these two tokens behind it is the type of a declaration, and not what a line begins with
abbrev pub is_type_before : Lead → Lead → Bool
is_type_before lead.Name _ = true
is_type_before lead.OpenBracket lead.CloseBracket = true
is_type_before _ _ = false

-- whether a declaration begins with these three tokens
abbrev pub is_decl : Lead → Lead → Lead → Bool
is_decl lead.Name l m = is_type_before l m
is_decl k _ _ = is_base k || is_odd_type k

-- a declaration is next, where one, a line, a trap or the end of a body is
abbrev pub begins_decl : List Sign → Bool
begins_decl w = is_decl (lead_at w) (second_at w) (third_at w)

-- what stands behind the type of a declaration
abbrev pub declared : Re
declared = seq (names ∷ Tok lead.Semicolon ∷ [])

abbrev pub declared_by : Tree decl → Tree declared
declared_by (TypeDecl, (_, x)) = x
declared_by (OddDecl, (_, x)) = x

-- whether a line begins with this token: only a trap, the end of the body or the end of the tokens is next otherwise
abbrev pub begins_line : Lead → Bool
begins_line lead.Catch = false
begins_line lead.CloseBrace = false
begins_line lead.Other = false
begins_line _ = true

-- whether a member begins with this token: only the end of the class or the end of the tokens is next otherwise
abbrev pub begins_member : Lead → Bool
begins_member lead.CloseBrace = false
begins_member lead.Other = false
begins_member _ = true

-- the modifiers that count
abbrev pub flags_of : List (Chosen Modifiers) → Flags
flags_of mods = record { is_static = has is_static mods; is_native = has is_native mods; is_abstract = has is_abstract mods }

-- what a field and a method begin with
abbrev pub head : Re
head = seq (Star (One Modifiers) ∷ outcome ∷ name ∷ [])

abbrev pub head_of : Tree head → Head
head_of (mods, (t, (m, _))) = record { flags = flags_of mods; result = outcome_of t; name = id m }

-- what stands behind the head of a method
abbrev pub method_tail : Re
method_tail = seq (Tok lead.OpenParen ∷ Opt types ∷ Tok lead.CloseParen ∷ Opt throws ∷ ending ∷ [])

-- the field with this head
abbrev pub field_by : Head → FieldDecl
field_by h = record { name = h.name; ty = h.result; is_static = h.flags.is_static }

-- the method with this head
abbrev pub method_by : Head → Tree method_tail → MethodDecl
method_by h (_, (params, (_, (_, (end, _))))) = record {
  name = h.name;
  result = h.result;
  params = maybe_types_of params;
  is_static = h.flags.is_static;
  is_native = h.flags.is_native && is_none (ending_of end);
  body = ending_of end;
}
