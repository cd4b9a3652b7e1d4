-- What classes and the program mean.
use Rattle.std.specs.Prelude.{◌≡◌, Bool, true, false, List, [], map, Option, Some, None}
use Rattle.jim_ast.specs.declared.names.NameId.{NameId}
use Rattle.jim_ast.specs.declared.syntax.Class.{Class}
use Rattle.jim_text.specs.declared.lead.Lead.{Lead}
use Rattle.jim_text.specs.declared.lead.Lead.TheVariants as lead
use Rattle.jim_grammar.specs.Expressions.{Opt, Tree, spell}
use Rattle.jim_grammar.specs.Grammar.{extends, implements, class, program}
use Rattle.jim_stmts.specs.Meanings.{id, names_of}
use Rattle.jim_build.specs.Members.{has, is_abstract, fields_of, methods_of}

-- the word by which a class is an interface
abbrev pub is_interface : Lead → Bool
is_interface lead.Interface = true
is_interface _ = false

-- the parent that is named, if one is
abbrev pub parent_of : Tree (Opt extends) → Option NameId
parent_of None = None
parent_of (Some (_, (c, _))) = Some (id c)

-- the interfaces that are named, in order
abbrev pub interfaces_of : Tree (Opt implements) → List NameId
interfaces_of None = []
interfaces_of (Some (_, (ns, _))) = names_of ns

-- the class that a tree means
abbrev pub class_of : Tree class → Class
class_of (mods, (word, (c, (parent, (interfaces, (_, (members, _))))))) = record {
  name = id c;
  interface = is_interface word.lead;
  is_abstract = has is_abstract mods;
  parent = parent_of parent;
  interfaces = interfaces_of interfaces;
  fields = fields_of members;
  methods = methods_of members;
}

-- the classes of a program, in written order
abbrev pub classes_of : Tree program → List Class
classes_of trees = map class_of trees

-- tokens have one tree at most
abbrev pub IsUnambiguous : Type 0
IsUnambiguous = (one other : Tree program) → spell program one [] ≡ spell program other [] → one ≡ other

-- tokens derive one program at most
abbrev pub MeansOne : Type 0
MeansOne = (one other : Tree program) → spell program one [] ≡ spell program other [] → classes_of one ≡ classes_of other
