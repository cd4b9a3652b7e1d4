-- The reserved words and the marks of the profile, and their classes.
use Rattle.std.specs.Prelude.{ℕ, Bool, true, false, if◌then◌else◌, List, [], ◌∷◌, ◌++◌, codes}
use Rattle.std.specs.Str.{bytes_eq}
use Rattle.jim_text.specs.declared.lead.Lead.{Lead}
use Rattle.jim_text.specs.declared.lead.Lead.TheVariants as lead

-- the reserved words and their classes, by the lengths of the words
abbrev pub two_words : List (List ℕ × Lead)
two_words = (codes "if", lead.If)
    ∷ (codes "to", lead.To)
    ∷ []

-- the reserved words of three letters, with their classes
abbrev pub three_words : List (List ℕ × Lead)
three_words = (codes "int", lead.Int)
    ∷ (codes "new", lead.New)
    ∷ (codes "neg", lead.Neg)
    ∷ (codes "cmp", lead.Cmp)
    ∷ (codes "ret", lead.Ret)
    ∷ (codes "nop", lead.Nop)
    ∷ []

-- the reserved words of four letters, with their classes
abbrev pub four_words : List (List ℕ × Lead)
four_words = (codes "enum", lead.Enum)
    ∷ (codes "void", lead.Void)
    ∷ (codes "byte", lead.Byte)
    ∷ (codes "char", lead.Char)
    ∷ (codes "long", lead.Long)
    ∷ (codes "null", lead.Null)
    ∷ (codes "cmpg", lead.Cmpg)
    ∷ (codes "cmpl", lead.Cmpl)
    ∷ (codes "goto", lead.Goto)
    ∷ (codes "case", lead.Case)
    ∷ (codes "from", lead.From)
    ∷ (codes "with", lead.With)
    ∷ []

-- the reserved words of five letters, with their classes
abbrev pub five_words : List (List ℕ × Lead)
five_words = (codes "final", lead.Final)
    ∷ (codes "class", lead.Class)
    ∷ (codes "short", lead.Short)
    ∷ (codes "float", lead.Float)
    ∷ (codes "throw", lead.Throw)
    ∷ (codes "catch", lead.Catch)
    ∷ []

-- the reserved words of six letters, with their classes
abbrev pub six_words : List (List ℕ × Lead)
six_words = (codes "native", lead.Native)
    ∷ (codes "public", lead.Public)
    ∷ (codes "static", lead.Static)
    ∷ (codes "throws", lead.Throws)
    ∷ (codes "double", lead.Double)
    ∷ (codes "return", lead.Return)
    ∷ []

-- the reserved words of seven letters, with their classes
abbrev pub seven_words : List (List ℕ × Lead)
seven_words = (codes "private", lead.Private)
    ∷ (codes "extends", lead.Extends)
    ∷ (codes "boolean", lead.Boolean)
    ∷ (codes "unknown", lead.Unknown)
    ∷ (codes "default", lead.Default)
    ∷ []

-- the reserved words of eight letters, with their classes
abbrev pub eight_words : List (List ℕ × Lead)
eight_words = (codes "abstract", lead.Abstract)
    ∷ (codes "volatile", lead.Volatile)
    ∷ (codes "strictfp", lead.Strictfp)
    ∷ (codes "newarray", lead.NewArray)
    ∷ (codes "lengthof", lead.LengthOf)
    ∷ []

-- the reserved words of nine letters, with their classes
abbrev pub nine_words : List (List ℕ × Lead)
nine_words = (codes "protected", lead.Protected)
    ∷ (codes "transient", lead.Transient)
    ∷ (codes "interface", lead.Interface)
    ∷ (codes "null_type", lead.NullType)
    ∷ []

-- the reserved words of ten letters, with their classes
abbrev pub ten_words : List (List ℕ × Lead)
ten_words = (codes "annotation", lead.Annotation)
    ∷ (codes "implements", lead.Implements)
    ∷ (codes "instanceof", lead.InstanceOf)
    ∷ (codes "breakpoint", lead.Breakpoint)
    ∷ []

-- the reserved words of eleven letters, with their classes
abbrev pub eleven_words : List (List ℕ × Lead)
eleven_words = (codes "tableswitch", lead.TableSwitch)
    ∷ (codes "exitmonitor", lead.ExitMonitor)
    ∷ []

-- the reserved words of twelve letters, with their classes
abbrev pub twelve_words : List (List ℕ × Lead)
twelve_words = (codes "synchronized", lead.Synchronized)
    ∷ (codes "lookupswitch", lead.LookupSwitch)
    ∷ (codes "entermonitor", lead.EnterMonitor)
    ∷ (codes "staticinvoke", lead.StaticInvoke)
    ∷ []

-- the reserved words of thirteen letters, with their classes
abbrev pub thirteen_words : List (List ℕ × Lead)
thirteen_words = (codes "newmultiarray", lead.NewMultiArray)
    ∷ (codes "specialinvoke", lead.SpecialInvoke)
    ∷ (codes "virtualinvoke", lead.VirtualInvoke)
    ∷ (codes "dynamicinvoke", lead.DynamicInvoke)
    ∷ []

-- the reserved words of fifteen letters, with their classes
abbrev pub fifteen_words : List (List ℕ × Lead)
fifteen_words = (codes "interfaceinvoke", lead.InterfaceInvoke) ∷ []

-- all reserved words, with their classes
unfoldable pub words : List (List ℕ × Lead)
words = two_words
    ++ three_words
    ++ four_words
    ++ five_words
    ++ six_words
    ++ seven_words
    ++ eight_words
    ++ nine_words
    ++ ten_words
    ++ eleven_words
    ++ twelve_words
    ++ thirteen_words
    ++ fifteen_words

-- the marks and their classes
abbrev pub single_marks : List (List ℕ × Lead)
single_marks = (codes "{", lead.OpenBrace)
    ∷ (codes "}", lead.CloseBrace)
    ∷ (codes "(", lead.OpenParen)
    ∷ (codes ")", lead.CloseParen)
    ∷ (codes "[", lead.OpenBracket)
    ∷ (codes "]", lead.CloseBracket)
    ∷ (codes ";", lead.Semicolon)
    ∷ (codes ",", lead.Comma)
    ∷ (codes ":", lead.Colon)
    ∷ (codes ".", lead.Dot)
    ∷ (codes "=", lead.Assign)
    ∷ (codes "<", lead.Less)
    ∷ (codes ">", lead.Greater)
    ∷ (codes "+", lead.Plus)
    ∷ (codes "-", lead.Minus)
    ∷ (codes "*", lead.Times)
    ∷ (codes "/", lead.Slash)
    ∷ (codes "%", lead.Percent)
    ∷ (codes "&", lead.And)
    ∷ (codes "^", lead.Xor)
    ∷ (codes "|", lead.Or)
    ∷ []

-- the marks of two characters
abbrev pub double_marks : List (List ℕ × Lead)
double_marks = (codes ":=", lead.Define)
    ∷ (codes "==", lead.Equal)
    ∷ (codes "!=", lead.NotEqual)
    ∷ (codes "<=", lead.LessEqual)
    ∷ (codes ">=", lead.GreaterEqual)
    ∷ (codes "<<", lead.ShiftLeft)
    ∷ (codes ">>", lead.ShiftRight)
    ∷ []

-- the marks of three characters
abbrev pub triple_marks : List (List ℕ × Lead)
triple_marks = (codes ">>>", lead.ShiftRightUnsigned) ∷ []

-- all marks, with their classes
unfoldable pub marks : List (List ℕ × Lead)
marks = single_marks ++ double_marks ++ triple_marks

-- the class that a table gives a text, and `Other` where the text isn't there
abbrev pub look_up : List (List ℕ × Lead) → List ℕ → Lead
look_up [] text = lead.Other
look_up (entry ∷ table) text = if bytes_eq text entry.0 then entry.1 else look_up table text

-- any class but `Other`
abbrev pub is_known : Lead → Bool
is_known lead.Other = false
is_known _ = true

-- whether a table has a text
abbrev pub is_in : List (List ℕ × Lead) → List ℕ → Bool
is_in table text = is_known (look_up table text)

-- whether bytes are a reserved word
abbrev pub is_reserved : List ℕ → Bool
is_reserved text = is_in words text
