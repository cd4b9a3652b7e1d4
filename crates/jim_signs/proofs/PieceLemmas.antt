-- A token for each class.
use Rattle.std.proofs.Common.{◌≡◌, ℕ, ◌+◌, ◌<◌, ◌≤◌, ◌⊎◌, true, List, [], ◌∷◌, length, get_or, codes, refl, sym, ap, ◌∙◌, inl, inr, arith}
use Rattle.jim_text.specs.declared.Kind.TheVariants as kind
use Rattle.jim_text.specs.Words.{words, marks}
use Rattle.jim_text.specs.Laws.{IsSpelledAlone}
use Rattle.jim_text.specs.Spelling.{Digits, is_digit, IsMark, IsAt}
use Rattle.jim_text.specs.Spelling.IsMark.{single, double, triple}
use Rattle.jim_text.specs.Spelling.IsNumber.{not_a_number}
use Rattle.jim_text.specs.Spelling.IsName.{init}
use Rattle.jim_text.specs.Spelling.IsAt.{this, caught, parameter}
use Rattle.jim_text.specs.Spelling.Items.{ends}
use Rattle.jim_text.specs.declared.lead.Lead.{Lead}
use Rattle.jim_text.specs.declared.lead.Lead.TheVariants as lead
use Rattle.jim_signs.specs.Pieces.{Piece, piece_lead}

abbrev word : (text : List ℕ) → IsSpelledAlone kind.Word text → Piece
word text spelled = record { kind = kind.Word; text = text; spelled = spelled }

abbrev mark : (text : List ℕ) → IsMark text 0 (length text) → Piece
mark text spelled = record { kind = kind.Mark; text = text; spelled = spelled }

abbrev at_word : (text : List ℕ) → IsAt text 0 (length text) → Piece
at_word text spelled = record { kind = kind.At; text = text; spelled = spelled }

-- one digit
one_digit : (bytes : List ℕ) (at : ℕ) → is_digit (get_or bytes at 0) ≡ true → Digits is_digit 5 bytes at (at + 1)
one_digit bytes at digit = record { some = omega arith; few = omega arith; each = each }
  where
    each : (k : ℕ) → at ≤ k → k < at + 1 → is_digit (get_or bytes k 0) ≡ true
    each k low high = let here : at ≡ k = omega arith in ap (λ i. is_digit (get_or bytes i 0)) (sym here) ∙ digit

pub has_token : (class : Lead) → (class ≡ lead.Other) ⊎ ((piece : Piece) × (piece_lead piece ≡ class))
unfolding words marks
has_token lead.Name = inr (record { kind = kind.Name; text = codes "<init>"; spelled = (init refl refl, refl) }, refl)
has_token lead.Number = inr (record { kind = kind.Number; text = codes "#NaN"; spelled = not_a_number refl (inl refl) }, refl)
has_token lead.Text = inr (record { kind = kind.Text; text = 34 ∷ 34 ∷ []; spelled = record { close = 1; opened = refl; items = ends refl; closed = refl; ends = refl } }, refl)
has_token lead.This = inr (at_word (codes "@this") (this refl refl), refl)
has_token lead.Parameter = inr (at_word (codes "@parameter0") (parameter refl (one_digit (codes "@parameter0") 10 refl)), refl)
has_token lead.Caught = inr (at_word (codes "@caughtexception") (caught refl refl), refl)
has_token lead.Abstract = inr (word (codes "abstract") refl, refl)
has_token lead.Final = inr (word (codes "final") refl, refl)
has_token lead.Native = inr (word (codes "native") refl, refl)
has_token lead.Public = inr (word (codes "public") refl, refl)
has_token lead.Protected = inr (word (codes "protected") refl, refl)
has_token lead.Private = inr (word (codes "private") refl, refl)
has_token lead.Static = inr (word (codes "static") refl, refl)
has_token lead.Synchronized = inr (word (codes "synchronized") refl, refl)
has_token lead.Transient = inr (word (codes "transient") refl, refl)
has_token lead.Volatile = inr (word (codes "volatile") refl, refl)
has_token lead.Strictfp = inr (word (codes "strictfp") refl, refl)
has_token lead.Enum = inr (word (codes "enum") refl, refl)
has_token lead.Annotation = inr (word (codes "annotation") refl, refl)
has_token lead.Class = inr (word (codes "class") refl, refl)
has_token lead.Interface = inr (word (codes "interface") refl, refl)
has_token lead.Extends = inr (word (codes "extends") refl, refl)
has_token lead.Implements = inr (word (codes "implements") refl, refl)
has_token lead.Throws = inr (word (codes "throws") refl, refl)
has_token lead.Void = inr (word (codes "void") refl, refl)
has_token lead.Boolean = inr (word (codes "boolean") refl, refl)
has_token lead.Byte = inr (word (codes "byte") refl, refl)
has_token lead.Short = inr (word (codes "short") refl, refl)
has_token lead.Char = inr (word (codes "char") refl, refl)
has_token lead.Int = inr (word (codes "int") refl, refl)
has_token lead.Long = inr (word (codes "long") refl, refl)
has_token lead.Float = inr (word (codes "float") refl, refl)
has_token lead.Double = inr (word (codes "double") refl, refl)
has_token lead.Unknown = inr (word (codes "unknown") refl, refl)
has_token lead.NullType = inr (word (codes "null_type") refl, refl)
has_token lead.Null = inr (word (codes "null") refl, refl)
has_token lead.New = inr (word (codes "new") refl, refl)
has_token lead.NewArray = inr (word (codes "newarray") refl, refl)
has_token lead.NewMultiArray = inr (word (codes "newmultiarray") refl, refl)
has_token lead.InstanceOf = inr (word (codes "instanceof") refl, refl)
has_token lead.LengthOf = inr (word (codes "lengthof") refl, refl)
has_token lead.Neg = inr (word (codes "neg") refl, refl)
has_token lead.Cmp = inr (word (codes "cmp") refl, refl)
has_token lead.Cmpg = inr (word (codes "cmpg") refl, refl)
has_token lead.Cmpl = inr (word (codes "cmpl") refl, refl)
has_token lead.If = inr (word (codes "if") refl, refl)
has_token lead.Goto = inr (word (codes "goto") refl, refl)
has_token lead.TableSwitch = inr (word (codes "tableswitch") refl, refl)
has_token lead.LookupSwitch = inr (word (codes "lookupswitch") refl, refl)
has_token lead.Case = inr (word (codes "case") refl, refl)
has_token lead.Default = inr (word (codes "default") refl, refl)
has_token lead.Return = inr (word (codes "return") refl, refl)
has_token lead.Ret = inr (word (codes "ret") refl, refl)
has_token lead.Throw = inr (word (codes "throw") refl, refl)
has_token lead.Nop = inr (word (codes "nop") refl, refl)
has_token lead.Breakpoint = inr (word (codes "breakpoint") refl, refl)
has_token lead.EnterMonitor = inr (word (codes "entermonitor") refl, refl)
has_token lead.ExitMonitor = inr (word (codes "exitmonitor") refl, refl)
has_token lead.Catch = inr (word (codes "catch") refl, refl)
has_token lead.From = inr (word (codes "from") refl, refl)
has_token lead.To = inr (word (codes "to") refl, refl)
has_token lead.With = inr (word (codes "with") refl, refl)
has_token lead.SpecialInvoke = inr (word (codes "specialinvoke") refl, refl)
has_token lead.VirtualInvoke = inr (word (codes "virtualinvoke") refl, refl)
has_token lead.InterfaceInvoke = inr (word (codes "interfaceinvoke") refl, refl)
has_token lead.StaticInvoke = inr (word (codes "staticinvoke") refl, refl)
has_token lead.DynamicInvoke = inr (word (codes "dynamicinvoke") refl, refl)
has_token lead.OpenBrace = inr (mark (codes "{") (single refl refl refl), refl)
has_token lead.CloseBrace = inr (mark (codes "}") (single refl refl refl), refl)
has_token lead.OpenParen = inr (mark (codes "(") (single refl refl refl), refl)
has_token lead.CloseParen = inr (mark (codes ")") (single refl refl refl), refl)
has_token lead.OpenBracket = inr (mark (codes "[") (single refl refl refl), refl)
has_token lead.CloseBracket = inr (mark (codes "]") (single refl refl refl), refl)
has_token lead.Semicolon = inr (mark (codes ";") (single refl refl refl), refl)
has_token lead.Comma = inr (mark (codes ",") (single refl refl refl), refl)
has_token lead.Colon = inr (mark (codes ":") (single refl refl refl), refl)
has_token lead.Define = inr (mark (codes ":=") (double refl refl), refl)
has_token lead.Dot = inr (mark (codes ".") (single refl refl refl), refl)
has_token lead.Assign = inr (mark (codes "=") (single refl refl refl), refl)
has_token lead.Equal = inr (mark (codes "==") (double refl refl), refl)
has_token lead.NotEqual = inr (mark (codes "!=") (double refl refl), refl)
has_token lead.Less = inr (mark (codes "<") (single refl refl refl), refl)
has_token lead.LessEqual = inr (mark (codes "<=") (double refl refl), refl)
has_token lead.Greater = inr (mark (codes ">") (single refl refl refl), refl)
has_token lead.GreaterEqual = inr (mark (codes ">=") (double refl refl), refl)
has_token lead.ShiftLeft = inr (mark (codes "<<") (double refl refl), refl)
has_token lead.ShiftRight = inr (mark (codes ">>") (double refl refl), refl)
has_token lead.ShiftRightUnsigned = inr (mark (codes ">>>") (triple refl refl), refl)
has_token lead.Plus = inr (mark (codes "+") (single refl refl refl), refl)
has_token lead.Minus = inr (mark (codes "-") (single refl refl refl), refl)
has_token lead.Times = inr (mark (codes "*") (single refl refl refl), refl)
has_token lead.Slash = inr (mark (codes "/") (single refl refl refl), refl)
has_token lead.Percent = inr (mark (codes "%") (single refl refl refl), refl)
has_token lead.And = inr (mark (codes "&") (single refl refl refl), refl)
has_token lead.Or = inr (mark (codes "|") (single refl refl refl), refl)
has_token lead.Xor = inr (mark (codes "^") (single refl refl refl), refl)
has_token lead.Other = inl refl
