-- The sets of classes that the grammar names: mod, what a type begins with, rel and op of the written grammar, and words that may stand for each other.
-- The class of no token, `Other`, is in none.
use Rattle.std.specs.Prelude.{Bool, true, false}
use Rattle.jim_text.specs.declared.lead.Lead.{Lead}
use Rattle.jim_text.specs.declared.lead.Lead.TheVariants as lead
use Rattle.jim_grammar.specs.declared.set.LeadSet.{LeadSet}
use Rattle.jim_grammar.specs.declared.set.LeadSet.TheVariants.{Modifiers, Bases, ClassWords, Relations, Operators, PlainInvokes, SwitchWords, MonitorWords, SkipWords, OddTypes, NotEnds}

-- the modifiers
abbrev pub is_modifier : Lead → Bool
is_modifier lead.Abstract = true
is_modifier lead.Final = true
is_modifier lead.Native = true
is_modifier lead.Public = true
is_modifier lead.Protected = true
is_modifier lead.Private = true
is_modifier lead.Static = true
is_modifier lead.Synchronized = true
is_modifier lead.Transient = true
is_modifier lead.Volatile = true
is_modifier lead.Strictfp = true
is_modifier lead.Enum = true
is_modifier lead.Annotation = true
is_modifier _ = false

-- the types without brackets: the primitive ones, and names
abbrev pub is_base : Lead → Bool
is_base lead.Boolean = true
is_base lead.Byte = true
is_base lead.Short = true
is_base lead.Char = true
is_base lead.Int = true
is_base lead.Long = true
is_base lead.Float = true
is_base lead.Double = true
is_base lead.Name = true
is_base _ = false

-- `class` and `interface`
abbrev pub is_class_word : Lead → Bool
is_class_word lead.Class = true
is_class_word lead.Interface = true
is_class_word _ = false

-- the marks that compare
abbrev pub is_relation : Lead → Bool
is_relation lead.Equal = true
is_relation lead.NotEqual = true
is_relation lead.Less = true
is_relation lead.LessEqual = true
is_relation lead.Greater = true
is_relation lead.GreaterEqual = true
is_relation _ = false

-- the marks and words between two operands
abbrev pub is_operator : Lead → Bool
is_operator lead.Equal = true
is_operator lead.NotEqual = true
is_operator lead.Less = true
is_operator lead.LessEqual = true
is_operator lead.Greater = true
is_operator lead.GreaterEqual = true
is_operator lead.Plus = true
is_operator lead.Minus = true
is_operator lead.Times = true
is_operator lead.Slash = true
is_operator lead.Percent = true
is_operator lead.And = true
is_operator lead.Or = true
is_operator lead.Xor = true
is_operator lead.ShiftLeft = true
is_operator lead.ShiftRight = true
is_operator lead.ShiftRightUnsigned = true
is_operator lead.Cmp = true
is_operator lead.Cmpg = true
is_operator lead.Cmpl = true
is_operator _ = false

-- the words of calls on a receiver
abbrev pub is_plain_invoke : Lead → Bool
is_plain_invoke lead.SpecialInvoke = true
is_plain_invoke lead.VirtualInvoke = true
is_plain_invoke lead.InterfaceInvoke = true
is_plain_invoke _ = false

-- the words of switches
abbrev pub is_switch_word : Lead → Bool
is_switch_word lead.TableSwitch = true
is_switch_word lead.LookupSwitch = true
is_switch_word _ = false

-- the words of monitors
abbrev pub is_monitor_word : Lead → Bool
is_monitor_word lead.EnterMonitor = true
is_monitor_word lead.ExitMonitor = true
is_monitor_word _ = false

-- the words of statements that do nothing
abbrev pub is_skip_word : Lead → Bool
is_skip_word lead.Nop = true
is_skip_word lead.Breakpoint = true
is_skip_word _ = false

-- the types that only declarations have
abbrev pub is_odd_type : Lead → Bool
is_odd_type lead.Unknown = true
is_odd_type lead.NullType = true
is_odd_type _ = false

-- all classes that may stand in a `dynamicinvoke`
abbrev pub is_not_end : Lead → Bool
is_not_end lead.Semicolon = false
is_not_end lead.OpenBrace = false
is_not_end lead.CloseBrace = false
is_not_end lead.Other = false
is_not_end _ = true

-- whether a class is in a set
abbrev pub is_in : LeadSet → Lead → Bool
is_in Modifiers l = is_modifier l
is_in Bases l = is_base l
is_in ClassWords l = is_class_word l
is_in Relations l = is_relation l
is_in Operators l = is_operator l
is_in PlainInvokes l = is_plain_invoke l
is_in SwitchWords l = is_switch_word l
is_in MonitorWords l = is_monitor_word l
is_in SkipWords l = is_skip_word l
is_in OddTypes l = is_odd_type l
is_in NotEnds l = is_not_end l

-- a member
abbrev pub sample : LeadSet → Lead
sample Modifiers = lead.Abstract
sample Bases = lead.Boolean
sample ClassWords = lead.Class
sample Relations = lead.Equal
sample Operators = lead.Equal
sample PlainInvokes = lead.SpecialInvoke
sample SwitchWords = lead.TableSwitch
sample MonitorWords = lead.EnterMonitor
sample SkipWords = lead.Nop
sample OddTypes = lead.Unknown
sample NotEnds = lead.Name
