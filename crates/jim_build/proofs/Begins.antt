-- What the next tokens say of what is next.
use Rattle.std.proofs.Common.{◌≡◌, ◌≢◌, ℕ, ◌<◌, Bool, true, false, ◌||◌, List, [], ◌∷◌, length, None, Some, refl, ap, ◌∙◌, sym, arith}
use Rattle.std.proofs.lemmas.Bool.{false≢true}
use Rattle.jim_text.specs.declared.lead.Lead.{Lead}
use Rattle.jim_text.specs.declared.lead.Lead.TheVariants as lead
use Rattle.jim_signs.specs.declared.seen.Sign.{Sign}
use Rattle.jim_grammar.specs.Sets.{is_modifier, is_base, is_odd_type, is_class_word, is_plain_invoke, is_switch_word, is_monitor_word, is_skip_word}
use Rattle.jim_grammar.specs.Forms.{LocalImm, NumberImm, TextImm, ClassImm, NullImm, PutCellStmt, CallStmt, SwitchStmt, MonitorStmt, SkipStmt, OnReceiver, OnClass, Dynamic, LabelLine, StmtLine, VoidResult, TypeResult, FieldMember, MethodMember, NoBody, WithBody, TypeDecl, OddDecl}
use Rattle.jim_grammar.specs.Expressions.{Tree, Opt, spell, spell_each, sign}
use Rattle.jim_grammar.specs.Grammar.{pair, names, outcome, stmt, line, decl, trap, ending, member, implements, class}
use Rattle.jim_stmts.specs.Leads.{lead_at, second_at}
use Rattle.jim_build.specs.Splits.{is_type_before, is_decl, begins_decl}
use Rattle.jim_build.specs.Splits.{begins_line}
use Rattle.jim_build.specs.Splits.{begins_member}

-- a disjunction whose left side is true
or_left : (a b : Bool) → a ≡ true → a || b ≡ true
or_left true b h = refl
or_left false b h = absurd (false≢true h)

-- a disjunction whose right side is true
or_right : (a b : Bool) → b ≡ true → a || b ≡ true
or_right true b h = refl
or_right false b h = h

-- tokens of a set

-- a base, with what stands behind a name that is a type, begins a declaration
is_decl-base : (l m n : Lead) → is_base l ≡ true → is_type_before m n ≡ true → is_decl l m n ≡ true
is_decl-base lead.Name m n h k = k
is_decl-base l m n h k = or_left (is_base l) (is_odd_type l) h

-- an odd type begins a declaration
is_decl-odd : (l m n : Lead) → is_odd_type l ≡ true → is_decl l m n ≡ true
is_decl-odd lead.Name m n h = absurd (false≢true h)
is_decl-odd l m n h = or_right (is_base l) (is_odd_type l) h

-- a call on a receiver begins no declaration
is_decl-plain_invoke : (l m n : Lead) → is_plain_invoke l ≡ true → is_decl l m n ≡ false
is_decl-plain_invoke lead.SpecialInvoke m n h = refl
is_decl-plain_invoke lead.VirtualInvoke m n h = refl
is_decl-plain_invoke lead.InterfaceInvoke m n h = refl
is_decl-plain_invoke l m n h = absurd (false≢true h)

-- a switch begins no declaration
is_decl-switch_word : (l m n : Lead) → is_switch_word l ≡ true → is_decl l m n ≡ false
is_decl-switch_word lead.TableSwitch m n h = refl
is_decl-switch_word lead.LookupSwitch m n h = refl
is_decl-switch_word l m n h = absurd (false≢true h)

-- a monitor statement begins no declaration
is_decl-monitor_word : (l m n : Lead) → is_monitor_word l ≡ true → is_decl l m n ≡ false
is_decl-monitor_word lead.EnterMonitor m n h = refl
is_decl-monitor_word lead.ExitMonitor m n h = refl
is_decl-monitor_word l m n h = absurd (false≢true h)

-- a statement that does nothing begins no declaration
is_decl-skip_word : (l m n : Lead) → is_skip_word l ≡ true → is_decl l m n ≡ false
is_decl-skip_word lead.Nop m n h = refl
is_decl-skip_word lead.Breakpoint m n h = refl
is_decl-skip_word l m n h = absurd (false≢true h)

-- a call on a receiver begins a line
begins_line-plain_invoke : (l : Lead) → is_plain_invoke l ≡ true → begins_line l ≡ true
begins_line-plain_invoke lead.SpecialInvoke h = refl
begins_line-plain_invoke lead.VirtualInvoke h = refl
begins_line-plain_invoke lead.InterfaceInvoke h = refl
begins_line-plain_invoke l h = absurd (false≢true h)

-- a switch begins a line
begins_line-switch_word : (l : Lead) → is_switch_word l ≡ true → begins_line l ≡ true
begins_line-switch_word lead.TableSwitch h = refl
begins_line-switch_word lead.LookupSwitch h = refl
begins_line-switch_word l h = absurd (false≢true h)

-- a monitor statement begins a line
begins_line-monitor_word : (l : Lead) → is_monitor_word l ≡ true → begins_line l ≡ true
begins_line-monitor_word lead.EnterMonitor h = refl
begins_line-monitor_word lead.ExitMonitor h = refl
begins_line-monitor_word l h = absurd (false≢true h)

-- a statement that does nothing begins a line
begins_line-skip_word : (l : Lead) → is_skip_word l ≡ true → begins_line l ≡ true
begins_line-skip_word lead.Nop h = refl
begins_line-skip_word lead.Breakpoint h = refl
begins_line-skip_word l h = absurd (false≢true h)

-- no base is a modifier
pub is_modifier-base : (l : Lead) → is_base l ≡ true → is_modifier l ≡ false
is_modifier-base lead.Boolean h = refl
is_modifier-base lead.Byte h = refl
is_modifier-base lead.Short h = refl
is_modifier-base lead.Char h = refl
is_modifier-base lead.Int h = refl
is_modifier-base lead.Long h = refl
is_modifier-base lead.Float h = refl
is_modifier-base lead.Double h = refl
is_modifier-base lead.Name h = refl
is_modifier-base l h = absurd (false≢true h)

-- no word of a class is a modifier
pub is_modifier-class_word : (l : Lead) → is_class_word l ≡ true → is_modifier l ≡ false
is_modifier-class_word lead.Class h = refl
is_modifier-class_word lead.Interface h = refl
is_modifier-class_word l h = absurd (false≢true h)

-- a modifier begins a member
begins_member-modifier : (l : Lead) → is_modifier l ≡ true → begins_member l ≡ true
begins_member-modifier lead.CloseBrace h = absurd (false≢true h)
begins_member-modifier lead.Other h = absurd (false≢true h)
begins_member-modifier l h = refl

-- a base begins a member
begins_member-base : (l : Lead) → is_base l ≡ true → begins_member l ≡ true
begins_member-base lead.CloseBrace h = absurd (false≢true h)
begins_member-base lead.Other h = absurd (false≢true h)
begins_member-base l h = refl

-- a word of a class is neither a brace nor the end
begins_member-class_word : (l : Lead) → is_class_word l ≡ true → begins_member l ≡ true
begins_member-class_word lead.CloseBrace h = absurd (false≢true h)
begins_member-class_word lead.Other h = absurd (false≢true h)
begins_member-class_word l h = refl

-- where something begins, a token is left

-- what a declaration begins with
pub begins_decl-some : (w : List Sign) → begins_decl w ≡ true → 0 < length w
begins_decl-some [] h = absurd (false≢true h)
begins_decl-some (s ∷ w) h = omega arith

-- what a line begins with
pub begins_line-some : (w : List Sign) → begins_line (lead_at w) ≡ true → 0 < length w
begins_line-some [] h = absurd (false≢true h)
begins_line-some (s ∷ w) h = omega arith

-- what a member begins with
pub begins_member-some : (w : List Sign) → begins_member (lead_at w) ≡ true → 0 < length w
begins_member-some [] h = absurd (false≢true h)
begins_member-some (s ∷ w) h = omega arith

-- declarations

-- brackets and names, or names alone, behind a name show that it is a type
type_before : (pairs : List (Tree pair)) (x : Tree names) (w : List Sign)
    → is_type_before (lead_at (spell_each (spell pair) pairs (spell names x w))) (second_at (spell_each (spell pair) pairs (spell names x w))) ≡ true
type_before [] x w = refl
type_before (p ∷ ps) x w = refl

-- a declaration begins as one
pub decl_begins : (x : Tree decl) (w : List Sign) → begins_decl (spell decl x w) ≡ true
decl_begins (TypeDecl, ((b, (pairs, _)), (ns, (s, _)))) w =
    is_decl-base b.lead _ _ b.is_in_set (type_before pairs.items ns (sign lead.Semicolon s ∷ w))
decl_begins (OddDecl, (t, _)) w = is_decl-odd t.lead _ _ t.is_in_set

-- no statement begins as a declaration
stmt_no_decl : (x : Tree stmt) (w : List Sign) → begins_decl (spell stmt x w) ≡ false
stmt_no_decl (PutCellStmt, (x, (b, ((LocalImm, i), _)))) w = refl
stmt_no_decl (PutCellStmt, (x, (b, ((NumberImm, (None, i)), _)))) w = refl
stmt_no_decl (PutCellStmt, (x, (b, ((NumberImm, (Some m, i)), _)))) w = refl
stmt_no_decl (PutCellStmt, (x, (b, ((TextImm, i), _)))) w = refl
stmt_no_decl (PutCellStmt, (x, (b, ((ClassImm, i), _)))) w = refl
stmt_no_decl (PutCellStmt, (x, (b, ((NullImm, i), _)))) w = refl
stmt_no_decl (CallStmt, ((OnReceiver, (word, _)), _)) w = is_decl-plain_invoke word.lead _ _ word.is_in_set
stmt_no_decl (CallStmt, ((OnClass, _), _)) w = refl
stmt_no_decl (CallStmt, ((Dynamic, _), _)) w = refl
stmt_no_decl (SwitchStmt, (word, _)) w = is_decl-switch_word word.lead _ _ word.is_in_set
stmt_no_decl (MonitorStmt, (word, _)) w = is_decl-monitor_word word.lead _ _ word.is_in_set
stmt_no_decl (SkipStmt, (word, _)) w = is_decl-skip_word word.lead _ _ word.is_in_set
stmt_no_decl (_, x) w = refl

-- no line begins as a declaration
line_no_decl : (x : Tree line) (w : List Sign) → begins_decl (spell line x w) ≡ false
line_no_decl (LabelLine, x) w = refl
line_no_decl (StmtLine, (x, _)) w = stmt_no_decl x w

-- behind declarations, at what is left of a body, no declaration is next
pub body_no_decl : (ls : List (Tree line)) (ts : List (Tree trap)) (n : ℕ) (r : List Sign)
    → begins_decl (spell_each (spell line) ls (spell_each (spell trap) ts (sign lead.CloseBrace n ∷ r))) ≡ false
body_no_decl [] [] n r = refl
body_no_decl [] (t ∷ ts) n r = refl
body_no_decl (l ∷ ls) ts n r = line_no_decl l _

-- lines

-- a statement begins a line
stmt_begins : (x : Tree stmt) (w : List Sign) → begins_line (lead_at (spell stmt x w)) ≡ true
stmt_begins (CallStmt, ((OnReceiver, (word, _)), _)) w = begins_line-plain_invoke word.lead word.is_in_set
stmt_begins (CallStmt, ((OnClass, _), _)) w = refl
stmt_begins (CallStmt, ((Dynamic, _), _)) w = refl
stmt_begins (SwitchStmt, (word, _)) w = begins_line-switch_word word.lead word.is_in_set
stmt_begins (MonitorStmt, (word, _)) w = begins_line-monitor_word word.lead word.is_in_set
stmt_begins (SkipStmt, (word, _)) w = begins_line-skip_word word.lead word.is_in_set
stmt_begins (_, x) w = refl

-- a line begins as one
pub line_begins : (x : Tree line) (w : List Sign) → begins_line (lead_at (spell line x w)) ≡ true
line_begins (LabelLine, x) w = refl
line_begins (StmtLine, (x, _)) w = stmt_begins x w

-- behind lines, at what is left of a body, no line is next
pub traps_no_line : (ts : List (Tree trap)) (n : ℕ) (r : List Sign) → begins_line (lead_at (spell_each (spell trap) ts (sign lead.CloseBrace n ∷ r))) ≡ false
traps_no_line [] n r = refl
traps_no_line (t ∷ ts) n r = refl

-- no statement begins with a name and a colon
pub stmt_no_label : (x : Tree stmt) (w : List Sign) → lead_at (spell stmt x w) ≡ lead.Name → second_at (spell stmt x w) ≢ lead.Colon
stmt_no_label (CallStmt, ((OnReceiver, (word, _)), _)) w h k = absurd (false≢true (sym (ap is_plain_invoke h) ∙ word.is_in_set))
stmt_no_label (CallStmt, ((OnClass, _), _)) w h k = cc
stmt_no_label (CallStmt, ((Dynamic, _), _)) w h k = cc
stmt_no_label (SwitchStmt, (word, _)) w h k = absurd (false≢true (sym (ap is_switch_word h) ∙ word.is_in_set))
stmt_no_label (MonitorStmt, (word, _)) w h k = absurd (false≢true (sym (ap is_monitor_word h) ∙ word.is_in_set))
stmt_no_label (SkipStmt, (word, _)) w h k = absurd (false≢true (sym (ap is_skip_word h) ∙ word.is_in_set))
stmt_no_label (_, x) w h k = cc

-- members

-- no result type begins with a modifier
pub outcome_no_modifier : (x : Tree outcome) (w : List Sign) → is_modifier (lead_at (spell outcome x w)) ≡ false
outcome_no_modifier (VoidResult, x) w = refl
outcome_no_modifier (TypeResult, ((b, _), _)) w = is_modifier-base b.lead b.is_in_set

-- a member begins as one
pub member_begins : (x : Tree member) (w : List Sign) → begins_member (lead_at (spell member x w)) ≡ true
member_begins (FieldMember, ([], ((b, _), _))) w = begins_member-base b.lead b.is_in_set
member_begins (FieldMember, (m ∷ ms, _)) w = begins_member-modifier m.lead m.is_in_set
member_begins (MethodMember, ([], ((VoidResult, t), _))) w = refl
member_begins (MethodMember, ([], ((TypeResult, ((b, _), _)), _))) w = begins_member-base b.lead b.is_in_set
member_begins (MethodMember, (m ∷ ms, _)) w = begins_member-modifier m.lead m.is_in_set

-- no ending of a method begins with `throws`
pub ending_no_throws : (x : Tree ending) (w : List Sign) → lead_at (spell ending x w) ≢ lead.Throws
ending_no_throws (NoBody, x) w e = cc
ending_no_throws (WithBody, x) w e = cc

-- no ending of a method begins with a comma
pub ending_no_comma : (x : Tree ending) (w : List Sign) → lead_at (spell ending x w) ≢ lead.Comma
ending_no_comma (NoBody, x) w e = cc
ending_no_comma (WithBody, x) w e = cc

-- classes

-- behind a parent that is left out no `extends` is next
pub implements_no_extends : (x : Tree (Opt implements)) (n : ℕ) (w : List Sign) → lead_at (spell (Opt implements) x (sign lead.OpenBrace n ∷ w)) ≢ lead.Extends
implements_no_extends None n w e = cc
implements_no_extends (Some x) n w e = cc

-- a class begins with a token
pub class_begins : (x : Tree class) (w : List Sign) → lead_at (spell class x w) ≢ lead.Other
class_begins ([], (word, _)) w e = absurd (false≢true (sym (ap begins_member e) ∙ begins_member-class_word word.lead word.is_in_set))
class_begins (m ∷ ms, _) w e = absurd (false≢true (sym (ap begins_member e) ∙ begins_member-modifier m.lead m.is_in_set))
