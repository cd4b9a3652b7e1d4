-- Which production of a statement the next tokens begin.
use Rattle.std.proofs.Common.{◌≡◌, ◌≢◌, ◌⊎◌, inl, inr, true, List, refl, sym, ap, ◌∙◌}
use Rattle.jim_text.specs.declared.lead.Lead.{Lead}
use Rattle.jim_text.specs.declared.lead.Lead.TheVariants as lead
use Rattle.jim_signs.specs.declared.seen.Sign.{Sign}
use Rattle.jim_grammar.specs.Sets.{is_plain_invoke, is_switch_word, is_monitor_word, is_skip_word}
use Rattle.jim_grammar.specs.Forms.{Stmts, StmtForm, ThisStmt, ParamStmt, CaughtStmt, AssignStmt, PutFieldStmt, PutStaticStmt, PutCellStmt, CallStmt, IfStmt, GotoStmt, SwitchStmt, ReturnStmt, RetStmt, ThrowStmt, MonitorStmt, SkipStmt, OnReceiver, OnClass, Dynamic}
use Rattle.jim_grammar.specs.Expressions.{Tree, spell}
use Rattle.jim_grammar.specs.Grammar.{stmt, by_stmt}
use Rattle.jim_stmts.specs.Leads.{lead_at, second_at, third_at}
use Rattle.jim_stmts.specs.Meanings.{stmt_of}
use Rattle.jim_stmts.proofs.Choices.{of_form}

-- the production behind a name and `:=`, by the class of the third token
abbrev pub identity_form : Lead → StmtForm
identity_form lead.This = ThisStmt
identity_form lead.Parameter = ParamStmt
identity_form _ = CaughtStmt

-- the production behind a name, by the classes of the second and the third token
abbrev pub name_form : Lead → Lead → StmtForm
name_form lead.Define t = identity_form t
name_form lead.Assign t = AssignStmt
name_form lead.Dot t = PutFieldStmt
name_form _ t = PutCellStmt

-- the production of a statement, by the classes of its first three tokens
abbrev pub stmt_form : Lead → Lead → Lead → StmtForm
stmt_form lead.Name s t = name_form s t
stmt_form lead.Less s t = PutStaticStmt
stmt_form lead.If s t = IfStmt
stmt_form lead.Goto s t = GotoStmt
stmt_form lead.TableSwitch s t = SwitchStmt
stmt_form lead.LookupSwitch s t = SwitchStmt
stmt_form lead.Return s t = ReturnStmt
stmt_form lead.Ret s t = RetStmt
stmt_form lead.Throw s t = ThrowStmt
stmt_form lead.EnterMonitor s t = MonitorStmt
stmt_form lead.ExitMonitor s t = MonitorStmt
stmt_form lead.Nop s t = SkipStmt
stmt_form lead.Breakpoint s t = SkipStmt
stmt_form _ s t = CallStmt

pub stmt_form-plain : (l s t : Lead) → is_plain_invoke l ≡ true → stmt_form l s t ≡ CallStmt
stmt_form-plain lead.SpecialInvoke s t h = refl
stmt_form-plain lead.VirtualInvoke s t h = refl
stmt_form-plain lead.InterfaceInvoke s t h = refl
stmt_form-plain _ s t h = absurd (cc h)

pub stmt_form-switch : (l s t : Lead) → is_switch_word l ≡ true → stmt_form l s t ≡ SwitchStmt
stmt_form-switch lead.TableSwitch s t h = refl
stmt_form-switch lead.LookupSwitch s t h = refl
stmt_form-switch _ s t h = absurd (cc h)

pub stmt_form-monitor : (l s t : Lead) → is_monitor_word l ≡ true → stmt_form l s t ≡ MonitorStmt
stmt_form-monitor lead.EnterMonitor s t h = refl
stmt_form-monitor lead.ExitMonitor s t h = refl
stmt_form-monitor _ s t h = absurd (cc h)

pub stmt_form-skip : (l s t : Lead) → is_skip_word l ≡ true → stmt_form l s t ≡ SkipStmt
stmt_form-skip lead.Nop s t h = refl
stmt_form-skip lead.Breakpoint s t h = refl
stmt_form-skip _ s t h = absurd (cc h)

-- the production that a list of tokens begins
abbrev pub form_at : List Sign → StmtForm
form_at w = stmt_form (lead_at w) (second_at w) (third_at w)

pub form_at-spell : (x : Tree stmt) (r : List Sign) → form_at (spell stmt x r) ≡ x.0
form_at-spell (SwitchStmt, y) r = stmt_form-switch y.0.lead _ _ y.0.is_in_set
form_at-spell (MonitorStmt, y) r = stmt_form-monitor y.0.lead _ _ y.0.is_in_set
form_at-spell (SkipStmt, y) r = stmt_form-skip y.0.lead _ _ y.0.is_in_set
form_at-spell (CallStmt, ((OnReceiver, (b, y)), z)) r = stmt_form-plain b.lead _ _ b.is_in_set
form_at-spell (CallStmt, ((OnClass, y), z)) r = refl
form_at-spell (CallStmt, ((Dynamic, y), z)) r = refl
form_at-spell (_, y) r = refl

-- a statement whose production is known by its first tokens
pub stmt_at : (i : StmtForm) (x : Tree stmt) (w r : List Sign) → w ≡ spell stmt x r → form_at w ≡ i → (y : Tree (by_stmt i)) × (w ≡ spell (by_stmt i) y r) × (stmt_of (i, y) ≡ stmt_of x)
stmt_at i x w r h e = of_form Stmts by_stmt stmt_of i x w r h (sym (form_at-spell x r) ∙ (ap form_at (sym h) ∙ e))

-- the production by the first token
pub form_at-first : (l : Lead) (w : List Sign) → lead_at w ≡ l → form_at w ≡ stmt_form l (second_at w) (third_at w)
form_at-first l w e = ap (λ l. stmt_form l (second_at w) (third_at w)) e

-- the words of a switch and of a monitor begin these
pub form_at-switch : (l : Lead) (w : List Sign) → lead_at w ≡ l → (l ≡ lead.TableSwitch) ⊎ (l ≡ lead.LookupSwitch) → form_at w ≡ SwitchStmt
form_at-switch l w e (inl q) = form_at-first lead.TableSwitch w (e ∙ q)
form_at-switch l w e (inr q) = form_at-first lead.LookupSwitch w (e ∙ q)

pub form_at-monitor : (l : Lead) (w : List Sign) → lead_at w ≡ l → (l ≡ lead.EnterMonitor) ⊎ (l ≡ lead.ExitMonitor) → form_at w ≡ MonitorStmt
form_at-monitor l w e (inl q) = form_at-first lead.EnterMonitor w (e ∙ q)
form_at-monitor l w e (inr q) = form_at-first lead.ExitMonitor w (e ∙ q)

-- the production of a statement that a name begins
pub form_at-name : (w : List Sign) → lead_at w ≡ lead.Name → form_at w ≡ name_form (second_at w) (third_at w)
form_at-name w e = form_at-first lead.Name w e

-- the production of an identity statement
pub form_at-identity : (w : List Sign) → lead_at w ≡ lead.Name → second_at w ≡ lead.Define → form_at w ≡ identity_form (third_at w)
form_at-identity w e d = form_at-name w e ∙ ap (λ s. name_form s (third_at w)) d

-- another third token stands in a statement of a caught exception
pub identity_form-other : (t : Lead) → t ≢ lead.This → t ≢ lead.Parameter → identity_form t ≡ CaughtStmt
identity_form-other lead.This n _ = absurd (n refl)
identity_form-other lead.Parameter _ n = absurd (n refl)
identity_form-other _ _ _ = refl

-- another second token stands in a store into an array
pub name_form-other : (s t : Lead) → s ≢ lead.Define → s ≢ lead.Assign → s ≢ lead.Dot → name_form s t ≡ PutCellStmt
name_form-other lead.Define t n _ _ = absurd (n refl)
name_form-other lead.Assign t _ n _ = absurd (n refl)
name_form-other lead.Dot t _ _ n = absurd (n refl)
name_form-other _ t _ _ _ = refl

-- another first token begins a call
pub stmt_form-other : (l s t : Lead) → l ≢ lead.Name → l ≢ lead.Less → l ≢ lead.If → l ≢ lead.Goto → l ≢ lead.TableSwitch → l ≢ lead.LookupSwitch → l ≢ lead.Return → l ≢ lead.Ret → l ≢ lead.Throw → l ≢ lead.EnterMonitor → l ≢ lead.ExitMonitor → l ≢ lead.Nop → l ≢ lead.Breakpoint → stmt_form l s t ≡ CallStmt
stmt_form-other lead.Name s t n _ _ _ _ _ _ _ _ _ _ _ _ = absurd (n refl)
stmt_form-other lead.Less s t _ n _ _ _ _ _ _ _ _ _ _ _ = absurd (n refl)
stmt_form-other lead.If s t _ _ n _ _ _ _ _ _ _ _ _ _ = absurd (n refl)
stmt_form-other lead.Goto s t _ _ _ n _ _ _ _ _ _ _ _ _ = absurd (n refl)
stmt_form-other lead.TableSwitch s t _ _ _ _ n _ _ _ _ _ _ _ _ = absurd (n refl)
stmt_form-other lead.LookupSwitch s t _ _ _ _ _ n _ _ _ _ _ _ _ = absurd (n refl)
stmt_form-other lead.Return s t _ _ _ _ _ _ n _ _ _ _ _ _ = absurd (n refl)
stmt_form-other lead.Ret s t _ _ _ _ _ _ _ n _ _ _ _ _ = absurd (n refl)
stmt_form-other lead.Throw s t _ _ _ _ _ _ _ _ n _ _ _ _ = absurd (n refl)
stmt_form-other lead.EnterMonitor s t _ _ _ _ _ _ _ _ _ n _ _ _ = absurd (n refl)
stmt_form-other lead.ExitMonitor s t _ _ _ _ _ _ _ _ _ _ n _ _ = absurd (n refl)
stmt_form-other lead.Nop s t _ _ _ _ _ _ _ _ _ _ _ n _ = absurd (n refl)
stmt_form-other lead.Breakpoint s t _ _ _ _ _ _ _ _ _ _ _ _ n = absurd (n refl)
stmt_form-other _ s t _ _ _ _ _ _ _ _ _ _ _ _ _ = refl
