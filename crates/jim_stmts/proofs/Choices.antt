-- Which production the next tokens begin.
use Rattle.std.proofs.Common.{◌≡◌, ◌≢◌, ◌<◌, IsTrue, IfOk, Result, true, length, arith, List, [], ◌∷◌, Some, None, refl, sym, ap, ◌∙◌, subst}
use Rattle.jim_text.specs.declared.lead.Lead.{Lead}
use Rattle.jim_text.specs.declared.lead.Lead.TheVariants as lead
use Rattle.jim_signs.specs.declared.seen.Sign.{Sign}
use Rattle.jim_grammar.specs.Forms.{Kind, Form, Imms, Invokes, InvokeForm, OnReceiver, OnClass, Dynamic, ImmForm, LocalImm, NumberImm, TextImm, ClassImm, NullImm, VoidResult, TypeResult}
use Rattle.jim_grammar.specs.Expressions.{Re, Any, One, Opt, Tree, spell}
use Rattle.jim_grammar.specs.declared.set.LeadSet.TheVariants.{NotEnds}
use Rattle.jim_grammar.specs.Sets.{is_not_end, is_plain_invoke}
use Rattle.jim_grammar.specs.Grammar.{ty, imm, by_imm, outcome, invoke, by_invoke}
use Rattle.jim_stmts.specs.Leads.{lead_at, GoesOn}
use Rattle.jim_stmts.specs.Meanings.{ty_of, imm_of, outcome_of, invoke_of}

-- a tree of a choice whose production is known is a tree of that production
pub of_form : (k : Kind) (f : Form k → Re) {V : Type 0} (m : Tree (Any k f) → V) (i : Form k) (x : Tree (Any k f)) (w r : List Sign) → w ≡ spell (Any k f) x r → x.0 ≡ i → (y : Tree (f i)) × (w ≡ spell (f i) y r) × (m (i, y) ≡ m x)
of_form k f m i (j, z) w r h e = subst (λ (i : Form k). (y : Tree (f i)) × (w ≡ spell (f i) y r) × (m (i, y) ≡ m (j, z))) e (z, h, refl)

-- the production of an operand, by the class of its first token
abbrev pub imm_form : Lead → ImmForm
imm_form lead.Name = LocalImm
imm_form lead.Text = TextImm
imm_form lead.Class = ClassImm
imm_form lead.Null = NullImm
imm_form _ = NumberImm

pub imm_form-spell : (x : Tree imm) (r : List Sign) → imm_form (lead_at (spell imm x r)) ≡ x.0
imm_form-spell (LocalImm, y) r = refl
imm_form-spell (NumberImm, (None, y)) r = refl
imm_form-spell (NumberImm, (Some m, y)) r = refl
imm_form-spell (TextImm, y) r = refl
imm_form-spell (ClassImm, y) r = refl
imm_form-spell (NullImm, y) r = refl

-- an operand that begins with a token of a known class
pub imm_at : (l : Lead) (x : Tree imm) (w r : List Sign) → w ≡ spell imm x r → lead_at w ≡ l → (y : Tree (by_imm (imm_form l))) × (w ≡ spell (by_imm (imm_form l)) y r) × (imm_of (imm_form l, y) ≡ imm_of x)
imm_at l x w r h e = of_form Imms by_imm imm_of (imm_form l) x w r h (sym (imm_form-spell x r) ∙ (ap (λ v. imm_form (lead_at v)) (sym h) ∙ ap imm_form e))

-- more than the rest is left: the optional element is there
pub is_there : (a : Re) (x : Tree (Opt a)) (w r : List Sign) → w ≡ spell (Opt a) x r → ¬ (w ≡ r) → (y : Tree a) × (Some y ≡ x) × (w ≡ spell a y r)
is_there a None w r h n = absurd (n h)
is_there a (Some y) w r h n = (y, refl, h)

-- a result that isn't `void` is a type
pub outcome_type : (x : Tree outcome) (w r : List Sign) → w ≡ spell outcome x r → lead_at w ≢ lead.Void → (t : Tree ty) × (w ≡ spell ty t r) × (ty_of t ≡ outcome_of x)
outcome_type (VoidResult, y) w r h n = absurd (n (ap lead_at h))
outcome_type (TypeResult, (t, z)) w r h n = (t, h, refl)

-- where a token other than an end is left, no `;` comes next
pub goes_on-not_end : (w : List Sign) → GoesOn w → lead_at w ≢ lead.Semicolon
goes_on-not_end [] g e = absurd g
goes_on-not_end (s ∷ r) g e = let t : IsTrue (is_not_end lead.Semicolon) = subst (λ l. IsTrue (is_not_end l)) e g in absurd (cc t)

-- a token other than an end is left
pub goes_on-left : (w : List Sign) → GoesOn w → 0 < length w
goes_on-left [] g = absurd g
goes_on-left (s ∷ r) g = omega arith

-- a token other than an end goes on
pub goes_on-other : (x : Tree (One NotEnds)) (w s : List Sign) → w ≡ spell (One NotEnds) x s → GoesOn w
goes_on-other x w s h = subst GoesOn (sym h) x.is_in_set

-- the production of a call, by the class of its first token
abbrev pub invoke_form : Lead → InvokeForm
invoke_form lead.StaticInvoke = OnClass
invoke_form lead.DynamicInvoke = Dynamic
invoke_form _ = OnReceiver

-- the class of a word of a plain call begins no other call
pub invoke_form-plain : (l : Lead) → is_plain_invoke l ≡ true → invoke_form l ≡ OnReceiver
invoke_form-plain lead.StaticInvoke h = absurd (cc h)
invoke_form-plain lead.DynamicInvoke h = absurd (cc h)
invoke_form-plain _ h = refl

pub invoke_form-spell : (x : Tree invoke) (r : List Sign) → invoke_form (lead_at (spell invoke x r)) ≡ x.0
invoke_form-spell (OnReceiver, y) r = invoke_form-plain y.0.lead y.0.is_in_set
invoke_form-spell (OnClass, y) r = refl
invoke_form-spell (Dynamic, y) r = refl

-- a call that begins with a token of a known class
pub invoke_at : (l : Lead) (x : Tree invoke) (w r : List Sign) → w ≡ spell invoke x r → lead_at w ≡ l → (y : Tree (by_invoke (invoke_form l))) × (w ≡ spell (by_invoke (invoke_form l)) y r) × (invoke_of (invoke_form l, y) ≡ invoke_of x)
invoke_at l x w r h e = of_form Invokes by_invoke invoke_of (invoke_form l) x w r h (sym (invoke_form-spell x r) ∙ (ap (λ v. invoke_form (lead_at v)) (sym h) ∙ ap invoke_form e))

-- a call that no other word begins
pub invoke_plain : (x : Tree invoke) (w r : List Sign) → w ≡ spell invoke x r → lead_at w ≢ lead.StaticInvoke → lead_at w ≢ lead.DynamicInvoke → (y : Tree (by_invoke OnReceiver)) × (w ≡ spell (by_invoke OnReceiver) y r) × (invoke_of (OnReceiver, y) ≡ invoke_of x)
invoke_plain (OnReceiver, y) w r h s d = (y, h, refl)
invoke_plain (OnClass, y) w r h s d = absurd (s (ap lead_at h))
invoke_plain (Dynamic, y) w r h s d = absurd (d (ap lead_at h))

-- a value that is one of two equal ones is the other
pub ok_same : {V E : Type 0} (result : Result V E) {a b : V} → a ≡ b → IfOk result (λ v. v ≡ a) → IfOk result (λ v. v ≡ b)
ok_same result e h = subst (λ b. IfOk result (λ v. v ≡ b)) e h
