-- Declarations, lines, bodies, members, classes and programs are read in one way only. The names are those of `ApartCode`.
use Rattle.std.proofs.Common.{◌≡◌, ◌≢◌, true, false, List, [], refl, sym, ap, ◌∙◌}
use Rattle.std.proofs.lemmas.Bool.{false≢true}
use Rattle.jim_text.specs.declared.lead.Lead.{Lead}
use Rattle.jim_text.specs.declared.lead.Lead.TheVariants as lead
use Rattle.jim_signs.specs.declared.seen.Sign.{Sign}
use Rattle.jim_grammar.specs.declared.set.LeadSet.TheVariants.{Modifiers}
use Rattle.jim_grammar.specs.Sets.{is_base, is_odd_type, is_modifier}
use Rattle.jim_grammar.specs.Forms.{LineForm, LabelLine, StmtLine, FieldMember, MethodMember, EndForm, NoBody, WithBody, DeclForm, TypeDecl, OddDecl}
use Rattle.jim_grammar.specs.Expressions.{Opt, Star, One, Tree, spell}
use Rattle.jim_grammar.specs.Grammar.{line, by_line, decl, by_decl, trap, body, ending, by_end, throws, member, by_member, extends, implements, class, program}
use Rattle.jim_stmts.specs.Leads.{lead_at, second_at}
use Rattle.jim_build.specs.Splits.{begins_decl}
use Rattle.jim_build.specs.Splits.{begins_line}
use Rattle.jim_build.specs.Splits.{head, begins_member}
use Rattle.jim_build.proofs.Begins.{decl_begins, body_no_decl, line_begins, traps_no_line, stmt_no_label, outcome_no_modifier, is_modifier-base, is_modifier-class_word, member_begins, ending_no_throws, ending_no_comma, implements_no_extends, class_begins}
use Rattle.jim_build.proofs.Parts.{head_part, tail_part}
use Rattle.jim_build.proofs.Apart.{Apart, Every, apart_end, apart_one, apart_seq, free_then, tok_then, apart_any, free_star, apart_opt}
use Rattle.jim_build.proofs.ApartCode.{names_apart, ty_apart, maybe_types_apart, outcome_apart, stmt_apart}

-- declarations

abbrev decl_form : Lead → DeclForm
decl_form lead.Unknown = OddDecl
decl_form lead.NullType = OddDecl
decl_form _ = TypeDecl

decl_form-base : (l : Lead) → is_base l ≡ true → decl_form l ≡ TypeDecl
decl_form-base lead.Unknown h = absurd (false≢true h)
decl_form-base lead.NullType h = absurd (false≢true h)
decl_form-base l h = refl

decl_form-odd : (l : Lead) → is_odd_type l ≡ true → decl_form l ≡ OddDecl
decl_form-odd lead.Unknown h = refl
decl_form-odd lead.NullType h = refl
decl_form-odd l h = absurd (false≢true h)

decl_picks : (i : DeclForm) (x : Tree (by_decl i)) (r : List Sign) → decl_form (lead_at (spell (by_decl i) x r)) ≡ i
decl_picks TypeDecl x r = decl_form-base x.0.0.lead x.0.0.is_in_set
decl_picks OddDecl x r = decl_form-odd x.0.lead x.0.is_in_set

decl_each : {P : List Sign → Type 0} (i : DeclForm) → Apart (by_decl i) P
decl_each TypeDecl = apart_seq ty_apart (apart_seq names_apart (tok_then apart_end) (λ y r p e. cc)) (λ y r p e. cc)
decl_each OddDecl = free_then apart_one (apart_seq names_apart (tok_then apart_end) (λ y r p e. cc))

decl_apart : {P : List Sign → Type 0} → Apart decl P
decl_apart = apart_any (λ w. decl_form (lead_at w)) (λ i x r p. decl_picks i x r) decl_each

-- in front of no declaration
abbrev NoDecl : List Sign → Type 0
NoDecl r = begins_decl r ≡ false

decls_apart : Apart (Star decl) NoDecl
decls_apart = free_star decl_apart (λ y w r p e. false≢true (sym p ∙ (ap begins_decl e ∙ decl_begins y w)))

-- lines

abbrev line_form : Lead → Lead → LineForm
line_form lead.Name lead.Colon = LabelLine
line_form _ _ = StmtLine

line_form-stmt : (l m : Lead) → (l ≡ lead.Name → m ≢ lead.Colon) → line_form l m ≡ StmtLine
line_form-stmt lead.Name lead.Colon k = absurd (k refl refl)
line_form-stmt l m k = refl

line_picks : (i : LineForm) (x : Tree (by_line i)) (r : List Sign) → line_form (lead_at (spell (by_line i) x r)) (second_at (spell (by_line i) x r)) ≡ i
line_picks LabelLine x r = refl
line_picks StmtLine x r = line_form-stmt _ _ (stmt_no_label x.0 r)

line_each : {P : List Sign → Type 0} (i : LineForm) → Apart (by_line i) P
line_each LabelLine = tok_then (tok_then apart_end)
line_each StmtLine = free_then stmt_apart apart_end

line_apart : {P : List Sign → Type 0} → Apart line P
line_apart = apart_any (λ w. line_form (lead_at w) (second_at w)) (λ i x r p. line_picks i x r) line_each

-- in front of no line
abbrev NoLine : List Sign → Type 0
NoLine r = begins_line (lead_at r) ≡ false

lines_apart : Apart (Star line) NoLine
lines_apart = free_star line_apart (λ y w r p e. false≢true (sym p ∙ (ap (λ w. begins_line (lead_at w)) e ∙ line_begins y w)))

-- bodies

trap_apart : {P : List Sign → Type 0} → Apart trap P
trap_apart = tok_then (tok_then (tok_then (tok_then (tok_then (tok_then (tok_then (tok_then (tok_then apart_end))))))))

-- in front of no trap
abbrev NoTrap : List Sign → Type 0
NoTrap r = lead_at r ≢ lead.Catch

traps_apart : Apart (Star trap) NoTrap
traps_apart = free_star trap_apart (λ y w r p e. p (ap lead_at e))

body_apart : {P : List Sign → Type 0} → Apart body P
body_apart =
    tok_then (apart_seq decls_apart
    (apart_seq lines_apart
    (apart_seq traps_apart (tok_then apart_end) (λ y r p e. cc))
    (λ y r p. traps_no_line y.0 y.1.0 r))
    (λ y r p. body_no_decl y.0 y.1.0 y.1.1.0 r))

-- members

abbrev end_form : Lead → EndForm
end_form lead.Semicolon = NoBody
end_form _ = WithBody

end_picks : (i : EndForm) (x : Tree (by_end i)) (r : List Sign) → end_form (lead_at (spell (by_end i) x r)) ≡ i
end_picks NoBody x r = refl
end_picks WithBody x r = refl

end_each : {P : List Sign → Type 0} (i : EndForm) → Apart (by_end i) P
end_each NoBody = tok_then apart_end
end_each WithBody = free_then body_apart apart_end

ending_apart : {P : List Sign → Type 0} → Apart ending P
ending_apart = apart_any (λ w. end_form (lead_at w)) (λ i x r p. end_picks i x r) end_each

-- in front of what neither goes on with a list nor begins to throw
pub record NoThrows (r : List Sign) : Type 0 where
  pub no_throws : lead_at r ≢ lead.Throws
  pub no_comma : lead_at r ≢ lead.Comma

throws_apart : Apart throws NoThrows
throws_apart = tok_then (apart_seq names_apart apart_end (λ y r p. p.no_comma))

maybe_throws_apart : Apart (Opt throws) NoThrows
maybe_throws_apart = apart_opt throws_apart (λ y w r p e. p.no_throws (ap lead_at e))

-- in front of no modifier
abbrev NoModifier : List Sign → Type 0
NoModifier r = is_modifier (lead_at r) ≡ false

modifiers_apart : Apart (Star (One Modifiers)) NoModifier
modifiers_apart = free_star apart_one (λ y w r p e. false≢true (sym p ∙ (ap (λ w. is_modifier (lead_at w)) e ∙ y.is_in_set)))

head_apart : {P : List Sign → Type 0} → Apart head P
head_apart = apart_seq modifiers_apart (apart_seq outcome_apart (tok_then apart_end) (λ y r p e. cc)) (λ y r p. outcome_no_modifier y.0 _)

field_apart : {P : List Sign → Type 0} → Apart (by_member FieldMember) P
field_apart = apart_seq modifiers_apart (apart_seq ty_apart (tok_then (tok_then apart_end)) (λ y r p e. cc)) (λ y r p. is_modifier-base y.0.0.lead y.0.0.is_in_set)

method_apart : {P : List Sign → Type 0} → Apart (by_member MethodMember) P
method_apart =
    apart_seq modifiers_apart (apart_seq outcome_apart
    (tok_then (tok_then (apart_seq maybe_types_apart
    (tok_then (apart_seq maybe_throws_apart
    (free_then ending_apart apart_end)
    (λ y r p. record { no_throws = ending_no_throws y.0 r; no_comma = ending_no_comma y.0 r })))
    (λ y r p. refl))))
    (λ y r p e. cc)) (λ y r p. outcome_no_modifier y.0 _)

-- a field isn't spelled as a method is: behind their head stand a semicolon and a parenthesis
field_no_method : (x : Tree (by_member FieldMember)) (y : Tree (by_member MethodMember)) (r s : List Sign) → spell (by_member FieldMember) x r ≢ spell (by_member MethodMember) y s
field_no_method x y r s h =
    let same = (head_apart {P = Every}).same (head_part (FieldMember, x)) (head_part (MethodMember, y)) (tail_part (FieldMember, x) r) (tail_part (MethodMember, y) s) tt tt h in
    let e = ap lead_at same.1 in cc

member_apart : {P : List Sign → Type 0} → Apart member P
member_apart {P} = record { same = go }
  where
    go : (x y : Tree member) (r s : List Sign) → P r → P s → spell member x r ≡ spell member y s → (x ≡ y) × (r ≡ s)
    go (FieldMember, x) (FieldMember, y) r s p q h = let f = (field_apart {P = P}).same x y r s p q h in (ap (λ z. (FieldMember, z)) f.0, f.1)
    go (MethodMember, x) (MethodMember, y) r s p q h = let f = (method_apart {P = P}).same x y r s p q h in (ap (λ z. (MethodMember, z)) f.0, f.1)
    go (FieldMember, x) (MethodMember, y) r s p q h = absurd (field_no_method x y r s h)
    go (MethodMember, x) (FieldMember, y) r s p q h = absurd (field_no_method y x s r (sym h))

-- classes

-- in front of no parent
abbrev NoParent : List Sign → Type 0
NoParent r = lead_at r ≢ lead.Extends

-- in front of what neither goes on with a list nor begins one of interfaces
pub record NoInterface (r : List Sign) : Type 0 where
  pub no_implements : lead_at r ≢ lead.Implements
  pub no_comma : lead_at r ≢ lead.Comma

extends_apart : Apart (Opt extends) NoParent
extends_apart = apart_opt (tok_then (tok_then apart_end)) (λ y w r p e. p (ap lead_at e))

implements_apart : Apart (Opt implements) NoInterface
implements_apart = apart_opt (tok_then (apart_seq names_apart apart_end (λ y r p. p.no_comma))) (λ y w r p e. p.no_implements (ap lead_at e))

-- in front of no member
abbrev NoMember : List Sign → Type 0
NoMember r = begins_member (lead_at r) ≡ false

members_apart : Apart (Star member) NoMember
members_apart = free_star member_apart (λ y w r p e. false≢true (sym p ∙ (ap (λ w. begins_member (lead_at w)) e ∙ member_begins y w)))

class_apart : {P : List Sign → Type 0} → Apart class P
class_apart =
    apart_seq modifiers_apart (free_then apart_one (tok_then (apart_seq extends_apart
    (apart_seq implements_apart
    (tok_then (apart_seq members_apart (tok_then apart_end) (λ y r p. refl)))
    (λ y r p. record { no_implements = λ e. cc; no_comma = λ e. cc }))
    (λ y r p. implements_no_extends y.0 y.1.0 _))))
    (λ y r p. is_modifier-class_word y.0.lead y.0.is_in_set)

program_apart : Apart program (λ r. r ≡ [])
program_apart = free_star class_apart (λ y w r p e. class_begins y w (ap lead_at (sym e ∙ p)))

-- tokens spell one program at most
pub program_same : (x y : Tree program) → spell program x [] ≡ spell program y [] → x ≡ y
program_same x y h = (program_apart.same x y [] [] refl refl h).0
