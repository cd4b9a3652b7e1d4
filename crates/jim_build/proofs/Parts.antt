-- The parts of lines, declarations and members that the next token tells.
use Rattle.std.proofs.Common.{◌≡◌, ◌≢◌, ℕ, true, false, List, [], ◌∷◌, ◌++◌, None, Some, refl, sym, ap, ◌∙◌}
use Rattle.std.proofs.lemmas.Bool.{false≢true}
use Rattle.jim_text.specs.declared.lead.Lead.{Lead}
use Rattle.jim_text.specs.declared.lead.Lead.TheVariants as lead
use Rattle.jim_signs.specs.declared.seen.Sign.{Sign}
use Rattle.jim_grammar.specs.Forms.{LabelLine, StmtLine, TypeResult, FieldMember, MethodMember, NoBody, WithBody, TypeDecl, OddDecl}
use Rattle.jim_grammar.specs.Expressions.{Tree, Opt, spell, sign}
use Rattle.jim_grammar.specs.Grammar.{ty, names, stmt, line, decl, member, ending, body, throws, implements}
use Rattle.jim_grammar.specs.Sets.{is_base, is_odd_type}
use Rattle.jim_stmts.specs.Leads.{lead_at, second_at}
use Rattle.jim_stmts.specs.Meanings.{id, names_of, stmt_of}
use Rattle.jim_build.specs.Splits.{declared, declared_by}
use Rattle.jim_build.specs.Decls.{locals_in}
use Rattle.jim_build.specs.Bodies.{stmts_of, labels_from, body_of}
use Rattle.jim_build.specs.Members.{ending_of, fields_of, methods_of}
use Rattle.jim_build.specs.Splits.{head, head_of, method_tail, method_by, field_by}
use Rattle.jim_build.specs.Classes.{interfaces_of}
use Rattle.jim_build.proofs.Begins.{stmt_no_label}

-- what a member begins with
abbrev pub head_part : Tree member → Tree head
head_part (FieldMember, (mods, (t, (f, _)))) = (mods, ((TypeResult, (t, tt)), (f, tt)))
head_part (MethodMember, (mods, (t, (m, _)))) = (mods, (t, (m, tt)))

-- what it spells behind that
abbrev pub tail_part : Tree member → List Sign → List Sign
tail_part (FieldMember, (_, (_, (_, (s, _))))) r = sign lead.Semicolon s ∷ r
tail_part (MethodMember, (_, (_, (_, tail)))) r = spell method_tail tail r

-- a member spells its head and then its tail
pub member_parts : (x : Tree member) (r : List Sign) → spell member x r ≡ spell head (head_part x) (tail_part x r)
member_parts (FieldMember, x) r = refl
member_parts (MethodMember, x) r = refl

-- a line with a colon is a label
pub line_label : (x : Tree line) (w r : List Sign) → w ≡ spell line x r → lead_at w ≡ lead.Name → second_at w ≡ lead.Colon
    → (n c : ℕ) × (w ≡ sign lead.Name n ∷ sign lead.Colon c ∷ r) × (stmts_of (x ∷ []) ≡ []) × ((k : ℕ) → labels_from k (x ∷ []) ≡ record { name = id n; index = k } ∷ [])
line_label (LabelLine, (n, (c, _))) w r h k l = (n, c, h, refl, λ k. refl)
line_label (StmtLine, (x, _)) w r h k l = absurd (stmt_no_label x r (sym (ap lead_at h) ∙ k) (sym (ap second_at h) ∙ l))

-- another line is a statement
pub line_stmt : (x : Tree line) (w r : List Sign) → w ≡ spell line x r → ((lead_at w ≡ lead.Name) × (second_at w ≡ lead.Colon) → ⊥)
    → (y : Tree stmt) × (w ≡ spell stmt y r) × (stmts_of (x ∷ []) ≡ stmt_of y ∷ []) × ((k : ℕ) → labels_from k (x ∷ []) ≡ [])
line_stmt (LabelLine, _) w r h k = absurd (k (ap lead_at h, ap second_at h))
line_stmt (StmtLine, (x, _)) w r h k = (x, h, refl, λ k. refl)

-- no base is an odd type
is_odd_type-base : (l : Lead) → is_base l ≡ true → is_odd_type l ≡ true → ⊥
is_odd_type-base lead.Unknown h k = false≢true h
is_odd_type-base lead.NullType h k = false≢true h
is_odd_type-base l h k = false≢true k

-- what stands behind the type declares the locals
pub declared_locals : (x : Tree decl) → names_of (declared_by x).0 ≡ locals_in x
declared_locals (TypeDecl, x) = refl
declared_locals (OddDecl, x) = refl

-- a declaration with an odd type begins with that word
pub decl_odd : (x : Tree decl) (w r : List Sign) → w ≡ spell decl x r → is_odd_type (lead_at w) ≡ true → (s : Sign) × (w ≡ s ∷ spell declared (declared_by x) r)
decl_odd (OddDecl, (t, y)) w r h k = (sign t.lead t.text, h)
decl_odd (TypeDecl, ((b, _), y)) w r h k = absurd (is_odd_type-base b.lead b.is_in_set (sym (ap (λ w. is_odd_type (lead_at w)) h) ∙ k))

-- a declaration without an odd type begins with a type
pub decl_type : (x : Tree decl) (w r : List Sign) → w ≡ spell decl x r → is_odd_type (lead_at w) ≡ false → (t : Tree ty) × (w ≡ spell ty t (spell declared (declared_by x) r))
decl_type (TypeDecl, (t, y)) w r h k = (t, h)
decl_type (OddDecl, (t, y)) w r h k = absurd (false≢true (sym k ∙ (ap (λ w. is_odd_type (lead_at w)) h ∙ t.is_in_set)))

-- an ending with a semicolon is no body
pub ending_none : (x : Tree ending) (w r : List Sign) → w ≡ spell ending x r → lead_at w ≡ lead.Semicolon → (s : Sign) × (w ≡ s ∷ r) × (ending_of x ≡ None)
ending_none (NoBody, (s, _)) w r h k = (sign lead.Semicolon s, h, refl)
ending_none (WithBody, _) w r h k = let e = ap lead_at h in absurd (cc (e, k))

-- an ending without a semicolon is a body
pub ending_body : (x : Tree ending) (w r : List Sign) → w ≡ spell ending x r → lead_at w ≢ lead.Semicolon → (b : Tree body) × (w ≡ spell body b r) × (ending_of x ≡ Some (body_of b))
ending_body (NoBody, _) w r h k = absurd (k (ap lead_at h))
ending_body (WithBody, (b, _)) w r h k = (b, h, refl)

-- a member with a semicolon behind its head is a field
pub member_field : (x : Tree member) (w r : List Sign) → w ≡ tail_part x r → lead_at w ≡ lead.Semicolon
    → (s : Sign) × (w ≡ s ∷ r) × (fields_of (x ∷ []) ≡ field_by (head_of (head_part x)) ∷ []) × (methods_of (x ∷ []) ≡ [])
member_field (FieldMember, (mods, (t, (f, (s, _))))) w r h k = (sign lead.Semicolon s, h, refl, refl)
member_field (MethodMember, _) w r h k = let e = ap lead_at h in absurd (cc (e, k))

-- a member without a semicolon behind its head is a method
pub member_method : (x : Tree member) (w r : List Sign) → w ≡ tail_part x r → lead_at w ≢ lead.Semicolon
    → (y : Tree method_tail) × (w ≡ spell method_tail y r) × (fields_of (x ∷ []) ≡ []) × (methods_of (x ∷ []) ≡ method_by (head_of (head_part x)) y ∷ [])
member_method (FieldMember, _) w r h k = absurd (k (ap lead_at h))
member_method (MethodMember, (mods, (t, (m, tail)))) w r h k = (tail, h, refl, refl)

-- the fields of a member, and of those behind it
pub split_fields : (x : Tree member) (xs : List (Tree member)) → fields_of (x ∷ xs) ≡ fields_of (x ∷ []) ++ fields_of xs
split_fields (FieldMember, _) xs = refl
split_fields (MethodMember, _) xs = refl

-- the methods of a member, and of those behind it
pub split_methods : (x : Tree member) (xs : List (Tree member)) → methods_of (x ∷ xs) ≡ methods_of (x ∷ []) ++ methods_of xs
split_methods (FieldMember, _) xs = refl
split_methods (MethodMember, _) xs = refl

-- behind `throws` stand names
pub throws_names : (x : Tree (Opt throws)) (w r : List Sign) → w ≡ spell (Opt throws) x r → lead_at r ≢ lead.Throws → lead_at w ≡ lead.Throws
    → (s : Sign) × (ns : Tree names) × (w ≡ s ∷ spell names ns r)
throws_names None w r h n k = absurd (n (sym (ap lead_at h) ∙ k))
throws_names (Some (t, (ns, _))) w r h n k = (sign lead.Throws t, ns, h)

-- behind `implements` stand names
pub implements_names : (x : Tree (Opt implements)) (w r : List Sign) → w ≡ spell (Opt implements) x r → lead_at r ≢ lead.Implements → lead_at w ≡ lead.Implements
    → (s : Sign) × (ns : Tree names) × (w ≡ s ∷ spell names ns r) × (interfaces_of x ≡ names_of ns)
implements_names None w r h n k = absurd (n (sym (ap lead_at h) ∙ k))
implements_names (Some (t, (ns, _))) w r h n k = (sign lead.Implements t, ns, h, refl)
