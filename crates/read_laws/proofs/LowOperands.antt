-- The names of a program's types, operands and signatures are low where their trees are.
use Rattle.std.proofs.Common.{◌≡◌, ℕ, ◌<◌, true, List, [], ◌∷◌, ◌++◌, flat_map, Some, None, refl, inl, inr}
use Rattle.std.specs.List.{AllByRecursion}
use Rattle.std.proofs.lemmas.Bool.{false≢true}
use Rattle.jim_ast.specs.declared.names.NameId.{NameId}
use Rattle.jim_text.specs.declared.lead.Lead.{Lead}
use Rattle.jim_text.specs.declared.lead.Lead.TheVariants as lead
use Rattle.jim_signs.specs.Signs.{IsBelow}
use Rattle.jim_grammar.specs.Sets.{is_base}
use Rattle.jim_grammar.specs.Forms.{LocalImm, NumberImm, TextImm, ClassImm, NullImm, VoidResult, TypeResult}
use Rattle.jim_grammar.specs.Expressions.{Re, Star, Opt, Tree, sign}
use Rattle.jim_grammar.specs.Grammar.{name, commas, comma_more, names, ty, types, imm, imms, fsig, outcome, msig}
use Rattle.jim_stmts.specs.Meanings.{id, more_of, commas_of, maybe_commas_of, names_of, base_by, ty_of, maybe_types_of, outcome_of, imm_of, args_of, fsig_of, msig_of}
use Rattle.link_rules.specs.Conditions.{base_names, type_names, field_sig_names, method_sig_names, operand_names}
use Rattle.read_laws.proofs.LowTrees.{IsLow}

-- names with numbers below a bound
abbrev pub Low : ℕ → List NameId → Type 0
Low n ids = AllByRecursion (λ (id : NameId). id.0 < n) ids

-- lists behind each other
pub low_append : (n : ℕ) (xs ys : List NameId) → Low n xs → Low n ys → Low n (xs ++ ys)
low_append n [] ys h k = k
low_append n (x ∷ xs) ys h k = (h.0, low_append n xs ys h.1 k)

-- the names of each of a list
pub low_flat : {X : Type 0} (n : ℕ) (f : X → List NameId) (xs : List X) → AllByRecursion (λ x. Low n (f x)) xs → Low n (flat_map f xs)
low_flat n f [] h = tt
low_flat n f (x ∷ xs) h = low_append n (f x) (flat_map f xs) h.0 (low_flat n f xs h.1)

-- what elements with commas between them mean has what each of them has
more_each : {V : Type 0} (n : ℕ) (a : Re) (f : Tree a → V) (P : V → Type 0) → ((x : Tree a) → IsLow n a x → P (f x)) → (xs : List (Tree (comma_more a)))
    → IsLow n (Star (comma_more a)) xs → AllByRecursion P (more_of a f xs)
more_each n a f P one [] h = tt
more_each n a f P one ((_, (x, _)) ∷ xs) ((_, (p, _)), h) = (one x p, more_each n a f P one xs h)

-- and the same behind the first of them
commas_each : {V : Type 0} (n : ℕ) (a : Re) (f : Tree a → V) (P : V → Type 0) → ((x : Tree a) → IsLow n a x → P (f x)) → (x : Tree (commas a))
    → IsLow n (commas a) x → AllByRecursion P (commas_of a f x)
commas_each n a f P one (x, (xs, _)) (p, (h, _)) = (one x p, more_each n a f P one xs h)

-- and where there may be none
maybe_commas_each : {V : Type 0} (n : ℕ) (a : Re) (f : Tree a → V) (P : V → Type 0) → ((x : Tree a) → IsLow n a x → P (f x)) → (x : Tree (Opt (commas a)))
    → IsLow n (Opt (commas a)) x → AllByRecursion P (maybe_commas_of a f x)
maybe_commas_each n a f P one None h = tt
maybe_commas_each n a f P one (Some x) h = commas_each n a f P one x h

module _ (n : ℕ) where
  -- names with commas between them
  pub names_low : (x : Tree names) → IsLow n names x → Low n (names_of x)
  names_low x h = commas_each n name id (λ (i : NameId). i.0 < n) (λ x p. p (inl refl)) x h

  -- what a type begins with: a word, or a name
  pub base_low : (l : Lead) (x : ℕ) → is_base l ≡ true → IsBelow n (sign l x) → Low n (base_names (base_by l x))
  base_low lead.Boolean x b h = tt
  base_low lead.Byte x b h = tt
  base_low lead.Short x b h = tt
  base_low lead.Char x b h = tt
  base_low lead.Int x b h = tt
  base_low lead.Long x b h = tt
  base_low lead.Float x b h = tt
  base_low lead.Double x b h = tt
  base_low lead.Name x b h = (h (inl refl), tt)
  base_low l x b h = absurd (false≢true b)

  -- a type
  pub type_low : (t : Tree ty) → IsLow n ty t → Low n (type_names (ty_of t))
  type_low (b, _) (p, _) = base_low b.lead b.text b.is_in_set p

  -- the type of a result
  pub outcome_low : (t : Tree outcome) → IsLow n outcome t → Low n (type_names (outcome_of t))
  outcome_low (VoidResult, _) h = tt
  outcome_low (TypeResult, (t, _)) (p, _) = type_low t p

  -- the types of parameters
  pub params_low : (t : Tree (Opt types)) → IsLow n (Opt types) t → Low n (flat_map type_names (maybe_types_of t))
  params_low t h = low_flat n type_names (maybe_types_of t) (maybe_commas_each n ty ty_of (λ t. Low n (type_names t)) type_low t h)

  -- an operand
  pub imm_low : (t : Tree imm) → IsLow n imm t → Low n (operand_names (imm_of t))
  imm_low (LocalImm, _) (p, _) = (p (inl refl), tt)
  imm_low (NumberImm, _) h = tt
  imm_low (TextImm, _) (p, _) = (p (inr refl), tt)
  imm_low (ClassImm, _) (_, (p, _)) = (p (inr refl), tt)
  imm_low (NullImm, _) h = tt

  -- the arguments of a call
  pub args_low : (t : Tree (Opt imms)) → IsLow n (Opt imms) t → Low n (flat_map operand_names (args_of t))
  args_low t h = low_flat n operand_names (args_of t) (maybe_commas_each n imm imm_of (λ i. Low n (operand_names i)) imm_low t h)

  -- the field that a statement names
  pub fsig_low : (t : Tree fsig) → IsLow n fsig t → Low n (field_sig_names (fsig_of t))
  fsig_low (_, (_, (_, (t, _)))) (_, (c, (_, (p, (f, _))))) = (c (inl refl), (f (inl refl), type_low t p))

  -- the method that a call names
  pub msig_low : (t : Tree msig) → IsLow n msig t → Low n (method_sig_names (msig_of t))
  msig_low (_, (_, (_, (t, (_, (_, (ts, _))))))) (_, (c, (_, (p, (m, (_, (ps, _))))))) =
      (c (inl refl), (m (inl refl), low_append n (type_names (outcome_of t)) (flat_map type_names (maybe_types_of ts)) (outcome_low t p) (params_low ts ps)))
