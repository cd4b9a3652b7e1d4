-- Constants, as they are used.
use Rattle.std.proofs.Common.{◌≡◌, ℕ, ◌+◌, ◌<◌, ◌++◌, List, [], ◌∷◌, Option, Some, length, take, get_or, slice_get, append_assoc, sym, ap, subst, ◌∙◌}
use Rattle.std.specs.List.{filter_map}
use Rattle.std.proofs.lemmas.List.{append-nil, take_more}
use Rattle.std.proofs.lemmas.List.Elements.{filter_map-append}
use Rattle.lists.proofs.Places.{slice_get-adds}
use Rattle.lists.specs.Lists.{Adds, FirstSeen}
use Rattle.jim_ast.specs.declared.names.NameId.{NameId}
use Rattle.jim_ast.specs.declared.syntax.Imm.{Imm}
use Rattle.jim_ast.specs.declared.syntax.Imm.TheVariants as imm
use Rattle.link_rules.specs.Linked.{class_text_in, text_in}
use Rattle.lists.specs.Lists.{next}
use Rattle.link_rules.specs.Names.{text_of}
use Rattle.link_codes.specs.declared.constants.Constants.{Constants}
use Rattle.link_codes.specs.Constants.{Extends, Uses}

-- constants keep their numbers as they are
pub extends_itself : (k : Constants) → Extends k k
extends_itself k = record { texts = λ i x h. h; class_texts = λ i x h. h }

-- and from step to step
pub extends_then : (a b c : Constants) → Extends a b → Extends b c → Extends a c
extends_then a b c p q = record { texts = λ i x h. q.texts i x (p.texts i x h); class_texts = λ i x h. q.class_texts i x (p.class_texts i x h) }

module _ (names : List (List ℕ)) where
  -- what is used by some operands, and then by others
  joined : (kind : Imm → Option (List ℕ)) (uses : List (List ℕ)) (xs ys : List Imm) → (uses ++ filter_map kind xs) ++ filter_map kind ys ≡ uses ++ filter_map kind (xs ++ ys)
  joined kind uses xs ys = append_assoc uses (filter_map kind xs) (filter_map kind ys) ∙ ap (λ l. uses ++ l) (sym (filter_map-append kind xs ys))

  -- some operands, and then others
  pub uses_then : (xs ys : List Imm) (a b c : Constants) → Uses names xs a b → Uses names ys b c → Uses names (xs ++ ys) a c
  uses_then xs ys a b c p q = record {
    kept = extends_then a b c p.kept q.kept;
    texts = λ uses h. subst (λ us. FirstSeen us c.texts) (joined (text_in names) uses xs ys) (q.texts (uses ++ filter_map (text_in names) xs) (p.texts uses h));
    class_texts = λ uses h.
        subst (λ us. FirstSeen us c.class_texts) (joined (class_text_in names) uses xs ys) (q.class_texts (uses ++ filter_map (class_text_in names) xs) (p.class_texts uses h));
  }

  -- one operand more
  pub uses_more : (operands : List Imm) (i : ℕ) (d : Imm) (a b c : Constants) → i < length operands → Uses names (take i operands) a b
      → Uses names (get_or operands i d ∷ []) b c → Uses names (take (i + 1) operands) a c
  uses_more operands i d a b c below p q =
      subst (λ xs. Uses names xs a c) (sym (take_more operands i d below)) (uses_then (take i operands) (get_or operands i d ∷ []) a b c p q)

  -- a text
  pub uses_text : (name : NameId) (text : List ℕ) (old new : Constants) → text ≡ text_of names name → Adds old.texts text new.texts → new.class_texts ≡ old.class_texts
      → Uses names (imm.Text name ∷ []) old new
  uses_text name text old new is added same = record {
    kept = record { texts = slice_get-adds old.texts new.texts text added; class_texts = λ i x h. subst (λ ts. slice_get ts i ≡ Some x) (sym same) h };
    texts = λ uses h. subst (λ t. FirstSeen (uses ++ t ∷ []) new.texts) is (next h added);
    class_texts = λ uses h. subst (λ us. FirstSeen us new.class_texts) (sym (append-nil uses)) (subst (FirstSeen uses) (sym same) h);
  }

  -- a class constant
  pub uses_class : (name : NameId) (text : List ℕ) (old new : Constants) → text ≡ text_of names name → Adds old.class_texts text new.class_texts → new.texts ≡ old.texts
      → Uses names (imm.ClassConst name ∷ []) old new
  uses_class name text old new is added same = record {
    kept = record { texts = λ i x h. subst (λ ts. slice_get ts i ≡ Some x) (sym same) h; class_texts = slice_get-adds old.class_texts new.class_texts text added };
    texts = λ uses h. subst (λ us. FirstSeen us new.texts) (sym (append-nil uses)) (subst (FirstSeen uses) (sym same) h);
    class_texts = λ uses h. subst (λ t. FirstSeen (uses ++ t ∷ []) new.class_texts) is (next h added);
  }
