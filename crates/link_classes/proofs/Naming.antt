-- Which class has which name, as classes come behind others.
use Rattle.std.proofs.Common.{◌≡◌, ◌≢◌, ℕ, zero, suc, ◌⊎◌, ◌++◌, Option, Some, None, List, [], ◌∷◌, length, length-set, replicate, slice_get, refl, sym, ap, subst, ◌∙◌, inl, inr, arith}
use Rattle.std.specs.List.{slice_set}
use Rattle.std.specs.Option.{option_or, unwrap_or}
use Rattle.std.proofs.lemmas.Bool.{cases_order}
use Rattle.std.proofs.lemmas.List.Elements.{All-nil}
use Rattle.lists.specs.Lists.{IsLeast, IsApart}
use Rattle.lists.proofs.Places.{slice_get-append_left, slice_get-below, slice_get-push, slice_get-pushed, slice_get-set_other, slice_get-set_same}
use Rattle.link_rules.specs.Classes.{DeclaredClass, IsCompleted, IsNamed, class_name, comes, is_left_out}
use Rattle.link_rules.specs.World.{IsClassNumber}
use Rattle.link_classes.specs.declared.order.ClassOrder.{ClassOrder}
use Rattle.link_classes.specs.declared.seen.ClassIn.{ClassIn}
use Rattle.link_classes.specs.Seen.{IsFirstNamed, IsOrder, IsPutIfNew, IsSeen, KnowsClasses, seen_class, seen_classes}
use Rattle.std.proofs.lemmas.List.{length-map, length-replicate}

module _ (classes : List DeclaredClass) (c : DeclaredClass) where
  pub named_kept : (text : List ℕ) (m : ℕ) → IsNamed classes text m → IsNamed (classes ++ c ∷ []) text m
  named_kept text m h = record { class = h.class; there = slice_get-append_left classes (c ∷ []) m h.class h.there; named = h.named }

  pub named_pushed : (text : List ℕ) (m : ℕ) → IsNamed (classes ++ c ∷ []) text m → IsNamed classes text m ⊎ ((m ≡ length classes) × (class_name c ≡ text))
  named_pushed text m h = elim (slice_get-pushed classes c m h.class h.there) [
    | inl before ↦ inl (record { class = h.class; there = before; named = h.named })
    | inr last ↦ inr (last.0, subst (λ k. class_name k ≡ text) last.1 h.named)
  ]

  least_kept : (text : List ℕ) (n : ℕ) → IsLeast (IsNamed classes text) n → IsLeast (IsNamed (classes ++ c ∷ []) text) n
  least_kept text n p = record {
    holds = named_kept text n p.holds;
    first = λ m below h. elim (named_pushed text m h) [
      | inl before ↦ p.first m below before
      | inr last ↦ omega (arith, last.0, slice_get-below classes n p.holds.class p.holds.there)
    ];
  }

  -- the first class of a name that the new class hasn't
  other_first : (text : List ℕ) (n : Option ℕ) → (class_name c ≡ text → ⊥) → IsFirstNamed classes text n → IsFirstNamed (classes ++ c ∷ []) text n
  other_first text (Some n) other p = least_kept text n p
  other_first text None other p = λ h. elim (named_pushed text h.0 h.1) [ inl before ↦ p (h.0, before) | inr last ↦ other last.1 ]

  -- the first class of the name that it has
  own_first : (n : Option ℕ) → IsFirstNamed classes (class_name c) n → IsFirstNamed (classes ++ c ∷ []) (class_name c) (option_or n (Some (length classes)))
  own_first (Some n) p = least_kept (class_name c) n p
  own_first None p = record {
    holds = record { class = c; there = slice_get-push classes c; named = refl };
    first = λ m below h. elim (named_pushed (class_name c) m h) [ inl before ↦ p (m, before) | inr last ↦ omega (arith, last.0) ];
  }

-- what stands in a list of one element, again and again
of_replicate : {X : Type 0} (n : ℕ) (x : X) (i : ℕ) (y : X) → slice_get (replicate n x) i ≡ Some y → x ≡ y
of_replicate zero x i y h = cc
of_replicate (suc n) x zero y h = cc
of_replicate (suc n) x (suc i) y h = of_replicate n x i y h

-- where there is no class, none has a name
knows_none : (texts : List (List ℕ)) → KnowsClasses texts [] (replicate (length texts) None)
knows_none texts = record {
  as_many = sym (length-replicate (length texts) None);
  each = λ i text n p q. subst (IsFirstNamed [] text) (of_replicate (length texts) None i n q) (λ h. cc (h.1.there));
}

-- what is kept where there is no class yet
pub order_none : (o : ClassOrder) (count : ℕ) → IsApart o.all.now.texts → count ≡ length o.all.now.texts → o.classes.items ≡ [] → o.numbers.items ≡ replicate count None → IsOrder o
order_none o count apart as_many none numbers = record {
  apart = apart;
  few = rw none (omega arith);
  seen = rw none (All-nil (IsSeen o.all.now.texts));
  knows = rw (none, numbers, as_many) (knows_none o.all.now.texts);
}

-- the table of first classes, when a class comes behind the others
pub knows_more : (texts : List (List ℕ)) (classes : List DeclaredClass) (numbers : List (Option ℕ)) (c : DeclaredClass) (name : ℕ) (known : Option ℕ)
    → IsApart texts → KnowsClasses texts classes numbers → slice_get texts name ≡ Some (class_name c) → slice_get numbers name ≡ Some known
    → KnowsClasses texts (classes ++ c ∷ []) (slice_set numbers name (option_or known (Some (length classes))))
knows_more texts classes numbers c name known apart knows there was = record {
  as_many = knows.as_many ∙ sym (length-set numbers name _);
  each = λ i text n p q. elim (cases_order i name) [
    | inl same ↦ own i text n p q same
    | inr other ↦ (let differs : i ≢ name = elim other [ inl below ↦ (λ e. omega (arith, e, below)) | inr above ↦ (λ e. omega (arith, e, above)) ] in
        other_first classes c text n
        (λ e. differs (apart i name text p (there ∙ ap Some e)))
        (knows.each i text n p (sym (slice_get-set_other numbers name i _ differs) ∙ q)))
  ];
}
  where
    own : (i : ℕ) (text : List ℕ) (n : Option ℕ) → slice_get texts i ≡ Some text → slice_get (slice_set numbers name (option_or known (Some (length classes)))) i ≡ Some n
        → i ≡ name → IsFirstNamed (classes ++ c ∷ []) text n
    own i text n p q same =
        let at : slice_get texts name ≡ Some text = subst (λ k. slice_get texts k ≡ Some text) same p in
        let texts_same : class_name c ≡ text = cc (at, there) in
        let set : slice_get (slice_set numbers name (option_or known (Some (length classes)))) name ≡ Some n =
        subst (λ k. slice_get (slice_set numbers name (option_or known (Some (length classes)))) k ≡ Some n) same q in
        let placed = slice_get-set_same numbers name (option_or known (Some (length classes))) (slice_get-below numbers name known was) in
        let numbers_same : option_or known (Some (length classes)) ≡ n = cc (set, placed) in
        let first = own_first classes c known (knows.each name (class_name c) known there was) in
        subst (λ t. IsFirstNamed (classes ++ c ∷ []) t n) texts_same (subst (IsFirstNamed (classes ++ c ∷ []) (class_name c)) numbers_same first)

-- the same of classes as they are kept
pub knows_pushed : (texts : List (List ℕ)) (classes new : List ClassIn) (numbers : List (Option ℕ)) (c : ClassIn) (name number : ℕ) (known : Option ℕ)
    → IsApart texts → KnowsClasses texts (seen_classes classes) numbers → slice_get texts name ≡ Some (class_name (seen_class c)) → slice_get numbers name ≡ Some known
    → number ≡ length classes → seen_classes new ≡ seen_classes classes ++ seen_class c ∷ []
    → KnowsClasses texts (seen_classes new) (slice_set numbers name (option_or known (Some number)))
knows_pushed texts classes new numbers c name number known apart knows there was last put =
    let counted : length (seen_classes classes) ≡ number = length-map classes seen_class ∙ sym last in
    let more = knows_more texts (seen_classes classes) numbers (seen_class c) name known apart knows there was in
    subst (λ xs. KnowsClasses texts xs (slice_set numbers name (option_or known (Some number)))) (sym put)
    (subst (λ n. KnowsClasses texts (seen_classes classes ++ seen_class c ∷ []) (slice_set numbers name (option_or known (Some n)))) counted more)

-- a class that is put if it is new, and the rest
pub completes : (old new rest all : List DeclaredClass) (c : DeclaredClass) → IsPutIfNew old c new → IsCompleted new rest all → IsCompleted old (c ∷ rest) all
completes old new rest all c put further = elim put [
  | inl p ↦ comes p.0 (subst (λ xs. IsCompleted xs rest all) p.1 further)
  | inr p ↦ is_left_out p.0 (subst (λ xs. IsCompleted xs rest all) p.1 further)
]

-- a class's number, or how many classes there are
pub number_or_length : (classes : List DeclaredClass) (text : List ℕ) (n : Option ℕ) → IsFirstNamed classes text n → IsClassNumber classes text (unwrap_or n (length classes))
number_or_length classes text (Some n) p = inl p
number_or_length classes text None p = inr (refl, λ m h. p (m, h))
