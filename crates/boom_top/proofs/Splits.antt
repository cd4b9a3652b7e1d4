-- A reply about a linked program is an answer, or a refusal of its status.
use Rattle.std.proofs.Common.{◌≡◌, ℕ, ◌⊎◌, List, [], ◌∷◌, ◌∙◌, ap, inl, inr, subst, sym}
use Rattle.link_rules.specs.Linked.{LinkedProgram}
use Rattle.link_rules.specs.WellLinked.{IsInForm}
use Rattle.report_text.specs.Lines.{text_of}
use Rattle.boom_top.specs.Parts.{IsGiven}
use Rattle.boom_top.specs.Refusals.{IsRefusedBy, refusal}
use Rattle.boom_top.specs.declared.status.Status.{Status}
use Rattle.boom_top.specs.declared.status.Status.TheVariants.{Done}

-- the reply is a refusal of its status, which is one that a text has
pub record Refuses (s : Status) (lines : List (List ℕ)) : Type 0 where
  pub told : lines ≡ refusal s ∷ []
  pub undone : s ≡ Done → ⊥
  pub given : IsGiven s

-- a reply that says so is one
pub refused_by : (by s : Status) (lines : List (List ℕ)) → (by ≡ Done → ⊥) → IsGiven by → IsRefusedBy by s lines → Refuses s lines
refused_by by s lines undone given is = record {
  told = is.1 ∙ ap (λ (x : Status). refusal x ∷ []) (sym is.0);
  undone = λ done. undone (sym is.0 ∙ done);
  given = subst IsGiven (sym is.0) given;
}

-- refusals of one status have one text
pub refusals_one : (s t : Status) (xs ys : List (List ℕ)) → s ≡ t → Refuses s xs → Refuses t ys → text_of xs ≡ text_of ys
refusals_one s t xs ys same a b = ap text_of (a.told ∙ ap (λ (x : Status). refusal x ∷ []) same ∙ sym b.told)

-- Replies of one status that are answers, or refusals of their status, have one text where the answers have.
one_text : (Says : List (List ℕ) → Type 0) → ((xs ys : List (List ℕ)) → Says xs → Says ys → text_of xs ≡ text_of ys) → (s t : Status) (xs ys : List (List ℕ)) → s ≡ t
    → (Says xs × (s ≡ Done)) ⊎ Refuses s xs → (Says ys × (t ≡ Done)) ⊎ Refuses t ys → text_of xs ≡ text_of ys
one_text Says one s t xs ys same (inl a) (inl b) = one xs ys a.0 b.0
one_text Says one s t xs ys same (inl a) (inr b) = absurd (b.undone (sym same ∙ a.1))
one_text Says one s t xs ys same (inr a) (inl b) = absurd (a.undone (same ∙ b.1))
one_text Says one s t xs ys same (inr a) (inr b) = refusals_one s t xs ys same a b

-- what answers or refuses is done or refuses
done_or_refused : (Says : List (List ℕ) → Type 0) (s : Status) (lines : List (List ℕ)) → (Says lines × (s ≡ Done)) ⊎ Refuses s lines
    → (s ≡ Done) ⊎ Refuses s lines
done_or_refused Says s lines (inl a) = inl a.1
done_or_refused Says s lines (inr a) = inr a

-- and its status is one that a text has
pub split_given : (s : Status) (lines : List (List ℕ)) → (s ≡ Done) ⊎ Refuses s lines → IsGiven s
split_given s lines (inl done) = subst IsGiven (sym done) tt
split_given s lines (inr refuses) = refuses.given

-- The replies to what is asked of a linked program are one: each is done, or refuses by its status; they have one status; and one text, where this is plain.
pub record AreOne (p : LinkedProgram) (Replies : Status → List (List ℕ) → Type 0) (Plain : Type 0) : Type 0 where
  pub split : (s : Status) (lines : List (List ℕ)) → Replies s lines → (s ≡ Done) ⊎ Refuses s lines
  pub status : (s t : Status) (xs ys : List (List ℕ)) → Replies s xs → Replies t ys → s ≡ t
  pub text : IsInForm p → Plain → (s t : Status) (xs ys : List (List ℕ)) → s ≡ t → Replies s xs → Replies t ys → text_of xs ≡ text_of ys

-- So they are where each says what is asked or refuses by its status, and what they say has one text.
pub ones : (p : LinkedProgram) (Replies : Status → List (List ℕ) → Type 0) (Plain : Type 0) (Says : List (List ℕ) → Type 0)
    → ((s : Status) (lines : List (List ℕ)) → Replies s lines → (Says lines × (s ≡ Done)) ⊎ Refuses s lines)
    → ((s t : Status) (xs ys : List (List ℕ)) → Replies s xs → Replies t ys → s ≡ t)
    → (IsInForm p → Plain → (xs ys : List (List ℕ)) → Says xs → Says ys → text_of xs ≡ text_of ys) → AreOne p Replies Plain
ones p Replies Plain Says split status one = record {
  split = λ s lines a. done_or_refused Says s lines (split s lines a);
  status = status;
  text = λ form plain s t xs ys same a b. one_text Says (one form plain) s t xs ys same (split s xs a) (split t ys b);
}
