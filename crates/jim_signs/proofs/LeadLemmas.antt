-- No word and no mark is a name or a text.
use Rattle.std.proofs.Common.{◌≡◌, ℕ, ◌⊎◌, Bool, true, false, List, refl, sym, ap, ◌∙◌, inl, inr, true≢false}
use Rattle.jim_text.specs.declared.lead.Lead.{Lead}
use Rattle.jim_text.specs.declared.lead.Lead.TheVariants.{Name, Text}
use Rattle.jim_text.specs.Words.{look_up, words, marks}
use Rattle.jim_text.proofs.TableLemmas.{look_up-passes}

names_none : Lead → Bool
names_none Name = false
names_none Text = false
names_none lead = true

abbrev pub IsNaming : Lead → Type 0
IsNaming lead = (lead ≡ Name) ⊎ (lead ≡ Text)

not_naming : (lead : Lead) → names_none lead ≡ true → ¬ (IsNaming lead)
unfolding names_none
not_naming lead passes naming = elim naming [ inl e ↦ true≢false (sym passes ∙ ap names_none e) | inr e ↦ true≢false (sym passes ∙ ap names_none e) ]

-- a word or a mark is neither a name nor a text
pub word_names_none : (text : List ℕ) → ¬ (IsNaming (look_up words text))
unfolding names_none words
word_names_none text = not_naming (look_up words text) (look_up-passes names_none words text refl refl)

pub mark_names_none : (text : List ℕ) → ¬ (IsNaming (look_up marks text))
unfolding names_none marks
mark_names_none text = not_naming (look_up marks text) (look_up-passes names_none marks text refl refl)
