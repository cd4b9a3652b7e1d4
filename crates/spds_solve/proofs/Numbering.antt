-- Meets and their numbers.
use Rattle.std.proofs.Common.{◌≡◌, ℕ, List, [], ◌∷◌, ◌++◌, refl, sym, ap, ◌∙◌, subst, inl, inr}
use Rattle.std.proofs.lemmas.List.{map-append}
use Rattle.std.proofs.lemmas.Option.{get_or_from_slice_get}
use Rattle.call_side.specs.Bases.{AreMarks}
use Rattle.lists.proofs.Keys.{Adds-insert_key}
use Rattle.indexmap.specs.IndexSet.{insert_key}
use Rattle.lists.specs.Lists.{Adds, Has, IsApart}
use Rattle.lists.proofs.Places.{IsApart-adds}
use Rattle.link_laws.proofs.Lists.{at_map, map_at}
use Rattle.link_sites.specs.declared.place.Place.{Place}
use Rattle.spds_solve.specs.declared.met.Met.{Met}
use Rattle.spds_solve.specs.Mets.{call_at, numbers, numbers_of, string_of}
use Rattle.spds_solve.proofs.SameKey.{same_met, self_met}
use Rattle.spds_tables.specs.declared.numbered.Met.{Met as Numbers}
use Rattle.spds_tables.specs.contracts.numbered.MetPartialEq.TheImpl.{eq-value}
use Rattle.spds_tables.specs.Triples.{no_place}

-- the numbers of a meet of the list
pub has_numbers : (mets : List Met) (met : Met) → Has mets met → Has (numbers_of mets) (numbers met)
has_numbers mets met has = (has.0, map_at numbers mets has.0 met has.1)

-- the meet that has these numbers
pub numbered : (mets : List Met) (m : Numbers) → Has (numbers_of mets) m → (met : Met) × Has mets met × (m ≡ numbers met)
numbered mets m has = let at = at_map numbers mets has.0 m has.1 in (at.0, (has.0, at.1), at.2)

-- the numbers of a list are among those of one that has its meets
pub numbered_within : (few more : List Met) → ((met : Met) → Has few met → Has more met) → (m : Numbers) → Has (numbers_of few) m → Has (numbers_of more) m
numbered_within few more within m has =
    let at = numbered few m has in
    subst (Has (numbers_of more)) (sym at.2) (has_numbers more at.0 (within at.0 at.1))

-- a meet that is new is put last, and so are its numbers
pub added_numbers : (keys mid new : List Numbers) (found more : List Met) (met : Met) → keys ≡ numbers_of found → IsApart keys → (Has (numbers_of found) (numbers met) → ⊥)
    → mid ≡ keys → new ≡ insert_key (eq-value).it mid (numbers met) → more ≡ found ++ met ∷ [] → (new ≡ numbers_of more) × IsApart new
added_numbers keys mid new found more met are apart none same put e =
    let adds : Adds keys (numbers met) new = rw (put, same) (Adds-insert_key (eq-value).it same_met self_met keys (numbers met)) in (
      elim adds [
        | inl old ↦ absurd (none (subst (λ (ks : List Numbers). Has ks (numbers met)) are old.0))
        | inr last ↦ last.1 ∙ ap (λ (ks : List Numbers). ks ++ numbers met ∷ []) are ∙ sym (map-append numbers found (met ∷ [])) ∙ ap numbers_of (sym e)
      ],
      IsApart-adds keys new (numbers met) apart adds,
    )

-- the string of a word of marks
pub string_of-marks : (calls : List Place) (word : List ℕ) (string : List Place) → AreMarks calls word string → string_of calls word ≡ string
string_of-marks calls [] [] m = refl
string_of-marks calls [] (c ∷ string) m = absurd m
string_of-marks calls (k ∷ word) [] m = absurd m
string_of-marks calls (k ∷ word) (c ∷ string) m =
    let first : call_at calls k ≡ c = get_or_from_slice_get calls k c no_place m.0 in
    let rest : string_of calls word ≡ string = string_of-marks calls word string m.1 in
    cc
