-- A word by its parts: that of the class and the first state, and the rows.
use Rattle.std.proofs.Common.{◌≡◌, ℕ, zero, suc, ◌-◌, ◌<◌, ◌≤◌, List, [], ◌∷◌, Bor, Some, length, map, get_or, drop, take, sym, ap, subst, inl, inr, arith}
use Rattle.std.proofs.lemmas.List.{take_all}
use Rattle.track_rules.specs.Protocols.{AreParts, Breaks, IsNoProtocol, NamedRow, Spells, head_text, row_text}
use Rattle.protocol_words.specs.declared.error.ProtocolError.{ProtocolError}
use Rattle.protocol_words.specs.declared.error.ProtocolError.TheVariants.{NoMemory, NotProtocol, TooManyStates, UnknownClass}
use Rattle.protocol_words.specs.Spellings.{AreRows, BreaksAfterHead, IsHead, IsUnspelled, texts}
use Rattle.protocol_words.proofs.Parts.{parts_text}

-- the first part, which has its form, doesn't break the grammar
pub head_unbroken : (part class first : List ℕ) (parts : List (List ℕ)) → IsHead part class first → Breaks (part ∷ parts) 0 → ⊥
head_unbroken part class first parts head (within, inl none) = none (class, first, ap Some head.is_text, head.is_first, head.is_second)
head_unbroken part class first parts head (within, inr again) = let behind = again.there.behind in absurd (omega arith)

-- a first part that isn't two names is the first that breaks the grammar
pub no_form : (word part : List ℕ) (parts : List (List ℕ)) → AreParts word (part ∷ parts) → ((class first : List ℕ) → IsHead part class first → ⊥) → IsNoProtocol word 0
no_form word part parts is none = (
  part ∷ parts,
  is,
  record {
    holds = (omega arith, inl (λ form. let text : part ≡ head_text form.0 form.1 = (let there = form.2 in cc) in none form.0 form.1 (record { is_text = text; is_first = form.3; is_second = form.4 })));
    first = λ m below breaks. absurd (omega (arith, below));
  },
)

module _ (word part class first : List ℕ) (parts : List (List ℕ)) where
  -- a word whose first part is two names, and whose other parts are rows, spells a protocol
  pub spelled_by : (rows : List NamedRow) → AreParts word (part ∷ parts) → IsHead part class first → AreRows parts rows → Spells word (record { class = class; first = first; rows = rows })
  spelled_by rows is names are =
      let head = names.is_text in
      let rest = are.texts in
      let same : part ∷ parts ≡ head_text class first ∷ map row_text rows = cc (head, rest) in
      record {
        is_text = parts_text word (record { class = class; first = first; rows = rows }) (subst (AreParts word) same is);
        class = names.is_first;
        first = names.is_second;
        rows = are.names;
        apart = are.apart;
      }

  -- where one of the other parts is the first of them that breaks the grammar it is the word's first that does
  pub unspelled_by : AreParts word (part ∷ parts) → IsHead part class first → (at : ℕ)
      → (0 < at) × Breaks (part ∷ parts) at × ((m : ℕ) → 0 < m → m < at → Breaks (part ∷ parts) m → ⊥) → IsNoProtocol word at
  unspelled_by is names at these = (part ∷ parts, is, record { holds = these.1; first = λ m below breaks. before m below breaks })
    where
      before : (m : ℕ) → m < at → Breaks (part ∷ parts) m → ⊥
      before zero below breaks = head_unbroken part class first parts names breaks
      before (suc m) below breaks = these.2 (suc m) (omega arith) below breaks

-- the parts of a word are the first and the others
cut_head : (parts : List (Bor (List ℕ))) (head : Bor (List ℕ)) → head ≡ get_or parts 0 head → 0 < length (texts parts)
    → texts parts ≡ head.now ∷ texts (take (length parts - 1) (drop 1 parts))
cut_head [] head e some = absurd (omega arith)
cut_head (p ∷ ps) head e some =
    let enough : length ps ≤ length (p ∷ ps) - 1 = omega arith in
    let rest : take (length (p ∷ ps) - 1) ps ≡ ps = take_all (length (p ∷ ps) - 1) ps enough in
    rw rest (ap (λ (x : Bor (List ℕ)). x.now ∷ texts ps) (sym e))

-- the same of a word as it is cut
module _ (word : List ℕ) (parts : List (Bor (List ℕ))) (head : Bor (List ℕ)) (is : AreParts word (texts parts)) (at : head ≡ get_or parts 0 head) (class first : List ℕ) (names : IsHead head.now class first) where
  whole : AreParts word (head.now ∷ texts (take (length parts - 1) (drop 1 parts)))
  whole = subst (AreParts word) (cut_head parts head at is.some) is

  pub spelled : (rows : List NamedRow) → AreRows (texts (take (length parts - 1) (drop 1 parts))) rows → Spells word (record { class = class; first = first; rows = rows })
  spelled rows are = spelled_by word head.now class first (texts (take (length parts - 1) (drop 1 parts))) rows whole names are

  pub unspelled : (e : ProtocolError) → ((part : List ℕ) → BreaksAfterHead (part ∷ texts (take (length parts - 1) (drop 1 parts))) e) → IsUnspelled word e
  unspelled (NotProtocol at) breaks = unspelled_by word head.now class first (texts (take (length parts - 1) (drop 1 parts))) whole names at (breaks head.now)
  unspelled NoMemory breaks = tt
  unspelled (TooManyStates at) breaks = breaks []
  unspelled UnknownClass breaks = breaks []
