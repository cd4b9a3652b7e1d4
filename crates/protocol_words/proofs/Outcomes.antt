-- Each word is one thing at most.
use Rattle.std.proofs.Common.{◌≡◌, ℕ, zero, suc, List, [], ◌∷◌, Some, length, map, slice_get, refl, ap, subst, ◌∙◌, arith}
use Rattle.std.proofs.lemmas.List.{take_all}
use Rattle.lists.specs.Lists.{IsLeast, Has, IsApart, Each, FirstSeen}
use Rattle.link_laws.proofs.Lists.{first_seen_apart}
use Rattle.link_laws.proofs.OneList.{each_one, first_seen_one}
use Rattle.link_rules.specs.Accessed.{linked_class_names}
use Rattle.link_rules.specs.Linked.{LinkedProgram}
use Rattle.link_sites.specs.Sites.{IsNamedClass}
use Rattle.step_rules.proofs.Determined.{least_one}
use Rattle.track_rules.specs.declared.row.ProtocolRow.{ProtocolRow}
use Rattle.track_rules.specs.Protocols.{AreNames, Breaks, HasTooManyStates, IsNoProtocol, IsNumbered, IsOfUnknownClass, IsProtocolOf, NamedProtocol, NamedRow, NamesTooMany, ProtocolParts, Spells, head_text, named_events, named_states, row_text}
use Rattle.protocol_words.specs.Laws.{HasOneOutcome, is_protocol, breaks_at, crowds_at, lacks_class}
use Rattle.protocol_words.proofs.Counting.{few_names}
use Rattle.lists.proofs.Cutting.{cut_first}
use Rattle.protocol_words.proofs.Parts.{parts_one, spelled_parts}
use Rattle.protocol_words.proofs.Rows.{row_text_one, unbroken}
use Rattle.protocol_words.proofs.Spelled.{head_unbroken}

-- rows of the same texts are the same
rows_one : (rows others : List NamedRow) → ((row : NamedRow) → Has rows row → AreNames row) → ((row : NamedRow) → Has others row → AreNames row)
    → map row_text rows ≡ map row_text others → rows ≡ others
rows_one [] [] p q e = refl
rows_one [] (o ∷ os) p q e = cc
rows_one (r ∷ rs) [] p q e = cc
rows_one (r ∷ rs) (o ∷ os) p q e =
    let first : row_text r ≡ row_text o = cc in
    let rest : map row_text rs ≡ map row_text os = cc in
    let head = row_text_one r o (p r (0, refl)) (q o (0, refl)) first in
    let tail = rows_one rs os (λ x h. p x (suc h.0, h.1)) (λ x h. q x (suc h.0, h.1)) rest in
    ap (λ z. z ∷ rs) head ∙ ap (λ zs. o ∷ zs) tail

-- a word spells one protocol
pub spells_one : (word : List ℕ) (j k : NamedProtocol) → Spells word j → Spells word k → j ≡ k
spells_one word j k p q =
    let parts = parts_one word (head_text j.class j.first ∷ map row_text j.rows) (head_text k.class k.first ∷ map row_text k.rows) (spelled_parts word j p) (spelled_parts word k q) in
    let texts : head_text j.class j.first ≡ head_text k.class k.first = cc in
    let rest : map row_text j.rows ≡ map row_text k.rows = cc in
    let heads = cut_first 32 j.class j.first k.class k.first p.class.no_blank q.class.no_blank texts in
    let rows = rows_one j.rows k.rows p.rows q.rows rest in
    (λ i. record { class = heads.0 i; first = heads.1 i; rows = rows i })

-- no part of a word that spells one breaks the grammar
pub spelled_unbroken : (word : List ℕ) (k : NamedProtocol) → Spells word k → (at : ℕ) → IsNoProtocol word at → ⊥
spelled_unbroken word k spells at broken =
    let parts = parts_one word broken.0 (head_text k.class k.first ∷ map row_text k.rows) broken.1 (spelled_parts word k spells) in
    by at (subst (λ ps. Breaks ps at) parts broken.2.holds)
  where
    by : (at : ℕ) → Breaks (head_text k.class k.first ∷ map row_text k.rows) at → ⊥
    by zero breaks =
        head_unbroken (head_text k.class k.first) k.class k.first (map row_text k.rows) (record { is_text = refl; is_first = spells.class; is_second = spells.first }) breaks
    by (suc m) breaks =
        let all = take_all (length (map row_text k.rows)) (map row_text k.rows) (omega arith) in
        unbroken (head_text k.class k.first) (map row_text k.rows) (length (map row_text k.rows)) k.rows (record { texts = all; names = spells.rows; apart = spells.apart })
        (suc m) (omega arith) breaks.0 breaks

-- names have one number each
numbers_one : (states events : List (List ℕ)) → IsApart states → IsApart events → (named : NamedRow) (a b : ProtocolRow) → IsNumbered states events named a → IsNumbered states events named b
    → a ≡ b
numbers_one states events p q named a b x y =
    let from = p a.from b.from named.from x.from y.from in
    let event = q a.event b.event named.event x.event y.event in
    let to = p a.to b.to named.to x.to y.to in
    (λ i. record { from = from i; event = event i; to = to i })

-- a word is one protocol
protocols_one : (p : LinkedProgram) (word : List ℕ) (a b : ProtocolParts) → IsProtocolOf p word a → IsProtocolOf p word b → a ≡ b
protocols_one p word a b x y =
    let named = spells_one word x.named y.named x.spelled y.spelled in
    let states = first_seen_one (subst (λ k. FirstSeen (named_states k) a.states) named x.states) b.states y.states in
    let events = first_seen_one (subst (λ k. FirstSeen (named_events k) a.events) named x.events) b.events y.events in
    let each = subst (λ ss. Each (IsNumbered ss b.events) y.named.rows a.rows) states
    (subst (λ es. Each (IsNumbered a.states es) y.named.rows a.rows) events (subst (λ (k : NamedProtocol). Each (IsNumbered a.states a.events) k.rows a.rows) named x.rows)) in
    let rows = each_one (IsNumbered b.states b.events) y.named.rows a.rows b.rows
    (λ r m n. numbers_one b.states b.events (first_seen_apart y.states) (first_seen_apart y.events) r m n) each y.rows in
    let class = least_one (λ i. slice_get (linked_class_names p.classes) i ≡ Some y.named.class) a.class b.class
    (subst (λ (k : NamedProtocol). IsNamedClass p k.class a.class) named x.class) y.class in
    (λ i. record { class = class i; states = states i; events = events i; rows = rows i })

-- where a part brings a 17th state the word is no protocol
crowded_no_protocol : (p : LinkedProgram) (word : List ℕ) (k : ProtocolParts) (at : ℕ) → IsProtocolOf p word k → HasTooManyStates word at → ⊥
crowded_no_protocol p word k at x y =
    let named = spells_one word y.0 x.named y.1 x.spelled in
    few_names x.named k.states x.states x.few at (subst (λ k. NamesTooMany k at) named y.2.holds)

-- where no class has the name the word is no protocol
unknown_no_protocol : (p : LinkedProgram) (word : List ℕ) (k : ProtocolParts) → IsProtocolOf p word k → IsOfUnknownClass p word → ⊥
unknown_no_protocol p word k x y =
    let named = spells_one word x.named y.named x.spelled y.spelled in
    y.unknown (k.class, subst (λ (n : NamedProtocol). slice_get (linked_class_names p.classes) k.class ≡ Some n.class) named x.class.holds)

-- and no part brings a 17th state
unknown_uncrowded : (p : LinkedProgram) (word : List ℕ) (at : ℕ) → HasTooManyStates word at → IsOfUnknownClass p word → ⊥
unknown_uncrowded p word at x y = y.few at (subst (λ k. NamesTooMany k at) (spells_one word x.0 y.named x.1 y.spelled) x.2.holds)

-- one part is the first that breaks the grammar
breaks_one : (word : List ℕ) (m n : ℕ) → IsNoProtocol word m → IsNoProtocol word n → m ≡ n
breaks_one word m n x y = least_one (Breaks y.0) m n (subst (λ ps. IsLeast (Breaks ps) m) (parts_one word x.0 y.0 x.1 y.1) x.2) y.2

-- one part is the first that brings a 17th state
crowds_one : (word : List ℕ) (m n : ℕ) → HasTooManyStates word m → HasTooManyStates word n → m ≡ n
crowds_one word m n x y = least_one (NamesTooMany y.0) m n (subst (λ k. IsLeast (NamesTooMany k) m) (spells_one word x.0 y.0 x.1 y.1) x.2) y.2

pub outcome_one : HasOneOutcome
outcome_one p word (is_protocol a) (is_protocol b) x y = ap is_protocol (protocols_one p word a b x y)
outcome_one p word (is_protocol a) (breaks_at n) x y = absurd (spelled_unbroken word x.named x.spelled n y)
outcome_one p word (is_protocol a) (crowds_at n) x y = absurd (crowded_no_protocol p word a n x y)
outcome_one p word (is_protocol a) lacks_class x y = absurd (unknown_no_protocol p word a x y)
outcome_one p word (breaks_at m) (is_protocol b) x y = absurd (spelled_unbroken word y.named y.spelled m x)
outcome_one p word (breaks_at m) (breaks_at n) x y = ap breaks_at (breaks_one word m n x y)
outcome_one p word (breaks_at m) (crowds_at n) x y = absurd (spelled_unbroken word y.0 y.1 m x)
outcome_one p word (breaks_at m) lacks_class x y = absurd (spelled_unbroken word y.named y.spelled m x)
outcome_one p word (crowds_at m) (is_protocol b) x y = absurd (crowded_no_protocol p word b m y x)
outcome_one p word (crowds_at m) (breaks_at n) x y = absurd (spelled_unbroken word x.0 x.1 n y)
outcome_one p word (crowds_at m) (crowds_at n) x y = ap crowds_at (crowds_one word m n x y)
outcome_one p word (crowds_at m) lacks_class x y = absurd (unknown_uncrowded p word m x y)
outcome_one p word lacks_class (is_protocol b) x y = absurd (unknown_no_protocol p word b y x)
outcome_one p word lacks_class (breaks_at n) x y = absurd (spelled_unbroken word x.named x.spelled n y)
outcome_one p word lacks_class (crowds_at n) x y = absurd (unknown_uncrowded p word n y x)
outcome_one p word lacks_class lacks_class x y = refl
