-- A system over nodes and the one over their cells.
use Rattle.std.proofs.Common.{◌≡◌, ◌↔◌, ◌<◌, ◌≤◌, inl, inr, ℕ, zero, suc, List, [], ◌∷◌, ◌++◌, get_or, length, map, slice_get, Some, refl, sym, ap, ◌∙◌, subst, arith}
use Rattle.std.proofs.lemmas.Bool.{cases_lt}
use Rattle.std.proofs.lemmas.Option.{get_or_from_slice_get}
use Rattle.auto_table.specs.declared.rule.Rule.{Rule}
use Rattle.auto_table.specs.declared.rule.Rule.TheVariants.{Flow, Push, Pop}
use Rattle.lists.specs.Lists.{Has}
use Rattle.lists.proofs.Places.{slice_get-there}
use Rattle.lists.proofs.Joined.{Has-either, Has-left, Has-right}
use Rattle.post_star.specs.declared.bases.BaseStep.{BaseStep}
use Rattle.post_star.specs.declared.bases.Start.{Start}
use Rattle.post_star.specs.Derivations.{Derives}
use Rattle.post_star.specs.Index.{from_of}
use Rattle.post_star.specs.Measures.{to_of}
use Rattle.post_star.specs.Works.{IsTold, weight_of}
use Rattle.post_star.proofs.Joins.{derives_meant}
use Rattle.post_star.proofs.Scopes.{has_map}
use Rattle.weight_laws.specs.Law.{Domain, IsLawful}
use Rattle.rule_cells.specs.declared.cells.Cell.{Cell}
use Rattle.rule_cells.specs.Cells.{AreCells, AreContracted, moved}
use Rattle.rule_cells.specs.CellRules.{HaveCells, LeadToKept}
use Rattle.rule_cells.specs.Laws.{Contraction, IsContraction}
use Rattle.rule_cells.specs.Made.{head_at, offset_at, own_cell}
use Rattle.rule_cells.specs.Renamed.{AreNumbered, AreRenamed, number_in, renamed, renamed_start}
use Rattle.rule_cells.proofs.Carrying.{kept_head}
use Rattle.rule_cells.proofs.Extending.{contracted_both, derivations_extended, moved_to, moved_weight, ones_without_offset}
use Rattle.rule_cells.proofs.Renaming.{derivations_renamed}

module _ {X : Type 0} where
  -- what is read past the end
  get_or-past : (xs : List X) (i : ℕ) (d : X) → length xs ≤ i → get_or xs i d ≡ d
  get_or-past [] i d past = refl
  get_or-past (x ∷ xs) zero d past = absurd (omega arith)
  get_or-past (x ∷ xs) (suc i) d past = get_or-past xs i d (omega arith)

  -- an element of a list that was mapped comes from one of the list
  has_mapped : {Y : Type 0} (f : X → Y) (xs : List X) (y : Y) → Has (map f xs) y → (x : X) × Has xs x × (y ≡ f x)
  has_mapped f [] y has = cc has.1
  has_mapped f (x ∷ xs) y has = by has.0 has.1 (has_mapped f xs y)
    where
      by : (i : ℕ) → slice_get (map f (x ∷ xs)) i ≡ Some y → (Has (map f xs) y → (z : X) × Has xs z × (y ≡ f z)) → (z : X) × Has (x ∷ xs) z × (y ≡ f z)
      by zero at rest = (x, (0, refl), cc)
      by (suc i) at rest = let z = rest (i, at) in (z.0, (suc z.1.0, z.1.1), z.2)

moved_from : {W : Type 0} (d : Domain W) (head : ℕ → ℕ) (offset : ℕ → W) (r : Rule W) → from_of (moved d head offset r) ≡ head (from_of r)
moved_from d head offset (Flow from to weight) = refl
moved_from d head offset (Push from to mark weight) = refl
moved_from d head offset (Pop from mark to weight) = refl

module _ {W : Type 0} {d : Domain W} (l : IsLawful W d) (rules few : List (Rule W)) (kept : List ℕ) (made : List (Cell W)) (heads numbers : List ℕ)
    (ones : (r : Rule W) → Has rules r → weight_of r ≡ d.one) (cells : AreCells d rules kept (head_at d made) (offset_at d made))
    (within : (n : ℕ) → n < length made → head_at d made n < length made)
    (are : AreContracted d (head_at d made) (offset_at d made) rules few) (numbered : AreNumbered d made heads numbers) where
  abbrev head : ℕ → ℕ
  head = head_at d made

  abbrev offset : ℕ → W
  offset = offset_at d made

  abbrev number : ℕ → ℕ
  number = number_in numbers

  abbrev old : ℕ → ℕ
  old c = get_or heads c c

  no_offset : (n : ℕ) → offset n ≡ d.one
  no_offset = ones_without_offset l rules kept head offset cells ones

  -- nodes that the list doesn't have
  own_beyond : (n : ℕ) → length made ≤ n → head n ≡ n
  own_beyond n past = ap (λ (c : Cell W). c.head) (get_or-past made n (own_cell d n) past)

  number_beyond : (n : ℕ) → length made ≤ n → number n ≡ n
  number_beyond n past = get_or-past numbers n n (let many = numbered.many in omega (arith, many, past))

  -- the number of each node leads back to its head
  old_number : (n : ℕ) → old (number n) ≡ head n
  old_number n = elim (cases_lt n (length made)) [
    | inl low ↦
        let at = slice_get-there numbers n (let many = numbered.many in omega (arith, many, low)) in
        ap old (get_or_from_slice_get numbers n at.0 n at.1) ∙ get_or_from_slice_get heads at.0 (head n) at.0 (numbered.each n at.0 at.1)
    | inr past ↦
        ap old (number_beyond n past) ∙ get_or-past heads n n (let few = numbered.few in omega (arith, few, past)) ∙ sym (own_beyond n past)
  ]

  -- and is that of its head
  head_number : (n : ℕ) → number (head n) ≡ number n
  head_number n = elim (cases_lt n (length made)) [
    | inl low ↦
        let at = slice_get-there numbers n (let many = numbered.many in omega (arith, many, low)) in
        let its = slice_get-there numbers (head n) (let many = numbered.many in let below = within n low in omega (arith, many, below)) in
        let one : slice_get heads its.0 ≡ Some (head n) = numbered.each (head n) its.0 its.1 ∙ ap Some (cells.own n) in
        let same : its.0 ≡ at.0 = numbered.apart its.0 at.0 (head n) one (numbered.each n at.0 at.1) in
        get_or_from_slice_get numbers (head n) its.0 (head n) its.1 ∙ same ∙ sym (get_or_from_slice_get numbers n at.0 n at.1)
    | inr past ↦ ap number (own_beyond n past)
  ]

  -- a moved rule has the cells of the rule
  same_moved : (r : Rule W) → d.IsMeant (weight_of r) → renamed number (moved d head offset r) ≡ renamed number r
  same_moved (Flow from to weight) meant =
      ap (λ (k : ℕ). Flow k (number to) (d.extend (offset from) weight)) (head_number from)
      ∙ ap (Flow (number from) (number to)) (ap (λ (w : W). d.extend w weight) (no_offset from) ∙ l.one_extend weight meant)
  same_moved (Push from to mark weight) meant =
      ap (λ (k : ℕ). Push k (number to) mark (d.extend (offset from) weight)) (head_number from)
      ∙ ap (Push (number from) (number to) mark) (ap (λ (w : W). d.extend w weight) (no_offset from) ∙ l.one_extend weight meant)
  same_moved (Pop from mark to weight) meant =
      ap (λ (k : ℕ). Pop k mark (number to) (d.extend (offset from) weight)) (head_number from)
      ∙ ap (Pop (number from) mark (number to)) (ap (λ (w : W). d.extend w weight) (no_offset from) ∙ l.one_extend weight meant)

  module _ (own : List (Rule W)) (starts : List (Start W)) (lead : LeadToKept d kept own starts) where
    kept_own : (n : ℕ) → Has kept n → head n ≡ n
    kept_own n has = (kept_head d rules kept has (cells.each n)).0

    abbrev own_few : List (Rule W)
    own_few = map (moved d head offset) own

    own_contracted : AreContracted d head offset own own_few
    own_contracted r = (
      (λ has. let q = has_mapped (moved d head offset) own r has in (q.0, q.1, kept_own (to_of q.0) (lead.rules q.0 q.1), q.2)),
      (λ q. subst (Has own_few) (sym q.3) (has_map (moved d head offset) own q.0 q.1)),
    )

    both : AreContracted d head offset (rules ++ own) (few ++ own_few)
    both = contracted_both d head offset rules few own own_few are own_contracted

    told : IsTold d (rules ++ own) starts
    told = record {
      rule = λ r has. elim (Has-either rules own r has) [
        | inl common ↦ subst (λ (w : W). d.IsMeant w) (sym (ones r common)) l.one_meant
        | inr more ↦ lead.told.rule r more
      ];
      start = lead.told.start;
    }

    few_told : IsTold d (few ++ own_few) starts
    few_told = record {
      rule = λ r has.
          let q = (both r).0 has in
          let meant = l.extend_meant (offset (from_of q.0)) (weight_of q.0) (subst (λ (w : W). d.IsMeant w) (sym (no_offset (from_of q.0))) l.one_meant) (told.rule q.0 q.1) in
          subst (λ (w : W). d.IsMeant w) (sym (ap weight_of q.3 ∙ moved_weight d head offset q.0)) meant;
      start = lead.told.start;
    }

    abbrev contraction : Contraction W
    contraction = record { rules = rules; few = few; own = own; own_few = own_few; head = head; offset = offset }

    is_contraction : IsContraction d kept starts contraction
    is_contraction = record { told = told; cells = cells; few_are = are; own_few_are = own_contracted; own_kept = lead.rules; starts_kept = lead.nodes }

    abbrev between : List (Rule W)
    between = map (renamed number) few ++ map (renamed number) own

    abbrev begun : List (Start W)
    begun = map (renamed_start number) starts

    own_between : (q : Rule W) → Has own q → renamed number (moved d head offset q) ≡ renamed number q
    own_between q has = same_moved q (lead.told.rule q has)

    renamed_to : (r : Rule W) → Has between r → (q : Rule W) × Has (few ++ own_few) q × (r ≡ renamed number q)
    renamed_to r has = elim (Has-either (map (renamed number) few) (map (renamed number) own) r has) [
      | inl a ↦ let q = has_mapped (renamed number) few r a in (q.0, Has-left few own_few q.0 q.1, q.2)
      | inr b ↦
          let q = has_mapped (renamed number) own r b in (
            moved d head offset q.0,
            Has-right few own_few (moved d head offset q.0) (has_map (moved d head offset) own q.0 q.1),
            q.2 ∙ sym (own_between q.0 q.1),
          )
    ]

    renamed_from : (r q : Rule W) → Has (few ++ own_few) q → r ≡ renamed number q → Has between r
    renamed_from r q has is = elim (Has-either few own_few q has) [
      | inl a ↦ Has-left (map (renamed number) few) (map (renamed number) own) r (subst (Has (map (renamed number) few)) (sym is) (has_map (renamed number) few q a))
      | inr b ↦
          let p = has_mapped (moved d head offset) own q b in
          let same : renamed number p.0 ≡ r = sym (own_between p.0 p.1) ∙ ap (renamed number) (sym p.2) ∙ sym is in
          Has-right (map (renamed number) few) (map (renamed number) own) r (subst (Has (map (renamed number) own)) same (has_map (renamed number) own p.0 p.1))
    ]

    are_renamed : AreRenamed number old (few ++ own_few) between starts begun
    are_renamed = record {
      rules_are = λ r. (renamed_to r, (λ q. renamed_from r q.0 q.1 q.2));
      starts_are = λ r. (has_mapped (renamed_start number) starts r, (λ s. subst (Has begun) (sym s.2) (has_map (renamed_start number) starts s.0 s.1)));
      sources = λ r has.
          let q = (both r).0 has in
          let from : from_of r ≡ head (from_of q.0) = ap from_of q.3 ∙ moved_from d head offset q.0 in
          old_number (from_of r) ∙ ap head from ∙ cells.own (from_of q.0) ∙ sym from;
      targets = λ r has.
          let q = (both r).0 has in
          let to : to_of r ≡ to_of q.0 = ap to_of q.3 ∙ moved_to d head offset q.0 in
          old_number (to_of r) ∙ ap head to ∙ q.2 ∙ sym to;
      start_nodes = λ s has. old_number s.node ∙ kept_own s.node (lead.nodes s has);
    }

    module _ (steps : List BaseStep) (last n : ℕ) (word : List ℕ) where
      without : (x : W) → d.IsMeant x → d.extend x (offset n) ≡ x
      without x meant = ap (d.extend x) (no_offset n) ∙ l.extend_one x meant

      extended : (x : W) → Derives d (rules ++ own) starts steps last n word x
          ↔ ((y : W) × Derives d (few ++ own_few) starts steps last (head n) word y × (x ≡ d.extend y (offset n)))
      extended x = derivations_extended l kept starts contraction is_contraction steps last n word x

      by_number : (x : W) → Derives d (few ++ own_few) starts steps last (head n) word x ↔ Derives d between begun steps last (number (head n)) word x
      by_number x = derivations_renamed d number old (few ++ own_few) between starts begun are_renamed (head n) (old_number (head n) ∙ cells.own n) steps last word x

      there : (x : W) → Derives d (rules ++ own) starts steps last n word x → Derives d between begun steps last (number n) word x
      there x derived =
          let y = (extended x).0 derived in
          let same : y.0 ≡ x = sym (without y.0 (derives_meant l steps few_told y.1)) ∙ sym y.2 in
          subst (λ (k : ℕ). Derives d between begun steps last k word x) (head_number n)
          ((by_number x).0 (subst (λ (w : W). Derives d (few ++ own_few) starts steps last (head n) word w) same y.1))

      back : (x : W) → Derives d between begun steps last (number n) word x → Derives d (rules ++ own) starts steps last n word x
      back x derived =
          let here = (by_number x).1 (subst (λ (k : ℕ). Derives d between begun steps last k word x) (sym (head_number n)) derived) in
          (extended x).1 (x, here, sym (without x (derives_meant l steps few_told here)))

  -- rules between cells weigh one too
  renamed_weight : (r : Rule W) → weight_of (renamed number r) ≡ weight_of r
  renamed_weight (Flow from to weight) = refl
  renamed_weight (Push from to mark weight) = refl
  renamed_weight (Pop from mark to weight) = refl

  pub cells_weigh_one : (r : Rule W) → Has (map (renamed number) few) r → weight_of r ≡ d.one
  cells_weigh_one r has =
      let x = has_mapped (renamed number) few r has in
      let q = (are x.0).0 x.1 in
      let one : d.extend (offset (from_of q.0)) (weight_of q.0) ≡ d.one =
      ap (λ (w : W). d.extend w (weight_of q.0)) (no_offset (from_of q.0)) ∙ ap (d.extend d.one) (ones q.0 q.1) ∙ l.one_extend d.one l.one_meant in
      ap weight_of x.2 ∙ renamed_weight x.0 ∙ ap weight_of q.3 ∙ moved_weight d head offset q.0 ∙ one

  pub have_cells : HaveCells d rules kept numbers (map (renamed number) few)
  have_cells own starts lead steps last n word x = (there own starts lead steps last n word x, back own starts lead steps last n word x)
