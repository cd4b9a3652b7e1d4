-- Names that stand twice.
use Rattle.std.proofs.Common.{◌≡◌, ℕ, zero, suc, ◌+◌, ◌<◌, ◌≤◌, ◌⊎◌, List, [], ◌∷◌, Option, Some, None, MatchOption, length, min, slice_get, refl, sym, ap, subst, ◌∙◌, inl, inr, arith}
use Rattle.std.specs.Prelude.{IfNone, IfSome, ◌↔◌}
use Rattle.std.specs.Option.{option_map}
use Rattle.std.proofs.lemmas.Option.{slice_get-map}
use Rattle.std.proofs.lemmas.Bool.{cases_lt, cases_order}
use Rattle.lists.specs.Lists.{IsLeast}
use Rattle.jim_ast.specs.declared.names.NameId.{NameId}
use Rattle.jim_ast.specs.declared.syntax.Body.{Body}
use Rattle.jim_ast.specs.declared.syntax.Label.{Label}
use Rattle.lists.proofs.Places.{slice_get-below}
use Rattle.link_rules.specs.Bodies.{IsLabel}
use Rattle.link_rules.specs.Classes.{DeclaredMethod}
use Rattle.link_rules.specs.Faults.{RepeatsLabel}
use Rattle.link_rules.specs.Statements.{HasBody}
use Rattle.link_bodies.specs.Places.{RepeatsName, label_names}

-- the least number with the fact, if one has it
abbrev pub IsLeastOrNone : (ℕ → Type 0) → Option ℕ → Type 0
IsLeastOrNone P (Some n) = IsLeast P n
IsLeastOrNone P None = (n : ℕ) → P n → ⊥

-- a label before the place has the name of an earlier one
pub record RepeatsBefore (labels : List Label) (end index : ℕ) : Type 0 where
  pub repeats : RepeatsName labels index
  pub before_end : repeats.place < end

-- one number more has the fact
module _ (P Q : ℕ → Type 0) (x : ℕ) (keeps : (n : ℕ) → P n → Q n) (new : Q x) (splits : (n : ℕ) → Q n → P n ⊎ (n ≡ x)) where
  pub least_more : (o : Option ℕ) (n : ℕ) → IsLeastOrNone P o → MatchOption o (n ≡ x) (λ m. n ≡ min m x) → IsLeast Q n
  least_more None n none e = record {
    holds = subst Q (sym e) new;
    first = λ m below q. elim (splits m q) [ inl p ↦ none m p | inr same ↦ absurd (omega (arith, e, same, below)) ];
  }
  least_more (Some k) n least e = elim (by k n e) [
    | inl first ↦ record {
      holds = keeps n (subst P (sym first.0) least.holds);
      first = λ m below q. elim (splits m q) [ inl p ↦ least.first m (omega (arith, first.0, below)) p | inr same ↦ absurd (omega (arith, first.0, first.1, same, below)) ];
    }
    | inr second ↦ record {
      holds = subst Q (sym second.0) new;
      first = λ m below q. elim (splits m q) [ inl p ↦ least.first m (omega (arith, second.0, second.1, below)) p | inr same ↦ absurd (omega (arith, second.0, same, below)) ];
    }
  ]
    where
      by : (k n : ℕ) → n ≡ min k x → ((n ≡ k) × (k ≤ x)) ⊎ ((n ≡ x) × (x ≤ k))
      by k n e = grind arith

-- no number more has the fact
pub least_same : (P Q : ℕ → Type 0) (o : Option ℕ) → ((n : ℕ) → P n → Q n) → ((n : ℕ) → Q n → P n) → IsLeastOrNone P o → IsLeastOrNone Q o
least_same P Q (Some n) to from least = record { holds = to n least.holds; first = λ m below q. least.first m below (from m q) }
least_same P Q None to from none = λ n q. none n (from n q)

-- the name of the label at a place
pub named : (labels : List Label) (at : ℕ) (label : Label) → slice_get labels at ≡ Some label → slice_get (label_names labels) at ≡ Some label.name
named labels at label there = slice_get-map (λ l. l.name) labels at ∙ ap (option_map (λ (l : Label). l.name)) there

-- the label with the name at a place
pub label_there : (labels : List Label) (at : ℕ) (name : NameId) → slice_get (label_names labels) at ≡ Some name → (label : Label) × (slice_get labels at ≡ Some label) × (label.name ≡ name)
label_there [] at name h = cc
label_there (l ∷ labels) zero name h = (l, refl, cc)
label_there (l ∷ labels) (suc at) name h = label_there labels at name h

module _ (labels : List Label) (at : ℕ) (label : Label) (there : slice_get labels at ≡ Some label) where
  -- what repeats a name up to the place or at it
  pub repeats_split : (index : ℕ) → RepeatsBefore labels (at + 1) index → RepeatsBefore labels at index ⊎ ((index ≡ label.index) × ((i : ℕ) × (i < at) × (slice_get (label_names labels) i ≡ Some label.name)))
  repeats_split index h = elim (cases_lt h.repeats.place at) [
    | inl before ↦ inl (record { repeats = h.repeats; before_end = before })
    | inr last ↦ here (omega (arith, last, h.before_end))
  ]
    where
      here : h.repeats.place ≡ at → RepeatsBefore labels at index ⊎ ((index ≡ label.index) × ((i : ℕ) × (i < at) × (slice_get (label_names labels) i ≡ Some label.name)))
      here last =
          let again : slice_get labels at ≡ Some h.repeats.label = subst (λ k. slice_get labels k ≡ Some h.repeats.label) last h.repeats.there in
          let same : h.repeats.label ≡ label = cc (again, there) in
          let names : h.repeats.earlier.name ≡ label.name = sym h.repeats.same ∙ ap (λ (l : Label). l.name) same in
          inr (
            h.repeats.at_label ∙ ap (λ (l : Label). l.index) same,
            (h.repeats.earlier_place, omega (arith, last, h.repeats.before), named labels h.repeats.earlier_place h.repeats.earlier h.repeats.earlier_there ∙ ap Some names),
          )

  -- what repeats a name before the place repeats it before the next
  pub repeats_kept : (index : ℕ) → RepeatsBefore labels at index → RepeatsBefore labels (at + 1) index
  repeats_kept index h = record { repeats = h.repeats; before_end = omega (arith, h.before_end) }

  -- the label at the place repeats a name
  pub repeats_here : ((i : ℕ) × (i < at) × (slice_get (label_names labels) i ≡ Some label.name)) → RepeatsBefore labels (at + 1) label.index
  repeats_here again =
      let earlier = label_there labels again.0 label.name again.2 in
      record {
        repeats = record {
          place = at;
          label = label;
          there = there;
          earlier_place = again.0;
          before = again.1;
          earlier = earlier.0;
          earlier_there = earlier.1;
          same = sym earlier.2;
          at_label = refl;
        };
        before_end = omega arith;
      }

  -- the label at the place has the name of an earlier one
  pub again_more : (least : Option ℕ) (now : ℕ) → IsLeastOrNone (RepeatsBefore labels at) least → ((i : ℕ) × (i < at) × (slice_get (label_names labels) i ≡ Some label.name))
      → MatchOption least (now ≡ label.index) (λ m. now ≡ min m label.index) → IsLeast (RepeatsBefore labels (at + 1)) now
  again_more least now before again is =
      least_more (RepeatsBefore labels at) (RepeatsBefore labels (at + 1)) label.index repeats_kept (repeats_here again)
      (λ index h. elim (repeats_split index h) [ inl old ↦ inl old | inr new ↦ inr new.0 ]) least now before is

  -- it has a name of its own
  pub not_again : (least : Option ℕ) → IsLeastOrNone (RepeatsBefore labels at) least → (((i : ℕ) × (i < at) × (slice_get (label_names labels) i ≡ Some label.name)) → ⊥)
      → IsLeastOrNone (RepeatsBefore labels (at + 1)) least
  not_again least before own =
      least_same (RepeatsBefore labels at) (RepeatsBefore labels (at + 1)) least repeats_kept
      (λ index h. elim (repeats_split index h) [ inl old ↦ old | inr new ↦ absurd (own new.1) ]) before

-- before the end each label stands
pub all_repeats : (labels : List Label) (end : ℕ) (least : Option ℕ) → length labels ≤ end → IsLeastOrNone (RepeatsBefore labels end) least → IsLeastOrNone (RepeatsName labels) least
all_repeats labels end least enough h =
    least_same (RepeatsBefore labels end) (RepeatsName labels) least (λ index p. p.repeats)
    (λ index p. record { repeats = p; before_end = omega (arith, enough, slice_get-below labels p.place p.label p.there) }) h

-- the least number, where there is one
pub some_least : (P : ℕ → Type 0) (o : Option ℕ) → IsLeastOrNone P o → IfSome o (IsLeast P)
some_least P (Some n) h = h
some_least P None h = tt

-- no number, where there is none
pub none_least : (P : ℕ → Type 0) (o : Option ℕ) → IsLeastOrNone P o → IfNone o ((n : ℕ) → P n → ⊥)
none_least P (Some n) h = tt
none_least P None h = h

-- what repeats a name in the method's body
module _ (m : DeclaredMethod) (body : Body) (is : HasBody m body) where
  -- what repeats a name among the labels repeats it in the method
  to_label : (index : ℕ) → RepeatsName body.labels index → RepeatsLabel m index
  to_label index h = record {
    body = body;
    in_body = is;
    label = h.label;
    earlier = h.earlier;
    place = h.place;
    earlier_place = h.earlier_place;
    there = h.there;
    earlier_there = h.earlier_there;
    before = h.before;
    same = h.same;
    at_label = h.at_label;
  }

  -- and back
  from_label : (index : ℕ) → RepeatsLabel m index → RepeatsName body.labels index
  from_label index h =
      let one : h.body ≡ body = cc (h.in_body, is) in
      record {
        place = h.place;
        label = h.label;
        there = subst (λ (b : Body). slice_get b.labels h.place ≡ Some h.label) one h.there;
        earlier_place = h.earlier_place;
        before = h.before;
        earlier = h.earlier;
        earlier_there = subst (λ (b : Body). slice_get b.labels h.earlier_place ≡ Some h.earlier) one h.earlier_there;
        same = h.same;
        at_label = h.at_label;
      }

  -- so the least indexes are the same
  least_label : (i : ℕ) → IsLeast (RepeatsName body.labels) i → IsLeast (RepeatsLabel m) i
  least_label i least = record { holds = to_label i least.holds; first = λ n below h. least.first n below (from_label n h) }

-- the same of the answer, where there is one
pub some_label : (body : Body) (o : Option ℕ) → IfSome o (IsLeast (RepeatsName body.labels)) → IfSome o (λ i. (m : DeclaredMethod) → HasBody m body → IsLeast (RepeatsLabel m) i)
some_label body (Some i) least = λ m is. least_label m body is i least
some_label body None least = tt

-- and where there is none
pub none_label : (body : Body) (o : Option ℕ) → IfNone o ((i : ℕ) → RepeatsName body.labels i → ⊥) → IfNone o ((m : DeclaredMethod) (i : ℕ) → HasBody m body → RepeatsLabel m i → ⊥)
none_label body (Some i) none = tt
none_label body None none = λ m i is h. none i (from_label m body is i h)

-- the first label of a name
module _ (labels : List Label) (name : NameId) where
  -- its first place is that of its label
  pub is_label : (place : ℕ) (l : Label) → IsLeast (λ i. slice_get (label_names labels) i ≡ Some name) place → slice_get labels place ≡ Some l → (n : ℕ)
      → (◌≡◌ {A = Option ℕ} (Some l.index) (Some n)) ↔ IsLabel labels name n
  is_label place l least there n = (to, from)
    where
      to : ◌≡◌ {A = Option ℕ} (Some l.index) (Some n) → IsLabel labels name n
      to e =
          let index : l.index ≡ n = cc in
          let same : l.name ≡ name = let a = named labels place l there in let b = least.holds in cc (a, b) in
          let whole : l ≡ record { name = name; index = n } = (λ i. record { name = same i; index = index i }) in
          record {
            place = place;
            there = there ∙ ap Some whole;
            first = λ i k before at e. least.first i before (named labels i k at ∙ ap Some e);
          }

      from : IsLabel labels name n → ◌≡◌ {A = Option ℕ} (Some l.index) (Some n)
      from h = elim (cases_order place h.place) [
        | inl same ↦ (let both : slice_get labels place ≡ Some (record { name = name; index = n }) = subst (λ k. slice_get labels k ≡ Some (record { name = name; index = n })) (sym same) h.there in
            let one : l ≡ record { name = name; index = n } = cc (there, both) in ap (λ (k : Label). Some k.index) one)
        | inr apart ↦ elim apart [
          | inl before ↦ absurd (h.first place l before there (let a = named labels place l there in let b = least.holds in cc (a, b)))
          | inr behind ↦ absurd (least.first h.place behind (named labels h.place _ h.there))
        ]
      ]

  -- its place is one of them
  pub label_below : (place : ℕ) → IsLeast (λ i. slice_get (label_names labels) i ≡ Some name) place → place < length labels
  label_below place least = let there = label_there labels place name least.holds in slice_get-below labels place there.0 there.1

  -- without a place there is no label
  pub no_label : ((i : ℕ) × (slice_get (label_names labels) i ≡ Some name) → ⊥) → (n : ℕ) → (◌≡◌ {A = Option ℕ} None (Some n)) ↔ IsLabel labels name n
  no_label none n = ((λ e. cc), λ h. absurd (none (h.place, named labels h.place _ h.there)))
