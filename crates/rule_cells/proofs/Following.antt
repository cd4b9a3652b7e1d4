-- Flows that follow from others give nothing more.
use Rattle.std.proofs.Common.{◌≡◌, ◌↔◌, ◌⊎◌, ◌<◌, ◌+◌, inl, inr, ℕ, List, ◌∷◌, [], ◌++◌, Option, None, Some, IsTrue, get_or, length, slice_get, take, refl, sym, ap, ◌∙◌, subst}
use Rattle.std.specs.Option.{is_some}
use Rattle.std.proofs.lemmas.List.{take_more}
use Rattle.auto_table.specs.declared.rule.Rule.{Rule}
use Rattle.auto_table.specs.declared.rule.Rule.TheVariants.{Flow, Push, Pop}
use Rattle.lists.specs.Lists.{Has}
use Rattle.lists.proofs.Joined.{Has-either, Has-left, Has-right}
use Rattle.post_star.specs.declared.bases.Start.{Start}
use Rattle.post_star.specs.declared.bases.BaseStep.{BaseStep}
use Rattle.post_star.specs.Derivations.{Derives, DerivesAny, starts_at, flows, pushes, pops, any_word}
use Rattle.post_star.specs.Works.{IsTold, weight_of}
use Rattle.post_star.proofs.Joins.{derives_meant}
use Rattle.weight_laws.specs.Law.{Domain, IsLawful}
use Rattle.rule_cells.specs.declared.distinct.Shape.{Shape}
use Rattle.rule_cells.specs.declared.distinct.Shape.TheVariants as shape
use Rattle.rule_cells.specs.Cells.{IsCarriedFrom}
use Rattle.rule_cells.specs.Cells as cells
use Rattle.rule_cells.specs.CellRules.{HaveCells}
use Rattle.rule_cells.specs.Followed.{AnyDerivationsAreKept, AreAdded, AreSights, AreThinned, DerivationsAreKept, Follows, LeadsOn, here, further}
use Rattle.rule_cells.proofs.Differing.{derives_same}
use Rattle.rule_cells.proofs.Entering.{has_pushed}

module _ {W : Type 0} (d : Domain W) (rules : List (Rule W)) where
  -- ways are joined
  pub leads_both : {a b c : ℕ} → LeadsOn d rules a b → LeadsOn d rules b c → LeadsOn d rules a c
  leads_both p here = p
  leads_both p (further q has) = further (leads_both p q) has

  -- where rules weigh one, a head leads to what is carried from it
  pub carried_leads : (kept : List ℕ) → ((r : Rule W) → Has rules r → weight_of r ≡ d.one) → {h n : ℕ} {w : W} → IsCarriedFrom d rules kept h n w → LeadsOn d rules h n
  carried_leads kept ones cells.here = here
  carried_leads kept ones {n = n} (cells.further {m} {w = w} first last) =
      further (carried_leads kept ones first) (subst (λ (t : W). Has rules (Flow m n t)) (ones (Flow m n w) last.flow) last.flow)

  -- over more rules ways lead too
  pub leads_more : (more : List (Rule W)) → ((r : Rule W) → Has rules r → Has more r) → {a b : ℕ} → LeadsOn d rules a b → LeadsOn d more a b
  leads_more more all here = here
  leads_more more all (further p has) = further (leads_more more all p) (all _ has)

  pub follows_more : (more : List (Rule W)) → ((r : Rule W) → Has rules r → Has more r) → (r : Rule W) → Follows d rules r → Follows d more r
  follows_more more all (Flow from to weight) f = (f.0, leads_more more all f.1)
  follows_more more all (Push from to mark weight) f = f
  follows_more more all (Pop from mark to weight) f = f

-- a way gives at its end what is there at its begin
module _ {W : Type 0} {d : Domain W} (l : IsLawful W d) (rules : List (Rule W)) (starts : List (Start W)) (steps : List BaseStep) (last : ℕ) (told : IsTold d rules starts) where
  go_on : {a b : ℕ} {word : List ℕ} {x : W} → LeadsOn d rules a b → Derives d rules starts steps last a word x → Derives d rules starts steps last b word x
  go_on here given = given
  go_on {b = b} {word} {x} (further p has) given =
      let before = go_on p given in
      subst (λ (t : W). Derives d rules starts steps last b word t) (l.extend_one x (derives_meant l steps told before)) (flows has before)

module _ {W : Type 0} {d : Domain W} (l : IsLawful W d) (rules few own : List (Rule W)) (starts : List (Start W)) (thin : AreThinned d rules few)
    (told : IsTold d (rules ++ own) starts) where
  few_among : (r : Rule W) → Has (few ++ own) r → Has (rules ++ own) r
  few_among r has = elim (Has-either few own r has) [ inl a ↦ Has-left rules own r (thin.among r a) | inr b ↦ Has-right rules own r b ]

  few_told : IsTold d (few ++ own) starts
  few_told = record { rule = λ r has. told.rule r (few_among r has); start = told.start }

  -- a rule is there still, or follows
  there : (r : Rule W) → Has (rules ++ own) r → Has (few ++ own) r ⊎ Follows d (few ++ own) r
  there r has = elim (Has-either rules own r has) [
    | inl a ↦ elim (thin.rest r a) [
      | inl same ↦ inl (Has-left few own r same)
      | inr follows ↦ inr (follows_more d few (few ++ own) (λ q. Has-left few own q) r follows)
    ]
    | inr b ↦ inl (Has-right few own r b)
  ]

  module _ (steps : List BaseStep) (last : ℕ) where
    pub derives_thin : {n : ℕ} {word : List ℕ} {x : W} → Derives d (rules ++ own) starts steps last n word x → Derives d (few ++ own) starts steps last n word x
    derives_thin (starts_at h p) = starts_at h p
    derives_thin (flows {from} {to} {word} {x} {weight} h p) = elim (there (Flow from to weight) h) [
      | inl same ↦ flows same (derives_thin p)
      | inr follows ↦
          let before = derives_thin p in
          subst (λ (t : W). Derives d (few ++ own) starts steps last to word t)
          (sym (l.extend_one x (derives_meant l steps few_told before)) ∙ ap (d.extend x) (sym follows.0))
          (go_on l (few ++ own) starts steps last few_told follows.1 before)
    ]
    derives_thin (pushes {from} {to} {mark} {weight = weight} h p) = elim (there (Push from to mark weight) h) [ inl same ↦ pushes same (derives_thin p) | inr follows ↦ absurd follows ]
    derives_thin (pops {from} {mark} {to} {weight = weight} h p) = elim (there (Pop from mark to weight) h) [ inl same ↦ pops same (derives_thin p) | inr follows ↦ absurd follows ]

    pub derives_all : {n : ℕ} {word : List ℕ} {x : W} → Derives d (few ++ own) starts steps last n word x → Derives d (rules ++ own) starts steps last n word x
    derives_all p = derives_same d (few ++ own) (rules ++ own) starts steps last few_among p

    pub any_thin : {n : ℕ} {x : W} → DerivesAny d (rules ++ own) starts steps last n x → DerivesAny d (few ++ own) starts steps last n x
    any_thin (any_word p) = any_word (derives_thin p)

    pub any_all : {n : ℕ} {x : W} → DerivesAny d (few ++ own) starts steps last n x → DerivesAny d (rules ++ own) starts steps last n x
    any_all (any_word p) = any_word (derives_all p)

-- the law
pub derivations_kept : {W : Type 0} {d : Domain W} → IsLawful W d → DerivationsAreKept d
derivations_kept l rules few own starts thin told steps last n word x = (derives_thin l rules few own starts thin told steps last, derives_all l rules few own starts thin told steps last)

pub any_derivations_kept : {W : Type 0} {d : Domain W} → IsLawful W d → AnyDerivationsAreKept d
any_derivations_kept l rules few own starts thin told steps last n x = (any_thin l rules few own starts thin told steps last, any_all l rules few own starts thin told steps last)

-- rules that weigh one have the cells of those that are left of them
pub have_thin_cells : {W : Type 0} {d : Domain W} → IsLawful W d → (rules few : List (Rule W)) (kept cells : List ℕ) (between : List (Rule W)) → AreThinned d rules few
    → ((r : Rule W) → Has rules r → weight_of r ≡ d.one) → HaveCells d few kept cells between → HaveCells d rules kept cells between
have_thin_cells {d = d} l rules few kept cells between thin ones have own starts lead steps last n word x =
    let told : IsTold d (rules ++ own) starts = record {
      rule = λ r has. elim (Has-either rules own r has) [ inl a ↦ subst d.IsMeant (sym (ones r a)) l.one_meant | inr b ↦ lead.told.rule r b ];
      start = lead.told.start;
    } in
    let first = derivations_kept l rules few own starts thin told steps last n word x in
    let then = have own starts lead steps last n word x in
    ((λ p. then.0 (first.0 p)), (λ p. first.1 (then.1 p)))

-- what is found is there
pub found_there : {X : Type 0} (xs : List X) (x : X) (found : Option ℕ) → ((i : ℕ) → (found ≡ Some i) ↔ (slice_get xs i ≡ Some x)) → IsTrue (is_some found) → Has xs x
found_there xs x None finds is_found = cc is_found
found_there xs x (Some i) finds is_found = (i, (finds i).0 refl)

-- a flow to the head from which all comes to a node goes on to the node
pub head_follows : {W : Type 0} (d : Domain W) (rules : List (Rule W)) (kept : List ℕ) (shapes : List Shape) (head : ℕ → ℕ) (offset : ℕ → W) (from to : ℕ) (weight : W)
    → AreSights d rules kept shapes head offset → Has shapes (shape.Flow from (head to)) → weight ≡ d.one → Follows d rules (Flow from to weight)
head_follows d rules kept shapes head offset from to weight sights has one = (
  one,
  leads_both d rules (further here (sights.among (shape.Flow from (head to)) has)) (carried_leads d rules kept sights.ones (sights.cells.each to)),
)

module _ {W : Type 0} (d : Domain W) (seen : List (Rule W)) where
  -- nothing came in
  pub added_none : (rules : List (Rule W)) → AreAdded d seen rules rules []
  added_none rules = record { stay = λ r has. has; among = λ r has. inl has; rest = λ r has. cc has.1 }

  -- one came in
  pub added_last : (rules : List (Rule W)) (r : Rule W) → AreAdded d seen rules (rules ++ r ∷ []) (r ∷ [])
  added_last rules r = record {
    stay = λ q has. Has-left rules (r ∷ []) q has;
    among = λ q has. Has-either rules (r ∷ []) q has;
    rest = λ q has. inl (Has-right rules (r ∷ []) q has);
  }

  -- one that follows didn't
  pub added_follows : (rules : List (Rule W)) (r : Rule W) → Follows d seen r → AreAdded d seen rules rules (r ∷ [])
  added_follows rules r follows = record {
    stay = λ q has. has;
    among = λ q has. inl has;
    rest = λ q has. elim (has_pushed [] r q has) [ inl none ↦ cc none.1 | inr is ↦ inr (subst (λ (x : Rule W). Follows d seen x) (sym is) follows) ];
  }

  -- then one rule more, or none where that follows
  pub added_more : (old middle new more : List (Rule W)) (i : ℕ) (r : Rule W) → i < length more → r ≡ get_or more i r → AreAdded d seen old middle (take i more)
      → AreAdded d seen middle new (r ∷ []) → AreAdded d seen old new (take (i + 1) more)
  added_more old middle new more i r below is a b =
      let all : take i more ++ r ∷ [] ≡ take (i + 1) more = ap (λ (y : Rule W). take i more ++ y ∷ []) is ∙ sym (take_more more i r below) in
      subst (λ (rs : List (Rule W)). AreAdded d seen old new rs) all (record {
        stay = λ q has. b.stay q (a.stay q has);
        among = λ q has. elim (b.among q has) [
          | inl before ↦ elim (a.among q before) [ inl old_one ↦ inl old_one | inr came ↦ inr (Has-left (take i more) (r ∷ []) q came) ]
          | inr last ↦ inr (Has-right (take i more) (r ∷ []) q last)
        ];
        rest = λ q has. elim (Has-either (take i more) (r ∷ []) q has) [
          | inl came ↦ elim (a.rest q came) [ inl there ↦ inl (b.stay q there) | inr follows ↦ inr follows ]
          | inr last ↦ b.rest q last
        ];
      })

-- what stays, and what came in again, is all but what follows
pub thinned_by : {W : Type 0} (d : Domain W) (rules stay over few : List (Rule W)) → ((r : Rule W) → (Has stay r ⊎ Has over r) ↔ Has rules r)
    → AreAdded d stay stay few over → AreThinned d rules few
thinned_by d rules stay over few parts added = record {
  among = λ r has. (parts r).0 (added.among r has);
  rest = λ r has. elim ((parts r).1 has) [
    | inl stays ↦ inl (added.stay r stays)
    | inr left ↦ elim (added.rest r left) [ inl there ↦ inl there | inr follows ↦ inr (follows_more d stay few added.stay r follows) ]
  ];
}

-- where all stay, they are all
pub thinned_none : {W : Type 0} (d : Domain W) (rules stay over : List (Rule W)) → ((r : Rule W) → (Has stay r ⊎ Has over r) ↔ Has rules r) → over ≡ []
    → AreThinned d rules stay
thinned_none d rules stay over parts none = record {
  among = λ r has. (parts r).0 (inl has);
  rest = λ r has. elim ((parts r).1 has) [ inl stays ↦ inl stays | inr left ↦ let no = subst (λ (rs : List (Rule _)). Has rs r) none left in cc no.1 ];
}
