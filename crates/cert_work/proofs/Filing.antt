-- One line more was gone through: what the files have then, and what was worked.
use Rattle.std.proofs.Common.{◌≡◌, ◌≢◌, ◌↔◌, ◌⊎◌, inl, inr, ℕ, zero, suc, ◌+◌, ◌-◌, ◌≤◌, length, sym, ap, subst, arith}
use Rattle.link_rules.specs.Linked.{LinkedProgram}
use Rattle.link_sites.specs.declared.site.Site.{Site}
use Rattle.spds_rules.specs.declared.edge.Edge.{Edge}
use Rattle.spds_rules.specs.declared.node.Node.{Node}
use Rattle.spds_rules.specs.Demand.{EdgeIn, StartIn, about}
use Rattle.cert_rules.specs.declared.fact.Fact.{Fact}
use Rattle.cert_rules.specs.declared.fact.Fact.TheVariants.{At, Link, Met, Shared}
use Rattle.cert_rules.specs.Given.{Cites, Facts}
use Rattle.cert_laws.proofs.Givens.{cites_one}
use Rattle.cert_lines.specs.declared.keys.Spot.{Spot}
use Rattle.cert_lines.specs.declared.keys.Word.{Word}
use Rattle.cert_lines.specs.Noted.{Noted}
use Rattle.cert_work.specs.Added.{AreAdded}
use Rattle.cert_work.specs.declared.wants.Wants.{Wants}
use Rattle.cert_work.specs.Rules.{AreWorked, AreWorkedIfBest, IsAlongIfBest, IsFollowed, IsPoppedIfBest, IsPutIfBest}
use Rattle.cert_work.specs.Work.{IsAt, IsBelow, IsStored, IsTaker}
use Rattle.cert_work.proofs.Growing.{along_more, cites_kept, popped_more, put_more}
use Rattle.cert_work.proofs.Bettering.{along_best_more, popped_best_more, put_best_more}

pub le_next : (i done num : ℕ) → num ≡ done + 1 → i ≤ num → (i ≤ done) ⊎ (i ≡ num)
le_next zero done num e low = inl (omega arith)
le_next (suc i) zero num e low = inr (omega arith)
le_next (suc i) (suc done) num e low = elim (le_next i done (num - 1) (omega arith) (omega arith)) [ inl a ↦ inl (omega arith) | inr b ↦ inr (omega arith) ]

module _ {K : Type 0} (H P Q : K → ℕ → Type 0) (done num : ℕ) (e : num ≡ done + 1) (filed : (k : K) (i : ℕ) → H k i ↔ ((i ≤ done) × P k i))
    (more : (k : K) (i : ℕ) → i ≤ done → P k i → Q k i) (less : (k : K) (i : ℕ) → i ≤ done → Q k i → P k i) where
  -- the line isn't one of the file
  pub filed_same : ((k : K) → Q k num → ⊥) → (k : K) (i : ℕ) → H k i ↔ ((i ≤ num) × Q k i)
  filed_same none k i = (
    (λ has. let is = (filed k i).0 has in (omega (arith, is.0), more k i is.0 is.1)),
    (λ is. elim (le_next i done num e is.0) [ inl low ↦ (filed k i).1 (low, less k i low is.1) | inr same ↦ absurd (none k (subst (Q k) same is.1)) ]),
  )

  -- it is
  pub filed_next : (New : K → ℕ → Type 0) (key : K) → ((k : K) (i : ℕ) → New k i ↔ (H k i ⊎ ((k ≡ key) × (i ≡ num)))) → Q key num → ((k : K) → Q k num → k ≡ key)
      → (k : K) (i : ℕ) → New k i ↔ ((i ≤ num) × Q k i)
  filed_next New key adds here one k i = (
    (λ has. elim ((adds k i).0 has) [
      | inl old ↦ (let is = (filed k i).0 old in (omega (arith, is.0), more k i is.0 is.1))
      | inr last ↦ (omega (arith, last.1), subst (λ (n : ℕ). Q k n) (sym last.1) (subst (λ (x : K). Q x num) (sym last.0) here))
    ]),
    (λ is. elim (le_next i done num e is.0) [
      | inl low ↦ (adds k i).1 (inl ((filed k i).1 (low, less k i low is.1)))
      | inr same ↦ (adds k i).1 (inr (one k (subst (Q k) same is.1), same))
    ]),
  )

  -- it is, where a condition holds
  pub filed_if : {E : Type 0} (New : K → ℕ → Type 0) (key : K) → ((k : K) (i : ℕ) → New k i ↔ (H k i ⊎ (E × (k ≡ key) × (i ≡ num)))) → (E → Q key num)
      → ((k : K) → Q k num → E × (k ≡ key)) → (k : K) (i : ℕ) → New k i ↔ ((i ≤ num) × Q k i)
  filed_if New key adds here one k i = (
    (λ has. elim ((adds k i).0 has) [
      | inl old ↦ (let is = (filed k i).0 old in (omega (arith, is.0), more k i is.0 is.1))
      | inr last ↦ (omega (arith, last.2), subst (λ (n : ℕ). Q k n) (sym last.2) (subst (λ (x : K). Q x num) (sym last.1) (here last.0)))
    ]),
    (λ is. elim (le_next i done num e is.0) [
      | inl low ↦ (adds k i).1 (inl ((filed k i).1 (low, less k i low is.1)))
      | inr same ↦ (let it = one k (subst (Q k) same is.1) in (adds k i).1 (inr (it.0, it.1, same)))
    ]),
  )

-- the kinds of facts
abbrev tag : Fact → ℕ
tag (At side o x n) = 0
tag (Link side o x below) = 1
tag (Met o base s) = 2
tag (Shared o arg base at) = 3

module _ (given : Facts) (num : ℕ) (fact : Fact) (cites : Cites given num fact) where
  pub other_kind : (other : Fact) → Cites given num other → tag fact ≡ tag other
  other_kind other again = ap tag (cites_one given num fact other cites again)

module _ (w : Noted) (num : ℕ) (fact : Fact) (cites : Cites w.given num fact) where
  pub no_taker : (p : LinkedProgram) (t : Node) (wants : Wants) → tag fact ≢ 0 → (k : Word) → IsTaker p t wants w k num → ⊥
  no_taker p t wants other k is = other (other_kind w.given num fact cites _ is.put)

  pub no_below : tag fact ≢ 1 → (k : Word) → IsBelow w k num → ⊥
  no_below other k is = other (other_kind w.given num fact cites _ is.1)

  pub no_at : tag fact ≢ 0 → (k : Spot) → IsAt w k num → ⊥
  no_at other k is = other (other_kind w.given num fact cites _ is.2)

  pub no_stored : tag fact ≢ 2 → (k : Spot) → IsStored w k num → ⊥
  no_stored other k is = other (other_kind w.given num fact cites _ is.3)

  pub not_along : tag fact ≢ 0 → (e : Edge) → IsAlongIfBest w num e
  not_along other e side o x at = absurd (other (other_kind w.given num fact cites _ at))

  pub not_popped : tag fact ≢ 0 → (link : ℕ) (e : Edge) → IsPoppedIfBest w num link e
  not_popped other link e side o x below at links takes = absurd (other (other_kind w.given num fact cites _ at))

  pub not_linked : tag fact ≢ 1 → (i : ℕ) (e : Edge) → IsPoppedIfBest w i num e
  not_linked other i e side o x below at links takes = absurd (other (other_kind w.given num fact cites _ links))

  pub not_put : tag fact ≢ 0 → (met : ℕ) (base : Site) (n : Node) → IsPutIfBest w num met base n
  not_put other met base n side o x s at meets = absurd (other (other_kind w.given num fact cites _ at))

  pub not_met : tag fact ≢ 2 → (i : ℕ) (base : Site) (n : Node) → IsPutIfBest w i num base n
  not_met other i base n side o x s at meets = absurd (other (other_kind w.given num fact cites _ meets))

module _ (p : LinkedProgram) (t : Node) (wants : Wants) where
  followed_less : {old new : Noted} → AreAdded p t old new → (i : ℕ) → IsFollowed wants new i → IsFollowed wants old i
  followed_less added i is side o x n cites = is side o x n (cites_kept p t added i _ cites)

  pub worked_more : {old new : Noted} → AreAdded p t old new → (done : ℕ) → done ≤ length old.given → AreWorkedIfBest p t wants old done → AreWorkedIfBest p t wants new done
  worked_more added done within worked = record {
    along = λ i e low is edge. along_best_more p t added i e (omega arith) (worked.along i e low (followed_less added i is) edge);
    popped = λ i link e low under is edge.
        popped_best_more p t added i link e (omega arith) (omega arith) (worked.popped i link e low under (followed_less added i is) edge);
    put = λ i met base n low under is start.
        put_best_more p t added i met base n (omega arith) (omega arith) (worked.put i met base n low under (followed_less added i is) start);
  }

  pub worked_kept : {old new : Noted} → AreAdded p t old new → (done : ℕ) → done ≤ length old.given → AreWorked p t wants old done → AreWorked p t wants new done
  worked_kept added done within worked = record {
    along = λ i e low is edge. along_more p t added i e (omega arith) (worked.along i e low (followed_less added i is) edge);
    popped = λ i link e low under is edge.
        popped_more p t added i link e (omega arith) (omega arith) (worked.popped i link e low under (followed_less added i is) edge);
    put = λ i met base n low under is start.
        put_more p t added i met base n (omega arith) (omega arith) (worked.put i met base n low under (followed_less added i is) start);
  }

  -- what is to be known of one line more
  pub record IsWorkedOne (w : Noted) (done num : ℕ) : Type 0 where
    pub along : IsFollowed wants w num → (e : Edge) → EdgeIn p (about t) e.from e.kind e.to → IsAlongIfBest w num e
    pub popped : IsFollowed wants w num → (link : ℕ) (e : Edge) → link ≤ num → EdgeIn p (about t) e.from e.kind e.to → IsPoppedIfBest w num link e
    pub linked : (i : ℕ) (e : Edge) → i ≤ done → IsFollowed wants w i → EdgeIn p (about t) e.from e.kind e.to → IsPoppedIfBest w i num e
    pub put : IsFollowed wants w num → (met : ℕ) (base : Site) (n : Node) → met ≤ num → StartIn p (about t) base n → IsPutIfBest w num met base n
    pub met : (i : ℕ) (base : Site) (n : Node) → i ≤ done → IsFollowed wants w i → StartIn p (about t) base n → IsPutIfBest w i num base n

  pub worked_next : (w : Noted) (done num : ℕ) → num ≡ done + 1 → AreWorkedIfBest p t wants w done → IsWorkedOne w done num → AreWorkedIfBest p t wants w num
  worked_next w done num next worked one = record {
    along = λ i e low is edge. elim (le_next i done num next low) [
      | inl before ↦ worked.along i e before is edge
      | inr same ↦ subst (λ (k : ℕ). IsAlongIfBest w k e) (sym same) (one.along (subst (IsFollowed wants w) same is) e edge)
    ];
    popped = λ i link e low under is edge. elim (le_next i done num next low) [
      | inl before ↦ elim (le_next link done num next under) [
        | inl behind ↦ worked.popped i link e before behind is edge
        | inr same ↦ subst (λ (k : ℕ). IsPoppedIfBest w i k e) (sym same) (one.linked i e before is edge)
      ]
      | inr same ↦ subst (λ (k : ℕ). IsPoppedIfBest w k link e) (sym same) (one.popped (subst (IsFollowed wants w) same is) link e under edge)
    ];
    put = λ i met base n low under is start. elim (le_next i done num next low) [
      | inl before ↦ elim (le_next met done num next under) [
        | inl behind ↦ worked.put i met base n before behind is start
        | inr same ↦ subst (λ (k : ℕ). IsPutIfBest w i k base n) (sym same) (one.met i base n before is start)
      ]
      | inr same ↦ subst (λ (k : ℕ). IsPutIfBest w k met base n) (sym same) (one.put (subst (IsFollowed wants w) same is) met base n under start)
    ];
  }
