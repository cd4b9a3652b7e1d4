-- Lines may be bettered by others further on: these stay so when more are put behind, and in the end the best ones give all.
use Rattle.std.proofs.Common.{◌≡◌, inl, inr, ℕ, zero, suc, ◌+◌, ◌-◌, ◌≤◌, ◌<◌, Some, length, sym, subst, arith}
use Rattle.lists.proofs.Places.{slice_get-below}
use Rattle.link_rules.specs.Linked.{LinkedProgram}
use Rattle.link_sites.specs.declared.site.Site.{Site}
use Rattle.spds_rules.specs.declared.edge.Edge.{Edge}
use Rattle.spds_rules.specs.declared.edge.EdgeKind.{EdgeKind}
use Rattle.spds_rules.specs.declared.edge.EdgeKind.TheVariants as edge
use Rattle.spds_rules.specs.declared.node.Node.{Node}
use Rattle.spds_rules.specs.Demand.{EdgeIn, StartIn, about}
use Rattle.cert_rules.specs.declared.fact.Entry.{Entry}
use Rattle.cert_rules.specs.declared.fact.Fact.{Fact}
use Rattle.cert_rules.specs.declared.fact.Fact.TheVariants.{At}
use Rattle.cert_rules.specs.declared.line.Side.{Side}
use Rattle.cert_rules.specs.declared.line.Side.TheVariants.{Field, Call}
use Rattle.cert_rules.specs.Given.{Cites}
use Rattle.cert_rules.specs.Lengths.{cited_length}
use Rattle.cert_lines.specs.Noted.{GivesAt, IsBettered, IsThere, Noted, length_at}
use Rattle.cert_work.specs.Added.{AreAdded}
use Rattle.cert_work.specs.declared.wants.Wants.{Wants}
use Rattle.cert_work.specs.declared.work.Work.{Work}
use Rattle.cert_work.specs.Rules.{AreWorked, AreWorkedIfBest, GoesInto, GoesOn, IsAlong, IsAlongIfBest, IsBetteredAt, IsFollowed, IsPopped, IsPoppedIfBest, IsPut, IsPutIfBest, one_more}
use Rattle.cert_work.specs.Work.{IsWork, IsWorking}
use Rattle.cert_work.proofs.Growing.{at_more, cited_kept, cites_less, goes_into_more, goes_on_more, length_more, one_fact, there_more, there_within}

-- the number from 1 is that from 0 and one
pub bettered_at : (w : Noted) (i : ℕ) → 0 < i → IsBettered w (i - 1) → IsBetteredAt w i
bettered_at w zero more is = absurd (omega arith)
bettered_at w (suc k) more is = let e : suc k - 1 ≡ k = omega arith in subst (IsBettered w) e is

module _ (p : LinkedProgram) (t : Node) {old new : Noted} (added : AreAdded p t old new) where
  bettered_more : (i : ℕ) → IsBetteredAt old i → IsBetteredAt new i
  bettered_more zero is = is
  bettered_more (suc k) is =
      let low = slice_get-below old.given k (Some is.fact) is.gives in
      let further_low = slice_get-below old.given is.further (Some is.fact) is.again in
      record {
        fact = is.fact;
        gives = at_more p t added k is.fact is.gives;
        further = is.further;
        behind = is.behind;
        again = at_more p t added is.further is.fact is.again;
        short = omega (arith, is.short, length_more p t added k low, length_more p t added is.further further_low);
      }

  pub along_best_more : (i : ℕ) (e : Edge) → i ≤ length old.given → IsAlongIfBest old i e → IsAlongIfBest new i e
  along_best_more i e low is side o x at =
      let here = cites_less p t added i _ low at in
      elim (is side o x here) [
        | inl there ↦ inl (subst (λ (n : ℕ). GoesOn new n side o x e.kind e.to) (sym (cited_kept p t added i _ here))
            (goes_on_more p t added (cited_length old.lengths i) side o x e.kind e.to there))
        | inr better ↦ inr (bettered_more i better)
      ]

  pub popped_best_more : (i link : ℕ) (e : Edge) → i ≤ length old.given → link ≤ length old.given → IsPoppedIfBest old i link e → IsPoppedIfBest new i link e
  popped_best_more i link e low under is side o x below at links takes =
      let here = cites_less p t added i _ low at in
      let there = cites_less p t added link _ under links in
      let one = cited_kept p t added i _ here in
      let two = cited_kept p t added link _ there in
      elim (is side o x below here there takes) [
        | inl old_there ↦ inl (rw (one, two) (there_more p t added _ _ old_there))
        | inr better ↦ inr (bettered_more i better)
      ]

  pub put_best_more : (i met : ℕ) (base : Site) (n : Node) → i ≤ length old.given → met ≤ length old.given → IsPutIfBest old i met base n → IsPutIfBest new i met base n
  put_best_more i met base n low under is side o x s at meets =
      let here = cites_less p t added i _ low at in
      elim (is side o x s here (cites_less p t added met _ under meets)) [
        | inl there ↦ inl (subst (λ (k : ℕ). GoesInto new k side o x s.field n) (sym (cited_kept p t added i _ here))
            (goes_into_more p t added (cited_length old.lengths i) side o x s.field n there))
        | inr better ↦ inr (bettered_more i better)
      ]

-- what a line gives that is no longer
module _ (w : Noted) (a b : ℕ) (le : a ≤ b) where
  longer_on : (side : Side) (o : Site) (x : Entry) (kind : EdgeKind) (to : Node) → GoesOn w a side o x kind to → GoesOn w b side o x kind to
  longer_on Field o x edge.Flow to is = there_within w _ (a + 1) (b + 1) is (omega (arith, le))
  longer_on Field o x (edge.Load field) to is = tt
  longer_on Field o x (edge.Call call) to is = there_within w _ (a + 1) (b + 1) is (omega (arith, le))
  longer_on Field o x (edge.Return call) to is = there_within w _ (a + 1) (b + 1) is (omega (arith, le))
  longer_on Field o x edge.Jump to is = there_within w _ (a + 1) (b + 1) is (omega (arith, le))
  longer_on Call o x edge.Flow to is = is
  longer_on Call o x (edge.Load field) to is = is
  longer_on Call o x (edge.Call call) to is = is
  longer_on Call o x (edge.Return call) to is = is
  longer_on Call o x edge.Jump to is = is

  longer_into : (side : Side) (o : Site) (x : Entry) (field : ℕ) (to : Node) → GoesInto w a side o x field to → GoesInto w b side o x field to
  longer_into Field o x field to is = (is.0, there_within w _ (a + 1) (b + 1) is.1 (omega (arith, le)))
  longer_into Call o x field to is = is

  longer_popped : (side : Side) (fact : Fact) (c : ℕ) → IsThere w fact (one_more side (a + c)) → IsThere w fact (one_more side (b + c))
  longer_popped Field fact c is = there_within w fact (a + c + 1) (b + c + 1) is (omega (arith, le))
  longer_popped Call fact c is = is

module _ (p : LinkedProgram) (t : Node) (wants : Wants) (w : Noted) (worked : AreWorkedIfBest p t wants w (length w.given)) where
  -- the better line gives the same
  better_cites : (k : ℕ) (fact : Fact) → Cites w.given (suc k) fact → (is : IsBettered w k) → Cites w.given (suc is.further) fact
  better_cites k fact cites is = subst (λ (f : Fact). GivesAt w is.further f) (one_fact w k is.fact fact is.gives cites) is.again

  followed_better : (k : ℕ) (is : IsBettered w k) → IsFollowed wants w (suc k) → IsFollowed wants w (suc is.further)
  followed_better k is followed side o x n cites =
      followed side o x n (subst (λ (f : Fact). GivesAt w k f) (one_fact w is.further is.fact (At side o x n) is.again cites) is.gives)

  -- so the last of the better ones gives what the first has to; there are no more of them than lines
  settled_along : (fuel i : ℕ) → length w.given < fuel + i → IsFollowed wants w i → (e : Edge) → EdgeIn p (about t) e.from e.kind e.to → IsAlong w i e
  settled_along fuel zero more followed e edge side o x at = absurd at
  settled_along zero (suc k) more followed e edge side o x at = absurd (omega (arith, more, slice_get-below w.given k (Some (At side o x e.from)) at))
  settled_along (suc fuel) (suc k) more followed e edge side o x at =
      let low = slice_get-below w.given k (Some (At side o x e.from)) at in
      elim (worked.along (suc k) e (omega (arith, low)) followed edge side o x at) [
        | inl there ↦ there
        | inr is ↦ longer_on w (length_at w is.further) (length_at w k) is.short side o x e.kind e.to
            (settled_along fuel (suc is.further) (omega (arith, more, is.behind)) (followed_better k is followed) e edge side o x (better_cites k _ at is))
      ]

  settled_popped : (fuel i : ℕ) → length w.given < fuel + i → IsFollowed wants w i → (link : ℕ) (e : Edge) → link ≤ length w.given
      → EdgeIn p (about t) e.from e.kind e.to → IsPopped w i link e
  settled_popped fuel zero more followed link e under edge side o x below at links takes = absurd at
  settled_popped zero (suc k) more followed link e under edge side o x below at links takes =
      absurd (omega (arith, more, slice_get-below w.given k (Some (At side o x e.from)) at))
  settled_popped (suc fuel) (suc k) more followed link e under edge side o x below at links takes =
      let low = slice_get-below w.given k (Some (At side o x e.from)) at in
      elim (worked.popped (suc k) link e (omega (arith, low)) under followed edge side o x below at links takes) [
        | inl there ↦ there
        | inr is ↦ longer_popped w (length_at w is.further) (length_at w k) is.short side _ (cited_length w.lengths link)
            (settled_popped fuel (suc is.further) (omega (arith, more, is.behind)) (followed_better k is followed) link e under edge side o x below (better_cites k _ at is) links takes)
      ]

  settled_put : (fuel i : ℕ) → length w.given < fuel + i → IsFollowed wants w i → (met : ℕ) (base : Site) (n : Node) → met ≤ length w.given
      → StartIn p (about t) base n → IsPut w i met base n
  settled_put fuel zero more followed met base n under start side o x s at meets = absurd at
  settled_put zero (suc k) more followed met base n under start side o x s at meets =
      absurd (omega (arith, more, slice_get-below w.given k (Some (At side o x s.arg)) at))
  settled_put (suc fuel) (suc k) more followed met base n under start side o x s at meets =
      let low = slice_get-below w.given k (Some (At side o x s.arg)) at in
      elim (worked.put (suc k) met base n (omega (arith, low)) under followed start side o x s at meets) [
        | inl there ↦ there
        | inr is ↦ longer_into w (length_at w is.further) (length_at w k) is.short side o x s.field n
            (settled_put fuel (suc is.further) (omega (arith, more, is.behind)) (followed_better k is followed) met base n under start side o x s (better_cites k _ at is) meets)
      ]

  settled : AreWorked p t wants w (length w.given)
  settled = record {
    along = λ i e low followed edge. settled_along (length w.given + 1) i (omega arith) followed e edge;
    popped = λ i link e low under followed edge. settled_popped (length w.given + 1) i (omega arith) followed link e under edge;
    put = λ i met base n low under followed start. settled_put (length w.given + 1) i (omega arith) followed met base n under start;
  }

-- before lines are gone through, and when all were
pub work_begins : (p : LinkedProgram) (t : Node) (wants : Wants) (k : Work) → IsWork p t wants k → IsWorking p t wants k
work_begins p t wants k is = record {
  within = is.within;
  filed = is.filed;
  ends = is.ends;
  stored = is.stored;
  takers = is.takers;
  worked = record {
    along = λ i e low followed edge side o x at. inl (is.worked.along i e low followed edge side o x at);
    popped = λ i link e low under followed edge side o x below at links takes. inl (is.worked.popped i link e low under followed edge side o x below at links takes);
    put = λ i met base n low under followed start side o x s at meets. inl (is.worked.put i met base n low under followed start side o x s at meets);
  };
}

pub work_ends : (p : LinkedProgram) (t : Node) (wants : Wants) (k : Work) → IsWorking p t wants k → k.done ≡ length k.written.given → IsWork p t wants k
work_ends p t wants k is all = record {
  within = is.within;
  filed = is.filed;
  ends = is.ends;
  stored = is.stored;
  takers = is.takers;
  worked = subst (AreWorked p t wants k.written) (sym all) (settled p t wants k.written (subst (AreWorkedIfBest p t wants k.written) all is.worked));
}
