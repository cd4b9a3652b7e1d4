-- Lines that are closed over meets, one meet after another.
use Rattle.std.proofs.Common.{◌≡◌, inl, inr, ℕ, ◌+◌, List, [], ◌∷◌, ◌++◌, Some, length, map, slice_get, take, refl, subst}
use Rattle.lists.specs.Lists.{Has}
use Rattle.lists.proofs.Places.{slice_get-pushed, take-next}
use Rattle.link_rules.specs.Linked.{LinkedProgram}
use Rattle.link_sites.specs.declared.site.Site.{Site}
use Rattle.spds_rules.specs.declared.node.Node.{Node}
use Rattle.spds_rules.specs.declared.store.StoreAt.{StoreAt}
use Rattle.spds_laws.proofs.Strings.{calls_strings}
use Rattle.demand_set.specs.Demands.{DemandParts}
use Rattle.cert_rules.specs.declared.fact.Entry.{Entry}
use Rattle.cert_rules.specs.declared.fact.Entry.TheVariants.{Base}
use Rattle.cert_rules.specs.declared.fact.Fact.TheVariants.{At, Met as IsMet}
use Rattle.cert_rules.specs.declared.line.Side.TheVariants.{Field}
use Rattle.cert_rules.specs.Certified.{AreGiven}
use Rattle.spds_rules.specs.Demand.{about}
use Rattle.cert_rules.specs.Lengths.{lengths_of}
use Rattle.cert_lines.specs.Noted.{IsThere, Noted}
use Rattle.cert_rules.specs.Told.{as_told}
use Rattle.cert_work.specs.declared.roads.View.{View}
use Rattle.cert_work.specs.declared.wants.Wants.{Wants}
use Rattle.cert_work.specs.declared.work.Work.{Work}
use Rattle.cert_work.specs.Added.{AreAdded}
use Rattle.cert_work.specs.Roads.{StartOf}
use Rattle.cert_work.specs.Rules.{AreWorked}
use Rattle.cert_work.specs.Wants.{AreWants, IsWanted}
use Rattle.cert_work.specs.Work.{IsWorkOf}
use Rattle.cert_work.proofs.Growing.{there_more}
use Rattle.cert_trace.specs.declared.meeting.Meeting.{Meeting}
use Rattle.cert_trace.specs.Closed.{AreClosedIn}
use Rattle.cert_trace.specs.Meeting.{IsJustified}
use Rattle.cert_trace.proofs.Held.{calls_read, fields_held}
use Rattle.cert_trace.proofs.Told.{added_given, added_told}
use Rattle.spds_solve.specs.declared.met.Met.{Met}
use Rattle.spds_solve.specs.Solved.{IsListed, RestsOn, StandsForMeet}
use Rattle.cert_trace.specs.Resting.{IsTraced, no_lines}

module _ (p : LinkedProgram) (t : Node) where
  pub all_worked : (wants : Wants) (k : Noted) (done : ℕ) → done ≡ length k.given → AreWorked p t wants k done → AreWorked p t wants k (length k.given)
  all_worked wants k done all worked = subst (AreWorked p t wants k) all worked

  -- where objects are followed for meets they are for some of these
  pub wants_less : (wants : Wants) (M N : Site → Site → StoreAt → Type 0) → ((o base : Site) (s : StoreAt) → N o base s → M o base s) → AreWants p t wants M
      → AreWants p t wants N
  wants_less wants M N less are = record {
    answered = are.answered;
    back = are.back;
    stored = λ o base s n m. are.stored o base s n (less o base s m);
    into = λ o base s n m. are.into o base s n (less o base s m);
    ahead = record {
      loaded = are.ahead.loaded;
      kept = are.ahead.kept;
      stored = λ f x y o base s m. are.ahead.stored f x y o base s (less o base s m);
    };
  }

  -- what was put behind a new list is put behind none
  pub added_first : (w new : Noted) → w.lines ≡ [] → w.given ≡ [] → w.lengths ≡ [] → AreAdded p t w new → AreAdded p t no_lines new
  added_first w new lines given lengths added =
      let none : w ≡ no_lines = (λ j. record { lines = lines j; given = given j; lengths = lengths j }) in subst (λ (k : Noted). AreAdded p t k new) none added

  pub given_first : (new : Noted) → AreAdded p t no_lines new → AreGiven p t new.lines new.given
  given_first new added = added_given p t added (record { as_many = refl; each = λ i l there. cc })

  pub told_first : (new : Noted) → AreAdded p t no_lines new → new.lengths ≡ map as_told (lengths_of new.lines)
  told_first new added = added_told p t added refl

module _ (v : View) (d : DemandParts) (before : List Met) (w : Noted) (closed : AreClosedIn v.linked.now v.target v.wants.now w (IsListed d before)) (met : Met)
    (rests : RestsOn v.linked.now (about v.target) d before met) where
  pub rests_justified : IsWanted v.wants.now rests.object rests.store.arg → IsWanted v.wants.now rests.base rests.store.base → (m : Meeting) → m.object ≡ rests.object → m.base ≡ rests.base → m.store ≡ rests.store → m.string.now ≡ met.string → IsJustified v w m
  rests_justified arg into m o b s string =
      let p = v.linked.now in
      let under = rests.stores in
      let base = fields_held p v.target v.wants.now w (IsListed d before) closed rests.base under.is_base into tt in
      let at : IsThere w (At Field rests.base Base rests.store.base) base.front
      = subst (λ (x : Entry). IsThere w (At Field rests.base x rests.store.base) base.front) base.spelled base.at in
      rw (o, b, s, string) (record {
        store = under.store;
        at_arg = calls_strings p (about v.target) (IsListed d before) rests.object under.at_arg;
        at_base = calls_strings p (about v.target) (IsListed d before) rests.base under.at_base;
        reads_object = calls_read p v.target v.wants.now w (IsListed d before) closed rests.object under.at_arg arg;
        reads_base = calls_read p v.target v.wants.now w (IsListed d before) closed rests.base under.at_base into;
        is_base = (base.front, at);
        has = under.has;
      })

-- one meet more
pub traced_next : (v : View) (d : DemandParts) (mets : List Met) (i : ℕ) (met : Met) → slice_get mets i ≡ Some met → (old new : Work) → IsTraced v d (take i mets) old
    → AreAdded v.linked.now v.target old.written new.written → IsWorkOf v new → new.done ≡ length new.written.given
    → AreWants v.linked.now v.target v.wants.now (IsListed d (take (i + 1) mets))
    → ((o base : Site) (s : StoreAt) (n : Node) → StandsForMeet d met o base s → StartOf v base n → IsWanted v.wants.now o n → IsThere new.written (IsMet o base s) 0)
    → IsTraced v d (take (i + 1) mets) new
traced_next v d mets i met there old new traced added work all wants is = record {
  work = work;
  all = all;
  closed = record {
    wanted = wants;
    worked = all_worked v.linked.now v.target v.wants.now new.written new.done all work.worked;
    starts = λ side o n st wanted. there_more v.linked.now v.target added _ _ (traced.closed.starts side o n st wanted);
    mets = λ o base s n listed start wanted.
        let has : Has (take i mets ++ met ∷ []) listed.0 = subst (λ (ms : List Met). Has ms listed.0) (take-next mets i met there) listed.1 in
        elim (slice_get-pushed (take i mets) met has.0 listed.0 has.1) [
          | inl before ↦ (let m = traced.closed.mets o base s n (listed.0, (has.0, before), listed.2) start wanted in (m.0, there_more v.linked.now v.target added _ _ m.1))
          | inr e ↦ (0, is o base s n (subst (λ (m : Met). StandsForMeet d m o base s) e.1 listed.2) start wanted)
        ];
  };
}

pub met_there : (w : Noted) (x y : Site) (z : StoreAt) (o base : Site) (s : StoreAt) → IsThere w (IsMet x y z) 0 → x ≡ o → y ≡ base → z ≡ s → IsThere w (IsMet o base s) 0
met_there w x y z o base s there a b c =
    subst (λ (u : Site). IsThere w (IsMet u base s) 0) a (subst (λ (u : Site). IsThere w (IsMet x u s) 0) b (subst (λ (u : StoreAt). IsThere w (IsMet x y u) 0) c there))
