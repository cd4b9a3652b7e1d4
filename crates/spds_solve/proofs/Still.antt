-- A meet goes to its object's site, and asks nothing of the others.
use Rattle.std.proofs.Common.{◌≡◌, ◌⊎◌, ℕ, ◌+◌, ◌<◌, ◌^◌, ◌++◌, Bool, true, false, List, [], ◌∷◌, length, Some, slice_get, slice_set, refl, sym, ap, ◌∙◌, subst, inl, inr, arith}
use Rattle.std.proofs.lemmas.Bool.{cases_eq}
use Rattle.std.proofs.lemmas.List.{length-set}
use Rattle.lists.proofs.Places.{slice_get-below, slice_get-set_other, slice_get-set_same, slice_get-there, Has-push}
use Rattle.piece_join.specs.Brought.{AllAt}
use Rattle.piece_join.proofs.Joined.{became}
use Rattle.post_star.specs.Jobs.{Job}
use Rattle.spds_solve.specs.declared.refresh.Tables.{Tables}
use Rattle.spds_solve.specs.Searches.{AllSettled, AreCompleted, AreStill, AreTaken, IsCompleted, IsStill, MayComplete, MayCompleteAll}
use Rattle.spds_tables.proofs.Built.{met_passed, within_more}
use Rattle.spds_tables.specs.declared.numbered.Met.{Met}
use Rattle.spds_tables.specs.declared.numbered.StartAt.{StartAt}
use Rattle.spds_tables.specs.declared.parts.Parts.{Parts}
use Rattle.spds_tables.specs.declared.tables.SiteTables.{SiteTables}
use Rattle.spds_tables.specs.Parts.{AreLedIn}
use Rattle.spds_tables.specs.Tables.{AreBuilt, AreSettled, IsAskedOf}
use Rattle.weight_laws.specs.declared.reach.Reach.{Reach}
use Rattle.lists.proofs.Joined.{Has-left}

module _ (parts : Parts) (site : ℕ) (mets : List Met) (m : Met) (other : m.object ≡ site → ⊥) where
  -- the systems of a site are the same where a meet of another object comes
  pub built_passed : (t : SiteTables) → AreBuilt parts site mets t → AreBuilt parts site (mets ++ m ∷ []) t
  built_passed t built = met_passed parts site mets (mets ++ m ∷ []) m t other (within_more parts site mets mets (mets ++ m ∷ []) t (λ x has. Has-left mets (m ∷ []) x has) built)

  asked_fewer : (job : Job Reach) (s : StartAt) → IsAskedOf parts site (mets ++ m ∷ []) job s → IsAskedOf parts site mets job s
  asked_fewer job s (inl jump) = inl jump
  asked_fewer job s (inr q) = inr (record {
    met = q.met;
    has = elim ((Has-push mets m q.met).0 q.has) [ inl old ↦ old | inr new ↦ absurd (other (sym (ap (λ (x : Met). x.object) new) ∙ q.object)) ];
    object = q.object;
    arrives = q.arrives;
    among = q.among;
  })

  -- so tables that have come to the end stay there
  pub settled_passed : (t : SiteTables) → AreSettled parts site mets t → AreSettled parts site (mets ++ m ∷ []) t
  settled_passed t h = record {
    built = built_passed t h.built;
    fields = h.fields;
    calls = h.calls;
    closed = λ s asks. h.closed s (asked_fewer t.calls s asks);
  }

-- a site that is still
pub still_self : (t : Tables) → AreStill t t
still_self t = record { each = λ site still. (still, refl) }

pub still_then : (first mid last : Tables) → AreStill first mid → AreStill mid last → AreStill first last
still_then first mid last a b = record { each = λ site still. let h = b.each site still in let k = a.each site h.0 in (k.0, h.1 ∙ k.1) }

-- what stands in a list of which one element was set
set_cases : {X : Type 0} {P : Type 0} (xs : List X) (at i : ℕ) (x y : X) → at < length xs → slice_get (slice_set xs at x) i ≡ Some y
    → (i ≡ at → y ≡ x → P) → ((i ≡ at → ⊥) → slice_get xs i ≡ Some y → P) → P
set_cases {X} xs at i x y low there same else = elim (cases_eq i at) [
  | inl e ↦
      same e (let a = slice_get-set_same xs at x low in let b : slice_get (slice_set xs at x) at ≡ Some y = subst (λ (n : ℕ). slice_get (slice_set xs at x) n ≡ Some y) e there in cc)
  | inr n ↦ else n (sym (slice_get-set_other xs at i x n) ∙ there)
]

module _ (parts : Parts) (old new : Tables) (at : ℕ) (t : SiteTables) (low : at < length old.each.items) (each : new.each.items ≡ slice_set old.each.items at t) where
  module _ (flag : at < length old.changed.items) (changed : new.changed.items ≡ slice_set old.changed.items at true) where
    -- the site got something: no other did
    not_at : (i : ℕ) → IsStill new i → (i ≡ at → ⊥) × IsStill old i
    not_at i still =
        set_cases old.changed.items at i true false flag (subst (λ (bs : List Bool). slice_get bs i ≡ Some false) changed still)
        (λ e h. cc) (λ n there. (n, there))

    pub took_still : AreStill old new
    took_still = record { each = λ i still. let h = not_at i still in (h.1, ap (λ (xs : List SiteTables). slice_get xs i) each ∙ slice_get-set_other old.each.items at i t h.0) }

    pub took : (mets : List Met) (m : Met) → m.object ≡ at → AreTaken parts mets old → AreBuilt parts at (mets ++ m ∷ []) t → AreTaken parts (mets ++ m ∷ []) new
    took mets m is was now = record {
      count = ap length each ∙ length-set old.each.items at t ∙ was.count;
      flags = ap length changed ∙ length-set old.changed.items at true ∙ was.flags;
      built = λ i x there. set_cases old.each.items at i t x low (subst (λ (xs : List SiteTables). slice_get xs i ≡ Some x) each there)
          (λ e same. subst (λ (n : ℕ). AreBuilt parts n (mets ++ m ∷ []) x) (sym e) (subst (λ (y : SiteTables). AreBuilt parts at (mets ++ m ∷ []) y) (sym same) now))
          (λ n before. built_passed parts i mets m (λ e. n (sym e ∙ is)) x (was.built i x before));
      still = λ i x there still.
          let h = not_at i still in
          let before = sym (slice_get-set_other old.each.items at i t h.0) ∙ subst (λ (xs : List SiteTables). slice_get xs i ≡ Some x) each there in
          settled_passed parts i mets m (λ e. h.0 (sym e ∙ is)) x (was.still i x before h.1);
    }

-- the tables of all sites may be brought to the end
pub taken_may : (parts : Parts) (mets : List Met) (t : Tables) → AreLedIn parts → length t.each.items < 2 ^ 32 → AreTaken parts mets t
    → MayCompleteAll parts t.changed.items t.each.items
taken_may parts mets t led few taken = record { led = led; few = few; flags = taken.flags ∙ sym taken.count; mets = mets; built = taken.built }

module _ (parts : Parts) (changed : List Bool) (tables : List SiteTables) (may : MayCompleteAll parts changed tables) where
  -- so may those of each
  pub each_may : AllAt (MayComplete parts changed) 0 tables
  each_may site t there =
      let at : site ≡ 0 + site = omega arith in
      let low = slice_get-below tables site t there in
      subst (λ (n : ℕ). MayComplete parts changed n t) at
      (record { led = may.led; flagged = omega (arith, low, may.flags); mets = may.mets; built = may.built site t there })

module _ (parts : Parts) (old new : Tables) (changed : new.changed ≡ old.changed) (done : AreCompleted parts old.changed.items old.each.items new.each.items) (mets : List Met)
    (was : AreTaken parts mets old) where
  -- what the tables of a site were, and whether it had changed
  before : (site : ℕ) (x : SiteTables) → slice_get new.each.items site ≡ Some x
      → (y : SiteTables) × (slice_get old.each.items site ≡ Some y) × IsCompleted parts old.changed.items site y x
  before site x there =
      let at : 0 + site ≡ site = omega arith in
      let h = became (IsCompleted parts old.changed.items) 0 old.each.items new.each.items done.count done.each site x there in
      (h.0, h.1, subst (λ (n : ℕ). IsCompleted parts old.changed.items n h.0 x) at h.2)

  -- each site has a flag
  flag : (site : ℕ) (y : SiteTables) → slice_get old.each.items site ≡ Some y → IsStill old site ⊎ (slice_get old.changed.items site ≡ Some true)
  flag site y there =
      let low = slice_get-below old.each.items site y there in
      let h = slice_get-there old.changed.items site (omega (arith, low, was.count, was.flags)) in
      by h.0 h.1
    where
      by : (b : Bool) → slice_get old.changed.items site ≡ Some b → IsStill old site ⊎ (slice_get old.changed.items site ≡ Some true)
      by true is = inr is
      by false is = inl is

  -- those of each site have come to the end
  pub completed_each : (site : ℕ) (x : SiteTables) → slice_get new.each.items site ≡ Some x → AreSettled parts site mets x
  completed_each site x there =
      let h = before site x there in
      elim (flag site h.0 h.1) [
        | inl still ↦ subst (AreSettled parts site mets) (sym (h.2.kept still)) (was.still site h.0 h.1 still)
        | inr is ↦ h.2.settled is mets (was.built site h.0 h.1)
      ]

  pub completed_all : AllSettled parts mets new.each.items
  completed_all = record { count = done.count ∙ was.count; each = completed_each }

  pub completed_taken : AreTaken parts mets new
  completed_taken = record {
    count = done.count ∙ was.count;
    flags = ap (λ v. length v.items) changed ∙ was.flags;
    built = λ site x there. (completed_each site x there).built;
    still = λ site x there still. completed_each site x there;
  }

  -- sites that are still were not touched
  pub completed_still : AreStill old new
  completed_still = record {
    each = λ site still.
        let same : IsStill old site = subst (λ v. slice_get v.items site ≡ Some false) changed still in
        let low = slice_get-below old.changed.items site false same in
        let h = slice_get-there new.each.items site (omega (arith, low, was.flags, was.count, done.count)) in
        let there = before site h.0 h.1 in
        (same, h.1 ∙ ap Some (there.2.kept same) ∙ sym there.1);
  }

-- one more site was looked at
pub rested : (old : List Bool) (at : ℕ) → at < length old → ((k : ℕ) → k < at → slice_get old k ≡ Some false) → (k : ℕ) → k < at + 1 → slice_get (slice_set old at false) k ≡ Some false
rested old at low was k below = elim (cases_eq k at) [
  | inl e ↦ subst (λ (n : ℕ). slice_get (slice_set old at false) n ≡ Some false) (sym e) (slice_get-set_same old at false low)
  | inr n ↦ slice_get-set_other old at k false n ∙ was k (omega arith)
]
