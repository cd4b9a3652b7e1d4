-- The replies about a place, of whatever is told of its node: those to `points-to`, `explain` and `demo`, and to each query of a batch.
use Rattle.std.proofs.Common.{◌≡◌, ℕ, ◌⊎◌, List, [], ◌∷◌, ◌∙◌, ap, arith, inl, inr, subst, sym}
use Rattle.link_rules.specs.Linked.{LinkedProgram}
use Rattle.link_rules.specs.WellLinked.{IsInForm}
use Rattle.link_sites.specs.declared.site.Site.{Site}
use Rattle.spds_rules.specs.declared.node.Node.{Node}
use Rattle.demand_set.proofs.Counts.{HasMore-not}
use Rattle.query_core.proofs.Determined.{answer_over}
use Rattle.query_core.proofs.NamedPlaces.{missing_one, place_one, place_there}
use Rattle.query_core.specs.Answers.{IsAffordable, IsOver}
use Rattle.query_core.specs.Places.{IsPlaceOf}
use Rattle.boom_words.specs.Requests.{PointsTo}
use Rattle.report_text.specs.Lines.{text_of}
use Rattle.boom_top.specs.Places.{IsAnswered, IsBudgetReply, IsPlaceReply, IsWithin}
use Rattle.boom_top.specs.declared.status.Status.{Status}
use Rattle.boom_top.specs.declared.status.Status.TheVariants.{Done, NoSuchPlace, OverBudget}
use Rattle.boom_top.proofs.Splits.{AreOne, Refuses, ones, refused_by}

module _ (p : LinkedProgram) where
  module _ (nodes : List Node) (budget : ℕ) (Answers : List (List ℕ) → Type 0) where
    -- nodes of which an answer isn't over the budget have one status
    pub budget_one : ((lines : List (List ℕ)) → Answers lines → IsOver p nodes budget → ⊥) → (s t : Status) (xs ys : List (List ℕ))
        → IsBudgetReply p nodes budget Answers s xs → IsBudgetReply p nodes budget Answers t ys → s ≡ t
    budget_one within s t xs ys (inl a) (inl b) = a.1.0 ∙ sym b.1.0
    budget_one within s t xs ys (inl a) (inr b) = absurd (within ys b.0 a.0)
    budget_one within s t xs ys (inr a) (inl b) = absurd (within xs a.0 b.0)
    budget_one within s t xs ys (inr a) (inr b) = a.1 ∙ sym b.1

  module _ (asked : PointsTo) (Tells : Node → List Site → ℕ → List ℕ → Type 0) where
    -- what is answered of a node isn't over the budget
    answered_within : (n : Node) (lines : List (List ℕ)) → IsAnswered p Tells asked.budget n lines → IsOver p (n ∷ []) asked.budget → ⊥
    answered_within n lines a over =
        let most = a.affordable in
        omega (arith, most, answer_over p n a.sites a.demanded asked.budget a.answer over)

    -- a place has one status
    place_status : (s t : Status) (xs ys : List (List ℕ)) → IsPlaceReply p asked Tells s xs → IsPlaceReply p asked Tells t ys → s ≡ t
    place_status s t xs ys (inl a) (inl b) = a.2.0 ∙ ap NoSuchPlace (missing_one p asked.method asked.index asked.local a.0 b.0 a.1 b.1) ∙ sym b.2.0
    place_status s t xs ys (inl a) (inr b) = absurd (place_there p asked.method asked.index asked.local b.0 b.1 a.0 a.1)
    place_status s t xs ys (inr a) (inl b) = absurd (place_there p asked.method asked.index asked.local a.0 a.1 b.0 b.1)
    place_status s t xs ys (inr a) (inr b) =
        let here = subst (λ (n : Node). IsBudgetReply p (n ∷ []) asked.budget (IsAnswered p Tells asked.budget n) s xs)
        (place_one p asked.method asked.index asked.local a.0 b.0 a.1 b.1) a.2 in
        budget_one (b.0 ∷ []) asked.budget (IsAnswered p Tells asked.budget b.0) (answered_within b.0) s t xs ys here b.2

    -- what is said of a place that is there
    abbrev SaysPlace : List (List ℕ) → Type 0
    SaysPlace lines = (n : Node) × IsPlaceOf p asked.method asked.index asked.local n × IsAnswered p Tells asked.budget n lines

    place_split : (s : Status) (lines : List (List ℕ)) → IsPlaceReply p asked Tells s lines → (SaysPlace lines × (s ≡ Done)) ⊎ Refuses s lines
    place_split s lines (inl a) = inr (refused_by (NoSuchPlace a.0) s lines (λ no. cc) tt a.2)
    place_split s lines (inr (n, here, inl over)) = inr (refused_by (OverBudget asked.budget) s lines (λ no. cc) tt over.1)
    place_split s lines (inr (n, here, inr a)) = inl ((n, here, a.0), a.1)

    place_told_one : ((n : Node) (xs ys : List (List ℕ)) → IsAnswered p Tells asked.budget n xs → IsAnswered p Tells asked.budget n ys → text_of xs ≡ text_of ys)
        → (xs ys : List (List ℕ)) → SaysPlace xs → SaysPlace ys → text_of xs ≡ text_of ys
    place_told_one one xs ys a b =
        one b.0 xs ys (subst (λ (n : Node). IsAnswered p Tells asked.budget n xs) (place_one p asked.method asked.index asked.local a.0 b.0 a.1 b.1) a.2) b.2

    -- the replies about a place are one where the answers about a node are
    pub place_ones : (Plain : Type 0) → (IsInForm p → Plain → (n : Node) (xs ys : List (List ℕ)) → IsAnswered p Tells asked.budget n xs
        → IsAnswered p Tells asked.budget n ys → text_of xs ≡ text_of ys) → AreOne p (IsPlaceReply p asked Tells) Plain
    place_ones Plain one = ones p (IsPlaceReply p asked Tells) Plain SaysPlace place_split place_status (λ form plain. place_told_one (one form plain))

    -- a budget of at least the demand's size is enough
    pub place_enough : (s : Status) (lines : List (List ℕ)) → IsWithin p asked → IsPlaceReply p asked Tells s lines → s ≡ Done
    place_enough s lines (n, place, affordable) (inl a) = absurd (place_there p asked.method asked.index asked.local n place a.0 a.1)
    place_enough s lines (n, place, affordable) (inr (m, here, inl over)) =
        let same = place_one p asked.method asked.index asked.local n m place here in
        absurd (HasMore-not asked.budget over.0 (subst (λ (n : Node). IsAffordable p (n ∷ []) asked.budget) same affordable))
    place_enough s lines (n, place, affordable) (inr (m, here, inr a)) = a.1
