-- What `refined` is answered.
use Rattle.std.proofs.Common.{◌≡◌, ℕ, ◌++◌, ◌⊎◌, List, ◌∷◌, ◌∙◌, Option, ap, arith, codes, inl, inr, length, subst, sym}
use Rattle.std.specs.Io.KnownBytes.{Appends}
use Rattle.link_rules.specs.Linked.{LinkedProgram}
use Rattle.link_rules.specs.WellLinked.{IsInForm, IsWellLinked}
use Rattle.link_laws.proofs.Lists.{each_left}
use Rattle.narrow_rules.specs.Narrowed.{LacksPairs}
use Rattle.link_sites.specs.declared.site.Site.{Site}
use Rattle.spds_rules.specs.declared.node.Node.{Node}
use Rattle.run_covers.specs.Covers.{IsCovered}
use Rattle.refine_rules.proofs.Once.{rounds_determined}
use Rattle.cert_laws.proofs.Complete.{answered_certified}
use Rattle.query_core.proofs.Determined.{counts_one, sites_one}
use Rattle.query_core.proofs.NamedPlaces.{missing_one, place_one, place_there}
use Rattle.query_core.specs.Places.{IsPlaceOf}
use Rattle.refined_query.proofs.Determined.{affordable_over, answer_over}
use Rattle.refined_query.proofs.Sound.{refined_holds}
use Rattle.refined_query.specs.Answers.{IsAnswerOver, IsDemandedBy, IsRefinedAffordable, IsRefinedOver}
use Rattle.boom_words.specs.Requests.{Refined}
use Rattle.report_text.specs.Answers.{IsRefinedText, IsSiteLine, count_lines, narrowed_line}
use Rattle.report_text.specs.Lines.{text_of}
use Rattle.boom_top.specs.Printed.{PrintsAllRuns}
use Rattle.boom_top.specs.Refined.{CoversRefined, IsRefinedNodeReply, IsRefinedReply, IsRefinedTold, IsRefinedWithin, PrintsRefinedShown}
use Rattle.boom_top.specs.declared.status.Status.{Status}
use Rattle.boom_top.specs.declared.status.Status.TheVariants.{Done, NoSuchPlace, OverBudget}
use Rattle.boom_top.proofs.Lines.{has_behind}
use Rattle.boom_top.proofs.OneText.{lines_one, query_line_one}
use Rattle.boom_top.proofs.Splits.{AreOne, Refuses, ones, refused_by}

module _ (p : LinkedProgram) (form : IsInForm p) where
  -- the text about a node is one, by its query line, its sites and the counts
  module _ (n : Node) (sites : List Site) (demanded : ℕ) (a b : List ℕ) where
    refined_text_one : (narrowed : ℕ) → IsRefinedText p n narrowed sites demanded a → IsRefinedText p n narrowed sites demanded b → a ≡ b
    refined_text_one narrowed x y =
        let query = query_line_one p form (codes "refined") n x.query y.query x.query_is y.query_is in
        let lines = lines_one p form (codes "site ") sites x.lines y.lines x.lines_are y.lines_are in
        x.text_is ∙ (λ i. text_of (query i ∷ narrowed_line narrowed ∷ (lines i ++ count_lines (length sites) demanded))) ∙ sym y.text_is

  -- what is told where calls are refined
  refined_told_one : (asked : Refined) (n : Node) (xs ys : List (List ℕ)) → IsRefinedTold p asked n xs → IsRefinedTold p asked n ys → text_of xs ≡ text_of ys
  refined_told_one asked n xs ys a b =
      let left = rounds_determined p a.answer.left b.answer.left asked.budget asked.rounds a.answer.refined b.answer.refined in
      let lacks = subst (λ (q : LinkedProgram). LacksPairs p q a.narrowed) left a.answer.lacks in
      let answer = subst (λ (q : LinkedProgram). IsAnswerOver q n a.sites a.demanded) left a.answer.answer in
      let lacks_too = b.answer.lacks in
      let narrowed : a.narrowed ≡ b.narrowed = omega (arith, lacks, lacks_too) in
      let sites = sites_one b.answer.left _ a.sites b.sites answer.answer b.answer.answer.answer in
      let demanded = counts_one (IsDemandedBy b.answer.left n) a.demanded b.demanded answer.size b.answer.answer.size in
      let moved = subst (λ (k : ℕ). IsRefinedText p n k b.sites b.demanded (text_of xs)) narrowed
      (subst (λ (d : ℕ). IsRefinedText p n a.narrowed b.sites d (text_of xs)) demanded
      (subst (λ (s : List Site). IsRefinedText p n a.narrowed s a.demanded (text_of xs)) sites a.told)) in
      refined_text_one n b.sites b.demanded (text_of xs) (text_of ys) b.narrowed moved b.told

module _ (p : LinkedProgram) (asked : Refined) where
  -- what is answered of a node isn't over the budget
  told_within : (n : Node) (lines : List (List ℕ)) → IsRefinedTold p asked n lines → IsRefinedOver p asked.rounds asked.budget n → ⊥
  told_within n lines a over =
      let most = a.affordable in
      omega (arith, most, answer_over p asked.rounds asked.budget n a.narrowed a.sites a.demanded a.answer over)

  -- a node has one status
  node_status : (n : Node) (s t : Status) (xs ys : List (List ℕ)) → IsRefinedNodeReply p asked n s xs → IsRefinedNodeReply p asked n t ys → s ≡ t
  node_status n s t xs ys (inl a) (inl b) = a.1.0 ∙ sym b.1.0
  node_status n s t xs ys (inl a) (inr b) = absurd (told_within n ys b.0 a.0)
  node_status n s t xs ys (inr a) (inl b) = absurd (told_within n xs a.0 b.0)
  node_status n s t xs ys (inr a) (inr b) = a.1 ∙ sym b.1

  -- so has a place
  refined_status : (s t : Status) (xs ys : List (List ℕ)) → IsRefinedReply p asked s xs → IsRefinedReply p asked t ys → s ≡ t
  refined_status s t xs ys (inl a) (inl b) = a.2.0 ∙ ap NoSuchPlace (missing_one p asked.method asked.index asked.local a.0 b.0 a.1 b.1) ∙ sym b.2.0
  refined_status s t xs ys (inl a) (inr b) = absurd (place_there p asked.method asked.index asked.local b.0 b.1 a.0 a.1)
  refined_status s t xs ys (inr a) (inl b) = absurd (place_there p asked.method asked.index asked.local a.0 a.1 b.0 b.1)
  refined_status s t xs ys (inr a) (inr b) =
      node_status b.0 s t xs ys
      (subst (λ (n : Node). IsRefinedNodeReply p asked n s xs) (place_one p asked.method asked.index asked.local a.0 b.0 a.1 b.1) a.2) b.2

  -- what is said of a place that is there
  abbrev SaysRefined : List (List ℕ) → Type 0
  SaysRefined lines = (n : Node) × IsPlaceOf p asked.method asked.index asked.local n × IsRefinedTold p asked n lines

  refined_split : (s : Status) (lines : List (List ℕ)) → IsRefinedReply p asked s lines → (SaysRefined lines × (s ≡ Done)) ⊎ Refuses s lines
  refined_split s lines (inl a) = inr (refused_by (NoSuchPlace a.0) s lines (λ no. cc) tt a.2)
  refined_split s lines (inr (n, here, inl over)) = inr (refused_by (OverBudget asked.budget) s lines (λ no. cc) tt over.1)
  refined_split s lines (inr (n, here, inr a)) = inl ((n, here, a.0), a.1)

  refined_one : IsInForm p → (xs ys : List (List ℕ)) → SaysRefined xs → SaysRefined ys → text_of xs ≡ text_of ys
  refined_one form xs ys a b =
      refined_told_one p form asked b.0 xs ys (subst (λ (n : Node). IsRefinedTold p asked n xs) (place_one p asked.method asked.index asked.local a.0 b.0 a.1 b.1) a.2) b.2

  -- the replies are one
  pub refined_ones : (Plain : Type 0) → AreOne p (IsRefinedReply p asked) Plain
  refined_ones Plain = ones p (IsRefinedReply p asked) Plain SaysRefined refined_split refined_status (λ form plain. refined_one form)

  -- a budget of at least the demand's size over the program that is left is enough
  pub refined_enough : (s : Status) (lines : List (List ℕ)) → IsRefinedWithin p asked → IsRefinedReply p asked s lines → s ≡ Done
  refined_enough s lines (n, place, affordable) (inl a) = absurd (place_there p asked.method asked.index asked.local n place a.0 a.1)
  refined_enough s lines (n, place, affordable) (inr (m, here, inl over)) =
      let same = place_one p asked.method asked.index asked.local n m place here in
      absurd (affordable_over p asked.rounds asked.budget m
      (subst (λ (n : Node). IsRefinedAffordable p asked.rounds asked.budget n) same affordable) over.0)
  refined_enough s lines (n, place, affordable) (inr (m, here, inr a)) = a.1

module _ (p : LinkedProgram) (well : IsWellLinked p) where
  -- the answer about a node has the line of the site of each object that a run brings
  node_covered : IsCovered p → (asked : Refined) (old new : Option (List ℕ)) (lines : List (List ℕ)) → Appends old new (text_of lines) → (n : Node)
      → IsRefinedTold p asked n lines → PrintsAllRuns p n old new
  node_covered covered asked old new lines wrote n a = λ count state number frame x o run holds is.
      let found = refined_holds p well asked.rounds asked.budget n a.narrowed a.sites a.demanded a.answer covered count state number frame x o run holds is in
      let line = each_left (IsSiteLine p) a.sites a.told.lines found.2.0 found.0.site a.told.lines_are found.2.1 in (
        found.0,
        found.1,
        line.0,
        line.2,
        (
          text_of lines,
          wrote,
          record {
            lines = a.told.query ∷ narrowed_line a.narrowed ∷ (a.told.lines ++ count_lines (length a.sites) a.demanded);
            text_is = a.told.text_is;
            has = has_behind a.told.query (narrowed_line a.narrowed) a.told.lines (count_lines (length a.sites) a.demanded) line.0 (found.2.0, line.1);
          },
        ),
      )

  pub refined_covered : IsCovered p → (asked : Refined) (old new : Option (List ℕ)) (lines : List (List ℕ)) → Appends old new (text_of lines)
      → IsRefinedReply p asked Done lines → CoversRefined p asked old new
  refined_covered covered asked old new lines wrote (inl a) n place = absurd (place_there p asked.method asked.index asked.local n place a.0 a.1)
  refined_covered covered asked old new lines wrote (inr (m, here, inl over)) n place = absurd (let no : Done ≡ OverBudget asked.budget = over.1.0 in cc)
  refined_covered covered asked old new lines wrote (inr (m, here, inr a)) n place =
      node_covered covered asked old new lines wrote n
      (subst (λ (n : Node). IsRefinedTold p asked n lines) (place_one p asked.method asked.index asked.local m n here place) a.0)

-- each site is shown by some list of lines over the program that is left
pub refined_evident : (p : LinkedProgram) (asked : Refined) (old new : Option (List ℕ)) (lines : List (List ℕ)) → Appends old new (text_of lines)
    → IsRefinedReply p asked Done lines → PrintsRefinedShown p asked old new
refined_evident p asked old new lines wrote (inl a) = absurd (let no : Done ≡ NoSuchPlace a.0 = a.2.0 in cc)
refined_evident p asked old new lines wrote (inr (m, here, inl over)) = absurd (let no : Done ≡ OverBudget asked.budget = over.1.0 in cc)
refined_evident p asked old new lines wrote (inr (m, here, inr a)) = record {
  node = m;
  place = here;
  narrowed = a.0.narrowed;
  sites = a.0.sites;
  demanded = a.0.demanded;
  answer = a.0.answer;
  text = text_of lines;
  told = a.0.told;
  wrote = wrote;
  answered = λ o has. (a.0.answer.answer.answer.each o).0 has;
  shown = λ o has. answered_certified a.0.answer.left m o ((a.0.answer.answer.answer.each o).0 has);
}
