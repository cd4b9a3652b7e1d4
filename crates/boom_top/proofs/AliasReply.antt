-- What `alias` is answered.
use Rattle.std.proofs.Common.{◌≡◌, ℕ, suc, ◌++◌, ◌⊎◌, List, [], ◌∷◌, ◌∙◌, Option, Some, ap, arith, codes, inl, inr, length, refl, slice_get, subst, sym}
use Rattle.std.specs.Io.KnownBytes.{Appends}
use Rattle.lists.specs.Lists.{Has}
use Rattle.link_rules.specs.Linked.{LinkedProgram}
use Rattle.link_rules.specs.WellLinked.{IsInForm, IsWellLinked}
use Rattle.link_laws.proofs.Lists.{each_left}
use Rattle.link_sites.specs.declared.site.Site.{Site}
use Rattle.spds_rules.specs.declared.node.Node.{Node}
use Rattle.run_covers.specs.Covers.{IsCovered}
use Rattle.demand_set.proofs.Counts.{HasMore-not}
use Rattle.query_core.proofs.Determined.{shared_one, shared_over}
use Rattle.query_core.proofs.NamedPlaces.{missing_one_of_two, places_one, places_there}
use Rattle.query_core.proofs.Sound.{shared_sound}
use Rattle.query_core.specs.Answers.{IsAffordable, IsOver}
use Rattle.query_core.specs.Places.{ArePlacesOf}
use Rattle.boom_words.specs.Requests.{Alias}
use Rattle.report_text.specs.Aliases.{IsAliasText, IsSharedLine, verdict_lines}
use Rattle.report_text.specs.Lines.{text_of}
use Rattle.boom_top.specs.Aliases.{AreAliased, CoversAliases, IsAliasReply, IsAliasWithin, PrintsAllAliases, PrintsShared}
use Rattle.boom_top.specs.Places.{IsBudgetReply}
use Rattle.boom_top.specs.declared.status.Status.{Status}
use Rattle.boom_top.specs.declared.status.Status.TheVariants.{Done, NoSuchPlace, OverBudget}
use Rattle.boom_top.proofs.Lines.{has_middle}
use Rattle.boom_top.proofs.OneText.{lines_one, name_one, target_one}
use Rattle.boom_top.proofs.PlaceReply.{budget_one}
use Rattle.boom_top.proofs.Splits.{AreOne, Refuses, ones, refused_by}

-- where a site is shared, the locals are said to be aliases
says_yes : (query : List ℕ) (lines : List (List ℕ)) (sites : List Site) (demanded : ℕ) (o : Site) → Has sites o
    → Has (query ∷ (lines ++ verdict_lines (length sites) demanded)) (codes "aliases yes")
says_yes query lines [] demanded o has = absurd (let e = has.1 in cc)
says_yes query lines (site ∷ sites) demanded o has = (suc (length lines), behind lines)
  where
    behind : (lines : List (List ℕ)) → slice_get (lines ++ verdict_lines (suc (length sites)) demanded) (length lines) ≡ Some (codes "aliases yes")
    behind [] = refl
    behind (line ∷ lines) = behind lines

module _ (p : LinkedProgram) (form : IsInForm p) where
  -- the text about two nodes is one, by its query line, its sites and the counts
  module _ (n : Node) (sites : List Site) (demanded : ℕ) (a b : List ℕ) where
    alias_text_one : (m : Node) → IsAliasText p n m sites demanded a → IsAliasText p n m sites demanded b → a ≡ b
    alias_text_one m x y =
        let target = target_one p form n x.query_is.target y.query_is.target x.query_is.target_is y.query_is.target_is in
        let name = name_one p form m.place m.var x.query_is.name y.query_is.name x.query_is.name_is y.query_is.name_is in
        let query : x.query ≡ y.query = x.query_is.line_is ∙ (λ i. codes "alias " ++ target i ++ codes " " ++ name i) ∙ sym y.query_is.line_is in
        let lines = lines_one p form (codes "shared ") sites x.lines y.lines x.lines_are y.lines_are in
        x.text_is ∙ (λ i. text_of (query i ∷ (lines i ++ verdict_lines (length sites) demanded))) ∙ sym y.text_is

  -- what is told of two locals
  aliased_one : (budget : ℕ) (m n : Node) (xs ys : List (List ℕ)) → AreAliased p budget m n xs → AreAliased p budget m n ys → text_of xs ≡ text_of ys
  aliased_one budget m n xs ys a b =
      let same = shared_one p m n a.sites b.sites a.demanded b.demanded a.shared b.shared in
      let moved = subst (λ (d : ℕ). IsAliasText p m n b.sites d (text_of xs)) same.1 (subst (λ (s : List Site). IsAliasText p m n s a.demanded (text_of xs)) same.0 a.told) in
      alias_text_one m b.sites b.demanded (text_of xs) (text_of ys) n moved b.told

module _ (p : LinkedProgram) (asked : Alias) where
  -- what is answered of two nodes isn't over the budget
  aliased_within : (m n : Node) (lines : List (List ℕ)) → AreAliased p asked.budget m n lines → IsOver p (m ∷ n ∷ []) asked.budget → ⊥
  aliased_within m n lines a over =
      let most = a.affordable in
      omega (arith, most, shared_over p m n a.sites a.demanded asked.budget a.shared over)

  -- two locals at a place have one status
  alias_status : (s t : Status) (xs ys : List (List ℕ)) → IsAliasReply p asked s xs → IsAliasReply p asked t ys → s ≡ t
  alias_status s t xs ys (inl a) (inl b) =
      a.2.0 ∙ ap NoSuchPlace (missing_one_of_two p asked.method asked.index asked.first asked.second a.0 b.0 a.1 b.1) ∙ sym b.2.0
  alias_status s t xs ys (inl a) (inr b) = absurd (places_there p asked.method asked.index asked.first asked.second b.0 b.1 b.2 a.0 a.1)
  alias_status s t xs ys (inr a) (inl b) = absurd (places_there p asked.method asked.index asked.first asked.second a.0 a.1 a.2 b.0 b.1)
  alias_status s t xs ys (inr a) (inr b) =
      let same = places_one p asked.method asked.index asked.first asked.second a.0 a.1 b.0 b.1 a.2 b.2 in
      let left = subst (λ (m : Node). IsBudgetReply p (m ∷ a.1 ∷ []) asked.budget (AreAliased p asked.budget m a.1) s xs) same.0 a.3 in
      let both = subst (λ (n : Node). IsBudgetReply p (b.0 ∷ n ∷ []) asked.budget (AreAliased p asked.budget b.0 n) s xs) same.1 left in
      budget_one p (b.0 ∷ b.1 ∷ []) asked.budget (AreAliased p asked.budget b.0 b.1) (aliased_within b.0 b.1) s t xs ys both b.3

  -- what is said of two locals that are there
  abbrev SaysAliases : List (List ℕ) → Type 0
  SaysAliases lines = (m : Node) × (n : Node) × ArePlacesOf p asked.method asked.index asked.first asked.second m n × AreAliased p asked.budget m n lines

  alias_split : (s : Status) (lines : List (List ℕ)) → IsAliasReply p asked s lines → (SaysAliases lines × (s ≡ Done)) ⊎ Refuses s lines
  alias_split s lines (inl a) = inr (refused_by (NoSuchPlace a.0) s lines (λ no. cc) tt a.2)
  alias_split s lines (inr (m, n, here, inl over)) = inr (refused_by (OverBudget asked.budget) s lines (λ no. cc) tt over.1)
  alias_split s lines (inr (m, n, here, inr a)) = inl ((m, n, here, a.0), a.1)

  aliases_one : IsInForm p → (xs ys : List (List ℕ)) → SaysAliases xs → SaysAliases ys → text_of xs ≡ text_of ys
  aliases_one form xs ys (m, n, here, a) (k, l, there, b) =
      let same = places_one p asked.method asked.index asked.first asked.second m n k l here there in
      aliased_one p form asked.budget k l xs ys
      (subst (λ (l : Node). AreAliased p asked.budget k l xs) same.1 (subst (λ (k : Node). AreAliased p asked.budget k n xs) same.0 a)) b

  -- the replies are one
  pub alias_ones : (Plain : Type 0) → AreOne p (IsAliasReply p asked) Plain
  alias_ones Plain = ones p (IsAliasReply p asked) Plain SaysAliases alias_split alias_status (λ form plain. aliases_one form)

  -- a budget of at least the demand's size is enough
  pub alias_enough : (s : Status) (lines : List (List ℕ)) → IsAliasWithin p asked → IsAliasReply p asked s lines → s ≡ Done
  alias_enough s lines (a, b, places, affordable) (inl x) = absurd (places_there p asked.method asked.index asked.first asked.second a b places x.0 x.1)
  alias_enough s lines (a, b, places, affordable) (inr (m, n, here, inl over)) =
      let same = places_one p asked.method asked.index asked.first asked.second a b m n places here in
      let left = subst (λ (m : Node). IsAffordable p (m ∷ b ∷ []) asked.budget) same.0 affordable in
      absurd (HasMore-not asked.budget over.0 (subst (λ (n : Node). IsAffordable p (m ∷ n ∷ []) asked.budget) same.1 left))
  alias_enough s lines (a, b, places, affordable) (inr (m, n, here, inr x)) = x.1

-- what is done covers each run
module _ (p : LinkedProgram) (well : IsWellLinked p) (covered : IsCovered p) (old new : Option (List ℕ)) (lines : List (List ℕ)) (wrote : Appends old new (text_of lines)) where
  -- the answer about two nodes has the line of the site of each object that a run brings to both, and says that they are aliases
  nodes_covered : (budget : ℕ) (a b : Node) → AreAliased p budget a b lines → PrintsAllAliases p a b old new
  nodes_covered budget a b is = λ count state number frame x y o run holds holds_too at at_too.
      let found = shared_sound p well covered a b is.sites is.demanded is.shared count state number frame x y o run holds holds_too at at_too in
      let line = each_left (IsSharedLine p) is.sites is.told.lines found.2.0 found.0.site is.told.lines_are found.2.1 in
      let all = is.told.query ∷ (is.told.lines ++ verdict_lines (length is.sites) is.demanded) in (
        (
          text_of lines,
          wrote,
          record {
            lines = all;
            text_is = is.told.text_is;
            has = says_yes is.told.query is.told.lines is.sites is.demanded found.0.site found.2;
          },
        ),
        (
          found.0,
          found.1,
          line.0,
          line.2,
          (
            text_of lines,
            wrote,
            record {
              lines = all;
              text_is = is.told.text_is;
              has = has_middle is.told.query is.told.lines (verdict_lines (length is.sites) is.demanded) line.0 (found.2.0, line.1);
            },
          ),
        ),
      )

  pub alias_covered : (asked : Alias) → IsAliasReply p asked Done lines → CoversAliases p asked old new
  alias_covered asked (inl x) a b places = absurd (places_there p asked.method asked.index asked.first asked.second a b places x.0 x.1)
  alias_covered asked (inr (m, n, here, inl over)) a b places = absurd (let no : Done ≡ OverBudget asked.budget = over.1.0 in cc)
  alias_covered asked (inr (m, n, here, inr x)) a b places =
      let same = places_one p asked.method asked.index asked.first asked.second m n a b here places in
      let left = subst (λ (m : Node). AreAliased p asked.budget m n lines) same.0 x.0 in
      nodes_covered asked.budget a b (subst (λ (n : Node). AreAliased p asked.budget a n lines) same.1 left)

-- there is evidence for what is done
module _ (p : LinkedProgram) (old new : Option (List ℕ)) (lines : List (List ℕ)) (wrote : Appends old new (text_of lines)) where
  -- what two locals share both have
  pub alias_evident : (asked : Alias) → IsAliasReply p asked Done lines → PrintsShared p asked old new
  alias_evident asked (inl a) = absurd (let no : Done ≡ NoSuchPlace a.0 = a.2.0 in cc)
  alias_evident asked (inr (m, n, here, inl over)) = absurd (let no : Done ≡ OverBudget asked.budget = over.1.0 in cc)
  alias_evident asked (inr (m, n, here, inr a)) = record {
    first = m;
    second = n;
    places = here;
    sites = a.0.sites;
    demanded = a.0.demanded;
    text = text_of lines;
    told = a.0.told;
    wrote = wrote;
    shared = λ o has. (a.0.shared.shared.each o).0 has;
  }
