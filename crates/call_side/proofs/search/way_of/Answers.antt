use Rattle.std.proofs.Common.{◌≡◌, ℕ, [], ap, subst, sym}
use Rattle.std.proofs.lemmas.Result.{IfOk-weaker}
use Rattle.auto_table.specs.declared.entry.Entry.{Entry}
use Rattle.auto_table.specs.declared.entry.Entry.TheVariants.{Base}
use Rattle.call_side.specs.declared.pairs.Pair.{Pair}
use Rattle.call_side.specs.Search.{asked, last_pair}
use Rattle.call_side.specs.Words.{Spells}
use Rattle.call_side.proofs.AtNode.{IfSome-weaker, if_none_weaker}
use Rattle.call_side.proofs.Spelled.{Spells-leads}
use Rattle.call_side.proofs.search.way_of.Goals as goal

pub returns-in-Some-clause-some : goal.returns-in-Some-clause-some
returns-in-Some-clause-some c =
    let q = asked c.args.question.now in
    IfOk-weaker c.way.result _ _ (λ r. IfSome-weaker r _ _ (λ way leads. (
      subst (λ (e : Entry). Spells q.steps q.last q.first e way.items) (sym c.in-Some.ensures.some.0) (Spells-leads q.steps q.last q.first c.in-Some.base way.items leads),
      subst (λ (e : Entry). Spells q.steps q.last q.second e way.items) (sym c.in-Some.ensures.some.1) (Spells-leads q.steps q.last q.second c.in-Some.base way.items leads),
    ))) c.way.ensures.some

-- the base of the last pair is the last one
base_is : (pair : Pair) (base last : ℕ) → pair.first ≡ Base base → pair ≡ last_pair last → base ≡ last
base_is pair base last first same = let moved : pair.first ≡ Base last = ap (λ p. p.first) same in cc

pub returns-in-Some-clause-none : goal.returns-in-Some-clause-none
returns-in-Some-clause-none c =
    IfOk-weaker c.way.result _ _ (λ r. if_none_weaker r (λ absent same.
    absent [] (base_is c.args.pair c.in-Some.base c.args.question.now.bases.now.last c.in-Some.ensures.some.0 same))) c.way.ensures.none
