use Rattle.std.proofs.Common.{◌≡◌, ◌≤◌, List, [], ◌∷◌, Some, length, get_or, slice_get, refl, sym, ◌∙◌, subst, true≢false}
use Rattle.std.proofs.lemmas.Bool.{ltb-false, ltb-true}
use Rattle.lists.specs.Lists.{Has}
use Rattle.lists.proofs.Places.{slice_get-read}
use Rattle.link_sites.specs.declared.site.Site.{Site}
use Rattle.link_sites.specs.Sites.{HasField}
use Rattle.spds_rules.specs.Answers.{IsAnswered}
use Rattle.path_query.specs.Numbers.{IsWay}
use Rattle.path_query.proofs.Collecting.{collected_all, collected_more, collected_none, put_none}
use Rattle.path_query.proofs.Ways.{no_way, no_way_past, put_way, ways_from_owners}
use Rattle.path_query.proofs.hops.push_ways.Goals as goal
use Rattle.path_query.proofs.hops.push_ways.Goals.{in-Some+then-holds+then-has_field+in_ok-push, in-Some+else-holds, else-holds-via-then-holds+else-has_field, else-holds-via-else-holds, in_default}

pub loop-owner-init : goal.loop-owner-init
loop-owner-init c = λ q posed. collected_none (λ k x. IsWay c.args.posed.now.linked.now q c.args.posed.now.demand.now (k ∷ []) c.args.store x) (Has c.args.ways.now.items)

pub loop-owner-preserved : goal.loop-owner-preserved
loop-owner-preserved c = λ q posed.
    let p = c.args.posed.now.linked.now in
    let d = c.args.posed.now.demand.now in
    let s = c.args.store in
    let k = get_or c.args.owners.now c.loop-owner.owner-index 0 in
    let all = c.sites.ensures in
    let old = c.loop-owner.ways.items in
    collected_more (λ n x. IsWay p q d (n ∷ []) s x) (Has c.args.ways.now.items) c.args.owners.now c.loop-owner.owner-index 0 c.loop-owner-test.true (Has old)
    (Has c.match-get.ways.items) (c.loop-owner.invariant q posed)
    (elim c.match-get.branch [
      | in-Some+then-holds+then-has_field+in_ok-push w ↦
          let site = w.in-Some.site.now in
          let there = subst (λ (xs : List Site). slice_get xs k ≡ Some site) all
          (slice_get-read c.sites.result.now k site (ltb-true _ _ (sym w.in-Some.ensures.lookup.0)) w.in-Some.ensures.lookup.1) in
          rw w.ways-is
          (put_way p q d s k c.args.arg c.args.base site posed.demand.nodes.apart c.requires.arg c.requires.base there
          ((w.holds.ensures p q d site s.base posed.solved there c.requires.base).0 w.if-holds.true) (w.has_field.ensures.0 w.if-has_field.true) old w.push.new.self.items w.in_ok-push.ensures.items)
      | in-Some+else-holds w ↦
          let site = w.in-Some.site.now in
          let there = subst (λ (xs : List Site). slice_get xs k ≡ Some site) all
          (slice_get-read c.sites.result.now k site (ltb-true _ _ (sym w.in-Some.ensures.lookup.0)) w.in-Some.ensures.lookup.1) in
          let not : IsAnswered p q s.base site → HasField p site s.field → ⊥ = elim w.else-holds.branch [
            | else-holds-via-then-holds+else-has_field v ↦ λ held has. true≢false (sym (v.has_field.ensures.1 has) ∙ v.if-has_field.false)
            | else-holds-via-else-holds v ↦ λ held has. true≢false (sym ((w.holds.ensures p q d site s.base posed.solved there c.requires.base).1 held) ∙ v.if-holds.false)
          ] in
          rw w.ways-is (put_none old old (λ x. IsWay p q d (k ∷ []) s x) refl (no_way p q d s k site there not))
      | in_default w ↦
          let past = subst (λ (xs : List Site). length xs ≤ k) all (ltb-false _ _ (sym w.in_default.ensures.lookup.0)) in
          rw w.ways-is (put_none old old (λ x. IsWay p q d (k ∷ []) s x) refl (no_way_past p q d s k past))
    ])

pub returns : goal.returns
returns c = λ q posed.
    let p = c.args.posed.now.linked.now in
    let d = c.args.posed.now.demand.now in
    ways_from_owners p q d c.args.owners.now c.args.store (Has c.args.ways.now.items) (Has c.loop-owner.ways.items)
    (collected_all (λ k x. IsWay p q d (k ∷ []) c.args.store x) (Has c.args.ways.now.items) c.args.owners.now c.loop-owner.owner-index c.loop-owner-test.false (Has c.loop-owner.ways.items)
    (c.loop-owner.invariant q posed))
