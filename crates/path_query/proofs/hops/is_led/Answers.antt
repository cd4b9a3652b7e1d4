use Rattle.std.proofs.Common.{◌≡◌, List, Some, true≢false, slice_get, refl, sym, ◌∙◌, subst, inl, inr}
use Rattle.std.proofs.lemmas.List.{take_all}
use Rattle.std.proofs.lemmas.Option.{get_or_from_slice_get}
use Rattle.lists.specs.Lists.{Has}
use Rattle.lists.proofs.Places.{slice_get-there}
use Rattle.demand_set.proofs.Appended.{Has-take_more}
use Rattle.path_query.specs.declared.hops.Way.{Way}
use Rattle.path_query.proofs.hops.is_led.Goals as goal
use Rattle.path_query.proofs.hops.is_led.Goals.{else-holds-via-then-holds+in_ok-one_string+else-branch, else-holds-via-else-holds}

pub loop-way-init : goal.loop-way-init
loop-way-init c = λ p q d o solved there w has. cc has.1

pub loop-way-preserved : goal.loop-way-preserved
loop-way-preserved c = λ p q d o solved there w has leads. elim (Has-take_more c.args.ways.now c.loop-way.way-index _ w c.loop-way-test.true has) [
  | inl before ↦ c.loop-way.invariant p q d o solved there w before leads
  | inr last ↦
      let n = leads.named in
      let arg_is = subst (λ (x : Way). slice_get d.nodes x.arg ≡ Some n.arg) last n.arg_is in
      let base_is = subst (λ (x : Way). slice_get d.nodes x.base ≡ Some n.base) last n.base_is in
      let owner_is = subst (λ (x : Way). slice_get d.sites x.owner ≡ Some n.owner) last n.owner_is in
      let holds = (c.holds.ensures p q d o n.arg solved there arg_is).1 leads.there in
      elim c.else-holds.branch [
        | else-holds-via-then-holds+in_ok-one_string+else-branch v ↦
            true≢false (sym ((v.in_ok-one_string.ensures p q d o n.owner n.arg n.base solved there owner_is arg_is base_is).1 (leads.string, leads.at_arg, leads.at_base)) ∙ v.if-branch.false)
        | else-holds-via-else-holds v ↦ true≢false (sym holds ∙ v.if-holds.false)
      ]
]

pub returns-then-branch : goal.returns-then-branch
returns-then-branch c = λ p q d o solved there named. (
  λ yes.
      let x = slice_get-there c.args.ways.now c.loop-way.way-index c.loop-way-test.true in
      let same = get_or_from_slice_get c.args.ways.now c.loop-way.way-index x.0 _ x.1 in
      let n = named x.0 (c.loop-way.way-index, x.1) in
      let arg_is = subst (λ (y : Way). slice_get d.nodes y.arg ≡ Some n.arg) (sym same) n.arg_is in
      let base_is = subst (λ (y : Way). slice_get d.nodes y.base ≡ Some n.base) (sym same) n.base_is in
      let owner_is = subst (λ (y : Way). slice_get d.sites y.owner ≡ Some n.owner) (sym same) n.owner_is in
      let one = (c.in_ok-one_string.ensures p q d o n.owner n.arg n.base solved there owner_is arg_is base_is).0 c.if-branch.true in (
        x.0,
        (c.loop-way.way-index, x.1),
        record {
          named = n;
          there = (c.holds.ensures p q d o n.arg solved there arg_is).0 c.if-holds.true;
          string = one.0;
          at_arg = one.1;
          at_base = one.2;
        },
      ),
  λ led. refl,
)

pub returns : goal.returns
returns c = λ p q d o solved there named. (
  λ yes. absurd (true≢false (sym yes)),
  λ led. absurd (c.loop-way.invariant p q d o solved there led.0
      (subst (λ (ws : List Way). Has ws led.0) (sym (take_all c.loop-way.way-index c.args.ways.now c.loop-way-test.false)) led.1) led.2),
)
