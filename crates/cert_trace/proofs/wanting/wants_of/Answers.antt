use Rattle.std.proofs.Common.{◌∙◌, ℕ, List, Option, refl, subst, sym}
use Rattle.std.specs.Option.{IsSome}
use Rattle.lists.specs.Lists.{Has}
use Rattle.spds_rules.specs.declared.edge.Edge.{Edge}
use Rattle.spds_rules.specs.Demand.{Demanded, about}
use Rattle.cert_trace.specs.Ahead.{IsAheadIn}
use Rattle.cert_trace.proofs.Wanted.{are_wants, everywhere_more, settled_more}
use Rattle.cert_trace.proofs.wanting.wants_of.Goals as goal

pub unwrap-number-requires : goal.unwrap-number-requires
unwrap-number-requires c =
    let has = c.requires.demand.nodes.all c.args.target (Demanded.target (0, refl)) in
    subst (λ (r : Option ℕ). IsSome r) (sym ((c.number_of.ensures has.0).1 has.1)) refl

pub file_mets-requires : goal.file_mets-requires
file_mets-requires c =
    let p = c.args.linked.now in
    (p, about c.args.target, c.meets.ensures p (about c.args.target) c.args.demand.now c.requires.solved)

pub returns : goal.returns
returns c =
    let p = c.args.linked.now in
    let t = c.args.target in
    let d = c.args.demand.now in
    let exact = (c.meets.ensures p (about t) d c.requires.solved).exact in
    are_wants p t d c.requires.demand c.want_all.new.wants (record { back = c.in_ok-back.back; stores = c.in_ok-stores.stores })
    (λ i o there is. everywhere_more _ _ c.in_ok-want_all.ensures.wider o
    (everywhere_more _ _ c.in_ok-stores.ensures.wider o
    (c.in_ok-want_answered.ensures.wanted p (about t) t c.requires.solved ((c.number_of.ensures c.unwrap-number.result).0 c.unwrap-number.ensures) i o there is)))
    (λ e has. c.in_ok-back.ensures e (subst (λ (xs : List Edge). Has xs e) (sym c.edges.ensures) has))
    (λ o base s m. settled_more _ _ c.in_ok-want_all.ensures.wider _ _ (λ o b s filed. filed) o base s (c.in_ok-stores.ensures.settled o base s ((exact o base s).1 m)))
    c.in_ok-want_all.ensures.back
    (subst (IsAheadIn d)
    (sym (c.in_ok-want_all.ensures.wider.ahead ∙ c.in_ok-stores.ensures.wider.ahead ∙ c.in_ok-want_answered.ensures.ahead ∙ c.new-wants.ensures.ahead)) c.in_ok-ahead.ensures)

pub ahead_of-requires : goal.ahead_of-requires
ahead_of-requires c = λ e has. c.in_ok-back.ensures e (subst (λ (xs : List Edge). Has xs e) (sym c.edges.ensures) has)
