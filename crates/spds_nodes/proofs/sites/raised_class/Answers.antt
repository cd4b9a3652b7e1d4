use Rattle.std.proofs.Common.{sym, ◌∙◌, subst}
use Rattle.std.proofs.lemmas.Option.{same_Some}
use Rattle.link_sites.specs.Sites.{IsNamedClass}
use Rattle.spds_nodes.proofs.Named.{exceptions_are_named}
use Rattle.spds_nodes.proofs.sites.raised_class.Goals as goal

pub class_named-requires : goal.class_named-requires
class_named-requires c = exceptions_are_named c.args.kind c.exception_name.result.now c.exception_name.ensures

pub returns-then-may_raise-clause-is : goal.returns-then-may_raise-clause-is
returns-then-may_raise-clause-is c = λ class. (
  (λ some. (
    (c.in-Some.ensures.some.0, record { code = c.in-Some.code.now; at = c.in-Some.ensures.some.1; is_so = c.may_raise.ensures.0 c.if-may_raise.true }),
    (c.exception_name.result.now, c.exception_name.ensures, (c.class_named.ensures.is class).0 some),
  )),
  (λ is.
      let same = same_Some is.1.0 c.exception_name.result.now (sym is.1.1 ∙ c.exception_name.ensures) in
      (c.class_named.ensures.is class).1 (subst (λ name. IsNamedClass c.args.linked.now name class) same is.1.2)),
)

pub returns-in-None-clause-is : goal.returns-in-None-clause-is
returns-in-None-clause-is c = λ class. ((λ some. absurd (cc (some))), (λ is. absurd (c.in-None.ensures.none is.0.1.code is.0.0 is.0.1.at)))

pub returns-in-None-clause-none : goal.returns-in-None-clause-none
returns-in-None-clause-none c = λ is. c.in-None.ensures.none is.1.code is.0 is.1.at
