use Rattle.std.proofs.Common.{◌∙◌, subst}
use Rattle.narrow_rules.specs.Narrowed.{AreThose, IsKept, StaysIn}
use Rattle.link_narrow.proofs.Filled.{call_left}
use Rattle.link_narrow.proofs.codes.narrowed_code.Goals as goal

pub returns-in_ok-some-in-Call : goal.returns-in_ok-some-in-Call
returns-in_ok-some-in-Call c =
    call_left c.args.named.now c.args.place.method c.args.place.index c.in-Call.to c.in-Call.mode c.in-Call.class c.in-Call.key c.in-Call.receiver c.in-Call.args
    c.in_ok-args-in-Call.args c.in-Call.targets c.in_ok-some-in-Call.some.items c.from_vec.result c.args.code.now c.in-Call.is
    (c.in_ok-args-in-Call.ensures ∙ c.as_slice.ensures) c.from_vec.ensures
    (subst (λ ts. AreThose (λ target. StaysIn c.in-Call.mode (IsKept c.args.named.now c.args.place.method c.args.place.index target)) ts c.in_ok-some-in-Call.some.items)
    c.as_slice-in-Call.ensures c.in_ok-some-in-Call.ensures)
