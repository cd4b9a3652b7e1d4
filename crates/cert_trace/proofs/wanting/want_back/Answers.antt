use Rattle.std.proofs.Common.{◌≡◌, ◌∙◌, List, subst, sym}
use Rattle.lists.specs.Lists.{Has}
use Rattle.link_sites.specs.declared.site.Site.{Site}
use Rattle.spds_rules.specs.declared.edge.Edge.{Edge}
use Rattle.spds_rules.specs.declared.store.StoreAt.{StoreAt}
use Rattle.cert_work.specs.Wants.{IsWanted}
use Rattle.cert_trace.specs.Settled.{IsStoreFiled}
use Rattle.cert_trace.proofs.Wanted.{wanted_more}
use Rattle.cert_trace.proofs.wanting.want_back.Goals as goal

pub returns-in_default-clause-back : goal.returns-in_default-clause-back
returns-in_default-clause-back c = record {
  back = λ e has. c.in_ok-want_sources.ensures.all e (subst (λ (xs : List Edge). Has xs e) (sym c.at.ensures) has);
  stored = λ base s starts filed. absurd (c.in_default.not-Some base (c.site_of.ensures ∙ starts));
}

pub returns-clause-back : goal.returns-clause-back
returns-clause-back c = record {
  back = λ e has.
      wanted_more _ _ c.in_ok-want_stores.ensures.wider c.args.spot.site e.from
      (c.in_ok-want_sources.ensures.all e (subst (λ (xs : List Edge). Has xs e) (sym c.at.ensures) has));
  stored = λ base s starts filed.
      let is = sym c.in-Some.is ∙ c.site_of.ensures ∙ starts in
      let same : c.in-Some.base ≡ base = cc in
      let here : IsStoreFiled c.args.grounds.now.stores c.args.spot.site c.in-Some.base s
      = subst (λ (y : Site). IsStoreFiled c.args.grounds.now.stores c.args.spot.site y s) (sym same) filed in
      let both = c.in_ok-want_stores.ensures.both s (subst (λ (xs : List StoreAt). Has xs s) (sym c.at-2.ensures) here) in
      (both.0, subst (λ (y : Site). IsWanted c.want_stores.new.wants y s.base) same both.1);
}
