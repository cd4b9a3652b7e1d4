use Rattle.std.proofs.Common.{◌≡◌, ℕ, true≢false, Some, List, get_or, slice_get, sym, ap, subst, ◌∙◌, inl, inr}
use Rattle.std.specs.List.{Contains}
use Rattle.std.proofs.lemmas.List.{take_all}
use Rattle.std.proofs.lemmas.Option.{get_or_from_slice_get}
use Rattle.class_order.specs.declared.finish.Stage.{Stage}
use Rattle.class_order.specs.declared.finish.Stage.TheVariants.{New}
use Rattle.lists.proofs.Elements.{Contains-take_more}
use Rattle.class_order.proofs.Searches.{bent, none_open, straight_map, unbent}
use Rattle.class_order.proofs.finish.finish_order.Goals as goal
use Rattle.class_order.proofs.finish.finish_order.Goals.{in-New, in_default, then-matches+in_ok-search+then-not-branch, else-matches, else-matches-via-then-matches+in_ok-search+else-not-branch, else-matches-via-else-matches}

-- the class that was looked at isn't new
looked_at : (stages : List Stage) (x c : ℕ) (t : Stage) → t ≡ get_or stages x t → (t ≡ New → ⊥) → x ≡ c → slice_get stages c ≡ Some New → ⊥
looked_at stages x c t read other at e = other (read ∙ ap (λ k. get_or stages k t) at ∙ get_or_from_slice_get stages c New t e)

pub loop-start-preserved : goal.loop-start-preserved
loop-start-preserved c = elim c.if-matches.branch [
  | then-matches+in_ok-search+then-not-branch w ↦ rw (w.stages-is, w.order-is, w.straight-is) (record {
    searched = w.in_ok-search.ensures.searched;
    begun = λ b m e. elim (Contains-take_more c.args.starts.now c.loop-start.start-index 0 b c.loop-start-test.true m) [
      | inl old ↦ c.loop-start.invariant.begun b old (w.in_ok-search.ensures.begun b e).0
      | inr at ↦ (w.in_ok-search.ensures.begun b e).1 (sym at)
    ];
    straight = bent _ _ _ w.if-not-branch.true w.in_ok-search.ensures.straight;
  })
  | else-matches v ↦ elim v.else-matches.branch [
    | else-matches-via-then-matches+in_ok-search+else-not-branch w ↦ rw (v.stages-is, v.order-is, v.straight-is, w.stages-is, w.order-is) (record {
      searched = w.in_ok-search.ensures.searched;
      begun = λ b m e. elim (Contains-take_more c.args.starts.now c.loop-start.start-index 0 b c.loop-start-test.true m) [
        | inl old ↦ c.loop-start.invariant.begun b old (w.in_ok-search.ensures.begun b e).0
        | inr at ↦ (w.in_ok-search.ensures.begun b e).1 (sym at)
      ];
      straight = straight_map _ _ _ c.loop-start.straight (λ old. unbent _ _ _ w.if-not-branch.false w.in_ok-search.ensures.straight old) c.loop-start.invariant.straight;
    })
    | else-matches-via-else-matches w ↦
        let other : c.index.result.now ≡ New → ⊥ = elim c.match-matches.branch [
          | in-New u ↦ absurd (true≢false (sym u.matches-is ∙ w.if-matches.false))
          | in_default u ↦ u.in_default.not-New
        ] in
        rw (v.stages-is, v.order-is, v.straight-is, w.stages-is, w.order-is) (record {
          searched = c.loop-start.invariant.searched;
          begun = λ b m e. elim (Contains-take_more c.args.starts.now c.loop-start.start-index 0 b c.loop-start-test.true m) [
            | inl old ↦ c.loop-start.invariant.begun b old e
            | inr at ↦ looked_at c.loop-start.stages.items _ b c.index.result.now c.index.ensures other at e
          ];
          straight = c.loop-start.invariant.straight;
        })
  ]
]

pub returns-clause-all : goal.returns-clause-all
returns-clause-all c = λ b h.
    let s = c.loop-start.invariant.searched in
    let whole = take_all c.loop-start.start-index c.args.starts.now c.loop-start-test.false in
    s.done b (none_open _ c.loop-start.stages.items _ s b h (c.loop-start.invariant.begun b (subst (λ ys. Contains ys b) (sym whole) (c.requires.all b h))))

pub returns-clause-straight : goal.returns-clause-straight
returns-clause-straight c =
    let s = c.loop-start.invariant.searched in
    let whole = take_all c.loop-start.start-index c.args.starts.now c.loop-start-test.false in
    straight_map _ _ _ c.loop-start.straight (λ straight. record {
      settled = record { within = s.within; after = straight; once = s.depth_first.once };
      all = λ b h. s.done b (none_open _ c.loop-start.stages.items _ s b h (c.loop-start.invariant.begun b (subst (λ ys. Contains ys b) (sym whole) (c.requires.all b h))));
    }) c.loop-start.invariant.straight
