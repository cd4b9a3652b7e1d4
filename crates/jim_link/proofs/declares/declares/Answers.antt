use Rattle.std.proofs.Common.{true≢false, length, refl, sym, ap, subst, ◌∙◌, inl, inr, arith}
use Rattle.std.proofs.lemmas.Bool.Decides.{Decides-eqb}
use Rattle.std.proofs.lemmas.Slice.Eq.{slice_eq-Decides}
use Rattle.link_classes.proofs.Growing.{below_or_last}
use Rattle.link_rules.specs.Classes.{IsNamed, classes_of}
use Rattle.jim_link.proofs.Declaring.{class_at, name_within, named_at, named_below, other_name}
use Rattle.jim_link.proofs.declares.declares.Goals as goal

pub text-requires : goal.text-requires
text-requires c =
    let program = c.args.program.now in
    let item = c.class-item.result in
    name_within program c.loop-class.class-index item c.requires
    (class_at program.classes c.as_slice-class-items.result.now c.loop-class.class-index item c.as_slice-class-items.ensures c.loop-class-test.true c.class-item.is)

pub loop-class-preserved : goal.loop-class-preserved
loop-class-preserved c = λ n less named.
    let program = c.args.program.now in
    let item = c.class-item.result in
    let at = c.loop-class.class-index in
    let there = class_at program.classes c.as_slice-class-items.result.now at item c.as_slice-class-items.ensures c.loop-class-test.true c.class-item.is in
    let by_bytes = slice_eq-Decides Decides-eqb _ _ _ c.eq.ensures in
    elim (below_or_last n at less) [
      | inl earlier ↦ c.loop-class.invariant n earlier named
      | inr last ↦ (
          let same = other_name program at item c.text.result.now c.args.name.now there c.text.ensures (subst (IsNamed (classes_of program) c.args.name.now) last named) in
          true≢false (sym (by_bytes.1 same) ∙ c.if-eq.false)
          )
    ]

pub returns-then-eq : goal.returns-then-eq
returns-then-eq c =
    let program = c.args.program.now in
    let item = c.class-item.result in
    let at = c.loop-class.class-index in
    let there = class_at program.classes c.as_slice-class-items.result.now at item c.as_slice-class-items.ensures c.loop-class-test.true c.class-item.is in
    let by_bytes = slice_eq-Decides Decides-eqb _ _ _ c.eq.ensures in
    let same = by_bytes.0 c.if-eq.true in
    (λ t. (at, subst (λ name. IsNamed (classes_of program) name at) same (named_at program at item c.text.result.now there c.text.ensures)), λ d. refl)

pub returns : goal.returns
returns c = (
  λ t. absurd (true≢false (sym t)),
  λ d. absurd (
      let below = named_below c.args.program.now d.0 c.args.name.now d.1 in
      c.loop-class.invariant d.0 (omega (arith, below, c.loop-class-test.false, ap length c.as_slice-class-items.ensures)) d.1
      ),
)
