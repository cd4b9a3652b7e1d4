use Rattle.std.proofs.Common.{inl, inr, refl, subst, sym}
use Rattle.spds_solve.specs.declared.posts.Post.{Post}
use Rattle.spds_solve.specs.Posts.{Knows}
use Rattle.spds_solve.proofs.Noting.{keeps_both, known_base, known_same}
use Rattle.spds_solve.proofs.Posting.{known_adds}
use Rattle.spds_solve.proofs.known.Known.add_base.Goals as goal

pub pair-requires : goal.pair-requires
pair-requires c = c.requires.1.args

pub returns-then-not-is_new-clause-keeps : goal.returns-then-not-is_new-clause-keeps
returns-then-not-is_new-clause-keeps c =
    keeps_both c.args.self.now (record { args = c.args.self.now.args; bases = c.add.new.self; pending = c.args.self.now.pending })
    (λ x knows. knows) (λ x knows. (known_adds c.args.self.now.bases c.add.new.self c.args.post c.in_ok-is_new.ensures.adds x).1 (inl knows))

pub returns-then-not-is_new-clause-known : goal.returns-then-not-is_new-clause-known
returns-then-not-is_new-clause-known c parts range was =
    let there = c.in_ok-is_new.ensures.old.0 c.if-not-is_new.true in
    let old : (x : Post) → Knows c.add.new.self x → Knows c.args.self.now.bases x =
    λ x knows. elim ((known_adds c.args.self.now.bases c.add.new.self c.args.post c.in_ok-is_new.ensures.adds x).0 knows) [
      | inl before ↦ before
      | inr e ↦ subst (Knows c.args.self.now.bases) (sym e) there
    ] in
    known_same parts c.args.mets.now c.args.self.now (record { args = c.args.self.now.args; bases = c.add.new.self; pending = c.args.self.now.pending }) was
    was.args (c.in_ok-is_new.ensures.posted was.bases) (λ x knows. knows) old refl

pub returns-then-not-is_new-clause-there : goal.returns-then-not-is_new-clause-there
returns-then-not-is_new-clause-there c =
    (known_adds c.args.self.now.bases c.add.new.self c.args.post c.in_ok-is_new.ensures.adds c.args.post).1 (inr refl)

pub returns-clause-there : goal.returns-clause-there
returns-clause-there c = (known_adds c.args.self.now.bases c.add.new.self c.args.post c.in_ok-is_new.ensures.adds c.args.post).1 (inr refl)

pub returns-clause-keeps : goal.returns-clause-keeps
returns-clause-keeps c =
    keeps_both c.args.self.now (record { args = c.args.self.now.args; bases = c.add.new.self; pending = c.pair.new.pending })
    (λ x knows. knows) (λ x knows. (known_adds c.args.self.now.bases c.add.new.self c.args.post c.in_ok-is_new.ensures.adds x).1 (inl knows))

pub returns-clause-known : goal.returns-clause-known
returns-clause-known c parts range was =
    known_base parts c.args.mets.now c.args.self.now (record { args = c.args.self.now.args; bases = c.add.new.self; pending = c.pair.new.pending }) was c.args.post range (c.in_ok-is_new.ensures.posted was.bases)
    (λ x. (known_adds c.args.self.now.bases c.add.new.self c.args.post c.in_ok-is_new.ensures.adds x).0) refl c.in_ok-pair.ensures
