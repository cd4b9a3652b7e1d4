use Rattle.std.proofs.Common.{◌≡◌, ◌++◌, ◌∷◌, [], ◌∙◌, true≢false, inl, inr, refl, sym}
use Rattle.spds_solve.proofs.Posting.{posted_put, posted_same}
use Rattle.spds_solve.proofs.posts.Posts.add.Goals as goal

pub returns-then-not-is_new-clause-old : goal.returns-then-not-is_new-clause-old
returns-then-not-is_new-clause-old c = ((λ _. c.in_ok-is_new.ensures.there.0 c.if-not-is_new.true), (λ knows. refl))

pub returns-then-not-is_new-clause-posted : goal.returns-then-not-is_new-clause-posted
returns-then-not-is_new-clause-posted c was =
    let there = c.in_ok-is_new.ensures.there.0 c.if-not-is_new.true in
    let same : c.add.new.self.keys ≡ c.args.self.now.posts.keys = elim c.in_ok-is_new.ensures.keys [ inl old ↦ old.1 | inr put ↦ absurd (put.0 there) ] in
    posted_same c.args.self.now _ same refl refl was

pub returns-clause-old : goal.returns-clause-old
returns-clause-old c = ((λ e. cc e), (λ knows. absurd (true≢false (sym c.if-not-is_new.false ∙ c.in_ok-is_new.ensures.there.1 knows))))

pub returns-clause-posted : goal.returns-clause-posted
returns-clause-posted c was =
    let put : c.add.new.self.keys ≡ c.args.self.now.posts.keys ++ c.args.post ∷ [] =
    elim c.in_ok-is_new.ensures.keys [ inl old ↦ absurd (true≢false (sym c.if-not-is_new.false ∙ c.in_ok-is_new.ensures.there.1 old.0)) | inr new ↦ new.1 ] in
    posted_put c.args.self.now _ c.args.post put (rw c.key_of.ensures at c.in_ok-add.ensures.last) c.in_ok-add-2.ensures.last was
