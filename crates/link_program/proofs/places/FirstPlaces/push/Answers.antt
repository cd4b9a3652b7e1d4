use Rattle.std.proofs.Common.{◌≡◌, ◌++◌, ◌∷◌, [], sym, subst, ◌∙◌}
use Rattle.link_program.proofs.Placing.{adds_new, found_has, not_found, places_again, places_more}
use Rattle.link_program.proofs.places.FirstPlaces.push.Goals as goal

pub returns-then-is_some : goal.returns-then-is_some
returns-then-is_some c = λ texts at are.
    places_again texts c.args.text.now c.args.self.now
    (found_has c.args.self.now.texts c.args.text.now c.find.result (sym c.is_some.ensures ∙ c.if-is_some.true) c.find.ensures.found) are

pub returns : goal.returns
returns c = λ texts at are.
    let new = not_found _ c.find.result (sym c.is_some.ensures ∙ c.if-is_some.false) c.find.ensures.none in
    places_more texts c.args.text.now c.args.self.now (record { texts = c.add.new.self; places = c.push.new.self }) new
    (adds_new c.args.self.now.texts c.add.new.self c.args.text.now c.in_ok-add.ensures.last new)
    (subst (λ n. c.push.new.self.items ≡ c.args.self.now.places.items ++ n ∷ []) at c.in_ok-push.ensures.items) are
