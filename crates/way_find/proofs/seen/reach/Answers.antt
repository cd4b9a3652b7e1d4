use Rattle.std.proofs.Common.{◌∙◌, ◌++◌, ◌∷◌, [], ap}
use Rattle.lists.proofs.Places.{slice_get-push}
use Rattle.way_find.proofs.Found.{backs_push}
use Rattle.way_find.proofs.seen.reach.Goals as goal

pub returns-clause-here : goal.returns-clause-here
returns-clause-here g c = rw (c.put.ensures.keys, c.put.ensures.number) (slice_get-push c.room.new.self.keys c.args.to)

pub returns-clause-backs : goal.returns-clause-backs
returns-clause-backs g c =
    rw (c.put.ensures.keys ∙ ap (λ ks. ks ++ c.args.to ∷ []) c.room.ensures.keys, c.in_ok-push.ensures.items)
    (backs_push (g.W.Ways.goes c.args.ways.now) c.args.starts.now c.args.seen.now.spots.keys c.args.seen.now.backs.items c.args.back c.args.to c.requires.backs c.requires.back)
