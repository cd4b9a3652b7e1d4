use Rattle.std.proofs.Common.{refl}
use Rattle.std.proofs.lemmas.Result.{err_from_is_err_and}
use Rattle.auto_table.proofs.naming.room_for.Goals as goal

pub returns-in_err-room_for-clause-names : goal.returns-in_err-room_for-clause-names
returns-in_err-room_for-clause-names g c = let p = err_from_is_err_and c.from_residual.result c.from_residual.ensures.1 in rw p.1 tt

pub returns-in_err-room_for-clause-weights : goal.returns-in_err-room_for-clause-weights
returns-in_err-room_for-clause-weights g c = let p = err_from_is_err_and c.from_residual.result c.from_residual.ensures.1 in rw p.1 tt

pub returns-in_err-room_for-clause-links : goal.returns-in_err-room_for-clause-links
returns-in_err-room_for-clause-links g c = let p = err_from_is_err_and c.from_residual.result c.from_residual.ensures.1 in rw p.1 tt

pub returns-in_err-room_for-clause-same_names : goal.returns-in_err-room_for-clause-same_names
returns-in_err-room_for-clause-same_names g c = c.room_for.ensures.keys

pub returns-in_err-room_for-clause-same_weights : goal.returns-in_err-room_for-clause-same_weights
returns-in_err-room_for-clause-same_weights g c = refl

pub returns-in_err-room_for-clause-same_links : goal.returns-in_err-room_for-clause-same_links
returns-in_err-room_for-clause-same_links g c = refl

pub returns-in_err-room_for-2-clause-names : goal.returns-in_err-room_for-2-clause-names
returns-in_err-room_for-2-clause-names g c = let p = err_from_is_err_and c.from_residual-in_err-room_for-2.result c.from_residual-in_err-room_for-2.ensures.1 in rw p.1 tt

pub returns-in_err-room_for-2-clause-weights : goal.returns-in_err-room_for-2-clause-weights
returns-in_err-room_for-2-clause-weights g c = let p = err_from_is_err_and c.from_residual-in_err-room_for-2.result c.from_residual-in_err-room_for-2.ensures.1 in rw p.1 tt

pub returns-in_err-room_for-2-clause-links : goal.returns-in_err-room_for-2-clause-links
returns-in_err-room_for-2-clause-links g c = let p = err_from_is_err_and c.from_residual-in_err-room_for-2.result c.from_residual-in_err-room_for-2.ensures.1 in rw p.1 tt

pub returns-in_err-room_for-2-clause-same_names : goal.returns-in_err-room_for-2-clause-same_names
returns-in_err-room_for-2-clause-same_names g c = c.room_for.ensures.keys

pub returns-in_err-room_for-2-clause-same_weights : goal.returns-in_err-room_for-2-clause-same_weights
returns-in_err-room_for-2-clause-same_weights g c = c.room_for-2.ensures.still

pub returns-in_err-room_for-2-clause-same_links : goal.returns-in_err-room_for-2-clause-same_links
returns-in_err-room_for-2-clause-same_links g c = refl

pub returns-clause-same_names : goal.returns-clause-same_names
returns-clause-same_names g c = c.room_for.ensures.keys

pub returns-clause-same_weights : goal.returns-clause-same_weights
returns-clause-same_weights g c = c.room_for-2.ensures.still

pub returns-clause-same_links : goal.returns-clause-same_links
returns-clause-same_links g c = c.room_for-3.ensures.still

pub returns-clause-names : goal.returns-clause-names
returns-clause-names g c = c.in_ok-room_for.ensures.room

pub returns-clause-weights : goal.returns-clause-weights
returns-clause-weights g c = c.in_ok-room_for-2.ensures.room

pub returns-clause-links : goal.returns-clause-links
returns-clause-links g c = c.in_ok-room_for-3.ensures.room

pub returns-in_err-room_for-3-clause-names : goal.returns-in_err-room_for-3-clause-names
returns-in_err-room_for-3-clause-names g c = let p = err_from_is_err_and c.from_residual-in_err-room_for-3.result c.from_residual-in_err-room_for-3.ensures.1 in rw p.1 tt

pub returns-in_err-room_for-3-clause-weights : goal.returns-in_err-room_for-3-clause-weights
returns-in_err-room_for-3-clause-weights g c = let p = err_from_is_err_and c.from_residual-in_err-room_for-3.result c.from_residual-in_err-room_for-3.ensures.1 in rw p.1 tt

pub returns-in_err-room_for-3-clause-links : goal.returns-in_err-room_for-3-clause-links
returns-in_err-room_for-3-clause-links g c = let p = err_from_is_err_and c.from_residual-in_err-room_for-3.result c.from_residual-in_err-room_for-3.ensures.1 in rw p.1 tt

pub returns-in_err-room_for-3-clause-same_names : goal.returns-in_err-room_for-3-clause-same_names
returns-in_err-room_for-3-clause-same_names g c = c.room_for.ensures.keys

pub returns-in_err-room_for-3-clause-same_weights : goal.returns-in_err-room_for-3-clause-same_weights
returns-in_err-room_for-3-clause-same_weights g c = c.room_for-2.ensures.still

pub returns-in_err-room_for-3-clause-same_links : goal.returns-in_err-room_for-3-clause-same_links
returns-in_err-room_for-3-clause-same_links g c = c.room_for-3.ensures.still
