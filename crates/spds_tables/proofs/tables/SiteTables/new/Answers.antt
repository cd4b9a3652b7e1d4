use Rattle.std.proofs.lemmas.Result.{err_from_is_err_and}
use Rattle.spds_tables.proofs.tables.SiteTables.new.Goals as goal

pub returns-in_err-fill : goal.returns-in_err-fill
returns-in_err-fill c = let p = err_from_is_err_and c.from_residual-in_err-fill.result c.from_residual-in_err-fill.ensures.1 in rw p.1 tt
