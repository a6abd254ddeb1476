use Rattle.std.proofs.Common.{refl, arith}
use Rattle.std.proofs.lemmas.List.{length-replicate}
use Rattle.survey.proofs.Rows.{table_none}
use Rattle.survey.proofs.ranking.Ranking.new.Goals as goal

pub invariant_of-result : goal.invariant_of-result
invariant_of-result g c = record { few = c.requires; long = length-replicate g.row.N 0; within = omega arith; inside = refl; once = refl; tied = table_none g.row.N }
