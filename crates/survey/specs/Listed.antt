-- What a ranking holds. Assumes nothing.
use Rattle.std.specs.Prelude.{ℕ, List, take}
use Rattle.survey.specs.declared.ranking.Ranking.{Ranking}

-- The numbers of a ranking, in their order.
abbrev pub listed : {N : ℕ} → Ranking N → List ℕ
listed r = take r.count r.items
