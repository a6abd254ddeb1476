use Rattle.std.proofs.Common.{◌≡◌, suc, ap, ◌∙◌, rules}
use Rattle.survey.specs.Ranks.{number_at_rank}
use Rattle.survey.specs.Listed.{listed}
use Rattle.survey.proofs.Rows.{number_placed}
use Rattle.survey.proofs.ranking.Ranking.at_rank.Goals as goal

pub returns : goal.returns
returns g c =
    let xs = listed c.args.self.now in
    let z : suc c.in_ok-checked_sub.field-0 ≡ c.args.rank = search rules in
    c.at_place.ensures ∙ number_placed xs c.in_ok-checked_sub.field-0 ∙ ap (number_at_rank xs) z
