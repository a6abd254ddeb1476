use Rattle.std.proofs.Common.{◌≡◌, ◌+◌, None, ◌∙◌, rules, arith}
use Rattle.survey.specs.Listed.{listed}
use Rattle.survey.proofs.Rows.{outside_rank, rank_past, rank_read}
use Rattle.survey.proofs.ranking.Ranking.rank_of.Goals as goal

pub returns-in_err-place : goal.returns-in_err-place
returns-in_err-place g c =
    let e = outside_rank g.row.N (listed c.args.self.now) c.args.x c.args.self.now.inside (λ w. omega arith) in search rules

pub returns-in_err-rank : goal.returns-in_err-rank
returns-in_err-rank g c =
    let r = c.args.self.now in
    let z : c.in_ok-place.place + 1 ≡ c.args.x = omega arith in
    let e = rank_past g.row.N (listed r) r.ranks c.in_ok-place.place c.args.x r.tied z r.inside c.in_err-rank.ensures.lookup.3 in
    search rules

pub returns : goal.returns
returns g c =
    let r = c.args.self.now in
    let z : c.in_ok-place.place + 1 ≡ c.args.x = omega arith in
    let e = c.in_ok-rank.ensures.lookup.4 (omega arith) None ∙ rank_read g.row.N (listed r) r.ranks c.in_ok-place.place c.args.x r.tied z c.in_ok-rank.ensures.lookup.3.0 in
    search rules
