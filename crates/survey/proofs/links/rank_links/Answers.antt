use Rattle.std.proofs.Common.{◌≡◌, ℕ, ◌+◌, ◌-◌, ◌++◌, sym, ap, ◌∙◌, append_assoc, arith}
use Rattle.std.specs.List.{range_with_len, flat_map}
use Rattle.survey.specs.Listed.{listed}
use Rattle.survey.specs.Tables.{copied, toured}
use Rattle.survey.specs.Surveys.{others_at}
use Rattle.survey.proofs.Filled.{joined_more}
use Rattle.survey.proofs.links.rank_links.Goals as goal
use Rattle.survey.proofs.links.rank_links.Goals.{After-rank_others}

-- the others of one lower rank more are ranked
one_more : (c : After-rank_others) (n : ℕ) → c.loop-rank.rank ≡ n
    → listed c.rank_others.new.links ≡ (toured c.args.tour.now).starts ++ flat_map (others_at (copied c.args.net.now) (toured c.args.tour.now)) (range_with_len 1 n)
one_more c n e =
    let t = toured c.args.tour.now in
    let f = others_at (copied c.args.net.now) t in
    c.rank_others.ensures ∙ ap (λ xs. xs ++ f c.loop-rank.rank) c.loop-rank.invariant
    ∙ append_assoc t.starts (flat_map f (range_with_len 1 (c.loop-rank.rank - 1))) (f c.loop-rank.rank)
    ∙ ap (λ xs. t.starts ++ xs) (sym (joined_more f c.loop-rank.rank n c.loop-rank.auto.rank e))

pub loop-rank-preserved : goal.loop-rank-preserved
loop-rank-preserved c = one_more (goal.at.loop-rank-preserved c).After-rank_others (c.loop-rank.rank + 1 - 1) (omega arith)

pub returns-2 : goal.returns-2
returns-2 c = one_more (goal.at.returns-2 c).After-rank_others (copied c.args.net.now).bars (omega (arith, c.loop-rank-test.true))
