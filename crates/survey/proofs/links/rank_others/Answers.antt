use Rattle.std.proofs.Common.{◌≡◌, ℕ, ◌+◌, ◌-◌, ◌++◌, length, filter, sym, ap, ◌∙◌, arith}
use Rattle.std.specs.List.{range_with_len}
use Rattle.survey.specs.Listed.{listed}
use Rattle.survey.specs.Tables.{copied, toured}
use Rattle.survey.proofs.Others.{ranks_at}
use Rattle.survey.proofs.Filled.{rank_more}
use Rattle.survey.proofs.links.rank_others.Goals as goal
use Rattle.survey.proofs.links.rank_others.Goals.{After-rank_other}

-- one link more is ranked, if it belongs here
one_more : (c : After-rank_other) (n : ℕ) → c.loop-link.link ≡ n
    → listed c.rank_other.new.links ≡ listed c.args.links.now ++ filter (ranks_at (copied c.args.net.now) (toured c.args.tour.now) c.args.rank) (range_with_len 1 n)
one_more c n e =
    let net = copied c.args.net.now in
    let t = toured c.args.tour.now in
    rank_more net t c.args.rank c.loop-link.link n c.loop-link.auto.link e (listed c.loop-link.links) (listed c.rank_other.new.links)
    (c.loop-link.invariant.1 ∙ ap (λ xs. xs ++ filter (ranks_at net t c.args.rank) (range_with_len 1 (c.loop-link.link - 1))) c.requires.lower) c.rank_other.ensures
    ∙ ap (λ xs. xs ++ filter (ranks_at net t c.args.rank) (range_with_len 1 n)) (sym c.requires.lower)

pub loop-link-preserved : goal.loop-link-preserved
loop-link-preserved c = (omega (arith, c.loop-link-test.true), one_more (goal.at.loop-link-preserved c).After-rank_other (c.loop-link.link + 1 - 1) (omega arith))

pub returns : goal.returns
returns c =
    let net = copied c.args.net.now in
    let z : c.loop-link.link - 1 ≡ length net.links = omega (arith, c.loop-link-test.false, c.loop-link.invariant.0) in
    c.loop-link.invariant.1 ∙ ap (λ n. listed c.args.links.now ++ filter (ranks_at net (toured c.args.tour.now) c.args.rank) (range_with_len 1 n)) z

pub returns-2 : goal.returns-2
returns-2 c = one_more (goal.at.returns-2 c).After-rank_other (length (copied c.args.net.now).links) (omega (arith, c.loop-link-test.true))
