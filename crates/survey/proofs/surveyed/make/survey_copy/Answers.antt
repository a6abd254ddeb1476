use Rattle.std.proofs.Common.{◌+◌, ◌++◌, Err, ap, ◌∙◌, subst}
use Rattle.std.proofs.lemmas.Result.{err_from_is_err_and}
use Rattle.faults.specs.declared.Fault.{Fault}
use Rattle.net.specs.Limits.{WithinLimits}
use Rattle.net.proofs.Tested.{tested_within}
use Rattle.survey.specs.Listed.{listed}
use Rattle.survey.specs.Tables.{copied, toured}
use Rattle.survey.specs.Surveys.{VisitedBelow, AllReached, others}
use Rattle.survey.specs.Answers.{NotVisited, Surveys}
use Rattle.survey.proofs.Reached.{all_reached_full}
use Rattle.survey.proofs.Starts.{starts_inside, starts_distinct}
use Rattle.survey.proofs.Whole.{visited_reached, surveys_unreached, surveys_all}
use Rattle.survey.proofs.surveyed.make.survey_copy.Goals as goal
use Rattle.survey.proofs.surveyed.make.survey_copy.Goals.{After-rank_links-links}

pub returns-in_err-check_visited : goal.returns-in_err-check_visited
returns-in_err-check_visited c =
    let net = copied c.args.net in
    let p = err_from_is_err_and c.from_residual.result c.from_residual.ensures.1 in
    let f = c.in_err-check_visited.field-0.0 in
    let u = subst (λ t. NotVisited net t f) c.whole_tour-visited.ensures c.in_err-check_visited.ensures in
    λ m e. rw (p.1, p.2) (subst (λ n. Surveys n (Err (Fault.Survey f))) e (surveys_unreached net (tested_within net c.args.net.within) f u))

pub rank_starts-starts-requires : goal.rank_starts-starts-requires
rank_starts-starts-requires c =
    let net = copied c.args.net in
    let fit = tested_within net c.args.net.within in
    record {
      inside = starts_inside net fit (toured c.whole_tour-visited.result) c.whole_tour-visited.ensures;
      once = starts_distinct net fit (toured c.whole_tour-visited.result) c.whole_tour-visited.ensures;
    }

-- every bar of the copied net is reached
all_reached : (c : goal.After-rank_links-links) → AllReached (copied c.args.net)
all_reached c =
    let net = copied c.args.net in
    visited_reached net (tested_within net c.args.net.within) (subst (λ t. VisitedBelow t (net.bars + 1)) c.whole_tour-visited.ensures c.in_ok-check_visited.ensures)

pub invariant_of-result : goal.invariant_of-result
invariant_of-result c =
    let net = copied c.args.net in
    let e = c.whole_tour-visited.ensures in record { bars_ranked = ap listed c.order-bars.ensures ∙ ap (λ t. t.order) e; starts_ranked = c.rank_starts-starts.ensures ∙ ap (λ t. t.starts) e; links_ranked = c.rank_links-links.ensures ∙ ap (λ t. t.starts ++ others net t) e; all_ranked = all_reached_full net (tested_within net c.args.net.within) (all_reached c) }

pub returns : goal.returns
returns c =
    let net = copied c.args.net in
    λ m e. surveys_all m _ e (subst WithinLimits e (tested_within net c.args.net.within)) (subst AllReached e (all_reached (goal.at.returns c).After-rank_links-links))
