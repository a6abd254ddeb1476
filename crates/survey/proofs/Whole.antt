-- What a survey finds, all together.
use Rattle.std.proofs.Common.{◌≡◌, ℕ, ◌+◌, length, Ok, Err, refl, arith}
use Rattle.faults.specs.declared.Fault.{Fault}
use Rattle.faults.specs.declared.NetFault.{NetFault}
use Rattle.faults.specs.declared.SurveyFault.{SurveyFault}
use Rattle.net.specs.Nets.{Net, infeed}
use Rattle.net.specs.Limits.{WithinLimits, FirstNo}
use Rattle.net.proofs.Asked.{no_outside}
use Rattle.net.proofs.Links.{ends_bars}
use Rattle.net.proofs.Tested.{tested_within}
use Rattle.survey.specs.declared.surveyed.Surveyed.{Surveyed}
use Rattle.survey.specs.Ranks.{rank_in}
use Rattle.survey.specs.Visits.{only, tour}
use Rattle.survey.specs.Surveys.{bar_order, start_links, start_setting, VisitedBelow, FirstUnvisited, AllReached, LowestUnreached, WellRanked}
use Rattle.survey.specs.Answers.{net_of, NotVisited, Surveys}
use Rattle.survey.proofs.Ranked.{not_some_none, norepeat_rank}
use Rattle.survey.proofs.Steps.{some_from_test}
use Rattle.survey.proofs.Tours.{extends_rank, toured}
use Rattle.survey.proofs.Reached.{seen_reached, reached_seen, all_reached_full, full_all_reached, unreached_none, start_radial}
use Rattle.survey.proofs.Others.{links_ranked, others_sorted}

module _ (net : Net) (fit : WithinLimits net) where
  pub well_ranked : AllReached net → WellRanked net
  well_ranked all =
      let grown = (toured net fit).standing.grown in
      let full = all_reached_full net fit all in
      let lg = grown.longer in
      record {
        bars_ranked = record {
          each_ranked = λ b isb. reached_seen net fit b (all b isb);
          no_other = grown.bars;
          one_rank = norepeat_rank (bar_order net) grown.once;
        };
        infeed_first = extends_rank (only (infeed net)) (tour net) (infeed net) 1 (toured net fit).extends refl;
        start_links_join = λ j lo hi. grown.links j lo (omega arith);
        ancestors = λ l a b j.
            let (ba, bb) = ends_bars net fit j in
            (toured net fit).standing.related l a b j (reached_seen net fit a (all a ba)) (reached_seen net fit b (all b bb));
        start_radial = start_radial net fit all;
        links_ranked = links_ranked net fit all;
        others_sorted = others_sorted net fit all;
      }

  -- every bar was visited
  pub visited_reached : VisitedBelow (tour net) (net.bars + 1) → AllReached net
  visited_reached v b (lo, hi) = seen_reached net fit b (some_from_test (rank_in (bar_order net) b) (v b lo (omega arith)))

  -- the first bar that was not visited is the lowest that is not reached
  pub lowest_unreached : (b : ℕ) → FirstUnvisited net (tour net) b → LowestUnreached net b
  lowest_unreached b u = record {
    is_bar = u.is_bar;
    unreached = λ w. not_some_none (reached_seen net fit b w).1 u.unvisited;
    lower_reached = λ a lo lt. seen_reached net fit a (some_from_test (rank_in (bar_order net) a) (u.visited_below a lo lt));
  }

pub surveys_net : (net : Net) (f : NetFault) → FirstNo net f → Surveys net (Err (Fault.Net f))
surveys_net net f h = record { answer = h; ranks = tt; exact = λ w. absurd (no_outside net f h w) }

pub surveys_unreached : (net : Net) → WithinLimits net → (f : SurveyFault) → NotVisited net (tour net) f → Surveys net (Err (Fault.Survey f))
surveys_unreached net fit (SurveyFault.Unreached b) h =
    let u = lowest_unreached net fit b h in
    record { answer = (fit, u); ranks = tt; exact = λ _. unreached_none net fit b u.is_bar u.unreached }

pub surveys_all : (net : Net) (s : Surveyed) → net_of s ≡ net → WithinLimits net → AllReached net → Surveys net (Ok s)
surveys_all net s e fit all = record {
  answer = (fit, all, e);
  ranks = well_ranked net fit all;
  exact = (start_setting net, start_radial net fit all);
}

module _ (s : Surveyed) where
  pub surveyed_fits : WithinLimits (net_of s)
  surveyed_fits = tested_within (net_of s) s.net.within

  pub surveyed_reached : AllReached (net_of s)
  surveyed_reached = full_all_reached (net_of s) surveyed_fits s.all_ranked

  -- one start link fewer than the bars
  pub surveyed_starts : length (start_links (net_of s)) + 1 ≡ (net_of s).bars
  surveyed_starts = omega (arith, (toured (net_of s) surveyed_fits).standing.grown.longer, s.all_ranked)
