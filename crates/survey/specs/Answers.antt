-- What a survey answers. Assumes nothing.
use Rattle.std.specs.Prelude.{◌≡◌, IfOk, Ok, Err, Result, MatchResult}
use Rattle.faults.specs.declared.Fault.{Fault}
use Rattle.faults.specs.declared.SurveyFault.{SurveyFault}
use Rattle.net.specs.Nets.{Net}
use Rattle.net.specs.Settings.{Setting, Radial}
use Rattle.net.specs.Limits.{WithinLimits, FirstNo}
use Rattle.survey.specs.declared.surveyed.Surveyed.{Surveyed}
use Rattle.survey.specs.Visits.{Tour}
use Rattle.survey.specs.Tables.{copied}
use Rattle.survey.specs.Surveys.{FirstUnvisited, AllReached, LowestUnreached, WellRanked}

-- The net that was surveyed.
abbrev pub net_of : Surveyed → Net
net_of s = copied s.net

-- A fault names the first bar that was not visited.
abbrev pub NotVisited : Net → Tour → SurveyFault → Type 0
NotVisited net t (SurveyFault.Unreached b) = FirstUnvisited net t b

-- The surveyed net, where all questions are answered yes; else the first that is answered no.
abbrev pub SurveyAnswers : Net → Result Surveyed Fault → Type 0
SurveyAnswers net (Ok s) = WithinLimits net × AllReached net × (net_of s ≡ net)
SurveyAnswers net (Err (Fault.Net f)) = FirstNo net f
SurveyAnswers net (Err (Fault.Survey (SurveyFault.Unreached b))) = WithinLimits net × LowestUnreached net b
SurveyAnswers net (Err (Fault.Text f)) = ⊥
SurveyAnswers net (Err (Fault.Collector f)) = ⊥
SurveyAnswers net (Err (Fault.Board f)) = ⊥
SurveyAnswers net (Err (Fault.Stream f)) = ⊥
SurveyAnswers net (Err (Fault.Replay f)) = ⊥
SurveyAnswers net (Err Fault.Memory) = ⊥

-- All that a survey promises of a net and its answer.
pub record Surveys (net : Net) (r : Result Surveyed Fault) : Type 0 where
  pub answer : SurveyAnswers net r
  -- the ranks and the start setting are what they should be
  pub ranks : IfOk r (λ _. WellRanked net)
  -- a net within the limits is refused exactly when it has no radial setting
  pub exact : MatchResult r (λ _. (T : Setting) × Radial net T) (λ _. WithinLimits net → (T : Setting) → ¬ Radial net T)
