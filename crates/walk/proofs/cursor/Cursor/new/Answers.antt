use Rattle.std.proofs.Common.{sym, ap, ◌∙◌, ap₂}
use Rattle.survey.specs.Surveys.{start_setting}
use Rattle.survey.specs.Answers.{net_of}
use Rattle.trees.specs.Listings.{listing}
use Rattle.search.specs.Descents.{setting_at}
use Rattle.walk.proofs.Moved.{all_to_come}
use Rattle.walk.proofs.cursor.Cursor.new.Goals as goal

pub returns : goal.returns
returns c =
    let made = c.new-search.ensures in
    let settled = c.settle-entering.ensures in
    let same = settled.net ∙ made.net in
    record {
      net = same;
      setting = ap₂ setting_at same (settled.setting ∙ made.setting) ∙ ap start_setting (sym same);
      coming = settled.coming ∙ all_to_come (net_of c.args.site.now) c.new-search.result made.net made.setting made.ceiling ∙ ap listing (sym same);
    }
