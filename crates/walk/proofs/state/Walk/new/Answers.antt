use Rattle.std.proofs.Common.{refl}
use Rattle.survey.specs.Answers.{net_of}
use Rattle.survey.proofs.Whole.{surveyed_fits, surveyed_reached}
use Rattle.trees.proofs.Whole.{ruled, listed}
use Rattle.walk.proofs.state.Walk.new.Goals as goal

pub returns : goal.returns
returns c =
    let site = c.args.site.now in
    record {
      net = c.new.ensures.net;
      new = refl;
      ruled = ruled (net_of site) (surveyed_fits site) (surveyed_reached site);
      listed = listed (net_of site) (surveyed_fits site) (surveyed_reached site);
    }
