use Rattle.std.proofs.Common.{refl, ap, ◌∙◌}
use Rattle.survey.specs.Answers.{net_of}
use Rattle.survey.proofs.Whole.{surveyed_fits, surveyed_reached}
use Rattle.roundtrip.specs.Packs.{stream_records}
use Rattle.roundtrip.proofs.Starts.{stream_comes}
use Rattle.roundtrip.proofs.packer.Packer.new.Goals as goal

pub returns : goal.returns
returns c =
    let site = c.args.site.now in
    record {
      net = c.start.ensures.net;
      coming = c.start.ensures.coming ∙ ap stream_records c.start.ensures.net;
      accepted = record { records = stream_records (net_of site); written = refl; come = stream_comes (net_of site) (surveyed_fits site) (surveyed_reached site) };
    }
