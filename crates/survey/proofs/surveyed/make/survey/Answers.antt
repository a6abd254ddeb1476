use Rattle.survey.proofs.surveyed.make.survey.Goals as goal

pub returns : goal.returns
returns g c = c.survey_copy.ensures (g.S.NetSource.meaning c.args.source.now) c.in_ok-net.ensures
