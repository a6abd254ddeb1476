use Rattle.runs.proofs.driver.run.Goals as goal

pub returns : goal.returns
returns g c = let surveyed = c.in_ok-site.ensures in record { surveyed = surveyed; law = c.make_all.ensures (g.S.NetSource.meaning c.args.source.now) surveyed.answer.2 }
