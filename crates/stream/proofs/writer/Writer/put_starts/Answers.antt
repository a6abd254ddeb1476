use Rattle.std.proofs.Common.{arith}
use Rattle.stream.proofs.Heads.{start_fits}
use Rattle.stream.proofs.writer.Writer.put_starts.Goals as goal

pub returns-in_err-put : goal.returns-in_err-put
returns-in_err-put c =
    let fits = start_fits c.args.self.now c.loop-start.self c.args.starts.now c.loop-start.start-index c.start_record.result _ c.requires
    c.loop-start.invariant c.start_record.ensures c.loop-start-test.true in
    absurd (omega (arith, fits, c.in_err-put.ensures))
