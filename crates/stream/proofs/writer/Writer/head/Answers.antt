use Rattle.std.proofs.Common.{◌+◌, ◌*◌, length, sym, refl, ap, arith}
use Rattle.std.proofs.lemmas.Bool.{leb-true, leb-false}
use Rattle.stream.proofs.Lengths.{length_head, length_starts}
use Rattle.stream.proofs.writer.Writer.head.Goals as goal

pub returns-then-not-head_fits : goal.returns-then-not-head_fits
returns-then-not-head_fits c =
    let starts = c.args.starts.now in (
      refl,
      omega (
        arith,
        leb-false (5 + 3 * length starts) c.left.result (sym c.if-not-head_fits.ensures),
        length_head c.args.bars c.args.links starts,
        c.left.ensures,
      ),
      (refl, refl),
    )

pub put_starts-requires : goal.put_starts-requires
put_starts-requires c =
    let starts = c.args.starts.now in
    omega (
      arith,
      leb-true (5 + 3 * length starts) c.left.result (sym c.if-not-head_fits.ensures),
      length_starts starts,
      c.in_ok-put.ensures.1.left,
      ap length c.net_record.ensures,
      c.left.ensures,
    )
