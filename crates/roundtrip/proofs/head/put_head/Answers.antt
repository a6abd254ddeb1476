use Rattle.std.proofs.Common.{length, ◌∙◌, subst}
use Rattle.survey.specs.Answers.{net_of}
use Rattle.stream.specs.Records.{head_bytes}
use Rattle.stream.specs.Writers.{Writes}
use Rattle.roundtrip.proofs.head.put_head.Goals as goal

pub returns : goal.returns
returns c =
    let net = net_of c.args.site.now in
    let w = c.args.writer.now in
    let w' = c.head.new.self in
    let r = c.head.result in
    subst (λ starts. Writes (head_bytes net.bars (length net.links) starts) w r w') (c.deref.ensures.0 ∙ c.start_numbers-starts.ensures)
    (subst (λ links. Writes (head_bytes net.bars links c.deref.result.now) w r w') c.links.ensures
    (subst (λ bars. Writes (head_bytes bars c.links.result c.deref.result.now) w r w') c.bars.ensures c.head.ensures))
