use Rattle.std.proofs.Common.{◌≡◌, true, length, sym, refl, ◌∙◌, subst}
use Rattle.std.proofs.lemmas.Bool.{eqb-true}
use Rattle.survey.specs.Surveys.{start_links}
use Rattle.stream.specs.Records.{head_bytes}
use Rattle.stream.specs.Writers.{Writes}
use Rattle.walk.specs.Walks.{handed_by}
use Rattle.roundtrip.specs.Packers.{net_packed}
use Rattle.roundtrip.specs.Stages.{is_due}
use Rattle.roundtrip.proofs.Packed.{head_filled, head_unfilled, put_ok, put_err}
use Rattle.roundtrip.proofs.packer.Packer.fill_head.Goals as goal

pub returns-then-is_ok : goal.returns-then-is_ok
returns-then-is_ok c =
    let p = c.args.self.now in
    let w = c.args.writer.now in
    let w' = c.put_head.new.writer in
    let net = net_packed p in
    let none = eqb-true (handed_by p.walk) 0 (subst (λ s. is_due net s (handed_by p.walk) ≡ true) c.requires p.due) in
    let (fits, bytes) = put_ok (head_bytes net.bars (length net.links) (start_links net)) w w' c.put_head.result (sym c.is_ok.ensures.value ∙ c.if-is_ok.true)
    (subst (λ m. Writes (head_bytes m.bars (length m.links) (start_links m)) w c.put_head.result w') c.site.ensures c.put_head.ensures) in
    head_filled w w' p (record { walk = p.walk; stage = _; due = _ }) refl c.requires refl none none fits bytes

pub returns-else-is_ok : goal.returns-else-is_ok
returns-else-is_ok c =
    let p = c.args.self.now in
    let w = c.args.writer.now in
    let w' = c.put_head.new.writer in
    let net = net_packed p in
    let none = eqb-true (handed_by p.walk) 0 (subst (λ s. is_due net s (handed_by p.walk) ≡ true) c.requires p.due) in
    let (lacks, bytes) = put_err (head_bytes net.bars (length net.links) (start_links net)) w w' c.put_head.result (sym c.is_ok.ensures.value ∙ c.if-is_ok.false)
    (subst (λ m. Writes (head_bytes m.bars (length m.links) (start_links m)) w c.put_head.result w') c.site.ensures c.put_head.ensures) in
    head_unfilled w w' p p refl c.requires c.requires none none lacks bytes
