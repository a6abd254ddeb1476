use Rattle.std.proofs.Common.{◌≡◌, ◌+◌, ◌/◌, min, sym, refl, ◌∙◌, subst, arith}
use Rattle.std.proofs.lemmas.Bool.{eqb-true}
use Rattle.stream.specs.Writers.{left_in}
use Rattle.walk.specs.Walks.{net_of_walk, handed_by}
use Rattle.walk.specs.Calls.{left_after}
use Rattle.walk.proofs.Answered.{few_left}
use Rattle.roundtrip.specs.declared.stage.Stage.{Stage}
use Rattle.roundtrip.specs.Packers.{net_packed}
use Rattle.roundtrip.proofs.Packed.{exchanges_filled, over}
use Rattle.roundtrip.proofs.packer.Packer.fill_exchanges.Goals as goal

pub returns-then-look : goal.returns-then-look
returns-then-look c =
    let p = c.args.self.now in
    let w = c.args.writer.now in
    let net = net_packed p in
    let n = handed_by p.walk in
    let a = c.advance.ensures.advanced in
    let k = c.advance.result.count in
    let least : k ≡ min (left_in w / 5) (left_after net n) = omega (arith, a.count, few_left p.walk) in
    let none = eqb-true (left_after (net_of_walk c.advance.new.self) (handed_by c.advance.new.self)) 0 (sym c.look.ensures.answer.finished ∙ c.if-look.true) in
    let none' = subst (λ m. left_after m (handed_by c.advance.new.self) ≡ 0) c.advance.ensures.net none in
    exchanges_filled w c.advance.new.collector p _ c.advance.ensures.net Stage.End n k c.requires refl refl a.on least a.moved (sym (over net (n + k) (omega (arith, none', a.on))))

pub returns-else-look : goal.returns-else-look
returns-else-look c =
    let p = c.args.self.now in
    let w = c.args.writer.now in
    let net = net_packed p in
    let n = handed_by p.walk in
    let a = c.advance.ensures.advanced in
    let k = c.advance.result.count in
    let least : k ≡ min (left_in w / 5) (left_after net n) = omega (arith, a.count, few_left p.walk) in
    exchanges_filled w c.advance.new.collector p _ c.advance.ensures.net Stage.Exchanges n k c.requires c.requires refl a.on least a.moved refl
