use borrow.Author.Tests.{tests}
use Rattle.std.proofs.Common.{rules, ◌≡◌, false, true, ◌∙◌}
use Rattle.net.specs.Nets.{nth}
use Rattle.survey.specs.Answers.{net_of}
use Rattle.flood.proofs.Ranges.{tells_each}
use Rattle.board.proofs.Held.{fed_tells}
use Rattle.board.proofs.settings.feeds_all.Goals as goal

pub returns : goal.returns
returns c T e = fed_tells c.args.site.now T c.args.marks.now c.all.result e
    (tells_each c.all.new.self _ c.all.result 1 (net_of c.args.site.now).bars (λ b. nth c.args.marks.now.marked b false ≡ true) c.all.ensures.ran c.new.ensures.start
    (c.new.ensures.end ∙ c.bars.ensures) c.new.ensures.exhausted (λ x q k. search (rules, tests)) (λ x q k. search (rules, tests)))
