use borrow.Author.Tests.{tests}
use Rattle.std.proofs.Common.{rules, length, ap, ◌∙◌, arith}
use Rattle.net.specs.Nets.{InService}
use Rattle.net.specs.Settings.{Closed}
use Rattle.net.proofs.Settings.{closed_range}
use Rattle.survey.specs.Answers.{net_of}
use Rattle.flood.specs.Marked.{switched}
use Rattle.flood.proofs.Ranges.{tells_each}
use Rattle.flood.proofs.Lengths.{switched_length}
use Rattle.board.proofs.settings.are_in_service.Goals as goal

pub returns : goal.returns
returns c =
    let s = c.args.switches.now in
    let (yes', no') = tells_each c.all.new.self _ c.all.result 1 (length (net_of s.site).links) (λ l. Closed (switched s) l → InService (net_of s.site) l) c.all.ensures.ran
    c.new.ensures.start (c.new.ensures.end ∙ c.links.ensures ∙ ap (λ s. length (net_of s).links) c.site.ensures) c.new.ensures.exhausted (λ x q k. search (rules, tests)) (λ x q k. search (rules, tests)) in
    (λ e l d. yes' e l (closed_range (switched s) l d).0 (omega (arith, (closed_range (switched s) l d).1, switched_length s)) d, λ f. no' (λ l _ _. f l))
