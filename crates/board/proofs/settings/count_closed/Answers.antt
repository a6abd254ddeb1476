use borrow.Author.Tests.{tests}
use Rattle.std.proofs.Common.{rules, false, length, ap, ◌∙◌, arith}
use Rattle.std.specs.Range.{range_inclusive_start, range_inclusive_end, range_inclusive_exhausted}
use Rattle.std.proofs.lemmas.Iterator.Consumers.{YieldsList-from_filter, count_from_yields_List}
use Rattle.net.specs.Nets.{nth}
use Rattle.survey.specs.Answers.{net_of}
use Rattle.flood.specs.Marked.{switched}
use Rattle.flood.proofs.Ranges.{YieldsList-from_inclusive}
use Rattle.flood.proofs.Lengths.{switched_length}
use Rattle.board.proofs.Held.{count_closed}
use Rattle.board.proofs.settings.count_closed.Goals as goal

pub returns : goal.returns
returns c =
    let s = c.args.switches.now in
    let n = length (net_of s.site).links in
    let range = c.filter.ensures.source in
    count_from_yields_List c.filter.result c.count.result c.count.ensures.ran (YieldsList-from_filter _ (λ l. nth (switched s) l false)
    (YieldsList-from_inclusive 1 n n (ap range_inclusive_start range ∙ c.new.ensures.start)
    (ap range_inclusive_end range ∙ c.new.ensures.end ∙ c.links.ensures ∙ ap (λ s. length (net_of s).links) c.site.ensures)
    (ap range_inclusive_exhausted range ∙ c.new.ensures.exhausted) (omega arith))
    c.filter.ensures.closure (λ x r q k. search (rules, tests)))
    ∙ count_closed (switched s) n (switched_length s)
