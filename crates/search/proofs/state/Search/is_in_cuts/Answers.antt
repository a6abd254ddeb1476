use Rattle.std.proofs.Common.{◌-◌, ◌&&◌, get_or, sym, ap, ◌∙◌, ap₂}
use Rattle.net.specs.Nets.{ends_of}
use Rattle.survey.specs.Answers.{net_of}
use Rattle.trees.specs.Listings.{crosses}
use Rattle.search.proofs.Held.{cuts_held}
use Rattle.search.proofs.state.Search.is_in_cuts.Goals as goal

pub returns-then-crosses : goal.returns-then-crosses
returns-then-crosses c =
    let s = c.args.self.now in
    let x = c.index-self-self.result in
    let e = c.ends-ends.ensures ∙ ap₂ (λ t l. ends_of (net_of t) l) c.site.ensures c.from.ensures in
    ap (λ b. b && c.crosses-then-crosses.result) (sym c.if-crosses.true)
    ∙ ap₂ ◌&&◌ (c.crosses.ensures ∙ ap (crosses s.fed.marked) e) (c.crosses-then-crosses.ensures ∙ ap (crosses (get_or s.starts (s.ceiling - 1) x).marked) e)
    ∙ cuts_held s c.args.link x c.requires

pub returns-else-crosses : goal.returns-else-crosses
returns-else-crosses c =
    let s = c.args.self.now in
    let e = c.ends-ends.ensures ∙ ap₂ (λ t l. ends_of (net_of t) l) c.site.ensures c.from.ensures in
    let cut = crosses (get_or s.starts (s.ceiling - 1) s.fed).marked (ends_of (net_of s.switches.site) c.args.link) in
    c.if-crosses.false
    ∙ ap (λ b. b && cut) (sym c.if-crosses.false)
    ∙ ap (λ b. b && cut) (c.crosses.ensures ∙ ap (crosses s.fed.marked) e)
    ∙ cuts_held s c.args.link s.fed c.requires
