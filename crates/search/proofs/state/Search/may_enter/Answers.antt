use Rattle.std.proofs.Common.{◌&&◌, sym, refl, subst, MatchBool}
use Rattle.net.specs.Nets.{ends_of}
use Rattle.survey.specs.Surveys.{start_setting}
use Rattle.trees.specs.Listings.{crosses}
use Rattle.search.specs.Descents.{EntersAt}
use Rattle.search.specs.Frames.{fed_without}
use Rattle.search.specs.States.{net_in, setting_of}
use Rattle.search.proofs.Held.{ceiling_there, search_decides, search_none}
use Rattle.search.proofs.state.Search.may_enter.Goals as goal

pub is_in_cuts-requires : goal.is_in_cuts-requires
is_in_cuts-requires c = ceiling_there c.args.self.now c.args.rank c.in-Some.leaving c.in-Some.link c.in-Some.ensures

pub returns-in_default : goal.returns-in_default
returns-in_default c = search_none c.args.self.now c.args.rank c.in_default.ensures

pub returns-then-is_free : goal.returns-then-is_free
returns-then-is_free c =
    let s = c.args.self.now in
    let E = EntersAt (net_in s) (setting_of s) s.ceiling c.args.rank in
    subst (λ b. MatchBool (b && c.is_in_cuts.result) E (¬ E)) c.if-is_free.true
    (search_decides s c.args.rank c.in-Some.leaving c.in-Some.link c.is_free.result c.is_in_cuts.result c.in-Some.ensures c.is_free.ensures c.is_in_cuts.ensures)

pub returns-else-is_free : goal.returns-else-is_free
returns-else-is_free c =
    let s = c.args.self.now in
    let E = EntersAt (net_in s) (setting_of s) s.ceiling c.args.rank in
    let ends = ends_of (net_in s) c.in-Some.link in
    let cut = crosses (fed_without (net_in s) (setting_of s) s.ceiling) ends && crosses (fed_without (net_in s) (start_setting (net_in s)) s.ceiling) ends in
    subst (λ b. MatchBool b E (¬ E)) (sym c.if-is_free.false)
    (subst (λ b. MatchBool (b && cut) E (¬ E)) c.if-is_free.false
    (search_decides s c.args.rank c.in-Some.leaving c.in-Some.link c.is_free.result cut c.in-Some.ensures c.is_free.ensures refl))
