use Rattle.std.proofs.Common.{◌≡◌, ℕ, Decides, sym, ◌∙◌, subst}
use Rattle.std.proofs.lemmas.Bool.Decides.{Decides-like}
use Rattle.net.specs.Nets.{IsBar, infeed}
use Rattle.net.specs.Settings.{opening, Reach, Radial}
use Rattle.net.proofs.Settings.{not_both}
use Rattle.survey.specs.declared.surveyed.Surveyed.{Surveyed}
use Rattle.survey.specs.Answers.{net_of}
use Rattle.trees.specs.Listings.{fed}
use Rattle.flood.specs.Marked.{fed_in}
use Rattle.board.specs.Boards.{looped_net, looped_setting}
use Rattle.board.proofs.Decided.{board_looped}
use Rattle.board.proofs.Splits.{fed_radial, radial_closed, on_loop_radial, radial_on_loop}
use Rattle.board.proofs.boards.Looped.is_on_loop.Goals as goal

pub returns-then-has_closed : goal.returns-then-has_closed
returns-then-has_closed c =
    let s = c.args.self.now in
    let l = c.args.link in
    let net = looped_net s in
    let T = opening (looped_setting s) l in
    let Feeds : Surveyed → Type 0 = λ site. fed_in (net_of site) c.flood_without.result ≡ fed (net_of site) T
    → Decides c.feeds_all.result ((b : ℕ) → IsBar (net_of site) b → Reach (net_of site) T (infeed (net_of site)) b) in
    let feeds = subst Feeds c.site.ensures (c.feeds_all.ensures T) c.flood_without.ensures in
    let tells : Decides c.feeds_all.result (Radial net T) = (
      λ h. fed_radial net (looped_setting s) s.link (board_looped s) l (sym c.if-has_closed.ensures) (feeds.0 h),
      λ r. feeds.1 r.all_reached,
    ) in
    record { on_loop = Decides-like c.feeds_all.result (radial_on_loop s l) (on_loop_radial s l) tells; radial = tells }

pub returns-else-has_closed : goal.returns-else-has_closed
returns-else-has_closed c =
    let s = c.args.self.now in
    let l = c.args.link in
    let tells : Decides c.has_closed.result (Radial (looped_net s) (opening (looped_setting s) l)) = (
      λ h. absurd (not_both h c.if-has_closed.false),
      λ r. c.has_closed.ensures ∙ radial_closed (looped_net s) (looped_setting s) s.link (board_looped s) l r,
    ) in
    record { on_loop = Decides-like c.has_closed.result (radial_on_loop s l) (on_loop_radial s l) tells; radial = tells }
