use Rattle.std.proofs.Common.{true, false, sym, refl, ap, ◌∙◌, subst, arith}
use Rattle.net.specs.Nets.{InService}
use Rattle.net.specs.Settings.{Closed, opening}
use Rattle.net.proofs.Links.{joins_range}
use Rattle.net.proofs.Settings.{closing_closes, open_from_not, put_back}
use Rattle.survey.specs.Answers.{net_of}
use Rattle.board.specs.Boards.{board_net, setting_of}
use Rattle.board.proofs.Decided.{board_radial, radial_of}
use Rattle.board.proofs.boards.Board.looped_by.Goals as goal

pub invariant_of-result : goal.invariant_of-result
invariant_of-result c =
    let b = c.args.self in
    let l = c.args.link in
    let T = setting_of b in
    let before = ap (λ S. opening S l) c.put.ensures.row ∙ put_back T l false true (open_from_not T l c.requires.opened) in
    let lo = (joins_range (board_net b) c.requires.served.2).0 in record {
      served = ∣ subst (λ s. InService (net_of s) l) (sym c.put.ensures.site) c.requires.served ∣₁;
      last = subst (λ S. Closed S l) (sym c.put.ensures.row) (closing_closes T l lo (omega (arith, (joins_range (board_net b) c.requires.served.2).1, (board_radial b).one_a_link)));
      radial = ∣ radial_of c.put.ensures.site before (board_radial b) ∣₁;
    }

pub returns : goal.returns
returns c =
    let T = setting_of c.args.self in
    let l = c.args.link in
    record {
      in_service = c.requires.served;
      was_open = c.requires.opened;
      same_site = c.put.ensures.site;
      last = refl;
      setting = c.put.ensures.row;
      before = ap (λ S. opening S l) c.put.ensures.row ∙ put_back T l false true (open_from_not T l c.requires.opened);
    }
