use Rattle.std.proofs.Common.{◌≡◌, ◌-◌, ◌++◌, ◌∷◌, [], codes, length, take, drop, arith}
use Rattle.std.proofs.lemmas.Grind.{common_steps}
use Rattle.text.proofs.Words.{link_some}
use Rattle.text.proofs.lines.link_line.Goals as goal

pub returns-in-108 : goal.returns-in-108
returns-in-108 c =
    let bytes = c.args.bytes.now in
    let ends = take (length bytes - 1 - 5) (drop 5 bytes) in
    let parts : bytes ≡ codes "link " ++ (ends ++ (10 ∷ [])) = grind (arith, common_steps) in
    link_some bytes ends c.two_numbers.result parts c.two_numbers.ensures
