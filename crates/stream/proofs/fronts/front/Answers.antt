use Rattle.std.proofs.Common.{refl, arith, rules}
use Rattle.stream.proofs.Parting.{handed}
use Rattle.stream.proofs.Lacking.{cut_stands}
use Rattle.stream.proofs.fronts.front.Goals as goal

pub returns-in-78 : goal.returns-in-78
returns-in-78 c = handed c.args.bytes.now (λ i. omega (arith, c.type_inv.bytes i)) _ _ (search rules)

pub returns-in-83 : goal.returns-in-83
returns-in-83 c = handed c.args.bytes.now (λ i. omega (arith, c.type_inv.bytes i)) _ _ (search rules)

pub returns-in-70 : goal.returns-in-70
returns-in-70 c = handed c.args.bytes.now (λ i. omega (arith, c.type_inv.bytes i)) _ _ (search rules)

pub returns-in-66 : goal.returns-in-66
returns-in-66 c = handed c.args.bytes.now (λ i. omega (arith, c.type_inv.bytes i)) _ _ (search rules)

pub returns-in-90 : goal.returns-in-90
returns-in-90 c = handed c.args.bytes.now (λ i. omega (arith, c.type_inv.bytes i)) _ _ (search rules)

pub returns-in-78-2 : goal.returns-in-78-2
returns-in-78-2 c = (cut_stands c.args.bytes.now (search rules) (search rules) (search rules), refl)
