use Rattle.std.proofs.Common.{◌≡◌, ◌≤◌, get_or, rules}
use Rattle.std.specs.Str.{IsUtf8}
use Rattle.text.proofs.Decimals.{utf8_number, parsed}
use Rattle.text.proofs.numbers.number.Goals as goal

pub returns-in_err-ok : goal.returns-in_err-ok
returns-in_err-ok c =
    let none : ¬ IsUtf8 c.args.digits.now = search rules in
    rw c.from_residual.ensures (λ n i e. none (utf8_number c.args.digits.now n i e))

pub returns : goal.returns
returns c =
    let first : 49 ≤ get_or c.args.digits.now 0 0 = search rules in
    let text : c.in_ok-ok.field-0.now ≡ c.args.digits.now = search rules in
    let same : c.map.result ≡ c.ok-2.result = search rules in
    rw (same, c.ok-2.ensures.value) (parsed c.args.digits.now c.parse.result first (rw text at c.parse.ensures.value.0))
