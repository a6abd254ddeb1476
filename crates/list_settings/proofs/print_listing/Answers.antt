use Rattle.std.proofs.Common.{◌≡◌, ℕ, ◌+◌, ◌<◌, ◌≤◌, min, sym, subst, arith}
use Rattle.net.specs.Nets.{Net}
use Rattle.walk.specs.Calls.{left_after}
use Rattle.walk.specs.Walks.{net_of_walk, handed_by}
use Rattle.list_settings.proofs.print_listing.Goals as goal

-- where some exchanges were handed on, fewer are left
fewer_left : (net : Net) (n n' count allowance spare : ℕ) → n' ≡ n + count → count ≡ min allowance (min spare (left_after net n)) → 1 ≤ count
    → left_after net n' < left_after net n
fewer_left net n n' count allowance spare on is some = omega arith

pub loop-walk-smaller : goal.loop-walk-smaller
loop-walk-smaller c =
    let advanced = c.advance.ensures.advanced in
    let w = c.advance.new.self in
    subst (λ net. left_after net (handed_by w) < left_after (net_of_walk c.loop-walk.walk) (handed_by c.loop-walk.walk))
    (sym c.advance.ensures.net)
    (fewer_left (net_of_walk c.loop-walk.walk) (handed_by c.loop-walk.walk) (handed_by w) c.advance.result.count _ _ advanced.on advanced.count c.loop-walk-test.true)
