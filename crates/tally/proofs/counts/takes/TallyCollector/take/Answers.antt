use Rattle.std.proofs.Common.{◌≡◌, ℕ, ◌+◌, ◌-◌, ◌^◌, ◌≤◌, true, ap, ◌∙◌, subst, arith, rules}
use Rattle.collectors.specs.Exchanges.{is_forward}
use Rattle.tally.specs.Counts.{counted_after, counts_to}
use Rattle.tally.specs.Tallies.{counts_of}
use Rattle.tally.proofs.Bounds.{counts_to_more, counts_to_after}
use Rattle.tally.proofs.counts.takes.TallyCollector.take.Goals as goal

-- with one less to spare, one more is taken
one_less : (spare spare' : ℕ) → spare ≡ spare' + 1 → spare ≤ 2 ^ 62 → 2 ^ 62 - spare + 1 + 1 ≡ 2 ^ 62 - spare' + 1
one_less spare spare' e few = omega arith

pub count_after-requires : goal.count_after-requires
count_after-requires c =
    let t = c.switch-2.new.self in
    let left : c.args.self.now.spare ≡ c.in_ok-spare.spare + 1 = search rules in
    counts_to_more (2 ^ 62 - t.spare + 1) (2 ^ 62) (counts_of t) (omega (arith, c.switch.ensures.spare, c.switch-2.ensures.spare, left, c.args.self.now.few)) t.counted

pub invariant_of-self : goal.invariant_of-self
invariant_of-self c =
    let t = c.switch-2.new.self in
    let left : c.args.self.now.spare ≡ c.in_ok-spare.spare + 1 = search rules in
    let few : c.in_ok-spare.spare ≤ 2 ^ 62 = omega (arith, left, c.args.self.now.few) in
    record {
      long = c.count_after.auto.table ∙ t.long;
      few = few;
      counted = ap (counts_to (2 ^ 62 - c.in_ok-spare.spare + 1)) c.count_after.ensures
          ∙ subst (λ n. counts_to n (counted_after (is_forward c.kind.result) (counts_of t)) ≡ true)
          (one_less t.spare c.in_ok-spare.spare (c.switch-2.ensures.spare ∙ c.switch.ensures.spare ∙ left) t.few)
          (counts_to_after (2 ^ 62 - t.spare + 1) (is_forward c.kind.result) (counts_of t) t.counted);
    }
