use Rattle.std.proofs.Common.{sym, ap, ◌∙◌, ap₂, inl, inr, arith, drop}
use Rattle.trees.specs.Listings.{listing}
use Rattle.walk.specs.Calls.{left_after, word_of}
use Rattle.walk.specs.Rests.{first}
use Rattle.walk.specs.Walks.{net_of_walk, handed_by}
use Rattle.walk.proofs.Answered.{fold_more, one_handed, none_handed, advanced}
use Rattle.walk.proofs.state.Walk.advance.Goals as goal
use Rattle.walk.proofs.state.Walk.advance.Goals.{then-loop-count-test+else-is_some, else-loop-count-test}

pub loop-count-preserved : goal.loop-count-preserved
loop-count-preserved g c =
    let K = g.C.Collector in
    let w = c.args.self.now in
    let v = c.loop-count.self in
    let inv = c.loop-count.invariant in
    let (x, next, on, moved, used) = one_handed K.rule (net_of_walk v) (handed_by v) (handed_by c.hand_on.new.self) (K.sum c.loop-count.collector) (K.spare c.loop-count.collector)
    (K.sum c.hand_on.new.collector) (K.spare c.hand_on.new.collector) c.hand_on.result (sym c.is_some.ensures ∙ c.if-is_some.true) c.hand_on.ensures.handed in (
      c.hand_on.ensures.net ∙ inv.0,
      omega (arith, on, inv.1),
      moved
          ∙ ap (λ s. K.rule s x) inv.2
          ∙ sym (fold_more K.rule (K.sum c.args.collector.now) (listing (net_of_walk w)) (handed_by w) c.loop-count.count x
          (ap₂ (λ k m. first (drop k (listing m))) (sym inv.1) (sym inv.0) ∙ next)),
      omega (arith, used, inv.3),
      omega arith,
    )

pub returns : goal.returns
returns g c =
    let K = g.C.Collector in
    let w = c.args.self.now in
    let v = c.loop-count-test.self in
    let inv = c.loop-count.invariant in
    let word = c.word-word.ensures ∙ ap (word_of (left_after (net_of_walk v) (handed_by v)) c.loop-count.count) c.spare-spare.ensures in
    let all = advanced K.rule w v c.args.allowance (K.sum c.args.collector.now) (K.spare c.args.collector.now) (K.sum c.loop-count-test.collector) (K.spare c.loop-count-test.collector) (record { count = c.loop-count.count; word = c.word-word.result }) in
    elim c.loop-count-test.branch [
      | else-loop-count-test way ↦
          let same = ap net_of_walk way.self-is ∙ inv.0 in
          record {
            net = same;
            advanced = all same (ap handed_by way.self-is ∙ inv.1) (ap K.sum way.collector-is ∙ inv.2) (omega (arith, inv.3, ap K.spare way.collector-is)) inv.4 word (inl way.loop-count-test.false);
          }
      | then-loop-count-test+else-is_some way ↦
          let u = c.loop-count.self in
          let same = ap net_of_walk way.self-is ∙ way.hand_on.ensures.net ∙ inv.0 in
          let (none, on, moved, used) = none_handed K.rule (net_of_walk u) (handed_by u) (handed_by way.hand_on.new.self) (K.sum c.loop-count.collector) (K.spare c.loop-count.collector)
          (K.sum way.hand_on.new.collector) (K.spare way.hand_on.new.collector) way.hand_on.result (sym way.is_some.ensures ∙ way.if-is_some.false) way.hand_on.ensures.handed in
          record {
            net = same;
            advanced = all same (ap handed_by way.self-is ∙ on ∙ inv.1) (ap K.sum way.collector-is ∙ moved ∙ inv.2) (omega (arith, inv.3, used, ap K.spare way.collector-is)) inv.4 word
                (inr (elim none [
                  | inl z ↦ inl (ap₂ left_after (ap net_of_walk way.self-is ∙ way.hand_on.ensures.net) (ap handed_by way.self-is ∙ on) ∙ z)
                  | inr z ↦ inr (ap K.spare way.collector-is ∙ used ∙ z)
                ]));
          }
    ]
