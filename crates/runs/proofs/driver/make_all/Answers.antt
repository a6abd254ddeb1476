use Rattle.std.proofs.Common.{◌≤◌, [], length, get_or, sym, refl, ◌∙◌, subst, arith}
use Rattle.survey.specs.Answers.{net_of}
use Rattle.survey.proofs.Whole.{surveyed_fits, surveyed_reached}
use Rattle.trees.specs.Listings.{listing}
use Rattle.walk.specs.Calls.{handed_on}
use Rattle.walk.specs.Walks.{handed_by}
use Rattle.walk.proofs.Answered.{handed_within}
use Rattle.runs.specs.Runs.{Answered, Ran, none, Lawful}
use Rattle.runs.proofs.Made.{stretch}
use Rattle.runs.proofs.Gone.{ran_more, rest_more, ran_all}
use Rattle.runs.proofs.driver.make_all.Goals as goal

pub loop-call-init : goal.loop-call-init
loop-call-init g c =
    let K = g.C.Collector in
    let net = net_of c.args.site.now in
    (c.new-walk.ensures.net, subst (λ n. Ran K.sum K.spare K.rule net [] [] (handed_on net n)) (sym c.new-walk.ensures.new) none, refl)

pub loop-call-preserved : goal.loop-call-preserved
loop-call-preserved g c =
    let K = g.C.Collector in
    let net = net_of c.args.site.now in
    let inv = c.loop-call.invariant in
    let n = handed_by c.loop-call.walk in
    let n' = handed_by c.make.new.walk in (
      c.make.ensures.net ∙ inv.0,
      ran_more K.sum K.spare K.rule net n n' c.loop-call.call-index c.args.calls.now c.loop-call.calls c.call-item.result c.make.new.call
          c.make.ensures.on (omega arith) inv.2 inv.1
          (subst (λ m. Answered K.sum K.spare K.rule m (handed_on m n) (get_or c.loop-call.calls c.loop-call.call-index c.call-item.result) c.make.new.call (stretch m n n')) inv.0 c.make.ensures.answered),
      rest_more c.args.calls.now c.loop-call.calls c.loop-call.call-index c.make.new.call inv.2,
    )

pub returns : goal.returns
returns g c net e =
    let K = g.C.Collector in
    let site = c.args.site.now in
    let w = c.loop-call.walk in
    let inv = c.loop-call.invariant in
    let within : handed_by w ≤ length (listing (net_of site)) = subst (λ m. handed_by w ≤ length (listing m)) inv.0 (handed_within w) in
    subst (λ m. Lawful K.sum K.spare K.rule m c.args.calls.now c.loop-call.calls) e
    (ran_all K.sum K.spare K.rule (net_of site) (surveyed_fits site) (surveyed_reached site) (handed_by w) c.loop-call.call-index c.args.calls.now c.loop-call.calls
    within (omega arith) (omega arith) inv.1)
