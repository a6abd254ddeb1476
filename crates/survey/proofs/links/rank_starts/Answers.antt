use Rattle.std.proofs.Common.{◌≡◌, ◌<◌, [], ◌∷◌, ◌++◌, length, get_or, take, sym, ap, ◌∙◌, arith}
use Rattle.std.proofs.ByRecursion.{All-get_or}
use Rattle.std.proofs.lemmas.List.{take_more, take_all}
use Rattle.survey.specs.Ranks.{rank_in}
use Rattle.survey.specs.Listed.{listed}
use Rattle.survey.specs.Tables.{toured}
use Rattle.survey.proofs.Marked.{Within}
use Rattle.survey.proofs.Rows.{range_within, distinct_once}
use Rattle.survey.proofs.Filled.{next_fresh}
use Rattle.survey.proofs.links.rank_starts.Goals as goal

pub add-requires : goal.add-requires
add-requires c =
    let xs = (toured c.args.tour.now).starts in
    let k = c.loop-link.link-index in
    let lt : k < length xs = rw c.starts-link-items.ensures at c.loop-link-test.true in
    let e : get_or c.starts-link-items.result.now k 0 ≡ get_or xs k 0 = ap (λ ys. get_or ys k 0) c.starts-link-items.ensures in
    let w = All-get_or (Within 60) xs k 0 lt (range_within 60 xs c.requires.inside) in (
      omega arith,
      (
        omega (arith, e, w),
        (
          omega (arith, e, w),
          ap (rank_in (listed c.loop-link.links)) e ∙ ap (λ ys. rank_in ys (get_or xs k 0)) c.loop-link.invariant ∙ next_fresh xs k (distinct_once xs c.requires.once) lt,
        ),
      ),
    )

pub loop-link-preserved : goal.loop-link-preserved
loop-link-preserved c =
    let xs = (toured c.args.tour.now).starts in
    let k = c.loop-link.link-index in
    let lt : k < length xs = rw c.starts-link-items.ensures at c.loop-link-test.true in
    let e : get_or c.starts-link-items.result.now k 0 ≡ get_or xs k 0 = ap (λ ys. get_or ys k 0) c.starts-link-items.ensures in
    c.add.ensures ∙ ap (λ ys. ys ++ get_or c.starts-link-items.result.now k 0 ∷ []) c.loop-link.invariant ∙ ap (λ x. take k xs ++ x ∷ []) e
    ∙ sym (take_more xs k 0 lt)

pub returns : goal.returns
returns c =
    let xs = (toured c.args.tour.now).starts in
    c.loop-link.invariant ∙ take_all c.loop-link.link-index xs (omega (arith, ap length c.starts-link-items.ensures))
