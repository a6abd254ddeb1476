use Rattle.std.proofs.Common.{◌∙◌, arith}
use Rattle.std.proofs.lemmas.List.{length-set}
use Rattle.survey.proofs.Rows.{add_room, add_last, add_inside, add_once, add_tied}
use Rattle.survey.proofs.ranking.Ranking.add.Goals as goal

pub bounds-self-at : goal.bounds-self-at
bounds-self-at g c = add_room c.args.self.now c.args.x (c.requires.low, c.requires.high) c.requires.new

pub overflow_add-self-2 : goal.overflow_add-self-2
overflow_add-self-2 g c = let r = c.args.self.now in omega (arith, r.few, add_room r c.args.x (c.requires.low, c.requires.high) c.requires.new)

pub invariant_of-self : goal.invariant_of-self
invariant_of-self g c =
    let r = c.args.self.now in
    let x = c.args.x in
    let lt = add_room r x (c.requires.low, c.requires.high) c.requires.new in record { few = r.few; long = length-set r.items r.count x ∙ r.long; within = omega arith; inside = add_inside r x (c.requires.low, c.requires.high) c.requires.new; once = add_once r x (c.requires.low, c.requires.high) c.requires.new; tied = add_tied r x (c.requires.low, c.requires.high) c.requires.new }

pub returns : goal.returns
returns g c = add_last c.args.self.now c.args.x (c.requires.low, c.requires.high) c.requires.new
