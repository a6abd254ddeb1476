use Rattle.std.proofs.Common.{sym, ◌∙◌, arith}
use Rattle.std.proofs.lemmas.Bool.{eqb-true}
use Rattle.search.proofs.Held.{search_fits, search_reached}
use Rattle.walk.specs.Calls.{left_after}
use Rattle.walk.specs.Walks.{net_of_walk, handed_by}
use Rattle.walk.proofs.Prefixes.{told_unbroken, told_complete}
use Rattle.walk.proofs.state.Walk.look.Goals as goal

pub returns : goal.returns
returns c =
    let w = c.args.self.now in
    let s = w.cursor.search in
    record {
      answer = record { settings = c.settings_told.ensures; exchanges = c.exchanges_told.ensures; finished = c.is_finished.ensures };
      unbroken = told_unbroken (net_of_walk w) (search_fits s) (search_reached s) (handed_by w);
      complete = λ e. told_complete (net_of_walk w) (search_fits s) (search_reached s) (handed_by w) (omega (arith, eqb-true (left_after (net_of_walk w) (handed_by w)) 0 (sym c.is_finished.ensures ∙ e)));
    }
