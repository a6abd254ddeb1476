-- Records that take a replay from one place to another.
use Rattle.std.proofs.Common.{List, [], ◌∷◌, ◌++◌, sym, subst, append_assoc, append-nil}
use Rattle.net.specs.Nets.{Net}
use Rattle.stream.specs.Records.{Record}
use Rattle.replay.specs.Places.{Place, Goes, Comes, then}

module _ (net : Net) where
  -- whatever came before
  abbrev pub Through : Place → List Record → Place → Type 0
  Through p rs q = (before : List Record) → Comes net before p → Comes net (before ++ rs) q

  pub through_none : (p : Place) → Through p [] p
  through_none p before c = subst (λ rs. Comes net rs p) (sym (append-nil before)) c

  pub through_one : (p : Place) (r : Record) (q : Place) → Goes net p r q → Through p (r ∷ []) q
  through_one p r q g before c = then c g

  pub through_join : (p q s : Place) (rs rs' : List Record) → Through p rs q → Through q rs' s → Through p (rs ++ rs') s
  through_join p q s rs rs' f g before c = subst (λ xs. Comes net xs s) (append_assoc before rs rs') (g (before ++ rs) (f before c))
