-- What the tables of a search hold: exchanges, and the bars that were fed. Assumes nothing.
use Rattle.std.specs.Prelude.{ℕ, zero, suc, ◌-◌, Bool, List, [], ◌∷◌, map, take, slice_index_or}
use Rattle.std.specs.List.{range_with_len}
use Rattle.net.specs.Nets.{Net}
use Rattle.net.specs.Settings.{Setting, opening}
use Rattle.survey.specs.Surveys.{start_setting}
use Rattle.trees.specs.Rules.{start_link_of}
use Rattle.trees.specs.Listings.{fed}
use Rattle.flood.specs.declared.marks.Marks.{Marks}
use Rattle.flood.specs.Marked.{fed_in}
use Rattle.search.specs.declared.state.Move.{Move}
use Rattle.search.specs.declared.state.Frame.{Frame}
use Rattle.search.specs.Descents.{Descent, setting_at}

-- The first n entries of a table, the last of them first.
abbrev pub stacked : {A : Type 0} → A → List A → ℕ → List A
stacked d xs zero = []
stacked d xs (suc n) = slice_index_or xs n d ∷ stacked d xs n

-- A move as a pair of ranks.
abbrev pub ranks_of : Move → ℕ × ℕ
ranks_of m = (m.leaving, m.entering)

-- The descent of the first n frames of a table.
abbrev pub descent_in : List Frame → ℕ → Descent
descent_in fs n = stacked (0, 0) (map (λ f. ranks_of f.moved) fs) n

-- The bars fed that these frames hold.
abbrev pub feds_in : Net → List Frame → ℕ → List (List Bool)
feds_in net fs n = stacked [] (map (λ f. fed_in net f.fed) fs) n

-- The bars that T feeds without the start link of rank k.
abbrev pub fed_without : Net → Setting → ℕ → List Bool
fed_without net T k = fed net (opening T (start_link_of net k))

-- The bars that are fed without the leaving link, in the setting before each exchange of a descent.
abbrev pub feds_along : Net → Descent → List (List Bool)
feds_along net [] = []
feds_along net ((k, r) ∷ d) = fed_without net (setting_at net d) k ∷ feds_along net d

-- The bars that the start setting feeds without each start link, by rank.
abbrev pub start_feds : Net → List (List Bool)
start_feds net = map (fed_without net (start_setting net)) (range_with_len 1 (net.bars - 1))

-- What a table holds of these.
abbrev pub start_feds_in : Net → List (Marks 32) → List (List Bool)
start_feds_in net ms = map (fed_in net) (take (net.bars - 1) ms)
