-- Where a search stands: a setting, told by the way down to it from the start setting, and a ceiling of rank. Assumes nothing.
use Rattle.std.specs.Prelude.{◌≡◌, ℕ, suc, ◌<◌, ◌≤◌, Bool, true, false, ◌&&◌, ◌⊎◌, List, [], ◌∷◌, Some, None, Option, nat_le}
use Rattle.net.specs.Nets.{nth, Net}
use Rattle.net.specs.Settings.{Setting}
use Rattle.survey.specs.Surveys.{start_setting, link_order}
use Rattle.trees.specs.Cuts.{swapped}
use Rattle.trees.specs.Rules.{start_link_of, IsStart, Entering}
use Rattle.trees.specs.Listings.{enters}

-- A descent from the start setting: for each exchange the rank of its leaving link and that of its entering link, the latest first.
abbrev pub Descent : Type 0
Descent = List (ℕ × ℕ)

-- The link in service of rank r.
abbrev pub link_at : Net → ℕ → ℕ
link_at net r = nth (link_order net) r 0

-- The two links of a move, by the rank of the leaving link and that of the entering link; none exactly where a rank has no link.
abbrev pub LinksOf : Net → ℕ → ℕ → Option (ℕ × ℕ) → Type 0
LinksOf net k r (Some (e, g)) = (e ≡ start_link_of net k) × (g ≡ link_at net r) × (1 ≤ e) × (1 ≤ g)
LinksOf net k r None = (start_link_of net k ≡ 0) ⊎ (link_at net r ≡ 0)

-- The setting that a descent comes to.
abbrev pub setting_at : Net → Descent → Setting
setting_at net [] = start_setting net
setting_at net ((k, r) ∷ d) = swapped (setting_at net d) (start_link_of net k) (link_at net r)

-- The test that each exchange of a descent goes to a child, and that the ranks of the leaving links fall and are above the ceiling.
abbrev pub descends : Net → Descent → ℕ → Bool
descends net [] k = nat_le (suc k) net.bars
descends net ((j, r) ∷ d) k = nat_le (suc k) j && (enters net (setting_at net d) j (link_at net r) && descends net d j)

-- The link of rank r may enter T for the start link of rank k.
abbrev pub EntersAt : Net → Setting → ℕ → ℕ → Type 0
EntersAt net T k r = IsStart net k × Entering net T k (link_at net r)

-- The rank of the first link above a rank that may enter; none where there is none.
abbrev pub NextEntering : Net → Setting → ℕ → ℕ → Option ℕ → Type 0
NextEntering net T k above (Some r) = (above < r) × EntersAt net T k r × ((q : ℕ) → above < q → q < r → ¬ EntersAt net T k q)
NextEntering net T k above None = (q : ℕ) → above < q → ¬ EntersAt net T k q

-- The move to the child for which the link of rank r enters, and its ceiling one lower; a move that is not there changes nothing.
abbrev pub ToChild : Net → Descent → ℕ → ℕ → Bool → Descent → ℕ → Type 0
ToChild net d k r true d' k' = EntersAt net (setting_at net d) k r × (d' ≡ (k, r) ∷ d) × (k ≡ suc k')
ToChild net d k r false d' k' = (¬ EntersAt net (setting_at net d) k r) × (d' ≡ d) × (k' ≡ k)

-- The move to the next lower ceiling; at 0 it is not there.
abbrev pub ToLower : Descent → ℕ → Bool → Descent → ℕ → Type 0
ToLower d k true d' k' = (d' ≡ d) × (k ≡ suc k')
ToLower d k false d' k' = (d' ≡ d) × (k ≡ 0) × (k' ≡ 0)

-- The move back to the parent, the ceiling at the link that is closed again; at the start setting it is not there.
abbrev pub ToParent : Descent → ℕ → Option (ℕ × ℕ) → Descent → ℕ → Type 0
ToParent d k (Some m) d' k' = (d ≡ m ∷ d') × (k' ≡ m.0)
ToParent d k None d' k' = (d ≡ []) × (d' ≡ []) × (k' ≡ k)

-- The last exchange of a descent.
abbrev pub last_move : Descent → Option (ℕ × ℕ)
last_move [] = None
last_move (m ∷ d) = Some m
