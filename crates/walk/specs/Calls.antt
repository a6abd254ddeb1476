-- What the calls on a walk answer, once n exchanges of the listing of a net were handed on. Assumes nothing.
use Rattle.std.specs.Prelude.{◌≡◌, ℕ, ◌+◌, ◌-◌, min, cond, ◌⊎◌, List, length, take, drop, Some, None, Option, fold, ◌==◌}
use Rattle.net.specs.Nets.{Net}
use Rattle.net.specs.Settings.{Setting}
use Rattle.survey.specs.Surveys.{start_setting}
use Rattle.trees.specs.Listings.{Exchanged, listing, reached_by, told}
use Rattle.collectors.specs.declared.exchange.Exchange.{Exchange}
use Rattle.collectors.specs.Exchanges.{said_by}
use Rattle.walk.specs.Rests.{first}
use Rattle.walk.specs.declared.answers.Word.{Word}
use Rattle.walk.specs.declared.answers.Advance.{Advance}
use Rattle.walk.specs.declared.answers.Look.{Look}

-- The first n exchanges of the listing.
abbrev pub handed_on : Net → ℕ → List Exchanged
handed_on net n = take n (listing net)

-- How many are left.
abbrev pub left_after : Net → ℕ → ℕ
left_after net n = length (listing net) - n

-- The setting reached.
abbrev pub reached_after : Net → ℕ → Setting
reached_after net n = reached_by (start_setting net) (handed_on net n)

-- Finished if none is left; else full if as many were handed on as there was spare; else spent.
abbrev pub word_of : ℕ → ℕ → ℕ → Word
word_of left count spare = cond (left == 0) Word.Finished (cond (count == spare) Word.Full Word.Spent)

-- The next exchange is handed on: the sum moves by it, and the spare falls by 1. Where none is left, or no spare, none is and all stays.
abbrev pub HandsOne : {Sum : Type 0} → (Sum → Exchanged → Sum) → Net → ℕ → ℕ → Sum → ℕ → Sum → ℕ → Option Exchange → Type 0
HandsOne rule net n n' sum spare sum' spare' (Some x) = (first (drop n (listing net)) ≡ Some (said_by x)) × (n' ≡ n + 1) × (sum' ≡ rule sum (said_by x)) × (spare ≡ spare' + 1)
HandsOne rule net n n' sum spare sum' spare' None = ((left_after net n ≡ 0) ⊎ (spare ≡ 0)) × (n' ≡ n) × (sum' ≡ sum) × (spare' ≡ spare)

-- An advance hands on the listing's next exchanges, the least of allowance, spare and exchanges left: the sum moves by exactly them, in order, and the spare falls by their number.
pub record Advances {Sum : Type 0} (rule : Sum → Exchanged → Sum) (net : Net) (n n' allowance : ℕ) (sum : Sum) (spare : ℕ) (sum' : Sum) (spare' : ℕ) (r : Advance) : Type 0 where
  pub count : r.count ≡ min allowance (min spare (left_after net n))
  pub word : r.word ≡ word_of (left_after net n') r.count spare
  pub on : n' ≡ n + r.count
  pub moved : sum' ≡ fold rule sum (take r.count (drop n (listing net)))
  pub used : spare ≡ spare' + r.count

-- A look answers the settings told, the exchanges told, and whether none is left.
pub record Looks (net : Net) (n : ℕ) (r : Look) : Type 0 where
  pub settings : r.settings ≡ length (told net (handed_on net n))
  pub exchanges : r.exchanges ≡ n
  pub finished : r.finished ≡ (left_after net n == 0)
