-- The law of a run: any list of calls on a new walk of a net. Assumes nothing.
use Rattle.std.specs.Prelude.{◌≡◌, ℕ, ◌+◌, ◌-◌, min, true, List, [], ◌∷◌, ◌++◌, length, take, Some, vec_items, fold, Result, MatchResult}
use Rattle.faults.specs.declared.Fault.{Fault}
use Rattle.faults.specs.declared.BoardFault.{BoardFault}
use Rattle.net.specs.Nets.{Net}
use Rattle.survey.specs.declared.surveyed.Surveyed.{Surveyed}
use Rattle.survey.specs.Surveys.{start_setting}
use Rattle.survey.specs.Answers.{Surveys}
use Rattle.trees.specs.Listings.{Exchanged, listing, reached_by, told}
use Rattle.walk.specs.declared.answers.Advance.{Advance}
use Rattle.walk.specs.declared.answers.Look.{Look}
use Rattle.walk.specs.Told.{Unbroken, Complete}
use Rattle.flood.specs.Rows.{Presents}
use Rattle.walk.specs.Calls.{word_of}
use Rattle.runs.specs.declared.calls.Call.{Call}
use Rattle.runs.specs.declared.calls.Call.TheVariants.{Advance as Advancing, Look as Looking, Present as Presenting}

-- A collector goes from c to c' by taking exactly these exchanges, in order: the sum moves by the rule, the spare falls by their number.
pub record Takes {C Sum : Type 0} (sum : C → Sum) (spare : C → ℕ) (rule : Sum → Exchanged → Sum) (c : C) (xs : List Exchanged) (c' : C) : Type 0 where
  pub moved : sum c' ≡ fold rule (sum c) xs
  pub used : spare c ≡ spare c' + length xs

-- An advance hands on xs after those handed on before: the least of allowance, spare and exchanges left; and says how it ended.
pub record HandsOn (net : Net) (before xs : List Exchanged) (allowance spare : ℕ) (r : Advance) : Type 0 where
  pub count : r.count ≡ length xs
  pub least : length xs ≡ min allowance (min spare (length (listing net) - length before))
  pub word : r.word ≡ word_of (length (listing net) - length (before ++ xs)) (length xs) spare

-- A look answers the number of settings and of exchanges told, and finished exactly when none is left; then every radial setting was told, exactly once.
pub record Sees (net : Net) (before : List Exchanged) (r : Look) : Type 0 where
  pub settings : r.settings ≡ length (told net before)
  pub exchanges : r.exchanges ≡ length before
  pub finished : r.finished ≡ true → before ≡ listing net
  pub all_told : before ≡ listing net → r.finished ≡ true
  pub complete : r.finished ≡ true → Complete net (told net before)

-- A present shows the setting reached in a row of one byte a link; another row is refused and stays.
abbrev pub Shows : Net → List Exchanged → List ℕ → Result (Unit {0}) BoardFault → List ℕ → Type 0
Shows net before row r row' = Presents net (reached_by (start_setting net) before) row r row'

module _ {C Sum : Type 0} (sum : C → Sum) (spare : C → ℕ) (rule : Sum → Exchanged → Sum) (net : Net) where
  -- A call, and the same call answered, after those handed on before; and the exchanges that it handed on.
  pub data Answered (before : List Exchanged) : Call C → Call C → List Exchanged → Type 0 where
    advanced : {a : ℕ} {c c' : C} {o : _} {r : Advance} {xs : List Exchanged} → Takes sum spare rule c xs c' → HandsOn net before xs a (spare c) r
        → Answered before (Advancing a c o) (Advancing a c' (Some r)) xs
    looked : {o : _} {r : Look} → Sees net before r → Answered before (Looking o) (Looking (Some r)) []
    presented : {row row' : _} {o : _} {r : Result (Unit {0}) BoardFault} → Shows net before (vec_items row) r (vec_items row')
        → Answered before (Presenting row o) (Presenting row' (Some r)) []

  -- Calls made one after another, and all exchanges handed on, joined in the order of the calls.
  pub data Ran : List (Call C) → List (Call C) → List Exchanged → Type 0 where
    none : Ran [] [] []
    then : {calls answers : List (Call C)} {call answer : Call C} {before xs : List Exchanged} → Ran calls answers before → Answered before call answer xs
        → Ran (calls ++ (call ∷ [])) (answers ++ (answer ∷ [])) (before ++ xs)

  -- The law: each call is answered as it must be; what was handed on are the listing's first exchanges; the settings told are radial, in the listing order and without a gap.
  pub record Lawful (calls answers : List (Call C)) : Type 0 where
    pub handed : List Exchanged
    pub ran : Ran calls answers handed
    pub first_ones : handed ≡ take (length handed) (listing net)
    pub unbroken : Unbroken net (told net handed)
    pub complete : handed ≡ listing net → Complete net (told net handed)

  -- The survey answers; the law holds of the calls, or they were refused with the net and stay as they are.
  pub record Runs (r : Result Surveyed Fault) (calls answers : List (Call C)) : Type 0 where
    pub surveyed : Surveys net r
    pub law : MatchResult r (λ _. Lawful calls answers) (λ _. answers ≡ calls)
