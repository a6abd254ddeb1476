-- What becomes of a text: it is read, and the net that it says is surveyed. Assumes nothing.
use Rattle.std.specs.Prelude.{◌≡◌, ℕ, ◌≤◌, ◌⊎◌, List, length, Err, Result}
use Rattle.faults.specs.declared.Fault.{Fault}
use Rattle.net.specs.Nets.{Net}
use Rattle.text.specs.Form.{InForm}
use Rattle.text.specs.Readings.{ReadFault}
use Rattle.survey.specs.declared.surveyed.Surveyed.{Surveyed}
use Rattle.survey.specs.Answers.{Surveys}

-- The bytes are a text of at most 4,096 bytes, and say this net.
pub record Says (bytes : List ℕ) (net : Net) : Type 0 where
  pub short : length bytes ≤ 4096
  pub in_form : InForm bytes net.bars net.links

-- The text is not read, and this is why; or it says a net, and this is what its survey answers.
abbrev pub Takes : List ℕ → ℕ → Result Surveyed Fault → Type 0
Takes bytes room r = ((f : Fault) × (r ≡ Err f) × ReadFault bytes room f) ⊎ ((net : Net) × Says bytes net × Surveys net r)
