-- What `Lines` means, and what its calls do. Assumes nothing.
use Rattle.std.specs.Prelude.{◌≡◌, ℕ, ◌+◌, Result, MatchResult}
use Rattle.faults.specs.declared.CollectorFault.{CollectorFault}
use Rattle.faults.specs.declared.CollectorFault.TheVariants.{Full}
use Rattle.sheets.specs.Sheets.{room_on, bytes_on}
use Rattle.lines.specs.declared.text.Lines.{Lines}
use Rattle.lines.specs.Shown.{setting_shown}
use Rattle.lines.specs.Reports.{Report}

-- What it reports.
abbrev pub report_of : Lines → Report
report_of l = record { settings = l.settings; setting = setting_shown l.shown; text = bytes_on l.sheet; room = room_on l.sheet }

-- How many more exchanges it takes.
abbrev pub spare_of : Lines → ℕ
spare_of l = l.left

-- A call that writes, and so changes the report: with spare left it is granted, and the spare falls by 1. With none it is refused, and nothing changes.
abbrev pub Writes : (Report → Report) → Lines → Result (Unit {0}) CollectorFault → Lines → Type 0
Writes change l r l' = MatchResult r (λ _. (spare_of l ≡ spare_of l' + 1) × (report_of l' ≡ change (report_of l))) (λ f. (f ≡ Full) × (spare_of l ≡ 0) × (spare_of l' ≡ 0) × (report_of l' ≡ report_of l))
