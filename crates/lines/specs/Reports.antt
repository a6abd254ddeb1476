-- What is told of a net's settings in lines, and the rule by which exchanges are told. Assumes nothing.
use Rattle.std.specs.Prelude.{ℕ, ◌+◌, ◌-◌, ◌/◌, ◌^◌, min, cond, List, [], ◌++◌, length}
use Rattle.net.specs.Nets.{Net}
use Rattle.net.specs.Settings.{Setting}
use Rattle.survey.specs.Surveys.{start_setting}
use Rattle.trees.specs.Listings.{Exchanged, exchanged, reached_by, told_after, told}
use Rattle.lines.specs.Texts.{line_of, text_from, total_line}

-- How many settings were told, the setting reached, the text written and not yet cleared, and the bytes that there is room for.
pub record Report : Type 0 where
  pub settings : ℕ
  pub setting : Setting
  pub text : List ℕ
  pub room : ℕ

-- This setting is the first that is told; nothing is written.
abbrev pub first_report : Setting → ℕ → Report
first_report T room = record { settings = 1; setting = T; text = []; room = room }

-- Bytes are written behind the text.
abbrev pub appended : Report → List ℕ → Report
appended p bytes = record { settings = p.settings; setting = p.setting; text = p.text ++ bytes; room = p.room }

-- The line of the setting reached is written.
abbrev pub lined : Report → Report
lined p = appended p (line_of p.settings p.setting)

-- The number of settings told is written.
abbrev pub totalled : Report → Report
totalled p = appended p (total_line p.settings)

-- Nothing is written any more.
abbrev pub cleared : Report → Report
cleared p = record { settings = p.settings; setting = p.setting; text = []; room = p.room }

-- Another setting is reached.
abbrev pub reaching : Report → Setting → Report
reaching p T = record { settings = p.settings; setting = T; text = p.text; room = p.room }

-- The setting reached is told as the next: one setting more, and its line is written.
abbrev pub next_told : Report → Report
next_told p = lined (record { settings = p.settings + 1; setting = p.setting; text = p.text; room = p.room })

-- The rule: an exchange reaches its setting, and a forward exchange tells it.
abbrev pub reported : Report → Exchanged → Report
reported p x = cond x.0 (next_told (reaching p (exchanged p.setting x))) (reaching p (exchanged p.setting x))

-- With nothing written, so many exchanges are taken: 201 bytes each, and the number of settings stays below 2^64.
abbrev pub most_spare : ℕ → ℕ → ℕ
most_spare room settings = min (room / 201) (2 ^ 64 - 1 - settings)

-- Exchanges told from a report on: their settings, numbered on, are written behind the text.
abbrev pub told_on : Report → List Exchanged → Report
told_on p xs = record {
  settings = p.settings + length (told_after p.setting xs);
  setting = reached_by p.setting xs;
  text = p.text ++ text_from (p.settings + 1) (told_after p.setting xs);
  room = p.room;
}

-- Exchanges of a net told from the start on: all settings told so far, numbered from 1.
abbrev pub told_report : Net → ℕ → List Exchanged → Report
told_report net room xs = record {
  settings = length (told net xs);
  setting = reached_by (start_setting net) xs;
  text = text_from 1 (told net xs);
  room = room;
}
