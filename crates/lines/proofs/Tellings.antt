-- Exchanges told one after another.
use Rattle.std.proofs.Common.{◌≡◌, ℕ, ◌+◌, true, false, List, [], ◌∷◌, fold, sym, refl, ap, ◌∙◌, append_assoc, arith}
use Rattle.std.proofs.lemmas.List.{append-nil}
use Rattle.net.specs.Nets.{Net}
use Rattle.net.specs.Settings.{Setting}
use Rattle.survey.specs.Surveys.{start_setting}
use Rattle.trees.specs.Listings.{Exchanged, exchanged, told_after}
use Rattle.lines.specs.Texts.{line_of, text_from}
use Rattle.lines.specs.Reports.{Report, first_report, lined, reaching, next_told, reported, told_on, told_report}

same_report : {n n' : ℕ} {T : Setting} {t t' : List ℕ} {r : ℕ} → n ≡ n' → t ≡ t'
    → ◌≡◌ {A = Report} (record { settings = n; setting = T; text = t; room = r }) (record { settings = n'; setting = T; text = t'; room = r })
same_report e q = cc

-- the settings that exchanges tell are written behind the text
pub fold_reported : (p : Report) (xs : List Exchanged) → fold reported p xs ≡ told_on p xs
fold_reported p [] = same_report (omega arith) (sym (append-nil p.text))
fold_reported p ((true, x) ∷ xs) =
    let T = exchanged p.setting (true, x) in
    fold_reported (next_told (reaching p T)) xs
    ∙ same_report (omega arith) (append_assoc p.text (line_of (p.settings + 1) T) (text_from (p.settings + 1 + 1) (told_after T xs)))
fold_reported p ((false, x) ∷ xs) = fold_reported (reaching p (exchanged p.setting (false, x))) xs

-- from the start on, all settings told
pub told_start : (net : Net) (room : ℕ) (xs : List Exchanged) → fold reported (lined (first_report (start_setting net) room)) xs ≡ told_report net room xs
told_start net room xs = fold_reported (lined (first_report (start_setting net) room)) xs ∙ same_report (omega arith) refl

pub told_from : (net : Net) (room : ℕ) (p : Report) → p ≡ first_report (start_setting net) room → (xs : List Exchanged) → fold reported (lined p) xs ≡ told_report net room xs
told_from net room p e xs = ap (λ q. fold reported (lined q) xs) e ∙ told_start net room xs
