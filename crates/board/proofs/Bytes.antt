-- Rows of bytes, read byte by byte.
use Rattle.std.proofs.Common.{◌≡◌, ℕ, suc, ◌+◌, ◌<◌, Bool, List, [], ◌∷◌, ◌++◌, length, get_or, take, sym, ap, ◌∙◌, ap₂, arith}
use Rattle.std.proofs.lemmas.List.{take_more_set, map_more}
use Rattle.net.specs.Nets.{put}
use Rattle.board.specs.Rows.{is_closing_byte, setting_in}

pub read_more : (row : List ℕ) (xs ys : List Bool) (i : ℕ) (c : Bool) → i < length row → i < length xs → take i xs ≡ setting_in (take i row)
    → c ≡ is_closing_byte (get_or row i 0) → ys ≡ put xs (i + 1) c → take (i + 1) ys ≡ setting_in (take (i + 1) row)
read_more row xs ys i c hr hx inv q e =
    let s : i + 1 ≡ suc i = omega arith in
    ap (take (i + 1)) (rw s at e)
    ∙ take_more_set xs i c hx
    ∙ ap₂ (λ T c. T ++ c ∷ []) inv q
    ∙ sym (map_more is_closing_byte row i 0 hr)
