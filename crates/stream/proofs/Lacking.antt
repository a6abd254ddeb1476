-- Bytes at whose front no record stands, and why.
use Rattle.std.proofs.Common.{ℕ, ◌≤◌, List, [], ◌∷◌, length, get_or, ap, inl, inr, arith}
use Rattle.stream.specs.Records.{N, S, F, B, Z}
use Rattle.stream.specs.Fronts.{Cut, Stands, FrontIs}
use Rattle.stream.proofs.Parts.{Short, Letter}
use Rattle.stream.proofs.Decoding.{front_is}

-- the first byte is the letter of a kind whose body is not whole
cut_by : (b : ℕ) (after : List ℕ) → Short (b ∷ after) → Letter b → Stands (b ∷ after) Cut
cut_by b after short (inl e) = (N 0 0, ap (λ x. x ∷ []) e, short.net e)
cut_by b after short (inr (inl e)) = (S 0, ap (λ x. x ∷ []) e, short.start e)
cut_by b after short (inr (inr (inl e))) = (F 0 0, ap (λ x. x ∷ []) e, short.forward e)
cut_by b after short (inr (inr (inr (inl e)))) = (B 0 0, ap (λ x. x ∷ []) e, short.back e)
cut_by b after short (inr (inr (inr (inr e)))) = (Z 0, ap (λ x. x ∷ []) e, short.end e)

pub cut_stands : (bytes : List ℕ) → 1 ≤ length bytes → Short bytes → Letter (get_or bytes 0 0) → FrontIs bytes Cut
cut_stands [] h short l = absurd (omega arith)
cut_stands (b ∷ after) h short l = front_is (b ∷ after) Cut (cut_by b after short l)
