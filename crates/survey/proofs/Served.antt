-- Links that have ends, and links in service.
use Rattle.std.proofs.Common.{◌≡◌, ℕ, is_some, Some, None, Decides, Option, sym, refl}
use Rattle.net.specs.Nets.{Net, ends_of, forth, InService}
use Rattle.net.proofs.Links.{out_of_service}
use Rattle.net.proofs.Settings.{not_both}

-- a link with ends is in service
pub ends_tell : (net : Net) (l : ℕ) (o : Option (ℕ × ℕ)) → o ≡ ends_of net l → Decides (is_some o) (InService net l)
ends_tell net l None e = (λ h. absurd (not_both h refl), λ (a, b, j). absurd (out_of_service net (sym e) j))
ends_tell net l (Some (a, b)) e = (λ _. (a, b, forth (sym e)), λ _. refl)
