-- Entries that may not stand where a player stands.
use Rattle.std.proofs.Common.{◌≡◌, ℕ, refl, subst}
use Rattle.stream.specs.declared.bodies.Entry.{Entry}
use Rattle.stream.specs.declared.bodies.Entry.TheVariants.{Net, Start, Forward, Back, End}
use Rattle.stream.specs.Records.{Record}
use Rattle.stream.specs.Bodies.{record_of}
use Rattle.replay.specs.declared.player.Starts.{Starts}
use Rattle.replay.specs.declared.player.Course.{Course}
use Rattle.replay.specs.declared.player.Replayed.{Replayed}
use Rattle.replay.specs.declared.player.Player.{Player}
use Rattle.replay.specs.declared.player.Player.TheVariants.{Ended}
use Rattle.replay.specs.Places.{unopened}
use Rattle.replay.specs.Refusals.{MayStand}
use Rattle.replay.specs.Players.{starts_place, course_place, place_of}

pub not_first : (e : Entry) → ((bars links : ℕ) → e ≡ Net bars links → ⊥) → ¬ MayStand unopened (record_of e)
not_first (Net bars links) other may = other bars links refl
not_first (Start l) other may = may
not_first (Forward out into) other may = may
not_first (Back out into) other may = may
not_first (End n) other may = may

pub not_start : (s : Starts) (e : Entry) → ((l : ℕ) → e ≡ Start l → ⊥) → ¬ MayStand (starts_place s) (record_of e)
not_start s (Net bars links) other may = may
not_start s (Start l) other may = other l refl
not_start s (Forward out into) other may = may
not_start s (Back out into) other may = may
not_start s (End n) other may = may

pub not_walking : (c : Course) (e : Entry) → ((out into : ℕ) → e ≡ Forward out into → ⊥) → ((out into : ℕ) → e ≡ Back out into → ⊥) → ((n : ℕ) → e ≡ End n → ⊥) → ¬ MayStand (course_place c) (record_of e)
not_walking c (Net bars links) f b z may = may
not_walking c (Start l) f b z may = may
not_walking c (Forward out into) f b z may = f out into refl
not_walking c (Back out into) f b z may = b out into refl
not_walking c (End n) f b z may = z n refl

pub not_ended : (p : Player) (e : Replayed) (r : Record) → p ≡ Ended e → ¬ MayStand (place_of p) r
not_ended p e r is may = subst (λ q. MayStand (place_of q) r) is may
