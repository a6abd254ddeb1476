-- How far a replay has come.
use Rattle.std.proofs.Common.{◌≡◌, ℕ, ◌+◌, ◌≤◌, eqb, List, [], ◌∷◌, ◌++◌, length, Ok, Err, Result, sym, refl, ap, ◌∙◌, subst, arith}
use Rattle.std.proofs.lemmas.List.{append-nil, append_assoc, length-append, flat_map_more}
use Rattle.std.proofs.lemmas.Bool.{cond_both}
use Rattle.faults.specs.declared.ReplayFault.{ReplayFault}
use Rattle.faults.specs.declared.ReplayFault.TheVariants.{Misplaced}
use Rattle.net.specs.Nets.{Net}
use Rattle.net.specs.Settings.{Setting}
use Rattle.survey.specs.declared.surveyed.Surveyed.{Surveyed}
use Rattle.survey.specs.Answers.{net_of}
use Rattle.stream.specs.declared.reader.Reader.{Reader}
use Rattle.stream.specs.Records.{Record, record_bytes, records_bytes}
use Rattle.stream.specs.Readers.{rest_of}
use Rattle.replay.specs.declared.player.Player.{Player}
use Rattle.replay.specs.declared.player.Player.TheVariants.{Unopened}
use Rattle.replay.specs.declared.player.Replayed.{Replayed}
use Rattle.replay.specs.Places.{Place, walking, starting, begun, Goes, opens, starts, forward, back, ends, Comes, nothing, then}
use Rattle.replay.specs.Streams.{GoesOn, Stops, too_soon, Refused}
use Rattle.replay.specs.Players.{place_of, site_of_player, shown_at}
use Rattle.replay.specs.Replays.{SteppedTo, Finishes, Plays}

-- the records that were read, and that the player took
pub record Reached (site : Surveyed) (bytes : List ℕ) (p : Player) (d : Reader) : Type 0 where
  pub same_site : site_of_player p ≡ site
  pub records : List Record
  pub come : Comes (net_of site) records (place_of p)
  pub written : bytes ≡ records_bytes records ++ rest_of d
  pub here : d.place ≡ length (records_bytes records)
  pub few : shown_at (place_of p) ≤ d.place

-- a record shows at most one setting more
begun_shown : (net : Net) (T : Setting) (count : ℕ) → shown_at (begun net T count) ≤ 0 + 1
begun_shown net T count = cond_both (eqb (count + 1) net.bars) (walking T T [] 1) (starting T count) (λ q. shown_at q ≤ 0 + 1) (λ _. omega arith) (λ _. omega arith)

pub goes_shown : {net : Net} {p q : Place} {r : Record} → Goes net p r q → shown_at q ≤ shown_at p + 1
goes_shown {net} (opens same-bars same_links) = begun_shown net _ 0
goes_shown {net} (starts served is_open radial) = begun_shown net _ _
goes_shown (forward ne room served is_open on_loop) = omega arith
goes_shown back = omega arith
goes_shown ends = omega arith

module _ (site : Surveyed) (bytes : List ℕ) where
  pub reached_none : (d : Reader) → rest_of d ≡ bytes → d.place ≡ 0 → Reached site bytes (Unopened site) d
  reached_none d all none = record { same_site = refl; records = []; come = nothing; written = sym all; here = none; few = omega arith }

  module _ (p : Player) (d : Reader) (so : Reached site bytes p d) where
    pub reached_more : (q : Player) (d' : Reader) → SteppedTo p d q d' → Reached site bytes q d'
    reached_more q d' to =
        let r = to.read in
        let more : records_bytes so.records ++ record_bytes r ≡ records_bytes (so.records ++ (r ∷ [])) = flat_map_more record_bytes [] so.records r in
        let split = to.front.stands.1 in
        record {
          same_site = to.same_site ∙ so.same_site;
          records = so.records ++ (r ∷ []);
          come = then so.come (subst (λ s. Goes (net_of s) (place_of p) r (place_of q)) so.same_site to.goes);
          written = so.written ∙ ap (λ rest. records_bytes so.records ++ rest) split ∙ sym (append_assoc (records_bytes so.records) (record_bytes r) (rest_of d')) ∙ ap (λ bs. bs ++ rest_of d') more;
          here = omega (arith, so.here, to.on, ap length split, length-append (record_bytes r) (rest_of d'), ap length more, length-append (records_bytes so.records) (record_bytes r));
          few = omega (arith, so.few, goes_shown to.goes, to.on, to.shorter);
        }

    pub reached_stops : (f : ReplayFault) → Stops (net_of (site_of_player p)) d.place (place_of p) (rest_of d) f → Refused (net_of site) bytes f
    reached_stops f stops = record {
      records = so.records;
      place = place_of p;
      rest = rest_of d;
      written = so.written;
      come = so.come;
      stops = subst (λ n. Stops (net_of site) n (place_of p) (rest_of d) f) so.here (subst (λ s. Stops (net_of s) d.place (place_of p) (rest_of d) f) so.same_site stops);
    }

    -- no bytes are left
    module _ (none : rest_of d ≡ []) where
      soon : GoesOn (place_of p) → Refused (net_of site) bytes (Misplaced d.place)
      soon onward = reached_stops (Misplaced d.place) (subst (λ rest. Stops (net_of (site_of_player p)) d.place (place_of p) rest (Misplaced d.place)) (sym none) (too_soon onward))

      pub reached_all : (n : ℕ) → n ≡ d.place → (r : Result Replayed ReplayFault) → Finishes p n r → Plays site bytes r
      reached_all n here (Ok e) (same, place) = record {
        same_site = same ∙ so.same_site;
        accepts = record {
          records = so.records;
          written = so.written ∙ ap (λ rest. records_bytes so.records ++ rest) none ∙ append-nil (records_bytes so.records);
          come = subst (Comes (net_of site) so.records) place so.come;
        };
      }
      reached_all n here (Err f) (onward, fault) = subst (Refused (net_of site) bytes) (sym (fault ∙ ap Misplaced here)) (soon onward)
