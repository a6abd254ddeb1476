-- What a packer has still to write, after each call.
use Rattle.std.proofs.Common.{◌≡◌, ℕ, ◌+◌, ◌/◌, ◌<◌, ◌≤◌, min, true, false, cond, eqb, ◌≢◌, List, [], ◌∷◌, ◌++◌, map, length, take, drop, is_ok, Ok, Err, fold, Result, sym, refl, ap, ◌∙◌, ap₂, append_assoc, append-nil, arith, length-append}
use mathlib.Core.List.{map-append}
use native.Mathlib.Decide.{dec_le}
use Rattle.std.proofs.lemmas.Bool.{ne_eqb, le-leb, lt-leb}
use Rattle.std.proofs.lemmas.List.{take_all, drop_all, drop-drop, take-append-drop, length-drop}
use Rattle.faults.specs.declared.CollectorFault.{CollectorFault}
use Rattle.net.specs.Nets.{Net}
use Rattle.net.proofs.Settings.{not_both}
use Rattle.trees.specs.Listings.{Exchanged, listing, told}
use Rattle.stream.specs.declared.writer.Writer.{Writer}
use Rattle.stream.specs.Records.{Z, records_bytes, record_of_exchange, exchange_bytes, end_bytes}
use Rattle.stream.specs.Writers.{bytes_of, left_in, written_on, Writes}
use Rattle.walk.specs.Walks.{handed_by}
use Rattle.walk.specs.Calls.{handed_on, left_after}
use Rattle.roundtrip.specs.declared.stage.Stage.{Stage}
use Rattle.roundtrip.specs.declared.packer.Packer.{Packer}
use Rattle.roundtrip.specs.Heads.{head_records}
use Rattle.roundtrip.specs.Packs.{settings_of}
use Rattle.roundtrip.specs.Packers.{net_packed, coming_after, next_after, next_of, Fills}

-- nothing is to come exactly at the last stage
pub done_coming : (net : Net) (stage : Stage) (n : ℕ) → stage ≡ Stage.Done → true ≡ eqb (length (coming_after net stage n)) 0
done_coming net stage n e = ap (λ s. eqb (length (coming_after net s n)) 0) (sym e)

pub not_done_coming : (net : Net) (stage : Stage) (n : ℕ) → stage ≢ Stage.Done → false ≡ eqb (length (coming_after net stage n)) 0
not_done_coming net Stage.Head n ne = sym (ne_eqb (length (coming_after net Stage.Head n)) 0 (λ e. omega arith))
not_done_coming net Stage.Exchanges n ne =
    sym (ne_eqb (length (coming_after net Stage.Exchanges n)) 0 (λ e. omega (arith, length-append (map record_of_exchange (drop n (listing net))) (Z (settings_of net) ∷ []))))
not_done_coming net Stage.End n ne = refl
not_done_coming net Stage.Done n ne = absurd (ne refl)

-- the bytes of exchanges, one after another
pub written_all : (bytes : List ℕ) (xs : List Exchanged) → fold written_on bytes xs ≡ bytes ++ records_bytes (map record_of_exchange xs)
written_all bytes [] = sym (append-nil bytes)
written_all bytes (x ∷ xs) = written_all (bytes ++ exchange_bytes x) xs ∙ append_assoc bytes (exchange_bytes x) (records_bytes (map record_of_exchange xs))

-- a stretch, and what is left
stretched : (net : Net) (n k : ℕ) → map record_of_exchange (drop n (listing net)) ++ (Z (settings_of net) ∷ [])
    ≡ map record_of_exchange (take k (drop n (listing net))) ++ (map record_of_exchange (drop (n + k) (listing net)) ++ (Z (settings_of net) ∷ []))
stretched net n k =
    ap (λ xs. map record_of_exchange xs ++ (Z (settings_of net) ∷ [])) (sym (take-append-drop k (drop n (listing net))))
    ∙ ap (λ rs. rs ++ (Z (settings_of net) ∷ [])) (map-append record_of_exchange (take k (drop n (listing net))) (drop k (drop n (listing net))))
    ∙ append_assoc (map record_of_exchange (take k (drop n (listing net)))) (map record_of_exchange (drop k (drop n (listing net)))) (Z (settings_of net) ∷ [])
    ∙ ap (λ xs. map record_of_exchange (take k (drop n (listing net))) ++ (map record_of_exchange xs ++ (Z (settings_of net) ∷ []))) (drop-drop k n (listing net))

-- taking the least of a number and what is there
take_least : {A : Type 0} (k m : ℕ) (xs : List A) → length xs ≤ m → take (min k m) xs ≡ take k xs
take_least k m xs h = elim (dec_le k m) [
  | yes l ↦ let e : min k m ≡ k = omega arith in ap (λ i. take i xs) e
  | no g ↦ let e : min k m ≡ m = omega arith in ap (λ i. take i xs) e ∙ take_all m xs h ∙ sym (take_all k xs (omega arith))
]

-- the stages of two packers
module _ (w w' : Writer) (p p' : Packer) (same : net_packed p' ≡ net_packed p) where
  filled : (stage stage' : Stage) (n n' : ℕ) → p.stage ≡ stage → p'.stage ≡ stage' → handed_by p.walk ≡ n → handed_by p'.walk ≡ n'
      → bytes_of w' ≡ bytes_of w ++ records_bytes (next_after (net_packed p) stage n (left_in w))
      → coming_after (net_packed p) stage n ≡ next_after (net_packed p) stage n (left_in w) ++ coming_after (net_packed p) stage' n'
      → Fills w p w' p'
  filled stage stage' n n' e e' h h' bytes rest = record {
    net = same;
    written = bytes ∙ ap₂ (λ s k. bytes_of w ++ records_bytes (next_after (net_packed p) s k (left_in w))) (sym e) (sym h);
    rest = ap₂ (λ s k. coming_after (net_packed p) s k) e h ∙ rest
        ∙ ap₂ (λ s k. next_after (net_packed p) s k (left_in w) ++ coming_after (net_packed p) stage' n') (sym e) (sym h)
        ∙ ap (λ rs. next_of p (left_in w) ++ rs) (ap₂ (λ s k. coming_after (net_packed p) s k) (sym e') (sym h') ∙ ap (λ net. coming_after net p'.stage (handed_by p'.walk)) (sym same));
  }

  pub head_filled : p.stage ≡ Stage.Head → p'.stage ≡ Stage.Exchanges → handed_by p.walk ≡ 0 → handed_by p'.walk ≡ 0 → length (records_bytes (head_records (net_packed p))) ≤ left_in w
      → bytes_of w' ≡ bytes_of w ++ records_bytes (head_records (net_packed p)) → Fills w p w' p'
  head_filled e e' h h' fits bytes =
      let t = le-leb (length (records_bytes (head_records (net_packed p)))) (left_in w) fits in
      filled Stage.Head Stage.Exchanges 0 0 e e' h h'
      (bytes ∙ ap (λ b. bytes_of w ++ records_bytes (cond b (head_records (net_packed p)) [])) (sym t))
      (ap (λ b. cond b (head_records (net_packed p)) [] ++ coming_after (net_packed p) Stage.Exchanges 0) (sym t))

  pub head_unfilled : p.stage ≡ Stage.Head → p'.stage ≡ Stage.Head → handed_by p.walk ≡ 0 → handed_by p'.walk ≡ 0 → left_in w < length (records_bytes (head_records (net_packed p)))
      → bytes_of w' ≡ bytes_of w → Fills w p w' p'
  head_unfilled e e' h h' lacks bytes =
      let t = lt-leb (length (records_bytes (head_records (net_packed p)))) (left_in w) lacks in
      filled Stage.Head Stage.Head 0 0 e e' h h'
      (bytes ∙ sym (append-nil (bytes_of w)) ∙ ap (λ b. bytes_of w ++ records_bytes (cond b (head_records (net_packed p)) [])) (sym t))
      (ap (λ b. cond b (head_records (net_packed p)) [] ++ coming_after (net_packed p) Stage.Head 0) (sym t))

  pub exchanges_filled : (stage' : Stage) (n k : ℕ) → p.stage ≡ Stage.Exchanges → p'.stage ≡ stage' → handed_by p.walk ≡ n → handed_by p'.walk ≡ n + k
      → k ≡ min (left_in w / 5) (left_after (net_packed p) n) → bytes_of w' ≡ fold written_on (bytes_of w) (take k (drop n (listing (net_packed p))))
      → coming_after (net_packed p) stage' (n + k) ≡ map record_of_exchange (drop (n + k) (listing (net_packed p))) ++ (Z (settings_of (net_packed p)) ∷ []) → Fills w p w' p'
  exchanges_filled stage' n k e e' h h' least bytes coming =
      let L = listing (net_packed p) in
      let all : take k (drop n L) ≡ take (left_in w / 5) (drop n L) = ap (λ m. take m (drop n L)) least ∙ take_least (left_in w / 5) (left_after (net_packed p) n) (drop n L) (omega (arith, length-drop n L)) in
      filled Stage.Exchanges stage' n (n + k) e e' h h'
      (bytes ∙ written_all (bytes_of w) (take k (drop n L)) ∙ ap (λ xs. bytes_of w ++ records_bytes (map record_of_exchange xs)) all)
      (stretched (net_packed p) n k ∙ ap₂ (λ xs rs. map record_of_exchange xs ++ rs) all (sym coming))

  pub end_filled : (n : ℕ) → p.stage ≡ Stage.End → p'.stage ≡ Stage.Done → handed_by p.walk ≡ n → handed_by p'.walk ≡ n → 9 ≤ left_in w
      → bytes_of w' ≡ bytes_of w ++ end_bytes (settings_of (net_packed p)) → Fills w p w' p'
  end_filled n e e' h h' fits bytes =
      let t = le-leb 9 (left_in w) fits in
      filled Stage.End Stage.Done n n e e' h h'
      (bytes ∙ ap (λ bs. bytes_of w ++ bs) (sym (append-nil (end_bytes (settings_of (net_packed p))))) ∙ ap (λ b. bytes_of w ++ records_bytes (cond b (Z (settings_of (net_packed p)) ∷ []) [])) (sym t))
      (ap (λ b. cond b (Z (settings_of (net_packed p)) ∷ []) [] ++ []) (sym t))

-- the end of the listing
pub over : (net : Net) (n : ℕ) → length (listing net) ≤ n → map record_of_exchange (drop n (listing net)) ++ (Z (settings_of net) ∷ []) ≡ Z (settings_of net) ∷ []
over net n h = ap (λ xs. map record_of_exchange xs ++ (Z (settings_of net) ∷ [])) (drop_all n (listing net) h)

pub all_told : (net : Net) (n : ℕ) → length (listing net) ≤ n → length (told net (handed_on net n)) ≡ settings_of net
all_told net n h = ap (λ xs. length (told net xs)) (take_all n (listing net) h)

-- bytes written, or not
pub put_ok : (bytes : List ℕ) (w w' : Writer) (r : Result (Unit {0}) CollectorFault) → is_ok r ≡ true → Writes bytes w r w' → (length bytes ≤ left_in w) × (bytes_of w' ≡ bytes_of w ++ bytes)
put_ok bytes w w' (Ok u) e (fits, wrote) = (fits, wrote.behind)
put_ok bytes w w' (Err f) e h = absurd (not_both e refl)

pub put_err : (bytes : List ℕ) (w w' : Writer) (r : Result (Unit {0}) CollectorFault) → is_ok r ≡ false → Writes bytes w r w' → (left_in w < length bytes) × (bytes_of w' ≡ bytes_of w)
put_err bytes w w' (Ok u) e h = absurd (not_both refl e)
put_err bytes w w' (Err f) e (_, lacks, same) = (lacks, ap₂ take same.1 same.0)
