-- Bytes have at most one reading.
use Rattle.std.proofs.Common.{◌≡◌, ℕ, zero, suc, ◌≢◌, ◌⊎◌, List, [], ◌∷◌, ◌++◌, length, Some, None, decimal, Option, sym, refl, ap, ◌∙◌, ap₂, inl, inr, append_assoc, append-nil, arith}
use Rattle.std.specs.List.{All}
use Rattle.std.proofs.lemmas.List.Elements.{All-head, All-tail}
use Rattle.std.proofs.lemmas.Fmt.{decimal_injective}
use Rattle.text.specs.Form.{InText, LinkInText, words_of_bars, words_of_link, line, text_of, InForm, NoBarsLine, NoLinkLine, FormEnds, BadLine, OneReading}
use Rattle.text.proofs.Cut.{free_decimal, same_cut}
use Rattle.text.proofs.LineEnds.{line_joined, free_bars, free_link, same_words}
use Rattle.text.proofs.LinkRows.{link_lines, line_length}

same_number : (m n : ℕ) → InText m → InText n → decimal m ≡ decimal n → m ≡ n
same_number m n p q e = decimal_injective m n (omega arith) (omega arith) e

same_bars_words : (m n : ℕ) → InText m → InText n → words_of_bars m ≡ words_of_bars n → m ≡ n
same_bars_words m n p q e = let d : decimal m ≡ decimal n = cc in same_number m n p q d

same_link_words : (l k : Option (ℕ × ℕ)) → LinkInText l → LinkInText k → words_of_link l ≡ words_of_link k → l ≡ k
same_link_words None None p q e = refl
same_link_words None (Some (a, b)) p q e = let z : ◌≡◌ {A = ℕ} 111 108 = cc in absurd (omega arith)
same_link_words (Some (a, b)) None p q e = let z : ◌≡◌ {A = ℕ} 111 108 = cc in absurd (omega arith)
same_link_words (Some (a, b)) (Some (x, y)) (pa, pb) (qx, qy) e =
    let d : decimal a ++ 32 ∷ decimal b ≡ decimal x ++ 32 ∷ decimal y = cc in
    let (u, v) = same_cut 32 (decimal a) (decimal x) (decimal b) (decimal y) (free_decimal 32 a (omega arith) (inl (omega arith))) (free_decimal 32 x (omega arith) (inl (omega arith))) d in
    ap₂ (λ m n. Some (m, n)) (same_number a x pa qx u) (same_number b y pb qy v)

-- a line and what follows it
same_bars_line : (m n : ℕ) (x y : List ℕ) → InText m → InText n → line (words_of_bars m) ++ x ≡ line (words_of_bars n) ++ y → (m ≡ n) × (x ≡ y)
same_bars_line m n x y p q e =
    let (w, r) = same_words (line (words_of_bars m) ++ x) (words_of_bars m) x (words_of_bars n) y (free_bars m p) (free_bars n q) (line_joined (words_of_bars m) x) e in
    (same_bars_words m n p q w, r)

same_link_line : (l k : Option (ℕ × ℕ)) (x y : List ℕ) → LinkInText l → LinkInText k → line (words_of_link l) ++ x ≡ line (words_of_link k) ++ y → (l ≡ k) × (x ≡ y)
same_link_line l k x y p q e =
    let (w, r) = same_words (line (words_of_link l) ++ x) (words_of_link l) x (words_of_link k) y (free_link l p) (free_link k q) (line_joined (words_of_link l) x) e in
    (same_link_words l k p q w, r)

-- no more lines of links follow
abbrev Ended : List ℕ → Type 0
Ended x = (x ≡ []) ⊎ NoLinkLine x

goes_on : (l : Option (ℕ × ℕ)) (ls : List (Option (ℕ × ℕ))) (x y : List ℕ) → LinkInText l → Ended x → x ≢ link_lines (l ∷ ls) ++ y
goes_on l ls x y p (inl z) e = let q = ap length (sym z ∙ e ∙ append_assoc (line (words_of_link l)) (link_lines ls) y) in omega (arith, line_length l (link_lines ls ++ y))
goes_on l ls x y p (inr none) e = none l (link_lines ls ++ y) p (e ∙ append_assoc (line (words_of_link l)) (link_lines ls) y)

same_links : (ls ks : List (Option (ℕ × ℕ))) (x y : List ℕ) → All LinkInText ls → All LinkInText ks → Ended x → Ended y
    → link_lines ls ++ x ≡ link_lines ks ++ y → (ls ≡ ks) × (x ≡ y)
same_links [] [] x y p q u v e = (refl, e)
same_links [] (k ∷ ks) x y p q u v e = absurd (goes_on k ks x y (All-head LinkInText k ks q) u e)
same_links (l ∷ ls) [] x y p q u v e = absurd (goes_on l ls y x (All-head LinkInText l ls p) v (sym e))
same_links (l ∷ ls) (k ∷ ks) x y p q u v e =
    let (a, r) = same_link_line l k (link_lines ls ++ x) (link_lines ks ++ y) (All-head LinkInText l ls p) (All-head LinkInText k ks q)
    (sym (append_assoc (line (words_of_link l)) (link_lines ls) x) ∙ e ∙ append_assoc (line (words_of_link k)) (link_lines ks) y) in
    let (b, s) = same_links ls ks x y (All-tail LinkInText l ls p) (All-tail LinkInText k ks q) u v r in
    (ap₂ (λ h t. h ∷ t) a b, s)

-- bytes that begin with a text, after which no more lines of links follow
record Begun (bytes : List ℕ) (n : ℕ) (ls : List (Option (ℕ × ℕ))) (rest : List ℕ) : Type 0 where
  bars_fit : InText n
  links_fit : All LinkInText ls
  parts : bytes ≡ text_of n ls ++ rest
  ended : Ended rest

same_begun : (bytes : List ℕ) (m n : ℕ) (ls ks : List (Option (ℕ × ℕ))) (x y : List ℕ) → Begun bytes m ls x → Begun bytes n ks y → (m ≡ n) × (ls ≡ ks) × (x ≡ y)
same_begun bytes m n ls ks x y p q =
    let e = sym (append_assoc (line (words_of_bars m)) (link_lines ls) x) ∙ sym p.parts ∙ q.parts ∙ append_assoc (line (words_of_bars n)) (link_lines ks) y in
    let (a, r) = same_bars_line m n (link_lines ls ++ x) (link_lines ks ++ y) p.bars_fit q.bars_fit e in
    let (b, s) = same_links ls ks x y p.links_fit q.links_fit p.ended q.ended r in
    (a, b, s)

begun_form : (bytes : List ℕ) (n : ℕ) (ls : List (Option (ℕ × ℕ))) → InForm bytes n ls → Begun bytes n ls []
begun_form bytes n ls f = record { bars_fit = f.bars_fit; links_fit = f.links_fit; parts = f.is_text ∙ sym (append-nil (text_of n ls)); ended = inl refl }

begun_ends : (bytes : List ℕ) (k : ℕ) (f : FormEnds bytes k) → Begun bytes f.bars f.links f.rest
begun_ends bytes k f = record {
  bars_fit = f.in_form.bars_fit;
  links_fit = f.in_form.links_fit;
  parts = f.parts ∙ ap (λ xs. xs ++ f.rest) f.in_form.is_text;
  ended = inr f.no_link;
}

-- what begins with a text begins with its first line
begun_bars : (bytes : List ℕ) (n : ℕ) (ls : List (Option (ℕ × ℕ))) (rest : List ℕ) → Begun bytes n ls rest → ¬ NoBarsLine bytes
begun_bars bytes n ls rest b none = none n (link_lines ls ++ rest) b.bars_fit (b.parts ∙ append_assoc (line (words_of_bars n)) (link_lines ls) rest)

pub one_reading : (bytes : List ℕ) → OneReading bytes
one_reading bytes = record { one_net = one_net; not_both = not_both; one_line = one_line }
  where
    one_net : (m n : ℕ) (ls ks : List (Option (ℕ × ℕ))) → InForm bytes m ls → InForm bytes n ks → (m ≡ n) × (ls ≡ ks)
    one_net m n ls ks p q = let (a, b, _) = same_begun bytes m n ls ks [] [] (begun_form bytes m ls p) (begun_form bytes n ks q) in (a, b)

    not_both : (n : ℕ) (ls : List (Option (ℕ × ℕ))) (l : ℕ) → InForm bytes n ls → ¬ BadLine bytes l
    not_both n ls zero p bad = bad
    not_both n ls (suc zero) p bad = begun_bars bytes n ls [] (begun_form bytes n ls p) bad
    not_both n ls (suc (suc k)) p bad =
        let (_, _, r) = same_begun bytes n bad.bars ls bad.links [] bad.rest (begun_form bytes n ls p) (begun_ends bytes k bad) in
        bad.more (sym r)

    one_line : (l k : ℕ) → BadLine bytes l → BadLine bytes k → l ≡ k
    one_line zero k p q = absurd p
    one_line (suc zero) zero p q = absurd q
    one_line (suc zero) (suc zero) p q = refl
    one_line (suc zero) (suc (suc k)) p q = absurd (begun_bars bytes q.bars q.links q.rest (begun_ends bytes k q) p)
    one_line (suc (suc l)) zero p q = absurd q
    one_line (suc (suc l)) (suc zero) p q = absurd (begun_bars bytes p.bars p.links p.rest (begun_ends bytes l p) q)
    one_line (suc (suc l)) (suc (suc k)) p q =
        let (_, b, _) = same_begun bytes p.bars q.bars p.links q.links p.rest q.rest (begun_ends bytes l p) (begun_ends bytes k q) in
        let c = p.count in
        let d = q.count in
        omega (arith, ap length b)
