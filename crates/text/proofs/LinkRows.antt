-- The row that is read from the lines of links, line by line.
use Rattle.std.proofs.Common.{◌≡◌, ℕ, zero, suc, ◌+◌, ◌*◌, ◌%◌, ◌<◌, ◌≤◌, List, [], ◌∷◌, ◌++◌, length, Some, None, decimal, Option, sym, refl, ap, ◌∙◌, append_assoc, append-nil, arith}
use Rattle.std.specs.List.{flat_map, All}
use Rattle.std.proofs.lemmas.Grind.{flat_map-append}
use Rattle.std.proofs.lemmas.List.{length-append}
use Rattle.std.proofs.lemmas.List.Elements.{All-nil, All-push}
use Rattle.std.proofs.lemmas.Fmt.{decimal_nonempty}
use Rattle.net.specs.Sources.{pair_of, pairs}
use Rattle.net.proofs.Pairs.{length_pairs, pairs_append}
use Rattle.text.specs.Form.{InText, LinkInText, words_of_bars, words_of_link, line, text_of, NoLinkLine, BadLine}

abbrev pub link_lines : List (Option (ℕ × ℕ)) → List ℕ
link_lines links = flat_map (λ l. line (words_of_link l)) links

-- a line has 4 bytes or more
pub line_length : (link : Option (ℕ × ℕ)) (rest : List ℕ) → length rest + 4 ≤ length (line (words_of_link link) ++ rest)
line_length None rest = omega arith
line_length (Some (a, b)) rest = omega (arith, length-append ((decimal a ++ 32 ∷ decimal b) ++ 10 ∷ []) rest)

text_push : (bars : ℕ) (links : List (Option (ℕ × ℕ))) (link : Option (ℕ × ℕ)) → text_of bars (links ++ link ∷ []) ≡ text_of bars links ++ line (words_of_link link)
text_push bars links link =
    ap (λ xs. line (words_of_bars bars) ++ xs) (flat_map-append (λ l. line (words_of_link l)) links (link ∷ []) ∙ ap (λ xs. link_lines links ++ xs) (append-nil (line (words_of_link link))))
    ∙ sym (append_assoc (line (words_of_bars bars)) (link_lines links) (line (words_of_link link)))

-- the lines before line n were read into the row, and these bytes are left
pub record Reading (text : List ℕ) (bars : ℕ) (row rest : List ℕ) (n : ℕ) : Type 0 where
  pub bars_fit : InText bars
  pub links_fit : All LinkInText (pairs row)
  pub parts : text ≡ text_of bars (pairs row) ++ rest
  pub count : length row + 4 ≡ 2 * n
  pub short : 2 * length row + length rest + 7 ≤ length text

-- the first line was read
pub reading_none : (text rest : List ℕ) (bars : ℕ) → InText bars → text ≡ line (words_of_bars bars) ++ rest → (row : List ℕ) → row ≡ [] → Reading text bars row rest 2
reading_none text rest bars fits e row none = rw none (record {
  bars_fit = fits;
  links_fit = All-nil LinkInText;
  parts = e ∙ ap (λ xs. xs ++ rest) (sym (append-nil (line (words_of_bars bars))));
  count = refl;
  short = omega (arith, ap length e, length-append (decimal bars ++ 10 ∷ []) rest, length-append (decimal bars) (10 ∷ []), decimal_nonempty bars (omega arith));
})

-- one line more
module _ (text : List ℕ) (bars : ℕ) (row rest more : List ℕ) (n a b : ℕ) (r : Reading text bars row rest n) (fits : LinkInText (pair_of a b)) (e : rest ≡ line (words_of_link (pair_of a b)) ++ more) where
  even : length row % 2 ≡ 0
  even = let c = r.count in omega arith

  rows : pairs (row ++ a ∷ (b ∷ [])) ≡ pairs row ++ pair_of a b ∷ []
  rows = pairs_append row (a ∷ (b ∷ [])) even

  pub rest_shorter : length more + 4 ≤ length rest
  rest_shorter = omega (arith, ap length e, line_length (pair_of a b) more)

  pub reading_more : (row' : List ℕ) → row' ≡ row ++ a ∷ (b ∷ []) → Reading text bars row' more (n + 1)
  reading_more row' is = rw is (record {
    bars_fit = r.bars_fit;
    links_fit = rw rows (All-push LinkInText (pairs row) (pair_of a b) r.links_fit fits);
    parts = r.parts ∙ ap (λ xs. text_of bars (pairs row) ++ xs) e ∙ sym (append_assoc (text_of bars (pairs row)) (line (words_of_link (pair_of a b))) more)
        ∙ ap (λ xs. xs ++ more) (sym (text_push bars (pairs row) (pair_of a b)) ∙ ap (text_of bars) (sym rows));
    count = let c = r.count in omega (arith, length-append row (a ∷ (b ∷ [])));
    short = let s = r.short in omega (arith, length-append row (a ∷ (b ∷ [])), rest_shorter);
  })

module _ (text : List ℕ) (bars : ℕ) (row rest : List ℕ) (n : ℕ) (r : Reading text bars row rest n) where
  -- line n is not in form
  pub reading_ends : 0 < length rest → NoLinkLine rest → BadLine text n
  reading_ends some none = at n refl
    where
      at : (m : ℕ) → n ≡ m → BadLine text m
      at zero e = let c = r.count in absurd (omega arith)
      at (suc zero) e = let c = r.count in absurd (omega arith)
      at (suc (suc k)) e = record {
        bars = bars;
        links = pairs row;
        rest = rest;
        count = let c = r.count in omega (arith, length_pairs row);
        front = text_of bars (pairs row);
        in_form = record { bars_fit = r.bars_fit; links_fit = r.links_fit; is_text = refl };
        parts = r.parts;
        more = λ q. let z = ap length q in omega arith;
        no_link = none;
      }
