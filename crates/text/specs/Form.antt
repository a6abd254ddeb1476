-- The text form of a net: a line for the bars, then a line for each link. Assumes nothing.
use Rattle.std.specs.Prelude.{◌≡◌, ℕ, zero, suc, ◌≤◌, ◌≢◌, List, [], ◌∷◌, ◌++◌, length, Some, None, codes, decimal, Option}
use Rattle.std.specs.List.{flat_map, All}

-- The numbers of a text: 1 to 65535. They stand in decimal, without leading zeros.
abbrev pub InText : ℕ → Type 0
InText n = (1 ≤ n) × (n ≤ 65535)

-- The two bars of a link stand in a text; so does a link out of service.
abbrev pub LinkInText : Option (ℕ × ℕ) → Type 0
LinkInText None = Unit {0}
LinkInText (Some (a, b)) = InText a × InText b

-- The words of the first line: `bars`, a space and the number of bars.
abbrev pub words_of_bars : ℕ → List ℕ
words_of_bars n = codes "bars " ++ decimal n

-- The words of a link's line: `link` and its two bars, single spaces between; or `out`.
abbrev pub words_of_link : Option (ℕ × ℕ) → List ℕ
words_of_link None = codes "out"
words_of_link (Some (a, b)) = codes "link " ++ (decimal a ++ (32 ∷ decimal b))

-- The line of these words: a line feed ends it.
abbrev pub line : List ℕ → List ℕ
line words = words ++ (10 ∷ [])

-- The text of so many bars and these links.
abbrev pub text_of : ℕ → List (Option (ℕ × ℕ)) → List ℕ
text_of n links = line (words_of_bars n) ++ flat_map (λ l. line (words_of_link l)) links

-- These bytes are the text of n bars and these links.
pub record InForm (bytes : List ℕ) (n : ℕ) (links : List (Option (ℕ × ℕ))) : Type 0 where
  pub bars_fit : InText n
  pub links_fit : All LinkInText links
  pub is_text : bytes ≡ text_of n links

-- The bytes do not begin with a first line.
abbrev pub NoBarsLine : List ℕ → Type 0
NoBarsLine bytes = (n : ℕ) (rest : List ℕ) → InText n → bytes ≢ line (words_of_bars n) ++ rest

-- The bytes do not begin with the line of a link.
abbrev pub NoLinkLine : List ℕ → Type 0
NoLinkLine bytes = (link : Option (ℕ × ℕ)) (rest : List ℕ) → LinkInText link → bytes ≢ line (words_of_link link) ++ rest

-- The bytes begin with a text of k links, and what is left is not empty and does not begin with the line of a link.
pub record FormEnds (bytes : List ℕ) (k : ℕ) : Type 0 where
  pub bars : ℕ
  pub links : List (Option (ℕ × ℕ))
  pub rest : List ℕ
  pub count : length links ≡ k
  pub front : List ℕ
  pub in_form : InForm front bars links
  pub parts : bytes ≡ front ++ rest
  pub more : rest ≢ []
  pub no_link : NoLinkLine rest

-- Line l is the first that is not in form; line 1 must be there.
abbrev pub BadLine : List ℕ → ℕ → Type 0
BadLine bytes zero = ⊥
BadLine bytes (suc zero) = NoBarsLine bytes
BadLine bytes (suc (suc k)) = FormEnds bytes k

-- Bytes have at most one reading: they are the text of one net, or one line is the first that is not in form.
pub record OneReading (bytes : List ℕ) : Type 0 where
  pub one_net : (m n : ℕ) (ls ks : List (Option (ℕ × ℕ))) → InForm bytes m ls → InForm bytes n ks → (m ≡ n) × (ls ≡ ks)
  pub not_both : (n : ℕ) (ls : List (Option (ℕ × ℕ))) (l : ℕ) → InForm bytes n ls → ¬ BadLine bytes l
  pub one_line : (l k : ℕ) → BadLine bytes l → BadLine bytes k → l ≡ k
