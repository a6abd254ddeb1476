-- The settings told so far are a beginning of all that the listing tells: nothing is left out between them.
use Rattle.std.proofs.Common.{◌≡◌, ℕ, ◌≤◌, List, [], ◌∷◌, ◌++◌, length, drop, sym, refl, ap, ◌∙◌, subst, inl, inr, append_assoc}
use Rattle.std.proofs.lemmas.List.{take-append-drop, take_all}
use Rattle.net.specs.Nets.{Net}
use Rattle.net.specs.Members.{Member, Rising}
use Rattle.net.specs.Settings.{Setting, Radial}
use Rattle.net.specs.Limits.{WithinLimits}
use Rattle.net.proofs.Members.{member_append, member_left, member_right}
use Rattle.survey.specs.Surveys.{start_setting, AllReached}
use Rattle.trees.specs.Orders.{Before}
use Rattle.trees.specs.Listings.{listing, reached_by, told_after, told}
use Rattle.trees.specs.Laws.{Ruled, Listed}
use Rattle.trees.proofs.Whole.{ruled, listed}
use Rattle.walk.specs.Told.{Unbroken, Complete}
use Rattle.walk.specs.Calls.{handed_on}
use Rattle.walk.proofs.Passed.{told_append}

rising_right : {A : Type 0} (R : A → A → Type 0) (xs ys : List A) → Rising R (xs ++ ys) → Rising R ys
rising_right R [] ys h = h
rising_right R (x ∷ xs) ys h = rising_right R xs ys h.1

rising_across : {A : Type 0} (R : A → A → Type 0) (xs ys : List A) (x y : A) → Rising R (xs ++ ys) → Member x xs → Member y ys → R x y
rising_across R [] ys x y h m n = absurd m
rising_across R (z ∷ xs) ys x y h (inl e) n = subst (λ w. R w y) (sym e) (h.0 y (member_right y xs ys n))
rising_across R (z ∷ xs) ys x y h (inr m) n = rising_across R xs ys x y h.1 m n

-- the radial settings in the listing order
module _ (net : Net) (rules : Ruled net) where
  -- not both ways
  one_way : (S T : Setting) → Radial net S → Radial net T → Before net S T → ¬ Before net T S
  one_way S T rs rt b d = rules.not_before_itself S rs (rules.before_joins S T S rt b d)

  not_at : (S T : Setting) → Radial net T → S ≡ T → ¬ Before net S T
  not_at S T rt e b = rules.not_before_itself T rt (subst (λ R. Before net R T) e b)

  -- a beginning of the settings of the listing
  module _ (list : Listed net) (begun rest : List Setting) (whole : begun ++ rest ≡ told net (listing net)) where
    among : (T : Setting) → Member T begun → Radial net T
    among T m = list.radial T (subst (Member T) whole (member_left T begun rest m))

    -- how the whole list is divided where the beginning is
    divided : (sooner later : List Setting) → begun ≡ sooner ++ later → told net (listing net) ≡ sooner ++ (later ++ rest)
    divided sooner later e = sym whole ∙ ap (λ Ts. Ts ++ rest) e ∙ append_assoc sooner later rest

    pub begun_unbroken : Unbroken net begun
    begun_unbroken = record { radial = among; none_before = before; in_order = order; none_between = between }
      where
        before : (T : Setting) (later : List Setting) → begun ≡ T ∷ later → (R : Setting) → Radial net R → ¬ Before net R T
        before T later e R rr b =
            let rt = among T (subst (Member T) (sym e) (inl refl)) in
            let rising = subst (Rising (Before net)) (divided [] (T ∷ later) e) list.in_order in
            elim (subst (Member R) (divided [] (T ∷ later) e) (list.every R rr)) [
              | inl same ↦ not_at R T rt same b
              | inr m ↦ one_way R T rr rt b (rising.0 R m)
            ]

        order : (S T : Setting) (sooner later : List Setting) → begun ≡ sooner ++ (S ∷ (T ∷ later)) → Before net S T
        order S T sooner later e =
            (rising_right (Before net) sooner (S ∷ (T ∷ (later ++ rest))) (subst (Rising (Before net)) (divided sooner (S ∷ (T ∷ later)) e) list.in_order)).0 T (inl refl)

        between : (S T : Setting) (sooner later : List Setting) → begun ≡ sooner ++ (S ∷ (T ∷ later)) → (R : Setting) → Radial net R → Before net S R → ¬ Before net R T
        between S T sooner later e R rr b d =
            let rs = among S (subst (Member S) (sym e) (member_right S sooner (S ∷ (T ∷ later)) (inl refl))) in
            let rt = among T (subst (Member T) (sym e) (member_right T sooner (S ∷ (T ∷ later)) (inr (inl refl)))) in
            let rising = subst (Rising (Before net)) (divided sooner (S ∷ (T ∷ later)) e) list.in_order in
            elim (member_append R sooner (S ∷ (T ∷ (later ++ rest))) (subst (Member R) (divided sooner (S ∷ (T ∷ later)) e) (list.every R rr))) [
              | inl m ↦ one_way S R rs rr b (rising_across (Before net) sooner (S ∷ (T ∷ (later ++ rest))) R S rising m (inl refl))
              | inr (inl same) ↦ not_at S R rr (sym same) b
              | inr (inr (inl same)) ↦ not_at R T rt same d
              | inr (inr (inr m)) ↦ one_way R T rr rt d ((rising_right (Before net) sooner (S ∷ (T ∷ (later ++ rest))) rising).1.0 R m)
            ]

  -- the whole list
  all_complete : (list : Listed net) → Complete net (told net (listing net))
  all_complete list = record { none_after = after; every = list.every; once = list.once }
    where
      after : (T : Setting) (sooner : List Setting) → told net (listing net) ≡ sooner ++ (T ∷ []) → (R : Setting) → Radial net R → ¬ Before net T R
      after T sooner e R rr b =
          let rt = list.radial T (subst (Member T) (sym e) (member_right T sooner (T ∷ []) (inl refl))) in
          let rising = subst (Rising (Before net)) e list.in_order in
          elim (member_append R sooner (T ∷ []) (subst (Member R) e (list.every R rr))) [
            | inl m ↦ one_way T R rt rr b (rising_across (Before net) sooner (T ∷ []) R T rising m (inl refl))
            | inr (inl same) ↦ not_at T R rr (sym same) b
            | inr (inr none) ↦ absurd none
          ]

-- the settings told once n exchanges were handed on
module _ (net : Net) (fit : WithinLimits net) (reached : AllReached net) (n : ℕ) where
  pub told_unbroken : Unbroken net (told net (handed_on net n))
  told_unbroken = begun_unbroken net (ruled net fit reached) (listed net fit reached) (told net (handed_on net n)) (told_after (reached_by (start_setting net) (handed_on net n)) (drop n (listing net)))
      (ap (λ Ts. start_setting net ∷ Ts) (sym (told_append (start_setting net) (handed_on net n) (drop n (listing net))))
      ∙ ap (told net) (take-append-drop n (listing net)))

  pub told_complete : length (listing net) ≤ n → Complete net (told net (handed_on net n))
  told_complete h = subst (λ xs. Complete net (told net xs)) (sym (take_all n (listing net) h)) (all_complete net (ruled net fit reached) (listed net fit reached))
