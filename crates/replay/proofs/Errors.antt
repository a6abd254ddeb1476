-- What is known of a result whose error was made into another.
use Rattle.std.proofs.Common.{◌≡◌, Ok, Err, Result, MatchResult}
use Rattle.std.specs.Result.{IsErrAnd}
use Rattle.std.proofs.lemmas.Result.{err_from_is_err_and}

pub mapped : {T E D : Type 0} {made : E → D → Type 0} (P : T → Type 0) (Q : E → Type 0) (Q' : D → Type 0) (o : Result T E) (r : Result T D)
    → MatchResult o (λ x. r ≡ Ok x) (λ e. IsErrAnd r (made e)) → MatchResult o P Q → ((e : E) (d : D) → Q e → made e d → Q' d) → MatchResult r P Q'
mapped P Q Q' (Ok x) r is m f = rw is m
mapped P Q Q' (Err e) r is m f = let p = err_from_is_err_and r is in rw p.1 (f e p.0 m p.2)
