-- What has been written, turn by turn.
use Rattle.std.proofs.Common.{◌≡◌, ℕ, true, List, ◌++◌, refl}
use Rattle.std.specs.declared.fmt.Formatter.{Formatter}
use Rattle.std.specs.Fmt.{IsPlainFormatter, HasWritten}
use Rattle.std.proofs.Output.{has_written_append, has_written_of_eq}

-- where f is plain, g is f after bs was written
abbrev pub SoFar : {W : Type 0} → (W → List ℕ → W → Type 0) → Formatter W → List ℕ → Formatter W → Type 0
SoFar took f bs g = IsPlainFormatter f → HasWritten took f bs g

module _ {W : Type 0} (took : W → List ℕ → W → Type 0) where
  -- b is written after a
  pub so_far_more : {f g h : Formatter W} {a b bs : List ℕ} → a ++ b ≡ bs → SoFar took f a g → (IsPlainFormatter g → true ≡ true → HasWritten took g b h) → SoFar took f bs h
  so_far_more e x y p = let u = x p in has_written_of_eq took _ _ _ _ e (has_written_append took _ _ _ _ _ u (y u.plain refl))

  pub so_far_is : {f g : Formatter W} {a b : List ℕ} → a ≡ b → SoFar took f a g → SoFar took f b g
  so_far_is e x p = has_written_of_eq took _ _ _ _ e (x p)
