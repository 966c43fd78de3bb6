-- Bytes as digits, from the last one on.
use Rattle.std.proofs.Common.{◌≡◌, ℕ, List, [], ◌∷◌, ◌++◌, sym, ap, ◌∙◌, append_assoc}
use mathlib.Core.List.{reverse-append}
use Rattle.std.specs.List.{flat_map}
use Rattle.report.specs.Refusals.{hex_byte, hex_bytes}

-- the last byte comes first
last_first : (bs : List ℕ) (b : ℕ) → hex_bytes (bs ++ b ∷ []) ≡ hex_byte b ++ hex_bytes bs
last_first bs b = ap (flat_map hex_byte) (reverse-append bs (b ∷ []))

-- the byte b is written, before which bs was
pub spelled_more : (bs rest after all : List ℕ) (b : ℕ) → rest ≡ after ++ b ∷ [] → bs ++ hex_bytes rest ≡ all → (bs ++ hex_byte b) ++ hex_bytes after ≡ all
spelled_more bs rest after all b e h =
    append_assoc bs (hex_byte b) (hex_bytes after)
    ∙ ap (λ x. bs ++ x) (sym (last_first after b) ∙ ap hex_bytes (sym e))
    ∙ h
