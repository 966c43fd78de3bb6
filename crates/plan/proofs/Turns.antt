-- The place of a label among order labels, one label more.
use Rattle.std.proofs.Common.{◌≡◌, ℕ, suc, ◌+◌, ◌-◌, ◌^◌, ◌<◌, ◌≤◌, cond, eqb, ◌≢◌, List, [], ◌∷◌, ◌++◌, length, get_or, set, replicate, ap, arith}
use Rattle.std.proofs.lemmas.List.{get_or-replicate, get_or-set_same, get_or-set_other}
use Rattle.std.proofs.lemmas.Bool.Decides.{nat_tests}
use Rattle.graph.specs.Picking.{place_from}
use Rattle.plan.specs.Given.{place_in}

place_pushed : (xs : List ℕ) (m x : ℕ) → ((i : ℕ) → i < length xs → get_or xs i 0 ≡ x → ⊥) → place_from m (xs ++ x ∷ []) x ≡ m + length xs
place_pushed [] m x new = grind (arith, nat_tests)
place_pushed (y ∷ xs) m x new = grind (arith, nat_tests, new 0, place_pushed xs (m + 1) x (λ i h. new (suc i) (omega arith)))

place_kept : (xs : List ℕ) (m x v : ℕ) → v ≢ x → place_from m (xs ++ x ∷ []) v ≡ place_from m xs v
place_kept [] m x v ne = grind (arith, nat_tests)
place_kept (y ∷ xs) m x v ne = ap (λ p. cond (eqb y v) m p) (place_kept xs (m + 1) x v ne)

-- a table of no places
pub turns_none : (v : ℕ) → place_in (replicate 512 (2 ^ 32 - 1)) v ≡ place_from 1 [] v
turns_none v = grind (arith, nat_tests, get_or-replicate 512 (v - 1) (2 ^ 32 - 1) 0)

-- a table with one place more
pub turns_more : (places xs : List ℕ) (x : ℕ) → length places ≡ 512 → 0 < x → x ≤ 512 → ((i : ℕ) → i < length xs → get_or xs i 0 ≡ x → ⊥)
    → ((v : ℕ) → place_in places v ≡ place_from 1 xs v) → (v : ℕ) → place_in (set places (x - 1) (length xs + 1)) v ≡ place_from 1 (xs ++ x ∷ []) v
turns_more places xs x len low high new so_far v =
    grind (arith, nat_tests, so_far v, place_pushed xs 1 x new, place_kept xs 1 x v, get_or-set_same places (x - 1) (length xs + 1) 0, get_or-set_other places (x - 1) (v - 1) (length xs + 1) 0)
