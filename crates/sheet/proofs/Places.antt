-- What holds at the places of a list, one element more; and what the scans of a list tell of its places.
use Rattle.std.proofs.Common.{◌≡◌, ℕ, ◌<◌, true, false, eqb, ◌⊎◌, List, [], ◌∷◌, ◌++◌, length, get_or, sym, subst, inl, inr, ⊎_elim, arith}
use Rattle.std.proofs.lemmas.List.{get_or_append_left, get_or_push, length_push}
use Rattle.std.proofs.lemmas.List.Elements.{All-from_get_or}
use Rattle.std.proofs.lemmas.List.Folds.{list_any_at, list_any_none}
use Rattle.std.proofs.lemmas.Bool.{cases_lt, eq-eqb, ne_eqb, leb-true, le-leb, and_parts, and_from, both_ways}
use Rattle.std.proofs.lemmas.Bool.Decides.{nat_tests}
use Rattle.sheet.specs.Patterns.{IsLabel, is_label, SamePair, LinkLabels, joins, linked_in, given_in}

module _ {X : Type 0} (d : X) (xs : List X) (x : X) where
  -- a place of the longer list is one of the list, or the last
  pub push_place : (i : ℕ) → i < length (xs ++ x ∷ []) → ((i < length xs) × (get_or (xs ++ x ∷ []) i d ≡ get_or xs i d)) ⊎ ((i ≡ length xs) × (get_or (xs ++ x ∷ []) i d ≡ x))
  push_place i h =
      ⊎_elim
      (λ l. inl (l, get_or_append_left xs (x ∷ []) d i l))
      (λ g. let e : i ≡ length xs = omega (arith, length_push xs x) in inr (e, get_or_push xs x d i (sym e)))
      (cases_lt i (length xs))

  pub each_push : (P : X → Type 0) → ((i : ℕ) → i < length xs → P (get_or xs i d)) → P x → (i : ℕ) → i < length (xs ++ x ∷ []) → P (get_or (xs ++ x ∷ []) i d)
  each_push P old new i h = ⊎_elim (λ l. subst P (sym l.1) (old i l.0)) (λ g. subst P (sym g.1) new) (push_place i h)

  pub pairs_push : (R : X → X → Type 0) → ((i j : ℕ) → i < j → j < length xs → R (get_or xs i d) (get_or xs j d)) → ((i : ℕ) → i < length xs → R (get_or xs i d) x) → (i j : ℕ) → i < j → j < length (xs ++ x ∷ []) → R (get_or (xs ++ x ∷ []) i d) (get_or (xs ++ x ∷ []) j d)
  pairs_push R old new i j l h =
      ⊎_elim
      (λ a. let k : i < length xs = omega (arith, a.0) in subst (λ z. R z (get_or (xs ++ x ∷ []) j d)) (sym (get_or_append_left xs (x ∷ []) d i k)) (subst (λ z. R (get_or xs i d) z) (sym a.1) (old i j l a.0)))
      (λ g. let k : i < length xs = omega (arith, g.0) in subst (λ z. R z (get_or (xs ++ x ∷ []) j d)) (sym (get_or_append_left xs (x ∷ []) d i k)) (subst (λ z. R (get_or xs i d) z) (sym g.1) (new i k)))
      (push_place j h)

-- the scan of the order
pub given_none : (xs : List ℕ) (a : ℕ) → ((i : ℕ) → (i < length xs) × (get_or xs i 0 ≡ a) → ⊥) → given_in xs a ≡ false
given_none xs a f = list_any_none (λ x. eqb x a) xs (All-from_get_or (λ x. eqb x a ≡ false) xs 0 (λ i h. ne_eqb (get_or xs i 0) a (λ e. f i (h, e))))

pub given_not : (xs : List ℕ) (a : ℕ) → given_in xs a ≡ false → (i : ℕ) → i < length xs → get_or xs i 0 ≡ a → ⊥
given_not xs a e i h k = both_ways _ e (list_any_at (λ x. eqb x a) xs i 0 h (eq-eqb _ _ k))

pub joins_same : (a b x y : ℕ) → SamePair (x, y) (a, b) → joins a b (x, y) ≡ true
joins_same a b x y (inl h) = both a b x y h.0 h.1 where
  both : (a b x y : ℕ) → x ≡ a → y ≡ b → joins a b (x, y) ≡ true
  both a b x y e f = grind (arith, nat_tests)
joins_same a b x y (inr h) = both a b x y h.0 h.1 where
  both : (a b x y : ℕ) → x ≡ b → y ≡ a → joins a b (x, y) ≡ true
  both a b x y e f = grind (arith, nat_tests)

pub joins_none : (a b x y : ℕ) → (SamePair (x, y) (a, b) → ⊥) → joins a b (x, y) ≡ false
joins_none a b x y f = none (λ e g. f (inl (e, g))) (λ e g. f (inr (e, g))) where
  none : (x ≡ a → y ≡ b → ⊥) → (x ≡ b → y ≡ a → ⊥) → joins a b (x, y) ≡ false
  none f g = grind (arith, nat_tests)

-- the scan of the links
pub linked_none : (xs : List (ℕ × ℕ)) (a b : ℕ) → ((i : ℕ) → i < length xs → SamePair (get_or xs i (0, 0)) (a, b) → ⊥) → linked_in xs a b ≡ false
linked_none xs a b f = list_any_none (joins a b) xs (All-from_get_or (λ l. joins a b l ≡ false) xs (0, 0) (λ i h. joins_none a b _ _ (f i h)))

pub linked_not : (xs : List (ℕ × ℕ)) (a b : ℕ) → linked_in xs a b ≡ false → (i : ℕ) → i < length xs → SamePair (get_or xs i (0, 0)) (a, b) → ⊥
linked_not xs a b e i h s = both_ways _ e (list_any_at (joins a b) xs i (0, 0) h (joins_same a b _ _ s))

-- the test of a label
pub label_test : (n a : ℕ) → IsLabel n a → is_label n a ≡ true
label_test n a h = and_from _ _ (le-leb 1 a h.0) (le-leb a n h.1)

pub label_from : (n a : ℕ) → is_label n a ≡ true → IsLabel n a
label_from n a e = let h = and_parts _ _ e in (leb-true 1 a h.0, leb-true a n h.1)

-- no link joins what is no label
pub linked_outside : (n : ℕ) (links : List (ℕ × ℕ)) (a b : ℕ) → LinkLabels n links → (IsLabel n a × IsLabel n b → ⊥) → linked_in links a b ≡ false
linked_outside n links a b labels out = linked_none links a b (λ i h s. out (both (get_or links i (0, 0)) (labels i h) s)) where
  both : (x : ℕ × ℕ) → IsLabel n x.0 × IsLabel n x.1 → SamePair x (a, b) → IsLabel n a × IsLabel n b
  both x l (inl e) = (subst (IsLabel n) e.0 l.0, subst (IsLabel n) e.1 l.1)
  both x l (inr e) = (subst (IsLabel n) e.1 l.1, subst (IsLabel n) e.0 l.0)
