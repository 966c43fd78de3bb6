-- The labels up to a label k, and what is written of them.
use Rattle.std.proofs.Common.{◌≡◌, ℕ, ◌+◌, ◌-◌, ◌≤◌, Bool, true, false, cond, List, [], ◌∷◌, ◌++◌, sym, ap, ◌∙◌, append-nil, map-id, arith}
use Rattle.std.specs.List.{filter, flat_map}
use Rattle.std.proofs.lemmas.List.FromFn.{map-range_with_len_more}
use Rattle.std.proofs.lemmas.List.Elements.{filter-append}
use Rattle.std.proofs.lemmas.List.{flat_map_more}
use Rattle.report.specs.Accounts.{labels}

labels_more : (k m : ℕ) → 1 ≤ k → m ≡ k → labels m ≡ labels (k - 1) ++ k ∷ []
labels_more k m h e =
    let e' : m ≡ k - 1 + 1 = omega arith in
    ap labels e' ∙ (simp map-id at (map-range_with_len_more (λ x. x) 1 (k - 1) k (omega arith)))

module _ (f : ℕ → List ℕ) where
  -- a piece for each label
  pub each_more : (k m : ℕ) → 1 ≤ k → m ≡ k → flat_map f (labels (k - 1)) ++ f k ≡ flat_map f (labels m)
  each_more k m h e = flat_map_more f [] (labels (k - 1)) k ∙ ap (flat_map f) (sym (labels_more k m h e))

  module _ (p : ℕ → Bool) where
    kept_more : (k m : ℕ) → 1 ≤ k → m ≡ k → filter p (labels m) ≡ filter p (labels (k - 1)) ++ cond (p k) (k ∷ []) []
    kept_more k m h e = ap (filter p) (labels_more k m h e) ∙ filter-append p (labels (k - 1)) (k ∷ [])

    -- a piece for each label that passes; r is what the test answered
    pub kept_more_yes : (k m : ℕ) (r : Bool) → 1 ≤ k → m ≡ k → r ≡ p k → r ≡ true → flat_map f (filter p (labels (k - 1))) ++ f k ≡ flat_map f (filter p (labels m))
    kept_more_yes k m r h e s t =
        flat_map_more f [] (filter p (labels (k - 1))) k
        ∙ ap (flat_map f) (sym (kept_more k m h e ∙ ap (λ b. filter p (labels (k - 1)) ++ cond b (k ∷ []) []) (sym s ∙ t)))

    pub kept_more_no : (k m : ℕ) (r : Bool) → 1 ≤ k → m ≡ k → r ≡ p k → r ≡ false → flat_map f (filter p (labels (k - 1))) ≡ flat_map f (filter p (labels m))
    kept_more_no k m r h e s t =
        ap (flat_map f) (sym (kept_more k m h e ∙ ap (λ b. filter p (labels (k - 1)) ++ cond b (k ∷ []) []) (sym s ∙ t) ∙ append-nil (filter p (labels (k - 1)))))
