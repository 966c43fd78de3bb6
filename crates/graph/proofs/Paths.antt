-- The links when j are gone are the paths whose inner labels are gone.
use Rattle.std.proofs.Common.{◌≡◌, ℕ, zero, suc, ◌-◌, ◌<◌, ◌≤◌, Bool, true, ◌&&◌, ◌⊎◌, sym, refl, ap, ◌∙◌, subst, inl, inr, ⊎_elim, arith}
use Rattle.std.proofs.lemmas.Bool.{or_cases, or_left, or_right, and_parts, and_from, cases_lt}
use Rattle.graph.specs.Columns.{label_at}
use Rattle.graph.specs.Graphs.{Graph, start}
use Rattle.graph.specs.Picking.{Price, remaining, picked}
use Rattle.graph.specs.Theorems.{Path, TwoWay, ColumnsArePaths}
use Rattle.graph.specs.Theorems.Path.{link, through}
use Rattle.graph.proofs.Members.{member_column}

module _ (price : Price) (g : Graph) where
  wider : (j : ℕ) {a b : ℕ} → Path price g j a b → Path price g (suc j) a b
  wider j (link e) = link e
  wider j (through k l u e p) = through k l (omega arith) e (wider j p)

  -- two paths that meet at c, the label of position k
  meet_at : (j k : ℕ) {a b c : ℕ} → 1 ≤ k → k < j → c ≡ label_at price g k → Path price g j a c → Path price g j c b → Path price g j a b
  meet_at j k {b = b} l u s (link {a = a} e) q = through k l u (subst (λ x. g.linked a x ≡ true) s e) (subst (λ x. Path price g j x b) s q)
  meet_at j k l u s (through m l' u' e p) q = through m l' u' e (meet_at j k l u s p q)

  meet : (j k : ℕ) {a b : ℕ} → 1 ≤ k → k < j → Path price g j a (label_at price g k) → Path price g j (label_at price g k) b → Path price g j a b
  meet j k l u p q = meet_at j k l u refl p q

  label_next : (j : ℕ) → picked price g j ≡ label_at price g (suc j)
  label_next j = let s : j ≡ suc j - 1 = omega arith in ap (picked price g) s

  module _ (two_way : TwoWay g.linked) where
    turned : (j : ℕ) {a b : ℕ} → Path price g j a b → Path price g j b a
    turned j (link {a = a} {b = b} e) = link (two_way b a ∙ e)
    turned j (through {a = a} k l u e p) = meet j k l u (turned j p) (link (two_way (label_at price g k) a ∙ e))

    -- a path below j + 1 passes the label of position j, or is one below j
    split : (j : ℕ) {a b : ℕ} → Path price g (suc j) a b → Path price g j a b ⊎ (Path price g j a (label_at price g j) × Path price g j (label_at price g j) b)
    split j (link e) = inl (link e)
    split j (through {a = a} {b = b} k l u e p) = at (split j p) (cases_lt k j) where
      at : Path price g j (label_at price g k) b ⊎ (Path price g j (label_at price g k) (label_at price g j) × Path price g j (label_at price g j) b)
          → (k < j) ⊎ (j ≤ k) → Path price g j a b ⊎ (Path price g j a (label_at price g j) × Path price g j (label_at price g j) b)
      at (inl q) (inl h) = inl (through k l h e q)
      at (inr q) (inl h) = inr (through k l h e q.0, q.1)
      at (inl q) (inr h) = let s : k ≡ j = omega arith in inr (link (subst (λ m. g.linked a (label_at price g m) ≡ true) s e), subst (λ m. Path price g j (label_at price g m) b) s q)
      at (inr q) (inr h) = let s : k ≡ j = omega arith in inr (link (subst (λ m. g.linked a (label_at price g m) ≡ true) s e), q.1)

    -- a link when j are gone, as a path
    pub path_from : (j a b : ℕ) → (remaining price g j).linked a b ≡ true → Path price g (suc j) a b
    path_from zero a b e = link e
    path_from (suc j) a b e =
        let v = picked price g j in
        let h = remaining price g j in
        let s = label_next j in
        let to : (c : ℕ) → h.linked v c ≡ true → Path price g (suc (suc j)) (label_at price g (suc j)) c = λ c t. subst (λ x. Path price g (suc (suc j)) x c) s (wider (suc j) (path_from j v c t)) in
        ⊎_elim
        (λ t. wider (suc j) (path_from j a b t))
        (λ t. let p = and_parts (h.linked v a) (h.linked v b) t in meet (suc (suc j)) (suc j) (omega arith) (omega arith) (turned (suc (suc j)) (to a p.0)) (to b p.1))
        (or_cases (h.linked a b) (h.linked v a && h.linked v b) e)

    straight : {a b : ℕ} → Path price g 1 a b → g.linked a b ≡ true
    straight (link e) = e
    straight (through k l u e p) = absurd (omega arith)

    pub path_to : (j a b : ℕ) → Path price g (suc j) a b → (remaining price g j).linked a b ≡ true
    path_to zero a b p = straight p
    path_to (suc j) a b p =
        let v = picked price g j in
        let h = remaining price g j in
        let s = sym (label_next j) in
        ⊎_elim
        (λ q. or_left (h.linked a b) (h.linked v a && h.linked v b) (path_to j a b q))
        (λ q. or_right (h.linked a b) (h.linked v a && h.linked v b) (and_from _ _ (path_to j v a (subst (λ x. Path price g (suc j) x a) s (turned (suc j) q.0))) (path_to j v b (subst (λ x. Path price g (suc j) x b) s q.1))))
        (split (suc j) p)

pub columns_are_paths : (price : Price) (n : ℕ) (linked : ℕ → ℕ → Bool) → TwoWay linked → ColumnsArePaths price n linked
columns_are_paths price n linked two_way j i l u h =
    let g = start n linked in
    let m = member_column price n linked j i l u h in
    let s : suc (j - 1) ≡ j = omega arith in (
      λ e. turned price g two_way j (subst (λ k. Path price g k (label_at price g j) (label_at price g i)) s (path_from price g two_way (j - 1) (label_at price g j) (label_at price g i) (sym m ∙ e))),
      λ p. m ∙ path_to price g two_way (j - 1) (label_at price g j) (label_at price g i) (subst (λ k. Path price g k (label_at price g j) (label_at price g i)) (sym s) (turned price g two_way j p)),
    )
