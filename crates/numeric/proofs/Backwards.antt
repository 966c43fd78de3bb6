-- Back at one column, and over all.
use Rattle.std.proofs.Common.{◌≡◌, ℕ, zero, suc, ◌+◌, ◌-◌, ◌<◌, ◌≤◌, cond, eqb, List, get_or, sym, refl, ap, ◌∙◌, ap₂, inl, inr, arith}
use Rattle.std.proofs.lemmas.Bool.{cases_eq, cases_lt}
use Rattle.arith.specs.Operations.{Solvers}
use Rattle.plan.specs.Lookups.{size_in, start_in}
use Rattle.plan.specs.Planned.{Arrays}
use Rattle.square.specs.Plans.{matrix_of}
use Rattle.square.specs.Solution.{Vector, taken_from, backward}
use Rattle.square.specs.Squares.{Matrix}
use Rattle.numeric.specs.Passes.{backward_step}
use Rattle.plan.specs.Positions.{Position}
use Rattle.plan.proofs.Spans.{row_at, rising, row_position}
use Rattle.numeric.proofs.Layouts.{Place, at_place, no_place}

-- positions with nothing in column k may be passed over
take_skip : {X : Type 0} (s : Solvers X) (e : X) (m : Matrix X) (k : ℕ) (y : Vector X) → ((b x : X) → s.taken b e x ≡ b)
    → (d i left : ℕ) (b : X) → ((x : ℕ) → (i ≤ x) × (x < i + d) → m x k ≡ e) → taken_from s m k y b i (d + left) ≡ taken_from s m k y b (i + d) left
take_skip s e m k y calm zero i left b none =
    let p : zero + left ≡ left = omega arith in
    let q : i ≡ i + zero = omega arith in
    ap₂ (λ x z. taken_from s m k y b x z) q p
take_skip s e m k y calm (suc d) i left b none =
    let p : suc d + left ≡ suc (d + left) = omega arith in
    let q : suc i + d ≡ i + suc d = omega arith in
    let idle : s.taken b (m i k) (y i) ≡ b = ap (λ u. s.taken b u (y i)) (none i (omega arith, omega arith)) ∙ calm b (y i) in
    ap (λ z. taken_from s m k y b i z) p
    ∙ ap (λ z. taken_from s m k y z (suc i) (d + left)) idle
    ∙ take_skip s e m k y calm d (suc i) left b (λ x h. none x (omega (arith, h.0), omega (arith, h.1)))
    ∙ ap (λ z. taken_from s m k y b z left) q

-- what is taken depends on the positions from i on alone
take_same : {X : Type 0} (s : Solvers X) (m : Matrix X) (k : ℕ) (y z : Vector X) (d i : ℕ) (b : X) → ((x : ℕ) → i ≤ x → x < i + d → y x ≡ z x)
    → taken_from s m k y b i d ≡ taken_from s m k z b i d
take_same s m k y z zero i b same = refl
take_same s m k y z (suc d) i b same =
    ap (λ u. taken_from s m k y (s.taken b (m i k) u) (suc i) d) (same i (omega arith) (omega arith))
    ∙ take_same s m k y z d (suc i) (s.taken b (m i k) (z i)) (λ x l h. same x (omega arith) (omega arith))

-- in column k the rows before place p are taken: what is left to take begins past the row of the place before p
module _ {X : Type 0} (s : Solvers X) (e : X) (calm : (b x : X) → s.taken b e x ≡ b) (a : Arrays) (w : List X) (k : ℕ) (column : Position a k) (y : Vector X)
    (p : ℕ) (b total : X) (low : start_in a k < p)
    (run : taken_from s (matrix_of e a w) k y b (suc (row_at a (p - 1))) (size_in a - row_at a (p - 1)) ≡ total) where
  abbrev M : Matrix X
  M = matrix_of e a w

  -- no row of column k lies strictly between those of p - 1 and p
  between : (x : ℕ) → row_at a (p - 1) < x → ((q : ℕ) → p ≤ q → q < start_in a (k + 1) → x < row_at a q) → p ≤ start_in a (k + 1) → M x k ≡ e
  between x l after h = no_place e a w x k column.keeps (λ q f. elim (cases_lt q p) [
    | inl early ↦ elim (cases_eq q (p - 1)) [
      | inl same ↦ omega (arith, ap (row_at a) same, f.row)
      | inr ne ↦ omega (arith, rising a k column q (p - 1) f.low (omega arith) (omega arith), f.row)
    ]
    | inr late ↦ omega (arith, after q late f.high, f.row)
  ])

  pub take_more : p < start_in a (k + 1)
      → taken_from s M k y (s.taken b (get_or w p e) (y (row_at a p))) (suc (row_at a p)) (size_in a - row_at a p) ≡ total
  take_more h =
      let n = size_in a in
      let i = suc (row_at a (p - 1)) in
      let j = row_at a p in
      let rise : row_at a (p - 1) < j = rising a k column (p - 1) p (omega arith) (omega arith) h in
      let high : j ≤ n = (row_position a k column p low h).high in
      let place : Place a j k p = record { column = column; low = omega arith; high = h; row = refl } in
      let count : n - row_at a (p - 1) ≡ (j - i) + suc (n - j) = omega arith in
      let to : i + (j - i) ≡ j = omega arith in
      let skip = take_skip s e M k y calm (j - i) i (suc (n - j)) b (λ x m. between x (omega (arith, m.0))
      (λ q l r. elim (cases_eq q p) [
        | inl same ↦ omega (arith, m.1, ap (row_at a) same)
        | inr ne ↦ omega (arith, m.1, rising a k column p q (omega arith) (omega arith) r)
      ])
      (omega arith)) in
      ap (λ u. taken_from s M k y (s.taken b u (y j)) (suc j) (n - j)) (sym (at_place e a w j k p place))
      ∙ ap (λ z. taken_from s M k y b z (suc (n - j))) (sym to)
      ∙ sym skip
      ∙ ap (λ z. taken_from s M k y b i z) (sym count)
      ∙ run

  pub take_all_rows : p ≡ start_in a (k + 1) → b ≡ total
  take_all_rows end =
      let n = size_in a in
      let i = suc (row_at a (p - 1)) in
      let count : n - row_at a (p - 1) ≡ (n - row_at a (p - 1)) + 0 = omega arith in
      let skip = take_skip s e M k y calm (n - row_at a (p - 1)) i 0 b (λ x m. between x (omega (arith, m.0)) (λ q l r. absurd (omega arith)) (omega arith)) in
      sym skip ∙ ap (λ z. taken_from s M k y b i z) (sym count) ∙ run

-- the pass back over the last d positions, and a step at the one before
pub backward_on : {X : Type 0} (s : Solvers X) (m : Matrix X) (z y v : Vector X) (n d i : ℕ) → d < n → 0 < i → i ≤ n
    → ((i : ℕ) → 0 < i → i ≤ n → y i ≡ backward s m n z d i) → v i ≡ backward_step s m n (n - d) y i → v i ≡ backward s m n z (suc d) i
backward_on s m z y v n d i more low high run is =
    let k = n - d in
    let count : n - k ≡ d = omega arith in
    let u = backward s m n z d in
    let taken : taken_from s m k y (y k) (suc k) (n - k) ≡ taken_from s m k u (u k) (suc k) d =
    ap₂ (λ b x. taken_from s m k y b (suc k) x) (run k (omega arith) (omega arith)) count
    ∙ take_same s m k y u d (suc k) (u k) (λ x l h. run x (omega arith) (omega arith)) in
    is ∙ ap₂ (λ x o. cond (eqb i k) (s.divided x (m k k)) o) taken (run i low high)
