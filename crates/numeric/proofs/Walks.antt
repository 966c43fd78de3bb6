-- The walk along two ascending lists of rows, the first contained in the second.
use Rattle.std.proofs.Common.{◌≡◌, ℕ, ◌+◌, ◌<◌, ◌≤◌, List, length, get_or, set, sym, refl, ap, ◌∙◌, inl, inr, arith}
use Rattle.std.proofs.lemmas.List.{get_or-set_same, get_or-set_other}
use Rattle.std.proofs.lemmas.Bool.{cases_eq, cases_lt, cases_order}
use Rattle.arith.specs.Operations.{Operations}
use Rattle.numeric.specs.Updates.{Updated, Ascends, Contained}

-- after the targets below `at`, `next` is the first of the sources that they have not met
pub record Walked {X : Type 0} (o : Operations X) (rows : List ℕ) (source past target stop : ℕ) (before : List X) (at next : ℕ) (now : List X) : Type 0 where
  pub low : source ≤ next
  pub high : next ≤ past
  pub done : Updated o rows 0 source past target at before now
  pub behind : (p q : ℕ) → (source ≤ p) × (p < next) × (at ≤ q) × (q < stop) → get_or rows p 0 < get_or rows q 0
  pub ahead : (p q : ℕ) → (next ≤ p) × (p < past) × (target ≤ q) × (q < at) → get_or rows q 0 < get_or rows p 0

module _ {X : Type 0} (o : Operations X) (rows : List ℕ) (source past target stop : ℕ) (before : List X) where
  pub walk_none : source ≤ past → Walked o rows source past target stop before target source before
  walk_none h = record {
    low = omega arith;
    high = h;
    done = record { met = λ p q m. absurd (omega (arith, m)); missed = λ q m. refl };
    behind = λ p q m. absurd (omega (arith, m));
    ahead = λ p q m. absurd (omega (arith, m));
  }

  module _ (sources : Ascends rows source past) (targets : Ascends rows target stop) (at next : ℕ) (now : List X)
      (inv : Walked o rows source past target stop before at next now) (low : target ≤ at) (high : at < stop) where
    -- the target at `at` meets no source
    pub walk_past : ((p : ℕ) → (next ≤ p) × (p < past) → get_or rows at 0 < get_or rows p 0) → Walked o rows source past target stop before (at + 1) next now
    walk_past later = record {
      low = inv.low;
      high = inv.high;
      done = record {
        met = λ p q m. elim (cases_eq q at) [
          | inl e ↦ absurd (alone p m.0 m.1 (m.4 ∙ ap (λ x. get_or rows x 0) e))
          | inr ne ↦ inv.done.met p q (m.0, m.1, m.2, omega arith, m.4)
        ];
        missed = λ q none. inv.done.missed q (λ p m. none p (m.0, m.1, m.2, omega arith, m.4));
      };
      behind = λ p q m. inv.behind p q (m.0, m.1, omega arith, m.3);
      ahead = λ p q m. elim (cases_eq q at) [
        | inl e ↦ (let h = later p (m.0, m.1) in omega (arith, h, ap (λ x. get_or rows x 0) e))
        | inr ne ↦ inv.ahead p q (m.0, m.1, m.2, omega arith)
      ];
    }
      where
        alone : (p : ℕ) → source ≤ p → p < past → get_or rows p 0 ≡ get_or rows at 0 → ⊥
        alone p l h e = elim (cases_lt p next) [
          | inl b ↦ (let f = inv.behind p at (l, b, omega arith, high) in omega arith)
          | inr b ↦ (let f = later p (b, h) in omega arith)
        ]

    -- all sources are met
    pub walk_rest : past ≤ next → Walked o rows source past target stop before (at + 1) next now
    walk_rest h = walk_past (λ p m. absurd (omega arith))

    -- the source at `next` has a later row
    pub walk_skip : Contained rows source past target stop → next < past → (get_or rows at 0 ≡ get_or rows next 0 → ⊥)
        → Walked o rows source past target stop before (at + 1) next now
    walk_skip contained h ne = walk_past (λ p m. elim (cases_eq p next) [
      | inl e ↦ omega (arith, here, ap (λ x. get_or rows x 0) e)
      | inr other ↦ (let f = sources next p (inv.low, omega arith, m.1) in omega (arith, here))
    ])
      where
        here : get_or rows at 0 < get_or rows next 0
        here = let s = contained next (inv.low, h) in
            elim (cases_order s.0 at) [
              | inl e ↦ absurd (ne (sym (s.1.2 ∙ ap (λ x. get_or rows x 0) e)))
              | inr (inl b) ↦ (let f = inv.ahead next s.0 (omega arith, h, s.1.0, b) in omega (arith, s.1.2))
              | inr (inr b) ↦ (let f = targets at s.0 (low, b, s.1.1) in omega (arith, s.1.2))
            ]

    -- the target at `at` meets the source at `next`
    pub walk_meet : (y : X) → next < past → past ≤ target → stop ≤ length now → get_or rows at 0 ≡ get_or rows next 0
        → y ≡ o.updated (get_or now at o.nothing) (get_or now next o.nothing) (get_or before 0 o.nothing) (get_or before source o.nothing)
        → Walked o rows source past target stop before (at + 1) (next + 1) (set now at y)
    walk_meet y h apart fits same is = record {
      low = omega (arith, inv.low);
      high = omega arith;
      done = record {
        met = λ p q m. elim (cases_eq q at) [
          | inl e ↦
              (let p_is : p ≡ next = only p m.0 m.1 (m.4 ∙ ap (λ x. get_or rows x 0) e) in
              let value = get_or-set_same now at y o.nothing (omega arith) in
              let old = inv.done.missed at (λ s t. absurd (omega (arith, t.3))) in
              let seen = inv.done.missed next (λ s t. absurd (omega (arith, t.2))) in
              cc)
          | inr ne ↦ get_or-set_other now at q y o.nothing ne ∙ inv.done.met p q (m.0, m.1, m.2, omega arith, m.4)
        ];
        missed = λ q none.
            get_or-set_other now at q y o.nothing
            (λ e. none next (inv.low, h, omega arith, omega arith, sym same ∙ ap (λ x. get_or rows x 0) (sym e)))
            ∙ inv.done.missed q (λ p m. none p (m.0, m.1, m.2, omega arith, m.4));
      };
      behind = λ p q m. elim (cases_eq p next) [
        | inl e ↦ (let f = targets at q (low, omega arith, m.3) in omega (arith, f, same, ap (λ x. get_or rows x 0) e))
        | inr ne ↦ inv.behind p q (m.0, omega arith, omega arith, m.3)
      ];
      ahead = λ p q m.
          let f = sources next p (inv.low, omega arith, m.1) in
          elim (cases_eq q at) [
            | inl e ↦ omega (arith, f, same, ap (λ x. get_or rows x 0) e)
            | inr ne ↦ inv.ahead p q (omega arith, m.1, m.2, omega arith)
          ];
    }
      where
        only : (p : ℕ) → source ≤ p → p < past → get_or rows p 0 ≡ get_or rows at 0 → p ≡ next
        only p l b e = elim (cases_order p next) [
          | inl r ↦ r
          | inr (inl r) ↦ absurd (let f = inv.behind p at (l, r, omega arith, high) in omega arith)
          | inr (inr r) ↦ absurd (let f = sources next p (inv.low, r, b) in omega arith)
        ]
