-- Tables by label, read and written by position.
use Rattle.std.proofs.Common.{◌≡◌, ℕ, ◌+◌, ◌-◌, ◌<◌, ◌≤◌, true, List, map, length, get_or, set, Ok, Err, sym, ap, ◌∙◌, arith}
use Rattle.std.specs.List.{range_with_len}
use Rattle.std.proofs.lemmas.List.FromFn.{length-map-range_with_len, get_or-map-range_with_len}
use Rattle.std.proofs.lemmas.List.{ext_get_or, get_or-set_same, get_or-set_other, get_or_read}
use Rattle.std.proofs.lemmas.Bool.{and_from, cond-true, eq-eqb}
use Rattle.arith.specs.Operations.{Solvers}
use Rattle.plan.specs.Lookups.{size_in, label_in, position_in}
use Rattle.plan.specs.Planned.{Arrays, Keeps}
use Rattle.square.specs.declared.refusals.Refusal.TheVariants.{WrongLength}
use Rattle.square.specs.Calls.{by_position, by_label}
use Rattle.square.specs.Plans.{site_of, matrix_of}
use Rattle.square.specs.Solution.{Vector, solution}
use Rattle.numeric.specs.Calls.{all_fit, Solves}
use Rattle.plan.specs.Positions.{Position}
use Rattle.numeric.specs.Labels.{HasLabel}

module _ (a : Arrays) (k : ℕ) (p : Position a k) where
  pub label_some : (0 < label_in a k) × (label_in a k ≤ size_in a)
  label_some = let r = p.keeps.ranked (k - 1) (omega (arith, p.low, p.high)) in (r.0, r.1)

  -- the order of the plan, as it is lent
  pub has_label : (order : List ℕ) → order ≡ a.order → HasLabel order k
  has_label order is = rw is (p.low, p.high, label_some.0, label_some.1)

  -- another position has another slot
  slot_apart : (i : ℕ) → Position a i → label_in a i - 1 ≡ label_in a k - 1 → i ≡ k
  slot_apart i q same =
      let r = p.keeps.ranked (k - 1) (omega (arith, p.low, p.high)) in
      let s = p.keeps.ranked (i - 1) (omega (arith, q.low, q.high)) in
      omega (arith, r.2, s.2, ap (λ x. get_or a.positions x 0) same, p.low, q.low)

  module _ {X : Type 0} (e : X) (y : List X) (long : length y ≡ size_in a) (order : List ℕ) (at : ℕ) (order_is : order ≡ a.order) (at_is : at ≡ get_or order (k - 1) 0 - 1) where
    slot_is : at ≡ label_in a k - 1
    slot_is = at_is ∙ ap (λ l. get_or l (k - 1) 0 - 1) order_is

    pub slot_inside : at < length y
    slot_inside = omega (arith, slot_is, label_some.0, label_some.1)

    pub slot_read : (x : X) → x ≡ get_or y at x → x ≡ by_position e (site_of a) y k
    slot_read x read = get_or_read y at x slot_inside read e ∙ ap (λ q. get_or y q e) slot_is

    pub slot_set : (v : X) → by_position e (site_of a) (set y at v) k ≡ v
    slot_set v = ap (λ q. get_or (set y at v) q e) (sym slot_is) ∙ get_or-set_same y at v e slot_inside

    pub slot_kept : (v : X) (i : ℕ) → Position a i → (i ≡ k → ⊥) → by_position e (site_of a) (set y at v) i ≡ by_position e (site_of a) y i
    slot_kept v i q ne = get_or-set_other y at (label_in a i - 1) v e (λ same. ne (slot_apart i q (same ∙ slot_is)))

-- a table by label lists its numbers by position
by_label_lem : {X : Type 0} (e : X) (a : Arrays) (y : List X) (v : Vector X) → Keeps a → length y ≡ size_in a
    → ((i : ℕ) → 0 < i → i ≤ size_in a → by_position e (site_of a) y i ≡ v i) → y ≡ by_label (site_of a) v
by_label_lem e a y v keeps long is =
    let n = size_in a in
    let f : ℕ → _ = λ l. v (position_in a l) in
    ext_get_or e y (map f (range_with_len 1 n)) (omega (arith, length-map-range_with_len f 1 n)) (λ l h.
    let r = keeps.placed l (omega arith) in
    let q = get_or a.positions l 0 in
    let slot : l ≡ label_in a q - 1 = omega (arith, r.2) in
    let same : l ≡ l + 1 - 1 = omega arith in
    ap (λ x. get_or y x e) slot
    ∙ is q r.0 r.1
    ∙ ap (λ x. v (get_or a.positions x 0)) same
    ∙ sym (get_or-map-range_with_len f 1 n l (l + 1) e (omega arith) (omega arith)))

-- a result table whose numbers by position are the full square's solution
pub solves : {X : Type 0} (s : Solvers X) (a : Arrays) (worked right before after : List X) → Keeps a → length worked ≡ length a.rows → length right ≡ size_in a
    → length before ≡ size_in a → length after ≡ size_in a
    → ((i : ℕ) → 0 < i → i ≤ size_in a
    → by_position s.base.nothing (site_of a) after i ≡ solution s (matrix_of s.base.nothing a worked) (size_in a) (by_position s.base.nothing (site_of a) right) i)
    → Solves s a worked right before (Ok tt) after
solves s a worked right before after keeps worked-long right-long before-long long is =
    let fit : all_fit a worked right before ≡ true = and_from _ _ (eq-eqb _ _ worked-long) (and_from _ _ (eq-eqb _ _ right-long) (eq-eqb _ _ before-long)) in
    record {
      answer = sym (cond-true (all_fit a worked right before) (Ok tt) (Err WrongLength) fit);
      table = by_label_lem s.base.nothing a after _ keeps long is ∙ sym (cond-true (all_fit a worked right before) _ before fit);
    }
