-- The graph that an elimination works on.
use Rattle.std.specs.Prelude.{ℕ, Bool, not, ◌&&◌, ◌||◌, List, length, filter, ◌==◌}
use Rattle.std.specs.List.{range_with_len}

-- The labels that are left, ascending, and whether two labels are linked. Links of labels that are gone are kept, so that
-- after the last elimination the relation is the filled graph.
pub record Graph : Type 0 where
  pub left : List ℕ
  pub linked : ℕ → ℕ → Bool

-- n labels, none of them gone
abbrev pub start : ℕ → (ℕ → ℕ → Bool) → Graph
start n linked = record { left = range_with_len 1 n; linked = linked }

-- the labels left, other than v, that are linked to v
abbrev pub neighbours : Graph → ℕ → List ℕ
neighbours g v = filter (λ a. not (a == v) && g.linked v a) g.left

abbrev pub degree : Graph → ℕ → ℕ
degree g v = length (neighbours g v)

-- v goes, and every two of its neighbours are linked
abbrev pub eliminate : Graph → ℕ → Graph
eliminate g v = record {
  left = filter (λ a. not (a == v)) g.left;
  linked = λ a b. g.linked a b || (g.linked v a && g.linked v b);
}
