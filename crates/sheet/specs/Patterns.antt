-- What a sheet says, and the rules that it keeps.
use Rattle.std.specs.Prelude.{◌≡◌, ℕ, ◌<◌, ◌≤◌, Bool, ◌&&◌, ◌||◌, ◌⊎◌, List, length, get_or, ◌==◌, nat_le, slice_index, slice_index_or}
use Rattle.std.specs.List.{list_any}

-- the number of nodes, the links and the order labels, as they stand on a sheet
pub record Pattern : Type 0 where
  pub n : ℕ
  pub links : List (ℕ × ℕ)
  pub order : List ℕ

-- a is a label of n nodes
abbrev pub IsLabel : ℕ → ℕ → Type 0
IsLabel n a = (1 ≤ a) × (a ≤ n)

-- the same as a test
abbrev pub is_label : ℕ → ℕ → Bool
is_label n a = nat_le 1 a && nat_le a n

-- whether a link joins a and b, whichever stands first
abbrev pub joins : ℕ → ℕ → ℕ × ℕ → Bool
joins a b l = (l.0 == a && l.1 == b) || (l.0 == b && l.1 == a)

-- whether one of the links does
abbrev pub linked_in : List (ℕ × ℕ) → ℕ → ℕ → Bool
linked_in links a b = list_any (joins a b) links

-- whether a is one of the order labels
abbrev pub given_in : List ℕ → ℕ → Bool
given_in order a = list_any (λ x. x == a) order

-- the same two labels, whichever stands first
abbrev pub SamePair : ℕ × ℕ → ℕ × ℕ → Type 0
SamePair x y = ((x.0 ≡ y.0) × (x.1 ≡ y.1)) ⊎ ((x.0 ≡ y.1) × (x.1 ≡ y.0))

-- both labels of each link are labels of the n nodes
abbrev pub LinkLabels : ℕ → List (ℕ × ℕ) → Type 0
LinkLabels n links = (i : ℕ) → i < length links → IsLabel n (get_or links i (0, 0)).0 × IsLabel n (get_or links i (0, 0)).1

-- a link joins two different labels
abbrev pub LinksJoin : List (ℕ × ℕ) → Type 0
LinksJoin links = (i : ℕ) → (i < length links) × ((get_or links i (0, 0)).0 ≡ (get_or links i (0, 0)).1) → ⊥

-- no pair is linked twice
abbrev pub LinksOnce : List (ℕ × ℕ) → Type 0
LinksOnce links = (i j : ℕ) → (i < j) × (j < length links) × SamePair (slice_index_or links i (0, 0)) (slice_index_or links j (0, 0)) → ⊥

-- each order label is a label of the n nodes
abbrev pub OrderLabels : ℕ → List ℕ → Type 0
OrderLabels n order = (i : ℕ) → i < length order → IsLabel n (slice_index order i)

-- no label is given twice
abbrev pub OrderOnce : List ℕ → Type 0
OrderOnce order = (i j : ℕ) → (i < j) × (j < length order) × (slice_index order i ≡ slice_index order j) → ⊥

-- there are no order labels, or as many as nodes
abbrev pub OrderWhole : ℕ → List ℕ → Type 0
OrderWhole n order = 0 < length order → length order ≡ n

-- the rules that hold from the head on
pub record Rules (s : Pattern) : Type 0 where
  pub size : IsLabel 512 s.n
  pub few : length s.links ≤ 4096
  pub labels : LinkLabels s.n s.links
  pub join : LinksJoin s.links
  pub once : LinksOnce s.links
  pub ordered : OrderLabels s.n s.order
  pub ordered_once : OrderOnce s.order

-- the rules of a whole sheet
pub record Lawful (s : Pattern) : Type 0 where
  pub rules : Rules s
  pub whole : OrderWhole s.n s.order
