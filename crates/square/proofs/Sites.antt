-- The square of a sheet's plan knows what the sheet says.
use Rattle.std.proofs.Common.{◌≡◌, ℕ, ◌+◌, ◌-◌, ◌<◌, ◌≤◌, Bool, ◌&&◌, ◌||◌, Ok, sym, ap, ◌∙◌, subst, arith}
use Rattle.std.proofs.lemmas.Bool.Decides.{nat_tests}
use Rattle.graph.specs.Columns.{column, label_at, member}
use Rattle.graph.specs.Graphs.{Graph, start}
use Rattle.graph.specs.Picking.{Price}
use Rattle.graph.proofs.Equations.{column_equation}
use Rattle.graph.proofs.Members.{member_column}
use Rattle.plan.specs.Laid.{sheet_link}
use Rattle.plan.specs.Lookups.{size_in, label_in, position_in, place_in, place_of}
use Rattle.plan.specs.Planned.{Arrays, Keeps, arrays_for, planned}
use Rattle.plan.proofs.Assembled.{on_sheet_is}
use Rattle.plan.proofs.Links as sheet
use Rattle.plan.proofs.Subjects.{answers}
use Rattle.sheet.specs.Patterns.{Pattern, linked_in}
use Rattle.square.specs.Plans.{link_at, site_of}
use Rattle.square.specs.Sites.{Knows}
use Rattle.square.proofs.Places.{two_way, position_label, link_is, place_linked}

absorbed : (x y : Bool) → ((x || y) && x) ≡ x
absorbed x y = grind arith

module _ (price : Price) (n : ℕ) (linked : ℕ → ℕ → Bool) where
  abbrev g : Graph
  g = start n linked

  abbrev A : Arrays
  A = arrays_for price n linked

  module _ (keeps : Keeps A) where
    abbrev long : size_in A ≡ n
    long = (answers price n linked).size

    -- two positions are linked where their labels are on the sheet: what is linked there is in the column
    link_at_lem : (i j : ℕ) → 1 ≤ j → j < i → i ≤ n → link_at A (place_in A i j) ≡ linked (label_at price g j) (label_at price g i)
    link_at_lem i j low l high =
        let at : j - 1 + 1 ≡ j = omega arith in
        let column_is = member_column price n linked j i low l high ∙ column_equation price n linked (j - 1) (i - 1) in
        place_linked A keeps j low (omega (arith, long)) i
        ∙ on_sheet_is (column price g n) (sheet_link price g) n (j - 1) i (omega arith)
        ∙ ap (λ k. member i (column price g n k) && sheet_link price g k i) at
        ∙ ap (λ t. t && sheet_link price g j i) column_is ∙ absorbed (sheet_link price g j i) _

    linked_as : ((a b : ℕ) → linked a b ≡ linked b a) → (v w : ℕ) → 1 ≤ v → v ≤ n → 1 ≤ w → w ≤ n → (v ≡ w → ⊥) → link_at A (place_of A v w) ≡ linked v w
    linked_as both v w lv hv lw hw apart =
        let fv = position_label A keeps v lv (omega (arith, long)) in
        let fw = position_label A keeps w lw (omega (arith, long)) in
        let i = position_in A v in
        let j = position_in A w in
        let ei = (answers price n linked).labels i fv.0 (omega (arith, long, fv.1)) in
        let ej = (answers price n linked).labels j fw.0 (omega (arith, long, fw.1)) in
        grind (arith, fv, fw, ei, ej, long, link_is A keeps i j, link_is A keeps j i, link_at_lem i j, link_at_lem j i, two_way A keeps v w, both v w, ap (label_in A), apart)

-- the plan of a sheet is what the definitions give
is_planned : (price : Price) (s : Pattern) (a : Arrays) → planned price s ≡ Ok a → arrays_for price s.n (linked_in s.links) ≡ a
is_planned price s a e = grind (arith, nat_tests, e)

pub knows : (price : Price) (s : Pattern) (a : Arrays) → planned price s ≡ Ok a → Keeps a → Knows price s (site_of a)
knows price s a e keeps =
    let is = is_planned price s a e in
    let L = linked_in s.links in
    let told = answers price s.n L in
    subst (λ (x : Arrays). Knows price s (site_of x)) is (record {
      size = told.size;
      links = linked_as price s.n L (subst Keeps (sym is) keeps) (sheet.two_way s.links);
      labels = told.labels;
      positions = told.positions;
      places = told.places;
    })
