-- What a walk over columns of a plan has given in the end.
use Rattle.std.proofs.Common.{◌≡◌, ℕ, List, Option, None, sym, ap, ◌∙◌}
use Rattle.std.specs.Iterator.{Yields, YieldsFirstBy}
use Rattle.std.specs.List.{flat_map}
use Rattle.std.proofs.lemmas.Iterator.Consumers.{YieldsList-from_first, YieldsList-end}
use Rattle.std.proofs.lemmas.List.Folds.{flat_map-map}
use Rattle.plan.specs.declared.columns.Column.{Column}
use Rattle.plan.specs.declared.plans.Plan.{Plan}
use Rattle.plan.specs.Planned.{Arrays}
use Rattle.plan.specs.Views.{arrays_of}
use Rattle.plan.specs.Walks.{column_is, columns_at}

-- the pieces of all columns that a walk gave, where they were those at some positions
pub walked : {S X : Type 0} (left : S → List (Plan × ℕ)) (f : Arrays → ℕ → List X) (p : Plan) (ks : List ℕ) {s : S} → left s ≡ columns_at p ks
    → (given : List Column) (t : S) → Yields (YieldsFirstBy column_is left) s given t → (r : Option Column) (u : S) → r ≡ None → YieldsFirstBy column_is left t r u
    → flat_map (λ c. f (arrays_of c.plan.now) c.position) given ≡ flat_map (f (arrays_of p)) ks
walked {X = X} left f p ks start given t steps r u none last =
    let all = YieldsList-end (YieldsList-from_first column_is left (columns_at p ks) start) given t steps r u none last in
    let piece : Plan × ℕ → List X = λ c. f (arrays_of c.0) c.1 in
    sym (flat_map-map piece column_is given) ∙ ap (flat_map piece) all.0 ∙ flat_map-map piece (λ k. (p, k)) ks
