use Rattle.std.proofs.Common.{◌≡◌, ◌≢◌, ℕ, ◌+◌, cond, List, Some, None, Ok, Err, Option, Result, MatchResult, sym, ap, ◌∙◌, ap₂}
use Rattle.std.specs.Prelude.{option_map}
use Rattle.std.specs.Result.{result_ok}
use Rattle.std.proofs.lemmas.Bool.{ne_eqb}
use Rattle.plan.specs.Lookups.{start_in, rows_in, index_from, place_in}
use Rattle.plan.specs.Planned.{Arrays}
use Rattle.plan.specs.Views.{arrays_of}
use Rattle.plan.proofs.Spans.{searched_in}
use Rattle.plan.proofs.columns.Column.place.Goals as goal

-- the index that a search of the rows gives, as a place
index_is : (rows : List ℕ) (i first : ℕ) (r : Result ℕ ℕ) (o : Option ℕ)
    → MatchResult r (λ k. index_from (first + 1) rows i ≡ Some (first + 1 + k)) (λ _. index_from (first + 1) rows i ≡ None)
    → result_ok r ≡ o → index_from (first + 1) rows i ≡ option_map (λ k. first + 1 + k) o
index_is rows i first (Ok k) o is e = is ∙ ap (option_map (λ k. first + 1 + k)) e
index_is rows i first (Err k) o is e = is ∙ ap (option_map (λ k. first + 1 + k)) e

-- which is the place of a row that is not the diagonal
place_is : (a : Arrays) (i j first : ℕ) (rows : List ℕ) (r : Result ℕ ℕ) (o : Option ℕ)
    → i ≢ j → first ≡ start_in a j → rows ≡ rows_in a j
    → MatchResult r (λ k. index_from (first + 1) rows i ≡ Some (first + 1 + k)) (λ _. index_from (first + 1) rows i ≡ None)
    → result_ok r ≡ o → option_map (λ k. first + 1 + k) o ≡ place_in a i j
place_is a i j first rows r o apart start is found e =
    sym (index_is rows i first r o found e)
    ∙ ap₂ (λ f r. index_from (f + 1) r i) start is
    ∙ sym (ap (λ t. cond t (Some (start_in a j)) (index_from (start_in a j + 1) (rows_in a j) i)) (ne_eqb j i (λ e. apart (sym e))))

pub returns : goal.returns
returns c =
    let found = searched_in c.rows.result.now c.args.row c.places-diagonal.result.start c.binary_search.result c.rows.ensures.rises c.binary_search.ensures.position in
    place_is (arrays_of c.args.self.plan.now) _ _ _ _ c.binary_search.result (Some c.in_ok-index.index) c.if-row-self.false c.places-diagonal.ensures.start c.rows.ensures.value found (sym c.ok.ensures.value ∙ c.in_ok-index.was)

pub returns-in_err-index : goal.returns-in_err-index
returns-in_err-index c =
    let found = searched_in c.rows.result.now c.args.row c.places-diagonal.result.start c.binary_search.result c.rows.ensures.rises c.binary_search.ensures.position in
    c.from_residual.ensures
    ∙ place_is (arrays_of c.args.self.plan.now) _ _ _ _ c.binary_search.result None c.if-row-self.false c.places-diagonal.ensures.start c.rows.ensures.value found (sym c.ok.ensures.value ∙ c.in_err-index.was)
