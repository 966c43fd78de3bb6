-- In marks every store that serves has each place of a plan: with the diagonal and every link on, elimination reaches them all.
use Rattle.std.proofs.Common.{◌≡◌, ℕ, zero, suc, ◌<◌, ◌≤◌, Bool, true, false, ◌&&◌, ◌||◌, eqb, List, [], ◌∷◌, ◌++◌, None, sym, refl, ap, ◌∙◌, subst, ⊎_elim, arith}
use Rattle.std.proofs.lemmas.Bool.{or_cases, cases_eq}
use Rattle.std.proofs.lemmas.Bool.Decides.{nat_tests}
use Rattle.std.proofs.Math.Bool.{or-false, and-false}
use Rattle.arith.specs.declared.marks.Mark.{Mark}
use Rattle.arith.specs.Marks.{off}
use Rattle.arith.specs.Operations.{marks}
use Rattle.graph.specs.Columns.{any_below}
use Rattle.plan.specs.Planned.{Arrays, Keeps}
use Rattle.square.specs.declared.calls.Call.{Call}
use Rattle.square.specs.declared.calls.Call.TheVariants.{Clear, Set, Eliminate}
use Rattle.square.specs.declared.standings.Standing.TheVariants.{Cleared}
use Rattle.square.specs.Calls.{is_bare, called, lived}
use Rattle.square.specs.Elimination.{Work, reduced, stepped, eliminated}
use Rattle.square.specs.Plans.{site_of, store_of}
use Rattle.square.specs.Squares.{Matrix, Site, Lengths, Square, bare}
use Rattle.square.specs.Stores.{Closes, Idle, Serves, LeastStore}
use Rattle.graph.proofs.Below.{any_found}
use Rattle.square.proofs.Lives.{lived_append}
use Rattle.square.proofs.Places.{closes}
use Rattle.square.proofs.Serving.{serves}

abbrev mark : Bool → Mark
mark b = record { on = b }

pub marks_idle : Idle marks
marks_idle = record { row = λ a d v. ap mark (or-false a.on); column = λ a u d. ap mark (ap (λ b. a.on || b) (and-false u.on) ∙ or-false a.on) }

module _ (f : Site) (store : ℕ → ℕ → Bool) (close : Closes f store) where
  -- after k steps: none stuck, the diagonal and the links are on, and so is each place that the steps filled
  record Reached (k : ℕ) (w : Work Mark) : Type 0 where
    fine : w.stuck ≡ None
    diagonal : (i : ℕ) → 1 ≤ i → i ≤ f.size → (w.numbers i i).on ≡ true
    links : (i j : ℕ) → 1 ≤ j → j < i → i ≤ f.size → f.linked (f.label i) (f.label j) ≡ true → (w.numbers i j).on ≡ true
    fills : (c i j : ℕ) → 1 ≤ c → c ≤ k → c < j → j < i → i ≤ f.size → store i c ≡ true → store j c ≡ true → (w.numbers i j).on ≡ true

  -- the columns up to the next are whole
  column_on : (k : ℕ) (w : Work Mark) → Reached k w → (i j : ℕ) → 1 ≤ j → j ≤ suc k → j < i → i ≤ f.size → store i j ≡ true → (w.numbers i j).on ≡ true
  column_on k w r i j low b l h e =
      let both : ℕ → Bool = λ c. store i c && store j c in
      ⊎_elim (r.links i j low l h) (λ t. let c = any_found both j t in grind (arith, nat_tests, c, r.fills c.0 i j, close.start i))
      (or_cases (f.linked (f.label i) (f.label j)) (any_below both j) (sym (close.column i j low l h) ∙ e))

  reduced_on : (k : ℕ) (w : Work Mark) → Reached k w → Reached (suc k) (record { numbers = reduced marks (suc k) w.numbers; stuck = None })
  reduced_on k w r = record {
    fine = refl;
    diagonal = λ i low h. grind (arith, nat_tests, r.diagonal i);
    links = λ i j low l h e. grind (arith, nat_tests, r.links i j);
    fills = λ c i j low b d l h e g. grind (arith, nat_tests, r.fills c i j, column_on k w r i c low, column_on k w r j c low);
  }

  eliminated_on : (m : Matrix Mark) → ((i : ℕ) → 1 ≤ i → i ≤ f.size → (m i i).on ≡ true)
      → ((i j : ℕ) → 1 ≤ j → j < i → i ≤ f.size → f.linked (f.label i) (f.label j) ≡ true → (m i j).on ≡ true)
      → (k : ℕ) → k ≤ f.size → Reached k (eliminated marks m k)
  eliminated_on m d l zero h = record { fine = refl; diagonal = d; links = l; fills = λ c i j low b. absurd (omega arith) }
  eliminated_on m d l (suc k) h =
      let w = eliminated marks m k in
      let r = eliminated_on m d l k (omega arith) in
      let goes_on : stepped marks (suc k) w.numbers w.stuck ≡ record { numbers = reduced marks (suc k) w.numbers; stuck = None } =
      grind (arith, nat_tests, r.fine, r.diagonal (suc k)) in
      subst (Reached (suc k)) (sym goes_on) (reduced_on k w r)

  -- calls that set on the first m places of row i, and those of the first n rows; what is neither diagonal nor link is refused
  row_on : ℕ → ℕ → List (Call Mark)
  row_on i zero = []
  row_on i (suc m) = Set (f.label i) (f.label (suc m)) (mark true) ∷ row_on i m

  rows_on : ℕ → List (Call Mark)
  unfolding row_on
  rows_on zero = []
  rows_on (suc n) = row_on (suc n) (suc n) ++ rows_on n

  abbrev long : Lengths
  long = record { entered = f.places; worked = f.places }

  abbrev after : Square Mark → List (Call Mark) → Square Mark
  after q calls = (lived (called marks f long) q calls).0

  abbrev Live : Square Mark → Type 0
  Live q = is_bare q.standing ≡ false

  abbrev On : ℕ → ℕ → Square Mark → Type 0
  On i j q = (q.entered i j).on ≡ true

  abbrev set : Square Mark → ℕ → ℕ → Square Mark
  set q a b = (called marks f long q (Set a b (mark true))).0

  set_keeps_live : (q : Square Mark) (a b : ℕ) → Live q → Live (set q a b)
  set_keeps_live q a b p = grind (arith, nat_tests, p)

  set_keeps_on : (i j : ℕ) (q : Square Mark) (a b : ℕ) → On i j q → On i j (set q a b)
  set_keeps_on i j q a b p = grind (arith, nat_tests, p)

  -- the diagonal, or linked on the sheet
  abbrev Given : ℕ → ℕ → Type 0
  Given i j = (eqb i j || f.linked (f.label i) (f.label j)) ≡ true

  set_on : (q : Square Mark) (i j : ℕ) → Live q → 1 ≤ j → j ≤ i → i ≤ f.size → Given i j → On i j (set q (f.label i) (f.label j))
  set_on q i j live low l h t = grind (arith, nat_tests, live, t, close.labels i, close.labels j)

  -- what each set keeps, rows of them keep
  row_keeps : (P : Square Mark → Type 0) → ((q : Square Mark) (a b : ℕ) → P q → P (set q a b))
      → (q : Square Mark) (i m : ℕ) → P q → P (after q (row_on i m))
  unfolding row_on
  row_keeps P keeps q i zero p = p
  row_keeps P keeps q i (suc m) p = row_keeps P keeps (set q (f.label i) (f.label (suc m))) i m (keeps q (f.label i) (f.label (suc m)) p)

  rows_keep : (P : Square Mark → Type 0) → ((q : Square Mark) (a b : ℕ) → P q → P (set q a b))
      → (q : Square Mark) (n : ℕ) → P q → P (after q (rows_on n))
  unfolding rows_on
  rows_keep P keeps q zero p = p
  rows_keep P keeps q (suc n) p =
      subst P (sym (lived_append (called marks f long) q (row_on (suc n) (suc n)) (rows_on n)))
      (rows_keep P keeps (after q (row_on (suc n) (suc n))) n (row_keeps P keeps q (suc n) (suc n) p))

  row_sets : (q : Square Mark) (i m : ℕ) → Live q → i ≤ f.size → m ≤ i → (j : ℕ) → 1 ≤ j → j ≤ m → Given i j → On i j (after q (row_on i m))
  unfolding row_on
  row_sets q i zero live h b j low l t = absurd (omega arith)
  row_sets q i (suc m) live h b j low l t =
      let a = f.label i in
      let r = set q a (f.label (suc m)) in
      ⊎_elim (λ (c : j ≡ suc m). row_keeps (On i j) (set_keeps_on i j) r i m
      (subst (λ k. On i j (set q a (f.label k))) c (set_on q i j live low (omega arith) h t)))
      (λ (c : j ≡ suc m → ⊥). row_sets r i m (set_keeps_live q a (f.label (suc m)) live) h (omega arith) j low (omega (arith, c)) t)
      (cases_eq j (suc m))

  rows_set : (q : Square Mark) (n : ℕ) → Live q → n ≤ f.size → (i j : ℕ) → 1 ≤ j → j ≤ i → i ≤ n → Given i j → On i j (after q (rows_on n))
  unfolding rows_on
  rows_set q zero live b i j low l h t = absurd (omega arith)
  rows_set q (suc n) live b i j low l h t =
      let r = after q (row_on (suc n) (suc n)) in
      subst (On i j) (sym (lived_append (called marks f long) q (row_on (suc n) (suc n)) (rows_on n)))
      (⊎_elim (λ (c : i ≡ suc n). rows_keep (On i j) (set_keeps_on i j) r n
      (subst (λ k. On i j (after q (row_on k k))) c (row_sets q i i live (omega arith) (omega arith) j low l t)))
      (λ (c : i ≡ suc n → ⊥). rows_set r n (row_keeps Live set_keeps_live q (suc n) (suc n) live) (omega arith) i j low l (omega (arith, c)) t)
      (cases_eq i (suc n)))

  -- clear, set on, eliminate
  witness : List (Call Mark)
  witness = Clear ∷ (rows_on f.size ++ (Eliminate ∷ []))

  cleared : Square Mark
  cleared = record { entered = λ i j. off; worked = λ i j. off; standing = Cleared; tally = 0 }

  entered : Square Mark
  entered = after cleared (rows_on f.size)

  entered_live : Live entered
  unfolding entered cleared
  entered_live = rows_keep Live set_keeps_live cleared f.size refl

  entered_on : (i j : ℕ) → 1 ≤ j → j ≤ i → i ≤ f.size → Given i j → On i j entered
  unfolding entered cleared
  entered_on i j low l h t = rows_set cleared f.size refl (omega arith) i j low l h t

  abbrev worked : Work Mark
  worked = eliminated marks entered.entered f.size

  clear_ends : (called marks f long (bare marks) Clear).0 ≡ cleared
  unfolding cleared
  clear_ends = grind (arith, nat_tests)

  eliminate_ends : (called marks f long entered Eliminate).0.worked ≡ worked.numbers
  eliminate_ends = grind (arith, nat_tests, entered_live)

  witness_ends : (after (bare marks) witness).worked ≡ worked.numbers
  unfolding witness entered
  witness_ends =
      ap (λ (q : Square Mark). (after q (rows_on f.size ++ (Eliminate ∷ []))).worked) clear_ends
      ∙ ap (λ (q : Square Mark). q.worked) (lived_append (called marks f long) cleared (rows_on f.size) (Eliminate ∷ []))
      ∙ eliminate_ends

  reached : Reached f.size worked
  reached = eliminated_on entered.entered
      (λ i low h. entered_on i i low (omega arith) h (grind (arith, nat_tests)))
      (λ i j low l h e. entered_on i j low (omega arith) h (grind (arith, nat_tests)))
      f.size (omega arith)

  witness_on : (i j : ℕ) → 1 ≤ j → j ≤ i → i ≤ f.size → store i j ≡ true → ((after (bare marks) witness).worked i j).on ≡ true
  witness_on i j low l h e = grind (arith, witness_ends, reached.diagonal i, column_on f.size worked reached i j)

  close_least : (other : ℕ → ℕ → Bool) → Serves marks f other → (i j : ℕ) → 1 ≤ j → j ≤ i → i ≤ f.size → store i j ≡ true → other i j ≡ true
  close_least other served i j low l h e = grind (arith, served long witness i j, witness_on i j)

-- the places of a plan are the least store in marks
pub least_store : (a : Arrays) → Keeps a → LeastStore marks a
least_store a keeps = record { serves = serves marks marks_idle a keeps; least = close_least (site_of a) (store_of a) (closes a keeps) }
