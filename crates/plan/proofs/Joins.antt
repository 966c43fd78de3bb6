-- Row v is joined to one row after the other.
use Rattle.std.proofs.Common.{◌≡◌, ℕ, ◌+◌, ◌<◌, ◌≤◌, true, false, cond, not, ◌&&◌, ◌||◌, eqb, ltb, ◌≢◌, List, length, get_or, set, refl, ap, ◌∙◌, ap₂, inl, inr, arith}
use Rattle.std.proofs.lemmas.List.{get_or-set_same, get_or-set_other}
use Rattle.std.proofs.lemmas.Bool.{cases_eq}
use Rattle.std.proofs.lemmas.Bool.Decides.{nat_tests}
use Rattle.nodeset.specs.Rows.{joined_to}
use Rattle.nodeset.specs.Sets.{count_below}
use Rattle.plan.specs.declared.records.NodeRecord.{NodeRecord}
use Rattle.plan.specs.Tables.{Grid, joined_cell, joined_rows, settled_rows, Agree, Alone, Inside, blank, gone_in, degree_in, Recounted}
use Rattle.plan.proofs.Counts.{count_same}

-- before any row
pub settle_none : (n v : ℕ) (held : Grid) → Agree n held (settled_rows held v 0)
settle_none n v held r b h k = grind (arith, nat_tests)

pub recount_none : (n v : ℕ) (rows : Grid) (nodes : List NodeRecord) → Recounted n rows v 0 nodes nodes
recount_none n v rows nodes = record {
  flags = λ r h. refl;
  degrees = λ r h. grind (arith, nat_tests);
}

-- whether a number below m + 1 is below m, or m
next_below : (r m : ℕ) → r ≢ m → ltb r (m + 1) ≡ ltb r m
next_below r m ne = grind (arith, nat_tests)

-- rows from m up to a that row v does not have are passed over
skipped : (rows : Grid) (v m a r : ℕ) → m ≤ a → ((x : ℕ) → m ≤ x → x < a → rows v x ≡ false) → (ltb r m && rows v r) ≡ (ltb r a && rows v r)
skipped rows v m a r l off = grind (arith, nat_tests, off r)

pub settle_skips : (n v m a : ℕ) (rows held : Grid) → m ≤ a → ((x : ℕ) → m ≤ x → x < a → rows v x ≡ false) → Agree n held (settled_rows rows v m) → Agree n held (settled_rows rows v a)
settle_skips n v m a rows held l off so_far r b h k = so_far r b h k ∙ ap (λ t. cond t (joined_cell rows v r b) (rows r b)) (skipped rows v m a r l off)

pub recount_skips : (n v m a : ℕ) (rows : Grid) (old nodes : List NodeRecord) → m ≤ a → ((x : ℕ) → m ≤ x → x < a → rows v x ≡ false) → Recounted n rows v m old nodes → Recounted n rows v a old nodes
recount_skips n v m a rows old nodes l off counts = record {
  flags = counts.flags;
  degrees = λ r h. counts.degrees r h ∙ ap (λ t. cond t (count_below (joined_cell rows v r) n) (degree_in old r)) (skipped rows v m a r l off);
}

-- row v is as it was
pub row_v : (n v m : ℕ) (rows held : Grid) → v < n → rows v v ≡ false → Agree n held (settled_rows rows v m) → (b : ℕ) → b < n → held v b ≡ rows v b
row_v n v m rows held hv alone so_far b h = grind (arith, so_far v b hv h, alone)

module _ (n v a : ℕ) (rows held : Grid) (hv : v < n) (ha : a < n) (alone : rows v v ≡ false) (so_far : Agree n held (settled_rows rows v a)) where
  -- row a is as it was, too
  row_a : (b : ℕ) → b < n → held a b ≡ rows a b
  row_a b h = grind (arith, nat_tests, so_far a b ha h)

  joined_same : (b : ℕ) → b < n → joined_cell held v a b ≡ joined_cell rows v a b
  joined_same b h = ap₂ (λ x y. not (eqb b a) && (not (eqb b v) && (x || y))) (row_a b h) (row_v n v a rows held hv alone so_far b h)

  -- row v has row a, to which it was joined
  pub settle_row : (after : Grid) → held v a ≡ true → Agree n after (joined_rows held v a) → Agree n after (settled_rows rows v (a + 1))
  settle_row after yes' joins r b h k =
      grind (arith, nat_tests, joins r b h k, joined_same b k, yes', row_v n v a rows held hv alone so_far a ha, so_far r b h k, next_below r a)

  module _ (old nodes : List NodeRecord) (counts : Recounted n rows v a old nodes) where
    pub recount_row : (after : Grid) (nodes' : List NodeRecord) → length nodes ≡ n → held v a ≡ true → Agree n after (joined_rows held v a)
        → nodes' ≡ set nodes a (record { degree = count_below (after a) n; gone = gone_in nodes a }) → Recounted n rows v (a + 1) old nodes'
    recount_row after nodes' len yes' joins is =
        let made : NodeRecord = record { degree = count_below (after a) n; gone = gone_in nodes a } in
        let here : get_or nodes' a blank ≡ made = ap (λ rs. get_or rs a blank) is ∙ get_or-set_same nodes a made blank (omega arith) in
        let there : (r : ℕ) → r ≢ a → get_or nodes' r blank ≡ get_or nodes r blank = λ r ne. ap (λ rs. get_or rs r blank) is ∙ get_or-set_other nodes a r made blank ne in
        let count : count_below (after a) n ≡ count_below (joined_cell rows v a) n =
        count_same _ _ n (λ b h. grind (arith, nat_tests, joins a b ha h, joined_same b h)) in
        record {
          flags = λ r h. elim (cases_eq r a) [ inl e ↦ grind (arith, e, here, counts.flags r h) | inr ne ↦ grind (arith, there r ne, counts.flags r h) ];
          degrees = λ r h.
              elim (cases_eq r a) [
                | inl e ↦ grind (arith, nat_tests, e, here, count, yes', row_v n v a rows held hv alone so_far a ha)
                | inr ne ↦ grind (arith, there r ne, counts.degrees r h, next_below r a ne)
              ];
        }

-- no row has its own column after the joining either
pub alone_joined : (n v a : ℕ) (held after : Grid) → Alone n held → Agree n after (joined_rows held v a) → Alone n after
alone_joined n v a held after alone joins r h = grind (arith, nat_tests, joins r r h h, alone r h)

-- nor has a row a column from n on
pub inside_joined : (n v a : ℕ) (held after : Grid) → Inside n held → ((r b : ℕ) → after r b ≡ joined_rows held v a r b) → Inside n after
inside_joined n v a held after inside joins r b h = grind (arith, nat_tests, joins r b, inside a b h, inside v b h, inside r b h)

-- the rows after a join of the graph
pub joined_is : (held after : Grid) (v a : ℕ) → v < 512 → a < 512 → ((i j : ℕ) → after i j ≡ joined_to held v a i j) → (r b : ℕ) → after r b ≡ joined_rows held v a r b
joined_is held after v a hv ha is r b = grind (arith, nat_tests, is r b)
