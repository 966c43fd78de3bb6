-- One run of writes after another.
use Rattle.std.proofs.Common.{◌≡◌, ℕ, suc, ◌+◌, ◌<◌, ◌≤◌, ◌^◌, List, [], ◌∷◌, ◌++◌, length, drop, set, Ok, Err, Result, sym, refl, ap, ◌∙◌, subst, arith, length-append}
use lib.Seq.{sets, sets-eq}
use Rattle.std.specs.List.{flat_map}
use Rattle.std.proofs.lemmas.List.{flat_map_more}
use Rattle.std.proofs.lemmas.Bool.{le-leb, lt-leb, cond-true, cond-false}
use Rattle.listing.specs.declared.refusals.TooShort.{TooShort}
use Rattle.listing.specs.declared.writing.Page.{Page}
use Rattle.listing.specs.Tables.{Puts, answer_for, table_for}

sets_append : {X : Type 0} (xs ys l : List X) (i : ℕ) → sets (sets l i xs) (i + length xs) ys ≡ sets l i (xs ++ ys)
sets_append [] ys l i = let e : i + 0 ≡ i = omega arith in ap (λ k. sets l k ys) e
sets_append (x ∷ xs) ys l i =
    let e : i + suc (length xs) ≡ suc i + length xs = omega arith in
    ap (λ k. sets (sets (set l i x) (suc i) xs) k ys) e ∙ sets_append xs ys (set l i x) (suc i)

pub puts_none : {X : Type 0} (p : Page X) → Puts [] p p
puts_none p = record { same = refl; held = λ h. refl; ends = λ h. omega arith }

pub puts_append : {X : Type 0} {xs ys : List X} {before mid after : Page X} → Puts xs before mid → Puts ys mid after → Puts (xs ++ ys) before after
puts_append {xs = xs} {ys = ys} {before = before} {mid = mid} p q = record {
  same = q.same ∙ p.same;
  held = λ h.
      let u : before.len + length xs < 2 ^ 64 = omega (arith, length-append xs ys) in
      let v : mid.len + length ys < 2 ^ 64 = omega (arith, length-append xs ys, p.ends u) in
      q.held v ∙ ap (λ k. sets mid.table.now k ys) (p.ends u) ∙ ap (λ l. sets l (before.len + length xs) ys) (p.held u)
      ∙ sets_append xs ys before.table.now before.len;
  ends = λ h.
      let u : before.len + length xs < 2 ^ 64 = omega (arith, length-append xs ys) in
      let v : mid.len + length ys < 2 ^ 64 = omega (arith, length-append xs ys, p.ends u) in
      omega (arith, p.ends u, q.ends v, length-append xs ys);
}

-- the same under an equal text
pub puts_as : {X : Type 0} {xs ys : List X} {before after : Page X} → xs ≡ ys → Puts xs before after → Puts ys before after
puts_as {before = before} {after = after} e p = subst (λ zs. Puts zs before after) e p

-- after the pieces of some things, the piece of one more
pub puts_next : {A X : Type 0} (f : A → List X) (done : List A) (a : A) {before mid after : Page X} → Puts (flat_map f done) before mid → Puts (f a) mid after → Puts (flat_map f (done ++ a ∷ [])) before after
puts_next f done a p q = puts_as (flat_map_more f [] done a) (puts_append p q)

-- what a table holds once all is put on a new page of it
pub table_written : {X : Type 0} {xs table after : List X} {new done : Page X} → new.table.now ≡ table → new.len ≡ 0
    → Puts xs new done → length xs < 2 ^ 64 → after ≡ done.table.now → after ≡ sets table 0 xs
table_written {xs = xs} {table = table} {new = new} e z p h d =
    d ∙ p.held (omega arith) ∙ ap (λ k. sets new.table.now k xs) z ∙ ap (λ l. sets l 0 xs) e

-- and how many items were put
pub all_counted : {X : Type 0} {xs : List X} {new done : Page X} → new.len ≡ 0 → Puts xs new done → length xs < 2 ^ 64 → done.len ≡ length xs
all_counted z p h = omega (arith, p.ends (omega arith))

-- where there is room, the call answers how many there are, and the table ends as it says
pub fits : {X : Type 0} (xs table : List X) {count : ℕ} → count ≡ length xs → length xs ≤ length table → ◌≡◌ {A = Result ℕ TooShort} (Ok count) (answer_for xs table)
fits xs table e h = ap Ok e ∙ sym (cond-true _ _ _ (le-leb (length xs) (length table) h))

pub table_filled : {X : Type 0} (xs table : List X) {after : List X} → after ≡ sets table 0 xs → length xs ≤ length table → after ≡ table_for xs table
table_filled xs table p h =
    p ∙ sets-eq xs table 0 (omega arith) ∙ ap (λ n. xs ++ drop n table) (let z : 0 + length xs ≡ length xs = omega arith in z)
    ∙ sym (cond-true _ _ _ (le-leb (length xs) (length table) h))

-- where there is none, the call is refused
pub overflows : {X : Type 0} (xs table : List X) → length table < length xs
    → (◌≡◌ {A = Result ℕ TooShort} (Err (record {})) (answer_for xs table)) × (table ≡ table_for xs table)
overflows xs table h =
    let t = lt-leb (length xs) (length table) h in
    (sym (cond-false _ _ _ t), sym (cond-false _ _ _ t))
