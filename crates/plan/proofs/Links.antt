-- The links of a sheet: they go both ways, and none joins a label to itself.
use Rattle.std.proofs.Common.{◌≡◌, ℕ, ◌+◌, ◌-◌, ◌<◌, Bool, false, ◌&&◌, ◌||◌, eqb, ltb, List, [], ◌∷◌, length, get_or, drop, sym, refl, ap, ◌∙◌, ap₂, inl, inr, arith}
use Rattle.std.proofs.lemmas.Bool.Decides.{nat_tests}
use Rattle.std.proofs.lemmas.List.{drop_more}
use Rattle.std.proofs.Math.Bool.{or_comm}
use Rattle.graph.specs.Theorems.{TwoWay}
use Rattle.nodeset.specs.Rows.{linked_also}
use Rattle.sheet.specs.Patterns.{IsLabel, linked_in, SamePair, LinksJoin}
use Rattle.sheet.proofs.Places.{linked_none}
use Rattle.plan.specs.Tables.{Grid}

pub two_way : (links : List (ℕ × ℕ)) → TwoWay (linked_in links)
two_way [] a b = refl
two_way (l ∷ ls) a b = ap₂ (λ x y. x || y) (or_comm (eqb l.0 a && eqb l.1 b) (eqb l.0 b && eqb l.1 a)) (two_way ls a b)

pub itself : (links : List (ℕ × ℕ)) → LinksJoin links → (a : ℕ) → linked_in links a a ≡ false
itself links join a = linked_none links a a (λ i h s. join i (h, same (get_or links i (0, 0)) s)) where
  same : (x : ℕ × ℕ) → SamePair x (a, a) → x.0 ≡ x.1
  same x (inl e) = e.0 ∙ sym e.1
  same x (inr e) = e.0 ∙ sym e.1

-- with the next link of a list in the graph, what the graph and the links that are left have stays
pub linked_turn : (links : List (ℕ × ℕ)) (held after : Grid) (i : ℕ) → i < length links → IsLabel 512 (get_or links i (0, 0)).0 → IsLabel 512 (get_or links i (0, 0)).1
    → ((x y : ℕ) → after x y ≡ linked_also held ((get_or links i (0, 0)).0 - 1) ((get_or links i (0, 0)).1 - 1) x y)
    → (a b : ℕ) → (after a b || linked_in (drop (i + 1) links) (a + 1) (b + 1)) ≡ (held a b || linked_in (drop i links) (a + 1) (b + 1))
linked_turn links held after i h h0 h1 is a b =
    let l = get_or links i (0, 0) in
    let rest = linked_in (drop (i + 1) links) (a + 1) (b + 1) in
    ap (λ t. t || rest) (is a b) ∙ one l.0 l.1 (held a b) rest h0 h1 ∙ ap (λ ls. held a b || linked_in ls (a + 1) (b + 1)) (sym (drop_more links i (0, 0) h)) where
      one : (v w : ℕ) (t s : Bool) → IsLabel 512 v → IsLabel 512 w
          → ((t || ((ltb (v - 1) 512 && ltb (w - 1) 512) && ((eqb (v - 1) a && eqb (w - 1) b) || (eqb (w - 1) a && eqb (v - 1) b)))) || s)
          ≡ (t || (((eqb v (a + 1) && eqb w (b + 1)) || (eqb v (b + 1) && eqb w (a + 1))) || s))
      one v w t s hv hw = grind (arith, nat_tests, hv.0, hv.1, hw.0, hw.1)
