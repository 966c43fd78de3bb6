-- What calls and lives keep, and what it tells that a call was not refused.
use Rattle.std.proofs.Common.{◌≡◌, ℕ, ◌≤◌, Bool, true, false, ◌||◌, eqb, List, [], ◌∷◌, ◌++◌, Some, None, Option, Result, sym, refl, ◌∙◌, subst, arith}
use Rattle.std.specs.List.{AllByRecursion as All}
use Rattle.std.proofs.lemmas.Bool.{cond-false}
use Rattle.std.proofs.lemmas.Bool.Decides.{nat_tests}
use Rattle.square.specs.declared.refusals.Refusal.{Refusal}
use Rattle.square.specs.declared.standings.Standing.{Standing}
use Rattle.square.specs.Calls.{set_refusal, unless, lived}
use Rattle.square.specs.Refusals.{first_refusal}
use Rattle.square.specs.Squares.{Site, Lengths}

-- what each call keeps, every life keeps
pub lived_keeps : {Q C A : Type 0} (step : Q → C → Q × A) (P : Q → Type 0) → ((q : Q) (c : C) → P q → P (step q c).0)
    → (q : Q) (calls : List C) → P q → P (lived step q calls).0
lived_keeps step P keeps q [] p = p
lived_keeps step P keeps q (c ∷ cs) p = lived_keeps step P keeps (step q c).0 cs (keeps q c p)

-- a life after a life
pub lived_append : {Q C A : Type 0} (step : Q → C → Q × A) (q : Q) (cs ds : List C) → (lived step q (cs ++ ds)).0 ≡ (lived step (lived step q cs).0 ds).0
lived_append step q [] ds = refl
lived_append step q (c ∷ cs) ds = lived_append step (step q c).0 cs ds

-- what holds before a call holds after it if it holds where the call leads that is not refused
pub unless_keeps : {Q A : Type 0} (P : Q → Type 0) (r : Option Refusal) (q : Q) (t : Q × Result A Refusal)
    → P q → (r ≡ None → P t.0) → P (unless r q t).0
unless_keeps P None q t p h = h refl
unless_keeps P (Some r) q t p h = p

pub unless_leads : {Q A : Type 0} (P : Q → Type 0) (r : Option Refusal) (q : Q) (t : Q × Result A Refusal) → r ≡ None → P t.0 → P (unless r q t).0
unless_leads P r q t e p = subst (λ u. P (unless u q t).0) (sym e) p

-- where nothing refuses, none of the conditions holds
pub none_holds : (cs : List (Bool × Refusal)) → first_refusal cs ≡ None → All (λ c. c.0 ≡ false) cs
none_holds [] e = tt
none_holds ((true, r) ∷ cs) e = let z : ◌≡◌ {A = ℕ} 0 1 = cc in absurd (omega arith)
none_holds ((false, r) ∷ cs) e = (refl, none_holds cs e)

pub none_from : (cs : List (Bool × Refusal)) → All (λ c. c.0 ≡ false) cs → first_refusal cs ≡ None
none_from [] h = refl
none_from (c ∷ cs) h = cond-false c.0 (Some c.1) (first_refusal cs) h.0 ∙ none_from cs h.1

-- what it tells of two labels that a number was set for them
pub record Settable (f : Site) (a b : ℕ) : Type 0 where
  pub one : (1 ≤ a) × (a ≤ f.size)
  pub other : (1 ≤ b) × (b ≤ f.size)
  pub pair : (eqb a b || f.linked a b) ≡ true

pub settable : (f : Site) (l : Lengths) (s : Standing) (a b : ℕ) → set_refusal f l s a b ≡ None → Settable f a b
settable f l s a b e = record { one = grind (arith, nat_tests); other = grind (arith, nat_tests); pair = grind (arith, nat_tests) }
