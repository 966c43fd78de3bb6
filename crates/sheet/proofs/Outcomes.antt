-- What a success tells of the steps and tests that it came by.
use Rattle.std.proofs.Common.{◌≡◌, Bool, true, false, cond, Ok, Err, Result, refl}
use Rattle.std.specs.Result.{result_map_both}
use Rattle.sheet.specs.Records.{and_then}

pub same : {X E : Type 0} (x y : X) → ◌≡◌ {A = Result X E} (Ok x) (Ok y) → x ≡ y
same x y h = cc

pub both_ok : {X Y E : Type 0} (r : Result X E) (f : X → Result Y E) (y : Y) → and_then r f ≡ Ok y → (x : X) × (r ≡ Ok x) × (f x ≡ Ok y)
both_ok (Ok x) f y h = (x, refl, h)
both_ok (Err e) f y h = absurd (cc)

pub mapped_ok : {X Y E D : Type 0} (f : X → Y) (g : E → D) (r : Result X E) (y : Y) → result_map_both f g r ≡ Ok y → (x : X) × (r ≡ Ok x) × (f x ≡ y)
mapped_ok f g (Ok x) y h = (x, refl, same _ _ h)
mapped_ok f g (Err e) y h = absurd (cc)

-- a test that refuses where it is true
pub refuses_not : {X E : Type 0} (b : Bool) (e : E) (r : Result X E) (x : X) → cond b (Err e) r ≡ Ok x → (b ≡ false) × (r ≡ Ok x)
refuses_not false e r x h = (refl, h)
refuses_not true e r x h = absurd (cc)

-- a test that refuses where it is false
pub passes : {X E : Type 0} (b : Bool) (e : E) (r : Result X E) (x : X) → cond b r (Err e) ≡ Ok x → (b ≡ true) × (r ≡ Ok x)
passes true e r x h = (refl, h)
passes false e r x h = absurd (cc)
