use Rattle.std.proofs.Common.{◌≡◌, ℕ, ◌+◌, ◌<◌, ◌≤◌, cond, List, length, drop, Ok, Err, vec_items, vec_len, sym, refl, ap, ◌∙◌, subst, arith}
use Rattle.std.proofs.lemmas.List.{take_at}
use Rattle.std.proofs.lemmas.Result.{err_from_is_err_and}
use Rattle.std.proofs.lemmas.Bool.{le-leb, lt-leb}
use Rattle.graph.proofs.Eliminations.{eliminates}
use Rattle.nodeset.specs.Rows.{linked_in as adjacent}
use Rattle.sheet.specs.Patterns.{Pattern, linked_in}
use Rattle.sheet.specs.Views.{pattern_of}
use Rattle.plan.specs.declared.refusals.Refusal.TheVariants.{TooManyPlaces}
use Rattle.plan.specs.Planned.{Arrays, place_count, planned, arrays_for}
use Rattle.plan.proofs.Links.{two_way}
use Rattle.plan.proofs.Made.{made, seen_length, seen_labels, seen_apart, seen_undoes, seen_later, seen_places}
use Rattle.plan.proofs.Runs.{ended}
use Rattle.plan.proofs.Subjects.{answers}
use Rattle.plan.proofs.making.make.Goals as goal

refused : (price : ℕ → ℕ → ℕ) (s : Pattern) → 8192 < place_count price s.n (linked_in s.links) → Err TooManyPlaces ≡ planned price s
refused price s many = ap (λ t. cond t (Ok (arrays_for price s.n (linked_in s.links))) (Err TooManyPlaces)) (sym (lt-leb (place_count price s.n (linked_in s.links)) 8192 many))

answered : (price : ℕ → ℕ → ℕ) (s : Pattern) (a : Arrays) → place_count price s.n (linked_in s.links) ≤ 8192 → a ≡ arrays_for price s.n (linked_in s.links) → Ok a ≡ planned price s
answered price s a few e = ap (λ x. Ok x) e ∙ ap (λ t. cond t (Ok (arrays_for price s.n (linked_in s.links))) (Err TooManyPlaces)) (sym (le-leb (place_count price s.n (linked_in s.links)) 8192 few))

pub returns-in_err-eliminate_all : goal.returns-in_err-eliminate_all
returns-in_err-eliminate_all g c =
    let s = pattern_of c.args.sheet.now in
    let price = g.R.Rule.priced c.args.rule.now in
    let p = err_from_is_err_and c.from_residual.result c.from_residual.ensures.1 in
    let end = c.in_err-eliminate_all.ensures.ends (linked_in s.links) (two_way s.links) (c.start-planner.ensures.stands price) in
    let many = subst (λ x. 8192 < place_count price x (linked_in s.links)) c.start-planner.ensures.size end.1 in
    rw (p.1, p.2) (record { exact = ap (λ e. Err e) end.0 ∙ refused price s many; answers = answers price s.n (linked_in s.links); keeps = eliminates price s.n (linked_in s.links) })

pub invert-requires : goal.invert-requires
invert-requires g c =
    let s = pattern_of c.args.sheet.now in
    let n = s.n in
    let L = linked_in s.links in
    let price = g.R.Rule.priced c.args.rule.now in
    let end = c.eliminate_all.new.self in
    let run = c.in_ok-eliminate_all.ensures in
    let e = ended price n L c.start-planner.result end c.start-planner.ensures.size run.size (run.ends L (two_way s.links)) (c.start-planner.ensures.stands price) in
    let size : end.n ≡ n = run.size ∙ c.start-planner.ensures.size in
    let seen = c.deref.result.now in
    let len = seen_length price n L _ _ _ _ _ e.stands seen c.deref.ensures.value in
    record {
      small = omega (arith, len, size, end.small);
      size = omega (arith, c.deref_mut.ensures.len, c.truncate.ensures.len, c.args.room.full, len, size, end.small);
      labels = λ k h. let f = seen_labels price n L _ _ _ _ _ e.stands seen c.deref.ensures.value k h in (f.0, omega (arith, f.1, len));
      apart = seen_apart price n L _ _ _ _ _ e.stands seen c.deref.ensures.value;
    }

pub invariant_of-lay_out : goal.invariant_of-lay_out
invariant_of-lay_out g c =
    let s = pattern_of c.args.sheet.now in
    let n = s.n in
    let L = linked_in s.links in
    let price = g.R.Rule.priced c.args.rule.now in
    let end = c.eliminate_all.new.self in
    let run = c.in_ok-eliminate_all.ensures in
    let e = ended price n L c.start-planner.result end c.start-planner.ensures.size run.size (run.ends L (two_way s.links)) (c.start-planner.ensures.stands price) in
    let size : end.n ≡ n = run.size ∙ c.start-planner.ensures.size in
    let seen = c.deref-2.result.now in
    let len = seen_length price n L _ _ _ _ _ e.stands seen c.deref-2.ensures.value in
    let long : length c.invert.new.positions ≡ n = omega (arith, c.invert.auto.positions, c.deref_mut.ensures.len, c.truncate.ensures.len, c.args.room.full, size, end.small) in
    let positions = take_at c.invert.new.positions (drop (length c.invert.new.positions) (vec_items c.truncate.new.self)) (vec_len c.truncate.new.self) (omega (arith, c.invert.auto.positions, c.deref_mut.ensures.len)) in
    let shown : c.deref-3.result.now ≡ c.invert.new.positions = c.deref-3.ensures.value ∙ positions in
    let undoes = seen_undoes price n L _ _ _ _ _ e.stands seen c.deref-2.ensures.value c.deref.result.now c.invert.new.positions c.deref-3.result.now c.deref.ensures.value shown c.invert.ensures in
    record {
      small = omega (arith, len, size, end.small);
      long = ap (λ (xs : List ℕ). length xs) shown ∙ long ∙ sym len;
      ranked = undoes.0;
      placed = undoes.1;
      inside = λ a b h. end.inside a b (omega (arith, h, len, size));
      later = seen_later price n L _ _ _ _ _ e.stands seen c.deref-2.ensures.value;
    }

pub lay_out-requires : goal.lay_out-requires
lay_out-requires g c =
    let s = pattern_of c.args.sheet.now in
    let n = s.n in
    let L = linked_in s.links in
    let price = g.R.Rule.priced c.args.rule.now in
    let end = c.eliminate_all.new.self in
    let run = c.in_ok-eliminate_all.ensures in
    let e = ended price n L c.start-planner.result end c.start-planner.ensures.size run.size (run.ends L (two_way s.links)) (c.start-planner.ensures.stands price) in
    record {
      empty = c.args.room.unlaid;
      few = omega (arith, e.few, seen_places price n L _ _ _ _ _ e.stands c.deref-2.result.now c.deref-2.ensures.value (adjacent end.rows) refl);
    }

pub invariant_of-result : goal.invariant_of-result
invariant_of-result g c =
    let s = pattern_of c.args.sheet.now in
    let n = s.n in
    let L = linked_in s.links in
    let price = g.R.Rule.priced c.args.rule.now in
    let end = c.eliminate_all.new.self in
    let run = c.in_ok-eliminate_all.ensures in
    let e = ended price n L c.start-planner.result end c.start-planner.ensures.size run.size (run.ends L (two_way s.links)) (c.start-planner.ensures.stands price) in
    let size : end.n ≡ n = run.size ∙ c.start-planner.ensures.size in
    let long : length c.invert.new.positions ≡ n = omega (arith, c.invert.auto.positions, c.deref_mut.ensures.len, c.truncate.ensures.len, c.args.room.full, size, end.small) in
    let positions = take_at c.invert.new.positions (drop (length c.invert.new.positions) (vec_items c.truncate.new.self)) (vec_len c.truncate.new.self) (omega (arith, c.invert.auto.positions, c.deref_mut.ensures.len)) in
    let m = made price n L _ _ _ (vec_items end.order) _ e.stands _ c.deref-2.ensures.value (adjacent end.rows) refl
    c.deref.result.now c.invert.new.positions _ (vec_items c.lay_out.new.self.starts) (vec_items c.lay_out.new.self.rows) (vec_items c.lay_out.new.self.links) c.deref.ensures.value positions (ap (λ (xs : List ℕ). length xs) positions ∙ long) c.invert.ensures c.lay_out.ensures.starts c.lay_out.ensures.rows c.lay_out.ensures.links in
    let order : vec_len end.order ≡ n = end.order.ok.0 ∙ seen_length price n L _ _ _ _ _ e.stands (vec_items end.order) refl in
    let k = m.kept (vec_len end.order) order in
    let trunc : vec_len c.truncate.new.self ≡ n = omega (arith, c.truncate.ensures.len, c.args.room.full, size, end.small) in
    let starts = c.lay_out.new.self.starts.ok.0 ∙ m.starts_long in
    let rows = c.lay_out.new.self.rows.ok.0 ∙ m.rows_long in
    let links = c.lay_out.new.self.links.ok.0 ∙ m.links_long ∙ sym c.lay_out.new.self.rows.ok.0 in
    record {
      sizes = (trunc ∙ sym order, starts ∙ ap (λ x. x + 1) (sym order), links);
      bounds = (omega (arith, order, c.start-planner.ensures.some, c.start-planner.ensures.size), omega (arith, order, size, end.small), omega (arith, rows, e.few));
      ranked = k.ranked;
      placed = k.placed;
      starting = k.starting;
      headed = k.headed;
      rising = k.rising;
      within = k.within;
      closed = k.closed;
    }

pub returns : goal.returns
returns g c =
    let s = pattern_of c.args.sheet.now in
    let n = s.n in
    let L = linked_in s.links in
    let price = g.R.Rule.priced c.args.rule.now in
    let end = c.eliminate_all.new.self in
    let run = c.in_ok-eliminate_all.ensures in
    let e = ended price n L c.start-planner.result end c.start-planner.ensures.size run.size (run.ends L (two_way s.links)) (c.start-planner.ensures.stands price) in
    let size : end.n ≡ n = run.size ∙ c.start-planner.ensures.size in
    let long : length c.invert.new.positions ≡ n = omega (arith, c.invert.auto.positions, c.deref_mut.ensures.len, c.truncate.ensures.len, c.args.room.full, size, end.small) in
    let positions = take_at c.invert.new.positions (drop (length c.invert.new.positions) (vec_items c.truncate.new.self)) (vec_len c.truncate.new.self) (omega (arith, c.invert.auto.positions, c.deref_mut.ensures.len)) in
    let m = made price n L _ _ _ (vec_items end.order) _ e.stands _ c.deref-2.ensures.value (adjacent end.rows) refl
    c.deref.result.now c.invert.new.positions _ (vec_items c.lay_out.new.self.starts) (vec_items c.lay_out.new.self.rows) (vec_items c.lay_out.new.self.links) c.deref.ensures.value positions (ap (λ (xs : List ℕ). length xs) positions ∙ long) c.invert.ensures c.lay_out.ensures.starts c.lay_out.ensures.rows c.lay_out.ensures.links in
    record { exact = answered price s _ e.few m.is; answers = answers price n L; keeps = eliminates price n L }
