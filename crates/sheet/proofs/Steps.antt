-- One word: what it tells where it is accepted, and that the rules go on to hold.
use Rattle.std.proofs.Common.{◌≡◌, ℕ, ◌+◌, ◌<◌, ◌≤◌, false, not, ◌&&◌, eqb, ltb, leb, List, [], ◌∷◌, ◌++◌, length, Ok, sym, refl, ap, ◌∙◌, subst, ⊎_elim, arith}
use Rattle.std.specs.Result.{result_map_both}
use Rattle.std.proofs.lemmas.List.{length_push, nil_from_length, map_push, append-nil, append_assoc}
use Rattle.std.proofs.lemmas.Bool.{and_cases, not-false, leb-false, ltb-false, eqb-true, eqb-false}
use Rattle.sheet.specs.declared.records.Record.{Record}
use Rattle.sheet.specs.declared.records.Record.TheVariants.{Pair, Turn}
use Rattle.sheet.specs.declared.reading.Phase.{Phase}
use Rattle.sheet.specs.declared.reading.Phase.TheVariants.{Start, Body, Ended}
use Rattle.sheet.specs.declared.reading.Fault.TheVariants.{InRecord}
use Rattle.sheet.specs.declared.words.Word.{Word}
use Rattle.sheet.specs.declared.words.Word.TheVariants.{Head, Link, Order, End}
use Rattle.sheet.specs.Records.{labelled, checked, Fits}
use Rattle.sheet.specs.Reading.{State, in_record, within, admitted, put, entered, begun, closed, in_phase, accepted, SoundIn, Sound}
use Rattle.sheet.specs.Patterns.{Pattern, IsLabel, is_label, linked_in, given_in, SamePair, Rules}
use Rattle.sheet.specs.Layouts.{link_words, order_words, sheet_words}
use Rattle.sheet.proofs.Outcomes.{same, both_ok, mapped_ok, refuses_not, passes}
use Rattle.sheet.proofs.Pigeons.{order_fits}
use Rattle.sheet.proofs.Places.{label_from, each_push, pairs_push, given_not, linked_not}

labelled_from : (n a p : ℕ) → labelled n a p ≡ Ok tt → IsLabel n a
labelled_from n a p e = label_from n a (passes (is_label n a) _ _ tt e).0

pub pair_checked : (s : Pattern) (a b p : ℕ) → checked s (Pair a b) p ≡ Ok tt → IsLabel s.n a × IsLabel s.n b × (a ≡ b → ⊥) × (linked_in s.links a b ≡ false)
pair_checked s a b p e =
    let from = both_ok (labelled s.n a p) _ tt e in
    let to = both_ok (labelled s.n b p) _ tt from.2 in
    let apart = refuses_not (eqb a b) _ _ tt to.2 in
    let new = refuses_not (linked_in s.links a b) _ _ tt apart.1 in
    (labelled_from s.n a p from.1, labelled_from s.n b p to.1, eqb-false a b apart.0, new.0)

pub turn_checked : (s : Pattern) (a p : ℕ) → checked s (Turn a) p ≡ Ok tt → IsLabel s.n a × (given_in s.order a ≡ false)
turn_checked s a p e =
    let label = both_ok (labelled s.n a p) _ tt e in
    let new = refuses_not (given_in s.order a) _ _ tt label.2 in
    (labelled_from s.n a p label.1, new.0)

-- what the acceptance of a link tells
pub record Linking (s : Pattern) (a b : ℕ) : Type 0 where
  pub unordered : length s.order ≡ 0
  pub few : length s.links < 4096
  pub from : IsLabel s.n a
  pub to : IsLabel s.n b
  pub apart : a ≡ b → ⊥
  pub new : linked_in s.links a b ≡ false

-- the order is empty and there is room for a link
pub pair_admitted : (s : Pattern) (a b p : ℕ) → admitted s (Pair a b) p ≡ Ok tt → (length s.order ≡ 0) × (length s.links < 4096)
pair_admitted s a b p e =
    let unordered = refuses_not (not (eqb (length s.order) 0)) _ _ tt e in
    let few = refuses_not (leb 4096 (length s.links)) _ _ tt unordered.1 in
    (eqb-true _ _ (not-false _ unordered.0), leb-false _ _ few.0)

-- a record that is entered was admitted and checked
entered_by : (s : Pattern) (e : Record) (p : ℕ) (t : Pattern) → entered s e p ≡ Ok t → (admitted s e p ≡ Ok tt) × (checked s e p ≡ Ok tt) × (put s e ≡ t)
entered_by s e p t h =
    let k = both_ok (admitted s e p) _ t h in
    let l = both_ok (in_record (checked s e p)) _ t k.2 in
    let m = mapped_ok (λ x. x) InRecord (checked s e p) l.0 l.1 in
    (k.1, m.1, same _ _ l.2)

pub pair_entered : (s : Pattern) (a b p : ℕ) (t : Pattern) → entered s (Pair a b) p ≡ Ok t → Linking s a b × (put s (Pair a b) ≡ t)
pair_entered s a b p t e =
    let h = entered_by s (Pair a b) p t e in
    let room = pair_admitted s a b p h.0 in
    let k = pair_checked s a b p h.1 in
    (record { unordered = room.0; few = room.1; from = k.0; to = k.1; apart = k.2; new = k.3 }, h.2)

pub turn_entered : (s : Pattern) (a p : ℕ) (t : Pattern) → entered s (Turn a) p ≡ Ok t → (IsLabel s.n a × (given_in s.order a ≡ false)) × (put s (Turn a) ≡ t)
turn_entered s a p t e = let h = entered_by s (Turn a) p t e in (turn_checked s a p h.1, h.2)

pub rules_head : (n : ℕ) → IsLabel 512 n → Rules (record { n = n; links = []; order = [] })
rules_head n h = record {
  size = h;
  few = omega arith;
  labels = λ i k. absurd (omega arith);
  join = λ i k. absurd (omega (arith, k.0));
  once = λ i j k. absurd (omega (arith, k.1));
  ordered = λ i k. absurd (omega arith);
  ordered_once = λ i j k. absurd (omega (arith, k.1));
}

pub rules_link : (s : Pattern) (a b : ℕ) → Rules s → Linking s a b → Rules (put s (Pair a b))
rules_link s a b r h = record {
  size = r.size;
  few = simp length_push (omega (arith, h.few));
  labels = each_push (0, 0) s.links (a, b) (λ x. IsLabel s.n x.0 × IsLabel s.n x.1) r.labels (h.from, h.to);
  join = λ i k. each_push (0, 0) s.links (a, b) (λ x. x.0 ≡ x.1 → ⊥) (λ i l e. r.join i (l, e)) h.apart i k.0 k.1;
  once = λ i j k. pairs_push (0, 0) s.links (a, b) (λ x y. SamePair x y → ⊥) (λ i j l m e. r.once i j (l, m, e)) (linked_not s.links a b h.new) i j k.0 k.1 k.2;
  ordered = r.ordered;
  ordered_once = r.ordered_once;
}

pub rules_order : (s : Pattern) (a : ℕ) → Rules s → IsLabel s.n a → given_in s.order a ≡ false → Rules (put s (Turn a))
rules_order s a r l g = record {
  size = r.size;
  few = r.few;
  labels = r.labels;
  join = r.join;
  once = r.once;
  ordered = each_push 0 s.order a (IsLabel s.n) r.ordered l;
  ordered_once = λ i j k. pairs_push 0 s.order a (λ x y. x ≡ y → ⊥) (λ i j l m e. r.ordered_once i j (l, m, e)) (given_not s.order a g) i j k.0 k.1 k.2;
}

-- a record that passes all tests has its place
pub fits : (s : Pattern) (e : Record) (p : ℕ) → Rules s → admitted s e p ≡ Ok tt → checked s e p ≡ Ok tt → Fits s e
fits s (Pair a b) p r h k =
    let l = pair_checked s a b p k in
    ((pair_admitted s a b p h).1, ((l.0.0, omega (arith, l.0.1, r.size.1)), (l.1.0, omega (arith, l.1.1, r.size.1))))
fits s (Turn a) p r h k =
    let l = turn_checked s a p k in
    let more = rules_order s a r l.0 l.1 in
    omega (arith, order_fits s.n (s.order ++ a ∷ []) more.ordered more.ordered_once, length_push s.order a, r.size.1)

-- the words that have led to a state
abbrev pub said_in : Phase → Pattern → List Word
said_in Start s = []
said_in Body s = Head s.n ∷ (link_words s.links ++ order_words s.order)
said_in Ended s = sheet_words s

abbrev pub said : State → List Word
said s = said_in s.phase s.sheet

-- the state t, which the word w led to from what was said before
abbrev pub Led : List Word → Word → ℕ → State → Type 0
Led before w p t = Sound t (p + 1) × (said t ≡ before ++ w ∷ [])

led_head : (s : State) (n p : ℕ) (t : State) → SoundIn Start s.sheet p → begun s n p ≡ Ok t → Led [] (Head n) p t
led_head s n p t h e =
    let k = passes (is_label 512 n) _ _ t e in
    let start : Led [] (Head n) p (within (record { n = n; links = []; order = [] })) = ((rules_head n (label_from 512 n k.0), omega (arith, h.1)), refl) in
    subst (Led [] (Head n) p) (same _ _ k.1) (subst (λ x. Led [] (Head n) p (within (record { n = n; links = x.links; order = x.order }))) (sym h.0) start)

said_link : (s : Pattern) (a b : ℕ) → length s.order ≡ 0 → said_in Body (put s (Pair a b)) ≡ said_in Body s ++ Link a b ∷ []
said_link s a b e =
    let o = nil_from_length s.order e in
    ap (λ o. Head s.n ∷ (link_words (s.links ++ (a, b) ∷ []) ++ order_words o)) o ∙ ap (λ l. Head s.n ∷ l) (append-nil _ ∙ map_push (λ x. Link x.0 x.1) s.links (a, b) ∙ ap (λ l. l ++ Link a b ∷ []) (sym (append-nil (link_words s.links)))) ∙ ap (λ o. Head s.n ∷ ((link_words s.links ++ order_words o) ++ Link a b ∷ [])) (sym o)

led_link : (s : Pattern) (a b p : ℕ) (t : State) → SoundIn Body s p → result_map_both within (λ e. e) (entered s (Pair a b) p) ≡ Ok t → Led (said_in Body s) (Link a b) p t
led_link s a b p t h e =
    let m = mapped_ok within (λ e. e) _ t e in
    let k = pair_entered s a b p m.0 m.1 in
    let place : p + 1 ≡ 1 + length (s.links ++ (a, b) ∷ []) + length s.order = simp length_push (omega (arith, h.1)) in
    subst (Led (said_in Body s) (Link a b) p) (ap within k.1 ∙ m.2) ((rules_link s a b h.0 k.0, place), said_link s a b k.0.unordered)

said_order : (s : Pattern) (a : ℕ) → said_in Body (put s (Turn a)) ≡ said_in Body s ++ Order a ∷ []
said_order s a = ap (λ l. Head s.n ∷ (link_words s.links ++ l)) (map_push (λ a. Order a) s.order a) ∙ ap (λ l. Head s.n ∷ l) (sym (append_assoc (link_words s.links) (order_words s.order) (Order a ∷ [])))

led_order : (s : Pattern) (a p : ℕ) (t : State) → SoundIn Body s p → result_map_both within (λ e. e) (entered s (Turn a) p) ≡ Ok t → Led (said_in Body s) (Order a) p t
led_order s a p t h e =
    let m = mapped_ok within (λ e. e) _ t e in
    let k = turn_entered s a p m.0 m.1 in
    let place : p + 1 ≡ 1 + length s.links + length (s.order ++ a ∷ []) = simp length_push (omega (arith, h.1)) in
    subst (Led (said_in Body s) (Order a) p) (ap within k.1 ∙ m.2) ((rules_order s a h.0 k.0.0 k.0.1, place), said_order s a)

whole_from : (n m : ℕ) → (not (eqb m 0) && ltb m n) ≡ false → m ≤ n → 0 < m → m ≡ n
whole_from n m e l h = ⊎_elim (λ f. absurd (omega (arith, eqb-true m 0 (not-false (eqb m 0) f)))) (λ f. omega (arith, ltb-false m n f)) (and_cases (not (eqb m 0)) (ltb m n) e)

led_end : (s : State) (count p : ℕ) (t : State) → SoundIn Body s.sheet p → length s.sheet.order ≤ s.sheet.n → closed s count p ≡ Ok t → Led (said_in Body s.sheet) (End count) p t
led_end s count p t h fits e =
    let x = s.sheet in
    let counted = refuses_not (not (eqb count p)) _ _ t e in
    let whole = refuses_not (not (eqb (length x.order) 0) && ltb (length x.order) x.n) _ _ t counted.1 in
    let c : count ≡ 1 + length x.links + length x.order = eqb-true _ _ (not-false _ counted.0) ∙ h.1 in
    subst (Led (said_in Body x) (End count) p) (same _ _ whole.1)
    ((record { rules = h.0; whole = whole_from x.n (length x.order) whole.0 fits }, omega (arith, h.1)), ap (λ m. Head x.n ∷ (link_words x.links ++ (order_words x.order ++ End m ∷ []))) (sym c) ∙ ap (λ l. Head x.n ∷ l) (sym (append_assoc (link_words x.links) (order_words x.order) (End count ∷ []))))

led_in : (ph : Phase) (s : State) (w : Word) (p : ℕ) (t : State) → SoundIn ph s.sheet p → in_phase ph s w p ≡ Ok t → Led (said_in ph s.sheet) w p t
led_in Start s (Head n) p t h e = led_head s n p t h e
led_in Start s (Link a b) p t h e = absurd (cc)
led_in Start s (Order a) p t h e = absurd (cc)
led_in Start s (End count) p t h e = absurd (cc)
led_in Body s (Head n) p t h e = absurd (cc)
led_in Body s (Link a b) p t h e = led_link s.sheet a b p t h e
led_in Body s (Order a) p t h e = led_order s.sheet a p t h e
led_in Body s (End count) p t h e = led_end s count p t h (order_fits _ _ h.0.ordered h.0.ordered_once) e
led_in Ended s w p t h e = absurd (cc)

pub led : (s : State) (w : Word) (p : ℕ) (t : State) → Sound s p → accepted s w p ≡ Ok t → Led (said s) w p t
led s w p t h e = led_in s.phase s w p t h e
