-- A reading gives s exactly where the bytes are laid out as s.
use Rattle.std.proofs.Common.{◌≡◌, ℕ, ◌+◌, ◌<◌, ◌≤◌, true, false, not, ◌&&◌, eqb, ltb, leb, List, [], ◌∷◌, ◌++◌, length, get_or, Ok, Result, sym, refl, ap, ◌∙◌, subst, arith}
use Rattle.std.specs.List.{AllByRecursion as All}
use Rattle.std.proofs.ByRecursion.{All-append, All-map, All-from_get_or}
use Rattle.std.proofs.lemmas.List.{append-nil, append_assoc, length-append, length_push, get_or_at, get_or_append_left}
use Rattle.std.proofs.lemmas.Bool.{eq-eqb, ne_eqb, lt-leb}
use Rattle.std.proofs.lemmas.Bool.Decides.{nat_tests}
use Rattle.sheet.specs.declared.reading.Phase.{Phase}
use Rattle.sheet.specs.declared.reading.Phase.TheVariants.{Start, Body, Ended}
use Rattle.sheet.specs.declared.reading.Fault.{Fault}
use Rattle.sheet.specs.declared.words.Word.{Word}
use Rattle.sheet.specs.declared.words.Word.TheVariants.{Head, Link, Order, End}
use Rattle.sheet.specs.declared.words.WordFault.{WordFault}
use Rattle.sheet.specs.Layouts.{number, four_bytes, encoded, link_words, order_words, sheet_words, Layout, Reads, ReadsLayouts, OneSheet}
use Rattle.sheet.specs.Reading.{State, blank, within, accepted, finished, at_end, in_word, run, read_sheet, SoundIn, Sound}
use Rattle.sheet.specs.Records.{and_then}
use Rattle.sheet.specs.Patterns.{Pattern, IsLabel, linked_in, given_in, SamePair, LinkLabels, LinksJoin, LinksOnce, OrderLabels, OrderOnce, OrderWhole, Rules, Lawful}
use Rattle.sheet.specs.Words.{word, decoded}
use Rattle.sheet.proofs.Codes.{Ranged, number_fits, word_bytes, bytes_word, word_fits, decode_number, number_decode, encoded_append}
use Rattle.sheet.proofs.Prefix.{then_same}
use Rattle.sheet.proofs.Pigeons.{order_fits}
use Rattle.sheet.proofs.Places.{label_test, given_none, linked_none}
use Rattle.sheet.proofs.Outcomes.{same, both_ok, mapped_ok}
use Rattle.sheet.proofs.Steps.{said, said_in, led}

-- From a reading to the layout.

at_end_lem : (ph : Phase) (s : Pattern) (p : ℕ) (t : Pattern) → SoundIn ph s p → at_end ph s p ≡ Ok t → (encoded (said_in ph s) ++ [] ≡ encoded (sheet_words t)) × Lawful t
at_end_lem Start s p t h e = absurd (cc)
at_end_lem Body s p t h e = absurd (cc)
at_end_lem Ended s p t h e =
    subst (λ t. (encoded (said_in Ended s) ++ [] ≡ encoded (sheet_words t)) × Lawful t) (same _ _ e) (append-nil _, h.0)

-- the word and the state that a reading goes on from
went_on : (s : State) (p : ℕ) (d : Result Word WordFault) (f : State → Result Pattern Fault) (t : Pattern) → and_then (in_word d) (λ w. and_then (accepted s w p) f) ≡ Ok t → (w : Word) × (u : State) × (d ≡ Ok w) × (accepted s w p ≡ Ok u) × (f u ≡ Ok t)
went_on s p d f t h =
    let k = both_ok (in_word d) _ t h in
    let m = mapped_ok (λ x. x) _ d k.0 k.1 in
    let l = both_ok (accepted s k.0 p) f t k.2 in
    (k.0, l.0, m.1 ∙ ap Ok m.2, l.1, l.2)

laid : (s : State) (p : ℕ) (l : List ℕ) (t : Pattern) → Sound s p → All (λ b. b < 256) l → run s p l ≡ Ok t → (encoded (said s) ++ l ≡ encoded (sheet_words t)) × Lawful t
unfolding run
laid s p [] t h fit e = at_end_lem s.phase s.sheet p t h e
laid s p (a ∷ []) t h fit e = absurd (cc)
laid s p (a ∷ b ∷ []) t h fit e = absurd (cc)
laid s p (a ∷ b ∷ c ∷ []) t h fit e = absurd (cc)
laid s p (a ∷ b ∷ c ∷ d ∷ l) t h fit e =
    let k = went_on s p (decoded (word a b c d) p) (λ u. run u (p + 1) l) t e in
    let step = led s k.0 p k.1 h k.3 in
    let rest = laid k.1 (p + 1) l t step.0 fit.1.1.1.1 k.4 in
    let v = number_decode (word a b c d) p k.0 (word_fits a b c d fit.0 fit.1.0 fit.1.1.0 fit.1.1.1.0) k.2 in
    let four = ap four_bytes v ∙ bytes_word a b c d fit.0 fit.1.0 fit.1.1.0 fit.1.1.1.0 in
    let now : encoded (said k.1) ≡ encoded (said s) ++ a ∷ b ∷ c ∷ d ∷ [] = ap encoded step.1 ∙ encoded_append (said s) (k.0 ∷ []) ∙ ap (λ l. encoded (said s) ++ l) (append-nil (four_bytes (number k.0)) ∙ four) in
    (sym (append_assoc (encoded (said s)) (a ∷ b ∷ c ∷ d ∷ []) l) ∙ ap (λ x. x ++ l) (sym now) ∙ rest.0, rest.1)

pub layout_from : (bytes : List ℕ) → ((i : ℕ) → i < length bytes → get_or bytes i 0 < 256) → (s : Pattern) → read_sheet bytes ≡ Ok s → Layout bytes s
layout_from bytes fit s e = let h = laid blank 0 bytes s (refl, refl) (All-from_get_or (λ b. b < 256) bytes 0 fit) e in record { laid = h.0; lawful = h.1 }

-- From the layout to a reading.

-- the words in turn, from place p on
abbrev over : State → ℕ → List Word → Result Pattern Fault
over s p [] = finished s p
over s p (w ∷ ws) = and_then (accepted s w p) (λ t. over t (p + 1) ws)

run_over : (s : State) (p : ℕ) (ws : List Word) → All Ranged ws → run s p (encoded ws) ≡ over s p ws
unfolding run
run_over s p [] r = refl
run_over s p (w ∷ ws) r =
    ap (λ v. and_then (in_word (decoded v p)) (λ w. and_then (accepted s w p) (λ t. run t (p + 1) (encoded ws)))) (word_bytes (number w) (number_fits w r.0)) ∙ ap (λ d. and_then (in_word d) (λ w. and_then (accepted s w p) (λ t. run t (p + 1) (encoded ws)))) (decode_number w p r.0) ∙ then_same (accepted s w p) (λ t. run t (p + 1) (encoded ws)) (λ t. over t (p + 1) ws) (λ t e. run_over t (p + 1) ws r.1)

step_over : (s : State) (p : ℕ) (w : Word) (ws : List Word) (t : State) → accepted s w p ≡ Ok t → over s p (w ∷ ws) ≡ over t (p + 1) ws
step_over s p w ws t e = ap (λ r. and_then r (λ t. over t (p + 1) ws)) e

link_passes : (n : ℕ) (links : List (ℕ × ℕ)) (a b p : ℕ) → length links < 4096 → IsLabel n a → IsLabel n b → (a ≡ b → ⊥) → linked_in links a b ≡ false → accepted (within (record { n = n; links = links; order = [] })) (Link a b) p ≡ Ok (within (record { n = n; links = links ++ (a, b) ∷ []; order = [] }))
link_passes n links a b p few ha hb ne new =
    let e0 : leb 4096 (length links) ≡ false = lt-leb 4096 (length links) few in
    let e1 = label_test n a ha in
    let e2 = label_test n b hb in
    let e3 : eqb a b ≡ false = ne_eqb a b ne in
    simp (e0, e1, e2, e3, new)

order_passes : (s : Pattern) (a p : ℕ) → IsLabel s.n a → given_in s.order a ≡ false → accepted (within s) (Order a) p ≡ Ok (within (record { n = s.n; links = s.links; order = s.order ++ a ∷ [] }))
order_passes s a p h new = let e = label_test s.n a h in simp (e, new)

end_passes : (s : Pattern) (p : ℕ) → OrderWhole s.n s.order → accepted (within s) (End p) p ≡ Ok (record { phase = Ended; sheet = s })
end_passes s p whole =
    let e0 : eqb p p ≡ true = eq-eqb p p refl in
    let e1 : (not (eqb (length s.order) 0) && ltb (length s.order) s.n) ≡ false = test (length s.order) s.n whole in
    simp (e0, e1) where
      test : (m n : ℕ) → (0 < m → m ≡ n) → (not (eqb m 0) && ltb m n) ≡ false
      test m n h = grind (arith, nat_tests)

-- the links from place `length done` on
over_links : (n : ℕ) (done rest all : List (ℕ × ℕ)) (more : List Word) → done ++ rest ≡ all → length all ≤ 4096 → LinkLabels n all → LinksJoin all → LinksOnce all → over (within (record { n = n; links = done; order = [] })) (1 + length done) (link_words rest ++ more) ≡ over (within (record { n = n; links = all; order = [] })) (1 + length all) more
over_links n done [] all more e few labels join once = ap (λ l. over (within (record { n = n; links = l; order = [] })) (1 + length l) more) (sym (append-nil done) ∙ e)
over_links n done (x ∷ rest) all more e few labels join once =
    let i = length done in
    let size : length all ≡ length done + length (x ∷ rest) = ap length (sym e) ∙ length-append done (x ∷ rest) in
    let here : get_or all i (0, 0) ≡ x = ap (λ l. get_or l i (0, 0)) (sym e) ∙ get_or_at done x rest (0, 0) i refl in
    let inside : i < length all = omega arith in
    let label : IsLabel n x.0 × IsLabel n x.1 = subst (λ y. IsLabel n y.0 × IsLabel n y.1) here (labels i inside) in
    let new : linked_in done x.0 x.1 ≡ false =
    linked_none done x.0 x.1
    (λ j h s. once j i (h, inside, subst (λ y. SamePair y (get_or all i (0, 0))) (sym (get_or_append_left done (x ∷ rest) (0, 0) j h) ∙ ap (λ l. get_or l j (0, 0)) e) (subst (λ y. SamePair (get_or done j (0, 0)) y) (sym here) s))) in
    step_over (within (record { n = n; links = done; order = [] })) (1 + i) (Link x.0 x.1) (link_words rest ++ more) _ (link_passes n done x.0 x.1 (1 + i) (omega arith) label.0 label.1 (λ f. join i (inside, subst (λ y. y.0 ≡ y.1) (sym here) f)) new) ∙ ap (λ p. over (within (record { n = n; links = done ++ x ∷ []; order = [] })) p (link_words rest ++ more)) (next (length (done ++ x ∷ [])) (length_push done x)) ∙ over_links n (done ++ x ∷ []) rest all more (append_assoc done (x ∷ []) rest ∙ e) few labels join once where
      next : (m : ℕ) → m ≡ length done + 1 → 1 + length done + 1 ≡ 1 + m
      next m f = omega arith

over_order : (n : ℕ) (links : List (ℕ × ℕ)) (done rest all : List ℕ) (more : List Word) → done ++ rest ≡ all → OrderLabels n all → OrderOnce all → over (within (record { n = n; links = links; order = done })) (1 + length links + length done) (order_words rest ++ more) ≡ over (within (record { n = n; links = links; order = all })) (1 + length links + length all) more
over_order n links done [] all more e labels once = ap (λ l. over (within (record { n = n; links = links; order = l })) (1 + length links + length l) more) (sym (append-nil done) ∙ e)
over_order n links done (x ∷ rest) all more e labels once =
    let i = length done in
    let size : length all ≡ length done + length (x ∷ rest) = ap length (sym e) ∙ length-append done (x ∷ rest) in
    let here : get_or all i 0 ≡ x = ap (λ l. get_or l i 0) (sym e) ∙ get_or_at done x rest 0 i refl in
    let inside : i < length all = omega arith in
    let label : IsLabel n x = subst (IsLabel n) here (labels i inside) in
    let new : given_in done x ≡ false = given_none done x (λ j h. once j i (h.0, inside, ap (λ l. get_or l j 0) (sym e) ∙ get_or_append_left done (x ∷ rest) 0 j h.0 ∙ h.1 ∙ sym here)) in
    step_over (within (record { n = n; links = links; order = done })) (1 + length links + i) (Order x) (order_words rest ++ more) _ (order_passes (record { n = n; links = links; order = done }) x (1 + length links + i) label new) ∙ ap (λ p. over (within (record { n = n; links = links; order = done ++ x ∷ [] })) p (order_words rest ++ more)) (next (length (done ++ x ∷ [])) (length_push done x)) ∙ over_order n links (done ++ x ∷ []) rest all more (append_assoc done (x ∷ []) rest ∙ e) labels once where
      next : (m : ℕ) → m ≡ length done + 1 → 1 + length links + length done + 1 ≡ 1 + length links + m
      next m f = omega arith

none : (m : ℕ) → 1 + m ≡ 1 + m + 0
none m = omega arith

over_sheet : (s : Pattern) → Rules s → OrderWhole s.n s.order → over blank 0 (sheet_words s) ≡ Ok s
over_sheet s r whole =
    let size = label_test 512 s.n r.size in
    let p = 1 + length s.links + length s.order in
    let end = order_words s.order ++ End p ∷ [] in
    let head : accepted blank (Head s.n) 0 ≡ Ok (within (record { n = s.n; links = []; order = [] })) = simp size in
    step_over blank 0 (Head s.n) (link_words s.links ++ end) _ head ∙ over_links s.n [] s.links s.links end refl r.few r.labels r.join r.once ∙ ap (λ q. over (within (record { n = s.n; links = s.links; order = [] })) q end) (none (length s.links)) ∙ over_order s.n s.links [] s.order s.order (End p ∷ []) refl r.ordered r.ordered_once ∙ step_over (within s) p (End p) [] _ (end_passes s p whole)

ranged : (s : Pattern) → Rules s → All Ranged (sheet_words s)
ranged s r =
    (omega (arith, r.size.1), All-append Ranged (link_words s.links) _ (All-map Ranged (λ x. Link x.0 x.1) s.links (All-from_get_or _ s.links (0, 0) (λ i h. (omega (arith, (r.labels i h).0.1, r.size.1), omega (arith, (r.labels i h).1.1, r.size.1))))) (All-append Ranged (order_words s.order) _ (All-map Ranged (λ a. Order a) s.order (All-from_get_or _ s.order 0 (λ i h. omega (arith, (r.ordered i h).1, r.size.1)))) (omega (arith, r.few, r.size.1, order_fits s.n s.order r.ordered r.ordered_once), tt)))

pub layout_to : (bytes : List ℕ) (s : Pattern) → Layout bytes s → read_sheet bytes ≡ Ok s
layout_to bytes s l = ap read_sheet l.laid ∙ run_over blank 0 (sheet_words s) (ranged s l.lawful.rules) ∙ over_sheet s l.lawful.rules l.lawful.whole

pub reads_layouts : ReadsLayouts
reads_layouts bytes fit s = (layout_from bytes fit s, layout_to bytes s)

-- what a call that reads exactly gives
pub reads_from : (bytes : List ℕ) (r : Result Pattern Fault) → ((i : ℕ) → i < length bytes → get_or bytes i 0 < 256) → r ≡ read_sheet bytes → Reads r bytes
reads_from bytes r fit e = subst (λ r. Reads r bytes) (sym e) (reads_layouts bytes fit)

pub one_sheet : OneSheet
one_sheet bytes s t l m = same s t (sym (layout_to bytes s l) ∙ layout_to bytes t m)
