-- An update of the part of a table is an update of the table.
use Rattle.std.proofs.Common.{◌≡◌, ℕ, ◌+◌, ◌-◌, ◌<◌, ◌≤◌, List, ◌++◌, length, get_or, take, drop, ap, ◌∙◌, inl, inr, arith}
use borrow.Rule.Slice.PartMut.{put_mid, post_of}
use Rattle.std.proofs.lemmas.List.{length-take-le, get_or_append_left, get_or-append_right, get_or-take, get_or-drop, append-nil, drop_all, length-drop, take_rest}
use Rattle.std.proofs.lemmas.Bool.{cases_lt}
use Rattle.arith.specs.Operations.{Operations}
use Rattle.numeric.specs.Updates.{Updated}

-- An update of the part of a table from s on is an update of the whole.
module _ {X : Type 0} (o : Operations X) (w t : List X) (s : ℕ) (fits : s ≤ length w) (long : length t ≡ length w - s) where
  whole_past : (x : ℕ) → get_or (put_mid s (length w - s) w t) (s + x) o.nothing ≡ get_or t x o.nothing
  whole_past x =
      let front : length (take s w) ≡ s = length-take-le s w fits in
      let rest : post_of s (length w - s) w ≡ _ = drop_all (length w - s) (drop s w) (omega (arith, length-drop s w)) in
      let e : s + x - s ≡ x = omega arith in
      get_or-append_right (take s w) (t ++ post_of s (length w - s) w) s (s + x) o.nothing front (omega arith)
      ∙ ap (λ k. get_or (t ++ post_of s (length w - s) w) k o.nothing) e
      ∙ ap (λ l. get_or (t ++ l) x o.nothing) rest
      ∙ ap (λ l. get_or l x o.nothing) (append-nil t)

  whole_before : (q : ℕ) → q < s → get_or (put_mid s (length w - s) w t) q o.nothing ≡ get_or w q o.nothing
  whole_before q h =
      let front : length (take s w) ≡ s = length-take-le s w fits in
      get_or_append_left (take s w) (t ++ post_of s (length w - s) w) o.nothing q (omega arith) ∙ get_or-take s w q o.nothing h

  updated_on : (rows : List ℕ) (source past target stop : ℕ) → s ≤ source → s ≤ target
      → Updated o (drop s rows) 0 (source - s) (past - s) (target - s) (stop - s) (drop s w) t
      → Updated o rows s source past target stop w (put_mid s (length w - s) w t)
  updated_on rows source past target stop hs ht u = record {
    met = λ p q m.
        let p_is : s + (p - s) ≡ p = omega (arith, m.0) in
        let q_is : s + (q - s) ≡ q = omega (arith, m.2) in
        let s_is : s + 0 ≡ s = omega arith in
        let source_is : s + (source - s) ≡ source = omega arith in
        let row_p = get_or-drop s rows (p - s) 0 in
        let row_q = get_or-drop s rows (q - s) 0 in
        let same = m.4 in
        let rows_same : get_or (drop s rows) (p - s) 0 ≡ get_or (drop s rows) (q - s) 0 = cc in
        let got = u.met (p - s) (q - s) (omega (arith, m.0), omega (arith, m.0, m.1), omega (arith, m.2), omega (arith, m.2, m.3), rows_same) in
        let a = get_or-drop s w (q - s) o.nothing in
        let b = get_or-drop s w (p - s) o.nothing in
        let d = get_or-drop s w 0 o.nothing in
        let v = get_or-drop s w (source - s) o.nothing in
        let out = whole_past (q - s) in
        cc;
    missed = λ q none. elim (cases_lt q s) [
      | inl h ↦ whole_before q h
      | inr h ↦
          (let q_is : s + (q - s) ≡ q = omega arith in
          let row_q = get_or-drop s rows (q - s) 0 in
          let old = u.missed (q - s) (λ p m.
          let row_p = get_or-drop s rows p 0 in
          let same = m.4 in
          none (s + p) (omega (arith, m.0), omega (arith, m.1), omega (arith, m.2), omega (arith, m.3), (cc))) in
          let a = get_or-drop s w (q - s) o.nothing in
          let out = whole_past (q - s) in
          cc)
    ];
  }

  pub updated_whole : (rows : List ℕ) (source past target stop : ℕ) → s ≤ source → s ≤ target
      → Updated o (take (length rows - s) (drop s rows)) 0 (source - s) (past - s) (target - s) (stop - s) (take (length w - s) (drop s w)) t
      → Updated o rows s source past target stop w (put_mid s (length w - s) w t)
  updated_whole rows source past target stop hs ht u = updated_on rows source past target stop hs ht (rw (take_rest rows s, take_rest w s) at u)
