use Rattle.std.proofs.Common.{vec_items, sym, ◌∙◌}
use Rattle.std.proofs.lemmas.Bool.{both_ways}
use Rattle.sheet.proofs.Places.{label_test, linked_outside}
use Rattle.sheet.proofs.sheets.Sheet.linked.Goals as goal
use Rattle.sheet.proofs.sheets.Sheet.linked.Goals.{then-is_label, else-is_label}

pub returns-else-is_label-2 : goal.returns-else-is_label-2
returns-else-is_label-2 c =
    let me = c.args.self.now in
    c.if-is_label-2.false ∙ sym (linked_outside me.draft.n (vec_items me.draft.links) c.args.a c.args.b me.lawful.rules.labels
    (λ l. elim c.if-is_label.branch [
      | then-is_label w ↦ both_ways _ (sym w.is_label-then-is_label.ensures ∙ sym w.value-is ∙ c.if-is_label-2.false) (label_test _ _ l.1)
      | else-is_label w ↦ both_ways _ (sym c.is_label.ensures ∙ w.if-is_label.false) (label_test _ _ l.0)
    ]))
