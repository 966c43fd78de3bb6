use Rattle.std.proofs.Common.{sym, ap, ◌∙◌, subst, arith}
use Rattle.sheet.specs.Reading.{run, Sound}
use Rattle.sheet.specs.Views.{state_of}
use Rattle.std.proofs.lemmas.Result.{err_from_is_err_and}
use Rattle.sheet.proofs.Layouts.{reads_from, reads_layouts, one_sheet}
use Rattle.sheet.proofs.Prefix.{reads_front}
use Rattle.sheet.proofs.Runs.{seen_as, run_next, run_on}
use Rattle.sheet.proofs.Steps.{led}
use Rattle.sheet.proofs.reading.read.Goals as goal

pub returns-in_err-word : goal.returns-in_err-word
returns-in_err-word c =
    let p = err_from_is_err_and c.from_residual.result c.from_residual.ensures.1 in
    let e = sym (c.loop-reader.invariant.run ∙ run_next _ _ _ _ c.in_err-word.ensures) in
    rw (p.1, p.2) (record { exact = e; layout = reads_from _ _ (λ i _. omega (arith, c.type_inv.bytes i)) e; layouts = reads_layouts; one = one_sheet; front = reads_front })

pub returns-in_err-accept : goal.returns-in_err-accept
returns-in_err-accept c =
    let h = seen_as c.in-Some.is c.in_ok-word.ensures in
    let p = err_from_is_err_and c.from_residual-in_err-accept.result c.from_residual-in_err-accept.ensures.1 in
    let e = sym (c.loop-reader.invariant.run ∙ run_on _ _ _ _ _ _ h c.in_err-accept.ensures.state) in
    rw (p.1, p.2) (record { exact = e; layout = reads_from _ _ (λ i _. omega (arith, c.type_inv.bytes i)) e; layouts = reads_layouts; one = one_sheet; front = reads_front })

pub loop-reader-preserved : goal.loop-reader-preserved
loop-reader-preserved c =
    let h = seen_as c.in-Some.is c.in_ok-word.ensures in
    let e = c.in_ok-accept.ensures.state in
    let place = sym c.in_ok-accept.ensures.place in
    record {
      run = c.loop-reader.invariant.run ∙ run_on _ _ _ _ _ _ h e ∙ ap (λ p. run (state_of c.accept.new.self) p c.in-Some.after.now) place;
      sound = subst (λ p. Sound (state_of c.accept.new.self) p) place (led _ _ _ _ c.loop-reader.invariant.sound (sym e)).0;
    }

pub returns : goal.returns
returns c =
    let h = seen_as c.in_default.is c.in_ok-word.ensures in
    let e = c.finish.ensures ∙ sym (c.loop-reader.invariant.run ∙ run_next _ _ _ _ h) in
    record { exact = e; layout = reads_from _ _ (λ i _. omega (arith, c.type_inv.bytes i)) e; layouts = reads_layouts; one = one_sheet; front = reads_front }
