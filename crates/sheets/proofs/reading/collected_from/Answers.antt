use Rattle.std.proofs.Common.{◌≡◌, ◌+◌, [], ◌∷◌, Err, vec_items, rules, sym, subst, ap, ◌∙◌, arith}
use Rattle.std.specs.Io.BufRead.{drop_through}
use Rattle.std.specs.Io.Iter.{split_byte, split_known_bytes}
use Rattle.sheets.specs.Whole.{ComesTo, lines_of}
use Rattle.sheets.specs.declared.reading.Unrecorded.TheVariants.{Unmade}
use Rattle.sheets.specs.declared.whole.NotRecorded.TheVariants.{Line}
use Rattle.sheets.proofs.Coming.{Numbered, Steps, step}
use Rattle.sheets.proofs.Pieces.{fed, fed_all, fewer, if_known, some_pieces}
use Rattle.sheets.proofs.reading.collected_from.Goals as goal

pub loop-text-init : goal.loop-text-init
loop-text-init g c =
    let into = c.into_iter-text-iterator.ensures.into_iter_gives in
    record {
      can_next = tt;
      finite = tt;
      feeds = ap split_byte into ∙ c.split-text-items.ensures.byte;
      count = omega arith;
      whole = λ text known. (text, ap (split_known_bytes g.B.Read.remaining) into ∙ c.split-text-items.ensures.bytes ∙ known, λ r more. (c.new-sheet.result, c.new-sheet.ensures, more));
    }

pub loop-text-preserved : goal.loop-text-preserved
loop-text-preserved g c =
    let inv = c.loop-text.invariant in
    let said : Numbered c.loop-text.line c.line.result c.map_err.result = search rules in
    let goes = fewer _ _ _ _ _ _ c.next.ensures.goes c.in-Some.is tt in
    let feed = fed vec_items _ _ _ _ c.next.ensures.steps.2 inv.feeds c.in_ok-text.text (search rules) in
    record {
      can_next = tt;
      finite = tt;
      feeds = c.next.ensures.steps.1 ∙ inv.feeds;
      count = omega (arith, inv.count, goes, c.saturating_add-line.ensures);
      whole = λ text known.
          let w = inv.whole text known in
          let f = feed w.0 w.1 in
          let cut = f.1 ∙ ap (λ p. p ∷ lines_of (drop_through 10 w.0)) (sym c.as_slice.ensures.value) in
          let at = step c.loop-text.sheet c.loop-text.line _ _ _ cut c.line.result c.line.ensures c.map_err.result said in
          let on = subst (Steps c.loop-text.sheet c.loop-text.line _ _) c.in_ok-sheet.was at in
          let n : c.saturating_add-line.result ≡ c.loop-text.line + 1 = omega (arith, inv.count, goes, c.saturating_add-line.ensures, some_pieces g.B.Read.remaining c.next.new.self _ f.0) in
          (drop_through 10 w.0, f.0, λ r more. w.2 r (on r (subst (λ m. ComesTo c.in_ok-sheet.sheet m (lines_of (drop_through 10 w.0)) r) n more)));
    }

pub returns-in_err-sheet : goal.returns-in_err-sheet
returns-in_err-sheet g c =
    let inv = c.loop-text.invariant in
    let said : Numbered c.loop-text.line c.line.result c.map_err.result = search rules in
    let feed = fed vec_items _ _ _ _ c.next.ensures.steps.2 inv.feeds c.in_ok-text.text (search rules) in
    let told : c.from_residual-in_err-sheet.result ≡ Err (Unmade (Line c.in_err-sheet.field-0.0)) = search rules in
    rw told (if_known (g.B.Read.remaining c.args.input) (λ text known.
    let w = inv.whole text known in
    let f = feed w.0 w.1 in
    let cut = f.1 ∙ ap (λ p. p ∷ lines_of (drop_through 10 w.0)) (sym c.as_slice.ensures.value) in
    let at = step c.loop-text.sheet c.loop-text.line _ _ _ cut c.line.result c.line.ensures c.map_err.result said in
    w.2 _ (subst (Steps c.loop-text.sheet c.loop-text.line _ _) c.in_err-sheet.was at)))

pub returns-in_err-ended : goal.returns-in_err-ended
returns-in_err-ended g c =
    let inv = c.loop-text.invariant in
    let told : c.from_residual-in_err-ended.result ≡ Err (Unmade (Line c.in_err-ended.field-0.0)) = search rules in
    rw told (if_known (g.B.Read.remaining c.args.input) (λ text known.
    let w = inv.whole text known in
    let none = fed_all vec_items _ _ _ _ c.next.ensures.steps.2 c.in-None.is w.0 w.1 in
    w.2 _ (rw none (subst (ComesTo c.loop-text.sheet c.loop-text.line []) c.in_err-ended.was c.ended.ensures))))

pub returns : goal.returns
returns g c =
    let inv = c.loop-text.invariant in
    if_known (g.B.Read.remaining c.args.input) (λ text known.
    let w = inv.whole text known in
    let none = fed_all vec_items _ _ _ _ c.next.ensures.steps.2 c.in-None.is w.0 w.1 in
    w.2 _ (rw none (subst (ComesTo c.loop-text.sheet c.loop-text.line []) c.in_ok-ended.was c.ended.ensures)))
