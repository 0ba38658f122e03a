use Rattle.std.proofs.Common.{◌++◌, is_ok, sym, ap, ◌∙◌}
use Rattle.std.proofs.Output.{has_written_append, has_written_of_eq}
use Rattle.std.proofs.lemmas.List.{append_assoc, append-nil}
use Rattle.sheets.specs.Rows.{figure_words}
use Rattle.sheets.proofs.Texts.{figure_more}
use Rattle.sheets.proofs.rows.write_figures.Goals as goal

pub loop-entry-preserved : goal.loop-entry-preserved
loop-entry-preserved g c = record {
  left = append_assoc c.loop-entry.yielded _ _ ∙ ap (λ z. c.loop-entry.yielded ++ z) (sym c.in-Some.ensures.steps) ∙ c.loop-entry.invariant.left;
  wrote = λ figure_of picks plain.
      let so = c.loop-entry.invariant.wrote figure_of picks plain in
      has_written_of_eq g.W.Write.write_str_gives _ _ _ _ (figure_more figure_of c.loop-entry.yielded c.in-Some.entry _ (picks _ _ c.figure.ensures))
      (has_written_append g.W.Write.write_str_gives _ _ _ _ _ so (c.write.ensures.writes so.plain (ap is_ok c.in_ok-write.was)));
}

pub returns : goal.returns
returns g c =
    let all = sym (append-nil c.loop-entry.yielded) ∙ ap (λ z. c.loop-entry.yielded ++ z) (sym c.in-None.ensures.steps.0) ∙ c.loop-entry.invariant.left in
    λ figure_of picks plain ok. has_written_of_eq g.W.Write.write_str_gives _ _ _ _ (ap (figure_words figure_of) all) (c.loop-entry.invariant.wrote figure_of picks plain)
