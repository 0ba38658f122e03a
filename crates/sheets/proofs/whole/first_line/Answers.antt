use Rattle.std.proofs.Common.{◌≡◌, ◌+◌, length, drop, rules, tests, refl, ap, ◌∙◌, arith}
use Rattle.std.proofs.lemmas.Iterator.{YieldsList-from_slice}
use Rattle.std.proofs.lemmas.Iterator.Search.{position_from_yields_List}
use Rattle.std.specs.Option.{unwrap_or}
use Rattle.sheets.proofs.Feeds.{first_feed, from_there, is_feed, line_cut}
use Rattle.sheets.proofs.whole.first_line.Goals as goal

pub returns-clause-cut : goal.returns-clause-cut
returns-clause-cut c =
    let bs = c.args.text.now in
    let feed = position_from_yields_List is_feed _ _ _ c.position.ensures.ran (YieldsList-from_slice bs c.iter.ensures.rest) (λ x b q k. search (rules, tests)) in
    let at = c.unwrap_or-end.ensures ∙ ap (λ o. unwrap_or o (length bs)) feed ∙ first_feed bs in
    let cut = line_cut bs c.unwrap_or-end.result (omega arith) at in
    let rest : c.unwrap_or.result.now ≡ drop (c.unwrap_or-end.result + 1) bs = ap (λ x. x.now) c.unwrap_or.ensures ∙ from_there bs (c.unwrap_or-end.result + 1) c.get.result _ c.get.ensures.lookup refl in
    rw rest cut
