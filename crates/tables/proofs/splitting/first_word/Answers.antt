use Rattle.std.proofs.Common.{◌≡◌, ℕ, List, ◌-◌, ◌<◌, ◌∷◌, drop, take, length, position, rules, tests, sym, ap, ◌∙◌}
use Rattle.std.proofs.lemmas.Iterator.{YieldsList-from_slice}
use Rattle.std.proofs.lemmas.Iterator.Search.{position_from_yields_List}
use Rattle.std.proofs.lemmas.List.{take_rest}
use Rattle.std.specs.List.{position_or_len}
use Rattle.std.specs.Option.{unwrap_or}
use Rattle.tables.proofs.Runs.{visible, first_space, no_word, one_word}
use Rattle.tables.specs.Words.{is_space, words}
use Rattle.tables.proofs.splitting.first_word.Goals as goal
use Rattle.tables.proofs.splitting.first_word.Goals.{After-position, After-split_at}

start : (c : After-position) → c.position.result ≡ position visible c.args.text.now
start c = position_from_yields_List visible _ _ _ c.position.ensures.ran (YieldsList-from_slice c.args.text.now c.iter.ensures.rest) (λ x b q k. search (rules, tests))

end : (c : After-split_at) → c.unwrap_or-end.result ≡ position_or_len is_space (take (length c.args.text.now - c.in_ok-start.start) (drop c.in_ok-start.start c.args.text.now))
end c =
    let rest : List ℕ = take (length c.args.text.now - c.in_ok-start.start) (drop c.in_ok-start.start c.args.text.now) in
    let space = position_from_yields_List is_space _ _ _ c.position-2.ensures.ran (YieldsList-from_slice rest c.iter-2.ensures.rest) (λ x b q k. search (rules, tests)) in
    c.unwrap_or-end.ensures ∙ ap (λ o. unwrap_or o (length rest)) space ∙ first_space rest

pub returns-in_err-start-clause-cut : goal.returns-in_err-start-clause-cut
returns-in_err-start-clause-cut c = rw c.from_residual.ensures (no_word c.args.text.now (sym (start (goal.at.returns-in_err-start-clause-cut c).After-position) ∙ c.in_err-start.was))

cut : (c : After-split_at) → (words c.args.text.now ≡ c.split_at.result.0.now ∷ words c.split_at.result.1.now) × (length c.split_at.result.1.now < length c.args.text.now)
cut c =
    let at = sym (start (goal.at.returns-clause-cut c).After-position) ∙ c.in_ok-start.was in
    rw (c.split_at.ensures.front, c.split_at.ensures.back, take_rest) (one_word c.args.text.now c.in_ok-start.start c.unwrap_or-end.result at (rw take_rest at (end c)))

pub returns-clause-cut : goal.returns-clause-cut
returns-clause-cut c = (cut c).0

pub returns-clause-shorter : goal.returns-clause-shorter
returns-clause-shorter c = (cut c).1
