use Rattle.std.proofs.Common.{◌≡◌, ℕ, List, ◌+◌, ◌≤◌, length, drop, arith, sym, ap, ◌∙◌, inl, add-zero, length-drop}
use Rattle.std.proofs.lemmas.Iterator.{YieldsList}
use Rattle.std.proofs.lemmas.Iterator.Adapters.{YieldsList-from_skip}
use Rattle.std.proofs.lemmas.Iterator.Consumers.{YieldsList-from_first, YieldsList-from_enumerate, YieldsList-turn, YieldsList-end}
use Rattle.std.proofs.lemmas.List.{length_push}
use Rattle.std.proofs.lemmas.List.FromFn.{length-enumerate_from}
use Rattle.std.proofs.lemmas.Result.{err_from_is_err_and}
use Rattle.std.specs.declared.iter.Enumerate.{Enumerate}
use Rattle.std.specs.declared.iter.Skip.{Skip}
use Rattle.std.specs.Iterator.{YieldsFirstRef}
use Rattle.std.specs.Iterator.Adapters.{enumerate_count, enumerate_source, enumerate_steps, skip_count, skip_source, skip_steps}
use Rattle.std.specs.List.{enumerate_from}
use Rattle.tables.proofs.Lines.{Turn, none_yet, turn_at, reads_more, stops, all_read}
use Rattle.tables.specs.declared.splitting.Words.{Words}
use Rattle.tables.specs.Splitting.{text_left, words_left}
use Rattle.tables.specs.Words.{words}
use Rattle.tables.proofs.reading.read_numbers.Goals as goal
use Rattle.tables.proofs.reading.read_numbers.Goals.{In-Some}

-- the words of a line that come after the first n, each with its place
placed : (s : Skip (Enumerate Words)) (n : ℕ) (ws : List (List ℕ)) → words_left (enumerate_source (skip_source s)) ≡ ws → enumerate_count (skip_source s) ≡ 0 → skip_count s ≡ n → YieldsList (skip_steps (enumerate_steps (YieldsFirstRef words_left))) (λ p. (p.0, p.1.now)) s (drop n (enumerate_from 0 ws))
placed s n ws left none skipped = YieldsList-from_skip n (YieldsList-from_enumerate (YieldsList-from_first (λ x. x.now) words_left ws left) none) skipped

turn : (c : In-Some) → Turn (words c.args.text.now) (c.args.before + length c.loop-i.yielded) c.in-Some.i c.in-Some.word.now
turn c =
    let all = placed c.into_iter-i-iterator.result c.args.before (words c.args.text.now) (cc) (cc) (cc) in
    turn_at _ _ _ (c.in-Some.i, c.in-Some.word.now) (YieldsList-turn all c.loop-i.yielded c.loop-i.i-iterator c.loop-i.yielded_by c.next.result c.next.new.self (c.in-Some.i, c.in-Some.word) c.in-Some.is c.next.ensures.steps)

pub loop-i-init : goal.loop-i-init
loop-i-init c =
    let none : c.into_iter-i-iterator.result.iter.count ≡ 0 = cc in
    let left : text_left c.into_iter-i-iterator.result.iter.iter ≡ c.args.text.now = cc in
    record {
      can = (tt, tt, inl (omega (arith, none, ap length left)));
      finite = tt;
      read = rw (add-zero c.args.before) (none_yet _ _ c.clear.ensures.items);
      filled = omega (arith, c.clear.ensures.len);
      room = omega arith;
    }

pub loop-i-preserved : goal.loop-i-preserved
loop-i-preserved c =
    let now = turn (goal.at.loop-i-preserved c).In-Some in
    let long = length_push c.loop-i.yielded (c.in-Some.i, c.in-Some.word) in
    record {
      can = c.in-Some.ensures.goes.keeps;
      finite = tt;
      read = reads_more _ _ _ _ _ _ _ now c.loop-i.invariant.read _ _ _ (omega (arith, long)) (sym c.number_at.ensures ∙ c.in_ok-number_at.was) c.in_ok-push.ensures.items;
      filled = omega (arith, long, c.loop-i.invariant.filled, c.in_ok-push.ensures.len);
      room = omega (arith, c.loop-i.invariant.room, c.in_ok-push.ensures.capacity);
    }

pub returns-in_err-number_at : goal.returns-in_err-number_at
returns-in_err-number_at c =
    let now = turn (goal.at.returns-in_err-number_at c).In-Some in
    let stop = stops _ _ _ _ _ _ _ now c.loop-i.invariant.read _ (sym c.number_at.ensures ∙ c.in_err-number_at.was) in
    let p = err_from_is_err_and c.from_residual.result c.from_residual.ensures.1 in
    rw (p.1, p.2) (inl stop)

pub returns : goal.returns
returns c =
    let all = placed c.into_iter-i-iterator.result c.args.before (words c.args.text.now) (cc) (cc) (cc) in
    let end = YieldsList-end all c.loop-i.yielded c.loop-i.i-iterator c.loop-i.yielded_by c.next.result c.next.new.self c.in-None.is c.next.ensures.steps in
    let read : length (words c.args.text.now) ≤ c.args.before + length c.loop-i.yielded = omega (arith, end.1, length-drop c.args.before (enumerate_from 0 (words c.args.text.now)), length-enumerate_from 0 (words c.args.text.now)) in
    all_read _ _ _ _ _ read c.loop-i.invariant.read
