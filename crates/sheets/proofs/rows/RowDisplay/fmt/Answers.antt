use Rattle.std.proofs.Common.{◌≡◌, suc, ◌+◌, ◌<◌, length, slice_get, is_ok, sym, ap, ◌∙◌, arith}
use Rattle.std.proofs.Output.{has_written_append, has_written_of_eq, writes_in_calls_nil}
use Rattle.recordings.specs.Contents.{entries_of, number_told, rows_of}
use Rattle.recordings.specs.Walking.{numbers_left}
use Rattle.std.specs.Iterator.Adapters.{enumerate_count, enumerate_source}
use Rattle.sheets.specs.Rows.{cells}
use Rattle.sheets.proofs.Texts.{cell_more}
use Rattle.sheets.proofs.rows.RowDisplay.fmt.Goals as goal

pub loop-channel-init : goal.loop-channel-init
loop-channel-init g c =
    let s = c.args.self.now in
    let e = c.into_iter-channel-iterator.ensures.into_iter_gives in
    let z : enumerate_count c.into_iter-channel-iterator.result ≡ 0 = ap enumerate_count e ∙ c.enumerate-channel-items.ensures.count in
    let left = ap (λ i. numbers_left (enumerate_source i)) e ∙ ap numbers_left c.enumerate-channel-items.ensures.source in
    record {
      told = λ k. ap (λ xs. slice_get xs k) left ∙ c.row.ensures.numbers k ∙ ap (number_told s.recording s.row) (let n : k ≡ enumerate_count c.into_iter-channel-iterator.result + k = omega (arith, z) in n);
      ends = omega (arith, z, ap length left, c.row.ensures.whole s.there);
      wrote = λ plain. has_written_of_eq g.W.Write.write_str_gives _ _ _ _ (ap (cells (rows_of s.recording) (length (entries_of s.recording)) s.row) (sym z)) (record { wrote = writes_in_calls_nil g.W.Write.write_str_gives _; plain = plain });
    }

pub loop-channel-preserved : goal.loop-channel-preserved
loop-channel-preserved g c =
    let s = c.args.self.now in
    let i = c.loop-channel.channel-iterator in
    let steps = c.in-Some.ensures.steps in
    let so = c.loop-channel.invariant in
    let lt : c.in-Some.channel < length (entries_of s.recording) = omega (arith, so.ends, ap length steps.0, steps.1) in
    let here = ap (λ xs. slice_get xs 0) (sym steps.0) ∙ so.told 0 ∙ ap (number_told s.recording s.row) (let n : enumerate_count i + 0 ≡ c.in-Some.channel = omega (arith, steps.1) in n) in
    let n : c.in-Some.channel + 1 ≡ enumerate_count c.next.new.self = omega (arith, steps.1, steps.2) in
    record {
      told = λ k. ap (λ xs. slice_get xs (suc k)) (sym steps.0) ∙ so.told (suc k) ∙ ap (number_told s.recording s.row) (let m : enumerate_count i + suc k ≡ enumerate_count c.next.new.self + k = omega (arith, steps.2) in m);
      ends = omega (arith, so.ends, ap length steps.0, steps.2);
      wrote = λ plain.
          let was = has_written_of_eq g.W.Write.write_str_gives _ _ _ _ (ap (cells (rows_of s.recording) (length (entries_of s.recording)) s.row) (sym steps.1)) (so.wrote plain) in
          has_written_of_eq g.W.Write.write_str_gives _ _ _ _ (cell_more s.recording s.row c.in-Some.channel _ _ lt c.gap-gap.ensures here ∙ ap (cells (rows_of s.recording) (length (entries_of s.recording)) s.row) n)
          (has_written_append g.W.Write.write_str_gives _ _ _ _ _ was (c.write.ensures.writes was.plain (ap is_ok c.in_ok-write.was)));
    }

pub returns-clause-writes : goal.returns-clause-writes
returns-clause-writes g c =
    let s = c.args.self.now in
    let n : enumerate_count c.loop-channel.channel-iterator ≡ length (entries_of s.recording) = omega (arith, c.loop-channel.invariant.ends, ap length c.in-None.ensures.steps.0.0) in
    λ plain ok. has_written_of_eq g.W.Write.write_str_gives _ _ _ _ (ap (cells (rows_of s.recording) (length (entries_of s.recording)) s.row) n) (c.loop-channel.invariant.wrote plain)
