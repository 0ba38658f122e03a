use Rattle.std.proofs.Common.{◌≡◌, ◌^◌, ◌<◌, length, take, sym, ap, ◌∙◌, arith}
use Rattle.std.proofs.ByRecursion.{All-from_get_or}
use Rattle.std.proofs.lemmas.List.{take_at}
use Rattle.recordings.specs.Layout.{encoded, Recordable}
use Rattle.recordings.proofs.Meanings.{reads_back}
use Rattle.recordings.proofs.Places.{length_encoded}
use Rattle.encoding.proofs.Passing.{whole_rows}
use Rattle.encoding.proofs.writing.write.Goals as goal

pub put-requires : goal.put-requires
put-requires c =
    let p = c.in_ok-check.ensures in
    let l = length_encoded c.args.note.now c.args.rows.now c.args.entries.now in
    record { some = p.counted.some; few = p.counted.few; in_room = omega (arith, p.fits_in.in_room); in_limit = omega (arith, p.fits_in.in_limit) }

pub returns : goal.returns
returns c =
    let note = c.args.note.now in
    let xs = c.args.rows.now in
    let es = c.args.entries.now in
    let p = c.in_ok-check.ensures in
    let l = length_encoded note xs es in
    let n : c.put.result ≡ length (encoded note xs es) = c.put.ensures.end ∙ sym l in
    let r : Recordable note xs es = record {
      some = p.counted.some;
      few = p.counted.few;
      whole = whole_rows xs es p.whole;
      small = All-from_get_or (λ x. x < 2 ^ 32) xs 0 (λ i _. omega (arith, (c.type_inv.rows i).fits));
      fit = p.fit;
      reached = omega (arith, p.fits_in.in_limit);
    } in
    let front : take c.put.result c.put.new.out ≡ encoded note xs es = ap (take c.put.result) c.put.ensures.after ∙ take_at (encoded note xs es) _ c.put.result (sym n) in
    record {
      passes = p;
      recordable = r;
      length_is = n;
      holds = c.put.ensures.after;
      read_back = reads_back (take c.put.result c.put.new.out) note xs es (record { recordable = r; bytes_are = front });
    }
