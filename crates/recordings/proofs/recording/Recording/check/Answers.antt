use Rattle.std.proofs.Common.{rules, ◌≡◌, position, ap, ◌∙◌, arith}
use Rattle.recordings.specs.Refusals.{IsCut, unfit}
use Rattle.recordings.proofs.Firsts.{one_refusal}
use Rattle.recordings.proofs.Meanings.{records_one, refused_records_nothing}
use Rattle.recordings.proofs.Passing.{passed, unfit_at}
use Rattle.recordings.proofs.recording.Recording.check.Goals as goal

pub returns-in_err-read : goal.returns-in_err-read
returns-in_err-read c = record { checked = search rules; never_both = refused_records_nothing; only_one = records_one; one_refusal = one_refusal }

pub returns-in_err-recording : goal.returns-in_err-recording
returns-in_err-recording c = record { checked = search rules; never_both = refused_records_nothing; only_one = records_one; one_refusal = one_refusal }

pub returns-in-Some : goal.returns-in-Some
returns-in-Some c =
    let bs = c.args.bytes.now in
    let e : c.in_ok-read.field-0.bytes.now ≡ bs = c.in_ok-read.ensures in
    let k : IsCut bs c.in_ok-recording.recording = rw e at c.in_ok-recording.ensures in
    record {
      checked = (k.counted, k.agree, unfit_at bs _ c.in-Some.channel k.agree k.entries_are (c.in-Some.ensures ∙ ap (position unfit) c.entries.ensures));
      never_both = refused_records_nothing;
      only_one = records_one;
      one_refusal = one_refusal;
    }

pub returns : goal.returns
returns c =
    let bs = c.args.bytes.now in
    let e : c.in_ok-read.field-0.bytes.now ≡ bs = c.in_ok-read.ensures in
    let k : IsCut bs c.in_ok-recording.recording = rw e at c.in_ok-recording.ensures in
    record {
      checked = passed bs _ _ _ (λ i. omega (arith, (c.type_inv.bytes i).fits)) k.counted k.agree k.note_is k.rows_are k.entries_are (c.in_default.ensures ∙ ap (position unfit) c.entries.ensures);
      never_both = refused_records_nothing;
      only_one = records_one;
      one_refusal = one_refusal;
    }
