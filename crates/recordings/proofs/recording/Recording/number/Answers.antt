use Rattle.std.proofs.Common.{Some, sym, ap, ◌∙◌, arith}
use Rattle.recordings.proofs.Columns.{number_found, number_within}
use Rattle.recordings.proofs.recording.Recording.number.Goals as goal

pub overflow_mul-index : goal.overflow_mul-index
overflow_mul-index c = omega (arith, number_within c.args.self.now c.channel_count-channels.result c.row_count.result c.args.row c.args.channel c.channel_count-channels.ensures c.row_count.ensures.count (omega arith) (omega arith))

pub overflow_add-index : goal.overflow_add-index
overflow_add-index c = omega (arith, number_within c.args.self.now c.channel_count-channels.result c.row_count.result c.args.row c.args.channel c.channel_count-channels.ensures c.row_count.ensures.count (omega arith) (omega arith))

pub overflow_mul-index-2 : goal.overflow_mul-index-2
overflow_mul-index-2 c = omega (arith, number_within c.args.self.now c.channel_count-channels.result c.row_count.result c.args.row c.args.channel c.channel_count-channels.ensures c.row_count.ensures.count (omega arith) (omega arith))

pub number_at-requires : goal.number_at-requires
number_at-requires c = number_within c.args.self.now c.channel_count-channels.result c.row_count.result c.args.row c.args.channel c.channel_count-channels.ensures c.row_count.ensures.count (omega arith) (omega arith)

pub returns : goal.returns
returns c =
    ap Some c.number_at.ensures
    ∙ sym (number_found c.args.self.now c.channel_count-channels.result c.row_count.result c.args.row c.args.channel c.channel_count-channels.ensures c.row_count.ensures.count (omega arith) (omega arith))
