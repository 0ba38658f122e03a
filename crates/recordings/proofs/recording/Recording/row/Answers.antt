use Rattle.std.proofs.Common.{arith}
use Rattle.recordings.proofs.Walks.{part_length, part_told, row_within}
use Rattle.recordings.proofs.recording.Recording.row.Goals as goal

pub overflow_mul-start : goal.overflow_mul-start
overflow_mul-start c = omega (arith, row_within c.args.self.now _ _ _ c.channel_count-channels.ensures c.row_count.ensures.count c.if-row-row_count.false)

pub overflow_mul-start-2 : goal.overflow_mul-start-2
overflow_mul-start-2 c = omega (arith, row_within c.args.self.now _ _ _ c.channel_count-channels.ensures c.row_count.ensures.count c.if-row-row_count.false)

pub overflow_mul-result : goal.overflow_mul-result
overflow_mul-result c = omega (arith, row_within c.args.self.now _ _ _ c.channel_count-channels.ensures c.row_count.ensures.count c.if-row-row_count.false)

pub overflow_add-result : goal.overflow_add-result
overflow_add-result c = omega (arith, row_within c.args.self.now _ _ _ c.channel_count-channels.ensures c.row_count.ensures.count c.if-row-row_count.false)

pub slice_bounds-result-end-2 : goal.slice_bounds-result-end-2
slice_bounds-result-end-2 c = omega (arith, row_within c.args.self.now _ _ _ c.channel_count-channels.ensures c.row_count.ensures.count c.if-row-row_count.false)

pub returns-clause-numbers : goal.returns-clause-numbers
returns-clause-numbers c = part_told c.args.self.now _ _ _ c.channel_count-channels.ensures c.row_count.ensures.count c.if-row-row_count.false

pub returns-clause-whole : goal.returns-clause-whole
returns-clause-whole c = λ h. part_length c.args.self.now _ _ _ c.channel_count-channels.ensures c.row_count.ensures.count c.if-row-row_count.false

pub returns-clause-countable : goal.returns-clause-countable
returns-clause-countable c = omega (arith, row_within c.args.self.now _ _ _ c.channel_count-channels.ensures c.row_count.ensures.count c.if-row-row_count.false, part_length c.args.self.now _ _ _ c.channel_count-channels.ensures c.row_count.ensures.count c.if-row-row_count.false, c.channel_count-channels.ensures)
