use Rattle.std.proofs.Common.{◌∙◌, rules}
use Rattle.sheets.proofs.Writing.{widened}
use Rattle.sheets.proofs.making.encode.Goals as goal

pub returns-in_err-length : goal.returns-in_err-length
returns-in_err-length c =
    let refused = widened _ _ _ _ c.in_err-length.field-0.0 (λ fits. c.as_mut_slice.ensures.len ∙ c.in_ok-bytes.ensures.len ∙ c.room-room.ensures fits) c.in_err-length.ensures.0 in search rules
