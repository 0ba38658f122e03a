-- What is said of bad text. Assumes nothing.
use Rattle.std.specs.Prelude.{ℕ, List, ◌++◌, codes, decimal}
use Rattle.tables.specs.declared.errors.BadText.{BadText}
use Rattle.tables.specs.declared.errors.BadText.TheVariants.{NoModuli, NoBounds, SecondModuli, SecondBounds, SecondNote, LateNote, NotNumber, TooLarge, Dash, NoMemory}

abbrev pub message_of : BadText → List ℕ
message_of NoModuli = codes "no moduli line"
message_of NoBounds = codes "no bounds line"
message_of SecondModuli = codes "a second moduli line"
message_of SecondBounds = codes "a second bounds line"
message_of SecondNote = codes "a second note"
message_of LateNote = codes "a note after the moduli or bounds line"
message_of (NotNumber k) = codes "word " ++ (decimal k ++ codes " is no number")
message_of (TooLarge k) = codes "word " ++ (decimal k ++ codes " is above 4294967295")
message_of (Dash k) = codes "word " ++ (decimal k ++ codes " is a dash, which stands only in rows")
message_of NoMemory = codes "out of memory"
