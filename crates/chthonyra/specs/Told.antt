-- What crosses to C: the answers of the operations as structs of numbers. Refusal 0 means that the operation answered; a number without a meaning is 0.
-- Assumes nothing.
use Rattle.std.specs.Prelude.{ℕ, length, Result, Ok, Err}
use Rattle.timing.specs.declared.Refusal.{Refusal}
use Rattle.timing.specs.declared.Reading.{Reading}
use Rattle.timing.specs.declared.Answer.{Answer}
use Rattle.timing.specs.Refusals.{number_of, place_of}
use Rattle.timing.specs.Field.{Bytes}
use Rattle.timing.specs.Text.{line_of, line_start}
use Rattle.chthonyra.specs.declared.ReadingTold.{ReadingTold}
use Rattle.chthonyra.specs.declared.LineTold.{LineTold}
use Rattle.chthonyra.specs.declared.CheckedTold.{CheckedTold}
use Rattle.chthonyra.specs.declared.AnswerTold.{AnswerTold}
use Rattle.chthonyra.specs.declared.EnteredTold.{EnteredTold}

abbrev pub reading_told : Result Reading Refusal → ReadingTold
reading_told (Ok a) = record { refusal = 0; mode = a.mode; place = 0; length = a.length; k = a.k }
reading_told (Err r) = record { refusal = number_of r; mode = 0; place = place_of r; length = 0; k = 0 }

-- line n of a text as an offset and a length
abbrev pub line_told : Bytes → ℕ → LineTold
line_told x n = record { start = line_start x n; length = length (line_of x n) }

abbrev pub checked_told : Result Unit Refusal → CheckedTold
checked_told (Ok u) = record { refusal = 0; place = 0 }
checked_told (Err r) = record { refusal = number_of r; place = place_of r }

abbrev pub answer_told : Result Answer Refusal → AnswerTold
answer_told (Ok a) = record { refusal = 0; place = 0; rows = a.rows; total = a.total }
answer_told (Err r) = record { refusal = number_of r; place = place_of r; rows = 0; total = 0 }

abbrev pub entered_told : Result ℕ Refusal → EnteredTold
entered_told (Ok n) = record { refusal = 0; place = 0; count = n }
entered_told (Err r) = record { refusal = number_of r; place = place_of r; count = 0 }
