-- The bench sheet of document 01: its text, its table, and P1 to P9 in one table of cases with one theorem, by computation. Behind them in the same table
-- stand the runs that document 01 names, and one case for each place in the order of refusals.
-- Assumes nothing.
use Rattle.std.specs.Prelude.{ℕ, ◌+◌, ◌*◌, ◌≡◌, refl, [], ◌∷◌, ◌++◌, length, set, pos, negsuc, Ok}
use Rattle.std.proofs.Math.Option.{none, some}
use Rattle.timing.specs.declared.Refusal.TheVariants.{FieldForm, TableRoom, PinNumbers, ArcEnds, ArcRange, TestNumbers, ModeOrK, RowRoom}
use Rattle.timing.specs.Limits.{work_length}
use Rattle.timing.specs.Table.{Table}
use Rattle.lists.specs.Choice.{pick, holds, first_met}
use Rattle.lists.specs.Parts.{below, sum, those, last, any, every, written, each, gather, onto, split, same}
use Rattle.lists.specs.Rank.{enter, rank}
use Rattle.timing.specs.Kinds.{allowed, may_drive}
use Rattle.timing.specs.Structure.{pins, arcs, tests, kind, leaves, enters, clock_pin, data_pin, structure, times}
use Rattle.timing.specs.Clock.{into, at_first, climb_by, climb, route, root, clock_arrival, common, pin_credit}
use Rattle.timing.specs.Paths.{is_start, walks_by, walks, start, test_paths, paths, path}
use Rattle.timing.specs.Slack.{start_arrival, path_credit, gain, loss, slack_before, slack, ranked, for_setup, for_hold}
use Rattle.timing.specs.Rows.{mode_of, row, first_paths, rows, total}
use Rattle.timing.specs.Check.{header_bad, pin_bad, roots_bad, ends_bad, kinds_bad, delay_bad, arcs_into, into_bad, is_of, test_bad, pin_grounds, arc_ground, arc_grounds, into_grounds, test_grounds, table_grounds, table_fault}
use Rattle.timing.specs.Asked.{asking_grounds, asking_fault, table_rows, answer_of, answer, room_of, room_after, work_of, work_after}
use Rattle.timing.specs.Field.{is_mode, mode_in, well_formed, value_from, value, number_or_0, letter, Bytes, bytes}
use Rattle.timing.specs.Line.{field_of, field_count, is_number, number_in, other_word, four_numbers, design_line, line_kind, pin_line, four_line, ask_line, four_of, pin_of}
use Rattle.timing.specs.Text.{parts, whole, line_of, behind, line_start, more, pins_of, arcs_of, tests_of, lines_due, ask_number, table_length, due_line, line_grounds, due_grounds, ask_grounds, text_grounds, text_fault, due_of, table_of, mode_at, k_at, mode_asked, k_asked, reading_of, reading, filled_of, room_filled}
use Rattle.timing.specs.Printed.{digits_by, digits, tab, printed_line, row_arcs, row_numbers, row_lines, refused_line, printed_answer, printed_table, printed_reading, printed}

unfoldable pub sheet : Bytes
sheet =
    (bytes "design\t7\t7\t2\t200\n"
    ++ (bytes "pin\tR\t0\t10\n"
    ++ (bytes "pin\tB\n"
    ++ (bytes "pin\tK\n"
    ++ (bytes "pin\tK\n"
    ++ (bytes "pin\tI\t5\t20\n"
    ++ (bytes "pin\tD\n"
    ++ (bytes "pin\tD\n"
    ++ (bytes "arc\t0\t1\t40\t60\n"
    ++ (bytes "arc\t1\t2\t10\t15\n"
    ++ (bytes "arc\t1\t3\t20\t30\n"
    ++ (bytes "arc\t2\t5\t100\t130\n"
    ++ (bytes "arc\t3\t5\t90\t120\n"
    ++ (bytes "arc\t4\t6\t30\t50\n"
    ++ (bytes "arc\t5\t6\t10\t20\n"
    ++ (bytes "test\t3\t6\t25\t12\n"
    ++ (bytes "test\t2\t5\t20\t10\n"
    ++ bytes "ask\tsetup\t3\n")))))))))))))))))

unfoldable pub table : Table
table = 7 ∷ 7 ∷ 2 ∷ 200
    ∷ 0 ∷ 0 ∷ 10 ∷ 1 ∷ 0 ∷ 0 ∷ 2 ∷ 0 ∷ 0 ∷ 2 ∷ 0 ∷ 0 ∷ 3 ∷ 5 ∷ 20 ∷ 4 ∷ 0 ∷ 0 ∷ 4 ∷ 0 ∷ 0
    ∷ 0 ∷ 1 ∷ 40 ∷ 60 ∷ 1 ∷ 2 ∷ 10 ∷ 15 ∷ 1 ∷ 3 ∷ 20 ∷ 30 ∷ 2 ∷ 5 ∷ 100 ∷ 130 ∷ 3 ∷ 5 ∷ 90 ∷ 120 ∷ 4 ∷ 6 ∷ 30 ∷ 50 ∷ 5 ∷ 6 ∷ 10 ∷ 20
    ∷ 3 ∷ 6 ∷ 25 ∷ 12 ∷ 2 ∷ 5 ∷ 20 ∷ 10 ∷ []

-- the sheet's table with the delays e to l on arc a
unfoldable pub with_arc : ℕ → ℕ → ℕ → Table
with_arc a e l = set (set table (25 + 4 * a + 2) e) (25 + 4 * a + 3) l

-- the sheet's table with the ends from and to on arc a
unfoldable pub with_ends : ℕ → ℕ → ℕ → Table
with_ends a from to = set (set table (25 + 4 * a) from) (25 + 4 * a + 1) to

-- a design with two equal arcs from an I to a D
unfoldable pub equal : Bytes
equal = bytes "design\t4\t3\t1\t100\npin\tI\t1\t2\npin\tR\t0\t0\npin\tK\npin\tD\narc\t1\t2\t3\t4\narc\t0\t3\t5\t10\narc\t0\t3\t5\t10\ntest\t2\t3\t5\t0\nask\tsetup\t16\n"

-- What document 01 says of the sheet: P1 to P9, and behind them what it says of runs.
pub record Cases : Type 0 where
  pub read : table_of sheet ≡ table
  -- "P1 the credits of pins 0 to 3 are 10, 30, 35, 40."
  pub p1 : each (pin_credit (structure table) (times table)) (0 ∷ 1 ∷ 2 ∷ 3 ∷ []) ≡ 10 ∷ 30 ∷ 35 ∷ 40 ∷ []
  -- "P2 arcs 4, 6 have -5 before credit and 35 after; arcs 3, 6 have 0 and 30."
  pub p2-before : each (slack_before for_setup (structure table) (times table)) (path 0 (6 ∷ 4 ∷ []) ∷ path 0 (6 ∷ 3 ∷ []) ∷ []) ≡ negsuc 4 ∷ pos 0 ∷ []
  pub p2-after : each (slack for_setup (structure table) (times table)) (path 0 (6 ∷ 4 ∷ []) ∷ path 0 (6 ∷ 3 ∷ []) ∷ []) ≡ pos 35 ∷ pos 30 ∷ []
  -- "P3 all five setup slacks in order: 30, 35, 40, 50, 165."
  pub p3 : each (slack for_setup (structure table) (times table)) (ranked for_setup (structure table) (times table)) ≡ pos 30 ∷ pos 35 ∷ pos 40 ∷ pos 50 ∷ pos 165 ∷ []
  -- "P4 hold slacks: -77, 78, 85, 88, 90."
  pub p4 : each (slack for_hold (structure table) (times table)) (ranked for_hold (structure table) (times table)) ≡ negsuc 76 ∷ pos 78 ∷ pos 85 ∷ pos 88 ∷ pos 90 ∷ []
  -- "P5 the total is 5."
  pub p5 : total (structure table) ≡ 5
  -- "P6 with arc 0 at 30 to 80, arcs 3, 6 stay at 30 and arc 5 falls to 155."
  pub p6 : each (slack for_setup (structure (with_arc 0 30 80)) (times (with_arc 0 30 80))) (path 0 (6 ∷ 3 ∷ []) ∷ path 0 (5 ∷ []) ∷ []) ≡ pos 30 ∷ pos 155 ∷ []
  -- "P7 with arc 1 at 10 to 20, arcs 3, 6 fall to 25 and arc 3 alone stays at 50."
  pub p7 : each (slack for_setup (structure (with_arc 1 10 20)) (times (with_arc 1 10 20))) (path 0 (6 ∷ 3 ∷ []) ∷ path 1 (3 ∷ []) ∷ []) ≡ pos 25 ∷ pos 50 ∷ []
  -- "P8 table length 61."
  pub p8 : length table ≡ 61
  -- "P9 room 36 does for k = 3, 35 is refused (15)."
  pub p9-does : asking_fault table 0 3 36 work_length ≡ none
  pub p9-short : asking_fault table 0 3 35 work_length ≡ some RowRoom
  -- the printed lines
  pub shown : printed sheet ≡
      (bytes "path\t1\t30\t30\t0\t2\t3\t6\n"
      ++ (bytes "path\t2\t35\t40\t0\t3\t4\t6\n"
      ++ (bytes "path\t3\t40\t30\t1\t3\t4\n"
      ++ bytes "end\t3\t5\n")))
  -- "k = 16 gives five rows, 17 and 0 are refused (14)"
  pub all-rows : answer table 0 16 192 work_length ≡ Ok (record { rows = 5; total = 5 })
  pub too_many : asking_fault table 0 17 1000 work_length ≡ some ModeOrK
  pub too_few : asking_fault table 0 0 1000 work_length ≡ some ModeOrK
  -- "empty text is 2 at line 1"
  pub empty : printed [] ≡ bytes "refused\t2\t1\n"
  -- "two equal arcs from I to D rank by arc number"
  pub equal-arcs : printed equal ≡ bytes "path\t1\t86\t0\t0\t0\t1\npath\t2\t86\t0\t0\t0\t2\nend\t2\t2\n"
  -- "T = 0 gives no rows; P = 1 with R is accepted"
  pub one-pin : printed (bytes "design\t1\t0\t0\t5\npin\tR\t0\t0\n") ≡ bytes "end\t0\t0\n"
  -- "arc 3 to 3 is 9"
  pub loop : table_fault (with_ends 2 3 3) ≡ some (ArcEnds 2)
  -- "6, all pins 7, 8, then arc by arc 9, 10, 11, all pins 12, all tests 13, 14, 15": each of two faults at once, the earlier told
  pub seven-before-eight : table_fault (set (set table 4 1) 15 1) ≡ some (PinNumbers 0)
  pub arc-by-arc : table_fault (set (with_arc 0 2 1) 29 3) ≡ some (ArcRange 0)
  pub eleven-before-twelve : table_fault (set (with_arc 5 2 1) 50 5) ≡ some (ArcRange 5)
  pub thirteen-before-fourteen : asking_fault (set table 53 1) 2 3 36 work_length ≡ some (TestNumbers 0)
  pub fourteen-before-fifteen : asking_fault table 2 3 35 work_length ≡ some ModeOrK
  -- "On a pin line the word alone is 3, then the letter is looked at before the count of fields." "1; then line by line 2, 3, 4; then 5."
  pub word-alone : printed (bytes "design\t1\t0\t0\t5\npin\n") ≡ bytes "refused\t3\t2\n"
  pub letter-first : printed (bytes "design\t1\t0\t0\t5\npin\tX\t1\t2\t3\n") ≡ bytes "refused\t4\t2\n"
  pub line-by-line : printed (bytes "design\t1\t0\t0\t5\npin\tR\t00\t1\nbad\nworse") ≡ bytes "refused\t4\t2\n"
  pub five-last : text_fault (bytes "design\t1\t0\t0\t5\npin\tR\t0\t0\nask\tboth\t1\n") 0 ≡ some (FieldForm 3)
  pub five : text_fault (bytes "design\t1\t0\t0\t5\npin\tR\t0\t0\n") 6 ≡ some TableRoom
  -- a text is refused at its first wrong line, whatever that line claims: here 9,999,999 pins
  pub claim : printed (bytes "design\t9999999\t7\t2\t2\n") ≡ bytes "refused\t4\t1\n"

pub sheet-holds : Cases
unfolding sheet table with_arc with_ends equal pick holds first_met below sum those last any every written each gather onto split same enter rank allowed may_drive pins arcs tests kind leaves enters clock_pin data_pin structure times into at_first climb_by climb route root clock_arrival common pin_credit is_start walks_by walks start test_paths paths start_arrival path_credit gain loss slack_before slack ranked mode_of row first_paths rows total header_bad pin_bad roots_bad ends_bad kinds_bad delay_bad arcs_into into_bad is_of test_bad pin_grounds arc_ground arc_grounds into_grounds test_grounds table_grounds table_fault asking_grounds asking_fault table_rows answer_of answer room_of room_after work_of work_after is_mode mode_in well_formed value_from value number_or_0 letter field_of field_count is_number number_in other_word four_numbers design_line line_kind pin_line four_line ask_line four_of pin_of parts whole line_of behind line_start more pins_of arcs_of tests_of lines_due ask_number table_length due_line line_grounds due_grounds ask_grounds text_grounds text_fault due_of table_of mode_at k_at mode_asked k_asked reading_of reading filled_of room_filled digits_by digits tab printed_line row_arcs row_numbers row_lines refused_line printed_answer printed_table printed_reading printed
sheet-holds =
    record {
      read = refl;
      p1 = refl;
      p2-before = refl;
      p2-after = refl;
      p3 = refl;
      p4 = refl;
      p5 = refl;
      p6 = refl;
      p7 = refl;
      p8 = refl;
      p9-does = refl;
      p9-short = refl;
      shown = refl;
      all-rows = refl;
      too_many = refl;
      too_few = refl;
      empty = refl;
      equal-arcs = refl;
      one-pin = refl;
      loop = refl;
      seven-before-eight = refl;
      arc-by-arc = refl;
      eleven-before-twelve = refl;
      thirteen-before-fourteen = refl;
      fourteen-before-fifteen = refl;
      word-alone = refl;
      letter-first = refl;
      line-by-line = refl;
      five-last = refl;
      five = refl;
      claim = refl;
    }
