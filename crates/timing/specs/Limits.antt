-- The limits of document 01, "The design". The code's are the constants of the type `Design`.
-- Assumes nothing.
use Rattle.std.specs.Prelude.{ℕ}

-- "pins P: 1 to 256"
abbrev pub most_pins : ℕ
most_pins = 256

-- "arcs A: 0 to 1,024"
abbrev pub most_arcs : ℕ
most_arcs = 1024

-- "tests T: 0 to 64"
abbrev pub most_tests : ℕ
most_tests = 64

-- "k: 1 to 16"
abbrev pub most_k : ℕ
most_k = 16

-- "period: 1 to 1,000,000 ps", "delay, arrival, setup, hold: 0 to 1,000,000 ps"
abbrev pub most_time : ℕ
most_time = 1000000

-- "text: 65,536 bytes"
abbrev pub most_text : ℕ
most_text = 65536

-- "or 1,000,000,000 if there are more"
abbrev pub most_total : ℕ
most_total = 1000000000

-- "A work area .. has a fixed length named in docs/, at most 8,192 64-bit numbers"
abbrev pub work_length : ℕ
work_length = 8192
