-- What is said of a faulty line.
use Rattle.std.specs.Str.Lossy.{utf8_lossy}
use Rattle.std.specs.Prelude.{◌≡◌, ℕ, List, ◌++◌, codes, decimal, string_bytes}
use Rattle.script.specs.declared.complaint.Complaint.{Complaint}
use Rattle.script.specs.declared.complaint.Complaint.TheVariants.{Says, NoMemory}
use Rattle.script.specs.declared.complaint.FaultyLine.{FaultyLine}

-- A complaint in words.
abbrev pub complaint_text : Complaint → List ℕ
complaint_text (Says s) = string_bytes s
complaint_text NoMemory = codes "there is not enough memory for it"

-- That a word which is to say what is wanted is missing, and that a word is none of those expected.
abbrev pub missing_text : List ℕ → List ℕ
missing_text wanted = wanted ++ codes " is missing at the end of the line"

abbrev pub unknown_text : List ℕ → List ℕ → List ℕ
unknown_text word expected = codes "`" ++ (utf8_lossy word ++ (codes "` is not known here; expected " ++ expected))

-- A complaint in these words, unless there was no memory for them.
abbrev pub IsComplaint : Complaint → List ℕ → Type 0
IsComplaint (Says s) text = string_bytes s ≡ text
IsComplaint NoMemory text = Unit {0}

-- A faulty line by its number, and what is wrong with it.
abbrev pub faulty_line_text : FaultyLine → List ℕ
faulty_line_text l = codes "line " ++ (decimal l.number ++ (codes ": " ++ complaint_text l.complaint))
