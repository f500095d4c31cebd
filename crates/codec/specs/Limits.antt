-- The limits of the formats, each named once.
use Rattle.std.specs.Prelude.{ℕ, ◌+◌}

-- The last day that two octets can count.
abbrev pub day_limit : ℕ
day_limit = 65535

-- The last millisecond of a day.
abbrev pub millisecond_limit : ℕ
millisecond_limit = 86399999

-- The last microsecond of a millisecond.
abbrev pub microsecond_limit : ℕ
microsecond_limit = 999

-- How many octets a time has.
abbrev pub time_length : ℕ
time_length = 8

-- The longest data of a frame; the shortest is one octet.
abbrev pub data_limit : ℕ
data_limit = 2048

-- A frame before its data: mark, quality, time, data length.
abbrev pub frame_header_length : ℕ
frame_header_length = 5 + time_length

-- A notification: mark, type, time, value.
abbrev pub notification_length : ℕ
notification_length = 4 + time_length

-- A frame with the longest data.
abbrev pub longest_record : ℕ
longest_record = frame_header_length + data_limit

-- The shortest identifier, and the longest.
abbrev pub shortest_identifier : ℕ
shortest_identifier = 3

abbrev pub longest_identifier : ℕ
longest_identifier = 16

-- The greatest number that one octet, and that two octets, can say.
abbrev pub octet_limit : ℕ
octet_limit = 255

abbrev pub two_octet_limit : ℕ
two_octet_limit = 65535
