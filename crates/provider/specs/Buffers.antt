-- What the octets of a transfer buffer stand for.
use Rattle.std.specs.Prelude.{ℕ, ◌*◌, Bool, true, false, ◌&&◌, List, [], ◌∷◌, length, take, Some, None, Ok, Err, filter, Option, Result}
use Rattle.codec.specs.declared.fault.Fault.{Fault}
use Rattle.codec.specs.Limits.{longest_record}
use Rattle.codec.specs.Times.{timely}
use Rattle.codec.specs.Records.{Record, frame, loss, status, end_of_data, data_length_allowed}
use Rattle.codec.specs.RecordReading.{Content, frame_content, loss_content, status_content, end_content, records_in}
use Rattle.histories.specs.Invocations.{is_accepted}
use Rattle.histories.specs.Provider.{most_records}

-- The octets of a transfer buffer: as many as the most records of the longest kind have.
abbrev pub buffer_octets : ℕ
buffer_octets = most_records * longest_record

abbrev pub records_or_none : Result (List Record) Fault → List Record
records_or_none (Ok rs) = rs
records_or_none (Err f) = []

-- The records that the first n octets are.
abbrev pub records_held : List ℕ → ℕ → List Record
records_held octets n = records_or_none (records_in (take n octets))

-- Whether records are well formed.
abbrev pub well_formed : Record → Bool
well_formed (frame q t d) = timely t && data_length_allowed (length d)
well_formed (loss t) = timely t
well_formed (status v) = true
well_formed end_of_data = true

abbrev pub all_well_formed : List Record → Bool
all_well_formed [] = true
all_well_formed (r ∷ rs) = well_formed r && all_well_formed rs

-- How many of the records were accepted from the receiver.
abbrev pub accepted_count : List Record → ℕ
accepted_count rs = length (filter is_accepted rs)

-- Whether a record of this content was accepted from the receiver.
abbrev pub accepted_content : Content → Bool
accepted_content (frame_content q t n) = true
accepted_content (loss_content t) = true
accepted_content (status_content v) = true
accepted_content end_content = false

abbrev pub record_list : Option Record → List Record
record_list None = []
record_list (Some r) = r ∷ []
