-- What is tested of a record's content is what is defined of the record.
use Rattle.std.proofs.Common.{◌≡◌, arith}
use Rattle.codec.specs.Records.{Record}
use Rattle.codec.specs.RecordReading.{content_of}
use Rattle.histories.specs.Sessions.{Selection, late, selected}
use Rattle.provider.specs.Selections.{late_content, selected_content}

pub late_is : (s : Selection) (r : Record) → late_content s (content_of r) ≡ late s r
unfolding late
late_is s r = grind arith

pub selected_is : (s : Selection) (r : Record) → selected_content s (content_of r) ≡ selected s r
unfolding selected
selected_is s r = grind arith
