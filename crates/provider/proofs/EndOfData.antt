-- An end of data that was written into a buffer of its length is that record.
use Rattle.std.proofs.Common.{◌≡◌, ℕ, List, [], ◌++◌, length, drop, Some, Ok, Result, ap, ◌∙◌, append-nil, arith}
use Rattle.std.proofs.lemmas.List.{drop_all}
use Rattle.std.proofs.lemmas.Bool.{le-leb}
use Rattle.codec.specs.Records.{end_of_data, encode, write_answer, buffer_after}
use Rattle.codec.specs.RecordReading.{one_record}
use Rattle.codec.specs.declared.record.WriteRefusal.{WriteRefusal}
use Rattle.codec.proofs.RecordsWritten.{end_length}
use Rattle.codec_laws.proofs.OneRecord.{one_record_written}

pub end_written : (out out' : List ℕ) (a : Result ℕ WriteRefusal) → length out ≡ 12 → a ≡ write_answer (length out) end_of_data → out' ≡ buffer_after out end_of_data a → one_record out' ≡ Some end_of_data
end_written out out' a size answered after =
    let fits = le-leb (length (encode end_of_data)) (length out) (omega (arith, end_length)) in
    let ok : a ≡ Ok (length (encode end_of_data)) = answered ∙ rw fits in
    let none : drop (length (encode end_of_data)) out ≡ [] = drop_all (length (encode end_of_data)) out (omega (arith, end_length)) in
    let is : out' ≡ encode end_of_data = after ∙ ap (buffer_after out end_of_data) ok ∙ ap (λ q. encode end_of_data ++ q) none ∙ append-nil (encode end_of_data) in
    ap one_record is ∙ one_record_written end_of_data tt
