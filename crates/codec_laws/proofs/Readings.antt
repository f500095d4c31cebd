-- The formats at their limits.
use Rattle.std.proofs.Common.{◌≡◌, ℕ, ◌≤◌, List, length, Ok, Err, sym, refl, arith}
use Rattle.codec.specs.Times.{Stamp}
use Rattle.codec.specs.Records.{frame, encode, write_answer}
use Rattle.codec_laws.specs.Laws.{ReadingsAtTheLimits}
use Rattle.codec.specs.declared.record.Quality.{Quality}
use Rattle.codec.specs.declared.record.WriteRefusal.TheVariants.{DataLength}
use Rattle.codec.proofs.RecordsWritten.{frame_length}
use Rattle.codec.proofs.Writing.{fits, frame_writable}

longest_data_lem : (q : Quality) (t : Stamp) (d : List ℕ) → length d ≡ 2048 → (room : ℕ) → 2061 ≤ room → write_answer room (frame q t d) ≡ Ok 2061
longest_data_lem q t d e room h =
    sym (fits room 2061 (frame q t d) (frame_writable q t d (omega arith) (omega arith)) (omega (arith, frame_length q t d)) h)

data_beyond_lem : (q : Quality) (t : Stamp) (d : List ℕ) → length d ≡ 2049 → (room : ℕ) → write_answer room (frame q t d) ≡ Err DataLength
data_beyond_lem q t d e room = rw e

pub readings_at_the_limits : ReadingsAtTheLimits
unfolding encode
readings_at_the_limits = record {
  short_frame = refl;
  end_of_data_octets = refl;
  last_time = λ d. refl;
  millisecond_beyond = λ d us. refl;
  microsecond_beyond = λ d. refl;
  longest_data = longest_data_lem;
  no_data = λ q t room. refl;
  data_beyond = data_beyond_lem;
}
