-- What a record that is carried leaves in the buffer.
use Rattle.std.proofs.Common.{◌≡◌, ℕ, ◌-◌, ◌≤◌, List, ◌∷◌, ◌++◌, length, take, drop, arith}
use Rattle.std.proofs.lemmas.List.{take_all}
use Rattle.queue.specs.Answers.{read_buffer}

-- a buffer that is long enough begins with the whole record
pub read_whole : (r : List ℕ) (rs : List (List ℕ)) (buffer : List ℕ) → length r ≤ length buffer → read_buffer (r ∷ rs) 0 buffer ≡ r ++ drop (length r) buffer
read_whole r rs buffer h =
    let all : take (length buffer) r ≡ r = take_all (length buffer) r h in
    let none : length r - 0 ≡ length r = omega arith in
    rw (all, none)
