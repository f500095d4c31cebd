-- Records in slots of one width, with a note of each.
use Rattle.std.specs.Prelude.{ℕ, ◌/◌, min, Bool, cond, ◌&&◌, List, [], ◌∷◌, length, take, drop, nat_lt}
use Rattle.queue.specs.Answers.{Answer, gives, refuses, fair, length_limit}
use Rattle.slot.specs.declared.note.SlotNote.{SlotNote}

-- The record that a note tells of, among these octets.
abbrev pub noted : List ℕ → SlotNote → List ℕ
noted octets n = take n.length (drop n.place octets)

-- The oldest note; where there is none, that is refused with 30.
abbrev pub oldest_note : List SlotNote → Answer SlotNote
oldest_note [] = refuses 30
oldest_note (n ∷ ns) = gives n

-- How many slots there are, of this many notes and octets and this width.
abbrev pub slots_of : ℕ → ℕ → ℕ → ℕ
slots_of notes octets width = cond (nat_lt 0 width) (min notes (octets / width)) 0

-- The largest length of a queue of this many slots of this width.
abbrev pub slot_largest : ℕ → ℕ → ℕ
slot_largest slots width = cond (nat_lt 0 slots) (min width length_limit) 0

-- Room for a record of n octets where this many records are held.
abbrev pub room_beside : ℕ → ℕ → ℕ → ℕ → Bool
room_beside slots width count n = fair (slot_largest slots width) n && nat_lt count slots

-- Room for a record of n octets beside those held.
abbrev pub slot_room : ℕ → ℕ → List (List ℕ) → ℕ → Bool
slot_room slots width held n = room_beside slots width (length held) n
