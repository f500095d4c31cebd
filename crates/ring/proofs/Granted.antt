-- What the calls leave where they are not refused. Assumes nothing.
use Rattle.std.proofs.Common.{◌≡◌, ℕ, ◌+◌, ◌≤◌, List, ◌++◌, length, take, drop}
use Rattle.std.proofs.lemmas.Bool.{le-leb}
use Rattle.ring.specs.Parts.{written, part_written, part_read}
use Rattle.ring.specs.Rings.{added, dropped}

module _ {X : Type 0} where
  pub added_whole : (held : List X) (most : ℕ) (run : List X) → length held + length run ≤ most → added held most run ≡ held ++ run
  added_whole held most run h = let t = le-leb (length held + length run) most h in rw t

  pub dropped_whole : (held : List X) (n : ℕ) → n ≤ length held → dropped held n ≡ drop n held
  dropped_whole held n h = let t = le-leb n (length held) h in rw t

  pub read_within : (xs : List X) (at : ℕ) (out : List X) → at + length out ≤ length xs → part_read xs at out ≡ take (length out) (drop at xs)
  read_within xs at out h = let t = le-leb (at + length out) (length xs) h in rw t

  pub written_within : (xs : List X) (at : ℕ) (run : List X) → at + length run ≤ length xs → part_written xs at run ≡ written xs at run
  written_within xs at run h = let t = le-leb (at + length run) (length xs) h in rw t
