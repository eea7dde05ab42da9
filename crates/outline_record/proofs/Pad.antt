-- Zeros behind the used part of a record. Assumes nothing.
use Rattle.std.specs.Prelude.{Ok, Err}
use Prim.Native.Nat.{ℕ, ◌+◌, ◌*◌, ◌≤◌, ◌<◌}
use mathlib.Core.Path.{◌≡◌, ap, ◌∙◌}
use mathlib.Core.List.{List}
use native.Mathlib.Omega.{arith}
use lib.ListN.{length, take, drop, replicate}
use lib.Seq.{take_at}
use lib.IntN.{ℤ, pos}
use Rattle.room.specs.Room.{write}
use Rattle.room.proofs.Write.{write_eq, write_length}
use borrow.Author.Tests.{le-leb, lt-leb}
use Rattle.answers.specs.declared.Refusal.TheVariants.{NoRoom}
use Rattle.outline_check.specs.Outline.{rings}
use Rattle.outline_record.specs.Record.{boxes_of}
use Rattle.outline_record.specs.Made.{pad_z, recorded}

-- a list written at the front, and zeros behind it
pub pad_written : (l xs : List ℤ) (n : ℕ) → length xs ≡ n → n ≤ length l → pad_z (length l) (take n (write l 0 xs)) ≡ pad_z (length l) xs
pad_written l xs n e h =
    ap (pad_z (length l)) (ap (take n) (write_eq l 0 xs (omega arith)) ∙ take_at xs (drop (0 + length xs) l) n e)

-- what stands after the boxes are written and the rest is filled
pub written_padded : (boxes mid xs : List ℤ) (n : ℕ) → mid ≡ write boxes 0 xs → length xs ≡ n → n ≤ length boxes
    → pad_z (length mid) (take n mid) ≡ pad_z (length boxes) xs
written_padded boxes mid xs n w e h =
    ap (λ (m : List ℤ). pad_z (length m) (take n m)) w
    ∙ ap (λ (k : ℕ). pad_z k (take n (write boxes 0 xs))) (write_length boxes 0 xs)
    ∙ pad_written boxes xs n e h

module _ (sizes : List ℕ) (coords boxes : List ℤ) where
  pub recorded_fits : 4 * rings sizes ≤ length boxes → recorded sizes coords boxes ≡ (Ok (rings sizes), pad_z (length boxes) (boxes_of sizes coords))
  unfolding recorded
  recorded_fits h = rw (le-leb (4 * rings sizes) (length boxes) h)

  pub recorded_short : length boxes < 4 * rings sizes → recorded sizes coords boxes ≡ (Err NoRoom, replicate (length boxes) (pos 0))
  unfolding recorded
  recorded_short h = rw (lt-leb (4 * rings sizes) (length boxes) h)
