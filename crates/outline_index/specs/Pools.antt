-- One room for the parts of all rings: the parts one after the other, and zeros behind them.
use Rattle.std.specs.Prelude.{ℕ, zero, suc, List, [], ◌++◌, Bool, true, ◌&&◌}
use Rattle.room.specs.Room.{padded}

module _ {A : Type 0} where
  -- f 0, f 1, .. up to f (m - 1)
  unfoldable pub in_turn : (ℕ → List A) → ℕ → List A
  in_turn f zero = []
  in_turn f (suc m) = in_turn f m ++ f m

  -- Room for n of which xs is the used part; z is the zero of its numbers. 01: "After success, output past the used part is zero".
  abbrev pub pad_with : A → ℕ → List A → List A
  pad_with z n xs = padded z n xs

-- the test holds of each number below m
unfoldable pub every : (ℕ → Bool) → ℕ → Bool
every t zero = true
every t (suc m) = every t m && t m
