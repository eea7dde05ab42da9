-- What "on" means: p lies on the closed segment from a to b.
use Rattle.std.specs.Prelude.{ℕ, ◌<◌, ◌≤◌, ◌≡◌, ℤ, pos, ◌-ℤ◌, ◌*ℤ◌}

-- p is `part` of `parts` equal steps from a on the way to b, for some whole numbers 0 ≤ part ≤ parts, parts above 0:
-- parts (p - a) = part (b - a) in both coordinates
pub record LiesOn (ax ay bx by px py : ℤ) : Type 0 where
  pub part : ℕ
  pub parts : ℕ
  pub some : 0 < parts
  pub within : part ≤ parts
  pub across : pos parts *ℤ (px -ℤ ax) ≡ pos part *ℤ (bx -ℤ ax)
  pub along : pos parts *ℤ (py -ℤ ay) ≡ pos part *ℤ (by -ℤ ay)
