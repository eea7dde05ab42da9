-- 01, "The packed tree": "stayers are its own, each non-empty quadrant is a child". What arrives at a node that splits, shared out in place.
use Rattle.std.specs.Prelude.{ℕ, ◌+◌, ◌*◌, ◌<◌, List, ◌++◌, length, Float}
use Rattle.boxes.specs.declared.Rect.{Rect}
use Rattle.tree.specs.Tree.{stayers, goers, for_each_quadrant}
use Rattle.tree_part.specs.declared.Shares.{Shares}

-- a segment that a ring of so many numbers has, and one of the 4,096 that a ring may have
abbrev pub Readable : ℕ → ℕ → Type 0
Readable long i = (i * 2 + 3 < long) × (i < 4096)

-- how many stay, and how many go to each quadrant
unfoldable pub shares_of : (ℕ → Float) → Rect → List ℕ → Shares
shares_of ring box xs =
    record {
      own = length (stayers ring box xs);
      nw = length (goers ring box 0 xs);
      ne = length (goers ring box 1 xs);
      sw = length (goers ring box 2 xs);
      se = length (goers ring box 3 xs);
    }

-- the stayers, then those that go to quadrant 0, 1, 2 and 3, each in the order in which they arrived
unfoldable pub parts_of : (ℕ → Float) → Rect → List ℕ → List ℕ
parts_of ring box xs = stayers ring box xs ++ for_each_quadrant (λ q. goers ring box q xs)

abbrev pub shared_out : (ℕ → Float) → Rect → List ℕ → Shares × List ℕ
shared_out ring box xs = (shares_of ring box xs, parts_of ring box xs)
